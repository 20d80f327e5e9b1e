-- The values of a frame's variables, by what they are bound to.
use Rattle.std.proofs.Common.{◌≡◌, ℕ, suc, ◌==◌, true, false, List, [], ◌∷◌, map, find, zip, slice_get, Option, Some, None, refl, sym, ap, ◌∙◌, inl, inr, arith}
use Rattle.std.proofs.lemmas.Bool.{cases_Bool}
use Rattle.std.specs.List.{AllByRecursion}
use Rattle.std.specs.Option.{option_map_or}
use Rattle.mm_base.specs.declared.symbols.Sym.{Sym}
use Rattle.mm_base.specs.declared.symbols.Typecode.{Typecode}
use Rattle.mm_base.specs.declared.tree.Tree.{Tree}
use Rattle.mm_base.specs.declared.tree.Tree.TheVariants.{Work, outs-Work}
use Rattle.mm_base.specs.Trees.{code_of, layer_code}
use Rattle.mm_model.specs.Chains.{same_code}
use Rattle.mm_model.specs.Names.{typecode, sym as symbol_of}
use Rattle.mm_model.specs.Productions.{TypedVariable}
use Rattle.mm_model.specs.BookFacts.{VariablesDiffer}
use Rattle.solve_model.specs.Trees.{variables}
use Rattle.solve_model.proofs.TreeLaws.{variables-Work}
use Rattle.written_model.specs.WrittenSteps.{no_tree}
use Rattle.ref_search.specs.Matching.{Binding, bound_to, is_among, Agrees, AreBound, IsOver}
use Rattle.ref_search.specs.Completing.{coded, value_for, with_value, values_for}
use Rattle.ref_search.proofs.Lists.{same_sym, self_number, codes_same, all_both}
use Rattle.ref_search.proofs.MatchLaws.{agrees_bound}
use Rattle.ref_search.proofs.PairLaws.{IsSameOrNone}

-- the value of a symbol, by variables and values as lists
abbrev pub value_in : List TypedVariable → List Tree → Sym → Tree
value_in vars values s = option_map_or (λ p. p.1) (find (λ (p : TypedVariable × Tree). p.0.sym.0 == s.0) (zip vars values)) no_tree

abbrev pub symbols : List TypedVariable → List Sym
symbols vars = map (λ (v : TypedVariable). v.sym) vars

pub no_variables : variables no_tree ≡ []
no_variables = variables-Work (typecode (symbol_of 0)) 0

-- ---- one value

coded_some : (c : Typecode) (t h : Tree) → coded c (Some t) ≡ Some h → h ≡ t
coded_some c t h e = elim (cases_Bool (same_code (code_of t) c)) [
  | inl is ↦ let f : Some t ≡ Some h = rw is at e in cc
  | inr not ↦ let f : None ≡ Some h = rw not at e in absurd (cc)
]

coded_none : (c : Typecode) (h : Tree) → coded c None ≡ Some h → h ≡ Work c 0
coded_none c h e = cc

coded_code : (c : Typecode) (o : Option Tree) (h : Tree) → coded c o ≡ Some h → code_of h ≡ c
coded_code c None h e = ap code_of (coded_none c h e) ∙ ap layer_code (outs-Work c 0)
coded_code c (Some t) h e = elim (cases_Bool (same_code (code_of t) c)) [
  | inl is ↦ let f : Some t ≡ Some h = rw is at e in let g : h ≡ t = cc in ap code_of g ∙ codes_same (code_of t) c is
  | inr not ↦ let f : None ≡ Some h = rw not at e in absurd (cc)
]

self_code : (c : Typecode) → same_code c c ≡ true
self_code c = self_number c.0.0

code_coded : (c : Typecode) (o : Option Tree) → ((t : Tree) → o ≡ Some t → code_of t ≡ c) → (h : Tree) × (coded c o ≡ Some h)
code_coded c None f = (Work c 0, refl)
code_coded c (Some t) f = (t, let e : same_code (code_of t) c ≡ true = ap (λ d. same_code d c) (f t refl) ∙ self_code c in rw e refl)

-- ---- all values

record Parted (bs : List Binding) (v : TypedVariable) (vs : List TypedVariable) (trees : List Tree) : Type 0 where
  head : Tree
  rest : List Tree
  head_is : value_for bs v ≡ Some head
  rest_is : values_for bs vs ≡ Some rest
  trees_are : trees ≡ head ∷ rest

parted : (bs : List Binding) (v : TypedVariable) (vs : List TypedVariable) (trees : List Tree) → values_for bs (v ∷ vs) ≡ Some trees → Parted bs v vs trees
parted bs v vs trees e = by (value_for bs v) (values_for bs vs) refl refl e
  where
    by : (o : Option Tree) (p : Option (List Tree)) → value_for bs v ≡ o → values_for bs vs ≡ p → with_value o p ≡ Some trees → Parted bs v vs trees
    by None p x y f = absurd (cc)
    by (Some t) None x y f = absurd (cc)
    by (Some t) (Some ts) x y f = record { head = t; rest = ts; head_is = x; rest_is = y; trees_are = let g : Some (t ∷ ts) ≡ Some trees = f in cc }

value_first : (v : TypedVariable) (vs : List TypedVariable) (t : Tree) (ts : List Tree) (s : Sym) → (v.sym.0 == s.0) ≡ true → value_in (v ∷ vs) (t ∷ ts) s ≡ t
value_first v vs t ts s e = rw e refl

value_later : (v : TypedVariable) (vs : List TypedVariable) (t : Tree) (ts : List Tree) (s : Sym) → (v.sym.0 == s.0) ≡ false → value_in (v ∷ vs) (t ∷ ts) s ≡ value_in vs ts s
value_later v vs t ts s e = rw e refl

pub bound_value : (vs : List TypedVariable) (trees : List Tree) (bs : List Binding) (s : Sym) (t : Tree) → values_for bs vs ≡ Some trees → is_among (symbols vs) s ≡ true → bound_to bs s ≡ Some t
    → value_in vs trees s ≡ t
bound_value [] trees bs s t e h b = absurd (cc)
bound_value (v ∷ vs) trees bs s t e h b =
    let p = parted bs v vs trees e in
    ap (λ ts. value_in (v ∷ vs) ts s) p.trees_are ∙ elim (cases_Bool (v.sym.0 == s.0)) [
      | inl is ↦
          let here : coded v.code (Some t) ≡ Some p.head = ap (coded v.code) (sym b) ∙ ap (λ x. value_for bs (record v { sym = x })) (sym (same_sym v.sym s is)) ∙ p.head_is in
          value_first v vs p.head p.rest s is ∙ coded_some v.code t p.head here
      | inr not ↦ value_later v vs p.head p.rest s not ∙ bound_value vs p.rest bs s t p.rest_is (rw not at h) b
    ]

pub unbound_value : (vs : List TypedVariable) (trees : List Tree) (bs : List Binding) (s : Sym) → values_for bs vs ≡ Some trees → bound_to bs s ≡ None → variables (value_in vs trees s) ≡ []
unbound_value [] trees bs s e b = no_variables
unbound_value (v ∷ vs) trees bs s e b =
    let p = parted bs v vs trees e in
    ap (λ ts. variables (value_in (v ∷ vs) ts s)) p.trees_are ∙ elim (cases_Bool (v.sym.0 == s.0)) [
      | inl is ↦
          let here : coded v.code None ≡ Some p.head = ap (coded v.code) (sym b) ∙ ap (λ x. value_for bs (record v { sym = x })) (sym (same_sym v.sym s is)) ∙ p.head_is in
          ap variables (value_first v vs p.head p.rest s is ∙ coded_none v.code p.head here) ∙ variables-Work v.code 0
      | inr not ↦ ap variables (value_later v vs p.head p.rest s not) ∙ unbound_value vs p.rest bs s p.rest_is b
    ]

pub value_codes : (vs : List TypedVariable) (trees : List Tree) (bs : List Binding) → values_for bs vs ≡ Some trees → map code_of trees ≡ map (λ (v : TypedVariable). v.code) vs
value_codes [] trees bs e = let f : trees ≡ [] = cc in ap (map code_of) f
value_codes (v ∷ vs) trees bs e =
    let p = parted bs v vs trees e in
    ap (map code_of) p.trees_are ∙ ap (λ c. c ∷ map code_of p.rest) (coded_code v.code (bound_to bs v.sym) p.head p.head_is) ∙ ap (λ cs. v.code ∷ cs) (value_codes vs p.rest bs p.rest_is)

pub values_agree : (vs : List TypedVariable) (trees : List Tree) (bs : List Binding) → AreBound (symbols vs) bs → values_for bs vs ≡ Some trees → Agrees (value_in vs trees) bs
values_agree vs trees bs h e = record {
  each = all_both (λ (b : Binding). bound_to bs b.0 ≡ Some b.1.now) (λ (b : Binding). is_among (symbols vs) b.0 ≡ true) (λ (b : Binding). value_in vs trees b.0 ≡ b.1.now)
      (λ b x y. bound_value vs trees bs b.0 b.1.now e y x) bs h.once h.among;
}

-- no other symbol has a value
pub values_over : (vs : List TypedVariable) (trees : List Tree) → IsOver (symbols vs) (value_in vs trees)
values_over [] trees s h = refl
values_over (v ∷ vs) [] s h = refl
values_over (v ∷ vs) (t ∷ ts) s h = elim (cases_Bool (v.sym.0 == s.0)) [
  | inl is ↦ let wrong : true ≡ false = rw is at h in absurd (cc)
  | inr not ↦ value_later v vs t ts s not ∙ values_over vs ts s (rw not at h)
]

-- ---- other values that agree

later_differ : (v : TypedVariable) (vs : List TypedVariable) → VariablesDiffer (v ∷ vs) → VariablesDiffer vs
later_differ v vs d i j x y p q e = let s : suc i ≡ suc j = d (suc i) (suc j) x y p q e in omega (arith, s)

first_differs : (v : TypedVariable) (vs : List TypedVariable) → VariablesDiffer (v ∷ vs) → AllByRecursion (λ (x : TypedVariable). (v.sym.0 == x.sym.0) ≡ false) vs
first_differs v vs d = by vs (λ j x q e. let s : 0 ≡ suc j = d 0 (suc j) v x refl q e in omega (arith, s))
  where
    by : (xs : List TypedVariable) → ((j : ℕ) (x : TypedVariable) → slice_get xs j ≡ Some x → v.sym ≡ x.sym → ⊥) → AllByRecursion (λ (x : TypedVariable). (v.sym.0 == x.sym.0) ≡ false) xs
    by [] f = tt
    by (x ∷ xs) f = (
      elim (cases_Bool (v.sym.0 == x.sym.0)) [ inl is ↦ absurd (f 0 x refl (same_sym v.sym x.sym is)) | inr not ↦ not ],
      by xs (λ j y q e. f (suc j) y q e),
    )

coded_values : (vs : List TypedVariable) (ws : List Tree) → VariablesDiffer vs → map code_of ws ≡ map (λ (v : TypedVariable). v.code) vs
    → AllByRecursion (λ (v : TypedVariable). code_of (value_in vs ws v.sym) ≡ v.code) vs
coded_values [] ws d e = tt
coded_values (v ∷ vs) [] d e = absurd (cc)
coded_values (v ∷ vs) (w ∷ ws) d e =
    let head : code_of w ≡ v.code = cc in
    let rest : map code_of ws ≡ map (λ (x : TypedVariable). x.code) vs = cc in (
      ap code_of (value_first v vs w ws v.sym (self_number v.sym.0)) ∙ head,
      all_both (λ (x : TypedVariable). (v.sym.0 == x.sym.0) ≡ false) (λ (x : TypedVariable). code_of (value_in vs ws x.sym) ≡ x.code)
          (λ (x : TypedVariable). code_of (value_in (v ∷ vs) (w ∷ ws) x.sym) ≡ x.code)
          (λ x a b. ap code_of (value_later v vs w ws x.sym a) ∙ b) vs (first_differs v vs d) (coded_values vs ws (later_differ v vs d) rest),
    )

some_values : (f : Sym → Tree) (bs : List Binding) (vs : List TypedVariable) → Agrees f bs → AllByRecursion (λ (v : TypedVariable). code_of (f v.sym) ≡ v.code) vs
    → (trees : List Tree) × (values_for bs vs ≡ Some trees)
some_values f bs [] a h = ([], refl)
some_values f bs (v ∷ vs) a h =
    let here = code_coded v.code (bound_to bs v.sym) (λ t e. ap code_of (sym (agrees_bound f bs v.sym t a.each e)) ∙ h.0) in
    let rest = some_values f bs vs a h.1 in
    (here.0 ∷ rest.0, ap (λ o. with_value o (values_for bs vs)) here.1 ∙ ap (with_value (Some here.0)) rest.1)

module _ (vs : List TypedVariable) (bs : List Binding) (ws : List Tree) (differ : VariablesDiffer vs)
    (codes : map code_of ws ≡ map (λ (v : TypedVariable). v.code) vs) (agrees : Agrees (value_in vs ws) bs) where
  pub values_exist : (trees : List Tree) × (values_for bs vs ≡ Some trees)
  values_exist = some_values (value_in vs ws) bs vs agrees (coded_values vs ws differ codes)

  pub same_or_none : (trees : List Tree) → values_for bs vs ≡ Some trees → (s : Sym) → IsSameOrNone (variables (value_in vs trees s)) (variables (value_in vs ws s))
  same_or_none trees e s = elim (cases_Bool (is_among (symbols vs) s)) [
    | inr not ↦ inr (ap variables (values_over vs trees s not) ∙ no_variables)
    | inl is ↦ by (bound_to bs s) refl is
  ]
    where
      by : (o : Option Tree) → bound_to bs s ≡ o → is_among (symbols vs) s ≡ true → IsSameOrNone (variables (value_in vs trees s)) (variables (value_in vs ws s))
      by None b is = inr (unbound_value vs trees bs s e b)
      by (Some t) b is = inl (ap variables (bound_value vs trees bs s t e is b ∙ sym (agrees_bound (value_in vs ws) bs s t agrees.each b)))
