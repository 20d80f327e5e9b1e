-- A store that grows by free nodes for a candidate's copies of variables.
use Rattle.std.specs.Prelude.{◌≡◌, ℕ, ◌<◌, ◌≤◌, ◌+◌, ◌-◌, ◌==◌, ◌&&◌, ◌⊎◌, Bool, true, false, List, [], ◌∷◌, ◌++◌, length, map, find, Option, Some}
use Rattle.std.specs.Prelude.{None, option_map, nat_lt, Contains, refl}
use Rattle.std.specs.List.{AllByRecursion}
use Rattle.std.proofs.Common.{zero, suc, get_or, sym, ap, subst, ◌∙◌, arith, inl, inr, cond}
use Rattle.std.proofs.lemmas.Bool.{cases_lt}
use Rattle.std.proofs.lemmas.Bool.Decides.{nat_tests}
use Rattle.std.proofs.lemmas.List.{length-append, length-map, get_or-map}
use Rattle.std.proofs.lemmas.List.Elements.{Contains-append_left, Contains-append_right, Contains-append_cases}
use Rattle.mm_base.specs.declared.symbols.Sym.{Sym}
use Rattle.mm_base.specs.declared.symbols.Label.{Label}
use Rattle.mm_base.specs.declared.symbols.Typecode.{Typecode}
use Rattle.mm_model.specs.Productions.{TypedVariable}
use Rattle.mm_model.specs.Book.{Database, Assertion}
use Rattle.sheet_text.specs.declared.sheet.Given.{Given}
use Rattle.solve_model.specs.declared.bound.Bound.{Bound}
use Rattle.solve_model.specs.Solutions.{Unknown, named, blank, copy, IsUnknown, in_formula, is_blank, in_frame, Asked}
use Rattle.solve_model.specs.Verdicts.{asked}
use Rattle.term_model.specs.declared.shape.Id.{Id}
use Rattle.term_model.specs.Terms.{Term, Node, term_at, children_of}
use Rattle.term_model.specs.Store.{IsStore}
use Rattle.chain_laws.specs.declared.leaves.VariableNode.{VariableNode}
use Rattle.chain_laws.specs.Adding.{is_variable, variable_at, numbered, free_of, AreApart}
use Rattle.chain_laws.specs.Layout.{Layout, HasNode, HasUnknown, IsLaidOut, IsTypedTerm}
use Rattle.chain_laws.proofs.LeastLeaves.{first, nothing}
use Rattle.chain_laws.proofs.Listed.{parted}
use Rattle.chain_laws.proofs.Grown.{term_front, codes_front}

-- ---- the node of a variable

abbrev pub variable_with : Sym → Typecode → TypedVariable
variable_with s c = record { sym = s; code = c }

abbrev sym_with : ℕ → Sym
sym_with n = record { 0 = n }

abbrev code_with : ℕ → Typecode
code_with n = record { 0 = record { 0 = n } }

both : (a b : Bool) → (a && b) ≡ true → (a ≡ true) × (b ≡ true)
both true b e = (refl, e)
both false b e = absurd (cc)

pub same_variable : (s : Sym) (c : Typecode) (v : VariableNode) → is_variable s c v ≡ true → variable_with v.sym v.code ≡ variable_with s c
same_variable s c v e =
    let parts = both (v.sym.0 == s.0) (v.code.0.0 == c.0.0) e in
    let one : v.sym.0 ≡ s.0 = grind (arith, nat_tests, parts.0) in
    let two : v.code.0.0 ≡ c.0.0 = grind (arith, nat_tests, parts.1) in
    ap (λ (n : ℕ). variable_with (sym_with n) v.code) one ∙ ap (λ (n : ℕ). variable_with s (code_with n)) two

pub self_variable : (s : Sym) (c : Typecode) (n : ℕ) → is_variable s c (record { sym = s; code = c; node = n }) ≡ true
self_variable s c n =
    let one : (s.0 == s.0) ≡ true = grind (arith, nat_tests) in
    let two : (c.0.0 == c.0.0) ≡ true = grind (arith, nat_tests) in
    rw (one, two) refl

-- where a variable stands, and its node
pub record Found (n : ℕ) (vars : List TypedVariable) (s : Sym) (c : Typecode) : Type 0 where
  pub place : ℕ
  pub below : place < length vars
  pub at : (d : TypedVariable) → get_or vars place d ≡ variable_with s c
  pub node : variable_at (numbered n vars) s c ≡ Some (n + place)

found_by : (n : ℕ) (v : TypedVariable) (vs : List TypedVariable) (s : Sym) (c : Typecode) (b : Bool)
    → is_variable s c (record { sym = v.sym; code = v.code; node = n }) ≡ b → (v ≡ variable_with s c) ⊎ Contains vs (variable_with s c)
    → (Contains vs (variable_with s c) → Found (n + 1) vs s c)
    → (place : ℕ) × (place < length (v ∷ vs)) × ((d : TypedVariable) → get_or (v ∷ vs) place d ≡ variable_with s c)
    × (option_map (λ (w : VariableNode). w.node) (cond b (Some (record { sym = v.sym; code = v.code; node = n })) (find (is_variable s c) (numbered (n + 1) vs))) ≡ Some (n + place))
found_by n v vs s c true e h rest =
    let here : n ≡ n + 0 = omega arith in
    (0, omega arith, λ d. same_variable s c (record { sym = v.sym; code = v.code; node = n }) e, ap (λ (k : ℕ). Some k) here)
found_by n v vs s c false e (inl same) rest =
    let yes : is_variable s c (record { sym = v.sym; code = v.code; node = n }) ≡ true =
    ap (λ (w : TypedVariable). is_variable s c (record { sym = w.sym; code = w.code; node = n })) same ∙ self_variable s c n in
    absurd (cc)
found_by n v vs s c false e (inr h) rest =
    let told = rest h in
    let number : n + 1 + told.place ≡ n + suc told.place = omega arith in
    (suc told.place, omega (arith, told.below), λ d. told.at d, told.node ∙ ap (λ (k : ℕ). Some k) number)

pub found : (n : ℕ) (vars : List TypedVariable) (s : Sym) (c : Typecode) → Contains vars (variable_with s c) → Found n vars s c
found n [] s c h = absurd (nothing _ h)
found n (v ∷ vs) s c h =
    let told = found_by n v vs s c (is_variable s c (record { sym = v.sym; code = v.code; node = n })) refl (parted (variable_with s c) v vs h) (λ g. found (n + 1) vs s c g) in
    record { place = told.0; below = told.1; at = told.2; node = told.3 }

-- of variables that are apart, one stands at one place
one_place : (vars : List TypedVariable) (j k : ℕ) (v : TypedVariable) → AreApart vars → j < length vars → k < length vars → get_or vars j v ≡ v → get_or vars k v ≡ v → j ≡ k
one_place [] j k v apart h g e f = absurd (omega (arith, h))
one_place (w ∷ vs) zero zero v apart h g e f = refl
one_place (w ∷ vs) zero (suc k) v apart h g e f = absurd (apart.0 (subst (Contains vs) (sym e) (k, omega (arith, g), f)))
one_place (w ∷ vs) (suc j) zero v apart h g e f = absurd (apart.0 (subst (Contains vs) (sym f) (j, omega (arith, h), e)))
one_place (w ∷ vs) (suc j) (suc k) v apart h g e f = let rest = one_place vs j k v apart.1 (omega (arith, h)) (omega (arith, g)) e f in ap suc rest

default_same : (vars : List TypedVariable) (k : ℕ) (d e : TypedVariable) → k < length vars → get_or vars k d ≡ get_or vars k e
default_same [] k d e h = absurd (omega (arith, h))
default_same (v ∷ vs) zero d e h = refl
default_same (v ∷ vs) (suc k) d e h = default_same vs k d e (omega (arith, h))

-- ---- the layout with the copies of the step of a number

abbrev no_variable : TypedVariable
no_variable = variable_with (sym_with 0) (code_with 0)

abbrev node_or : ℕ → Option ℕ → ℕ
node_or d None = d
node_or d (Some k) = k

abbrev copy_node : ℕ → List TypedVariable → Layout → ℕ → Sym → Typecode → Bool → ℕ
copy_node n vars lay j s c true = node_or (lay.node_of (copy j s c)) (variable_at (numbered n vars) s c)
copy_node n vars lay j s c false = lay.node_of (copy j s c)

abbrev copied_node : ℕ → ℕ → List TypedVariable → Layout → Unknown → ℕ
copied_node n i vars lay (named c m) = lay.node_of (named c m)
copied_node n i vars lay (blank m) = lay.node_of (blank m)
copied_node n i vars lay (copy j s c) = copy_node n vars lay j s c (j == i)

abbrev copied_unknown : ℕ → ℕ → List TypedVariable → Layout → ℕ → Bool → Unknown
copied_unknown n i vars lay k true = lay.unknown_at k
copied_unknown n i vars lay k false = copy i (get_or vars (k - n) no_variable).sym (get_or vars (k - n) no_variable).code

abbrev pub with_copies : ℕ → ℕ → List TypedVariable → Layout → Layout
with_copies n i vars lay = record { node_of = copied_node n i vars lay; unknown_at = λ k. copied_unknown n i vars lay k (nat_lt k n); works = lay.works }

module _ (db : Database) (bound : Bound) (before : List Asked) (i : ℕ) (a : Assertion) (gs : List Given) (nodes : List Term) (lay : Layout)
    (laid : IsLaidOut db bound.place (IsUnknown bound before) nodes lay) (apart : AreApart a.vars) (fresh : (s : Sym) (c : Typecode) → IsUnknown bound before (copy i s c) → ⊥) where
  abbrev n : ℕ
  n = length nodes

  abbrev more : List Term
  more = map free_of a.vars

  abbrev new_lay : Layout
  new_lay = with_copies n i a.vars lay

  abbrev Old : Unknown → Type 0
  Old u = IsUnknown bound before u

  abbrev New : Unknown → Type 0
  New u = IsUnknown bound (before ++ asked i a gs ∷ []) u

  pub old_new : (u : Unknown) → Old u → New u
  old_new u (in_formula k s t at is o) = in_formula k s t at is o
  old_new u (is_blank s at is) = is_blank s at is
  old_new u (in_frame x v c h) = in_frame x v (Contains-append_left before (asked i a gs ∷ []) x c) h

  pub own_new : (v : TypedVariable) → Contains a.vars v → New (copy i v.sym v.code)
  own_new v h = in_frame (asked i a gs) v (Contains-append_right before (asked i a gs ∷ []) (asked i a gs) (first (asked i a gs) [])) h

  -- an unknown is an old one, or a copy
  record IsCopy (u : Unknown) : Type 0 where
    variable : TypedVariable
    occurs : Contains a.vars variable
    is : copy i variable.sym variable.code ≡ u

  either : (u : Unknown) → New u → Old u ⊎ IsCopy u
  either u (in_formula k s t at is o) = inl (in_formula k s t at is o)
  either u (is_blank s at is) = inl (is_blank s at is)
  either u (in_frame x v c h) = elim (Contains-append_cases before (asked i a gs ∷ []) x c) [
    | inl one ↦ inl (in_frame x v one h)
    | inr last ↦ inr (moved x v (same x last) h)
  ]
    where
      same : (x : Asked) → Contains (asked i a gs ∷ []) x → asked i a gs ≡ x
      same x (zero, l, e) = e
      same x (suc k, l, e) = absurd (omega (arith, l))

      moved : (x : Asked) (v : TypedVariable) → asked i a gs ≡ x → Contains x.assertion.vars v → IsCopy (copy x.step v.sym v.code)
      moved x v e h =
          subst (λ (y : Asked). Contains y.assertion.vars v → IsCopy (copy y.step v.sym v.code)) e
          (λ g. record { variable = v; occurs = g; is = refl }) h

  -- old unknowns keep their nodes
  kept_by : (j : ℕ) (s : Sym) (c : Typecode) (b : Bool) → (j == i) ≡ b → Old (copy j s c) → copy_node n a.vars lay j s c b ≡ lay.node_of (copy j s c)
  kept_by j s c true e on = let same : j ≡ i = grind (arith, nat_tests, e) in absurd (fresh s c (subst (λ (k : ℕ). Old (copy k s c)) same on))
  kept_by j s c false e on = refl

  pub kept_node : (u : Unknown) → Old u → new_lay.node_of u ≡ lay.node_of u
  kept_node (named c m) on = refl
  kept_node (blank m) on = refl
  kept_node (copy j s c) on = kept_by j s c (j == i) refl on

  kept_unknown : (k : ℕ) → k < n → new_lay.unknown_at k ≡ lay.unknown_at k
  kept_unknown k h = let yes : nat_lt k n ≡ true = grind (arith, nat_tests) in ap (copied_unknown n i a.vars lay k) yes

  copied_at : (k : ℕ) → n ≤ k → new_lay.unknown_at k ≡ copy i (get_or a.vars (k - n) no_variable).sym (get_or a.vars (k - n) no_variable).code
  copied_at k h = let nope : nat_lt k n ≡ false = grind (arith, nat_tests) in ap (copied_unknown n i a.vars lay k) nope

  -- the node of a copy
  pub copied_is : (s : Sym) (c : Typecode) (h : Contains a.vars (variable_with s c)) → new_lay.node_of (copy i s c) ≡ n + (found n a.vars s c h).place
  copied_is s c h =
      let told = found n a.vars s c h in
      let yes : (i == i) ≡ true = grind (arith, nat_tests) in
      ap (copy_node n a.vars lay i s c) yes ∙ ap (node_or (lay.node_of (copy i s c))) told.node

  grown_length : length (nodes ++ more) ≡ n + length a.vars
  grown_length = length-append nodes more ∙ ap (λ (k : ℕ). n + k) (length-map a.vars free_of)

  behind : (k : ℕ) → k < length a.vars → term_at (nodes ++ more) (n + k) ≡ free_of (get_or a.vars k no_variable)
  behind k h = past nodes k ∙ get_or-map free_of a.vars k no_variable _ h
    where
      past : (xs : List Term) (k : ℕ) → term_at (xs ++ more) (length xs + k) ≡ term_at more k
      past [] k = let number : 0 + k ≡ k = omega arith in ap (term_at more) number
      past (x ∷ xs) k = let number : length (x ∷ xs) + k ≡ suc (length xs + k) = omega arith in ap (term_at ((x ∷ xs) ++ more)) number ∙ past xs k

  copy_own : (s : Sym) (c : Typecode) (h : Contains a.vars (variable_with s c)) → HasNode db (nodes ++ more) new_lay (copy i s c)
  copy_own s c h =
      let told = found n a.vars s c h in
      let at = copied_is s c h in
      let variable : get_or a.vars told.place no_variable ≡ variable_with s c = told.at no_variable in
      let back : n + told.place - n ≡ told.place = omega arith in
      record {
        within = omega (arith, at, told.below, grown_length);
        free = ap (term_at (nodes ++ more)) at ∙ behind told.place told.below ∙ ap free_of variable;
        own = ap new_lay.unknown_at at ∙ copied_at (n + told.place) (omega arith)
            ∙ ap (λ (k : ℕ). copy i (get_or a.vars k no_variable).sym (get_or a.vars k no_variable).code) back
            ∙ ap (λ (v : TypedVariable). copy i v.sym v.code) variable;
      }

  old_own : (u : Unknown) → Old u → HasNode db (nodes ++ more) new_lay u
  old_own u on =
      let h = laid.unknowns u on in
      let at = kept_node u on in
      record {
        within = omega (arith, at, h.within, grown_length);
        free = ap (term_at (nodes ++ more)) at ∙ term_front nodes more (lay.node_of u) h.within ∙ h.free;
        own = ap new_lay.unknown_at at ∙ kept_unknown (lay.node_of u) h.within ∙ h.own;
      }

  pub each_own : (u : Unknown) → New u → HasNode db (nodes ++ more) new_lay u
  each_own u on = elim (either u on) [
    | inl old ↦ old_own u old
    | inr own ↦ subst (HasNode db (nodes ++ more) new_lay) own.is (copy_own own.variable.sym own.variable.code own.occurs)
  ]

  element : (k : ℕ) → k < length a.vars → Contains a.vars (get_or a.vars k no_variable)
  element k h = (k, h, default_same a.vars k (get_or a.vars k no_variable) no_variable h)

  copy_unknown : (k : ℕ) → k < length a.vars → HasUnknown New new_lay (n + k)
  copy_unknown k h =
      let v = get_or a.vars k no_variable in
      let back : n + k - n ≡ k = omega arith in
      let is : new_lay.unknown_at (n + k) ≡ copy i v.sym v.code = copied_at (n + k) (omega arith) ∙ ap (λ (j : ℕ). copy i (get_or a.vars j no_variable).sym (get_or a.vars j no_variable).code) back in
      let there = element k h in
      let told = found n a.vars v.sym v.code there in
      let same : told.place ≡ k = one_place a.vars told.place k v apart told.below h (told.at v) (default_same a.vars k v no_variable h) in
      record {
        is_unknown = subst New (sym is) (own_new v there);
        node = ap new_lay.node_of is ∙ copied_is v.sym v.code there ∙ ap (λ (j : ℕ). n + j) same;
      }

  old_unknown : (k : ℕ) → k < n → HasUnknown Old lay k → HasUnknown New new_lay k
  old_unknown k h own =
      let is = kept_unknown k h in
      record {
        is_unknown = subst New (sym is) (old_new (lay.unknown_at k) own.is_unknown);
        node = ap new_lay.node_of is ∙ kept_node (lay.unknown_at k) own.is_unknown ∙ own.node;
      }

  module _ (store : IsStore nodes []) where
    typed_old : (k : ℕ) (l : Label) (c : Typecode) (m : ℕ) (kids : List Id) → k < n → term_at nodes k ≡ Node l c m kids → IsTypedTerm db.rows bound.place (nodes ++ more) l c kids
    typed_old k l c m kids h is =
        let t = laid.typed k l c m kids h is in
        let below = wider k n kids (omega (arith, h)) (subst (λ (x : Term). AllByRecursion (λ (id : Id). id.0 < k) (children_of x)) is (store.children k h)) in
        record { row = t.row; is_row = t.is_row; before_place = t.before_place; gives = t.gives; slots = codes_front nodes more kids below ∙ t.slots }
      where
        wider : (n m : ℕ) (xs : List Id) → n ≤ m → AllByRecursion (λ (id : Id). id.0 < n) xs → AllByRecursion (λ (id : Id). id.0 < m) xs
        wider n m [] h a = tt
        wider n m (x ∷ xs) h a = (omega (arith, a.0, h), wider n m xs h a.1)

    no_production : (k : ℕ) (l : Label) (c : Typecode) (m : ℕ) (kids : List Id) → n ≤ k → k < length (nodes ++ more) → term_at (nodes ++ more) k ≡ Node l c m kids → ⊥
    no_production k l c m kids from h is =
        let place = k - n in
        let number : n + (k - n) ≡ k = omega (arith, from) in
        let inside : k - n < length a.vars = omega (arith, from, h, grown_length) in
        let free : term_at (nodes ++ more) k ≡ free_of (get_or a.vars (k - n) no_variable) = ap (term_at (nodes ++ more)) (sym number) ∙ behind (k - n) inside in
        let impossible : free_of (get_or a.vars (k - n) no_variable) ≡ Node l c m kids = sym free ∙ is in
        cc

    pub laid_out_copies : IsLaidOut db bound.place New (nodes ++ more) new_lay
    laid_out_copies = record {
      unknowns = each_own;
      free = λ k c h is. elim (cases_lt k n) [
        | inl old ↦ old_unknown k old (laid.free k c old (sym (term_front nodes more k old) ∙ is))
        | inr from ↦
            let number : n + (k - n) ≡ k = omega (arith, from) in
            let inside : k - n < length a.vars = omega (arith, from, h, grown_length) in
            subst (HasUnknown New new_lay) number (copy_unknown (k - n) inside)
      ];
      typed = λ k l c m kids h is. elim (cases_lt k n) [
        | inl old ↦ typed_old k l c m kids old (sym (term_front nodes more k old) ∙ is)
        | inr from ↦ absurd (no_production k l c m kids from h is)
      ];
      works = λ w h.
          let own = laid.works w h in
          record { is_unknown = old_new (named w.code w.number) own.is_unknown; node = own.node };
      all_works = λ c m on. elim (either (named c m) on) [
        | inl old ↦ laid.all_works c m old
        | inr own ↦ let impossible : copy i own.variable.sym own.variable.code ≡ named c m = own.is in absurd (cc)
      ];
    }
