-- Each active `$f` of a text without a fault is one of a declared variable, and the `$e` of a frame are all that are active.
use Rattle.std.specs.Prelude.{◌≡◌, ◌<◌, ◌≤◌, ◌==◌, ◌&&◌, ℕ, Bool, true, false, not, List, [], ◌∷◌, ◌++◌, length, drop, map, flat_map, filter, find, reverse, take}
use Rattle.std.specs.Prelude.{Contains, is_some, Option, Some, None, option_map, codes, refl}
use Rattle.std.specs.List.{AllByRecursion, list_any}
use Rattle.std.specs.Cmp.{both_ways as same_tests}
use Rattle.std.proofs.Common.{sym, ap, subst, ◌∙◌, cond, arith, inl, inr}
use Rattle.std.proofs.lemmas.Bool.{cases_Bool, both_ways, and_parts, or_cases, or_left, eq-eqb, false_from_ne_true}
use Rattle.mm_base.specs.declared.symbols.Sym.{Sym}
use Rattle.mm_base.specs.declared.symbols.Label.{Label}
use Rattle.mm_base.specs.declared.symbols.Typecode.{Typecode}
use Rattle.mm_base.specs.declared.kinds.Kinds.{Kinds}
use Rattle.mm_model.specs.declared.frames.Hyp.{Hyp}
use Rattle.mm_model.specs.declared.rows.Leaf.TheVariants as leaf
use Rattle.mm_model.specs.Names.{Name, typecode}
use Rattle.mm_model.specs.Tokens.{tokens}
use Rattle.mm_model.specs.Statements.{Statement, statements, database_fault, active, path, has_keyword, symbols_in, second, contains, body}
use Rattle.mm_model.specs.Frames.{symbols, symbol_in, below, hypothesis_of, is_hypothesis, active_at, frame_at}
use Rattle.mm_model.specs.Productions.{TypedVariable, typed_by, typed_variables, floats, essentials}
use Rattle.mm_model.specs.Book.{Database, IsDatabaseOf, float_of, declared_leaf}
use Rattle.mm_model.specs.BookFacts.{IsKnownAt}
use Rattle.model_laws.proofs.Checked.{IsChecked, EachBefore, last_first, text_checked, no_statement_fault}
use Rattle.model_laws.proofs.FrameFacts.{is_float, Apart, floats_apart, FloatShort, floats_short, all_active, counts, filter-map, same_number, IsShort, mandatory_at}
use Rattle.model_laws.proofs.KnownAt.{constant_known, variable_known, one_of_two}
use Rattle.model_laws.proofs.KnownFacts.{HypothesisKnown, hypotheses_known}
use Rattle.model_laws.proofs.Listed.{all-reverse, all-filter, all_and, Pairwise, pairwise-filter, pairwise-reverse, name_self}
use Rattle.model_laws.proofs.Symbols.{FormulaKnown, Meant}
use Rattle.proof_model.specs.Machine.{is_float_of}
use Rattle.answer_laws.proofs.Elements.{nothing, parted, mapped_from}
use Rattle.push_laws.proofs.ActiveHyps.{all_taken, hypothesis_keyword}
use Rattle.push_laws.proofs.Books.{each_below, is_book}
use Rattle.push_laws.proofs.Entries.{same_symbol}
use Rattle.push_laws.proofs.Lists.{all_of, any_of_contains}
use Rattle.push_laws.proofs.TreeProofs.{is_its_float}
use Rattle.export_laws.proofs.Run.{IsDeclaredFloat}
use Rattle.export_laws.proofs.TwoSymbols.{IsEnded, all_ended, has_two}

-- ---- the `$f` of active statements

abbrev TwoOf : Statement → Type 0
TwoOf s = is_float s ≡ true → 2 ≤ length (symbols_in s)

each_two : (b : List Statement) → EachBefore IsChecked b → AllByRecursion IsEnded b → EachBefore (λ e s. TwoOf s) b
each_two [] c a = tt
each_two (s ∷ b) c a = ((λ f. has_two b s c.0 f a.0), each_two b c.1 a.1)

-- a `$f` with its two names, of which the second has a number
record IsNamedFloat (names : List Name) (s : Statement) : Type 0 where
  code : Name
  variable : Name
  symbols : symbols_in s ≡ code ∷ variable ∷ []
  known : contains names variable ≡ true

abbrev NamedFloat : List Name → Statement → Type 0
NamedFloat names s = is_float s ≡ true → IsNamedFloat names s

turned : (s t : Statement) → Apart s t → Apart t s
turned s t h f g v c d = h g f v d c

alone : (v : Name) → contains (v ∷ []) v ≡ true
alone v = or_left _ false (name_self v)

stands_second : (names : List Name) (s : Statement) (f : IsNamedFloat names s) → contains (second (symbols_in s)) f.variable ≡ true
stands_second names s f = ap (λ ns. contains (second ns) f.variable) f.symbols ∙ alone f.variable

too_long : (s : Statement) (c v x : Name) (ns : List Name) → symbols_in s ≡ c ∷ v ∷ x ∷ ns → IsShort (symbols_in s) → ⊥
too_long s c v x ns e h = subst IsShort e h

-- ---- the typecode of a variable

module _ (names : List Name) where
  abbrev hyps : List Statement → List Hyp
  hyps hs = map (hypothesis_of names) hs

  abbrev variable_of : (s : Statement) → IsNamedFloat names s → TypedVariable
  variable_of s f = record { sym = symbol_in names f.variable; code = typecode (symbol_in names f.code) }

  more_variables : (x : Statement) (hs : List Statement) (b : Bool) → is_float x ≡ b
      → typed_variables (hyps (x ∷ hs)) ≡ flat_map (λ (h : Hyp). typed_by h.formula) (cond b (hypothesis_of names x ∷ floats (hyps hs)) (floats (hyps hs)))
  more_variables x hs b e = ap (λ (c : Bool). flat_map (λ (h : Hyp). typed_by h.formula) (cond c (hypothesis_of names x ∷ floats (hyps hs)) (floats (hyps hs)))) e

  with_float : (x : Statement) (hs : List Statement) (f : IsNamedFloat names x) → is_float x ≡ true → typed_variables (hyps (x ∷ hs)) ≡ variable_of x f ∷ typed_variables (hyps hs)
  with_float x hs f e = more_variables x hs true e ∙ ap (λ ns. typed_by (map (symbol_in names) ns) ++ typed_variables (hyps hs)) f.symbols

  abbrev code_in : Sym → List TypedVariable → Option Typecode
  code_in s vs = option_map (λ (v : TypedVariable). v.code) (find (λ (v : TypedVariable). v.sym.0 == s.0) vs)

  code_is : (hs : List Statement) → AllByRecursion (NamedFloat names) hs → Pairwise Apart hs → (s : Statement) → Contains hs s → (e : is_float s ≡ true) → (f : IsNamedFloat names s)
      → float_of (symbol_in names f.variable) (hyps hs) ≡ Some (typecode (symbol_in names f.code))
  code_is [] n p s c e f = absurd (nothing s c)
  code_is (x ∷ hs) n p s c e f = elim (cases_Bool (is_float x)) [
    | inl d ↦
        let g = n.0 d in
        let v = symbol_in names f.variable in
        let more = ap (code_in v) (with_float x hs g d) in
        elim (cases_Bool ((symbol_in names g.variable).0 == v.0)) [
          | inl t ↦
              let name : g.variable ≡ f.variable = same_number names g.variable f.variable g.known f.known (same_symbol (symbol_in names g.variable) v t) in
              more ∙ ap (λ (b : Bool). option_map (λ (y : TypedVariable). y.code) (cond b (Some (variable_of x g)) (find (λ (y : TypedVariable). y.sym.0 == v.0) (typed_variables (hyps hs))))) t
              ∙ ap (λ (k : Name). Some (typecode (symbol_in names k))) (same_code g d name)
          | inr t ↦
              more ∙ ap (λ (b : Bool). option_map (λ (y : TypedVariable). y.code) (cond b (Some (variable_of x g)) (find (λ (y : TypedVariable). y.sym.0 == v.0) (typed_variables (hyps hs))))) t
              ∙ code_is hs n.1 p.1 s (in_rest (λ same. other g t same)) e f
        ]
    | inr d ↦
        ap (code_in (symbol_in names f.variable)) (more_variables x hs false d)
        ∙ code_is hs n.1 p.1 s (in_rest (λ same. both_ways (is_float x) d (ap is_float same ∙ e))) e f
  ]
    where
      in_rest : (x ≡ s → ⊥) → Contains hs s
      in_rest differ = elim (parted s x hs c) [ inl same ↦ absurd (differ same) | inr l ↦ l ]

      one_formula : (g : IsNamedFloat names x) → x ≡ s → g.code ∷ g.variable ∷ [] ≡ f.code ∷ f.variable ∷ []
      one_formula g same = sym g.symbols ∙ ap symbols_in same ∙ f.symbols

      other : (g : IsNamedFloat names x) → ((symbol_in names g.variable).0 == (symbol_in names f.variable).0) ≡ false → x ≡ s → ⊥
      other g t same =
          let formula = one_formula g same in
          let name : g.variable ≡ f.variable = cc in
          both_ways ((symbol_in names g.variable).0 == (symbol_in names f.variable).0) t (eq-eqb _ _ (ap (λ (k : Name). (symbol_in names k).0) name))

      same_code : (g : IsNamedFloat names x) → is_float x ≡ true → g.variable ≡ f.variable → g.code ≡ f.code
      same_code g d name = elim (parted s x hs c) [
        | inl same ↦ let formula = one_formula g same in cc
        | inr l ↦
            let apart = all_of (Apart x) hs s p.0 l in
            absurd (apart d e g.variable (stands_second names x g) (subst (λ (k : Name). contains (second (symbols_in s)) k ≡ true) (sym name) (stands_second names s f)))
      ]

-- ---- a declared leaf

leaf_is : (v : Sym) (c : Typecode) (a b : Bool) (o : Option Typecode) → a ≡ false → o ≡ Some c
    → is_some (cond a (Some (leaf.Const v)) (cond b (option_map (λ (d : Typecode). leaf.Var v d) o) None)) ≡ true
    → cond a (Some (leaf.Const v)) (cond b (option_map (λ (d : Typecode). leaf.Var v d) o) None) ≡ Some (leaf.Var v c)
leaf_is v c true b o i j k = absurd cc
leaf_is v c false false o i j k = absurd cc
leaf_is v c false true o i j k = ap (option_map (λ (d : Typecode). leaf.Var v d)) j

-- ---- filters that agree

same_filters : {X : Type 0} (p r q : X → Bool) → ((x : X) → q x ≡ true → p x ≡ r x) → (xs : List X) → filter q (filter p xs) ≡ filter q (filter r xs)
same_filters p r q f [] = refl
same_filters p r q f (x ∷ xs) = by (q x) refl (p x) (r x) refl refl (same_filters p r q f xs)
  where
    by : (b : Bool) → q x ≡ b → (c d : Bool) → p x ≡ c → r x ≡ d → filter q (filter p xs) ≡ filter q (filter r xs)
        → filter q (cond c (x ∷ filter p xs) (filter p xs)) ≡ filter q (cond d (x ∷ filter r xs) (filter r xs))
    by b e true true i j rest = ap (λ ys. cond (q x) (x ∷ ys) ys) rest
    by b e false false i j rest = rest
    by true e true false i j rest = let bad : true ≡ false = sym i ∙ f x e ∙ j in absurd cc
    by true e false true i j rest = let bad : false ≡ true = sym i ∙ f x e ∙ j in absurd cc
    by false e true false i j rest = ap (λ (b : Bool). cond b (x ∷ filter q (filter p xs)) (filter q (filter p xs))) e ∙ rest
    by false e false true i j rest = rest ∙ sym (ap (λ (b : Bool). cond b (x ∷ filter q (filter r xs)) (filter q (filter r xs))) e)

counted_same : (mandatory : List Name) (x : Statement) → not (is_float x) ≡ true → counts mandatory x ≡ is_hypothesis x
counted_same mandatory x n = same_tests (counts mandatory x) (is_hypothesis x) there back
  where
    none : is_float x ≡ false
    none = go (is_float x) refl n
      where
        go : (b : Bool) → is_float x ≡ b → not b ≡ true → is_float x ≡ false
        go true i j = absurd cc
        go false i j = i

    there : counts mandatory x ≡ true → is_hypothesis x ≡ true
    there c = elim (or_cases (has_keyword (codes "$e") x) (is_float x && list_any (contains mandatory) (second (symbols_in x))) c) [
      | inl d ↦ one_of_two (codes "$f") (codes "$e") (codes "$e") refl (take 1 (body x)) d
      | inr d ↦ absurd (both_ways (is_float x) none (and_parts (is_float x) _ d).0)
    ]

    back : is_hypothesis x ≡ true → counts mandatory x ≡ true
    back h = elim (hypothesis_keyword x h) [
      | inl d ↦ absurd (both_ways (is_float x) none d)
      | inr d ↦ or_left (has_keyword (codes "$e") x) _ d
    ]

-- ---- of a text without a fault

module _ (kinds : Kinds) (text : List ℕ) (db : Database) (is : IsDatabaseOf kinds text db) (sound : database_fault text ≡ None) (place : ℕ) where
  abbrev ss : List Statement
  ss = statements text

  abbrev names : List Name
  names = symbols ss

  abbrev b : List Statement
  b = below ss place

  abbrev hs : List Statement
  hs = filter is_hypothesis (reverse (active b))

  checked : EachBefore IsChecked b
  checked = each_below IsChecked (last_first text) place (text_checked text (no_statement_fault text sound))

  all_end : AllByRecursion IsEnded b
  all_end = all-reverse IsEnded (take place ss) (all_taken IsEnded place ss (all-reverse IsEnded (last_first text) (all_ended (reverse (tokens text)))))

  turn : (P : Statement → Type 0) → AllByRecursion P (active b) → AllByRecursion P hs
  turn P a = all-filter P is_hypothesis (reverse (active b)) (all-reverse P (active b) a)

  name_known : (n : Name) → Meant b n → contains names n ≡ true
  name_known n m = elim m [ inl c ↦ constant_known ss place n c | inr v ↦ variable_known ss place n v.0 ]

  named_by : (s : Statement) → (ns : List Name) → symbols_in s ≡ ns → 2 ≤ length ns → FormulaKnown b ns → FloatShort s → is_float s ≡ true → IsNamedFloat names s
  named_by s [] e two known short f = let bad : ⊥ = omega (arith, two) in absurd bad
  named_by s (c ∷ []) e two known short f = let bad : ⊥ = omega (arith, two) in absurd bad
  named_by s (c ∷ v ∷ []) e two known short f = record { code = c; variable = v; symbols = e; known = name_known v known.1.0 }
  named_by s (c ∷ v ∷ x ∷ ns) e two known short f = absurd (too_long s c v x ns e (short f))

  all_named : AllByRecursion (NamedFloat names) hs
  all_named =
      let two = turn TwoOf (all_active TwoOf b (each_two b checked all_end) (path b)) in
      let short = turn FloatShort (floats_short b checked) in
      let known = turn (HypothesisKnown b) (hypotheses_known b checked) in
      all_and (λ s. TwoOf s × FloatShort s) (HypothesisKnown b) (NamedFloat names)
      (λ s t k f. named_by s (symbols_in s) refl (t.0 f) (k (inr f)) t.1 f) hs
      (all_and TwoOf FloatShort (λ s. TwoOf s × FloatShort s) (λ s t u. (t, u)) hs two short) known

  all_apart : Pairwise Apart hs
  all_apart = pairwise-filter Apart is_hypothesis (reverse (active b)) (pairwise-reverse Apart turned (active b) (floats_apart b checked))

  pub floats_declared : (h : Hyp) → Contains (db.active_at place).hyps h → h.floating ≡ true → IsDeclaredFloat db place h
  floats_declared h c f =
      let apart = (is_book kinds text db is sound).hyps_apart place in
      let there : Contains (map (hypothesis_of names) hs) h = subst (λ a. Contains a.hyps h) (is.active_at place) c in
      let s = mapped_from (hypothesis_of names) hs h there in
      let float : is_float s.0 ≡ true = ap (λ (x : Hyp). x.floating) s.2 ∙ f in
      let n = all_of (NamedFloat names) hs s.0 all_named s.1 float in
      let v = symbol_in names n.variable in
      let code = symbol_in names n.code in
      let formula : h.formula ≡ code ∷ v ∷ [] = sym (ap (λ (x : Hyp). x.formula) s.2) ∙ ap (map (symbol_in names)) n.symbols in
      let known = all_of (λ (x : Hyp). IsKnownAt db place x.formula) (db.active_at place).hyps h apart.known c in
      let in_range = subst (λ (g : List Sym). AllByRecursion (λ (x : Sym). x.0 < length db.symbols) g) formula known.symbols in
      let some = subst (λ (g : List Sym). AllByRecursion (λ x. is_some (declared_leaf db place x) ≡ true) (drop 1 g)) formula known.leaves in
      let float_of_v : float_of v (db.active_at place).hyps ≡ Some (typecode code) = ap (λ a. float_of v a.hyps) (is.active_at place) ∙ code_is names hs all_named all_apart s.0 s.1 float n in
      let no_constant : db.is_constant_at v place ≡ false =
      false_from_ne_true (db.is_constant_at v place) (λ e. both_ways (list_any (is_float_of v) (db.active_at place).hyps) (apart.constants v e)
      (any_of_contains (is_float_of v) (db.active_at place).hyps h c (is_its_float h code v f formula))) in
      record {
        code = code;
        variable = v;
        formula = formula;
        declared = record {
          declared = leaf_is v (typecode code) (db.is_constant_at v place) (list_any (λ (x : Sym). x.0 == v.0) (db.active_at place).variables)
              (float_of v (db.active_at place).hyps) no_constant float_of_v some.0;
          within = in_range.1.0;
        };
      }

  -- the `$e` of a frame are the active ones
  pub same_essentials : (l : Label) (s : Statement) → essentials (frame_at ss l place s).hyps ≡ essentials (active_at ss place).hyps
  same_essentials l s =
      filter-map (λ (h : Hyp). not h.floating) (hypothesis_of names) (filter (counts (mandatory_at ss place s)) (reverse (active b)))
      ∙ ap (map (hypothesis_of names)) (same_filters (counts (mandatory_at ss place s)) is_hypothesis (λ x. not (is_float x)) (counted_same (mandatory_at ss place s)) (reverse (active b)))
      ∙ sym (filter-map (λ (h : Hyp). not h.floating) (hypothesis_of names) hs)
