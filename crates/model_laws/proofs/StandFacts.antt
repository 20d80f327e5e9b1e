-- No constant is a variable, and each mandatory variable of a frame stands in its formulas behind the typecode.
use Rattle.std.proofs.Common.{◌≡◌, ℕ, zero, suc, Bool, true, false, not, ◌&&◌, ◌||◌, List, [], ◌∷◌, ◌++◌, map, drop, reverse, Some, refl, sym, ap}
use Rattle.std.proofs.Common.{◌∙◌, subst, arith, append_assoc, inl, inr, codes}
use Rattle.std.specs.Prelude.{Contains}
use Rattle.std.specs.List.{AllByRecursion, list_any, slice_get, filter}
use Rattle.std.specs.Str.{bytes_eq}
use Rattle.std.proofs.lemmas.Bool.{and_parts, and_from, or_parts, or_cases, or_left, both_ways, not_from_false}
use Rattle.std.proofs.lemmas.List.{reverse-reverse}
use Rattle.std.proofs.lemmas.List.Folds.{list_any-append}
use Rattle.std.proofs.lemmas.Option.{slice_get-map}
use Rattle.mm_base.specs.declared.symbols.Sym.{Sym}
use Rattle.mm_base.specs.declared.symbols.Label.{Label}
use Rattle.mm_model.specs.declared.frames.Hyp.{Hyp}
use Rattle.mm_model.specs.declared.frames.Frame.{Frame}
use Rattle.mm_model.specs.Names.{Name}
use Rattle.mm_model.specs.Words.{Word}
use Rattle.mm_model.specs.Statements.{Statement, has_keyword, with_keyword, symbols_in, contains, constants, variables, variables_ever, active, path}
use Rattle.mm_model.specs.Statements.{is_symbol_of, is_constant, is_variable, stands_in_statement, redeclared, ended, statements}
use Rattle.mm_model.specs.Frames.{symbols, symbol_in, below, hypothesis_of, mandatory_hypotheses, frame_at, is_constant_at}
use Rattle.mm_model.specs.Productions.{TypedVariable, typed_variables, essentials}
use Rattle.mm_model.proofs.Lists.{added, constants-cons, variables_ever-cons}
use Rattle.model_laws.specs.FrameLaws.{StandsInFrame, MandatoryVariablesStand}
use Rattle.model_laws.proofs.Checked.{EachBefore, IsChecked, rules_fail, last_first, text_checked, found, no_statement_fault}
use Rattle.model_laws.proofs.Shapes.{shape, AtSymbol, at_symbol, before_symbol}
use Rattle.model_laws.proofs.Listed.{all_at, all-filter, same_names, contains_passes}
use Rattle.model_laws.proofs.Passing.{any-reverse, any-filter, any_kept, any-with, any-active, any-flat}
use Rattle.model_laws.proofs.FrameFacts.{is_float, one_keyword, counts, floats_of, floats_mandatory, filter-map, frame_known, mandatory_at, typed_at, known_at}
use Rattle.model_laws.proofs.RowFacts.{typed_from}
use Rattle.model_laws.proofs.Symbols.{FormulaKnown}
use Rattle.model_laws.proofs.KnownAt.{name_back}
use Rattle.model_laws.proofs.KnownFacts.{assertion_known, mandatory_known}

-- ---- no constant is a variable

fails_second : (a b : Bool) → a ≡ true → (a && b) ≡ false → b ≡ false
fails_second true b h e = e
fails_second false b h e = absurd cc

constant_is_new : (e : List Statement) (us : List Word) (w : Word) (after : List Word) → AtSymbol e (codes "$c") us w after → contains (variables_ever e) w.bytes ≡ false
constant_is_new e us w after f =
    let before = f.here.before in
    let known = before_symbol e (codes "$c") us w after f in
    let here : is_symbol_of (codes "$c" ∷ []) before w ≡ true = rw (f.pass, known.keyword (codes "$c" ∷ []), known.no_proof) refl in
    let fail : redeclared before w after ≡ false = (rules_fail before w after f.here.no_rule).1.1.0 in
    let one = fails_second _ (is_constant before w || contains (variables_ever (ended before)) w.bytes || stands_in_statement before w) here (or_parts _ _ fail).0 in
    let two = (or_parts (is_constant before w) (contains (variables_ever (ended before)) w.bytes) (or_parts _ (stands_in_statement before w) one).0).1 in
    ap (λ (x : List Statement). contains (variables_ever x) w.bytes) (sym f.here.ended_is) ∙ two

variable_is_new : (e : List Statement) (us : List Word) (w : Word) (after : List Word) → AtSymbol e (codes "$v") us w after → contains (constants e) w.bytes ≡ false
variable_is_new e us w after f =
    let before = f.here.before in
    let known = before_symbol e (codes "$v") us w after f in
    let here : is_symbol_of (codes "$v" ∷ []) before w ≡ true = rw (f.pass, known.keyword (codes "$v" ∷ []), known.no_proof) refl in
    let fail : redeclared before w after ≡ false = (rules_fail before w after f.here.no_rule).1.1.0 in
    let one = fails_second _ (is_constant before w || is_variable before w || stands_in_statement before w) here (or_parts _ _ fail).1 in
    let two = (or_parts (is_constant before w) (is_variable before w) (or_parts _ (stands_in_statement before w) one).0).0 in
    ap (λ (x : List Statement). contains (constants x) w.bytes) (sym f.here.ended_is) ∙ two

module _ (P : Name → Type 0) (e : List Statement) (s : Statement) (k : List ℕ) (c : IsChecked e s) (h : has_keyword k s ≡ true) (plain : bytes_eq k (codes "$=") ≡ false)
    (each : (us : List Word) (w : Word) (after : List Word) → AtSymbol e k us w after → P w.bytes) where
  symbols_from : (us more : List Word) → (shape s k h).us ≡ us ++ more → AllByRecursion P (map (λ (w : Word). w.bytes) more)
  symbols_from us [] is = tt
  symbols_from us (w ∷ more) is = (each us w _ (at_symbol e s k c h plain us w more is), symbols_from (us ++ w ∷ []) more (is ∙ sym (append_assoc us (w ∷ []) more)))

  all_symbols : AllByRecursion P (symbols_in s)
  all_symbols = subst (AllByRecursion P) (sym (shape s k h).symbols_are) (symbols_from [] (shape s k h).us refl)

of_contained : (P : Name → Type 0) (ns : List Name) (n : Name) → AllByRecursion P ns → contains ns n ≡ true → P n
of_contained P [] n h e = absurd cc
of_contained P (m ∷ ns) n h e = elim (or_cases (bytes_eq n m) (contains ns n) e) [ inl d ↦ subst P (sym (same_names n m d)) h.0 | inr d ↦ of_contained P ns n h.1 d ]

added_by : (k : List ℕ) (s : Statement) (n : Name) (b : Bool) → has_keyword k s ≡ b → contains (added k symbols_in s) n ≡ true → (has_keyword k s ≡ true) × (contains (symbols_in s) n ≡ true)
added_by k s n true e h = (e, rw e at h)
added_by k s n false e h = let bad : false ≡ true = rw e at h in absurd cc

abbrev Apart : List Statement → Type 0
Apart e = (n : Name) → contains (constants e) n ≡ true → contains (variables_ever e) n ≡ true → ⊥

apart_step : (s : Statement) (e : List Statement) → IsChecked e s → Apart e → Apart (s ∷ e)
apart_step s e c h n a b =
    let left =
    or_cases (contains (added (codes "$c") symbols_in s) n) (contains (constants e) n)
    (sym (ap (λ ns. contains ns n) (constants-cons s e) ∙ list_any-append (bytes_eq n) (added (codes "$c") symbols_in s) (constants e))
    ∙ a) in
    let right =
    or_cases (contains (added (codes "$v") symbols_in s) n) (contains (variables_ever e) n)
    (sym
    (ap (λ ns. contains ns n) (variables_ever-cons s e)
    ∙ list_any-append (bytes_eq n) (added (codes "$v") symbols_in s) (variables_ever e))
    ∙ b) in
    elim left [
      | inl x ↦
          let mine = added_by (codes "$c") s n (has_keyword (codes "$c") s) refl x in
          elim right [
            | inl y ↦ let its = added_by (codes "$v") s n (has_keyword (codes "$v") s) refl y in both_ways (has_keyword (codes "$v") s) (one_keyword s (codes "$c") (codes "$v") mine.0 refl) its.0
            | inr y ↦ both_ways (contains (variables_ever e) n)
                (of_contained (λ m. contains (variables_ever e) m ≡ false) (symbols_in s) n
                (all_symbols _ e s (codes "$c") c mine.0 refl (constant_is_new e)) mine.1) y
          ]
      | inr x ↦ elim right [
        | inl y ↦ let its = added_by (codes "$v") s n (has_keyword (codes "$v") s) refl y in
            both_ways (contains (constants e) n)
            (of_contained (λ m. contains (constants e) m ≡ false) (symbols_in s) n
            (all_symbols _ e s (codes "$v") c its.0 refl (variable_is_new e)) its.1) x
        | inr y ↦ h n x y
      ]
    ]

pub apart : (e : List Statement) → EachBefore IsChecked e → Apart e
apart [] h n a b = let bad : false ≡ true = a in absurd cc
apart (s ∷ e) h n a b = apart_step s e h.0 (apart e h.1) n a b

pub active_ever : (b : List Statement) (n : Name) → contains (variables b) n ≡ true → contains (variables_ever b) n ≡ true
active_ever b n h =
    let some =
    any-active _ (path b) b
    (any-filter (λ x. contains (symbols_in x) n) (has_keyword (codes "$v")) (active b)
    (sym (any-flat (bytes_eq n) symbols_in (with_keyword (codes "$v") (active b))) ∙ h)) in
    any-flat (bytes_eq n) symbols_in (with_keyword (codes "$v") b) ∙ any_kept (λ x. contains (symbols_in x) n) (has_keyword (codes "$v")) b some

-- ---- a mandatory variable stands

any_at : {X : Type 0} (p : X → Bool) (xs : List X) → list_any p xs ≡ true → (j : ℕ) × (x : X) × (slice_get xs j ≡ Some x) × (p x ≡ true)
any_at p [] h = absurd cc
any_at p (x ∷ xs) h = elim (or_cases (p x) (list_any p xs) h) [ inl d ↦ (0, x, refl, d) | inr d ↦ let r = any_at p xs d in (suc r.0, r.1, r.2, r.3) ]

numbered : (names ns : List Name) (n : Name) → contains ns n ≡ true → Contains (map (symbol_in names) ns) (symbol_in names n)
numbered names [] n h = absurd cc
numbered names (m ∷ ns) n h = elim (or_cases (bytes_eq n m) (contains ns n) h) [
  | inl d ↦ (0, omega arith, ap (symbol_in names) (sym (same_names n m d)))
  | inr d ↦ let r = numbered names ns n d in let less = r.1 in (suc r.0, omega (arith, less), r.2)
]

-- where a formula begins with a constant, a variable of it stands behind
behind : (names ns : List Name) (b : List Statement) (n : Name) → Apart b → FormulaKnown b ns → contains (variables b) n ≡ true → contains ns n ≡ true
    → Contains (drop 1 (map (symbol_in names) ns)) (symbol_in names n)
behind names [] b n apart known v h = absurd cc
behind names (c ∷ ns) b n apart known v h = elim (or_cases (bytes_eq n c) (contains ns n) h) [
  | inl d ↦ absurd (apart n (subst (λ m. contains (constants b) m ≡ true) (sym (same_names n c d)) known.0) (active_ever b n v))
  | inr d ↦ numbered names ns n d
]

module _ (ss : List Statement) (l : Label) (at : ℕ) (s : Statement) (each : EachBefore IsChecked (below ss at)) (here : FormulaKnown (below ss at) (symbols_in s)) where
  abbrev b : List Statement
  b = below ss at

  abbrev mandatory : List Name
  mandatory = mandatory_at ss at s

  abbrev f : Frame
  f = frame_at ss l at s

  abbrev essential : List Statement
  essential = filter (λ h. not (is_float h)) (mandatory_hypotheses mandatory b)

  essentials_are : essentials f.hyps ≡ map (hypothesis_of (symbols ss)) essential
  essentials_are = filter-map (λ (h : Hyp). not h.floating) (hypothesis_of (symbols ss)) (mandatory_hypotheses mandatory b)

  known : AllByRecursion (λ h. FormulaKnown b (symbols_in h)) essential
  known = all-filter (λ h. FormulaKnown b (symbols_in h)) (λ h. not (is_float h)) (mandatory_hypotheses mandatory b) (mandatory_known mandatory b each)

  in_essential : (n : Name) → list_any (λ (x : Statement). contains (symbols_in x) n) (with_keyword (codes "$e") (active b)) ≡ true
      → list_any (λ (x : Statement). contains (symbols_in x) n) essential ≡ true
  in_essential n h =
      let one = any-filter (λ x. contains (symbols_in x) n) (has_keyword (codes "$e")) (active b) h in
      let two =
      any-reverse (λ x. has_keyword (codes "$e") x && contains (symbols_in x) n) (reverse (active b))
      (ap (list_any (λ x. has_keyword (codes "$e") x && contains (symbols_in x) n)) (reversed (active b)) ∙ one) in
      let three = any-with (λ x. has_keyword (codes "$e") x && contains (symbols_in x) n) (λ x. counts mandatory x && (not (is_float x) && contains (symbols_in x) n))
      (λ x d.
      let both = and_parts (has_keyword (codes "$e") x) (contains (symbols_in x) n) d in
      and_from (counts mandatory x) _ (or_left _ _ both.0)
      (and_from (not (is_float x)) _ (not_from_false (is_float x) (one_keyword x (codes "$e") (codes "$f") both.0 refl)) both.1))
      (reverse (active b)) two in
      any_kept (λ x. contains (symbols_in x) n) (λ h. not (is_float h)) (mandatory_hypotheses mandatory b)
      (any_kept (λ x. not (is_float x) && contains (symbols_in x) n) (counts mandatory) (reverse (active b)) three)
    where
      reversed : (xs : List Statement) → reverse (reverse xs) ≡ xs
      reversed xs = reverse-reverse xs

  abbrev Stands : Sym → Type 0
  Stands v = (is_constant_at ss v at ≡ false) × StandsInFrame f v

  no_constant : (n : Name) → contains mandatory n ≡ true → contains (variables b) n ≡ true → is_constant_at ss (symbol_in (symbols ss) n) at ≡ false
  no_constant n h v = ap (contains (constants b)) (name_back ss at n (known_at ss at s n h)) ∙ none (contains (constants b) n) refl
    where
      none : (t : Bool) → contains (constants b) n ≡ t → contains (constants b) n ≡ false
      none true e = absurd (apart b each n e (active_ever b n v))
      none false e = e

  name_stands : (n : Name) → contains mandatory n ≡ true → Stands (symbol_in (symbols ss) n)
  name_stands n h =
      let both = and_parts (contains (variables b) n) (list_any (λ (x : Statement). contains (symbols_in x) n) (s ∷ with_keyword (codes "$e") (active b))) (contains_passes _ (symbols ss) n h) in (
        no_constant n h both.0,
        elim (or_cases (contains (symbols_in s) n) (list_any (λ (x : Statement). contains (symbols_in x) n) (with_keyword (codes "$e") (active b))) both.1) [
          | inl d ↦ inl (behind (symbols ss) (symbols_in s) b n (apart b each) here both.0 d)
          | inr d ↦
              let r = any_at (λ (x : Statement). contains (symbols_in x) n) essential (in_essential n d) in
              let at_hyp = ap (λ hs. slice_get hs r.0) essentials_are ∙ slice_get-map (hypothesis_of (symbols ss)) essential r.0 ∙ rw r.2 refl in
              inr (
                r.0,
                hypothesis_of (symbols ss) r.1,
                at_hyp,
                behind (symbols ss) (symbols_in r.1) b n (apart b each)
                    (all_at (λ h. FormulaKnown b (symbols_in h)) essential r.0 r.1 known r.2) both.0 r.3,
              )
        ],
      )

  stands_at : (k : ℕ) (v : TypedVariable) → slice_get (typed_variables f.hyps) k ≡ Some v → Stands v.sym
  stands_at k v e =
      let m = typed_from (symbols ss) mandatory (floats_of mandatory b) (floats_mandatory mandatory b each) k v (subst (λ vs. slice_get vs k ≡ Some v) (typed_at ss l at s) e) in
      subst Stands (sym m.2) (name_stands m.0 m.1)

at_place : {X : Type 0} (xs : List X) (x : X) → Contains xs x → (k : ℕ) × (slice_get xs k ≡ Some x)
at_place [] x h = let less = h.1 in absurd (omega (arith, less))
at_place (y ∷ xs) x (zero, less, e) = (0, ap (λ z. Some z) e)
at_place (y ∷ xs) x (suc k, less, e) = let r = at_place xs x (k, omega (arith, less), e) in (suc r.0, r.1)

pub variables_stand : MandatoryVariablesStand
variables_stand text db shows ok l f frame v h =
    let ss = statements text in
    let each = text_checked text (no_statement_fault text ok) in
    let k = frame_known ss l f (sym (shows.frame l) ∙ frame) in
    let there = found IsChecked (last_first text) k.at k.statement each k.stands in
    let known = assertion_known (below ss k.at) k.statement there.here k.assertion in
    let place = at_place (typed_variables f.hyps) v h in
    let stands =
    subst
    (λ (x : Frame). slice_get (typed_variables x.hyps) place.0 ≡ Some v
    → (is_constant_at ss v.sym x.at ≡ false) × StandsInFrame x v.sym) k.frame
    (stands_at ss l k.at k.statement there.before known place.0 v) place.1 in
    (shows.is_constant_at v.sym f.at ∙ stands.0, stands.1)
