-- What the rules say of the symbols of hypotheses and assertions: each is declared, and past the first each variable has a typecode.
use Rattle.std.proofs.Common.{◌≡◌, ℕ, Bool, true, false, not, ◌&&◌, ◌||◌, ◌==◌, List, [], ◌∷◌, ◌++◌, length, map, refl, sym, ap, ◌∙◌, subst, append_assoc, inl, inr, ◌⊎◌, codes}
use Rattle.std.specs.List.{AllByRecursion, list_any}
use Rattle.std.specs.Str.{bytes_eq}
use Rattle.std.proofs.lemmas.Bool.{or_parts, or_left, or_right, both_ways, not-false}
use Rattle.mm_model.specs.Names.{Name}
use Rattle.mm_model.specs.Words.{Word}
use Rattle.mm_model.specs.Statements.{Statement, is, is_empty, is_first, is_symbol_of, rank, has_keyword, symbols_in, contains, constants, variables}
use Rattle.mm_model.specs.Statements.{typed, asserting, labelled, is_constant, is_variable, is_typed, not_active, no_type, first_not_const}
use Rattle.model_laws.proofs.Checked.{IsChecked, rules_fail}
use Rattle.model_laws.proofs.Shapes.{shape, AtSymbol, Before, at_symbol, before_symbol}

-- ---- one symbol

-- a constant, or a variable with an active `$f`
abbrev pub Meant : List Statement → Name → Type 0
Meant e n = (contains (constants e) n ≡ true) ⊎ ((contains (variables e) n ≡ true) × (contains (typed e) n ≡ true))

-- a keyword of formulas
pub record IsAsserting (k : List ℕ) : Type 0 where
  pub asserting : list_any (bytes_eq k) asserting ≡ true
  pub labelled : list_any (bytes_eq k) labelled ≡ true
  pub no_proof : bytes_eq k (codes "$=") ≡ false

declared_by : (c v : Bool) → (not c && not v) ≡ false → (c ≡ true) ⊎ (v ≡ true)
declared_by true v e = inl refl
declared_by false true e = inr refl
declared_by false false e = absurd cc

-- `A` holds, and `A && B` does not
pub other_fails : (a b : Bool) → a ≡ true → (a && b) ≡ false → b ≡ false
other_fails true b h e = e
other_fails false b h e = absurd cc

and_three : (a b c : Bool) → (a && b && c) ≡ (a && (b && c))
and_three true b c = refl
and_three false b c = refl

module _ (e : List Statement) (k : List ℕ) (us : List Word) (w : Word) (after : List Word) (f : AtSymbol e k us w after) where
  abbrev before : List Word
  before = f.here.before

  known : Before f
  known = before_symbol e k us w after f

  symbol_of : (ks : List (List ℕ)) → list_any (bytes_eq k) ks ≡ true → is_symbol_of ks before w ≡ true
  symbol_of ks h = rw (f.pass, known.keyword ks, h, known.no_proof) refl

  first_is : is_first before ≡ is_empty (map (λ (u : Word). u.bytes) us)
  first_is = ap is_empty known.symbols

  pub declared : (is_symbol_of asserting before w || (is_symbol_of (codes "$f" ∷ []) before w && is_first before)) ≡ true
      → (contains (constants e) w.bytes ≡ true) ⊎ (contains (variables e) w.bytes ≡ true)
  declared h =
      let fail : not_active before w after ≡ false = (rules_fail before w after f.here.no_rule).1.1.1.0 in
      let one : ((is_symbol_of asserting before w || (is_symbol_of (codes "$f" ∷ []) before w && is_first before)) && not (is_constant before w)
      && not (is_variable before w))
      ≡ false =
      (or_parts _ _ fail).0 in
      let c : is_constant before w ≡ contains (constants e) w.bytes = ap (λ (x : List Statement). contains (constants x) w.bytes) f.here.ended_is in
      let v : is_variable before w ≡ contains (variables e) w.bytes = ap (λ (x : List Statement). contains (variables x) w.bytes) f.here.ended_is in
      elim (declared_by (is_constant before w) (is_variable before w) (rw h at one)) [ inl d ↦ inl (sym c ∙ d) | inr d ↦ inr (sym v ∙ d) ]

  -- the first symbol of a labelled statement is no active variable
  pub no_variable : list_any (bytes_eq k) labelled ≡ true → is_empty (map (λ (u : Word). u.bytes) us) ≡ true → contains (variables e) w.bytes ≡ false
  no_variable h none =
      let fail : first_not_const before w after ≡ false = (rules_fail before w after f.here.no_rule).1.1.1.1.1.1.0 in
      let v : is_variable before w ≡ false = rw (symbol_of labelled h, first_is, none) at fail in
      ap (λ (x : List Statement). contains (variables x) w.bytes) (sym f.here.ended_is) ∙ v

  -- a later variable of a formula has an active `$f`
  pub has_type : IsAsserting k → is_empty (map (λ (u : Word). u.bytes) us) ≡ false → contains (variables e) w.bytes ≡ true → contains (typed e) w.bytes ≡ true
  has_type a some v =
      let fail : no_type before w after ≡ false = (rules_fail before w after f.here.no_rule).1.1.1.1.0 in
      let here : is_variable before w ≡ true = ap (λ (x : List Statement). contains (variables x) w.bytes) f.here.ended_is ∙ v in
      let t : not (is_typed before w) ≡ false = rw (symbol_of asserting a.asserting, first_is, some, here) at fail in
      ap (λ (x : List Statement). contains (typed x) w.bytes) (sym f.here.ended_is) ∙ not-false (is_typed before w) t

  pub declared_asserting : IsAsserting k → (contains (constants e) w.bytes ≡ true) ⊎ (contains (variables e) w.bytes ≡ true)
  declared_asserting a = declared (or_left _ _ (symbol_of asserting a.asserting))

first_symbol : (e : List Statement) (k : List ℕ) (w : Word) (after : List Word) → (f : AtSymbol e k [] w after) → IsAsserting k → contains (constants e) w.bytes ≡ true
first_symbol e k w after f a = elim (declared_asserting e k [] w after f a) [
  | inl c ↦ c
  | inr v ↦ absurd (both_ways (contains (variables e) w.bytes) (no_variable e k [] w after f a.labelled refl) v)
]

later_symbol : (e : List Statement) (k : List ℕ) (u : Word) (us : List Word) (w : Word) (after : List Word) → (f : AtSymbol e k (u ∷ us) w after) → IsAsserting k → Meant e w.bytes
later_symbol e k u us w after f a = elim (declared_asserting e k (u ∷ us) w after f a) [
  | inl c ↦ inl c
  | inr v ↦ inr (v, has_type e k (u ∷ us) w after f a refl v)
]

-- ---- a formula

-- it begins with a constant, and each further symbol means something
abbrev pub FormulaKnown : List Statement → List Name → Type 0
FormulaKnown e [] = Unit {0}
FormulaKnown e (c ∷ ns) = (contains (constants e) c ≡ true) × AllByRecursion (Meant e) ns

module _ (e : List Statement) (s : Statement) (k : List ℕ) (c : IsChecked e s) (h : has_keyword k s ≡ true) (a : IsAsserting k) where
  later_symbols : (u : Word) (us more : List Word) → (shape s k h).us ≡ (u ∷ us) ++ more → AllByRecursion (Meant e) (map (λ (w : Word). w.bytes) more)
  later_symbols u us [] is = tt
  later_symbols u us (w ∷ more) is = (
    later_symbol e k u us w _ (at_symbol e s k c h a.no_proof (u ∷ us) w more is) a,
    later_symbols u (us ++ w ∷ []) more (is ∙ ap (λ x. u ∷ x) (sym (append_assoc us (w ∷ []) more))),
  )

  formula_by : (us : List Word) → (shape s k h).us ≡ us → FormulaKnown e (map (λ (w : Word). w.bytes) us)
  formula_by [] is = tt
  formula_by (w ∷ more) is = (first_symbol e k w _ (at_symbol e s k c h a.no_proof [] w more is) a, later_symbols w [] more is)

  pub formula_known : FormulaKnown e (symbols_in s)
  formula_known = subst (FormulaKnown e) (sym (shape s k h).symbols_are) (formula_by (shape s k h).us refl)

-- ---- a `$f`

-- its typecode is a constant, and its variable is active
abbrev pub FloatKnown : List Statement → List Name → Type 0
FloatKnown e [] = Unit {0}
FloatKnown e (c ∷ []) = contains (constants e) c ≡ true
FloatKnown e (c ∷ v ∷ ns) = (contains (constants e) c ≡ true) × (contains (variables e) v ≡ true)

float_first : (e : List Statement) (w : Word) (after : List Word) → (f : AtSymbol e (codes "$f") [] w after) → contains (constants e) w.bytes ≡ true
float_first e w after f =
    let b = f.here.before in
    let here : (is_symbol_of (codes "$f" ∷ []) b w && is_first b) ≡ true =
    rw (symbol_of e (codes "$f") [] w after f (codes "$f" ∷ []) refl) (first_is e (codes "$f") [] w after f) in
    elim (declared e (codes "$f") [] w after f (or_right _ _ here)) [
      | inl c ↦ c
      | inr v ↦ absurd (both_ways (contains (variables e) w.bytes) (no_variable e (codes "$f") [] w after f refl refl) v)
    ]

float_second : (e : List Statement) (u w : Word) (after : List Word) → (f : AtSymbol e (codes "$f") (u ∷ []) w after) → contains (variables e) w.bytes ≡ true
float_second e u w after f =
    let b = f.here.before in
    let known = before_symbol e (codes "$f") (u ∷ []) w after f in
    let fail : not_active b w after ≡ false = (rules_fail b w after f.here.no_rule).1.1.1.0 in
    let two : ((is_symbol_of (codes "$d" ∷ []) b w || (is_symbol_of (codes "$f" ∷ []) b w && rank b == 1)) && not (is_variable b w)) ≡ false = (or_parts _ _ fail).1 in
    let one : (rank b == 1) ≡ true = ap (λ ns. length ns == 1) known.symbols in
    let mine : (is_symbol_of (codes "$f" ∷ []) b w && rank b == 1) ≡ true = rw (symbol_of e (codes "$f") (u ∷ []) w after f (codes "$f" ∷ []) refl) one in
    let test : (is_symbol_of (codes "$d" ∷ []) b w || (is_symbol_of (codes "$f" ∷ []) b w && rank b == 1)) ≡ true = or_right _ _ mine in
    let no_other : not (is_variable b w) ≡ false = other_fails _ _ test two in
    ap (λ (x : List Statement). contains (variables x) w.bytes) (sym f.here.ended_is) ∙ not-false (is_variable b w) no_other

float_known_by : (e : List Statement) (s : Statement) (c : IsChecked e s) → (h : has_keyword (codes "$f") s ≡ true) → (us : List Word)
    → (shape s (codes "$f") h).us ≡ us → FloatKnown e (map (λ (w : Word). w.bytes) us)
float_known_by e s c h [] is = tt
float_known_by e s c h (w ∷ []) is = float_first e w _ (at_symbol e s (codes "$f") c h refl [] w [] is)
float_known_by e s c h (w ∷ v ∷ more) is =
    (float_first e w _ (at_symbol e s (codes "$f") c h refl [] w (v ∷ more) is), float_second e w v _ (at_symbol e s (codes "$f") c h refl (w ∷ []) v more is))

pub float_known : (e : List Statement) (s : Statement) → IsChecked e s → has_keyword (codes "$f") s ≡ true → FloatKnown e (symbols_in s)
float_known e s c h = subst (FloatKnown e) (sym (shape s (codes "$f") h).symbols_are) (float_known_by e s c h (shape s (codes "$f") h).us refl)
