-- The symbols of a frame's formulas are known at its place.
use Rattle.std.proofs.Common.{◌≡◌, ℕ, true, false, ◌&&◌, ◌||◌, List, [], ◌∷◌, ◌++◌, take, reverse, refl, sym, ap, ◌∙◌, subst, append_assoc, inl, inr, ◌⊎◌, codes}
use Rattle.std.specs.List.{AllByRecursion, list_any}
use Rattle.std.specs.Str.{bytes_eq}
use Rattle.std.proofs.lemmas.Bool.{and_parts, or_cases, or_left, or_right}
use Rattle.std.proofs.lemmas.List.Folds.{list_any-append}
use Rattle.mm_model.specs.Names.{Name}
use Rattle.mm_model.specs.Words.{Word}
use Rattle.mm_model.specs.Statements.{Statement, is, is_one_of, body, has_keyword, symbols_in, second, contains, constants, variables, typed, active}
use Rattle.mm_model.specs.Frames.{is_assertion, mandatory_hypotheses}
use Rattle.mm_model.proofs.Lists.{listed, listed-append, listed-cons, added}
use Rattle.model_laws.proofs.Checked.{EachBefore, IsChecked}
use Rattle.model_laws.proofs.Listed.{all-filter, all-reverse, all_with, all_pass, name_self}
use Rattle.model_laws.proofs.Shapes.{FloatIsNew, float_is_new}
use Rattle.model_laws.proofs.FrameFacts.{is_float, active_step, counts}
use Rattle.model_laws.proofs.Symbols.{Meant, FormulaKnown, formula_known, FloatKnown, float_known, IsAsserting}

-- ---- an active statement, and those that were active before it

pub record Located (e : List Statement) (h : Statement) (rest : List Statement) : Type 0 where
  pub before : List Statement
  pub checked : IsChecked before h
  pub front : List Statement
  pub stands : e ≡ front ++ h ∷ before
  pub rest_is : rest ≡ active before

located_more : (s : Statement) (e : List Statement) (h : Statement) (rest : List Statement) → Located e h rest → Located (s ∷ e) h rest
located_more s e h rest l = record { before = l.before; checked = l.checked; front = s ∷ l.front; stands = ap (λ x. s ∷ x) l.stands; rest_is = l.rest_is }

located_here : (s : Statement) (e : List Statement) → IsChecked e s → ((front : List Statement) (h : Statement) (rest : List Statement) → active e ≡ front ++ h ∷ rest → Located e h rest)
    → (front : List Statement) (h : Statement) (rest : List Statement) → s ∷ active e ≡ front ++ h ∷ rest → Located (s ∷ e) h rest
located_here s e c more [] h rest is =
    let same : s ≡ h = cc in
    let others : active e ≡ rest = cc in
    record { before = e; checked = subst (IsChecked e) same c; front = []; stands = ap (λ x. x ∷ e) same; rest_is = sym others }
located_here s e c more (x ∷ front) h rest is =
    let others : active e ≡ front ++ h ∷ rest = cc in
    located_more s e h rest (more front h rest others)

nothing : (front : List Statement) (h : Statement) (rest : List Statement) → [] ≡ front ++ h ∷ rest → ⊥
nothing [] h rest is = cc
nothing (x ∷ front) h rest is = cc

pub located : (e : List Statement) → EachBefore IsChecked e → (front : List Statement) (h : Statement) (rest : List Statement) → active e ≡ front ++ h ∷ rest → Located e h rest
located [] c front h rest is = absurd (nothing front h rest is)
located (s ∷ e) c front h rest is = elim (active_step s e) [
  | inl step ↦ located_here s e c.0 (located e c.1) front h rest (sym step ∙ is)
  | inr step ↦ located_more s e h rest (located e c.1 (step.front ++ front) h rest (step.eq ∙ ap (λ x. step.front ++ x) is ∙ sym (append_assoc step.front front (h ∷ rest))))
]

-- ---- what was known stays known

listed-right : (k : List ℕ) (f : Statement → List Name) (xs ys : List Statement) (n : Name) → contains (listed k f ys) n ≡ true → contains (listed k f (xs ++ ys)) n ≡ true
listed-right k f xs ys n h =
    ap (λ ns. contains ns n) (listed-append k f xs ys) ∙ list_any-append (bytes_eq n) (listed k f xs) (listed k f ys) ∙ or_right (contains (listed k f xs) n) (contains (listed k f ys) n) h

module _ (b : List Statement) (h : Statement) (front rest : List Statement) (is : active b ≡ front ++ h ∷ rest) (l : Located b h rest) where
  constant_stays : (n : Name) → contains (constants l.before) n ≡ true → contains (constants b) n ≡ true
  constant_stays n c =
      ap (λ x. contains (constants x) n) (l.stands ∙ sym (append_assoc l.front (h ∷ []) l.before)) ∙ listed-right (codes "$c") symbols_in (l.front ++ h ∷ []) l.before n c

  active_is : active b ≡ (front ++ h ∷ []) ++ active l.before
  active_is = is ∙ ap (λ x. front ++ h ∷ x) l.rest_is ∙ sym (append_assoc front (h ∷ []) (active l.before))

  variable_stays : (n : Name) → contains (variables l.before) n ≡ true → contains (variables b) n ≡ true
  variable_stays n c = ap (λ x. contains (listed (codes "$v") symbols_in x) n) active_is ∙ listed-right (codes "$v") symbols_in (front ++ h ∷ []) (active l.before) n c

  type_stays : (n : Name) → contains (typed l.before) n ≡ true → contains (typed b) n ≡ true
  type_stays n c =
      ap (λ x. contains (listed (codes "$f") (λ (s : Statement). second (symbols_in s)) x) n) active_is
      ∙ listed-right (codes "$f") (λ (s : Statement). second (symbols_in s)) (front ++ h ∷ []) (active l.before) n c

  meaning_stays : (n : Name) → Meant l.before n → Meant b n
  meaning_stays n m = elim m [ inl c ↦ inl (constant_stays n c) | inr v ↦ inr (variable_stays n v.0, type_stays n v.1) ]

  formula_stays : (ns : List Name) → FormulaKnown l.before ns → FormulaKnown b ns
  formula_stays [] k = tt
  formula_stays (c ∷ ns) k = (constant_stays c k.0, all_with (Meant l.before) (Meant b) meaning_stays ns k.1)

  -- the variable of an active `$f` has a typecode
  own_type : is_float h ≡ true → (v : Name) → contains (second (symbols_in h)) v ≡ true → contains (typed b) v ≡ true
  own_type f v c =
      let types : Statement → List Name = λ (s : Statement). second (symbols_in s) in
      let mine : contains (added (codes "$f") types h) v ≡ true = rw f c in
      let here : contains (listed (codes "$f") types (h ∷ active l.before)) v ≡ true =
      ap (λ ns. contains ns v) (listed-cons (codes "$f") types h (active l.before))
      ∙ list_any-append (bytes_eq v) (added (codes "$f") types h) (listed (codes "$f") types (active l.before))
      ∙ or_left (contains (added (codes "$f") types h) v) (contains (listed (codes "$f") types (active l.before)) v) mine in
      ap (λ x. contains (listed (codes "$f") types x) v) (is ∙ ap (λ x. front ++ h ∷ x) l.rest_is) ∙ listed-right (codes "$f") types front (h ∷ active l.before) v here

  float_stays : is_float h ≡ true → (ns : List Name) → symbols_in h ≡ ns → FloatIsNew l.before ns → FloatKnown l.before ns → FormulaKnown b ns
  float_stays f [] same new k = tt
  float_stays f (c ∷ []) same new k = (constant_stays c k, tt)
  float_stays f (c ∷ v ∷ []) same new k =
      let stands : contains (second (symbols_in h)) v ≡ true = ap (λ ns. contains (second ns) v) same ∙ rw (name_self v) refl in
      (constant_stays c k.0, (inr (variable_stays v k.1, own_type f v stands), tt))
  float_stays f (c ∷ v ∷ x ∷ ns) same new k = absurd new

-- the formula of each active hypothesis is known
abbrev pub HypothesisKnown : List Statement → Statement → Type 0
HypothesisKnown b h = (has_keyword (codes "$e") h ≡ true) ⊎ (is_float h ≡ true) → FormulaKnown b (symbols_in h)

hypothesis_by : (b : List Statement) (h : Statement) (front rest : List Statement) → active b ≡ front ++ h ∷ rest → Located b h rest → HypothesisKnown b h
hypothesis_by b h front rest is l (inl e) =
    let asserting : IsAsserting (codes "$e") = record { asserting = refl; labelled = refl; no_proof = refl } in
    formula_stays b h front rest is l (symbols_in h) (formula_known l.before h (codes "$e") l.checked e asserting)
hypothesis_by b h front rest is l (inr f) =
    float_stays b h front rest is l f (symbols_in h) refl (float_is_new l.before h l.checked f) (float_known l.before h l.checked f)

hypotheses_from : (b : List Statement) → EachBefore IsChecked b → (front rest : List Statement) → active b ≡ front ++ rest → AllByRecursion (HypothesisKnown b) rest
hypotheses_from b c front [] is = tt
hypotheses_from b c front (h ∷ rest) is =
    (hypothesis_by b h front rest is (located b c front h rest is), hypotheses_from b c (front ++ h ∷ []) rest (is ∙ sym (append_assoc front (h ∷ []) rest)))

pub hypotheses_known : (b : List Statement) → EachBefore IsChecked b → AllByRecursion (HypothesisKnown b) (active b)
hypotheses_known b c = hypotheses_from b c [] (active b) refl

-- ---- an assertion's own formula

pub either_keyword : (j k : List ℕ) (ws : List Word) → list_any (is_one_of (j ∷ k ∷ [])) ws ≡ true → (list_any (is j) ws ≡ true) ⊎ (list_any (is k) ws ≡ true)
either_keyword j k [] h = absurd cc
either_keyword j k (w ∷ ws) h = elim (or_cases (is_one_of (j ∷ k ∷ []) w) (list_any (is_one_of (j ∷ k ∷ [])) ws) h) [
  | inl d ↦ elim (or_cases (is j w) (is k w || false) d) [
    | inl a ↦ inl (or_left _ _ a)
    | inr a ↦ elim (or_cases (is k w) false a) [ inl g ↦ inr (or_left _ _ g) | inr g ↦ let bad : false ≡ true = g in absurd cc ]
  ]
  | inr d ↦ elim (either_keyword j k ws d) [ inl a ↦ inl (or_right _ _ a) | inr a ↦ inr (or_right _ _ a) ]
]

pub assertion_known : (b : List Statement) (s : Statement) → IsChecked b s → is_assertion s ≡ true → FormulaKnown b (symbols_in s)
assertion_known b s c h = elim (either_keyword (codes "$a") (codes "$p") (take 1 (body s)) h) [
  | inl a ↦ formula_known b s (codes "$a") c a (record { asserting = refl; labelled = refl; no_proof = refl })
  | inr p ↦ formula_known b s (codes "$p") c p (record { asserting = refl; labelled = refl; no_proof = refl })
]

counted : (mandatory : List Name) (hs : List Statement) (b : List Statement) → AllByRecursion (HypothesisKnown b) hs
    → AllByRecursion (λ h. counts mandatory h ≡ true) hs → AllByRecursion (λ h. FormulaKnown b (symbols_in h)) hs
counted mandatory [] b k c = tt
counted mandatory (h ∷ hs) b k c = (
  k.0 (elim (or_cases (has_keyword (codes "$e") h) (is_float h && list_any (contains mandatory) (second (symbols_in h))) c.0) [
    | inl e ↦ inl e
    | inr f ↦ inr (and_parts (is_float h) (list_any (contains mandatory) (second (symbols_in h))) f).0
  ]),
  counted mandatory hs b k.1 c.1,
)

-- the formula of each mandatory hypothesis is known
pub mandatory_known : (mandatory : List Name) (b : List Statement) → EachBefore IsChecked b → AllByRecursion (λ h. FormulaKnown b (symbols_in h)) (mandatory_hypotheses mandatory b)
mandatory_known mandatory b c =
    counted mandatory (mandatory_hypotheses mandatory b) b
    (all-filter (HypothesisKnown b) (counts mandatory) (reverse (active b)) (all-reverse (HypothesisKnown b) (active b) (hypotheses_known b c)))
    (all_pass (counts mandatory) (reverse (active b)))
