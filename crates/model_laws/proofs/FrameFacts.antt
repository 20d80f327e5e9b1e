-- What holds of the frames of a text without a fault.
use Rattle.std.proofs.Common.{◌≡◌, ◌<◌, ℕ, Bool, true, false, cond, ◌||◌, ◌&&◌, List, [], ◌∷◌, ◌++◌, length, map, drop, reverse, Option, Some, None}
use Rattle.std.proofs.Common.{option_map, refl, sym, ap, ◌∙◌, arith, subst, inl, inr, flat_map, get_or, ◌⊎◌, codes, nat_eq}
use Rattle.std.specs.Option.{option_and_then}
use Rattle.std.specs.List.{AllByRecursion, slice_get, filter, list_any, position_or_len, ends_with}
use Rattle.std.specs.Str.{bytes_eq}
use Rattle.std.proofs.lemmas.Bool.{cases_Bool, or_parts, or_cases, both_ways}
use Rattle.std.proofs.lemmas.List.Folds.{list_any-append}
use Rattle.std.proofs.lemmas.List.Sums.{passes_at_first}
use Rattle.std.proofs.lemmas.Option.{cond_some, get_or_from_slice_get}
use Rattle.mm_base.specs.declared.symbols.Sym.{Sym}
use Rattle.mm_base.specs.declared.symbols.Label.{Label}
use Rattle.mm_model.specs.declared.frames.Hyp.{Hyp}
use Rattle.mm_model.specs.declared.frames.Frame.{Frame}
use Rattle.mm_model.specs.Names.{Name, typecode}
use Rattle.mm_model.specs.Statements.{Statement, is, has_keyword, with_keyword, symbols_in, second, contains, path, active, active_on}
use Rattle.mm_model.specs.Frames.{symbols, symbol_in, positions, position_of, below, hypothesis_of, formula_of, mandatory_variables}
use Rattle.mm_model.specs.Frames.{mandatory_hypotheses, frame_at, frame_of, statement_of, is_assertion}
use Rattle.mm_model.specs.Productions.{TypedVariable, typed_by, typed_variables, floats}
use Rattle.mm_model.specs.BookFacts.{float_formula, VariablesDiffer}
use Rattle.mm_model.proofs.Scopes.{active-open, active-plain, active-close, active_on-keep, path-close, nested, EndsIn}
use Rattle.model_laws.proofs.Checked.{EachBefore, IsChecked, found}
use Rattle.model_laws.proofs.Shapes.{shape, FloatIsNew, float_is_new}
use Rattle.model_laws.proofs.Listed.{all-filter, all-reverse, all_pass, all_with, Pairwise, pairwise-filter, pairwise-reverse, pairwise_right}
use Rattle.model_laws.proofs.Listed.{places_differ, same_names, name_self, contains-filter, first_within}

abbrev pub is_float : Statement → Bool
is_float s = has_keyword (codes "$f") s

-- a statement has one keyword
pub one_keyword : (s : Statement) (j k : List ℕ) → has_keyword j s ≡ true → bytes_eq j k ≡ false → has_keyword k s ≡ false
one_keyword s j k h differ =
    let sh = shape s j h in
    let is_j : sh.kw.bytes ≡ j = same_names sh.kw.bytes j (sym (sh.keyword_is j) ∙ h) in
    sh.keyword_is k ∙ ap (λ (bs : List ℕ). bytes_eq bs k) is_j ∙ differ

-- ---- what a statement makes of the active ones

close_none : (s : Statement) (e : List Statement) → has_keyword (codes "${") s ≡ false → has_keyword (codes "$}") s ≡ true → path e ≡ [] → active (s ∷ e) ≡ s ∷ active e
close_none s e o c none =
    let same : path (s ∷ e) ≡ path e = path-close s e o c ∙ ap (λ (p : List ℕ). drop 1 p) none ∙ sym none in
    ap (λ (p : List ℕ). active_on p (s ∷ e)) same ∙ active_on-keep s e

close_by : (s : Statement) (e : List Statement) (p : List ℕ) → path e ≡ p → has_keyword (codes "${") s ≡ false → has_keyword (codes "$}") s ≡ true
    → (active (s ∷ e) ≡ s ∷ active e) ⊎ EndsIn (active e) (active (s ∷ e))
close_by s e [] is o c = inl (close_none s e o c is)
close_by s e (n ∷ p) is o c =
    let deep : 0 < length (path e) = subst (λ (q : List ℕ). 0 < length q) (sym is) (omega arith) in
    let i = nested e 0 deep in
    inr (record { front = i.front; eq = i.eq ∙ ap (λ x. i.front ++ x) (sym (active-close s e o c deep)) })

-- it is put before them, or some of the first are taken off
pub active_step : (s : Statement) (e : List Statement) → (active (s ∷ e) ≡ s ∷ active e) ⊎ EndsIn (active e) (active (s ∷ e))
active_step s e = elim (cases_Bool (has_keyword (codes "${") s)) [
  | inl o ↦ inl (active-open s e o)
  | inr o ↦ elim (cases_Bool (has_keyword (codes "$}") s)) [
    | inl c ↦ close_by s e (path e) refl o c
    | inr c ↦ inl (active-plain s e o c)
  ]
]

-- what holds of each statement holds of each active one
pub all_active : (P : Statement → Type 0) (e : List Statement) → EachBefore (λ b s. P s) e → (p : List ℕ) → AllByRecursion P (active_on p e)
all_active P [] h p = tt
all_active P (s ∷ e) h p = elim (cases_Bool (ends_with nat_eq p (path e))) [
  | inl d ↦ rw d (h.0, all_active P e h.1 p)
  | inr d ↦ rw d (all_active P e h.1 p)
]

pub each_with : (P Q : List Statement → Statement → Type 0) → ((b : List Statement) (s : Statement) → P b s → Q b s) → (e : List Statement) → EachBefore P e → EachBefore Q e
each_with P Q f [] h = tt
each_with P Q f (s ∷ e) h = (f e s h.0, each_with P Q f e h.1)

-- ---- active `$f` have variables of their own

abbrev pub Apart : Statement → Statement → Type 0
Apart s t = is_float s ≡ true → is_float t ≡ true → (v : Name) → contains (second (symbols_in s)) v ≡ true → contains (second (symbols_in t)) v ≡ true → ⊥

apart_turned : (s t : Statement) → Apart s t → Apart t s
apart_turned s t h f g v c d = h g f v d c

abbrev types : Statement → List Name
types s = second (symbols_in s)

apart_none : (s : Statement) → types s ≡ [] → (hs : List Statement) → AllByRecursion (Apart s) hs
apart_none s none [] = tt
apart_none s none (h ∷ hs) = ((λ f g v c d. let bad : false ≡ true = sym (ap (λ ns. contains ns v) none) ∙ c in absurd cc), apart_none s none hs)

apart_one : (s : Statement) (v : Name) → types s ≡ v ∷ [] → (hs : List Statement) → contains (flat_map types (with_keyword (codes "$f") hs)) v ≡ false → AllByRecursion (Apart s) hs
apart_one s v is [] none = tt
apart_one s v is (h ∷ hs) none = elim (cases_Bool (is_float h)) [
  | inl d ↦
      let two : contains (types h ++ flat_map types (with_keyword (codes "$f") hs)) v ≡ false = rw d at none in
      let halves =
      or_parts (contains (types h) v) (contains (flat_map types (with_keyword (codes "$f") hs)) v)
      (sym (list_any-append (bytes_eq v) (types h) (flat_map types (with_keyword (codes "$f") hs))) ∙ two) in (
        (λ f g u c there.
            let in_one : contains (v ∷ []) u ≡ true = sym (ap (λ ns. contains ns u) is) ∙ c in
            let same : u ≡ v = only u v in_one in
            both_ways (contains (types h) v) halves.0 (subst (λ (x : Name). contains (types h) x ≡ true) same there)),
        apart_one s v is hs halves.1,
      )
  | inr d ↦ ((λ f g u c there. both_ways (is_float h) d g), apart_one s v is hs (rw d at none))
]
  where
    only : (u v : Name) → contains (v ∷ []) u ≡ true → u ≡ v
    only u v e = elim (or_cases (bytes_eq u v) false e) [
      | inl t ↦ same_names u v t
      | inr t ↦ let bad : false ≡ true = t in absurd cc
    ]

apart_by : (e : List Statement) (s : Statement) (ns : List Name) → symbols_in s ≡ ns → FloatIsNew e ns → AllByRecursion (Apart s) (active e)
apart_by e s [] is h = apart_none s (ap second is) (active e)
apart_by e s (a ∷ []) is h = apart_none s (ap second is) (active e)
apart_by e s (a ∷ v ∷ []) is h = apart_one s v (ap second is) (active e) h
apart_by e s (a ∷ v ∷ x ∷ ns) is h = absurd h

apart_new : (e : List Statement) (s : Statement) → IsChecked e s → AllByRecursion (Apart s) (active e)
apart_new e s c = elim (cases_Bool (is_float s)) [
  | inl f ↦ apart_by e s (symbols_in s) refl (float_is_new e s c f)
  | inr f ↦ all_with (λ t. Unit {0}) (Apart s) (λ t u g. absurd (both_ways (is_float s) f g)) (active e) (units (active e))
]
  where
    units : (hs : List Statement) → AllByRecursion (λ (t : Statement). Unit {0}) hs
    units [] = tt
    units (h ∷ hs) = (tt, units hs)

pub floats_apart : (e : List Statement) → EachBefore IsChecked e → Pairwise Apart (active e)
floats_apart [] h = tt
floats_apart (s ∷ e) h = elim (active_step s e) [
  | inl is ↦ subst (Pairwise Apart) (sym is) (apart_new e s h.0, floats_apart e h.1)
  | inr is ↦ pairwise_right Apart is.front (active (s ∷ e)) (subst (Pairwise Apart) is.eq (floats_apart e h.1))
]

-- ---- a `$f` of a frame has two symbols, of which the second is mandatory

abbrev pub IsShort : List Name → Type 0
IsShort [] = Unit {0}
IsShort (a ∷ []) = Unit {0}
IsShort (a ∷ v ∷ []) = Unit {0}
IsShort (a ∷ v ∷ x ∷ ns) = ⊥

abbrev pub FloatShort : Statement → Type 0
FloatShort s = is_float s ≡ true → IsShort (symbols_in s)

short_by : (e : List Statement) (ns : List Name) → FloatIsNew e ns → IsShort ns
short_by e [] h = tt
short_by e (a ∷ []) h = tt
short_by e (a ∷ v ∷ []) h = tt
short_by e (a ∷ v ∷ x ∷ ns) h = h

pub floats_short : (e : List Statement) → EachBefore IsChecked e → AllByRecursion FloatShort (active e)
floats_short e h = all_active FloatShort e (each_with IsChecked (λ b s. FloatShort s) (λ b s c f. short_by b (symbols_in s) (float_is_new b s c f)) e h) (path e)

pub record IsMandatory (mandatory : List Name) (h : Statement) : Type 0 where
  pub code : Name
  pub variable : Name
  pub symbols : symbols_in h ≡ code ∷ variable ∷ []
  pub listed : contains mandatory variable ≡ true

abbrev pub counts : List Name → Statement → Bool
counts mandatory h = has_keyword (codes "$e") h || (is_float h && list_any (contains mandatory) (second (symbols_in h)))

mandatory_by : (mandatory : List Name) (h : Statement) (ns : List Name) → symbols_in h ≡ ns → IsShort ns → list_any (contains mandatory) (second ns) ≡ true → IsMandatory mandatory h
mandatory_by mandatory h [] is short e = absurd cc
mandatory_by mandatory h (a ∷ []) is short e = absurd cc
mandatory_by mandatory h (a ∷ v ∷ []) is short e = record { code = a; variable = v; symbols = is; listed = single (contains mandatory v) e }
  where
    single : (b : Bool) → (b || false) ≡ true → b ≡ true
    single true e = refl
    single false e = e
mandatory_by mandatory h (a ∷ v ∷ x ∷ ns) is short e = absurd short

mandatory_is : (mandatory : List Name) (h : Statement) → FloatShort h → counts mandatory h ≡ true → is_float h ≡ true → IsMandatory mandatory h
mandatory_is mandatory h short c f =
    let none : has_keyword (codes "$e") h ≡ false = one_keyword h (codes "$f") (codes "$e") f refl in
    let has : list_any (contains mandatory) (second (symbols_in h)) ≡ true = rw (none, f) at c in
    mandatory_by mandatory h (symbols_in h) refl (short f) has

-- the `$f` among the mandatory hypotheses
abbrev pub floats_of : List Name → List Statement → List Statement
floats_of mandatory b = filter is_float (mandatory_hypotheses mandatory b)

both_facts : (mandatory : List Name) (hs : List Statement) → AllByRecursion FloatShort hs → AllByRecursion (λ h. counts mandatory h ≡ true) hs
    → AllByRecursion (λ h. is_float h ≡ true) hs → AllByRecursion (IsMandatory mandatory) hs
both_facts mandatory [] a b c = tt
both_facts mandatory (h ∷ hs) a b c = (mandatory_is mandatory h a.0 b.0 c.0, both_facts mandatory hs a.1 b.1 c.1)

pub floats_mandatory : (mandatory : List Name) (b : List Statement) → EachBefore IsChecked b → AllByRecursion (IsMandatory mandatory) (floats_of mandatory b)
floats_mandatory mandatory b h =
    let hs = reverse (active b) in
    let kept = filter (counts mandatory) hs in
    both_facts mandatory (filter is_float kept)
    (all-filter FloatShort is_float kept (all-filter FloatShort (counts mandatory) hs (all-reverse FloatShort (active b) (floats_short b h))))
    (all-filter (λ x. counts mandatory x ≡ true) is_float kept (all_pass (counts mandatory) hs))
    (all_pass is_float kept)

pub floats_differ : (mandatory : List Name) (b : List Statement) → EachBefore IsChecked b → Pairwise Apart (floats_of mandatory b)
floats_differ mandatory b h =
    pairwise-filter Apart is_float (mandatory_hypotheses mandatory b)
    (pairwise-filter Apart (counts mandatory) (reverse (active b)) (pairwise-reverse Apart apart_turned (active b) (floats_apart b h)))

pub floats_are : (mandatory : List Name) (b : List Statement) → AllByRecursion (λ h. is_float h ≡ true) (floats_of mandatory b)
floats_are mandatory b = all_pass is_float (mandatory_hypotheses mandatory b)

-- ---- numbers of names

-- names with one number are one
pub same_number : (names : List Name) (a b : Name) → contains names a ≡ true → contains names b ≡ true → symbol_in names a ≡ symbol_in names b → a ≡ b
same_number names a b ha hb e =
    let places : position_or_len (bytes_eq a) names ≡ position_or_len (bytes_eq b) names = ap (λ (s : Sym). s.0) e in
    let first = same_names a (get_or names (position_or_len (bytes_eq a) names) []) (passes_at_first (bytes_eq a) names [] (first_within (bytes_eq a) names ha)) in
    let second' = same_names b (get_or names (position_or_len (bytes_eq b) names) []) (passes_at_first (bytes_eq b) names [] (first_within (bytes_eq b) names hb)) in
    first ∙ ap (λ (k : ℕ). get_or names k []) places ∙ sym second'

-- ---- the variables of a frame

module _ (names mandatory : List Name) where
  abbrev pub hypotheses : List Statement → List Hyp
  hypotheses hs = map (hypothesis_of names) hs

  -- the variable of a `$f`
  abbrev pub variable_of : (h : Statement) → IsMandatory mandatory h → TypedVariable
  variable_of h m = record { sym = symbol_in names m.variable; code = typecode (symbol_in names m.code) }

  typed_here : (h : Statement) → (m : IsMandatory mandatory h) → typed_by (formula_of names h) ≡ variable_of h m ∷ []
  typed_here h m = ap (λ ns. typed_by (map (symbol_in names) ns)) m.symbols

  formula_here : (h : Statement) → (m : IsMandatory mandatory h) → formula_of names h ≡ float_formula (variable_of h m)
  formula_here h m = ap (λ ns. map (symbol_in names) ns) m.symbols

  abbrev pub typed_list : List Statement → List TypedVariable
  typed_list hs = flat_map (λ (h : Hyp). typed_by h.formula) (hypotheses hs)

  pub typed_list-cons : (h : Statement) (hs : List Statement) → (m : IsMandatory mandatory h) → typed_list (h ∷ hs) ≡ variable_of h m ∷ typed_list hs
  typed_list-cons h hs m = ap (λ vs. vs ++ typed_list hs) (typed_here h m)

  pub formulas_are : (hs : List Statement) → AllByRecursion (IsMandatory mandatory) hs → map (λ (h : Hyp). h.formula) (hypotheses hs) ≡ map float_formula (typed_list hs)
  formulas_are [] m = refl
  formulas_are (h ∷ hs) m =
      ap (λ f. f ∷ map (λ (x : Hyp). x.formula) (hypotheses hs)) (formula_here h m.0)
      ∙ ap (λ fs. float_formula (variable_of h m.0) ∷ fs) (formulas_are hs m.1)
      ∙ ap (λ vs. map float_formula vs) (sym (typed_list-cons h hs m.0))

  abbrev pub Other : TypedVariable → TypedVariable → Type 0
  Other v w = v.sym ≡ w.sym → ⊥

  others : (known : (n : Name) → contains mandatory n ≡ true → contains names n ≡ true) → (h : Statement) → is_float h ≡ true → (m : IsMandatory mandatory h)
      → (hs : List Statement) → AllByRecursion (λ x. is_float x ≡ true) hs → AllByRecursion (IsMandatory mandatory) hs → AllByRecursion (Apart h) hs
      → AllByRecursion (Other (variable_of h m)) (typed_list hs)
  others known h f m [] fs ms apart = tt
  others known h f m (x ∷ hs) fs ms apart =
      let stands : contains (second (symbols_in h)) m.variable ≡ true = ap (λ ns. contains (second ns) m.variable) m.symbols ∙ alone m.variable in
      let there : contains (second (symbols_in x)) ms.0.variable ≡ true = ap (λ ns. contains (second ns) ms.0.variable) ms.0.symbols ∙ alone ms.0.variable in
      subst (AllByRecursion (Other (variable_of h m))) (sym (typed_list-cons x hs ms.0)) (
        (λ same.
            let one : m.variable ≡ ms.0.variable = same_number names m.variable ms.0.variable (known m.variable m.listed) (known ms.0.variable ms.0.listed) same in
            apart.0 f fs.0 m.variable stands (subst (λ (v : Name). contains (second (symbols_in x)) v ≡ true) (sym one) there)),
        others known h f m hs fs.1 ms.1 apart.1,
      )
    where
      alone : (v : Name) → contains (v ∷ []) v ≡ true
      alone v = rw (name_self v) refl

  pub variables_apart : (known : (n : Name) → contains mandatory n ≡ true → contains names n ≡ true)
      → (hs : List Statement) → AllByRecursion (λ x. is_float x ≡ true) hs → AllByRecursion (IsMandatory mandatory) hs → Pairwise Apart hs → Pairwise Other (typed_list hs)
  variables_apart known [] fs ms apart = tt
  variables_apart known (h ∷ hs) fs ms apart =
      subst (Pairwise Other) (sym (typed_list-cons h hs ms.0))
      (others known h fs.0 ms.0 hs fs.1 ms.1 apart.0, variables_apart known hs fs.1 ms.1 apart.1)

pub filter-map : {X Y : Type 0} (p : Y → Bool) (f : X → Y) (xs : List X) → filter p (map f xs) ≡ map f (filter (λ x. p (f x)) xs)
filter-map p f [] = refl
filter-map p f (x ∷ xs) = elim (cases_Bool (p (f x))) [
  | inl d ↦ rw d (ap (λ ys. f x ∷ ys) (filter-map p f xs))
  | inr d ↦ rw d (filter-map p f xs)
]

-- ---- a frame and its statement

pub record IsFrameAt (ss : List Statement) (l : Label) (f : Frame) : Type 0 where
  pub at : ℕ
  pub statement : Statement
  pub position : slice_get (positions ss) l.0 ≡ Some at
  pub stands : slice_get ss at ≡ Some statement
  pub assertion : is_assertion statement ≡ true
  pub frame : frame_at ss l at statement ≡ f

pub and_then : {A B : Type 0} (f : A → Option B) (o : Option A) (y : B) → option_and_then f o ≡ Some y → (x : A) × (o ≡ Some x) × (f x ≡ Some y)
and_then f None y e = absurd cc
and_then f (Some x) y e = (x, refl, e)

mapped : {A B : Type 0} (f : A → B) (o : Option A) (y : B) → option_map f o ≡ Some y → (x : A) × (o ≡ Some x) × (f x ≡ y)
mapped f None y e = absurd cc
mapped f (Some x) y e = (x, refl, cc)

frame_known_by : (ss : List Statement) (l : Label) (f : Frame) (at : ℕ) (s : Statement) → slice_get (positions ss) l.0 ≡ Some at
    → slice_get ss at ≡ Some s → cond (is_assertion s) (Some (frame_at ss l at s)) None ≡ Some f → IsFrameAt ss l f
frame_known_by ss l f at s p q e = let both = cond_some (is_assertion s) (frame_at ss l at s) f e in record { at = at; statement = s; position = p; stands = q; assertion = both.0; frame = both.1 }

pub frame_known : (ss : List Statement) (l : Label) (f : Frame) → frame_of ss l ≡ Some f → IsFrameAt ss l f
frame_known ss l f e =
    let one = and_then (λ (p : ℕ × Statement). cond (is_assertion p.1) (Some (frame_at ss l p.0 p.1)) None) (statement_of ss l) f e in
    let two = and_then (λ (at : ℕ). option_map (λ (s : Statement). let p : ℕ × Statement = (at, s) in p) (slice_get ss at)) (slice_get (positions ss) l.0) one.0 one.1 in
    let three = mapped (λ (s : Statement). let p : ℕ × Statement = (two.0, s) in p) (slice_get ss two.0) one.0 two.2 in
    frame_known_by ss l f two.0 three.0 two.1 three.1 (subst (λ (p : ℕ × Statement). cond (is_assertion p.1) (Some (frame_at ss l p.0 p.1)) None ≡ Some f) (sym three.2) one.2)

-- ---- the facts of a frame

pub record Facts (ss : List Statement) (l : Label) (f : Frame) : Type 0 where
  pub label : f.label ≡ l
  pub at : f.at ≡ position_of ss l
  pub floats : map (λ (h : Hyp). h.formula) (floats f.hyps) ≡ map float_formula (typed_variables f.hyps)
  pub variables : VariablesDiffer (typed_variables f.hyps)

variables_differ : (vars : List TypedVariable) → Pairwise (λ v w. v.sym ≡ w.sym → ⊥) vars → VariablesDiffer vars
variables_differ vars h i j v w e f s =
    places_differ (λ (a b : TypedVariable). a.sym ≡ b.sym → ⊥) (λ (a b : TypedVariable). a.sym ≡ b.sym) (λ a b s. sym s) (λ a b r s. r s) vars h i j v w e f s

abbrev pub mandatory_at : List Statement → ℕ → Statement → List Name
mandatory_at ss at s = mandatory_variables (symbols ss) (below ss at) s

-- the `$f` of a frame, as hypotheses
pub floats_at : (ss : List Statement) (l : Label) (at : ℕ) (s : Statement)
    → floats (frame_at ss l at s).hyps ≡ hypotheses (symbols ss) (mandatory_at ss at s) (floats_of (mandatory_at ss at s) (below ss at))
floats_at ss l at s = filter-map (λ (h : Hyp). h.floating) (hypothesis_of (symbols ss)) (mandatory_hypotheses (mandatory_at ss at s) (below ss at))

pub typed_at : (ss : List Statement) (l : Label) (at : ℕ) (s : Statement)
    → typed_variables (frame_at ss l at s).hyps ≡ typed_list (symbols ss) (mandatory_at ss at s) (floats_of (mandatory_at ss at s) (below ss at))
typed_at ss l at s = ap (λ hs. flat_map (λ (h : Hyp). typed_by h.formula) hs) (floats_at ss l at s)

pub known_at : (ss : List Statement) (at : ℕ) (s : Statement) (n : Name) → contains (mandatory_at ss at s) n ≡ true → contains (symbols ss) n ≡ true
known_at ss at s n e = contains-filter _ (symbols ss) n e

pub facts_at : (ss : List Statement) (l : Label) (at : ℕ) (s : Statement) → EachBefore IsChecked (below ss at) → slice_get (positions ss) l.0 ≡ Some at → Facts ss l (frame_at ss l at s)
facts_at ss l at s h position =
    let names = symbols ss in
    let mandatory = mandatory_at ss at s in
    let hs = floats_of mandatory (below ss at) in
    let ms = floats_mandatory mandatory (below ss at) h in
    record {
      label = refl;
      at = sym (get_or_from_slice_get (positions ss) l.0 at 0 position);
      floats = ap (λ xs. map (λ (x : Hyp). x.formula) xs) (floats_at ss l at s) ∙ formulas_are names mandatory hs ms ∙ ap (λ vs. map float_formula vs) (sym (typed_at ss l at s));
      variables = subst VariablesDiffer (sym (typed_at ss l at s))
          (variables_differ (typed_list names mandatory hs)
          (variables_apart names mandatory (known_at ss at s) hs (floats_are mandatory (below ss at)) ms (floats_differ mandatory (below ss at) h)));
    }

-- the statements of a text without a fault
pub frame_facts : (e : List Statement) → EachBefore IsChecked e → (l : Label) (f : Frame) → frame_of (reverse e) l ≡ Some f → Facts (reverse e) l f
frame_facts e h l f is =
    let k = frame_known (reverse e) l f is in
    let there = found IsChecked e k.at k.statement h k.stands in
    subst (Facts (reverse e) l) k.frame (facts_at (reverse e) l k.at k.statement there.before k.position)
