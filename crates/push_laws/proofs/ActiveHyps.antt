-- The active hypotheses at a place of a text without a fault: their labels differ, and are labels of no assertion.
use Rattle.std.proofs.Common.{◌≡◌, ◌+◌, ℕ, zero, suc, Bool, true, false, cond, ◌||◌, List, [], ◌∷◌, ◌++◌, length, map, take, reverse, Option, Some}
use Rattle.std.proofs.Common.{None, option_map, refl, sym, ap, ◌∙◌, arith, subst, inl, inr, ◌⊎◌, codes, get_or}
use Rattle.std.specs.Prelude.{nat_eq, Contains, position, nat_lt}
use Rattle.std.specs.List.{AllByRecursion, list_any, filter, slice_get, ends_with, position_or_len}
use Rattle.std.specs.Option.{option_and_then}
use Rattle.std.specs.Str.{bytes_eq}
use Rattle.std.proofs.lemmas.Bool.{cases_Bool, or_cases, or_left, or_right, both_ways, ltb-true}
use Rattle.std.proofs.lemmas.List.Folds.{list_any-append}
use Rattle.std.proofs.lemmas.List.Sums.{passes_at_first}
use Rattle.std.proofs.lemmas.Option.{slice_get-get_or}
use Rattle.mm_base.specs.declared.symbols.Label.{Label}
use Rattle.mm_model.specs.declared.frames.Hyp.{Hyp}
use Rattle.mm_model.specs.declared.frames.Frame.{Frame}
use Rattle.mm_model.specs.Names.{Name, label, label_named}
use Rattle.mm_model.specs.Words.{Word}
use Rattle.mm_model.specs.Statements.{Statement, body, labels_in, labels, has_keyword, symbols_in, contains, active, active_on, path}
use Rattle.mm_model.specs.Frames.{symbols, symbol_in, positions_from, below, label_in, hypothesis_of, is_hypothesis, is_assertion, frame_of, active_at}
use Rattle.mm_model.proofs.Lists.{labels-cons}
use Rattle.model_laws.proofs.Checked.{EachBefore, IsChecked}
use Rattle.model_laws.proofs.Shapes.{LabelIsNew, label_is_new}
use Rattle.model_laws.proofs.StatementFacts.{has_label}
use Rattle.model_laws.proofs.KnownFacts.{either_keyword}
use Rattle.model_laws.proofs.OwnLeaves.{members}
use Rattle.model_laws.proofs.Listed.{Pairwise, pairwise-filter, pairwise-reverse, all-reverse, all-filter, all_with, all_pass, same_names, name_self}
use Rattle.model_laws.proofs.FrameFacts.{one_keyword, FloatShort, IsShort, IsFrameAt, frame_known}
use Rattle.push_laws.proofs.Facts.{ShortFormula, ShortHyp, NamesUnlike}
use Rattle.push_laws.proofs.FrameApart.{all_on}
use Rattle.push_laws.proofs.Lists.{parted, first, later, all_of}

abbrev pub label_names : Statement → List Name
label_names s = map (λ (w : Word). w.bytes) (labels_in s)

abbrev pub LabelsApart : Statement → Statement → Type 0
LabelsApart s t = (n : Name) → contains (label_names s) n ≡ true → contains (label_names t) n ≡ true → ⊥

labels_any : (e : List Statement) (n : Name) → contains (labels e) n ≡ list_any (λ s. contains (label_names s) n) e
labels_any [] n = refl
labels_any (s ∷ e) n =
    ap (λ ns. contains ns n) (labels-cons s e) ∙ list_any-append (bytes_eq n) (label_names s) (labels e) ∙ ap (λ (b : Bool). contains (label_names s) n || b) (labels_any e n)

new_label : (e : List Statement) (ls : List Word) (n : Name) → LabelIsNew e ls → contains (map (λ (w : Word). w.bytes) ls) n ≡ true → contains (labels e) n ≡ false
new_label e [] n new h = absurd cc
new_label e (l ∷ []) n new h = elim (or_cases (bytes_eq n l.bytes) false h) [
  | inl d ↦ ap (contains (labels e)) (same_names n l.bytes d) ∙ new
  | inr d ↦ let bad : false ≡ true = d in absurd cc
]
new_label e (l ∷ m ∷ ls) n new h = absurd new

labels_apart : (e : List Statement) → EachBefore IsChecked e → Pairwise LabelsApart e
labels_apart [] h = tt
labels_apart (s ∷ e) h = (
  all_with _ (LabelsApart s)
      (λ t m n c d. both_ways (contains (labels e) n) (new_label e (labels_in s) n (label_is_new e s h.0) c)
      (labels_any e n ∙ m (λ x. contains (label_names x) n) d)) e
      (members [] e),
  labels_apart e h.1,
)

turned : (s t : Statement) → LabelsApart s t → LabelsApart t s
turned s t h n c d = h n d c

-- a label has one statement
owner : (xs : List Statement) (s : Statement) (n : Name) → Pairwise LabelsApart xs → Contains xs s → contains (label_names s) n ≡ true
    → AllByRecursion (λ t. contains (label_names t) n ≡ true → t ≡ s) xs
owner [] s n p c h = tt
owner (x ∷ xs) s n p c h = elim (parted s x xs c) [
  | inl e ↦ ((λ d. e), all_with (LabelsApart x) _ (λ t a d. absurd (a n (ap (λ y. contains (label_names y) n) e ∙ h) d)) xs p.0)
  | inr l ↦ ((λ d. absurd (all_of (LabelsApart x) xs s p.0 l n d h)), owner xs s n p.1 l h)
]

pub all_taken : {X : Type 0} (P : X → Type 0) (k : ℕ) (xs : List X) → AllByRecursion P xs → AllByRecursion P (take k xs)
all_taken P zero xs a = tt
all_taken P (suc k) [] a = tt
all_taken P (suc k) (x ∷ xs) a = (a.0, all_taken P k xs a.1)

pairwise_take : {X : Type 0} (R : X → X → Type 0) (k : ℕ) (xs : List X) → Pairwise R xs → Pairwise R (take k xs)
pairwise_take R zero xs p = tt
pairwise_take R (suc k) [] p = tt
pairwise_take R (suc k) (x ∷ xs) p = (all_taken (R x) k xs p.0, pairwise_take R k xs p.1)

pairwise_on : (R : Statement → Statement → Type 0) (p : List ℕ) (e : List Statement) → Pairwise R e → Pairwise R (active_on p e)
pairwise_on R p [] h = tt
pairwise_on R p (s ∷ e) h = elim (cases_Bool (ends_with nat_eq p (path e))) [
  | inl d ↦ rw d (all_on (R s) p e h.0, pairwise_on R p e h.1)
  | inr d ↦ rw d (pairwise_on R p e h.1)
]

-- ---- the statement of a label

record LabelAt (ss : List Statement) (a at : ℕ) (n : Name) : Type 0 where
  place : ℕ
  statement : Statement
  at_is : at ≡ a + place
  stands : slice_get ss place ≡ Some statement
  has : contains (label_names statement) n ≡ true

part : (a : ℕ) (ls : List Word) (ps : List ℕ) (ns : List Name) (k at : ℕ) (n : Name) → slice_get (map (λ (w : Word). a) ls ++ ps) k ≡ Some at
    → slice_get (map (λ (w : Word). w.bytes) ls ++ ns) k ≡ Some n
    → ((a ≡ at) × (contains (map (λ (w : Word). w.bytes) ls) n ≡ true)) ⊎ ((j : ℕ) × (slice_get ps j ≡ Some at) × (slice_get ns j ≡ Some n))
part a [] ps ns k at n p q = inr (k, p, q)
part a (l ∷ ls) ps ns zero at n p q = inl (let same : a ≡ at = cc in same, or_left _ _ (let named : l.bytes ≡ n = cc in subst (λ m. bytes_eq m l.bytes ≡ true) named (name_self l.bytes)))
part a (l ∷ ls) ps ns (suc k) at n p q = elim (part a ls ps ns k at n p q) [ inl d ↦ inl (d.0, or_right _ _ d.1) | inr d ↦ inr d ]

label_at : (ss : List Statement) (a k at : ℕ) (n : Name) → slice_get (positions_from a ss) k ≡ Some at → slice_get (labels ss) k ≡ Some n → LabelAt ss a at n
label_at [] a k at n p q = absurd cc
label_at (s ∷ ss) a k at n p q = elim (part a (labels_in s) (positions_from (suc a) ss) (labels ss) k at n p (subst (λ ns. slice_get ns k ≡ Some n) (labels-cons s ss) q)) [
  | inl d ↦ record { place = 0; statement = s; at_is = (let same = d.0 in omega (arith, same)); stands = refl; has = d.1 }
  | inr d ↦
      let r = label_at ss (suc a) d.0 at n d.1 d.2 in
      record { place = suc r.place; statement = r.statement; at_is = (let is = r.at_is in omega (arith, is)); stands = r.stands; has = r.has }
]

-- the statement of an assertion has its label
assertion_label : (ss : List Statement) (l : Label) (f : Frame) (n : Name) → (k : IsFrameAt ss l f) → slice_get (labels ss) l.0 ≡ Some n
    → (slice_get ss k.at ≡ Some k.statement) × (contains (label_names k.statement) n ≡ true)
assertion_label ss l f n k q =
    let r = label_at ss 0 l.0 k.at n k.position q in
    let same : r.place ≡ k.at = (let is = r.at_is in omega (arith, is)) in
    let one : Some r.statement ≡ Some k.statement = sym r.stands ∙ ap (slice_get ss) same ∙ k.stands in
    let it : r.statement ≡ k.statement = cc in
    (k.stands, ap (λ s. contains (label_names s) n) (sym it) ∙ r.has)

-- ---- hypotheses

pub hypothesis_keyword : (s : Statement) → is_hypothesis s ≡ true → (has_keyword (codes "$f") s ≡ true) ⊎ (has_keyword (codes "$e") s ≡ true)
hypothesis_keyword s h = either_keyword (codes "$f") (codes "$e") (take 1 (body s)) h

no_assertion_by : (s : Statement) (k : List ℕ) → has_keyword k s ≡ true → bytes_eq k (codes "$a") ≡ false → bytes_eq k (codes "$p") ≡ false → is_assertion s ≡ true → ⊥
no_assertion_by s k h a p i = elim (either_keyword (codes "$a") (codes "$p") (take 1 (body s)) i) [
  | inl d ↦ both_ways (has_keyword (codes "$a") s) (one_keyword s k (codes "$a") h a) d
  | inr d ↦ both_ways (has_keyword (codes "$p") s) (one_keyword s k (codes "$p") h p) d
]

no_assertion : (s : Statement) → is_hypothesis s ≡ true → is_assertion s ≡ true → ⊥
no_assertion s h i = elim (hypothesis_keyword s h) [
  | inl d ↦ no_assertion_by s (codes "$f") d refl refl i
  | inr d ↦ no_assertion_by s (codes "$e") d refl refl i
]

abbrev HasLabel : Statement → Type 0
HasLabel s = is_hypothesis s ≡ true → length (labels_in s) ≡ 1

have_labels : (e : List Statement) → EachBefore IsChecked e → AllByRecursion HasLabel e
have_labels [] h = tt
have_labels (s ∷ e) h = (
  (λ i. elim (hypothesis_keyword s i) [
    | inl d ↦ has_label e s h.0 (codes "$f") refl d
    | inr d ↦ has_label e s h.0 (codes "$e") refl d
  ]),
  have_labels e h.1,
)

own_label : (s : Statement) (ls : List Word) → labels_in s ≡ ls → length ls ≡ 1 → contains (label_names s) (label_in s) ≡ true
own_label s [] e h = let bad : ⊥ = omega (arith, h) in absurd bad
own_label s (w ∷ []) e h = rw e (or_left (bytes_eq w.bytes w.bytes) false (name_self w.bytes))
own_label s (w ∷ v ∷ ls) e h = let bad : ⊥ = omega (arith, h) in absurd bad

pub contains_in : (ns : List Name) (n : Name) → contains ns n ≡ true → Contains ns n
contains_in [] n h = absurd cc
contains_in (m ∷ ns) n h = elim (or_cases (bytes_eq n m) (contains ns n) h) [
  | inl d ↦ first n m ns (sym (same_names n m d))
  | inr d ↦ later n m ns (contains_in ns n d)
]

-- the number of a name is where it stands
pub position_stands : (names : List Name) (n : Name) (k : ℕ) → position (bytes_eq n) names ≡ Some k → slice_get names k ≡ Some n
position_stands names n k e = go (nat_lt (position_or_len (bytes_eq n) names) (length names)) refl e
  where
    go : (b : Bool) → nat_lt (position_or_len (bytes_eq n) names) (length names) ≡ b → cond b (Some (position_or_len (bytes_eq n) names)) None ≡ Some k → slice_get names k ≡ Some n
    go false is i = absurd cc
    go true is i =
        let less = ltb-true (position_or_len (bytes_eq n) names) (length names) is in
        let at : position_or_len (bytes_eq n) names ≡ k = cc in
        let named = same_names n (get_or names (position_or_len (bytes_eq n) names) []) (passes_at_first (bytes_eq n) names [] less) in
        subst (λ (j : ℕ). slice_get names j ≡ Some n) at (slice_get-get_or names (position_or_len (bytes_eq n) names) [] less ∙ ap (λ m. Some m) (sym named))

pub label_stands_at : (names : List Name) (n : Name) (l : Label) → label_named names n ≡ Some l → slice_get names l.0 ≡ Some n
label_stands_at names n l e = go (position (bytes_eq n) names) refl e
  where
    go : (o : Option ℕ) → position (bytes_eq n) names ≡ o → option_map label o ≡ Some l → slice_get names l.0 ≡ Some n
    go None is i = absurd cc
    go (Some k) is i = let at : k ≡ l.0 = ap (λ (o : Option Label). number o) i in subst (λ (j : ℕ). slice_get names j ≡ Some n) at (position_stands names n k is)
      where
        number : Option Label → ℕ
        number None = 0
        number (Some m) = m.0

short_by : (names : List Name) (ns : List Name) → IsShort ns → ShortFormula (map (symbol_in names) ns)
short_by names [] h = tt
short_by names (a ∷ []) h = tt
short_by names (a ∷ v ∷ []) h = tt
short_by names (a ∷ v ∷ x ∷ ns) h = h

module _ (e : List Statement) (all : EachBefore IsChecked e) (place : ℕ) (each : EachBefore IsChecked (below (reverse e) place)) where
  abbrev ss : List Statement
  ss = reverse e

  abbrev pub hs : List Statement
  hs = filter is_hypothesis (reverse (active (below ss place)))

  apart_all : Pairwise LabelsApart ss
  apart_all = pairwise-reverse LabelsApart turned e (labels_apart e all)

  pub to_hyps : (P : Statement → Type 0) → AllByRecursion P ss → AllByRecursion P hs
  to_hyps P a = all-filter P is_hypothesis (reverse (active (below ss place)))
      (all-reverse P (active (below ss place)) (all_on P (path (below ss place)) (below ss place) (all-reverse P (take place ss) (all_taken P place ss a))))

  apart_hyps : Pairwise LabelsApart hs
  apart_hyps = pairwise-filter LabelsApart is_hypothesis (reverse (active (below ss place)))
      (pairwise-reverse LabelsApart turned (active (below ss place)) (pairwise_on LabelsApart (path (below ss place)) (below ss place)
      (pairwise-reverse LabelsApart turned (take place ss) (pairwise_take LabelsApart place ss apart_all))))

  own_labels : AllByRecursion (λ s. contains (label_names s) (label_in s) ≡ true) hs
  own_labels = go hs (all_pass is_hypothesis (reverse (active (below ss place)))) (to_hyps HasLabel (all-reverse HasLabel e (have_labels e all)))
    where
      go : (xs : List Statement) → AllByRecursion (λ x. is_hypothesis x ≡ true) xs → AllByRecursion HasLabel xs → AllByRecursion (λ s. contains (label_names s) (label_in s) ≡ true) xs
      go [] a h = tt
      go (x ∷ xs) a h = (own_label x (labels_in x) refl (h.0 a.0), go xs a.1 h.1)

  stand_in_text : AllByRecursion (λ s. (q : Statement → Bool) → q s ≡ true → list_any q ss ≡ true) hs
  stand_in_text = to_hyps _ (members [] ss)

  map_all : (P : Hyp → Type 0) (xs : List Statement) → AllByRecursion (λ s. P (hypothesis_of (symbols ss) s)) xs → AllByRecursion P (map (hypothesis_of (symbols ss)) xs)
  map_all P [] a = tt
  map_all P (x ∷ xs) a = (a.0, map_all P xs a.1)

  pub labels_listed : AllByRecursion (λ (h : Hyp). Contains (labels ss) h.name) (active_at ss place).hyps
  labels_listed = map_all (λ (h : Hyp). Contains (labels ss) h.name) hs (go hs own_labels stand_in_text)
    where
      go : (xs : List Statement) → AllByRecursion (λ s. contains (label_names s) (label_in s) ≡ true) xs → AllByRecursion (λ s. (q : Statement → Bool) → q s ≡ true → list_any q ss ≡ true) xs
          → AllByRecursion (λ s. Contains (labels ss) (label_in s)) xs
      go [] a m = tt
      go (x ∷ xs) a m = (contains_in (labels ss) (label_in x) (labels_any ss (label_in x) ∙ m.0 (λ s. contains (label_names s) (label_in x)) a.0), go xs a.1 m.1)

  no_frame_of : (s : Statement) → is_hypothesis s ≡ true → contains (label_names s) (label_in s) ≡ true → ((t : Statement) → Contains ss t → contains (label_names t) (label_in s) ≡ true → s ≡ t)
      → option_and_then (frame_of ss) (label_named (labels ss) (label_in s)) ≡ None
  no_frame_of s h own one = go (label_named (labels ss) (label_in s)) refl
    where
      by_frame : (l : Label) → label_named (labels ss) (label_in s) ≡ Some l → (o : Option Frame) → frame_of ss l ≡ o → o ≡ None
      by_frame l is None e = refl
      by_frame l is (Some f) e =
          let k = frame_known ss l f e in
          let a = assertion_label ss l f (label_in s) k (label_stands_at (labels ss) (label_in s) l is) in
          let same = one k.statement (get_in ss k.at k.statement a.0) a.1 in
          absurd (no_assertion s h (ap is_assertion same ∙ k.assertion))
        where
          get_in : (xs : List Statement) (j : ℕ) (x : Statement) → slice_get xs j ≡ Some x → Contains xs x
          get_in [] j x i = absurd cc
          get_in (y ∷ ys) zero x i = first x y ys (let it : y ≡ x = cc in it)
          get_in (y ∷ ys) (suc j) x i = later x y ys (get_in ys j x i)

      go : (o : Option Label) → label_named (labels ss) (label_in s) ≡ o → option_and_then (frame_of ss) o ≡ None
      go None is = refl
      go (Some l) is = by_frame l is (frame_of ss l) refl

  -- a statement with a label of another is that other
  abbrev Owned : Statement → Type 0
  Owned s = (n : Name) (t : Statement) → Contains ss t → contains (label_names s) n ≡ true → contains (label_names t) n ≡ true → s ≡ t

  owned_by : (xs : List Statement)
      → ((t : Statement) (n : Name) → Contains ss t → contains (label_names t) n ≡ true
      → AllByRecursion (λ s. contains (label_names s) n ≡ true → s ≡ t) xs)
      → AllByRecursion Owned xs
  owned_by [] h = tt
  owned_by (x ∷ xs) h = ((λ n t c d o. (h t n c o).0 d), owned_by xs (λ t n c o. (h t n c o).1))

  pub no_frames : AllByRecursion (λ (h : Hyp). option_and_then (frame_of ss) (label_named (labels ss) h.name) ≡ None) (active_at ss place).hyps
  no_frames = map_all (λ (h : Hyp). option_and_then (frame_of ss) (label_named (labels ss) h.name) ≡ None) hs
      (go hs (all_pass is_hypothesis (reverse (active (below ss place)))) own_labels (to_hyps Owned (owned_by ss (λ t n c o. owner ss t n apart_all c o))))
    where
      go : (xs : List Statement) → AllByRecursion (λ x. is_hypothesis x ≡ true) xs → AllByRecursion (λ s. contains (label_names s) (label_in s) ≡ true) xs → AllByRecursion Owned xs
          → AllByRecursion (λ s. option_and_then (frame_of ss) (label_named (labels ss) (label_in s)) ≡ None) xs
      go [] a o w = tt
      go (x ∷ xs) a o w = (no_frame_of x a.0 o.0 (λ t c d. w.0 (label_in x) t c o.0 d), go xs a.1 o.1 w.1)

  pub names_differ : Pairwise NamesUnlike (active_at ss place).hyps
  names_differ = map_pairs hs apart_hyps own_labels
    where
      others : (s : Statement) → contains (label_names s) (label_in s) ≡ true → (xs : List Statement) → AllByRecursion (LabelsApart s) xs
          → AllByRecursion (λ x. contains (label_names x) (label_in x) ≡ true) xs
          → AllByRecursion (NamesUnlike (hypothesis_of (symbols ss) s)) (map (hypothesis_of (symbols ss)) xs)
      others s own [] a o = tt
      others s own (x ∷ xs) a o = ((λ same. a.0 (label_in s) own (subst (λ n. contains (label_names x) n ≡ true) (sym same) o.0)), others s own xs a.1 o.1)

      map_pairs : (xs : List Statement) → Pairwise LabelsApart xs → AllByRecursion (λ x. contains (label_names x) (label_in x) ≡ true) xs → Pairwise NamesUnlike (map (hypothesis_of (symbols ss)) xs)
      map_pairs [] p o = tt
      map_pairs (x ∷ xs) p o = (others x o.0 xs p.0 o.1, map_pairs xs p.1 o.1)

  pub are_short : AllByRecursion FloatShort hs → AllByRecursion ShortHyp (active_at ss place).hyps
  are_short a = map_all ShortHyp hs (all_with FloatShort _ (λ s short f. short_by (symbols ss) (symbols_in s) (short f)) hs a)
