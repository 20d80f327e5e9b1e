-- The kind of a statement by its keyword.
use Rattle.std.proofs.Common.{◌≡◌, ℕ, Bool, true, false, cond, ◌||◌, List, ◌∷◌, [], take, refl, sym, ap, ◌∙◌, inl, inr, codes}
use Rattle.std.specs.List.{list_any}
use Rattle.std.specs.Str.{bytes_eq}
use Rattle.std.proofs.lemmas.Bool.{cases_Bool}
use Rattle.std.proofs.lemmas.Slice.Eq.{bytes_eq-Decides}
use Rattle.mm_model.specs.Words.{Word}
use Rattle.mm_model.specs.Frames as model
use Rattle.mm_model.specs.Statements.{Statement, has_keyword, has_one_of, is, is_one_of, body}
use Rattle.frame_lists.specs.declared.entry.EntryKind.{EntryKind}
use Rattle.frame_lists.specs.declared.entry.EntryKind.TheVariants as entry
use Rattle.frame_lists.specs.declared.entry.StatementKind.TheVariants as kind
use Rattle.frame_lists.specs.declared.entry.StatementKind.{StatementKind}
use Rattle.frame_lists.specs.Entries.{kind_in}
use Rattle.frame_lists.specs.Places.{is_constants}
use Rattle.model_laws.specs.StatementLaws.{statement_keywords}
use Rattle.frame_lists.specs.Steps.{is_floating, is_axiom, is_assertion}

abbrev pub is_open : EntryKind → Bool
is_open entry.OpenBlock = true
is_open k = false

abbrev pub is_close : EntryKind → Bool
is_close entry.CloseBlock = true
is_close k = false

abbrev pub is_variables : EntryKind → Bool
is_variables (entry.Statement kind.Variables) = true
is_variables k = false

abbrev pub is_distinct : EntryKind → Bool
is_distinct (entry.Statement kind.Distinct) = true
is_distinct k = false

abbrev pub is_essential : EntryKind → Bool
is_essential (entry.Statement kind.Essential) = true
is_essential k = false

abbrev pub is_provable : EntryKind → Bool
is_provable (entry.Statement kind.Provable) = true
is_provable k = false

-- a statement has one keyword
one_keyword : (s : Statement) (j k : List ℕ) → has_keyword j s ≡ true → bytes_eq j k ≡ false → has_keyword k s ≡ false
one_keyword s j k h differ = go (body s) h
  where
    go : (ws : List Word) → list_any (is j) (take 1 ws) ≡ true → list_any (is k) (take 1 ws) ≡ false
    go [] h = absurd cc
    go (w ∷ ws) h = elim (cases_Bool (is j w)) [
      | inl e ↦ let other : is k w ≡ false = ap (λ (bs : List ℕ). bytes_eq bs k) ((bytes_eq-Decides w.bytes j).0 e) ∙ differ in rw other refl
      | inr e ↦ let bad : false ≡ true = rw e at h in absurd cc
    ]

pick : {K : Type 0} (t : K → Bool) (b : Bool) (x y : K) → t x ≡ false → t y ≡ false → t (cond b x y) ≡ false
pick t true x y h k = h
pick t false x y h k = k

past : {K : Type 0} (t : K → Bool) (b : Bool) (x y : K) → b ≡ false → t y ≡ false → t (cond b x y) ≡ false
past t true x y h k = absurd cc
past t false x y h k = k

-- the kind, where the first tests fail
abbrev from9 : Statement → StatementKind
from9 s = kind.Constants

abbrev from8 : Statement → StatementKind
from8 s = cond (has_keyword (codes "$p") s) kind.Provable (from9 s)

abbrev from7 : Statement → StatementKind
from7 s = cond (has_keyword (codes "$a") s) kind.Axiom (from8 s)

abbrev from6 : Statement → StatementKind
from6 s = cond (has_keyword (codes "$e") s) kind.Essential (from7 s)

abbrev from5 : Statement → StatementKind
from5 s = cond (has_keyword (codes "$f") s) kind.Floating (from6 s)

abbrev from4 : Statement → StatementKind
from4 s = cond (has_keyword (codes "$d") s) kind.Distinct (from5 s)

abbrev from3 : Statement → StatementKind
from3 s = cond (has_keyword (codes "$v") s) kind.Variables (from4 s)

abbrev from2 : Statement → StatementKind
from2 s = cond (has_keyword (codes "$c") s) kind.Constants (from3 s)

abbrev from1 : Statement → EntryKind
from1 s = cond (has_keyword (codes "$}") s) (entry.CloseBlock) (entry.Statement (from2 s))

abbrev from0 : Statement → EntryKind
from0 s = cond (has_keyword (codes "${") s) (entry.OpenBlock) (from1 s)

pub kind-is_variables : (s : Statement) → has_keyword (codes "$v") s ≡ is_variables (kind_in s)
kind-is_variables s = elim (cases_Bool (has_keyword (codes "$v") s)) [
  | inl h ↦ rw (one_keyword s (codes "$v") (codes "${") h refl, one_keyword s (codes "$v") (codes "$}") h refl, one_keyword s (codes "$v") (codes "$c") h refl, h) refl
  | inr h ↦ h
      ∙ sym
      (pick is_variables (has_keyword (codes "${") s) (entry.OpenBlock) (from1 s) refl
      (pick is_variables (has_keyword (codes "$}") s) (entry.CloseBlock) (entry.Statement (from2 s)) refl
      (pick (λ k. is_variables (entry.Statement k)) (has_keyword (codes "$c") s) (kind.Constants) (from3 s) refl
      (past (λ k. is_variables (entry.Statement k)) (has_keyword (codes "$v") s) (kind.Variables) (from4 s) h
      (pick (λ k. is_variables (entry.Statement k)) (has_keyword (codes "$d") s) (kind.Distinct) (from5 s) refl
      (pick (λ k. is_variables (entry.Statement k)) (has_keyword (codes "$f") s) (kind.Floating) (from6 s) refl
      (pick (λ k. is_variables (entry.Statement k)) (has_keyword (codes "$e") s) (kind.Essential) (from7 s) refl
      (pick (λ k. is_variables (entry.Statement k)) (has_keyword (codes "$a") s) (kind.Axiom) (from8 s) refl
      (pick (λ k. is_variables (entry.Statement k)) (has_keyword (codes "$p") s) (kind.Provable)
      (from9 s) refl refl)))))))))
]

pub kind-is_distinct : (s : Statement) → has_keyword (codes "$d") s ≡ is_distinct (kind_in s)
kind-is_distinct s = elim (cases_Bool (has_keyword (codes "$d") s)) [
  | inl h ↦ rw (
    one_keyword s (codes "$d") (codes "${") h refl,
    one_keyword s (codes "$d") (codes "$}") h refl,
    one_keyword s (codes "$d") (codes "$c") h refl,
    one_keyword s (codes "$d") (codes "$v") h refl,
    h,
  ) refl
  | inr h ↦ h
      ∙ sym
      (pick is_distinct (has_keyword (codes "${") s) (entry.OpenBlock) (from1 s) refl
      (pick is_distinct (has_keyword (codes "$}") s) (entry.CloseBlock) (entry.Statement (from2 s)) refl
      (pick (λ k. is_distinct (entry.Statement k)) (has_keyword (codes "$c") s) (kind.Constants) (from3 s) refl
      (pick (λ k. is_distinct (entry.Statement k)) (has_keyword (codes "$v") s) (kind.Variables) (from4 s) refl
      (past (λ k. is_distinct (entry.Statement k)) (has_keyword (codes "$d") s) (kind.Distinct) (from5 s) h
      (pick (λ k. is_distinct (entry.Statement k)) (has_keyword (codes "$f") s) (kind.Floating) (from6 s) refl
      (pick (λ k. is_distinct (entry.Statement k)) (has_keyword (codes "$e") s) (kind.Essential) (from7 s) refl
      (pick (λ k. is_distinct (entry.Statement k)) (has_keyword (codes "$a") s) (kind.Axiom) (from8 s) refl
      (pick (λ k. is_distinct (entry.Statement k)) (has_keyword (codes "$p") s) (kind.Provable)
      (from9 s) refl refl)))))))))
]

pub kind-is_floating : (s : Statement) → has_keyword (codes "$f") s ≡ is_floating (kind_in s)
kind-is_floating s = elim (cases_Bool (has_keyword (codes "$f") s)) [
  | inl h ↦ rw (
    one_keyword s (codes "$f") (codes "${") h refl,
    one_keyword s (codes "$f") (codes "$}") h refl,
    one_keyword s (codes "$f") (codes "$c") h refl,
    one_keyword s (codes "$f") (codes "$v") h refl,
    one_keyword s (codes "$f") (codes "$d") h refl,
    h,
  ) refl
  | inr h ↦ h
      ∙ sym
      (pick is_floating (has_keyword (codes "${") s) (entry.OpenBlock) (from1 s) refl
      (pick is_floating (has_keyword (codes "$}") s) (entry.CloseBlock) (entry.Statement (from2 s)) refl
      (pick (λ k. is_floating (entry.Statement k)) (has_keyword (codes "$c") s) (kind.Constants) (from3 s) refl
      (pick (λ k. is_floating (entry.Statement k)) (has_keyword (codes "$v") s) (kind.Variables) (from4 s) refl
      (pick (λ k. is_floating (entry.Statement k)) (has_keyword (codes "$d") s) (kind.Distinct) (from5 s) refl
      (past (λ k. is_floating (entry.Statement k)) (has_keyword (codes "$f") s) (kind.Floating) (from6 s) h
      (pick (λ k. is_floating (entry.Statement k)) (has_keyword (codes "$e") s) (kind.Essential) (from7 s) refl
      (pick (λ k. is_floating (entry.Statement k)) (has_keyword (codes "$a") s) (kind.Axiom) (from8 s) refl
      (pick (λ k. is_floating (entry.Statement k)) (has_keyword (codes "$p") s) (kind.Provable)
      (from9 s) refl refl)))))))))
]

pub kind-is_essential : (s : Statement) → has_keyword (codes "$e") s ≡ is_essential (kind_in s)
kind-is_essential s = elim (cases_Bool (has_keyword (codes "$e") s)) [
  | inl h ↦ rw (
    one_keyword s (codes "$e") (codes "${") h refl,
    one_keyword s (codes "$e") (codes "$}") h refl,
    one_keyword s (codes "$e") (codes "$c") h refl,
    one_keyword s (codes "$e") (codes "$v") h refl,
    one_keyword s (codes "$e") (codes "$d") h refl,
    one_keyword s (codes "$e") (codes "$f") h refl,
    h,
  ) refl
  | inr h ↦ h
      ∙ sym
      (pick is_essential (has_keyword (codes "${") s) (entry.OpenBlock) (from1 s) refl
      (pick is_essential (has_keyword (codes "$}") s) (entry.CloseBlock) (entry.Statement (from2 s)) refl
      (pick (λ k. is_essential (entry.Statement k)) (has_keyword (codes "$c") s) (kind.Constants) (from3 s) refl
      (pick (λ k. is_essential (entry.Statement k)) (has_keyword (codes "$v") s) (kind.Variables) (from4 s) refl
      (pick (λ k. is_essential (entry.Statement k)) (has_keyword (codes "$d") s) (kind.Distinct) (from5 s) refl
      (pick (λ k. is_essential (entry.Statement k)) (has_keyword (codes "$f") s) (kind.Floating) (from6 s) refl
      (past (λ k. is_essential (entry.Statement k)) (has_keyword (codes "$e") s) (kind.Essential) (from7 s) h
      (pick (λ k. is_essential (entry.Statement k)) (has_keyword (codes "$a") s) (kind.Axiom) (from8 s) refl
      (pick (λ k. is_essential (entry.Statement k)) (has_keyword (codes "$p") s) (kind.Provable)
      (from9 s) refl refl)))))))))
]

pub kind-is_axiom : (s : Statement) → has_keyword (codes "$a") s ≡ is_axiom (kind_in s)
kind-is_axiom s = elim (cases_Bool (has_keyword (codes "$a") s)) [
  | inl h ↦ rw (
    one_keyword s (codes "$a") (codes "${") h refl,
    one_keyword s (codes "$a") (codes "$}") h refl,
    one_keyword s (codes "$a") (codes "$c") h refl,
    one_keyword s (codes "$a") (codes "$v") h refl,
    one_keyword s (codes "$a") (codes "$d") h refl,
    one_keyword s (codes "$a") (codes "$f") h refl,
    one_keyword s (codes "$a") (codes "$e") h refl,
    h,
  ) refl
  | inr h ↦ h
      ∙ sym
      (pick is_axiom (has_keyword (codes "${") s) (entry.OpenBlock) (from1 s) refl
      (pick is_axiom (has_keyword (codes "$}") s) (entry.CloseBlock) (entry.Statement (from2 s)) refl
      (pick (λ k. is_axiom (entry.Statement k)) (has_keyword (codes "$c") s) (kind.Constants) (from3 s) refl
      (pick (λ k. is_axiom (entry.Statement k)) (has_keyword (codes "$v") s) (kind.Variables) (from4 s) refl
      (pick (λ k. is_axiom (entry.Statement k)) (has_keyword (codes "$d") s) (kind.Distinct) (from5 s) refl
      (pick (λ k. is_axiom (entry.Statement k)) (has_keyword (codes "$f") s) (kind.Floating) (from6 s) refl
      (pick (λ k. is_axiom (entry.Statement k)) (has_keyword (codes "$e") s) (kind.Essential) (from7 s) refl
      (past (λ k. is_axiom (entry.Statement k)) (has_keyword (codes "$a") s) (kind.Axiom) (from8 s) h
      (pick (λ k. is_axiom (entry.Statement k)) (has_keyword (codes "$p") s) (kind.Provable)
      (from9 s) refl refl)))))))))
]

pub kind-is_provable : (s : Statement) → has_keyword (codes "$p") s ≡ is_provable (kind_in s)
kind-is_provable s = elim (cases_Bool (has_keyword (codes "$p") s)) [
  | inl h ↦ rw (
    one_keyword s (codes "$p") (codes "${") h refl,
    one_keyword s (codes "$p") (codes "$}") h refl,
    one_keyword s (codes "$p") (codes "$c") h refl,
    one_keyword s (codes "$p") (codes "$v") h refl,
    one_keyword s (codes "$p") (codes "$d") h refl,
    one_keyword s (codes "$p") (codes "$f") h refl,
    one_keyword s (codes "$p") (codes "$e") h refl,
    one_keyword s (codes "$p") (codes "$a") h refl,
    h,
  ) refl
  | inr h ↦ h
      ∙ sym
      (pick is_provable (has_keyword (codes "${") s) (entry.OpenBlock) (from1 s) refl
      (pick is_provable (has_keyword (codes "$}") s) (entry.CloseBlock) (entry.Statement (from2 s)) refl
      (pick (λ k. is_provable (entry.Statement k)) (has_keyword (codes "$c") s) (kind.Constants) (from3 s) refl
      (pick (λ k. is_provable (entry.Statement k)) (has_keyword (codes "$v") s) (kind.Variables) (from4 s) refl
      (pick (λ k. is_provable (entry.Statement k)) (has_keyword (codes "$d") s) (kind.Distinct) (from5 s) refl
      (pick (λ k. is_provable (entry.Statement k)) (has_keyword (codes "$f") s) (kind.Floating) (from6 s) refl
      (pick (λ k. is_provable (entry.Statement k)) (has_keyword (codes "$e") s) (kind.Essential) (from7 s) refl
      (pick (λ k. is_provable (entry.Statement k)) (has_keyword (codes "$a") s) (kind.Axiom) (from8 s) refl
      (past (λ k. is_provable (entry.Statement k)) (has_keyword (codes "$p") s) (kind.Provable)
      (from9 s) h refl)))))))))
]

pub kind-is_open : (s : Statement) → has_keyword (codes "${") s ≡ is_open (kind_in s)
kind-is_open s = elim (cases_Bool (has_keyword (codes "${") s)) [
  | inl h ↦ rw (h) refl
  | inr h ↦ h
      ∙ sym
      (past is_open (has_keyword (codes "${") s) (entry.OpenBlock) (from1 s) h
      (pick is_open (has_keyword (codes "$}") s) (entry.CloseBlock) (entry.Statement (from2 s)) refl
      (pick (λ k. is_open (entry.Statement k)) (has_keyword (codes "$c") s) (kind.Constants) (from3 s) refl
      (pick (λ k. is_open (entry.Statement k)) (has_keyword (codes "$v") s) (kind.Variables) (from4 s) refl
      (pick (λ k. is_open (entry.Statement k)) (has_keyword (codes "$d") s) (kind.Distinct) (from5 s) refl
      (pick (λ k. is_open (entry.Statement k)) (has_keyword (codes "$f") s) (kind.Floating) (from6 s) refl
      (pick (λ k. is_open (entry.Statement k)) (has_keyword (codes "$e") s) (kind.Essential) (from7 s) refl
      (pick (λ k. is_open (entry.Statement k)) (has_keyword (codes "$a") s) (kind.Axiom) (from8 s) refl
      (pick (λ k. is_open (entry.Statement k)) (has_keyword (codes "$p") s) (kind.Provable)
      (from9 s) refl refl)))))))))
]

pub kind-is_close : (s : Statement) → has_keyword (codes "$}") s ≡ is_close (kind_in s)
kind-is_close s = elim (cases_Bool (has_keyword (codes "$}") s)) [
  | inl h ↦ rw (one_keyword s (codes "$}") (codes "${") h refl, h) refl
  | inr h ↦ h
      ∙ sym
      (pick is_close (has_keyword (codes "${") s) (entry.OpenBlock) (from1 s) refl
      (past is_close (has_keyword (codes "$}") s) (entry.CloseBlock) (entry.Statement (from2 s)) h
      (pick (λ k. is_close (entry.Statement k)) (has_keyword (codes "$c") s) (kind.Constants) (from3 s) refl
      (pick (λ k. is_close (entry.Statement k)) (has_keyword (codes "$v") s) (kind.Variables) (from4 s) refl
      (pick (λ k. is_close (entry.Statement k)) (has_keyword (codes "$d") s) (kind.Distinct) (from5 s) refl
      (pick (λ k. is_close (entry.Statement k)) (has_keyword (codes "$f") s) (kind.Floating) (from6 s) refl
      (pick (λ k. is_close (entry.Statement k)) (has_keyword (codes "$e") s) (kind.Essential) (from7 s) refl
      (pick (λ k. is_close (entry.Statement k)) (has_keyword (codes "$a") s) (kind.Axiom) (from8 s) refl
      (pick (λ k. is_close (entry.Statement k)) (has_keyword (codes "$p") s) (kind.Provable)
      (from9 s) refl refl)))))))))
]

pub opens : (s : Statement) → kind_in s ≡ entry.OpenBlock → has_keyword (codes "${") s ≡ true
opens s e = kind-is_open s ∙ ap is_open e

pub closes : (s : Statement) → kind_in s ≡ entry.CloseBlock → (has_keyword (codes "${") s ≡ false) × (has_keyword (codes "$}") s ≡ true)
closes s e = (kind-is_open s ∙ ap is_open e, kind-is_close s ∙ ap is_close e)

pub neither : (s : Statement) {k : StatementKind} → kind_in s ≡ entry.Statement k → (has_keyword (codes "${") s ≡ false) × (has_keyword (codes "$}") s ≡ false)
neither s e = (kind-is_open s ∙ ap is_open e, kind-is_close s ∙ ap is_close e)

pub constants-kind : (s : Statement) → has_keyword (codes "$c") s ≡ true → is_constants (kind_in s) ≡ true
constants-kind s h = rw (one_keyword s (codes "$c") (codes "${") h refl, one_keyword s (codes "$c") (codes "$}") h refl, h) refl

-- one that has the kind of a `$c` and is none has no keyword
pub no-keyword : (s : Statement) → has_keyword (codes "$c") s ≡ false → is_constants (kind_in s) ≡ true → has_one_of statement_keywords s ≡ false
no-keyword s c k =
    go (body s) c (kind-is_variables s ∙ other is_variables refl) (kind-is_distinct s ∙ other is_distinct refl) (kind-is_open s ∙ other is_open refl)
    (kind-is_close s ∙ other is_close refl) (kind-is_floating s ∙ other is_floating refl) (kind-is_essential s ∙ other is_essential refl)
    (kind-is_axiom s ∙ other is_axiom refl) (kind-is_provable s ∙ other is_provable refl)
  where
    is_c : (j : EntryKind) → is_constants j ≡ true → entry.Statement kind.Constants ≡ j
    is_c entry.OpenBlock h = absurd cc
    is_c entry.CloseBlock h = absurd cc
    is_c (entry.Statement kind.Constants) h = refl
    is_c (entry.Statement kind.Variables) h = absurd cc
    is_c (entry.Statement kind.Distinct) h = absurd cc
    is_c (entry.Statement kind.Floating) h = absurd cc
    is_c (entry.Statement kind.Essential) h = absurd cc
    is_c (entry.Statement kind.Axiom) h = absurd cc
    is_c (entry.Statement kind.Provable) h = absurd cc

    other : (t : EntryKind → Bool) → t (entry.Statement kind.Constants) ≡ false → t (kind_in s) ≡ false
    other t h = ap t (sym (is_c (kind_in s) k)) ∙ h

    none : (b : Bool) → (b || false) ≡ false → b ≡ false
    none true h = h
    none false h = h

    go : (ws : List Word) → list_any (is (codes "$c")) (take 1 ws) ≡ false → list_any (is (codes "$v")) (take 1 ws) ≡ false
        → list_any (is (codes "$d")) (take 1 ws) ≡ false → list_any (is (codes "${")) (take 1 ws) ≡ false
        → list_any (is (codes "$}")) (take 1 ws) ≡ false → list_any (is (codes "$f")) (take 1 ws) ≡ false
        → list_any (is (codes "$e")) (take 1 ws) ≡ false → list_any (is (codes "$a")) (take 1 ws) ≡ false
        → list_any (is (codes "$p")) (take 1 ws) ≡ false → list_any (is_one_of statement_keywords) (take 1 ws) ≡ false
    go [] c v d o p f e a q = refl
    go (w ∷ ws) c v d o p f e a q =
        rw (
          none (is (codes "$c") w) c,
          none (is (codes "$v") w) v,
          none (is (codes "$d") w) d,
          none (is (codes "${") w) o,
          none (is (codes "$}") w) p,
          none (is (codes "$f") w) f,
          none (is (codes "$e") w) e,
          none (is (codes "$a") w) a,
          none (is (codes "$p") w) q,
        ) refl

-- one of two keywords
either : (j k : List ℕ) (s : Statement) → has_one_of (j ∷ k ∷ []) s ≡ (has_keyword j s || has_keyword k s)
either j k s = go (body s)
  where
    join : (a b : Bool) → ((a || (b || false)) || false) ≡ ((a || false) || (b || false))
    join true true = refl
    join true false = refl
    join false true = refl
    join false false = refl

    go : (ws : List Word) → list_any (is_one_of (j ∷ k ∷ [])) (take 1 ws) ≡ (list_any (is j) (take 1 ws) || list_any (is k) (take 1 ws))
    go [] = refl
    go (w ∷ ws) = join (is j w) (is k w)

assertion-kinds : (k : EntryKind) → (is_axiom k || is_provable k) ≡ is_assertion k
assertion-kinds entry.OpenBlock = refl
assertion-kinds entry.CloseBlock = refl
assertion-kinds (entry.Statement kind.Constants) = refl
assertion-kinds (entry.Statement kind.Variables) = refl
assertion-kinds (entry.Statement kind.Distinct) = refl
assertion-kinds (entry.Statement kind.Floating) = refl
assertion-kinds (entry.Statement kind.Essential) = refl
assertion-kinds (entry.Statement kind.Axiom) = refl
assertion-kinds (entry.Statement kind.Provable) = refl

pub kind-is_assertion : (s : Statement) → model.is_assertion s ≡ is_assertion (kind_in s)
kind-is_assertion s =
    either (codes "$a") (codes "$p") s ∙ ap (λ b. b || has_keyword (codes "$p") s) (kind-is_axiom s) ∙ ap (λ b. is_axiom (kind_in s) || b) (kind-is_provable s) ∙ assertion-kinds (kind_in s)

pub kind-is_hypothesis : (s : Statement) → model.is_hypothesis s ≡ (is_floating (kind_in s) || is_essential (kind_in s))
kind-is_hypothesis s =
    either (codes "$f") (codes "$e") s ∙ ap (λ b. b || has_keyword (codes "$e") s) (kind-is_floating s) ∙ ap (λ b. is_floating (kind_in s) || b) (kind-is_essential s)
