-- Each label of a proof is a mandatory hypothesis or one of the listed labels, and is found by its number.
use Rattle.std.specs.Prelude.{◌≡◌, ℕ, suc, Bool, true, false, ◌||◌, List, [], ◌∷◌, slice_index_or, Option, Some, option_map, unwrap_or, refl}
use Rattle.std.specs.Str.{bytes_eq}
use Rattle.std.specs.List.{AllByRecursion, list_any}
use Rattle.std.proofs.Common.{sym, ap, ◌∙◌, cond}
use Rattle.std.proofs.lemmas.Slice.Eq.{bytes_eq-Decides}
use Rattle.mm_model.specs.Frames.{without_repeats}
use Rattle.mm_model.specs.Names.{contains, first_number}
use Rattle.proof_model.specs.declared.code.What.TheVariants as what
use Rattle.proof_model.specs.declared.theorem.Theorem.{Theorem}
use Rattle.proof_model.specs.Codes.{number_in}
use Rattle.proof_model.specs.Machine.{Frames, State, use_label, use_what}
use Rattle.proof_laws.proofs.StepLaws.{Spelled}

-- the name stands at its number
abbrev Stands : List (List ℕ) → List ℕ → Type 0
Stands names name = (j : ℕ) × (first_number (bytes_eq name) names ≡ Some j) × (slice_index_or names j [] ≡ name)

stands_by : (n : List ℕ) (ns : List (List ℕ)) (name : List ℕ) (b : Bool) → bytes_eq name n ≡ b → (list_any (bytes_eq name) ns ≡ true → Stands ns name)
    → (b || list_any (bytes_eq name) ns) ≡ true
    → (j : ℕ) × (cond b (Some 0) (option_map suc (first_number (bytes_eq name) ns)) ≡ Some j) × (slice_index_or (n ∷ ns) j [] ≡ name)
stands_by n ns name true is h e = (0, refl, sym ((bytes_eq-Decides name n).0 is))
stands_by n ns name false is h e = let s = h e in (suc s.0, ap (option_map suc) s.1, s.2)

stands_at : (names : List (List ℕ)) (name : List ℕ) → contains names name ≡ true → Stands names name
stands_at [] name e = absurd (cc)
stands_at (n ∷ ns) name e = stands_by n ns name (bytes_eq name n) refl (stands_at ns name) e

at_number : (names : List (List ℕ)) (name : List ℕ) → contains names name ≡ true → slice_index_or names (number_in names name) [] ≡ name
at_number names name e = let s = stands_at names name e in ap (λ (o : Option ℕ). slice_index_or names (unwrap_or o 0) []) s.1 ∙ s.2

name_self : (name : List ℕ) → bytes_eq name name ≡ true
name_self name = (bytes_eq-Decides name name).1 refl

shuffle : (a b c : Bool) → ((a || b) || c) ≡ true → (b || (a || c)) ≡ true
shuffle true true c e = refl
shuffle true false c e = refl
shuffle false true c e = refl
shuffle false false c e = e

or_true : (a b : Bool) → a ≡ true → (a || b) ≡ true
or_true true b e = refl
or_true false b e = absurd (cc)

later_true : (a b c : Bool) → b ≡ true → (a || (b || c)) ≡ true
later_true true b c e = refl
later_true false true c e = refl
later_true false false c e = absurd (cc)

abbrev pub Covers : List (List ℕ) → List (List ℕ) → List ℕ → Type 0
Covers seen listed name = (contains seen name || contains listed name) ≡ true

pub map_all : (P Q : List ℕ → Type 0) (xs : List (List ℕ)) → ((x : List ℕ) → P x → Q x) → AllByRecursion P xs → AllByRecursion Q xs
map_all P Q [] h a = tt
map_all P Q (x ∷ xs) h a = (h x a.0, map_all P Q xs h a.1)

distinct_by : (seen : List (List ℕ)) (n : List ℕ) (ns : List (List ℕ)) (b : Bool) → contains seen n ≡ b → AllByRecursion (Covers seen (without_repeats seen ns)) ns
    → AllByRecursion (Covers (n ∷ seen) (without_repeats (n ∷ seen) ns)) ns → AllByRecursion (Covers seen (cond b (without_repeats seen ns) (n ∷ without_repeats (n ∷ seen) ns))) (n ∷ ns)
distinct_by seen n ns true is h k = (or_true (contains seen n) (contains (without_repeats seen ns) n) is, h)
distinct_by seen n ns false is h k =
    let here : Covers seen (n ∷ without_repeats (n ∷ seen) ns) n = later_true (contains seen n) (bytes_eq n n) (contains (without_repeats (n ∷ seen) ns) n) (name_self n) in (
      here,
      map_all (Covers (n ∷ seen) (without_repeats (n ∷ seen) ns)) (Covers seen (n ∷ without_repeats (n ∷ seen) ns)) ns
          (λ m e. shuffle (bytes_eq m n) (contains seen m) (contains (without_repeats (n ∷ seen) ns) m) e) k,
    )

-- each name is among those seen or those listed
pub covered : (ns seen : List (List ℕ)) → AllByRecursion (Covers seen (without_repeats seen ns)) ns
covered [] seen = tt
covered (n ∷ ns) seen = distinct_by seen n ns (contains seen n) refl (covered ns seen) (covered ns (n ∷ seen))

module _ (frames : Frames) (thm : Theorem) where
  spelled_by : (labels : List (List ℕ)) (name : List ℕ) (b : Bool) → contains thm.mandatory name ≡ b → (b || contains labels name) ≡ true → (st : State)
      → use_what frames thm labels (cond b (what.Hyp (number_in thm.mandatory name)) (what.Listed (number_in labels name))) st ≡ use_label frames thm name st
  spelled_by labels name true is e st = ap (λ (n : List ℕ). use_label frames thm n st) (at_number thm.mandatory name is)
  spelled_by labels name false is e st = ap (λ (n : List ℕ). use_label frames thm n st) (at_number labels name e)

  pub spelled : (labels : List (List ℕ)) (name : List ℕ) → Covers thm.mandatory labels name → Spelled frames thm labels name
  spelled labels name e st = spelled_by labels name (contains thm.mandatory name) refl e st
