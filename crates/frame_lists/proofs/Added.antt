-- What one statement adds to the lists.
use Rattle.std.proofs.Common.{◌≡◌, ℕ, Bool, true, false, cond, ◌||◌, List, [], ◌∷◌, ◌++◌, append-nil, map, reverse, refl, sym, ap, ◌∙◌, inl, inr}
use Rattle.std.specs.List.{filter}
use Rattle.std.proofs.lemmas.Bool.{cases_Bool}
use Rattle.std.proofs.lemmas.List.{reverse-append, map-append}
use Rattle.mm_base.specs.declared.symbols.Sym.{Sym}
use Rattle.frame_lists.specs.declared.entry.EntryKind.{EntryKind}
use Rattle.frame_lists.specs.declared.entry.EntryKind.TheVariants as entry
use Rattle.frame_lists.specs.declared.entry.StatementKind.TheVariants as kind
use Rattle.frame_lists.specs.declared.scope.Scope.{Scope}
use Rattle.frame_lists.specs.Steps.{has, is_floating, declared, with_float}
use Rattle.frame_lists.proofs.Keywords.{is_variables, is_distinct, is_essential}
use Rattle.frame_lists.proofs.Passing.{added}

-- with one item more where a test holds
abbrev pub plus : {X : Type 0} → Bool → List X → X → List X
plus b xs x = cond b (xs ++ x ∷ []) xs

-- the parts that a `$f` leaves
float-essentials : (s : Scope) (n : ℕ) (ss : List Sym) → (with_float s n ss).essentials ≡ s.essentials
float-essentials s n [] = refl
float-essentials s n (a ∷ []) = refl
float-essentials s n (a ∷ v ∷ ss) = elim (cases_Bool (has s.typed v.0)) [ inl h ↦ rw h refl | inr h ↦ rw h refl ]

float-hyps : (s : Scope) (n : ℕ) (ss : List Sym) → (with_float s n ss).hyps ≡ s.hyps
float-hyps s n [] = refl
float-hyps s n (a ∷ []) = refl
float-hyps s n (a ∷ v ∷ ss) = elim (cases_Bool (has s.typed v.0)) [ inl h ↦ rw h refl | inr h ↦ rw h refl ]

pub float-distinct : (s : Scope) (n : ℕ) (ss : List Sym) → (with_float s n ss).distinct ≡ s.distinct
float-distinct s n [] = refl
float-distinct s n (a ∷ []) = refl
float-distinct s n (a ∷ v ∷ ss) = elim (cases_Bool (has s.typed v.0)) [ inl h ↦ rw h refl | inr h ↦ rw h refl ]

float-variables : (s : Scope) (n : ℕ) (ss : List Sym) → (with_float s n ss).variables ≡ s.variables
float-variables s n [] = refl
float-variables s n (a ∷ []) = refl
float-variables s n (a ∷ v ∷ ss) = elim (cases_Bool (has s.typed v.0)) [ inl h ↦ rw h refl | inr h ↦ rw h refl ]

pub added-essentials : (k : EntryKind) (ss : List Sym) (at n : ℕ) (s : Scope) → (added k ss at n s).essentials ≡ plus (is_essential k) s.essentials n
added-essentials entry.OpenBlock ss at n s = refl
added-essentials entry.CloseBlock ss at n s = refl
added-essentials (entry.Statement kind.Constants) ss at n s = refl
added-essentials (entry.Statement kind.Variables) ss at n s = refl
added-essentials (entry.Statement kind.Distinct) ss at n s = refl
added-essentials (entry.Statement kind.Floating) ss at n s = float-essentials (record s { hyps = s.hyps ++ n ∷ [] }) n ss
added-essentials (entry.Statement kind.Essential) ss at n s = refl
added-essentials (entry.Statement kind.Axiom) ss at n s = refl
added-essentials (entry.Statement kind.Provable) ss at n s = refl

pub added-hyps : (k : EntryKind) (ss : List Sym) (at n : ℕ) (s : Scope) → (added k ss at n s).hyps ≡ plus (is_floating k || is_essential k) s.hyps n
added-hyps entry.OpenBlock ss at n s = refl
added-hyps entry.CloseBlock ss at n s = refl
added-hyps (entry.Statement kind.Constants) ss at n s = refl
added-hyps (entry.Statement kind.Variables) ss at n s = refl
added-hyps (entry.Statement kind.Distinct) ss at n s = refl
added-hyps (entry.Statement kind.Floating) ss at n s = float-hyps (record s { hyps = s.hyps ++ n ∷ [] }) n ss
added-hyps (entry.Statement kind.Essential) ss at n s = refl
added-hyps (entry.Statement kind.Axiom) ss at n s = refl
added-hyps (entry.Statement kind.Provable) ss at n s = refl

pub added-distinct : (k : EntryKind) (ss : List Sym) (at n : ℕ) (s : Scope) → (added k ss at n s).distinct ≡ plus (is_distinct k) s.distinct at
added-distinct entry.OpenBlock ss at n s = refl
added-distinct entry.CloseBlock ss at n s = refl
added-distinct (entry.Statement kind.Constants) ss at n s = refl
added-distinct (entry.Statement kind.Variables) ss at n s = refl
added-distinct (entry.Statement kind.Distinct) ss at n s = refl
added-distinct (entry.Statement kind.Floating) ss at n s = float-distinct (record s { hyps = s.hyps ++ n ∷ [] }) n ss
added-distinct (entry.Statement kind.Essential) ss at n s = refl
added-distinct (entry.Statement kind.Axiom) ss at n s = refl
added-distinct (entry.Statement kind.Provable) ss at n s = refl

pub added-variables : (k : EntryKind) (ss : List Sym) (at n : ℕ) (s : Scope) → (added k ss at n s).variables ≡ cond (is_variables k) (declared s.variables ss) s.variables
added-variables entry.OpenBlock ss at n s = refl
added-variables entry.CloseBlock ss at n s = refl
added-variables (entry.Statement kind.Constants) ss at n s = refl
added-variables (entry.Statement kind.Variables) ss at n s = refl
added-variables (entry.Statement kind.Distinct) ss at n s = refl
added-variables (entry.Statement kind.Floating) ss at n s = float-variables (record s { hyps = s.hyps ++ n ∷ [] }) n ss
added-variables (entry.Statement kind.Essential) ss at n s = refl
added-variables (entry.Statement kind.Axiom) ss at n s = refl
added-variables (entry.Statement kind.Provable) ss at n s = refl

-- the variables and labels of `$f`
pub record Floats (s t : Scope) : Type 0 where
  pub typed : s.typed ≡ t.typed
  pub floats : s.floats ≡ t.floats

pub no_float : (k : EntryKind) (ss : List Sym) (at n : ℕ) (s : Scope) → is_floating k ≡ false → Floats (added k ss at n s) s
no_float entry.OpenBlock ss at n s h = record { typed = refl; floats = refl }
no_float entry.CloseBlock ss at n s h = record { typed = refl; floats = refl }
no_float (entry.Statement kind.Constants) ss at n s h = record { typed = refl; floats = refl }
no_float (entry.Statement kind.Variables) ss at n s h = record { typed = refl; floats = refl }
no_float (entry.Statement kind.Distinct) ss at n s h = record { typed = refl; floats = refl }
no_float (entry.Statement kind.Floating) ss at n s h = absurd cc
no_float (entry.Statement kind.Essential) ss at n s h = record { typed = refl; floats = refl }
no_float (entry.Statement kind.Axiom) ss at n s h = record { typed = refl; floats = refl }
no_float (entry.Statement kind.Provable) ss at n s h = record { typed = refl; floats = refl }

pub a_float : (k : EntryKind) (ss : List Sym) (at n : ℕ) (s : Scope) → is_floating k ≡ true → Floats (added k ss at n s) (with_float (record s { hyps = s.hyps ++ n ∷ [] }) n ss)
a_float (entry.Statement kind.Floating) ss at n s h = record { typed = refl; floats = refl }
a_float entry.OpenBlock ss at n s h = absurd cc
a_float entry.CloseBlock ss at n s h = absurd cc
a_float (entry.Statement kind.Constants) ss at n s h = absurd cc
a_float (entry.Statement kind.Variables) ss at n s h = absurd cc
a_float (entry.Statement kind.Distinct) ss at n s h = absurd cc
a_float (entry.Statement kind.Essential) ss at n s h = absurd cc
a_float (entry.Statement kind.Axiom) ss at n s h = absurd cc
a_float (entry.Statement kind.Provable) ss at n s h = absurd cc

-- ---- lists in order from lists with the nearest first

pub filter-append : {X : Type 0} (q : X → Bool) (xs ys : List X) → filter q (xs ++ ys) ≡ filter q xs ++ filter q ys
filter-append q [] ys = refl
filter-append q (x ∷ xs) ys = let later = filter-append q xs ys in elim (cases_Bool (q x)) [ inl h ↦ rw h (ap (λ l. x ∷ l) later) | inr h ↦ rw h later ]

pub filter-last : {X Y : Type 0} (f : X → Y) (q : X → Bool) (x : X) (xs : List X) → map f (filter q (reverse (x ∷ xs))) ≡ plus (q x) (map f (filter q (reverse xs))) (f x)
filter-last f q x xs =
    ap (λ l. map f (filter q l)) (reverse-append (x ∷ []) xs) ∙ ap (λ l. map f l) (filter-append q (reverse xs) (x ∷ [])) ∙ map-append f (filter q (reverse xs)) (filter q (x ∷ []))
    ∙ elim (cases_Bool (q x)) as (λ w. map f (filter q (reverse xs)) ++ map f (filter q (x ∷ [])) ≡ plus (q x) (map f (filter q (reverse xs))) (f x)) [
      | inl h ↦ rw h refl
      | inr h ↦ rw h (append-nil (map f (filter q (reverse xs))))
    ]

pub filter-map : {X Y : Type 0} (f : X → Y) (q : Y → Bool) (xs : List X) → filter q (map f xs) ≡ map f (filter (λ x. q (f x)) xs)
filter-map f q [] = refl
filter-map f q (x ∷ xs) = let later = filter-map f q xs in elim (cases_Bool (q (f x))) [ inl h ↦ rw h (ap (λ l. f x ∷ l) later) | inr h ↦ rw h later ]

pub map-reverse : {X Y : Type 0} (f : X → Y) (xs : List X) → map f (reverse xs) ≡ reverse (map f xs)
map-reverse f [] = refl
map-reverse f (x ∷ xs) = ap (λ l. map f l) (reverse-append (x ∷ []) xs) ∙ map-append f (reverse xs) (x ∷ []) ∙ ap (λ l. l ++ f x ∷ []) (map-reverse f xs) ∙ sym (reverse-append (f x ∷ []) (map f xs))
