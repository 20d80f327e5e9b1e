-- The pairs of a use: where its values are apart, the machine finds no fault of distinct variables.
use Rattle.std.specs.Prelude.{◌≡◌, Bool, true, false, not, List, [], ◌∷◌, ◌++◌, map, flat_map, filter, Contains, None, option_map, refl}
use Rattle.std.specs.List.{AllByRecursion}
use Rattle.std.proofs.Common.{ap, ◌∙◌, cond, inl, inr}
use Rattle.std.proofs.lemmas.Bool.{cases_Bool}
use Rattle.mm_base.specs.declared.symbols.Sym.{Sym}
use Rattle.mm_base.specs.declared.symbols.Pair.{Pair}
use Rattle.proof_model.specs.declared.theorem.Theorem.{Theorem}
use Rattle.proof_model.specs.Machine.{Formula, Entry, MachineFault, shared, not_distinct, is_variable, variable_pairs, first_pair, or_later, least}
use Rattle.proof_model.specs.Machine.{substitute, is_shared, is_active_pair, shared_fault, distinct_fault}
use Rattle.push_laws.proofs.Lists.{first, later}

append_all : (P : Sym × Sym → Type 0) (xs ys : List (Sym × Sym)) → AllByRecursion P xs → AllByRecursion P ys → AllByRecursion P (xs ++ ys)
append_all P [] ys a b = b
append_all P (x ∷ xs) ys a b = (a.0, append_all P xs ys a.1 b)

-- what holds of the variables of two formulas holds of their pairs
module _ (thm : Theorem) (P : Sym × Sym → Type 0) where
  with_one : (v : Sym) (g : Formula) → ((w : Sym) → Contains g w → is_variable thm w ≡ true → P (v, w)) → AllByRecursion P (map (λ w. (v, w)) (filter (is_variable thm) g))
  with_one v [] h = tt
  with_one v (w ∷ g) h = elim (cases_Bool (is_variable thm w)) [
    | inl d ↦ rw d (h w (first w w g refl) d, with_one v g (λ x c i. h x (later x w g c) i))
    | inr d ↦ rw d (with_one v g (λ x c i. h x (later x w g c) i))
  ]

  pub with_each : (f g : Formula) → ((v w : Sym) → Contains f v → is_variable thm v ≡ true → Contains g w → is_variable thm w ≡ true → P (v, w))
      → AllByRecursion P (flat_map (λ v. map (λ w. (v, w)) (filter (is_variable thm) g)) (filter (is_variable thm) f))
  with_each [] g h = tt
  with_each (v ∷ f) g h = elim (cases_Bool (is_variable thm v)) [
    | inl d ↦ rw d (append_all P (map (λ w. (v, w)) (filter (is_variable thm) g)) (flat_map (λ x. map (λ w. (x, w)) (filter (is_variable thm) g)) (filter (is_variable thm) f))
        (with_one v g (λ w c i. h v w (first v v f refl) d c i)) (with_each f g (λ x w c i e j. h x w (later x v f c) i e j)))
    | inr d ↦ rw d (with_each f g (λ x w c i e j. h x w (later x v f c) i e j))
  ]

none_kept : (test : Sym × Sym → Bool) (xs : List (Sym × Sym)) → AllByRecursion (λ p. test p ≡ false) xs → filter test xs ≡ []
none_kept test [] a = refl
none_kept test (x ∷ xs) a = ap (λ (b : Bool). cond b (x ∷ filter test xs) (filter test xs)) a.0 ∙ none_kept test xs a.1

pub no_pair : (test : Sym × Sym → Bool) (thm : Theorem) (entries : List Entry) (ps : List Pair) → AllByRecursion (λ p. AllByRecursion (λ vw. test vw ≡ false) (variable_pairs thm entries p)) ps
    → first_pair test thm entries ps ≡ None
no_pair test thm entries [] a = refl
no_pair test thm entries (p ∷ ps) a =
    ap (λ xs. or_later p (least xs) (first_pair test thm entries ps)) (none_kept test (variable_pairs thm entries p) a.0) ∙ no_pair test thm entries ps a.1

-- the variables of the two formulas differ, and are an active pair
pub record AreDistinct (thm : Theorem) (v w : Sym) : Type 0 where
  pub differ : is_shared (v, w) ≡ false
  pub active : is_active_pair thm (v, w) ≡ true

abbrev pub PairIsDistinct : Theorem → List Entry → Pair → Type 0
PairIsDistinct thm entries p =
    (v w : Sym) → Contains (substitute entries p.a) v → is_variable thm v ≡ true → Contains (substitute entries p.b) w → is_variable thm w ≡ true → AreDistinct thm v w

pairs_pass : (test : Sym × Sym → Bool) (thm : Theorem) (entries : List Entry) (ps : List Pair)
    → ((v w : Sym) → AreDistinct thm v w → test (v, w) ≡ false) → AllByRecursion (PairIsDistinct thm entries) ps
    → AllByRecursion (λ p. AllByRecursion (λ vw. test vw ≡ false) (variable_pairs thm entries p)) ps
pairs_pass test thm entries [] h a = tt
pairs_pass test thm entries (p ∷ ps) h a =
    (with_each thm (λ vw. test vw ≡ false) (substitute entries p.a) (substitute entries p.b) (λ v w c i d j. h v w (a.0 v w c i d j)), pairs_pass test thm entries ps h a.1)

pub no_shared_fault : (thm : Theorem) (entries : List Entry) (ps : List Pair) → AllByRecursion (PairIsDistinct thm entries) ps → shared_fault thm entries ps ≡ None
no_shared_fault thm entries ps a =
    ap (option_map {U = MachineFault} (λ (f : Pair × (Sym × Sym)). shared f.0.a f.0.b f.1.0)) (no_pair is_shared thm entries ps (pairs_pass is_shared thm entries ps (λ v w d. d.differ) a))

pub no_distinct_fault : (thm : Theorem) (entries : List Entry) (ps : List Pair) → AllByRecursion (PairIsDistinct thm entries) ps → distinct_fault thm entries ps ≡ None
no_distinct_fault thm entries ps a =
    ap (option_map {U = MachineFault} (λ (f : Pair × (Sym × Sym)). not_distinct f.1.0 f.1.1))
    (no_pair (λ vw. not (is_active_pair thm vw)) thm entries ps (pairs_pass (λ vw. not (is_active_pair thm vw)) thm entries ps (λ v w d. ap not d.active) a))
