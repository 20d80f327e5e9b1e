-- The code of a normal proof, label by label.
use Rattle.std.proofs.Common.{◌≡◌, ◌<◌, ℕ, suc, ◌+◌, Bool, true, false, cond, ◌||◌, List, [], ◌∷◌, ◌++◌, length, map, position, take, get_or, Option}
use Rattle.std.proofs.Common.{Some, None, option_map, refl, sym, ap, ◌∙◌, arith, subst, inl, inr}
use Rattle.std.proofs.lemmas.List.{map-append}
use Rattle.std.proofs.Math.Seq.{take-suc}
use Rattle.stack_verify.specs.declared.formula.Span.{Span}
use Rattle.stack_verify.specs.Proofs.{name_in, names_in}
use Rattle.std.specs.Prelude.{codes, unwrap_or}
use Rattle.std.specs.List.{list_any, AllByRecursion}
use Rattle.std.specs.Str.{bytes_eq}
use Rattle.std.proofs.lemmas.Bool.{cases_Bool, or_left, or_parts, or_right}
use Rattle.std.proofs.lemmas.Slice.Eq.{bytes_eq-Decides}
use Rattle.mm_model.specs.declared.frames.Hyp.{Hyp}
use Rattle.mm_model.specs.Names.{contains, first_number}
use Rattle.mm_model.specs.Frames.{without_repeats}
use Rattle.proof_model.specs.declared.code.What.{What}
use Rattle.proof_model.specs.declared.code.What.TheVariants as what
use Rattle.proof_model.specs.declared.code.Step.{Step}
use Rattle.proof_model.specs.Codes.{normal_code, normal_step, number_in, other_labels, step, what_of}
use Rattle.proof_model.specs.declared.code.Code.{Code}
use Rattle.proof_model.specs.ProofCode.{AreInRange, IsInRange}
use Rattle.stack_verify.specs.Lookups.{place_of}
use Rattle.stack_verify.specs.Normals.{StepsSoFar, with_name, with_other}
use Rattle.stack_verify.specs.Theorems.{labels_of_hyps}
use Rattle.stack_verify.proofs.Lookup.{none_there, or_at, position_more}
use Rattle.mm_base.proofs.Positions.{position-cons}
use Rattle.stack_verify.proofs.Substitutes.{cond_then, cond_else, position_within}

-- ---- numbers

first_position : {X : Type 0} (p : X → Bool) (xs : List X) → first_number p xs ≡ position p xs
first_position p [] = refl
first_position p (x ∷ xs) = ap (λ (o : Option ℕ). cond (p x) (Some 0) (option_map (λ (n : ℕ). suc n) o)) (first_position p xs) ∙ sym (position-cons p x xs)

names_place : (hyps : List Hyp) (name : List ℕ) → place_of hyps name ≡ position (bytes_eq name) (labels_of_hyps hyps)
names_place [] name = refl
names_place (h ∷ hyps) name =
    position-cons (λ (x : Hyp). bytes_eq name x.name) h hyps ∙ ap (λ (o : Option ℕ). cond (bytes_eq name h.name) (Some 0) (option_map (λ (n : ℕ). suc n) o)) (names_place hyps name)
    ∙ sym (position-cons (bytes_eq name) h.name (labels_of_hyps hyps))

pub there : {X : Type 0} (p : X → Bool) (xs : List X) (k : ℕ) → position p xs ≡ Some k → list_any p xs ≡ true
there p xs k e =
    elim (cases_Bool (list_any p xs)) [
      | inl t ↦ t
      | inr t ↦ absurd (clash k (sym (absent_none p xs t) ∙ e))
    ]
  where
    clash : (k : ℕ) → None ≡ Some k → ⊥
    clash k e = cc

    absent_none : {X : Type 0} (p : X → Bool) (xs : List X) → list_any p xs ≡ false → position p xs ≡ None
    absent_none p [] e = refl
    absent_none p (x ∷ xs) e =
        let parts = or_parts (p x) (list_any p xs) e in
        position-cons p x xs ∙ cond_else (p x) (Some 0) (option_map (λ (n : ℕ). suc n) (position p xs)) parts.0 ∙ ap (option_map (λ (n : ℕ). suc n)) (absent_none p xs parts.1)

pub number_is : (names : List (List ℕ)) (name : List ℕ) (k : ℕ) → position (bytes_eq name) names ≡ Some k → number_in names name ≡ k
number_is names name k e = ap (λ (o : Option ℕ). unwrap_or o 0) (first_position (bytes_eq name) names ∙ e)

same_bytes : (name : List ℕ) → bytes_eq name name ≡ true
same_bytes name = (bytes_eq-Decides name name).1 refl

pub number_new : (names : List (List ℕ)) (name : List ℕ) → position (bytes_eq name) names ≡ None → number_in (names ++ name ∷ []) name ≡ length names
number_new names name e =
    number_is (names ++ name ∷ []) name (length names) (
    position_more (bytes_eq name) names name ∙ ap (λ (o : Option ℕ). or_at o (cond (bytes_eq name name) (Some (length names)) None)) e
    ∙ cond_then (bytes_eq name name) (Some (length names)) None (same_bytes name))

-- ---- one label

pub name_there : (names : List (List ℕ)) (name : List ℕ) (k : ℕ) → position (bytes_eq name) names ≡ Some k → names ≡ with_name names name
name_there names name k e = sym (cond_then (contains names name) names (names ++ name ∷ []) (there (bytes_eq name) names k e))

pub name_new : (names new : List (List ℕ)) (name : List ℕ) → position (bytes_eq name) names ≡ None → new ≡ names ++ name ∷ [] → new ≡ with_name names name
name_new names new name e n = n ∙ sym (cond_else (contains names name) names (names ++ name ∷ []) (none_there (bytes_eq name) names e))

listed : (mandatory : List (List ℕ)) (name : List ℕ) (a b : Bool) → bytes_eq name (codes "?") ≡ a → contains mandatory name ≡ b → contains (codes "?" ∷ mandatory) name ≡ (a || b)
listed mandatory name a b e f = ap (λ (t : Bool). t || contains mandatory name) e ∙ ap (λ (t : Bool). a || t) f

pub hyp_passed : (hyps : List Hyp) (others : List (List ℕ)) (name : List ℕ) (k : ℕ) → place_of hyps name ≡ Some k → bytes_eq name (codes "?") ≡ false
    → others ≡ with_other (labels_of_hyps hyps) others name
hyp_passed hyps others name k e q =
    let m = labels_of_hyps hyps in
    sym (cond_then (contains (codes "?" ∷ m) name) others (with_name others name) (listed m name false true q (there (bytes_eq name) m k (sym (names_place hyps name) ∙ e))))

pub hyp_step : (hyps : List Hyp) (others : List (List ℕ)) (name : List ℕ) (k : ℕ) → place_of hyps name ≡ Some k → bytes_eq name (codes "?") ≡ false
    → step (what.Hyp k) false ≡ normal_step (labels_of_hyps hyps) others name
hyp_step hyps others name k e q =
    let m = labels_of_hyps hyps in
    let p : position (bytes_eq name) m ≡ Some k = sym (names_place hyps name) ∙ e in
    sym (ap (λ (w : What). step w false) (
    cond_else (bytes_eq name (codes "?")) what.Unknown (what_of m others name) q
    ∙ cond_then (contains m name) (what.Hyp (number_in m name)) (what.Listed (number_in others name)) (there (bytes_eq name) m k p)
    ∙ ap (λ (n : ℕ). what.Hyp n) (number_is m name k p)))

pub other_passed : (hyps : List Hyp) (others new : List (List ℕ)) (name : List ℕ) → place_of hyps name ≡ None → bytes_eq name (codes "?") ≡ false
    → new ≡ with_name others name → new ≡ with_other (labels_of_hyps hyps) others name
other_passed hyps others new name e q n =
    let m = labels_of_hyps hyps in
    n ∙ sym (cond_else (contains (codes "?" ∷ m) name) others (with_name others name) (listed m name false false q (none_there (bytes_eq name) m (sym (names_place hyps name) ∙ e))))

pub other_step : (hyps : List Hyp) (others : List (List ℕ)) (name : List ℕ) (s : Step) → place_of hyps name ≡ None → bytes_eq name (codes "?") ≡ false
    → s ≡ step (what.Listed (number_in others name)) false → s ≡ normal_step (labels_of_hyps hyps) others name
other_step hyps others name s e q is =
    let m = labels_of_hyps hyps in
    is ∙ sym (ap (λ (w : What). step w false) (
    cond_else (bytes_eq name (codes "?")) what.Unknown (what_of m others name) q
    ∙ cond_else (contains m name) (what.Hyp (number_in m name)) (what.Listed (number_in others name)) (none_there (bytes_eq name) m (sym (names_place hyps name) ∙ e))))

-- ---- all labels

-- the last label
repeats_more : (seen ls : List (List ℕ)) (l : List ℕ) → without_repeats seen (ls ++ l ∷ []) ≡ cond (contains seen l) (without_repeats seen ls) (with_name (without_repeats seen ls) l)
repeats_more seen [] l = refl
repeats_more seen (n ∷ ls) l =
    elim (cases_Bool (contains seen n)) [
      | inl t ↦
          cond_then (contains seen n) (without_repeats seen (ls ++ l ∷ [])) (n ∷ without_repeats (n ∷ seen) (ls ++ l ∷ [])) t ∙ repeats_more seen ls l
          ∙ ap (λ (o : List (List ℕ)). cond (contains seen l) o (with_name o l)) (sym (cond_then (contains seen n) (without_repeats seen ls) (n ∷ without_repeats (n ∷ seen) ls) t))
      | inr t ↦
          cond_else (contains seen n) (without_repeats seen (ls ++ l ∷ [])) (n ∷ without_repeats (n ∷ seen) (ls ++ l ∷ [])) t ∙ ap (λ (o : List (List ℕ)). n ∷ o) (repeats_more (n ∷ seen) ls l)
          ∙ behind_first (bytes_eq l n) (contains seen l) (contains (without_repeats (n ∷ seen) ls) l) n (without_repeats (n ∷ seen) ls) l
          ∙ ap (λ (o : List (List ℕ)). cond (contains seen l) o (with_name o l)) (sym (cond_else (contains seen n) (without_repeats seen ls) (n ∷ without_repeats (n ∷ seen) ls) t))
    ]
  where
    behind_first : (a b c : Bool) (n : List ℕ) (o : List (List ℕ)) (l : List ℕ) → n ∷ cond (a || b) o (cond c o (o ++ l ∷ [])) ≡ cond b (n ∷ o) (cond (a || c) (n ∷ o) ((n ∷ o) ++ l ∷ []))
    behind_first true true c n o l = refl
    behind_first true false c n o l = refl
    behind_first false true c n o l = refl
    behind_first false false true n o l = refl
    behind_first false false false n o l = refl

abbrev Covers : List (List ℕ) → List (List ℕ) → List ℕ → Type 0
Covers seen o l = (contains seen l || contains o l) ≡ true

shuffle : (a b c : Bool) → ((a || b) || c) ≡ true → (b || (a || c)) ≡ true
shuffle true true c e = refl
shuffle true false c e = refl
shuffle false true c e = refl
shuffle false false c e = e

widened : (n : List ℕ) (seen o ls : List (List ℕ)) → AllByRecursion (Covers (n ∷ seen) o) ls → AllByRecursion (Covers seen (n ∷ o)) ls
widened n seen o [] h = tt
widened n seen o (l ∷ ls) h = (shuffle (bytes_eq l n) (contains seen l) (contains o l) h.0, widened n seen o ls h.1)

covered : (seen ls : List (List ℕ)) → AllByRecursion (Covers seen (without_repeats seen ls)) ls
covered seen [] = tt
covered seen (n ∷ ls) =
    elim (cases_Bool (contains seen n)) [
      | inl t ↦ subst (λ (o : List (List ℕ)). AllByRecursion (Covers seen o) (n ∷ ls))
          (sym (cond_then (contains seen n) (without_repeats seen ls) (n ∷ without_repeats (n ∷ seen) ls) t))
          (or_left (contains seen n) (contains (without_repeats seen ls) n) t, covered seen ls)
      | inr t ↦
          let o = without_repeats (n ∷ seen) ls in
          subst (λ (x : List (List ℕ)). AllByRecursion (Covers seen x) (n ∷ ls)) (sym (cond_else (contains seen n) (without_repeats seen ls) (n ∷ o) t))
          (or_right (contains seen n) (contains (n ∷ o) n) (or_left (bytes_eq n n) (contains o n) (same_bytes n)), widened n seen o ls (covered (n ∷ seen) ls))
    ]

-- a label that is there has the same number where one more is put in
same_number : (o : List (List ℕ)) (w l : List ℕ) → contains o l ≡ true → number_in (o ++ w ∷ []) l ≡ number_in o l
same_number o w l e =
    ap (λ (x : Option ℕ). unwrap_or x 0) (first_position (bytes_eq l) (o ++ w ∷ []) ∙ position_more (bytes_eq l) o w ∙ kept (position (bytes_eq l) o) refl ∙ sym (first_position (bytes_eq l) o))
  where
    kept : (p : Option ℕ) → position (bytes_eq l) o ≡ p → or_at p (cond (bytes_eq l w) (Some (length o)) None) ≡ p
    kept (Some k) h = refl
    kept None h = let both : true ≡ false = sym e ∙ none_there (bytes_eq l) o h in absurd cc

the_what : (m o : List (List ℕ)) (w l : List ℕ) → Covers (codes "?" ∷ m) o l → normal_step m (o ++ w ∷ []) l ≡ normal_step m o l
the_what m o w l h =
    elim (cases_Bool (bytes_eq l (codes "?"))) [
      | inl t ↦ ap (λ (x : What). step x false)
          (cond_then (bytes_eq l (codes "?")) what.Unknown (what_of m (o ++ w ∷ []) l) t
          ∙ sym (cond_then (bytes_eq l (codes "?")) what.Unknown (what_of m o l) t))
      | inr t ↦
          elim (cases_Bool (contains m l)) [
            | inl s ↦
                ap (λ (x : What). step (cond (bytes_eq l (codes "?")) what.Unknown x) false) (
                cond_then (contains m l) (what.Hyp (number_in m l)) (what.Listed (number_in (o ++ w ∷ []) l)) s
                ∙ sym (cond_then (contains m l) (what.Hyp (number_in m l)) (what.Listed (number_in o l)) s))
            | inr s ↦
                let here : contains o l ≡ true = sym (ap (λ (a : Bool). (a || contains m l) || contains o l) t ∙ ap (λ (b : Bool). b || contains o l) s) ∙ h in
                ap (λ (n : ℕ). step (cond (bytes_eq l (codes "?")) what.Unknown (cond (contains m l) (what.Hyp (number_in m l)) (what.Listed n))) false) (same_number o w l here)
          ]
    ]

same_steps : (m o : List (List ℕ)) (w : List ℕ) (ls : List (List ℕ)) → AllByRecursion (Covers (codes "?" ∷ m) o) ls → map (normal_step m (o ++ w ∷ [])) ls ≡ map (normal_step m o) ls
same_steps m o w [] h = refl
same_steps m o w (l ∷ ls) h =
    ap (λ (s : Step). s ∷ map (normal_step m (o ++ w ∷ [])) ls) (the_what m o w l h.0) ∙ ap (λ (ss : List Step). normal_step m o l ∷ ss) (same_steps m o w ls h.1)

steps_kept : (m ls : List (List ℕ)) (w : List ℕ) → map (normal_step m (with_other m (other_labels m ls) w)) ls ≡ map (normal_step m (other_labels m ls)) ls
steps_kept m ls w =
    let o = other_labels m ls in
    elim (cases_Bool (contains (codes "?" ∷ m) w)) [
      | inl t ↦ ap (λ (x : List (List ℕ)). map (normal_step m x) ls) (cond_then (contains (codes "?" ∷ m) w) o (with_name o w) t)
      | inr t ↦
          ap (λ (x : List (List ℕ)). map (normal_step m x) ls) (cond_else (contains (codes "?" ∷ m) w) o (with_name o w) t)
          ∙ elim (cases_Bool (contains o w)) [
            | inl s ↦ ap (λ (x : List (List ℕ)). map (normal_step m x) ls) (cond_then (contains o w) o (o ++ w ∷ []) s)
            | inr s ↦ ap (λ (x : List (List ℕ)). map (normal_step m x) ls) (cond_else (contains o w) o (o ++ w ∷ []) s) ∙ same_steps m o w ls (covered (codes "?" ∷ m) ls)
          ]
    ]

pub no_steps : (m : List (List ℕ)) → StepsSoFar m [] [] []
no_steps m = record { listed = refl; taken = refl }

pub one_step : (m ls others new : List (List ℕ)) (w : List ℕ) (s : Step) (steps more : List Step) → new ≡ with_other m others w
    → s ≡ normal_step m new w → more ≡ steps ++ s ∷ [] → StepsSoFar m ls others steps → StepsSoFar m (ls ++ w ∷ []) new more
one_step m ls others new w s steps more n e p h =
    let is : new ≡ with_other m (other_labels m ls) w = n ∙ ap (λ (o : List (List ℕ)). with_other m o w) h.listed in
    let front : steps ≡ map (normal_step m new) ls =
    h.taken ∙ ap (λ (o : List (List ℕ)). map (normal_step m o) ls) h.listed ∙ sym (steps_kept m ls w) ∙ ap (λ (o : List (List ℕ)). map (normal_step m o) ls) (sym is) in
    record {
      listed = is ∙ sym (repeats_more (codes "?" ∷ m) ls w);
      taken = p ∙ ap (λ (x : List Step). x ++ s ∷ []) front ∙ ap (λ (x : Step). map (normal_step m new) ls ++ x ∷ []) e ∙ sym (map-append (normal_step m new) ls (w ∷ []));
    }

-- ---- the words by their places in the text

names_more : (text : List ℕ) (spans : List Span) (i : ℕ) (d : Span) → i < length spans → names_in text (take i spans) ++ name_in text (get_or spans i d) ∷ [] ≡ names_in text (take (i + 1) spans)
names_more text spans i d low =
    let one : suc i ≡ i + 1 = omega arith in
    sym (map-append (name_in text) (take i spans) (get_or spans i d ∷ [])) ∙ ap (names_in text) (sym (take-suc spans i d low) ∙ ap (λ (j : ℕ). take j spans) one)

pub one_word : (m others new : List (List ℕ)) (text : List ℕ) (spans : List Span) (i : ℕ) (d : Span) (s : Step) (steps more : List Step)
    → i < length spans → new ≡ with_other m others (name_in text (get_or spans i d))
    → s ≡ normal_step m new (name_in text (get_or spans i d)) → more ≡ steps ++ s ∷ [] → StepsSoFar m (names_in text (take i spans)) others steps
    → StepsSoFar m (names_in text (take (i + 1) spans)) new more
one_word m others new text spans i d s steps more low n e p h =
    subst (λ (l : List (List ℕ)). StepsSoFar m l new more) (names_more text spans i d low)
    (one_step m (names_in text (take i spans)) others new (name_in text (get_or spans i d)) s steps more n e p h)

-- ---- numbers in range

some_place : (names : List (List ℕ)) (l : List ℕ) → contains names l ≡ true → number_in names l < length names
some_place names l e = at (position (bytes_eq l) names) refl
  where
    at : (p : Option ℕ) → position (bytes_eq l) names ≡ p → number_in names l < length names
    at (Some k) h = let n = number_is names l k h in let w = position_within (bytes_eq l) names k h in omega arith
    at None h = let both : true ≡ false = sym e ∙ none_there (bytes_eq l) names h in absurd (no both)
      where
        no : true ≡ false → ⊥
        no e = cc

step_in_range : (m o : List (List ℕ)) (l : List ℕ) (marks : ℕ) → Covers (codes "?" ∷ m) o l → IsInRange (length m) (length o) marks (normal_step m o l).what
step_in_range m o l marks h =
    elim (cases_Bool (bytes_eq l (codes "?"))) [
      | inl t ↦ subst (IsInRange (length m) (length o) marks) (sym (cond_then (bytes_eq l (codes "?")) what.Unknown (what_of m o l) t)) tt
      | inr t ↦
          subst (IsInRange (length m) (length o) marks) (sym (cond_else (bytes_eq l (codes "?")) what.Unknown (what_of m o l) t)) (
          elim (cases_Bool (contains m l)) [
            | inl s ↦ subst (IsInRange (length m) (length o) marks) (sym (cond_then (contains m l) (what.Hyp (number_in m l)) (what.Listed (number_in o l)) s)) (some_place m l s)
            | inr s ↦
                let here : contains o l ≡ true = sym (ap (λ (a : Bool). (a || contains m l) || contains o l) t ∙ ap (λ (b : Bool). b || contains o l) s) ∙ h in
                subst (IsInRange (length m) (length o) marks) (sym (cond_else (contains m l) (what.Hyp (number_in m l)) (what.Listed (number_in o l)) s)) (some_place o l here)
          ])
    ]

all_in_range : (m o ls : List (List ℕ)) → AllByRecursion (Covers (codes "?" ∷ m) o) ls → AreInRange (length m) (length o) 0 (map (normal_step m o) ls)
all_in_range m o [] h = tt
all_in_range m o (l ∷ ls) h = (step_in_range m o l 0 h.0, all_in_range m o ls h.1)

pub normal_in_range : (m ls : List (List ℕ)) (code : Code) → code ≡ normal_code m ls → AreInRange (length m) (length code.labels) 0 code.steps
normal_in_range m ls code e = subst (λ (c : Code). AreInRange (length m) (length c.labels) 0 c.steps) (sym e) (all_in_range m (other_labels m ls) ls (covered (codes "?" ∷ m) ls))
