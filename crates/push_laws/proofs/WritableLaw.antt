-- The compressed code of a proof whose labels are labels can be written, and lists no mandatory hypothesis.
use Rattle.std.specs.Prelude.{◌≡◌, ◌<◌, ◌||◌, ◌+◌, ℕ, suc, Bool, true, false, not, List, [], ◌∷◌, ◌++◌, length, Contains, Option, Some, None, option_map, unwrap_or, codes, refl}
use Rattle.std.specs.List.{AllByRecursion, list_any, list_all}
use Rattle.std.specs.Str.{bytes_eq}
use Rattle.std.proofs.Common.{sym, ap, subst, ◌∙◌, cond, arith, inl, inr}
use Rattle.std.proofs.lemmas.Bool.{cases_Bool, and_from, or_from, or_left, or_right, both_ways, false_from_ne_true, not_from_false}
use Rattle.std.proofs.lemmas.List.{length-append}
use Rattle.std.proofs.lemmas.Slice.Eq.{bytes_eq-Decides}
use Rattle.mm_model.specs.declared.frames.Hyp.{Hyp}
use Rattle.mm_model.specs.declared.frames.Frame.{Frame}
use Rattle.mm_model.specs.Frames.{without_repeats}
use Rattle.mm_model.specs.Labels.{is_label}
use Rattle.mm_model.specs.Names.{Name, contains, has_twice, first_number}
use Rattle.proof_model.specs.declared.code.What.TheVariants as what
use Rattle.proof_model.specs.declared.code.Step.{Step}
use Rattle.proof_model.specs.declared.theorem.Theorem.{Theorem}
use Rattle.proof_model.specs.Arities.{HasArities, HaveArities}
use Rattle.proof_model.specs.Codes.{step, what_of, number_in, is_marked, listed_labels, argument_places, Coding, with_label, with_again, again_or, coded, coded_all, code_of_proof}
use Rattle.proof_model.specs.Machine.{Frames}
use Rattle.proof_model.specs.ProofCode.{IsInRange, AreInRange, is_listable, IsWritable}
use Rattle.proof_model.specs.Proofs.{Proof, Proofs, by, none, next, listed, postorder, postorders, same_proof}
use Rattle.proof_laws.proofs.LabelLaws.{Covers, covered}
use Rattle.sheet_laws.proofs.SplitLaws.{label_token}
use Rattle.push_laws.proofs.Lists.{any_contains}
use Rattle.push_laws.proofs.Runs.{is_named}

-- ---- the labels of a proof are those of hypotheses and of assertions

module _ (frames : Frames) (thm : Theorem) (P : Name → Type 0) (of_hyp : (h : Hyp) → Contains thm.hyps h → P h.name) (of_frame : (n : Name) (f : Frame) → frames n ≡ Some f → P n) where
  by_frame : (n : Name) (k : ℕ) (o : Option Frame) → frames n ≡ o → option_map (λ (f : Frame). length f.hyps) o ≡ Some k → P n
  by_frame n k None is e = absurd cc
  by_frame n k (Some f) is e = of_frame n f is

  by_arity : (n : Name) (k : ℕ) (b : Bool) → list_any (is_named n) thm.hyps ≡ b → cond b (Some 0) (option_map (λ (f : Frame). length f.hyps) (frames n)) ≡ Some k → P n
  by_arity n k true is e = let h = any_contains (is_named n) thm.hyps is in subst P ((bytes_eq-Decides h.0.name n).0 h.2) (of_hyp h.0 h.1)
  by_arity n k false is e = by_frame n k (frames n) refl e

  all_append : (xs ys : List Name) → AllByRecursion P xs → AllByRecursion P ys → AllByRecursion P (xs ++ ys)
  all_append [] ys a b = b
  all_append (x ∷ xs) ys a b = (a.0, all_append xs ys a.1 b)

  mutual
    pub labels_have : (p : Proof) → HasArities frames thm p → AllByRecursion P (postorder p)
    labels_have (by n below) a =
        all_append (postorders below) (n ∷ []) (all_labels_have below a.1) (by_arity n (length (listed below)) (list_any (is_named n) thm.hyps) refl a.0, tt)

    pub all_labels_have : (ps : Proofs) → HaveArities frames thm ps → AllByRecursion P (postorders ps)
    all_labels_have none a = tt
    all_labels_have (next p ps) a = all_append (postorder p) (postorders ps) (labels_have p a.0) (all_labels_have ps a.1)

-- ---- lists without repeats

kept_all : (P : Name → Type 0) (seen ns : List Name) → AllByRecursion P ns → AllByRecursion P (without_repeats seen ns)
kept_all P seen [] a = tt
kept_all P seen (n ∷ ns) a = elim (contains seen n) as (λ t. AllByRecursion P (cond t (without_repeats seen ns) (n ∷ without_repeats (n ∷ seen) ns))) [
  | true ↦ kept_all P seen ns a.1
  | false ↦ (a.0, kept_all P (n ∷ seen) ns a.1)
]

abbrev again : Bool → Name → List Name → List Name → List Name
again b n seen ns = cond b (without_repeats seen ns) (n ∷ without_repeats (n ∷ seen) ns)

not_again : (seen ns : List Name) (m : Name) → contains seen m ≡ true → contains (without_repeats seen ns) m ≡ false
not_again seen [] m h = refl
not_again seen (n ∷ ns) m h = elim (cases_Bool (contains seen n)) [
  | inl d ↦ subst (λ (b : Bool). contains (again b n seen ns) m ≡ false) (sym d) (not_again seen ns m h)
  | inr d ↦ subst (λ (b : Bool). contains (again b n seen ns) m ≡ false) (sym d)
      (or_from (bytes_eq m n) (contains (without_repeats (n ∷ seen) ns) m)
      (false_from_ne_true (bytes_eq m n) (λ e. both_ways (contains seen n) d (subst (λ x. contains seen x ≡ true) ((bytes_eq-Decides m n).0 e) h)))
      (not_again (n ∷ seen) ns m (or_right (bytes_eq m n) (contains seen m) h)))
]

no_twice : (seen ns : List Name) → has_twice (without_repeats seen ns) ≡ false
no_twice seen [] = refl
no_twice seen (n ∷ ns) = elim (cases_Bool (contains seen n)) [
  | inl d ↦ subst (λ (b : Bool). has_twice (again b n seen ns) ≡ false) (sym d) (no_twice seen ns)
  | inr d ↦ subst (λ (b : Bool). has_twice (again b n seen ns) ≡ false) (sym d)
      (or_from (contains (without_repeats (n ∷ seen) ns) n) (has_twice (without_repeats (n ∷ seen) ns))
      (not_again (n ∷ seen) ns n (or_left (bytes_eq n n) (contains seen n) ((bytes_eq-Decides n n).1 refl))) (no_twice (n ∷ seen) ns))
]

-- what was seen is not listed
seen_not : (seen ns : List Name) (old : List Name) → ((m : Name) → contains old m ≡ true → contains seen m ≡ true) → list_any (contains old) (without_repeats seen ns) ≡ false
seen_not seen [] old f = refl
seen_not seen (n ∷ ns) old f = elim (cases_Bool (contains seen n)) [
  | inl d ↦ subst (λ (b : Bool). list_any (contains old) (again b n seen ns) ≡ false) (sym d) (seen_not seen ns old f)
  | inr d ↦ subst (λ (b : Bool). list_any (contains old) (again b n seen ns) ≡ false) (sym d)
      (or_from (contains old n) (list_any (contains old) (without_repeats (n ∷ seen) ns)) (false_from_ne_true (contains old n) (λ e. both_ways (contains seen n) d (f n e)))
      (seen_not (n ∷ seen) ns old (λ m e. or_right (bytes_eq m n) (contains seen m) (f m e))))
]

-- ---- labels that can stand in the brackets

no_bracket : (n : Name) → is_label n ≡ true → bytes_eq n (codes ")") ≡ false
no_bracket n h = false_from_ne_true (bytes_eq n (codes ")")) (λ e.
    let bad : false ≡ true = ap is_label (sym ((bytes_eq-Decides n (codes ")")).0 e)) ∙ h in
    cc)

label_listable : (n : Name) → is_label n ≡ true → is_listable n ≡ true
label_listable n h = and_from _ (not (bytes_eq n (codes ")"))) (label_token n h) (not_from_false (bytes_eq n (codes ")")) (no_bracket n h))

all_listable : (ns : List Name) → AllByRecursion (λ n. is_label n ≡ true) ns → list_all is_listable ns ≡ true
all_listable [] a = refl
all_listable (n ∷ ns) a = and_from (is_listable n) (list_all is_listable ns) (label_listable n a.0) (all_listable ns a.1)

-- ---- the numbers of steps

abbrev after : ℕ → List Step → ℕ
after k [] = k
after k (s ∷ ss) = after (cond s.marked (suc k) k) ss

module _ (m n : ℕ) where
  in_range_append : (k : ℕ) (xs ys : List Step) → AreInRange m n k xs → AreInRange m n (after k xs) ys → AreInRange m n k (xs ++ ys)
  in_range_append k [] ys a b = b
  in_range_append k (x ∷ xs) ys a b = (a.0, in_range_append (cond x.marked (suc k) k) xs ys a.1 b)

after-append : (k : ℕ) (xs ys : List Step) → after k (xs ++ ys) ≡ after (after k xs) ys
after-append k [] ys = refl
after-append k (x ∷ xs) ys = after-append (cond x.marked (suc k) k) xs ys

number_within : {X : Type 0} (test : X → Bool) (xs : List X) (k : ℕ) → first_number test xs ≡ Some k → k < length xs
number_within test [] k e = absurd cc
number_within test (x ∷ xs) k e = go (test x) refl (first_number test xs) refl (λ j i. number_within test xs j i) e
  where
    go : (b : Bool) → test x ≡ b → (o : Option ℕ) → first_number test xs ≡ o → ((j : ℕ) → first_number test xs ≡ Some j → j < length xs)
        → cond b (Some 0) (option_map suc o) ≡ Some k → k < suc (length xs)
    go true i o j f h = let same : 0 ≡ k = cc in omega (arith, same)
    go false i None j f h = absurd cc
    go false i (Some l) j f h = let same : suc l ≡ k = cc in let less = f l j in omega (arith, same, less)

number_found : {X : Type 0} (test : X → Bool) (xs : List X) → list_any test xs ≡ true → (k : ℕ) × (first_number test xs ≡ Some k)
number_found test [] e = absurd cc
number_found test (x ∷ xs) e = elim (cases_Bool (test x)) [
  | inl d ↦ (0, ap (λ (b : Bool). cond b (Some 0) (option_map suc (first_number test xs))) d)
  | inr d ↦
      let r = number_found test xs (sym (ap (λ (b : Bool). b || list_any test xs) d) ∙ e) in
      (suc r.0, ap (λ (b : Bool). cond b (Some 0) (option_map suc (first_number test xs))) d ∙ ap (option_map suc) r.1)
]

named_within : (names : List Name) (l : Name) → contains names l ≡ true → number_in names l < length names
named_within names l h =
    let k = number_found (bytes_eq l) names h in
    subst (λ (o : Option ℕ). unwrap_or o 0 < length names) (sym k.1) (number_within (bytes_eq l) names k.0 k.1)

module _ (mandatory labels : List Name) (places : List Proof) where
  abbrev m : ℕ
  m = length mandatory

  abbrev n : ℕ
  n = length labels

  -- the steps so far are in range, and as many are marked
  record IsCounted (c : Coding) : Type 0 where
    steps : AreInRange m n 0 c.steps
    marks : after 0 c.steps ≡ length c.marked

  what_in_range : (k : ℕ) (l : Name) → Covers mandatory labels l → IsInRange m n k (what_of mandatory labels l)
  what_in_range k l h = go (contains mandatory l) refl h
    where
      go : (b : Bool) → contains mandatory l ≡ b → (b || contains labels l) ≡ true → IsInRange m n k (cond b (what.Hyp (number_in mandatory l)) (what.Listed (number_in labels l)))
      go true e i = named_within mandatory l e
      go false e i = named_within labels l i

  label_counted : (p : Proof) (mark : Bool) (l : Name) (c : Coding) → Covers mandatory labels l → IsCounted c → IsCounted (with_label p mark (what_of mandatory labels l) c)
  label_counted p mark l c h i = record {
    steps = in_range_append m n 0 c.steps (step (what_of mandatory labels l) mark ∷ []) i.steps (what_in_range (after 0 c.steps) l h, tt);
    marks = after-append 0 c.steps (step (what_of mandatory labels l) mark ∷ []) ∙ by_mark mark;
  }
    where
      by_mark : (b : Bool) → cond b (suc (after 0 c.steps)) (after 0 c.steps) ≡ length (cond b (c.marked ++ p ∷ []) c.marked)
      by_mark true = ap suc i.marks ∙ (let e : suc (length c.marked) ≡ length c.marked + 1 = omega arith in e) ∙ sym (length-append c.marked (p ∷ []))
      by_mark false = i.marks

  again_counted : (k : ℕ) (c : Coding) → k < length c.marked → IsCounted c → IsCounted (with_again k c)
  again_counted k c l i = record {
    steps = in_range_append m n 0 c.steps (step (what.Again k) false ∷ []) i.steps (subst (λ (x : ℕ). k < x) (sym i.marks) l, tt);
    marks = after-append 0 c.steps (step (what.Again k) false ∷ []) ∙ i.marks;
  }

  by_again : (p : Proof) (o : Option ℕ) (c : Coding) (rest : Coding → Coding) → first_number (same_proof p) c.marked ≡ o → IsCounted c
      → ((d : Coding) → IsCounted d → IsCounted (rest d)) → IsCounted (again_or o c rest)
  by_again p None c rest e i f = f c i
  by_again p (Some k) c rest e i f = again_counted k c (number_within (same_proof p) c.marked k e) i

  all_left : (xs ys : List Name) → AllByRecursion (Covers mandatory labels) (xs ++ ys) → AllByRecursion (Covers mandatory labels) xs
  all_left [] ys h = tt
  all_left (x ∷ xs) ys h = (h.0, all_left xs ys h.1)

  all_right : (xs ys : List Name) → AllByRecursion (Covers mandatory labels) (xs ++ ys) → AllByRecursion (Covers mandatory labels) ys
  all_right [] ys h = h
  all_right (x ∷ xs) ys h = all_right xs ys h.1

  mutual
    coded_counted : (p : Proof) (c : Coding) → AllByRecursion (Covers mandatory labels) (postorder p) → IsCounted c → IsCounted (coded mandatory labels places p c)
    coded_counted (by l below) c h i =
        by_again (by l below) (first_number (same_proof (by l below)) c.marked) c
        (λ d. with_label (by l below) (is_marked places (by l below)) (what_of mandatory labels l) (coded_all mandatory labels places below d)) refl i
        (λ d j. label_counted (by l below) (is_marked places (by l below)) l (coded_all mandatory labels places below d) (all_right (postorders below) (l ∷ []) h).0
        (all_counted below d (all_left (postorders below) (l ∷ []) h) j))

    all_counted : (ps : Proofs) (c : Coding) → AllByRecursion (Covers mandatory labels) (postorders ps) → IsCounted c → IsCounted (coded_all mandatory labels places ps c)
    all_counted none c h i = i
    all_counted (next p ps) c h i =
        all_counted ps (coded mandatory labels places p c) (all_right (postorder p) (postorders ps) h) (coded_counted p c (all_left (postorder p) (postorders ps) h) i)

  pub steps_in_range : (p : Proof) → AllByRecursion (Covers mandatory labels) (postorder p) → AreInRange m n 0 (coded mandatory labels places p (record { steps = []; marked = [] })).steps
  steps_in_range p h = (coded_counted p (record { steps = []; marked = [] }) h (record { steps = tt; marks = refl })).steps

-- ---- the code

pub code_writable : (mandatory : List Name) (p : Proof) → AllByRecursion (λ n. is_label n ≡ true) (postorder p) → IsWritable (length mandatory) (code_of_proof mandatory p)
code_writable mandatory p labels = record {
  labels = all_listable (listed_labels mandatory p) (kept_all (λ n. is_label n ≡ true) mandatory (postorder p) labels);
  differ = no_twice mandatory (postorder p);
  in_range = steps_in_range mandatory (listed_labels mandatory p) (argument_places p) p (covered (postorder p) mandatory);
}

pub lists_no_mandatory : (mandatory : List Name) (p : Proof) → list_any (contains mandatory) (code_of_proof mandatory p).labels ≡ false
lists_no_mandatory mandatory p = seen_not mandatory (postorder p) mandatory (λ m e. e)
