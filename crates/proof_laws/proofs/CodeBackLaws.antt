-- Where the steps of a proof's code run, the proof gives a formula.
use Rattle.std.specs.Prelude.{◌≡◌, ℕ, suc, Bool, List, [], ◌∷◌, ◌++◌, length, Option, Some, None, Ok, Err, false, refl}
use Rattle.std.proofs.Common.{sym, ap, subst, ◌∙◌, append_assoc}
use Rattle.std.proofs.lemmas.List.{append-nil}
use Rattle.mm_model.specs.Names.{first_number}
use Rattle.proof_model.specs.declared.code.What.{What}
use Rattle.proof_model.specs.declared.code.Step.{Step}
use Rattle.proof_model.specs.declared.code.What.TheVariants as what
use Rattle.proof_model.specs.declared.theorem.Theorem.{Theorem}
use Rattle.proof_model.specs.Proofs.{Proof, Proofs, by, none, next, listed, same_proof}
use Rattle.proof_model.specs.Arities.{HasArities, HaveArities}
use Rattle.proof_model.specs.Codes.{Coding, step, coded, coded_all, again_or, with_label, what_of, is_marked}
use Rattle.proof_model.specs.Machine.{Formula, Frames, State, and_then, start, use_what, use_step, keep_top, numbered, run_steps}
use Rattle.proof_laws.proofs.RunLaws.{Outcome, onto, state, label_shown}
use Rattle.proof_laws.proofs.CodeLaws.{Gives, GivesAll}
use Rattle.proof_laws.proofs.StepLaws.{IsSpelled, AreSpelled, Tracks, run_steps-append, kept_at, code_tracks, codes_track}

module _ (frames : Frames) (thm : Theorem) (labels : List (List ℕ)) (places : List Proof) where
  -- steps run to their end from a state
  abbrev RunFrom : ℕ → List Step → State → Type 0
  RunFrom n ss st = (last : State) × (run_steps frames thm labels n ss st ≡ Ok last)

  front_case : (o : Outcome) (n : ℕ) (xs ys : List Step) (last : State) → and_then (run_steps frames thm labels (suc n) (xs ++ ys)) (numbered n o) ≡ Ok last
      → ((mid : State) → run_steps frames thm labels (suc n) (xs ++ ys) mid ≡ Ok last → RunFrom (suc n) xs mid)
      → (mid : State) × (and_then (run_steps frames thm labels (suc n) xs) (numbered n o) ≡ Ok mid)
  front_case (Err f) n xs ys last e h = absurd (cc)
  front_case (Ok st) n xs ys last e h = h st e

  -- where steps run, the first of them do
  run_front : (n : ℕ) (xs ys : List Step) (st last : State) → run_steps frames thm labels n (xs ++ ys) st ≡ Ok last → RunFrom n xs st
  run_front n [] ys st last e = (st, refl)
  run_front n (x ∷ xs) ys st last e = front_case (use_step frames thm labels x st) n xs ys last e (λ mid r. run_front (suc n) xs ys mid last r)

  used_by : (o : Outcome) (n : ℕ) (marked : Bool) (last : State) → and_then (λ (st : State). Ok st) (numbered n (and_then (λ (st : State). Ok (keep_top marked st)) o)) ≡ Ok last
      → (mid : State) × (o ≡ Ok mid)
  used_by (Err f) n marked last e = absurd (cc)
  used_by (Ok st) n marked last e = (st, refl)

  -- and so does the step behind them
  last_step : (xs : List Step) (x : Step) (mid last : State) → run_steps frames thm labels 0 xs start ≡ Ok mid → run_steps frames thm labels 0 (xs ++ x ∷ []) start ≡ Ok last
      → (after : State) × (use_what frames thm labels x.what mid ≡ Ok after)
  last_step xs x mid last e r =
      let more = run_steps-append frames thm labels 0 xs (x ∷ []) start mid e in
      used_by (use_what frames thm labels x.what mid) more.0 x.marked last (sym more.1 ∙ r)

  -- ---- the steps of a coding begin with those before

  abbrev Extends : Coding → Coding → Type 0
  Extends c d = (more : List Step) × (d.steps ≡ c.steps ++ more)

  extends_by : (o : Option ℕ) (c : Coding) (rest : Coding → Coding) → Extends c (rest c) → Extends c (again_or o c rest)
  extends_by None c rest e = e
  extends_by (Some k) c rest e = (step (what.Again k) false ∷ [], refl)

  labelled : (c d : Coding) (p : Proof) (mark : Bool) (w : What) → Extends c d → Extends c (with_label p mark w d)
  labelled c d p mark w e = (e.0 ++ step w mark ∷ [], ap (λ (ss : List Step). ss ++ step w mark ∷ []) e.1 ∙ append_assoc c.steps e.0 (step w mark ∷ []))

  mutual
    extends : (p : Proof) (c : Coding) → Extends c (coded thm.mandatory labels places p c)
    extends (by name below) c =
        extends_by (first_number (same_proof (by name below)) c.marked) c _
        (labelled c (coded_all thm.mandatory labels places below c) (by name below) (is_marked places (by name below)) (what_of thm.mandatory labels name) (extends_all below c))

    extends_all : (ps : Proofs) (c : Coding) → Extends c (coded_all thm.mandatory labels places ps c)
    extends_all none c = ([], sym (append-nil c.steps))
    extends_all (next p ps) c =
        let a = extends p c in
        let b = extends_all ps (coded thm.mandatory labels places p c) in
        (a.0 ++ b.0, b.1 ∙ ap (λ (ss : List Step). ss ++ b.0) a.1 ∙ append_assoc c.steps a.0 b.0)

  -- the steps of a coding run from the start
  abbrev Runs : Coding → Type 0
  Runs c = RunFrom 0 c.steps start

  runs_before : (c d : Coding) → Extends c d → Runs d → Runs c
  runs_before c d e r = run_front 0 c.steps e.0 start r.0 (subst (λ (ss : List Step). run_steps frames thm labels 0 ss start ≡ Ok r.0) e.1 r.1)

  -- ---- what is given

  abbrev Gave : Proof → Type 0
  Gave p = (f : Formula) × Gives frames thm p f

  abbrev GaveAll : Proofs → Type 0
  GaveAll ps = (fs : List Formula) × GivesAll frames thm ps fs × (length fs ≡ length (listed ps))

  gave_by : (name : List ℕ) (below : Proofs) (c : Coding) (s k : List Formula) (o : Option ℕ) → HasArities frames thm (by name below) → IsSpelled frames thm labels (by name below)
      → Tracks frames thm labels c s k → first_number (same_proof (by name below)) c.marked ≡ o
      → (Runs (coded_all thm.mandatory labels places below c) → GaveAll below)
      → Runs (again_or o c (λ d. with_label (by name below) (is_marked places (by name below)) (what_of thm.mandatory labels name) (coded_all thm.mandatory labels places below d)))
      → Gave (by name below)
  gave_by name below c s k (Some i) a sp t is h r = let at = kept_at frames thm labels (by name below) c.marked k i t.kept is in (at.0, at.2)
  gave_by name below c s k None a sp t is h r =
      let d = coded_all thm.mandatory labels places below c in
      let own = step (what_of thm.mandatory labels name) (is_marked places (by name below)) in
      let all = h (run_front 0 d.steps (own ∷ []) start r.0 r.1) in
      let tracked = codes_track frames thm labels places below all.0 sp.1 all.1 c s k t in
      let used = last_step d.steps own (state (onto all.0 s) tracked.0) r.0 tracked.1.runs r.1 in
      let label = sym (sp.0 (state (onto all.0 s) tracked.0)) ∙ used.1 in
      let shown = label_shown frames thm name all.0 s tracked.0 used.0 (a.0 ∙ ap (λ (m : ℕ). Some m) (sym all.2)) label in
      (shown.0, (all.0, all.1, shown.2))

  mutual
    pub gave : (p : Proof) → HasArities frames thm p → IsSpelled frames thm labels p → (c : Coding) (s k : List Formula) → Tracks frames thm labels c s k
        → Runs (coded thm.mandatory labels places p c) → Gave p
    gave (by name below) a sp c s k t r =
        gave_by name below c s k (first_number (same_proof (by name below)) c.marked) a sp t refl (λ runs. gave_all below a.1 sp.1 c s k t runs) r

    gave_all : (ps : Proofs) → HaveArities frames thm ps → AreSpelled frames thm labels ps → (c : Coding) (s k : List Formula) → Tracks frames thm labels c s k
        → Runs (coded_all thm.mandatory labels places ps c) → GaveAll ps
    gave_all none a sp c s k t r = ([], refl, refl)
    gave_all (next p ps) a sp c s k t r =
        let d = coded thm.mandatory labels places p c in
        let first = gave p a.0 sp.0 c s k t (runs_before d (coded_all thm.mandatory labels places ps d) (extends_all ps d) r) in
        let tracked = code_tracks frames thm labels places p first.0 sp.0 first.1 c s k t in
        let others = gave_all ps a.1 sp.1 d (first.0 ∷ s) tracked.0 tracked.1 r in
        (first.0 ∷ others.0, (first.0, others.0, refl, first.1, others.1), ap suc others.2)
