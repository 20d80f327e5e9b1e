-- A normal proof runs as its labels do.
use Rattle.std.specs.Prelude.{◌≡◌, ℕ, suc, Bool, true, false, ◌||◌, List, [], ◌∷◌, map, Result, Ok, Err, refl, codes}
use Rattle.std.specs.Str.{bytes_eq}
use Rattle.std.specs.List.{AllByRecursion}
use Rattle.std.proofs.Common.{sym, ap, ◌∙◌, cond}
use Rattle.mm_model.specs.Names.{contains}
use Rattle.proof_model.specs.declared.code.What.TheVariants as what
use Rattle.proof_model.specs.declared.code.Step.{Step}
use Rattle.proof_model.specs.declared.theorem.Theorem.{Theorem}
use Rattle.proof_model.specs.Codes.{step, what_of, normal_step, other_labels}
use Rattle.proof_model.specs.Machine.{Formula, Frames, State, MachineFault, start, and_then, keep_top, use_label, use_what, use_step, numbered, run_steps}
use Rattle.proof_laws.specs.Labels.{run_labels, IsNoGap, NormalRunsLabels}
use Rattle.proof_laws.proofs.LabelLaws.{Covers, covered, map_all, spelled}
use Rattle.proof_laws.proofs.RunLaws.{Outcome}
use Rattle.proof_laws.proofs.StepLaws.{Spelled}

-- the state behind a run whose stack is known
pub stack_of : {E : Type 0} (o : Result State E) (stack : List Formula) → and_then (λ (st : State). Ok st.stack) o ≡ Ok stack → (st : State) × (o ≡ Ok st) × (st.stack ≡ stack)
stack_of (Err e) stack h = absurd (cc)
stack_of (Ok st) stack h = (st, refl, let same : st.stack ≡ stack = cc in same)

module _ (frames : Frames) (thm : Theorem) where
  unmarked : (o : Outcome) (mid : State) → and_then (λ next. Ok (keep_top false next)) o ≡ Ok mid → o ≡ Ok mid
  unmarked (Err f) mid e = absurd (cc)
  unmarked (Ok st) mid e = e

  -- a label that is no `?` is what its step names
  abbrev Named : List (List ℕ) → List ℕ → Type 0
  Named others l = IsNoGap l → Spelled frames thm others l

  named_by : (others : List (List ℕ)) (l : List ℕ) (b : Bool) → bytes_eq l (codes "?") ≡ b → ((b || contains thm.mandatory l) || contains others l) ≡ true → Named others l
  named_by others l true is e plain = absurd (let wrong : true ≡ false = sym is ∙ plain in cc)
  named_by others l false is e plain = spelled frames thm others l e

  named : (others : List (List ℕ)) (l : List ℕ) → Covers (codes "?" ∷ thm.mandatory) others l → Named others l
  named others l e = named_by others l (bytes_eq l (codes "?")) refl e

  all_named : (ls : List (List ℕ)) → AllByRecursion (Named (other_labels thm.mandatory ls)) ls
  all_named ls =
      map_all (Covers (codes "?" ∷ thm.mandatory) (other_labels thm.mandatory ls)) (Named (other_labels thm.mandatory ls)) ls (named (other_labels thm.mandatory ls))
      (covered ls (codes "?" ∷ thm.mandatory))

  -- the steps of labels, where the others have these numbers
  abbrev steps_of : List (List ℕ) → List (List ℕ) → List Step
  steps_of others ls = map (normal_step thm.mandatory others) ls

  -- the state behind a step is that behind its label
  step_is : (b : Bool) (others : List (List ℕ)) (l : List ℕ) (st mid : State) → bytes_eq l (codes "?") ≡ b → Named others l
      → use_step frames thm others (step (cond b what.Unknown (what_of thm.mandatory others l)) false) st ≡ Ok mid → use_label frames thm l st ≡ Ok mid
  step_is true others l st mid is at e = absurd (cc)
  step_is false others l st mid is at e = sym (at is st) ∙ unmarked (use_what frames thm others (what_of thm.mandatory others l) st) mid e

  after_label : (others ls : List (List ℕ)) (n : ℕ) (l : List ℕ) (st last : State) (o : Outcome)
      → use_step frames thm others (normal_step thm.mandatory others l) st ≡ o
      → Named others l → ((mid : State) → run_steps frames thm others (suc n) (steps_of others ls) mid ≡ Ok last → run_labels frames thm ls mid ≡ Ok last)
      → and_then (run_steps frames thm others (suc n) (steps_of others ls)) (numbered n o) ≡ Ok last → run_labels frames thm (l ∷ ls) st ≡ Ok last
  after_label others ls n l st last (Err f) is at h e = absurd (cc)
  after_label others ls n l st last (Ok mid) is at h e = ap (and_then (run_labels frames thm ls)) (step_is (bytes_eq l (codes "?")) others l st mid refl at is) ∙ h mid e

  labels_run : (others ls : List (List ℕ)) (n : ℕ) (st last : State) → AllByRecursion (Named others) ls → run_steps frames thm others n (steps_of others ls) st ≡ Ok last
      → run_labels frames thm ls st ≡ Ok last
  labels_run others [] n st last at e = let same : st ≡ last = cc in ap (λ (s : State). Ok s) same
  labels_run others (l ∷ ls) n st last at e =
      after_label others ls n l st last (use_step frames thm others (normal_step thm.mandatory others l) st) refl at.0
      (λ mid r. labels_run others ls (suc n) mid last at.1 r) e

  -- the steps of a normal proof, run over its labels
  abbrev pub run_normal : List (List ℕ) → State → Result State (ℕ × MachineFault)
  run_normal ls st = run_steps frames thm (other_labels thm.mandatory ls) 0 (steps_of (other_labels thm.mandatory ls) ls) st

  -- where the steps of a normal proof run, its labels do
  pub normal_labels : (ls : List (List ℕ)) (st last : State) → run_normal ls st ≡ Ok last → run_labels frames thm ls st ≡ Ok last
  normal_labels ls st last e = labels_run (other_labels thm.mandatory ls) ls 0 st last (all_named ls) e

  step_of_label : (b : Bool) (others : List (List ℕ)) (l : List ℕ) (st mid : State) → bytes_eq l (codes "?") ≡ b → IsNoGap l → Named others l
      → use_label frames thm l st ≡ Ok mid → use_step frames thm others (step (cond b what.Unknown (what_of thm.mandatory others l)) false) st ≡ Ok mid
  step_of_label true others l st mid is plain at e = absurd (let wrong : true ≡ false = sym is ∙ plain in cc)
  step_of_label false others l st mid is plain at e = ap (and_then (λ next. Ok (keep_top false next))) (at plain st ∙ e)

  after_step : (others ls : List (List ℕ)) (n : ℕ) (l : List ℕ) (st last : State) (o : Outcome) → use_label frames thm l st ≡ o → IsNoGap l
      → Named others l → ((mid : State) → run_labels frames thm ls mid ≡ Ok last → run_steps frames thm others (suc n) (steps_of others ls) mid ≡ Ok last)
      → and_then (run_labels frames thm ls) o ≡ Ok last → run_steps frames thm others n (steps_of others (l ∷ ls)) st ≡ Ok last
  after_step others ls n l st last (Err f) is plain at h e = absurd (cc)
  after_step others ls n l st last (Ok mid) is plain at h e =
      ap (λ (o : Outcome). and_then (run_steps frames thm others (suc n) (steps_of others ls)) (numbered n o)) (step_of_label (bytes_eq l (codes "?")) others l st mid refl plain at is) ∙ h mid e

  steps_run : (others ls : List (List ℕ)) (n : ℕ) (st last : State) → AllByRecursion (Named others) ls → AllByRecursion IsNoGap ls → run_labels frames thm ls st ≡ Ok last
      → run_steps frames thm others n (steps_of others ls) st ≡ Ok last
  steps_run others [] n st last at plain e = let same : st ≡ last = cc in ap (λ (s : State). Ok s) same
  steps_run others (l ∷ ls) n st last at plain e =
      after_step others ls n l st last (use_label frames thm l st) refl plain.0 at.0 (λ mid r. steps_run others ls (suc n) mid last at.1 plain.1 r) e

  -- where labels run, the steps of their normal proof do
  pub labels_normal : (ls : List (List ℕ)) (st last : State) → AllByRecursion IsNoGap ls → run_labels frames thm ls st ≡ Ok last → run_normal ls st ≡ Ok last
  labels_normal ls st last plain e = steps_run (other_labels thm.mandatory ls) ls 0 st last (all_named ls) plain e

  pub normal_runs_labels : NormalRunsLabels frames thm
  normal_runs_labels ls stack plain = (
    λ e. let end = stack_of (run_normal ls start) stack e in
        ap (and_then (λ (st : State). Ok st.stack)) (normal_labels ls start end.0 end.1) ∙ ap (λ (s : List Formula). Ok s) end.2,
    λ e. let end = stack_of (run_labels frames thm ls start) stack e in
        ap (and_then (λ (st : State). Ok st.stack)) (labels_normal ls start end.0 plain end.1) ∙ ap (λ (s : List Formula). Ok s) end.2,
  )
