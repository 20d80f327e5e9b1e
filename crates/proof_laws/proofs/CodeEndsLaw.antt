-- The compressed code of a proof ends with the stack of its labels.
use Rattle.std.specs.Prelude.{◌≡◌, ℕ, List, [], ◌∷◌, ◌++◌, length, Option, Some, None, option_map, Ok, Err, refl}
use Rattle.std.specs.List.{AllByRecursion}
use Rattle.std.proofs.Common.{sym, ap, ◌∙◌}
use Rattle.proof_model.specs.declared.code.Code.{Code}
use Rattle.proof_model.specs.declared.theorem.Theorem.{Theorem}
use Rattle.proof_model.specs.Proofs.{Proof, Proofs, by, none, next, postorder, postorders}
use Rattle.proof_model.specs.Codes.{listed_labels, argument_places, normal_code, code_of_proof}
use Rattle.proof_model.specs.Machine.{Formula, Frames, State, MachineFault, start, and_then, run_steps, end_fault, ended_fault, Accepts, stack_after}
use Rattle.proof_laws.specs.CodeEnds.{CodeEndsAsLabels, LabelsEndAsCode, CodeIsAccepted, LabelsAreAccepted}
use Rattle.proof_laws.proofs.RunLaws.{state}
use Rattle.proof_laws.proofs.CodeBackLaws.{gave}
use Rattle.proof_laws.proofs.LabelLaws.{Covers, covered, map_all, spelled}
use Rattle.proof_laws.proofs.CodeLaws.{gives_pushes, gives_from}
use Rattle.proof_laws.proofs.NormalLaws.{run_normal, normal_labels, labels_normal, stack_of}
use Rattle.proof_laws.proofs.StepLaws.{Ended, Spelled, IsSpelled, AreSpelled, code_tracks}

all_left : (P : List ℕ → Type 0) (xs ys : List (List ℕ)) → AllByRecursion P (xs ++ ys) → AllByRecursion P xs
all_left P [] ys h = tt
all_left P (x ∷ xs) ys h = (h.0, all_left P xs ys h.1)

all_right : (P : List ℕ → Type 0) (xs ys : List (List ℕ)) → AllByRecursion P (xs ++ ys) → AllByRecursion P ys
all_right P [] ys h = h
all_right P (x ∷ xs) ys h = all_right P xs ys h.1

module _ (frames : Frames) (thm : Theorem) where
  mutual
    spelled_from : (labels : List (List ℕ)) (p : Proof) → AllByRecursion (Spelled frames thm labels) (postorder p) → IsSpelled frames thm labels p
    spelled_from labels (by name below) h =
        ((all_right (Spelled frames thm labels) (postorders below) (name ∷ []) h).0, spelleds_from labels below (all_left (Spelled frames thm labels) (postorders below) (name ∷ []) h))

    spelleds_from : (labels : List (List ℕ)) (ps : Proofs) → AllByRecursion (Spelled frames thm labels) (postorders ps) → AreSpelled frames thm labels ps
    spelleds_from labels none h = tt
    spelleds_from labels (next p ps) h =
        (spelled_from labels p (all_left (Spelled frames thm labels) (postorder p) (postorders ps) h), spelleds_from labels ps (all_right (Spelled frames thm labels) (postorder p) (postorders ps) h))

  pub code_ends_as_labels : CodeEndsAsLabels frames thm
  code_ends_as_labels p stack a e =
      let labels = listed_labels thm.mandatory p in
      let ended = stack_of (run_normal frames thm (postorder p) start) stack e in
      let run = normal_labels frames thm (postorder p) start ended.0 ended.1 in
      let sp = spelled_from labels p (map_all (Covers thm.mandatory labels) (Spelled frames thm labels) (postorder p) (spelled frames thm labels) (covered (postorder p) thm.mandatory)) in
      let g = gives_from frames thm p a [] [] ended.0 run in
      let t = code_tracks frames thm labels (argument_places p) p g.0 sp g.1 (record { steps = []; marked = [] }) [] [] (record { runs = refl; kept = tt }) in
      let both : Ok ended.0 ≡ Ok (state (g.0 ∷ []) []) = sym run ∙ gives_pushes frames thm p g.0 g.1 [] [] in
      let one : ended.0 ≡ state (g.0 ∷ []) [] = cc in
      let stacks : g.0 ∷ [] ≡ stack = ap (λ (st : State). st.stack) (sym one) ∙ ended.2 in
      ap (and_then (λ (st : State). Ok st.stack)) t.1.runs ∙ ap (λ (s : List Formula). Ok s) stacks

  -- the stack that the labels leave, with that of the code
  pub labels_end_as_code : LabelsEndAsCode frames thm
  labels_end_as_code p stack a plain e =
      let labels = listed_labels thm.mandatory p in
      let ended = stack_of (run_steps frames thm labels 0 (code_of_proof thm.mandatory p).steps start) stack e in
      let sp = spelled_from labels p (map_all (Covers thm.mandatory labels) (Spelled frames thm labels) (postorder p) (spelled frames thm labels) (covered (postorder p) thm.mandatory)) in
      let g = gave frames thm labels (argument_places p) p a sp (record { steps = []; marked = [] }) [] [] (record { runs = refl; kept = tt }) (ended.0, ended.1) in
      let run = labels_normal frames thm (postorder p) start (state (g.0 ∷ []) []) plain (gives_pushes frames thm p g.0 g.1 [] []) in
      let ends : stack_after frames thm (normal_code thm.mandatory (postorder p)) ≡ Ok (g.0 ∷ []) = ap (and_then (λ (st : State). Ok st.stack)) run in
      let both : Ok (g.0 ∷ []) ≡ Ok stack = sym (code_ends_as_labels p (g.0 ∷ []) a ends) ∙ e in
      ends ∙ both

  abbrev numbered_end : ℕ → Option MachineFault → Option (ℕ × MachineFault)
  numbered_end n o = option_map (λ f. (n, f)) o

  -- a proof without a fault ends with a stack without a fault at its end
  ends_sound : (o : Ended) (n : ℕ) → ended_fault thm n o ≡ None
      → (stack : List Formula) × (and_then (λ (st : State). Ok st.stack) o ≡ Ok stack) × (numbered_end n (end_fault thm stack) ≡ None)
  ends_sound (Err e) n h = absurd (cc)
  ends_sound (Ok st) n h = (st.stack, refl, h)

  no_fault : (o : Option MachineFault) (n m : ℕ) → numbered_end n o ≡ None → numbered_end m o ≡ None
  no_fault None n m h = refl
  no_fault (Some f) n m h = absurd (cc)

  ends_so : (o : Ended) (n : ℕ) (stack : List Formula) → and_then (λ (st : State). Ok st.stack) o ≡ Ok stack → numbered_end n (end_fault thm stack) ≡ None → ended_fault thm n o ≡ None
  ends_so (Err e) n stack is h = absurd (cc)
  ends_so (Ok st) n stack is h = let same : st.stack ≡ stack = cc in ap (λ (s : List Formula). numbered_end n (end_fault thm s)) same ∙ h

  -- two codes that end with the same stack are accepted alike
  accepted_alike : (c d : Code) → ((stack : List Formula) → stack_after frames thm c ≡ Ok stack → stack_after frames thm d ≡ Ok stack) → Accepts frames thm c → Accepts frames thm d
  accepted_alike c d h e =
      let ended = ends_sound (run_steps frames thm c.labels 0 c.steps start) (length c.steps) e in
      ends_so (run_steps frames thm d.labels 0 d.steps start) (length d.steps) ended.0 (h ended.0 ended.1) (no_fault (end_fault thm ended.0) (length c.steps) (length d.steps) ended.2)

  pub code_is_accepted : CodeIsAccepted frames thm
  code_is_accepted p a e = accepted_alike (normal_code thm.mandatory (postorder p)) (code_of_proof thm.mandatory p) (λ stack r. code_ends_as_labels p stack a r) e

  pub labels_are_accepted : LabelsAreAccepted frames thm
  labels_are_accepted p a plain e =
      accepted_alike (code_of_proof thm.mandatory p) (normal_code thm.mandatory (postorder p)) (λ stack r. labels_end_as_code p stack a plain r) e
