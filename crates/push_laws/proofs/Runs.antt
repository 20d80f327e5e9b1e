-- What a proof leaves on the stack, from the proofs of its hypotheses.
use Rattle.std.specs.Prelude.{◌≡◌, ℕ, nat_lt, Bool, true, List, [], ◌∷◌, ◌++◌, length, find, zip, Some, None, option_map, suc, Ok, Err, refl}
use Rattle.std.specs.List.{AllZip, AllByRecursion}
use Rattle.std.specs.Str.{bytes_eq}
use Rattle.std.proofs.Common.{sym, ap, ◌∙◌, cond}
use Rattle.mm_model.specs.declared.frames.Hyp.{Hyp}
use Rattle.mm_model.specs.declared.frames.Frame.{Frame}
use Rattle.proof_model.specs.declared.theorem.Theorem.{Theorem}
use Rattle.proof_model.specs.Proofs.{Proof, Proofs, by, none, postorder, postorders, proofs, listed}
use Rattle.proof_model.specs.Arities.{HasArities, HaveArities}
use Rattle.proof_model.specs.Machine.{Formula, Frames, not_earlier, and_then, unless, use_label, use_hyp, use_frame, apply_frame, applied, entries_fault, substituted}
use Rattle.proof_laws.specs.Labels.{run_labels, IsNoGap}
use Rattle.proof_laws.proofs.RunLaws.{Pushes, find_any, find_none, onto, state, run_labels-append, one_label, apply_onto}
use Rattle.proof_laws.proofs.NormalLaws.{labels_normal}
use Rattle.written_model.specs.ProofsPush as push

abbrev pub is_named : List ℕ → Hyp → Bool
is_named name h = bytes_eq h.name name

module _ (frames : Frames) (thm : Theorem) where
  -- the labels of the proof push the formula
  pub record Runs (p : Proof) (f : Formula) : Type 0 where
    pub on : (s k : List Formula) → run_labels frames thm (postorder p) (state s k) ≡ Ok (state (f ∷ s) k)

  pub record RunAll (ps : Proofs) (fs : List Formula) : Type 0 where
    pub on : (s k : List Formula) → run_labels frames thm (postorders ps) (state s k) ≡ Ok (state (onto fs s) k)

  pub runs_by : (name : List ℕ) (below : Proofs) (fs : List Formula) (f : Formula) → RunAll below fs → Pushes (use_label frames thm name) fs f → Runs (by name below) f
  runs_by name below fs f all at = record {
    on = λ s k. run_labels-append frames thm (postorders below) (name ∷ []) (state s k) ∙ ap (and_then (run_labels frames thm (name ∷ []))) (all.on s k)
        ∙ one_label frames thm name (state (onto fs s) k) ∙ at.on s k;
  }

  pub run_list : (ps : List Proof) (fs : List Formula) → AllZip Runs ps fs → RunAll (proofs ps) fs
  run_list [] [] h = record { on = λ s k. refl }
  run_list [] (f ∷ fs) h = absurd h
  run_list (p ∷ ps) [] h = absurd h
  run_list (p ∷ ps) (f ∷ fs) h = let rest = run_list ps fs h.1 in record {
    on = λ s k. run_labels-append frames thm (postorder p) (postorders (proofs ps)) (state s k) ∙ ap (and_then (run_labels frames thm (postorders (proofs ps)))) (h.0.on s k)
        ∙ rest.on (f ∷ s) k;
  }

  -- a hypothesis pushes its formula
  pub hyp_pushes : (name : List ℕ) (h : Hyp) → find (is_named name) thm.hyps ≡ Some h → Pushes (use_label frames thm name) [] h.formula
  hyp_pushes name h e = record { on = λ s k. ap (λ o. use_hyp frames thm name o (state s k)) e }

  pub hyp_runs : (name : List ℕ) (h : Hyp) → find (is_named name) thm.hyps ≡ Some h → Runs (by name none) h.formula
  hyp_runs name h e = runs_by name none [] h.formula (record { on = λ s k. refl }) (hyp_pushes name h e)

  -- an assertion takes formulas without a fault, and pushes its substituted formula
  pub frame_pushes : (name : List ℕ) (frame : Frame) (fs : List Formula) → find (is_named name) thm.hyps ≡ None → frames name ≡ Some frame → nat_lt frame.at thm.at ≡ true
      → length fs ≡ length frame.hyps → entries_fault thm frame (zip frame.hyps fs) ≡ None → Pushes (use_label frames thm name) fs (substituted (zip frame.hyps fs) frame.formula)
  frame_pushes name frame fs none_named is earlier long sound = record {
    on = λ s k. ap (λ o. use_hyp frames thm name o (state (onto fs s) k)) none_named ∙ ap (λ o. use_frame frames thm o (state (onto fs s) k)) is
        ∙ ap (λ b. cond b (apply_frame thm frame (state (onto fs s) k)) (Err not_earlier)) earlier
        ∙ apply_onto (applied thm frame) (length frame.hyps) fs s k long
        ∙ ap (λ o. and_then (λ r. Ok (state (r ∷ s) k)) (unless o (substituted (zip frame.hyps fs) frame.formula))) sound;
  }

  -- so its normal proof pushes the formula, whatever lies below
  pub pushes_from : (p : Proof) (f : Formula) → AllByRecursion IsNoGap (postorder p) → Runs p f → push.Pushes frames thm p f
  pushes_from p f plain runs st = labels_normal frames thm (postorder p) st (state (f ∷ st.stack) st.kept) plain (runs.on st.stack st.kept)

  -- the labels of the proof push the formula, none is `?`, and each has as many subproofs as it takes hypotheses
  pub record IsProofOf (p : Proof) (f : Formula) : Type 0 where
    pub runs : Runs p f
    pub plain : AllByRecursion IsNoGap (postorder p)
    pub arities : HasArities frames thm p

  all_append : (xs ys : List (List ℕ)) → AllByRecursion IsNoGap xs → AllByRecursion IsNoGap ys → AllByRecursion IsNoGap (xs ++ ys)
  all_append [] ys h k = k
  all_append (x ∷ xs) ys h k = (h.0, all_append xs ys h.1 k)

  all_run : (ps : List Proof) (fs : List Formula) → AllZip IsProofOf ps fs → AllZip Runs ps fs
  all_run [] [] h = tt
  all_run [] (f ∷ fs) h = absurd h
  all_run (p ∷ ps) [] h = absurd h
  all_run (p ∷ ps) (f ∷ fs) h = (h.0.runs, all_run ps fs h.1)

  all_plain : (ps : List Proof) (fs : List Formula) → AllZip IsProofOf ps fs → AllByRecursion IsNoGap (postorders (proofs ps))
  all_plain [] [] h = tt
  all_plain [] (f ∷ fs) h = absurd h
  all_plain (p ∷ ps) [] h = absurd h
  all_plain (p ∷ ps) (f ∷ fs) h = all_append (postorder p) (postorders (proofs ps)) h.0.plain (all_plain ps fs h.1)

  all_arities : (ps : List Proof) (fs : List Formula) → AllZip IsProofOf ps fs → HaveArities frames thm (proofs ps) × (length (listed (proofs ps)) ≡ length fs)
  all_arities [] [] h = (tt, refl)
  all_arities [] (f ∷ fs) h = absurd h
  all_arities (p ∷ ps) [] h = absurd h
  all_arities (p ∷ ps) (f ∷ fs) h = let rest = all_arities ps fs h.1 in ((h.0.arities, rest.0), ap suc rest.1)

  pub hyp_proof : (name : List ℕ) (h : Hyp) → find (is_named name) thm.hyps ≡ Some h → IsNoGap name → IsProofOf (by name none) h.formula
  hyp_proof name h e plain = record {
    runs = hyp_runs name h e;
    plain = (plain, tt);
    arities = (ap (λ (b : Bool). cond b (Some 0) (option_map (λ (f : Frame). length f.hyps) (frames name))) (find_any (is_named name) thm.hyps h e), tt);
  }

  pub frame_proof : (name : List ℕ) (frame : Frame) (ps : List Proof) (fs : List Formula) → AllZip IsProofOf ps fs → find (is_named name) thm.hyps ≡ None → frames name ≡ Some frame
      → nat_lt frame.at thm.at ≡ true → length fs ≡ length frame.hyps → entries_fault thm frame (zip frame.hyps fs) ≡ None → IsNoGap name
      → IsProofOf (by name (proofs ps)) (substituted (zip frame.hyps fs) frame.formula)
  frame_proof name frame ps fs h none_named is earlier long sound plain =
      let all = all_arities ps fs h in
      let count : length frame.hyps ≡ length (listed (proofs ps)) = sym (all.1 ∙ long) in
      record {
        runs = runs_by name (proofs ps) fs (substituted (zip frame.hyps fs) frame.formula) (run_list ps fs (all_run ps fs h)) (frame_pushes name frame fs none_named is earlier long sound);
        plain = all_append (postorders (proofs ps)) (name ∷ []) (all_plain ps fs h) (plain, tt);
        arities = (
          ap (λ (b : Bool). cond b (Some 0) (option_map (λ (f : Frame). length f.hyps) (frames name))) (find_none (is_named name) thm.hyps none_named)
              ∙ ap (option_map (λ (f : Frame). length f.hyps)) is ∙ ap (λ (n : ℕ). Some n) count,
          all.0,
        );
      }
