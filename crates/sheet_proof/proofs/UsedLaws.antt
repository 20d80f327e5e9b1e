-- What proves the steps of a finished worksheet stands for them, and `qed` is used.
use Rattle.std.specs.Prelude.{◌≡◌, ◌<◌, ◌≤◌, ◌+◌, ◌&&◌, ◌||◌, ◌==◌, ℕ, suc, Bool, true, false, List, [], ◌∷◌, ◌++◌, length, map, fold, cond}
use Rattle.std.specs.Prelude.{slice_get, slice_index_or, unwrap_or, option_map, option_and_then, is_none, Contains, Option, Some, None, refl}
use Rattle.std.specs.List.{AllByRecursion, AllZip, list_all}
use Rattle.std.specs.Option.{option_map_or}
use Rattle.std.proofs.Common.{sym, ap, subst, ◌∙◌, arith, inl, inr, append_assoc, append-nil, length-append}
use Rattle.std.proofs.lemmas.Bool.{cases_lt}
use Rattle.std.proofs.lemmas.List.{length-map}
use Rattle.mm_base.specs.declared.kinds.Kinds.{Kinds}
use Rattle.mm_base.specs.declared.symbols.Pair.{Pair}
use Rattle.mm_model.specs.Book.{Assertion, Database}
use Rattle.mm_frames.specs.Contents.{Contents}
use Rattle.mm_frames.proofs.Queries.{frame-is}
use Rattle.mm_database.specs.Books.{usable_with}
use Rattle.mm_database.specs.Opened.{Opened, IsOpened}
use Rattle.solve_model.specs.Solutions.{names_step}
use Rattle.sheet_text.specs.declared.sheet.Given.{Given}
use Rattle.sheet_text.specs.declared.sheet.Given.TheVariants as place
use Rattle.proof_tree.specs.declared.building.ProofStep.{ProofStep}
use Rattle.proof_tree.specs.declared.building.ProofStep.TheVariants as given
use Rattle.proof_tree.specs.Given.{is_used, used_at}
use Rattle.proof_tree.specs.Standing.{IsProofStep, FollowFromUsed, StandFor, places_of}
use Rattle.written_model.specs.declared.options.DvMode.{DvMode}
use Rattle.written_model.specs.WrittenSteps.{Use, WrittenStep, steps_in}
use Rattle.written_model.specs.Pairs.{clash_of, lack_of}
use Rattle.written_model.specs.ProofTrees.{Below, Finished, is_complete_use, at_qed, listed}
use Rattle.written_steps.specs.declared.draft.StepUse.{StepUse}
use Rattle.written_steps.specs.declared.draft.DraftStep.{DraftStep}
use Rattle.written_steps.specs.declared.draft.DraftItem.{DraftItem}
use Rattle.written_steps.specs.declared.draft.DraftItem.TheVariants as draft
use Rattle.written_steps.specs.Drafts.{book, use_in, step_in, items_in, drafts_in, IsSoundUse, IsSoundStep, AreSound}
use Rattle.written_steps.proofs.DraftLists.{steps_are, sound_drafts}
use Rattle.written_steps.proofs.Kept.{made_of}
use Rattle.sheet_proof.specs.Provable.{IsProvableStep, IsProvable}
use Rattle.sheet_proof.specs.Steps.{are_used, hyps_in, is_whole, step_by, proof_step, proof_steps, put_item, step_numbers}
use Rattle.sheet_proof.proofs.Small.{both, both_true, eq_of, get_left, get_mid, first, later}

module _ (d : Opened) where
  abbrev steps_from : List ProofStep → List DraftStep → List ProofStep
  steps_from before [] = []
  steps_from before (s ∷ ss) = proof_step d before s ∷ steps_from (before ++ proof_step d before s ∷ []) ss

  put_all : (items : List DraftItem) (before : List ProofStep) → fold (put_item d) before items ≡ before ++ steps_from before (drafts_in items)
  put_all [] before = sym (append-nil before)
  put_all (draft.Comment lines ∷ items) before = put_all items before
  put_all (draft.Step s ∷ items) before =
      put_all items (before ++ proof_step d before s ∷ [])
      ∙ append_assoc before (proof_step d before s ∷ []) (steps_from (before ++ proof_step d before s ∷ []) (drafts_in items))

  -- ---- a use

  abbrev use_with : StepUse → Assertion → Use
  use_with u a = record { assertion = a; values = u.values }

  use_is : (s : DraftStep) (u : StepUse) (x : IsSoundUse d u) → s.by ≡ Some u → (step_in d s).by ≡ Some (use_with u x.assertion)
  use_is s u x e = ap (option_and_then (use_in d)) e ∙ ap (option_map (use_with u)) x.is_usable

  hyps_are : (u : StepUse) (x : IsSoundUse d u) → hyps_in d u.label ≡ length x.assertion.hyps
  hyps_are u x = ap (λ o. option_map_or (λ (a : Assertion). length a.hyps) o 0) x.is_usable

  places_named : (before : List ProofStep) (places : List Given) → are_used before places ≡ true
      → (places ≡ map place.Step (step_numbers places)) × AllByRecursion (λ k. used_at before k ≡ true) (step_numbers places)
  places_named before [] h = (refl, tt)
  places_named before (place.Gap ∷ gs) h = absurd (let impossible : false ≡ true = h in cc)
  places_named before (place.Step k ∷ gs) h =
      let parts = both (used_at before k) (are_used before gs) h in
      let rest = places_named before gs parts.1 in
      (ap (λ xs. place.Step k ∷ xs) rest.0, (parts.0, rest.1))

  abbrev HasReference : WrittenStep → Type 0
  HasReference e = (u : Use) → e.by ≡ Some u → unwrap_or e.reference [] ≡ slice_index_or d.contents.labels u.assertion.label.0 []

  module _ (kinds : Kinds) (text : List ℕ) (opened : IsOpened kinds text d) where
    abbrev db : Database
    db = book kinds text d

    bare_stands : (s : DraftStep) (b : Bool) → s.by ≡ None → IsProofStep db (step_in d s) (cond b (given.Hyp (unwrap_or s.reference [])) given.Unused)
    bare_stands s true e = (ap (option_and_then (use_in d)) e, refl)
    bare_stands s false e = tt

    use_stands : (before : List ProofStep) (s : DraftStep) (u : StepUse) (x : IsSoundUse d u) (b : Bool) → s.by ≡ Some u → HasReference (step_in d s) → is_whole d before s.places u ≡ b
        → IsProofStep db (step_in d s) (cond b (given.Ref u.label u.values (step_numbers s.places)) given.Unused)
    use_stands before s u x false e r w = tt
    use_stands before s u x true e r w =
        let parts = both (length s.places == hyps_in d u.label) (are_used before s.places) w in
        let named = (places_named before s.places parts.1).0 in
        let made = made_of d u.label x.assertion x.is_usable in
        let label : x.assertion.label ≡ u.label = ap (λ (a : Assertion). a.label) made.made in
        record {
          used = use_with u x.assertion;
          is_by = use_is s u x e;
          is_usable = ap (usable_with d.parsed u.label) (sym (frame-is d.contents u.label text opened.contents)) ∙ x.is_usable;
          reference = r (use_with u x.assertion) (use_is s u x e) ∙ ap (λ l. slice_index_or d.contents.labels l.0 []) label
              ∙ ap (λ (c : Contents). slice_index_or c.labels u.label.0 []) opened.contents;
          values_are = refl;
          value_count = x.count;
          places_are = named;
          place_count = sym (length-map (step_numbers s.places) place.Step) ∙ ap length (sym named) ∙ eq_of (length s.places) (hyps_in d u.label) parts.0 ∙ hyps_are u x;
        }

    step_stands : (before : List ProofStep) (s : DraftStep) (o : Option StepUse) → s.by ≡ o → IsSoundStep d s → HasReference (step_in d s) → IsProofStep db (step_in d s) (step_by d before s o)
    step_stands before s None e sound r = bare_stands s s.hyp e
    step_stands before s (Some u) e sound r = use_stands before s u (sound u e) (is_whole d before s.places u) e r refl

    all_stand : (before : List ProofStep) (ss : List DraftStep) → AllByRecursion (IsSoundStep d) ss → AllByRecursion (λ (s : DraftStep). HasReference (step_in d s)) ss
        → AllZip (IsProofStep db) (map (step_in d) ss) (steps_from before ss)
    all_stand before [] sound r = tt
    all_stand before (s ∷ ss) sound r = (step_stands before s s.by refl sound.0 r.0, all_stand (before ++ proof_step d before s ∷ []) ss sound.1 r.1)

  -- ---- used steps alone are named

  bare_follows : (before : List ProofStep) (n : List ℕ) (b : Bool) → AllByRecursion (λ k. used_at before k ≡ true) (places_of (cond b (given.Hyp n) given.Unused))
  bare_follows before n true = tt
  bare_follows before n false = tt

  use_follows : (before : List ProofStep) (places : List Given) (u : StepUse) (b : Bool) → is_whole d before places u ≡ b
      → AllByRecursion (λ k. used_at before k ≡ true) (places_of (cond b (given.Ref u.label u.values (step_numbers places)) given.Unused))
  use_follows before places u false w = tt
  use_follows before places u true w = (places_named before places (both (length places == hyps_in d u.label) (are_used before places) w).1).1

  step_follows : (before : List ProofStep) (s : DraftStep) (o : Option StepUse) → AllByRecursion (λ k. used_at before k ≡ true) (places_of (step_by d before s o))
  step_follows before s None = bare_follows before (unwrap_or s.reference []) s.hyp
  step_follows before s (Some u) = use_follows before s.places u (is_whole d before s.places u) refl

  all_follow : (before : List ProofStep) (ss : List DraftStep) → FollowFromUsed before (steps_from before ss)
  all_follow before [] = tt
  all_follow before (s ∷ ss) = (step_follows before s s.by, all_follow (before ++ proof_step d before s ∷ []) ss)

  references : (ss : List DraftStep) → ((i : ℕ) (e : WrittenStep) → slice_get (map (step_in d) ss) i ≡ Some e → HasReference e) → AllByRecursion (λ (s : DraftStep). HasReference (step_in d s)) ss
  references [] h = tt
  references (s ∷ ss) h = (h 0 (step_in d s) refl, references ss (λ i e at. h (suc i) e at))

  -- ---- what is below `qed` is used

  module _ (mode : DvMode) (allowed : List Pair) (es : List WrittenStep) (finished : Finished mode allowed es)
      (steps : (i : ℕ) (e : WrittenStep) → slice_get es i ≡ Some e → IsProvableStep d i e) where
    abbrev Done : List ProofStep → Type 0
    Done before = (k : ℕ) → k < length before → Below es k → used_at before k ≡ true

    bare_used : (b : Bool) (n : List ℕ) → (b || false) ≡ true → is_used (cond b (given.Hyp n) given.Unused) ≡ true
    bare_used true n h = refl
    bare_used false n h = absurd (let impossible : false ≡ true = h in cc)

    whole_used : (b : Bool) (u : StepUse) (ns : List ℕ) → b ≡ true → is_used (cond b (given.Ref u.label u.values ns) given.Unused) ≡ true
    whole_used true u ns h = refl
    whole_used false u ns h = absurd cc

    names_used : (before : List ProofStep) (places : List Given) → list_all names_step places ≡ true
        → ((k : ℕ) → Contains places (place.Step k) → used_at before k ≡ true) → are_used before places ≡ true
    names_used before [] h f = refl
    names_used before (place.Gap ∷ gs) h f = absurd (let impossible : false ≡ true = h in cc)
    names_used before (place.Step k ∷ gs) h f =
        both_true (used_at before k) (are_used before gs) (f k (first (place.Step k) gs)) (names_used before gs h (λ j c. f j (later (place.Step j) (place.Step k) gs c)))

    not_hyp : (e : WrittenStep) (i : ℕ) (u : Use) (c : Bool) → slice_get es i ≡ Some e → e.by ≡ Some u → (e.hyp || c) ≡ true → c ≡ true
    not_hyp e i u c at by h = by_hyp e.hyp refl h
      where
        by_hyp : (b : Bool) → e.hyp ≡ b → (b || c) ≡ true → c ≡ true
        by_hyp false k g = g
        by_hyp true k g = absurd (let impossible : None ≡ Some u = sym ((steps i e at).no_use k) ∙ by in cc)

    used_by : (before : List ProofStep) (s : DraftStep) (o : Option StepUse) → s.by ≡ o → IsSoundStep d s → Done before → slice_get es (length before) ≡ Some (step_in d s) → Below es (length before)
        → is_used (step_by d before s o) ≡ true
    used_by before s None e sound done at below =
        bare_used s.hyp (unwrap_or s.reference [])
        (ap (λ o. s.hyp || is_complete_use mode allowed s.places o) (sym (ap (option_and_then (use_in d)) e)) ∙ finished.complete (length before) (step_in d s) at below)
    used_by before s (Some u) e sound done at below =
        let x = sound u e in
        let used = use_with u x.assertion in
        let complete = not_hyp (step_in d s) (length before) used (is_complete_use mode allowed s.places (Some used)) at (use_is s u x e)
        (ap (λ o. s.hyp || is_complete_use mode allowed s.places o) (sym (use_is s u x e)) ∙ finished.complete (length before) (step_in d s) at below) in
        let one = both ((length s.places == length x.assertion.hyps && list_all names_step s.places) && is_none (clash_of used)) (is_none (lack_of mode allowed used)) complete in
        let two = both (length s.places == length x.assertion.hyps && list_all names_step s.places) (is_none (clash_of used)) one.0 in
        let three = both (length s.places == length x.assertion.hyps) (list_all names_step s.places) two.0 in
        whole_used (is_whole d before s.places u) u (step_numbers s.places)
        (both_true (length s.places == hyps_in d u.label) (are_used before s.places) (ap (λ n. length s.places == n) (hyps_are u x) ∙ three.0)
        (names_used before s.places three.1 (λ k c. done k ((steps (length before) (step_in d s) at).earlier k c) (listed (length before) below at c))))

    done_more : (before : List ProofStep) (s : DraftStep) → IsSoundStep d s → Done before → slice_get es (length before) ≡ Some (step_in d s) → Done (before ++ proof_step d before s ∷ [])
    done_more before s sound done at k l below = elim (cases_lt k (length before)) [
      | inl h ↦ ap (λ o. option_map_or is_used o false) (get_left before (proof_step d before s ∷ []) k h) ∙ done k h below
      | inr h ↦
          let same : k ≡ length before = (let n = length-append before (proof_step d before s ∷ []) in omega (arith, n, l, h)) in
          ap (λ n. used_at (before ++ proof_step d before s ∷ []) n) same ∙ ap (λ o. option_map_or is_used o false) (get_mid before (proof_step d before s) [])
          ∙ used_by before s s.by refl sound done at (subst (Below es) same below)
    ]

    all_done : (ss : List DraftStep) (before : List ProofStep) (pre : List WrittenStep) → es ≡ pre ++ map (step_in d) ss → length pre ≡ length before → AllByRecursion (IsSoundStep d) ss → Done before
        → Done (before ++ steps_from before ss)
    all_done [] before pre e n sound done = subst Done (sym (append-nil before)) done
    all_done (s ∷ ss) before pre e n sound done =
        let p = proof_step d before s in
        let at : slice_get es (length before) ≡ Some (step_in d s) =
        ap (λ xs. slice_get xs (length before)) e ∙ ap (slice_get (pre ++ step_in d s ∷ map (step_in d) ss)) (sym n)
        ∙ get_mid pre (step_in d s) (map (step_in d) ss) in
        let rest = all_done ss (before ++ p ∷ []) (pre ++ step_in d s ∷ []) (e ∙ sym (append_assoc pre (step_in d s ∷ []) (map (step_in d) ss)))
        (length-append pre (step_in d s ∷ []) ∙ ap (λ m. m + 1) n ∙ sym (length-append before (p ∷ []))) sound.1 (done_more before s sound.0 done at) in
        subst Done (append_assoc before (p ∷ []) (steps_from (before ++ p ∷ []) ss)) rest

  -- ---- the whole

  length_from : (before : List ProofStep) (ss : List DraftStep) → length (steps_from before ss) ≡ length ss
  length_from before [] = refl
  length_from before (s ∷ ss) = ap suc (length_from (before ++ proof_step d before s ∷ []) ss)

  module _ (items : List DraftItem) (sound : AreSound d items) (provable : IsProvable d (steps_in (items_in d items))) where
    abbrev es : List WrittenStep
    es = steps_in (items_in d items)

    all_steps : proof_steps d items ≡ steps_from [] (drafts_in items)
    all_steps = put_all items []

    pub stand_for : (kinds : Kinds) (text : List ℕ) → IsOpened kinds text d → StandFor (book kinds text d) es (proof_steps d items)
    stand_for kinds text opened = record {
      each = subst (λ ps. AllZip (IsProofStep (book kinds text d)) es ps) (sym all_steps)
          (subst (λ ws. AllZip (IsProofStep (book kinds text d)) ws (steps_from [] (drafts_in items))) (sym (steps_are d items))
          (all_stand kinds text opened [] (drafts_in items) (sound_drafts d items sound)
          (references (drafts_in items) (λ i e at. (provable.steps i e (ap (λ ws. slice_get ws i) (steps_are d items) ∙ at)).reference))));
      follow = subst (FollowFromUsed []) (sym all_steps) (all_follow [] (drafts_in items));
    }

    count : length (proof_steps d items) ≡ length provable.front + 1
    count = ap length all_steps ∙ length_from [] (drafts_in items) ∙ sym (length-map (drafts_in items) (step_in d)) ∙ ap length (sym (steps_are d items)) ∙ ap length provable.whole
        ∙ length-append provable.front (provable.last ∷ [])

    -- the last step is used
    pub last_used : (root : ℕ) → root + 1 ≡ length (proof_steps d items) → (root ≡ length provable.front) × (used_at (proof_steps d items) root ≡ true)
    last_used root e =
        let same : root ≡ length provable.front = omega (arith, e, count) in
        let at : slice_get es root ≡ Some provable.last = ap (slice_get es) same ∙ ap (λ xs. slice_get xs (length provable.front)) provable.whole ∙ get_mid provable.front provable.last [] in
        let done =
        all_done provable.mode provable.allowed es provable.finished provable.steps (drafts_in items) [] [] (steps_are d items) refl
        (sound_drafts d items sound) (λ k l b. absurd (omega (arith, l))) in
        (same, ap (λ ps. used_at ps root) all_steps ∙ done root (subst (λ n. root < n) (ap length all_steps) (omega (arith, e))) (at_qed root at provable.named))

    pub not_empty : 1 ≤ length (proof_steps d items)
    not_empty = omega (arith, count)
