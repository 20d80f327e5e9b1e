-- A proof ends alike over two databases where its labels name the same.
use Rattle.std.specs.Prelude.{◌≡◌, ℕ, suc, ◌⊎◌, Bool, true, false, List, [], ◌∷◌, length, find, filter_map, nat_lt, slice_index_or}
use Rattle.std.specs.Prelude.{Contains, if◌then◌else◌, Option, Some, None, Result, Ok, Err, is_some, option_and_then, option_map, refl}
use Rattle.std.specs.List.{cons_option}
use Rattle.std.specs.Str.{bytes_eq}
use Rattle.std.proofs.Common.{sym, ap, inl, inr, ◌∙◌, arith}
use Rattle.mm_base.specs.declared.symbols.Pair.{Pair}
use Rattle.mm_model.specs.declared.frames.Hyp.{Hyp}
use Rattle.mm_model.specs.declared.frames.Frame.{Frame}
use Rattle.mm_model.specs.Names.{Name}
use Rattle.proof_model.specs.declared.code.What.{What}
use Rattle.proof_model.specs.declared.code.What.TheVariants as what
use Rattle.proof_model.specs.declared.code.Step.{Step}
use Rattle.proof_model.specs.declared.theorem.Theorem.{Theorem}
use Rattle.proof_model.specs.Machine.{Formula, Frames, MachineFault, not_earlier, State, start, apply_frame, use_frame, use_hyp, use_label}
use Rattle.proof_model.specs.Machine.{use_what, use_step, numbered, run_steps, ended_fault, and_then, keep_top, end_fault, same_formula}
use Rattle.proof_model.specs.Machine.{result_differs}
use Rattle.install_laws.specs.TwoDatabases.{label_named_by, unplaced, assertion_before, NamesHypothesis, LawOfSamePairs}

-- the hypotheses and pairs are all that the use of an assertion looks at
abbrev with_parts : List Hyp → List Pair → Theorem
with_parts hyps pairs = record { at = 0; formula = []; hyps = hyps; mandatory = []; pairs = pairs }

apply_by_parts : (s : Theorem) (f : Frame) (st : State) → apply_frame s f st ≡ apply_frame (with_parts s.hyps s.pairs) f st
apply_by_parts s f st = refl

-- an assertion that is there, wherever it stands
abbrev pub use_assertion : Theorem → Option Frame → State → Result State MachineFault
use_assertion s None st = Err not_earlier
use_assertion s (Some f) st = apply_frame s f st

pub use_before : (frames : Frames) (s : Theorem) (name : Name) (st : State) → use_frame frames s (frames name) st ≡ use_assertion s (assertion_before frames s name) st
use_before frames s name st = by (frames name)
  where
    tested : (f : Frame) (b : Bool) → (if b then apply_frame s f st else Err not_earlier) ≡ use_assertion s (if b then Some (unplaced f) else None) st
    tested f true = refl
    tested f false = refl

    by : (o : Option Frame) → use_frame frames s o st ≡ use_assertion s (option_and_then (λ (f : Frame). if nat_lt f.at s.at then Some (unplaced f) else None) o) st
    by None = refl
    by (Some f) = tested f (nat_lt f.at s.at)

-- ---- lists of labels

first_in : {X : Type 0} (o : Option X) (y : X) (ys : List X) → o ≡ Some y → Contains (cons_option o ys) y
first_in None y ys e = absurd (cc)
first_in (Some z) y ys e = let same : z ≡ y = cc in (0, omega arith, same)

later_in : {X : Type 0} (o : Option X) (y : X) (ys : List X) → Contains ys y → Contains (cons_option o ys) y
later_in None y ys is = is
later_in (Some z) y ys (k, l, e) = (suc k, omega (arith, l), e)

-- ---- with the same pairs

module _ (here there : Frames) (s t : Theorem) (hyps : s.hyps ≡ t.hyps) (mandatory : s.mandatory ≡ t.mandatory) where
  -- the label names the same in both
  abbrev NamesAlike : Name → Type 0
  NamesAlike name = NamesHypothesis s name ⊎ (assertion_before here s name ≡ assertion_before there t name)

  abbrev AreNamedAlike : List Name → List Step → Type 0
  AreNamedAlike labels ss = (name : Name) → Contains (filter_map (λ (x : Step). label_named_by s.mandatory labels x.what) ss) name → NamesAlike name

  module _ (pairs : s.pairs ≡ t.pairs) where
    assertions : (o : Option Frame) (st : State) → use_assertion s o st ≡ use_assertion t o st
    assertions None st = refl
    assertions (Some f) st =
        ap (λ hs. apply_frame (with_parts hs s.pairs) f st) hyps ∙ ap (λ ps. apply_frame (with_parts t.hyps ps) f st) pairs

    frames_alike : (name : Name) (st : State) → assertion_before here s name ≡ assertion_before there t name → use_frame here s (here name) st ≡ use_frame there t (there name) st
    frames_alike name st e =
        use_before here s name st ∙ ap (λ o. use_assertion s o st) e ∙ assertions (assertion_before there t name) st ∙ sym (use_before there t name st)

    hyps_alike : (name : Name) (o : Option Hyp) (st : State) → (is_some o ≡ true) ⊎ (assertion_before here s name ≡ assertion_before there t name)
        → use_hyp here s name o st ≡ use_hyp there t name o st
    hyps_alike name (Some h) st is = refl
    hyps_alike name None st (inl e) = absurd (cc)
    hyps_alike name None st (inr e) = frames_alike name st e

    labels_alike : (name : Name) (st : State) → NamesAlike name → use_label here s name st ≡ use_label there t name st
    labels_alike name st is =
        hyps_alike name (find (λ (h : Hyp). bytes_eq h.name name) s.hyps) st is
        ∙ ap (λ hs. use_hyp there t name (find (λ (h : Hyp). bytes_eq h.name name) hs) st) hyps

    whats_alike : (labels : List Name) (w : What) (st : State) → ((name : Name) → label_named_by s.mandatory labels w ≡ Some name → NamesAlike name)
        → use_what here s labels w st ≡ use_what there t labels w st
    whats_alike labels (what.Hyp k) st is =
        labels_alike (slice_index_or s.mandatory k []) st (is (slice_index_or s.mandatory k []) refl)
        ∙ ap (λ ms. use_label there t (slice_index_or ms k []) st) mandatory
    whats_alike labels (what.Listed k) st is = labels_alike (slice_index_or labels k []) st (is (slice_index_or labels k []) refl)
    whats_alike labels (what.Again k) st is = refl
    whats_alike labels what.Unknown st is = refl

    steps_alike : (labels : List Name) (n : ℕ) (ss : List Step) (st : State) → AreNamedAlike labels ss → run_steps here s labels n ss st ≡ run_steps there t labels n ss st
    steps_alike labels n [] st is = refl
    steps_alike labels n (x ∷ ss) st is = ap run first ∙ more (λ next. steps_alike labels (suc n) ss next rest) (numbered n (use_step there t labels x st))
      where
        rest : AreNamedAlike labels ss
        rest name c = is name (later_in (label_named_by s.mandatory labels x.what) name (filter_map (λ (y : Step). label_named_by s.mandatory labels y.what) ss) c)

        first : use_step here s labels x st ≡ use_step there t labels x st
        first = ap (λ r. and_then (λ next. Ok (keep_top x.marked next)) r) (whats_alike labels x.what st
            (λ name e. is name (first_in (label_named_by s.mandatory labels x.what) name (filter_map (λ (y : Step). label_named_by s.mandatory labels y.what) ss) e)))

        run : Result State MachineFault → Result State (ℕ × MachineFault)
        run r = and_then (run_steps here s labels (suc n) ss) (numbered n r)

        more : ((next : State) → run_steps here s labels (suc n) ss next ≡ run_steps there t labels (suc n) ss next)
            → (r : Result State (ℕ × MachineFault))
            → and_then (run_steps here s labels (suc n) ss) r ≡ and_then (run_steps there t labels (suc n) ss) r
        more same (Ok next) = same next
        more same (Err f) = refl

-- the law: with the same pairs the machine ends alike
pub same_pairs : LawOfSamePairs
same_pairs here there s t code alike pairs =
    ap (λ r. ended_fault s (length code.steps) r) (steps_alike here there s t alike.hyps alike.mandatory pairs code.labels 0 code.steps start alike.labels)
    ∙ ends (run_steps there t code.labels 0 code.steps start)
  where
    ends : (r : Result State (ℕ × MachineFault)) → ended_fault s (length code.steps) r ≡ ended_fault t (length code.steps) r
    ends (Ok st) = ap (λ n. option_map (λ f. (length code.steps, f)) n) (stack_ends st.stack)
      where
        stack_ends : (fs : List Formula) → end_fault s fs ≡ end_fault t fs
        stack_ends [] = refl
        stack_ends (f ∷ []) = ap (λ g. if same_formula f g then None else Some result_differs) alike.formula
        stack_ends (f ∷ g ∷ fs) = refl
    ends (Err f) = refl
