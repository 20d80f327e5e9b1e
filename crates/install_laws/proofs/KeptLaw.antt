-- A proof that was accepted is accepted where each assertion that was before its theorem still is.
use Rattle.std.proofs.Common.{◌≡◌, ◌≤◌, ℕ, suc, Bool, true, false, List, [], ◌∷◌, length, Option, Some, None, option_map, Result, Ok}
use Rattle.std.proofs.Common.{Err, refl, sym, ap, ◌∙◌, subst, inl, inr}
use Rattle.std.specs.Prelude.{find, position, slice_index_or}
use Rattle.std.specs.List.{list_any}
use Rattle.std.specs.Str.{bytes_eq}
use Rattle.std.proofs.lemmas.Bool.{cases_Bool, or_parts}
use Rattle.mm_model.specs.declared.frames.Hyp.{Hyp}
use Rattle.mm_model.specs.declared.frames.Frame.{Frame}
use Rattle.mm_model.specs.Names.{Name, label, contains}
use Rattle.mm_model.specs.Statements.{Statement, statements, labels}
use Rattle.mm_model.specs.Frames.{frame_of}
use Rattle.proof_model.specs.declared.code.Code.{Code}
use Rattle.proof_model.specs.declared.code.Step.{Step}
use Rattle.proof_model.specs.declared.code.What.{What}
use Rattle.proof_model.specs.declared.code.What.TheVariants as what
use Rattle.proof_model.specs.declared.theorem.Theorem.{Theorem}
use Rattle.proof_model.specs.DatabaseProofs.{frames_of_database, theorem_of_frame}
use Rattle.proof_model.specs.Machine.{Frames, MachineFault, State, start, use_frame, use_hyp, use_label, use_what, use_step, numbered}
use Rattle.proof_model.specs.Machine.{run_steps, ended_fault, proof_fault, keep_top}
use Rattle.std.specs.Option.{option_and_then}
use Rattle.install_model.specs.declared.install.NewTheorem.{NewTheorem}
use Rattle.install_model.specs.Installed.{installed}
use Rattle.install_model.specs.Moved.{block_statements, moved, moved_frame}
use Rattle.install_laws.specs.TwoDatabases.{assertion_before}
use Rattle.install_laws.specs.InstalledStatements.{IsPlainTheorem}
use Rattle.install_laws.specs.InstalledActive.{IsOutside}
use Rattle.install_laws.specs.InstalledDatabase.{HasNewLabels}
use Rattle.install_laws.specs.InstalledProofs.{OldProofsStayAccepted}
use Rattle.install_laws.proofs.DatabaseLaw.{frames_are_moved}
use Rattle.install_laws.proofs.MorePairsLaw.{Keeps, and_keeps, numbered_keeps}
use Rattle.install_laws.proofs.MovedLists.{position_later}
use Rattle.install_laws.proofs.ProofsLaw.{put_at, before_by, before_moves, theorem_stays}
use Rattle.install_laws.proofs.TwoDatabasesLaws.{use_assertion, use_before}

module _ (here there : Frames) (s : Theorem) (k : ℕ)
    (stays : (name : Name) (f : Frame) → assertion_before here s name ≡ Some f → assertion_before there (put_at k s) name ≡ Some f) where
  frame_keeps : (name : Name) (st : State) → Keeps (use_frame here s (here name) st) (use_frame there (put_at k s) (there name) st)
  frame_keeps name st x e = use_before there (put_at k s) name st ∙ by (assertion_before here s name) (stays name) (sym (use_before here s name st) ∙ e)
    where
      by : (o : Option Frame) → ((f : Frame) → o ≡ Some f → assertion_before there (put_at k s) name ≡ Some f) → use_assertion s o st ≡ Ok x
          → use_assertion (put_at k s) (assertion_before there (put_at k s) name) st ≡ Ok x
      by None more h = absurd (cc)
      by (Some f) more h = ap (λ o. use_assertion (put_at k s) o st) (more f refl) ∙ h

  hyp_keeps : (name : Name) (o : Option Hyp) (st : State) → Keeps (use_hyp here s name o st) (use_hyp there (put_at k s) name o st)
  hyp_keeps name (Some h) st = λ x e. e
  hyp_keeps name None st = frame_keeps name st

  label_keeps : (name : Name) (st : State) → Keeps (use_label here s name st) (use_label there (put_at k s) name st)
  label_keeps name st = hyp_keeps name (find (λ (h : Hyp). bytes_eq h.name name) s.hyps) st

  what_keeps : (ls : List Name) (w : What) (st : State) → Keeps (use_what here s ls w st) (use_what there (put_at k s) ls w st)
  what_keeps ls (what.Hyp n) st = label_keeps (slice_index_or s.mandatory n []) st
  what_keeps ls (what.Listed n) st = label_keeps (slice_index_or ls n []) st
  what_keeps ls (what.Again n) st = λ x e. e
  what_keeps ls what.Unknown st = λ x e. e

  step_keeps : (ls : List Name) (a : Step) (st : State) → Keeps (use_step here s ls a st) (use_step there (put_at k s) ls a st)
  step_keeps ls a st =
      and_keeps (λ next. Ok (keep_top a.marked next)) (λ next. Ok (keep_top a.marked next)) (use_what here s ls a.what st)
      (use_what there (put_at k s) ls a.what st)
      (what_keeps ls a.what st) (λ next y h. h)

  run_keeps : (ls : List Name) (n : ℕ) (ss : List Step) (st : State) → Keeps (run_steps here s ls n ss st) (run_steps there (put_at k s) ls n ss st)
  run_keeps ls n [] st = λ x e. e
  run_keeps ls n (a ∷ ss) st =
      and_keeps (run_steps here s ls (suc n) ss) (run_steps there (put_at k s) ls (suc n) ss) (numbered n (use_step here s ls a st))
      (numbered n (use_step there (put_at k s) ls a st))
      (numbered_keeps n (use_step here s ls a st) (use_step there (put_at k s) ls a st) (step_keeps ls a st)) (λ next. run_keeps ls (suc n) ss next)

  stays_accepted : (code : Code) → proof_fault here s code ≡ None → proof_fault there (put_at k s) code ≡ None
  stays_accepted code e = by (run_steps here s code.labels 0 code.steps start) (run_keeps code.labels 0 code.steps start) e
    where
      by : (r : Result State (ℕ × MachineFault)) → Keeps r (run_steps there (put_at k s) code.labels 0 code.steps start) → ended_fault s (length code.steps) r ≡ None
          → proof_fault there (put_at k s) code ≡ None
      by (Ok st) keeps h = subst (λ r. ended_fault (put_at k s) (length code.steps) r ≡ None) (sym (keeps st refl)) h
      by (Err f) keeps h = absurd (cc)

-- ---- what has a frame is a label

pub no_position : (p : Name → Bool) (ls : List Name) → list_any p ls ≡ false → position p ls ≡ None
no_position p [] e = refl
no_position p (l ∷ ls) e =
    let both = or_parts (p l) (list_any p ls) e in position_later p l ls both.0 ∙ ap (option_map suc) (no_position p ls both.1)

pub has_label : (ss : List Statement) (name : Name) (f : Frame) → frames_of_database ss name ≡ Some f → contains (labels ss) name ≡ true
has_label ss name f e = elim (cases_Bool (contains (labels ss) name)) [
  | inl h ↦ h
  | inr h ↦
      let none : frames_of_database ss name ≡ None = ap (λ o. option_and_then (frame_of ss) (option_map label o)) (no_position (bytes_eq name) (labels ss) h) in
      let bad : None ≡ Some f = sym none ∙ e in absurd cc
]

-- ---- the law

module _ (text : List ℕ) (place : ℕ) (t : NewTheorem) (within : place ≤ length (statements text)) (plain : IsPlainTheorem t)
    (outside : IsOutside text place) (fresh : HasNewLabels text t) where
  abbrev old : List Statement
  old = statements text

  abbrev new : List Statement
  new = statements (installed text place t)

  abbrev m : ℕ
  m = length (block_statements t)

  before_stays : (at : ℕ) (name : Name) (f : Frame) → before_by at (frames_of_database old name) ≡ Some f
      → before_by (moved place m at) (frames_of_database new name) ≡ Some f
  before_stays at name f e = by (frames_of_database old name) (λ g. frames_are_moved_at g) e
    where
      frames_are_moved_at : (g : Frame) → frames_of_database old name ≡ Some g → frames_of_database new name ≡ option_map (moved_frame old place t) (frames_of_database old name)
      frames_are_moved_at g is = frames_are_moved text place t within plain outside fresh name (has_label old name g is)

      by : (o : Option Frame) → ((g : Frame) → o ≡ Some g → frames_of_database new name ≡ option_map (moved_frame old place t) o) → before_by at o ≡ Some f
          → before_by (moved place m at) (frames_of_database new name) ≡ Some f
      by None more h = absurd cc
      by (Some g) more h =
          ap (before_by (moved place m at)) (more g refl) ∙ sym (before_moves text place t within plain outside at (Some g)) ∙ h

  pub accepted_stays : (f : Frame) (code : Code) → proof_fault (frames_of_database old) (theorem_of_frame old f) code ≡ None
      → proof_fault (frames_of_database new) (theorem_of_frame new (moved_frame old place t f)) code ≡ None
  accepted_stays f code e =
      ap (λ s. proof_fault (frames_of_database new) s code) (theorem_stays text place t within plain outside f)
      ∙ stays_accepted (frames_of_database old) (frames_of_database new) (theorem_of_frame old f) (moved place m f.at) (λ name g is. before_stays f.at name g is) code e

pub old_proofs_stay_accepted : OldProofsStayAccepted
old_proofs_stay_accepted text place t w p outside fresh f code e = accepted_stays text place t w p outside fresh f code e
