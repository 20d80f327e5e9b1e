-- What an assertion and a label add to the worksheet.
use Rattle.std.proofs.Common.{◌≡◌, ◌<◌, ℕ, suc, ◌+◌, Bool, false, List, [], ◌∷◌, ◌++◌, length, drop, drop-cons, get_or, Option, Some, None, Ok, sym, ap, ◌∙◌, arith, subst}
use Rattle.std.specs.Prelude.{find}
use Rattle.std.specs.Str.{bytes_eq}
use Rattle.mm_model.specs.declared.frames.Hyp.{Hyp}
use Rattle.mm_model.specs.declared.frames.Frame.{Frame}
use Rattle.mm_model.specs.Names.{Name}
use Rattle.mm_model.specs.Book.{Database}
use Rattle.proof_model.specs.declared.theorem.Theorem.{Theorem}
use Rattle.proof_model.specs.Machine.{Formula, Frames, State, push, use_label}
use Rattle.export_model.specs.Exported.{Push, push_of_frame, push_of_label}
use Rattle.written_model.specs.Written.{frames_of}
use Rattle.proof_export.specs.Leads.{Goes}
use Rattle.proof_export.specs.declared.steps.Steps.{Steps}
use Rattle.proof_export.proofs.Going.{stays}
use Rattle.proof_export.proofs.Proving.{frame_pushes, goes_same, hyp_pushes}
use Rattle.proof_export.proofs.Using.{IsFirst, hyp_used}

pub next_of : {X : Type 0} (xs list : List X) (i : ℕ) (d : X) → list ≡ xs → i < length list → drop i xs ≡ get_or list i d ∷ drop (i + 1) xs
next_of {X} xs list i d e low =
    let one : suc i ≡ i + 1 = omega arith in
    let cut : drop i list ≡ get_or list i d ∷ drop (i + 1) list = drop-cons list i d low ∙ ap (λ (k : ℕ). get_or list i d ∷ drop k list) one in
    subst (λ (l : List X). drop i l ≡ get_or list i d ∷ drop (i + 1) l) e cut

-- ---- a label

abbrev pub Finds : Theorem → Name → Option Hyp → Type 0
Finds thm label o = find (λ (h : Hyp). bytes_eq h.name label) thm.hyps ≡ o

-- the hypothesis of a number
pub found_hyp : (thm : Theorem) (label : Name) (list : List Hyp) (k : ℕ) (h : Hyp) → IsFirst thm.hyps label (Some k) → list ≡ thm.hyps → h ≡ get_or list k h → Finds thm label (Some h)
found_hyp thm label list k h first e is = first.1 h ∙ ap (λ (x : Hyp). Some x) (sym (is ∙ ap (λ (l : List Hyp). get_or l k h) e))

pub hyp_taken : (frames : Frames) (thm : Theorem) (label : Name) (st new : State) (h : Hyp) (f : Formula) → Finds thm label (Some h) → f ≡ h.formula → new ≡ push f st
    → use_label frames thm label st ≡ Ok new
hyp_taken frames thm label st new h f found ef e = hyp_used frames thm label st h found ∙ ap (λ (x : State). Ok x) (sym (e ∙ ap (λ (g : Formula). push g st) ef))

pub hyp_goes : (db : Database) (thm : Theorem) (label : Name) (h : Hyp) (s : Steps) (before behind : List Formula) (rest : List Push) → Finds thm label (Some h)
    → Goes false db thm.formula s (push_of_label db thm label before behind ++ rest) s rest
hyp_goes db thm label h s before behind rest found =
    goes_same false db thm.formula s s [] (push_of_label db thm label before behind) rest (sym (hyp_pushes db thm label before behind h found)) (stays db thm.formula s rest)

pub frame_goes : (db : Database) (thm : Theorem) (label : Name) (frame : Frame) (last : Bool) (old new : Steps) (before behind : List Formula) (rest : List Push)
    → Finds thm label None → frames_of db label ≡ Some frame → Goes last db thm.formula old (push_of_frame db label before behind (Some frame) ++ rest) new rest
    → Goes last db thm.formula old (push_of_label db thm label before behind ++ rest) new rest
frame_goes db thm label frame last old new before behind rest none found g =
    goes_same last db thm.formula old new (push_of_frame db label before behind (Some frame)) (push_of_label db thm label before behind) rest
    (sym (frame_pushes db thm label before behind frame none found)) g
