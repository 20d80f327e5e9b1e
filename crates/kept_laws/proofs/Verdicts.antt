-- What is said of a proof over two lists of frames.
use Rattle.std.specs.Prelude.{◌≡◌, ℕ, List, Option, Some, None, MatchOption, option_map, option_and_then, refl}
use Rattle.std.proofs.Common.{sym, ap, subst}
use Rattle.call_answers.specs.Verified.{Verdict, no_theorem, accepted, bad_code, refused, verdict_of, IsProofVerdict}
use Rattle.mm_model.specs.declared.frames.Frame.{Frame}
use Rattle.mm_model.specs.Faults.{Fault}
use Rattle.mm_model.specs.Names.{Name}
use Rattle.proof_model.specs.declared.code.Code.{Code}
use Rattle.proof_model.specs.declared.theorem.Theorem.{Theorem}
use Rattle.proof_model.specs.DatabaseProofs.{proof_code_fault, IsCodeOf}
use Rattle.proof_model.specs.Machine.{Frames, MachineFault, Accepts, proof_fault}

pub accepted_only : (o : Option (ℕ × MachineFault)) → accepted ≡ verdict_of o → o ≡ None
accepted_only None e = refl
accepted_only (Some f) e = absurd cc

-- what is said of a code that is accepted, with these mandatory hypotheses
abbrev IsAccepted : Frames → Theorem → List Name → List Name → Type 0
IsAccepted frames s mandatory words =
    MatchOption (proof_code_fault mandatory words) ((code : Code) × IsCodeOf mandatory words code × (accepted ≡ verdict_of (proof_fault frames s code))) (λ f. accepted ≡ bad_code f)

keeps_with : (here there : Frames) (s t : Theorem) (mandatory words : List Name) → ((code : Code) → IsCodeOf mandatory words code → Accepts here s code → Accepts there t code)
    → IsAccepted here s mandatory words → IsAccepted there t mandatory words
keeps_with here there s t mandatory words f h = by (proof_code_fault mandatory words) h
  where
    by : (o : Option Fault)
        → MatchOption o ((code : Code) × IsCodeOf mandatory words code × (accepted ≡ verdict_of (proof_fault here s code))) (λ f. accepted ≡ bad_code f)
        → MatchOption o ((code : Code) × IsCodeOf mandatory words code × (accepted ≡ verdict_of (proof_fault there t code))) (λ f. accepted ≡ bad_code f)
    by None (code, is, e) = (code, is, sym (ap verdict_of (f code is (accepted_only (proof_fault here s code) e))))
    by (Some g) e = e

-- a proof is accepted where each code of it that was accepted is
pub verdict_keeps : (here there : Frames) (s t : Theorem) (words : List Name) → s.mandatory ≡ t.mandatory
    → ((code : Code) → IsCodeOf s.mandatory words code → Accepts here s code → Accepts there t code) → IsProofVerdict here s words accepted → IsProofVerdict there t words accepted
verdict_keeps here there s t words same f h = subst (λ m. IsAccepted there t m words) same (keeps_with here there s t s.mandatory words f h)

-- ---- what has to be proved, by the frame of a label and the words of its proof

abbrev pub named : (Frame → Theorem) → Option Frame → Option (List Name) → Option (Theorem × List Name)
named g frame proof = option_and_then (λ f. option_map (λ words. (g f, words)) proof) frame

abbrev pub Says : Frames → Option (Theorem × List Name) → Type 0
Says frames o = MatchOption o (accepted ≡ no_theorem) (λ (t : Theorem × List Name). IsProofVerdict frames t.0 t.1 accepted)

pub says_keeps : (here there : Frames) (g k : Frame → Theorem) (frame : Option Frame) (proof : Option (List Name))
    → ((f : Frame) (words : List Name) → frame ≡ Some f → proof ≡ Some words → IsProofVerdict here (g f) words accepted → IsProofVerdict there (k f) words accepted)
    → Says here (named g frame proof) → Says there (named k frame proof)
says_keeps here there g k None proof f h = h
says_keeps here there g k (Some x) None f h = h
says_keeps here there g k (Some x) (Some words) f h = f x words refl refl h

pub named_moved : (g : Frame → Theorem) (move : Frame → Frame) (frame : Option Frame) (proof : Option (List Name)) → named g (option_map move frame) proof ≡ named (λ f. g (move f)) frame proof
named_moved g move None proof = refl
named_moved g move (Some f) proof = refl
