-- The theorems of a database and their proofs, as its `$p` statements give them.
use Rattle.std.specs.Prelude.{◌≡◌, Bool, true, false, List, [], ◌∷◌, map, if◌then◌else◌, Option, Some, None, option_and_then, codes}
use Rattle.std.specs.List.{before_first, after_first, join_with_byte}
use Rattle.std.specs.Str.{bytes_eq}
use Rattle.mm_model.specs.declared.frames.Hyp.{Hyp}
use Rattle.mm_model.specs.declared.frames.Frame.{Frame}
use Rattle.mm_base.specs.declared.symbols.Label.{Label}
use Rattle.mm_model.specs.Words.{Word}
use Rattle.mm_model.specs.Faults.{Fault}
use Rattle.mm_model.specs.Names.{Name, label_named}
use Rattle.mm_model.specs.Statements.{Statement, is, has_keyword, labels}
use Rattle.mm_model.specs.Frames.{active_at, frame_of, statement_of}
use Rattle.proof_model.specs.declared.theorem.Theorem.{Theorem}
use Rattle.proof_model.specs.declared.code.Code.{Code}
use Rattle.proof_model.specs.Machine.{Frames}
use Rattle.proof_model.specs.Codes.{normal_code}
use Rattle.proof_model.specs.ProofCode.{Spells, code_fault}

-- the frames of a database's statements, by their labels' names
abbrev pub frames_of_database : List Statement → Frames
frames_of_database ss name = option_and_then (frame_of ss) (label_named (labels ss) name)

-- what the proof of a frame's assertion has to prove, and what is active there
abbrev pub theorem_of_frame : List Statement → Frame → Theorem
theorem_of_frame ss f = record {
  at = f.at;
  formula = f.formula;
  hyps = (active_at ss f.at).hyps;
  mandatory = map (λ (h : Hyp). h.name) f.hyps;
  pairs = (active_at ss f.at).pairs;
}

-- the words between the `$=` and the `$.` of a `$p`; those of comments are no part of a statement
abbrev pub proof_words : Statement → List Name
proof_words s = map (λ (w : Word). w.bytes) (before_first (is (codes "$.")) (after_first (is (codes "$=")) s))

-- those of the `$p` with this label; none where it is no `$p`
abbrev pub proof_of : List Statement → Label → Option (List Name)
proof_of ss l = option_and_then (λ p. if has_keyword (codes "$p") p.1 then Some (proof_words p.1) else None) (statement_of ss l)

-- a proof is compressed where its first word is `(`
abbrev pub is_compressed : List Name → Bool
is_compressed proof = begins_with (codes "(") proof
  where
    begins_with : Name → List Name → Bool
    begins_with w [] = false
    begins_with w (p ∷ ps) = bytes_eq p w

-- the first fault of the proof's code; a normal proof has none
abbrev pub proof_code_fault : List Name → List Name → Option Fault
proof_code_fault mandatory proof = if is_compressed proof then code_fault (join_with_byte 32 proof) mandatory else None

-- a code is that of a proof, by whether the proof is compressed: its text spells it, or it is the code of its labels
abbrev pub IsCodeWhere : Bool → List Name → List Name → Code → Type 0
IsCodeWhere true mandatory proof code = Spells (join_with_byte 32 proof) mandatory code
IsCodeWhere false mandatory proof code = code ≡ normal_code mandatory proof

-- the code of a proof, for these mandatory hypotheses; a proof with a fault of its code has none
abbrev pub IsCodeOf : List Name → List Name → Code → Type 0
IsCodeOf mandatory proof code = IsCodeWhere (is_compressed proof) mandatory proof code
