-- The words of a proof, read from a place of the text on.
use Rattle.std.specs.Prelude.{◌≡◌, ℕ, Bool, true, false, not, List, [], ◌∷◌, ◌⊎◌, Some, IsSome, map, slice_range, codes, if◌then◌else◌}
use Rattle.std.specs.List.{join_with_byte}
use Rattle.mm_model.specs.Words.{Word}
use Rattle.mm_model.specs.Statements.{Statement, is}
use Rattle.mm_model.specs.Tokens.{is_close_comment, is_open_comment}
use Rattle.mm_base.specs.declared.symbols.Label.{Label}
use Rattle.mm_model.specs.declared.frames.Frame.{Frame}
use Rattle.mm_model.specs.Frames.{frame_of, proof_range}
use Rattle.proof_model.specs.DatabaseProofs.{is_compressed, proof_of}
use Rattle.compressed_proof.specs.declared.fault.CodeFault.{CodeFault}
use Rattle.compressed_proof.specs.declared.fault.CodeFault.TheVariants as faults
use Rattle.compressed_proof.specs.Decoded.{IsFault}
use Rattle.stack_verify.specs.declared.formula.Span.{Span}

abbrev pub name_in : List ℕ → Span → List ℕ
name_in text s = slice_range text s.from s.to

abbrev pub names_in : List ℕ → List Span → List (List ℕ)
names_in text spans = map (name_in text) spans

-- the words outside comments before `$.`
abbrev pub proof_names : Bool → List Word → List (List ℕ)
proof_names in_comment [] = []
proof_names true (w ∷ ws) = proof_names (not (is_close_comment w)) ws
proof_names false (w ∷ ws) = if is_open_comment w then proof_names true ws else (if is (codes "$.") w then [] else w.bytes ∷ proof_names false ws)

-- the error is want of memory, or the first fault of a compressed proof
abbrev pub IsProofCodeFault : List (List ℕ) → List (List ℕ) → CodeFault → Type 0
IsProofCodeFault mandatory proof e = (e ≡ faults.Memory) ⊎ ((is_compressed proof ≡ true) × IsFault (join_with_byte 32 proof) mandatory e)

-- the frame and the words of the proof of a label, which is that of a `$p`
pub record IsProofOf (ss : List Statement) (label : Label) (f : Frame) (proof : List (List ℕ)) : Type 0 where
  pub frame : frame_of ss label ≡ Some f
  pub words : proof_of ss label ≡ Some proof
  pub range : IsSome (proof_range ss label)
