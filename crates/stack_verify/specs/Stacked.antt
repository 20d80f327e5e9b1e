-- The state that a stack stands for. This is part of the proof, and not of the claim.
use Rattle.std.specs.Prelude.{List, [], ◌∷◌, length, All, Option, Some, None}
use Rattle.proof_model.specs.Machine.{Formula, State}
use Rattle.stack_verify.specs.declared.stack.Stack.{Stack}
use Rattle.stack_verify.specs.Stacks.{IsWithin, state_of}

abbrev pub state : Stack → State
state s = state_of s.symbols.items s.entries.items s.kept.items

-- each part lies within the symbols
pub record IsSound (s : Stack) : Type 0 where
  pub entries : All (IsWithin (length s.symbols.items)) s.entries.items
  pub kept : All (IsWithin (length s.symbols.items)) s.kept.items

-- the entry, where there is one alone
abbrev pub only : List Formula → Option Formula
only [] = None
only (f ∷ []) = Some f
only (f ∷ g ∷ fs) = None
