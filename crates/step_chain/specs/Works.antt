-- The table of work variables. This is part of the proof, and not of the claim.
use Rattle.std.specs.Prelude.{ℕ}
use Rattle.chain_laws.specs.declared.leaves.WorkNode.{WorkNode}

-- by the number of the typecode's symbol and its own number
abbrev pub WorkName : Type 0
WorkName = ℕ × ℕ

-- an entry of the table
abbrev pub work_of : WorkName × ℕ → WorkNode
work_of e = record { code = record { 0 = record { 0 = e.0.0 } }; number = e.0.1; node = e.1 }
