-- The stack as parts of one list of symbols. This is part of the proof, and not of the claim.
use Rattle.std.specs.Prelude.{ℕ, ◌≤◌, List, map, reverse, slice_range}
use Rattle.std.specs.List.{zip}
use Rattle.mm_base.specs.declared.symbols.Sym.{Sym}
use Rattle.mm_model.specs.declared.frames.Hyp.{Hyp}
use Rattle.proof_model.specs.Machine.{Formula, Entry, State}
use Rattle.stack_verify.specs.declared.formula.Span.{Span}

-- a part lies within a list of so many
abbrev pub IsWithin : ℕ → Span → Type 0
IsWithin n span = (span.from ≤ span.to) × (span.to ≤ n)

-- the formula at a part of the symbols
abbrev pub formula_in : List Sym → Span → Formula
formula_in symbols span = slice_range symbols span.from span.to

abbrev pub formulas_in : List Sym → List Span → List Formula
formulas_in symbols spans = map (formula_in symbols) spans

-- the hypotheses with the entries that are taken for them
abbrev pub entries_of : List Hyp → List Sym → List Span → List Entry
entries_of hyps symbols spans = zip hyps (formulas_in symbols spans)

-- the machine's state: the entries are kept the oldest first
abbrev pub state_of : List Sym → List Span → List Span → State
state_of symbols entries kept = record { stack = reverse (formulas_in symbols entries); kept = formulas_in symbols kept }
