-- The hypotheses of an assertion with the entries that it takes. This is part of the proof, and not of the claim.
use Rattle.std.specs.Prelude.{List}
use Rattle.proof_model.specs.Machine.{Entry}
use Rattle.stack_verify.specs.declared.taken.Entries.{Entries}
use Rattle.stack_verify.specs.Stacks.{entries_of}

abbrev pub taken : Entries → List Entry
taken entries = entries_of entries.hyps.now entries.symbols.now entries.spans.now
