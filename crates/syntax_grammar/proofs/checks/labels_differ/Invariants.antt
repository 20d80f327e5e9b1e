use Rattle.std.proofs.Common.{◌≡◌, ◌<◌, ℕ, slice_get, Some}
use Rattle.mm_model.specs.declared.rows.Production.{Production}
use Rattle.syntax_grammar.proofs.checks.labels_differ.Given as goal

abbrev pub invariant-loop-k : goal.invariant-loop-k
invariant-loop-k l = (i j : ℕ) (r s : Production) → i < j → j < l.k → slice_get l.rows i ≡ Some r → slice_get l.rows j ≡ Some s → r.label ≡ s.label → ⊥
