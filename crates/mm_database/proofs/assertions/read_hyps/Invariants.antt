use Rattle.std.proofs.Common.{Some, take}
use Rattle.std.specs.List.{AllZip}
use Rattle.mm_base.specs.declared.tree.Tree.{Tree}
use Rattle.mm_model.specs.declared.frames.Hyp.{Hyp}
use Rattle.mm_model.specs.Productions.{essentials}
use Rattle.mm_database.specs.Formulas.{IsAnswer, IsReadBy}
use Rattle.mm_database.proofs.assertions.read_hyps.Given as goal

abbrev pub invariant-loop-hyp : goal.invariant-loop-hyp
invariant-loop-hyp l = IsAnswer (AllZip (λ (h : Hyp) (t : Tree). IsReadBy l.kinds l.grammar l.scope.constants.now l.scope.place l.scope.vars.now h.formula t) (essentials (take l.hyp-index l.hyps))) (Some l.trees.items)
