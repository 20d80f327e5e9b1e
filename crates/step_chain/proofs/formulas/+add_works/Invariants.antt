use Rattle.std.proofs.Common.{◌≡◌, fold, take}
use Rattle.step_chain.specs.Grown.{IsGrown}
use Rattle.step_chain.specs.Formulas.{begun}
use Rattle.step_chain.proofs.FormulaLaws.{with_tree}
use Rattle.step_chain.proofs.formulas.+add_works.Given as goal

abbrev pub invariant-loop-child : goal.invariant-loop-child
invariant-loop-child l = record {
  is_begun : begun l.arena l.works ≡ fold with_tree (begun l.fn.arena l.fn.works) (take l.child-index l.child-items);
  grown : IsGrown l.fn.arena l.arena;
}
