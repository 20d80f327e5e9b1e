use Rattle.std.proofs.Common.{◌<◌, take, length}
use Rattle.std.specs.List.{AllByRecursion}
use Rattle.std.specs.Option.{ForSome}
use Rattle.chain_laws.specs.Adding.{run}
use Rattle.step_chain.specs.Grown.{IsGrown, AreListed, AreWorksIn, AreIdsIn}
use Rattle.step_chain.specs.Formulas.{formula_adders}
use Rattle.step_chain.proofs.formulas.add_formulas.Given as goal

abbrev pub invariant-loop-k : goal.invariant-loop-k
invariant-loop-k l = record {
  listed : AreListed (run (formula_adders l.grammar l.works l.logic (take l.k l.blanks) (take l.k l.steps)) l.fn.arena.nodes) l.arena.nodes l.ids.items;
  grown : IsGrown l.fn.arena l.arena;
  works_in : AreWorksIn (length l.arena.nodes) l.works;
  blanks_in : AllByRecursion (λ o. ForSome o (λ i. i < length l.arena.nodes)) l.blanks;
  inside : AreIdsIn (length l.arena.nodes) l.ids.items;
}
