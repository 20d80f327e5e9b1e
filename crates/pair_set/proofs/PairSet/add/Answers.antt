use Rattle.std.proofs.Common.{◌∙◌, ap, map, List}
use Rattle.mm_base.specs.declared.symbols.Pair.{Pair}
use Rattle.solve_model.specs.PairSets.{ordered, put_pair}
use Rattle.pair_set.specs.PairKeys.{pair_of, pairs_of}
use Rattle.pair_set.proofs.KeyLaws.{key_put}
use Rattle.pair_set.proofs.PairSet.add.Goals as goal

pub returns-clause-added : goal.returns-clause-added
returns-clause-added c =
    let set = c.self.inside.keys in
    ap (map pair_of) c.in_ok-insert.ensures.keys ∙ key_put c.key_of.result set.keys ∙ ap (put_pair (pairs_of set)) c.key_of.ensures
    ∙ ap (λ (ps : List Pair). put_pair ps (ordered c.args.one c.args.other)) c.self.view_is
