use Rattle.std.proofs.Common.{Ok, ◌∙◌, rules, tests}
use Rattle.std.specs.declared.alloc.AllocError.{AllocError}
use Rattle.std.proofs.lemmas.Iterator.{items_from_collect, YieldsList-from_map}
use Rattle.std.proofs.lemmas.Iterator.Consumers.{YieldsList-at, YieldsList-from_rest}
use Rattle.pair_set.specs.PairKeys.{pair_of}
use Rattle.pair_set.proofs.PairSet.listed.Goals as goal

pub returns : goal.returns
returns c =
    c.from_vec.ensures
    ∙ items_from_collect {E = AllocError} (Ok c.in_ok-pairs.pairs) c.in_ok-pairs.ensures.ran
    (YieldsList-from_map _ pair_of (YieldsList-at c.map.ensures.source (YieldsList-from_rest c.self.inside.keys.keys c.iter.ensures.rest)) c.map.ensures.closure (λ x r q k. search (rules, tests)))
    ∙ c.self.view_is
