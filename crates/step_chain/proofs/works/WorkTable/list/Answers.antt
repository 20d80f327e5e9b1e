use Rattle.std.proofs.Common.{Ok, ◌∙◌, rules, tests}
use Rattle.std.specs.declared.alloc.AllocError.{AllocError}
use Rattle.std.proofs.lemmas.Iterator.{items_from_collect, YieldsList-from_map}
use Rattle.std.proofs.lemmas.Iterator.Consumers.{YieldsList-at, YieldsList-from_rest}
use Rattle.step_chain.specs.Works.{work_of}
use Rattle.step_chain.proofs.works.WorkTable.list.Goals as goal

pub returns : goal.returns
returns c =
    items_from_collect {E = AllocError} (Ok c.in_ok-works.works) c.in_ok-works.ensures.ran
    (YieldsList-from_map _ work_of
    (YieldsList-at c.map.ensures.source (YieldsList-from_rest c.self.inside.nodes.entries c.iter.ensures.rest)) c.map.ensures.closure
    (λ x r q k. search (rules, tests)))
    ∙ c.self.view_is
