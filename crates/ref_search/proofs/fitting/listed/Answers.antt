use Rattle.std.proofs.Common.{Ok, ◌∙◌, rules, tests}
use Rattle.std.specs.declared.alloc.AllocError.{AllocError}
use Rattle.std.proofs.lemmas.Iterator.{items_from_collect, YieldsList-from_map}
use Rattle.std.proofs.lemmas.Iterator.Consumers.{YieldsList-at, YieldsList-from_rest}
use Rattle.mm_model.specs.Names.{label}
use Rattle.ref_search.proofs.fitting.listed.Goals as goal

pub returns : goal.returns
returns c =
    c.from_vec.ensures
    ∙ items_from_collect {E = AllocError} (Ok c.in_ok-labels.labels) c.in_ok-labels.ensures.ran
    (YieldsList-from_map _ label (YieldsList-at c.map.ensures.source (YieldsList-from_rest c.args.numbers.now.keys c.iter.ensures.rest)) c.map.ensures.closure (λ x r q k. search (rules, tests)))
