use Rattle.std.proofs.Common.{sym, ◌∙◌}
use Rattle.stack_verify.proofs.Lookup.{index_kept, index_put}
use Rattle.stack_verify.proofs.found.HypLabels.add.Goals as goal

pub returns-in_ok-push-clause-added : goal.returns-in_ok-push-clause-added
returns-in_ok-push-clause-added c = λ hyps count index.
    index_put c.args.self.now (record { labels = c.add.new.self; places = c.push.new.self }) hyps c.args.hyp.now c.as_slice-name.result.now c.args.place
    c.as_slice-name.ensures c.in_ok-add.ensures.added c.in_ok-push.ensures.items count index

pub returns-else-not-contains-clause-added : goal.returns-else-not-contains-clause-added
returns-else-not-contains-clause-added c = λ hyps count index.
    index_kept c.args.self.now hyps c.args.hyp.now c.as_slice-name.result.now c.as_slice-name.ensures (sym c.contains.ensures ∙ c.if-not-contains.false) index
