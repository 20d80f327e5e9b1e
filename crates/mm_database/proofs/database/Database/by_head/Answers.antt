use Rattle.std.proofs.Common.{sym, ap, ◌∙◌}
use Rattle.mm_database.specs.HeadKeys.{head_key}
use Rattle.mm_database.specs.ByHead.{by_head}
use Rattle.mm_database.specs.Opened.{Opened}
use Rattle.mm_database.proofs.ByHead.{by_key}
use Rattle.mm_database.proofs.database.Database.by_head.Goals as goal

pub returns : goal.returns
returns c = c.at.ensures ∙ c.self.invariant.0 (head_key c.args.head) c.args.hyps ∙ sym (by_key c.args.head c.args.hyps c.self.inside.parsed.items)
    ∙ ap (λ (o : Opened). by_head o.parsed c.args.head c.args.hyps) c.self.view_is
