use Rattle.std.proofs.Common.{◌∙◌}
use Rattle.syntax_grammar.specs.Joins.{is_noted}
use Rattle.syntax_grammar.proofs.JoinLaws.{reached_is}
use Rattle.syntax_grammar.proofs.joins.Joins.leads.Goals as goal

pub returns-clause-leads : goal.returns-clause-leads
returns-clause-leads c = λ rows is.
    c.contains.ensures ∙ reached_is (is_noted c.args.self.now.ends) rows c.reach.new.reached c.args.from c.args.to c.in_ok-reach.ensures is
