use Rattle.std.proofs.Common.{◌∙◌, sym, ap, ◌++◌, ◌∷◌}
use Rattle.std.proofs.lemmas.Result.{on_ok_weaker}
use Rattle.written_model.specs.Report.{reference_words}
use Rattle.sheet_unify.specs.Lines.{behind}
use Rattle.sheet_unify.proofs.LineLaws.{hidden, shown_some}
use Rattle.sheet_unify.proofs.lines.put_reference.Goals as goal

pub returns-then-not-shows_reference : goal.returns-then-not-shows_reference
returns-then-not-shows_reference c = hidden c.args.verdict c.args.reference.now c.shows_reference.result _ c.shows_reference.ensures c.if-not-shows_reference.true

pub returns-in-Some : goal.returns-in-Some
returns-in-Some c =
    on_ok_weaker c.put_word.result
    (λ e. e ∙ ap (λ r. c.args.line.now.items ++ 32 ∷ r) c.as_slice.ensures
    ∙ shown_some c.args.verdict _ c.shows_reference.result c.args.line.now.items c.shows_reference.ensures c.if-not-shows_reference.false
    ∙ ap (λ o. c.args.line.now.items ++ behind (reference_words c.args.verdict o)) (sym c.in-Some.is))
    c.put_word.ensures
