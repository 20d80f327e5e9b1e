use Rattle.std.proofs.Common.{Some, sym, ap, ◌∙◌, get_or}
use Rattle.std.proofs.lemmas.Option.{slice_get-get_or}
use Rattle.mm_base.specs.Rows.{row_at}
use Rattle.mm_model.specs.declared.rows.Production.{Production}
use Rattle.syntax_grammar.specs.Selections.{has_label}
use Rattle.syntax_grammar.proofs.IndexLaws.{index_turn}
use Rattle.syntax_grammar.proofs.index.label_index.Goals as goal

pub loop-number-preserved : goal.loop-number-preserved
loop-number-preserved c =
    let rows = c.args.rows.now in
    let n = c.loop-number.number in
    let r = c.index-rows-number.result in
    let at = slice_get-get_or rows n r c.loop-number-test.true ∙ ap (λ x. Some x) (sym c.index-rows-number.is) in
    index_turn has_label rows n r at (row_at c.loop-number.index) (row_at c.add.new.self) (get_or rows n r).label.0
    (λ q. ap (λ (x : Production). has_label q x) c.index-rows-number.is) c.in_ok-add.ensures.added c.loop-number.invariant
