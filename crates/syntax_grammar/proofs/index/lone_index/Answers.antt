use Rattle.std.proofs.Common.{◌+◌, Some, sym, ap, ◌∙◌, subst, take}
use Rattle.std.proofs.lemmas.Option.{slice_get-get_or}
use Rattle.syntax_grammar.specs.Index.{IsTable}
use Rattle.syntax_grammar.specs.Selections.{is_lone, is_sym}
use Rattle.syntax_grammar.specs.Tables.{listed}
use Rattle.syntax_grammar.proofs.IndexLaws.{index_turn, index_skip}
use Rattle.syntax_grammar.proofs.index.lone_index.Goals as goal
use Rattle.syntax_grammar.proofs.index.lone_index.Goals.{in-Some+in_ok-add, in_default}

pub loop-number-preserved : goal.loop-number-preserved
loop-number-preserved c =
    let rows = c.args.rows.now in
    let n = c.loop-number.number in
    let r = c.index-rows-number.result in
    let at = slice_get-get_or rows n r c.loop-number-test.true ∙ ap (λ x. Some x) (sym c.index-rows-number.is) in
    elim c.match-lone_sym.branch [
      | in-Some+in_ok-add w ↦ subst (IsTable is_lone (take (n + 1) rows)) (sym w.index-is)
          (index_turn is_lone rows n r at (listed c.loop-number.index) (listed w.add.new.self) w.in-Some.sym.0 (λ q. ap (is_sym q) (sym w.in-Some.ensures)) w.in_ok-add.ensures c.loop-number.invariant)
      | in_default w ↦ subst (IsTable is_lone (take (n + 1) rows)) (sym w.index-is)
          (index_skip is_lone rows n r at (listed c.loop-number.index) (λ q. ap (is_sym q) (sym w.in_default.ensures)) c.loop-number.invariant)
    ]
