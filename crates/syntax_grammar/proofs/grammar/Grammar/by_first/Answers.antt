use Rattle.std.proofs.Common.{◌≡◌, ◌∷◌, [], ◌++◌, Some, None, Vec, Global, slice_get, get_or, sym, ap, ◌∙◌}
use Rattle.std.proofs.lemmas.List.{take_all}
use Rattle.mm_base.specs.declared.symbols.Label.{Label}
use Rattle.syntax_grammar.specs.Selections.{begins_const, numbers}
use Rattle.syntax_grammar.proofs.IndexLaws.{labels_of, labels_found, labels_none, by_first_of}
use Rattle.syntax_grammar.proofs.grammar.Grammar.by_first.Goals as goal
use Rattle.syntax_grammar.proofs.grammar.Grammar.by_first.Goals.{in-Some+in_ok-push, in_default}

pub loop-number-preserved : goal.loop-number-preserved
loop-number-preserved c =
    let rows = c.args.self.now in
    let ns = c.at-number-items.result.now in
    let k = c.loop-number.number-index in
    elim c.match-row.branch [
      | in-Some+in_ok-push w ↦ (
          let at : slice_get rows (get_or ns k 0) ≡ Some w.in-Some.row.now = sym w.in-Some.ensures in
          ap (λ (v : Vec Label Global). v.items) w.labels-is ∙ w.in_ok-push.ensures.items ∙ ap (λ xs. xs ++ w.in-Some.row.now.label ∷ []) c.loop-number.invariant
          ∙ sym (labels_found rows ns k w.in-Some.row.now c.loop-number-test.true at))
      | in_default w ↦ (
          let at : slice_get rows (get_or ns k 0) ≡ None = sym w.in_default.ensures in
          ap (λ (v : Vec Label Global). v.items) w.labels-is ∙ c.loop-number.invariant ∙ sym (labels_none rows ns k c.loop-number-test.true at))
    ]

pub returns : goal.returns
returns c =
    let rows = c.args.self.now in
    let ns = c.at-number-items.result.now in
    c.from_vec.ensures ∙ c.loop-number.invariant ∙ ap (labels_of rows) (take_all c.loop-number.number-index ns c.loop-number-test.false)
    ∙ ap (labels_of rows) (c.at-number-items.ensures ∙ c.self.invariant.2 c.args.first.0 ∙ ap (numbers (begins_const c.args.first.0) 0) c.self.view_is) ∙ by_first_of rows c.args.first
