use Rattle.std.proofs.Common.{◌∷◌, [], ◌++◌, Vec, Global, sym, ap, ◌∙◌}
use Rattle.mm_model.specs.declared.rows.Production.{Production}
use Rattle.mm_database.specs.Productions.{row_in}
use Rattle.mm_database.proofs.Lists.{filter_map_found, filter_map_none}
use Rattle.mm_database.proofs.productions.rows.Goals as goal
use Rattle.mm_database.proofs.productions.rows.Goals.{in-Some+in_ok-push, in_default}

pub loop-entry-preserved : goal.loop-entry-preserved
loop-entry-preserved c =
    let h = row_in c.args.provable in
    let fs = c.args.frames.now in
    let k = c.loop-entry.entry-index in
    let item = c.entry-item.result in
    let there = ap h (sym c.entry-item.is) ∙ sym c.in_ok-found.ensures in
    elim c.match-found.branch [
      | in-Some+in_ok-push w ↦ ap (λ (v : Vec Production Global). v.items) w.rows-is ∙ w.in_ok-push.ensures.items ∙ ap (λ xs. xs ++ w.in-Some.row ∷ []) c.loop-entry.invariant
          ∙ sym (filter_map_found h fs k item c.loop-entry-test.true w.in-Some.row (there ∙ w.in-Some.is))
      | in_default w ↦ ap (λ (v : Vec Production Global). v.items) w.rows-is ∙ c.loop-entry.invariant ∙ sym (filter_map_none h fs k item c.loop-entry-test.true (there ∙ w.in_default.is))
    ]
