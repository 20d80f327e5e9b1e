use Rattle.std.proofs.Common.{sym, ◌≡◌, subst, List, map}
use Rattle.std.proofs.lemmas.Result.{IfOk-weaker}
use Rattle.leaf_names.specs.Tables.{naming_of}
use Rattle.leaf_names.specs.Named.{IsNamesOf}
use Rattle.written_steps.specs.declared.draft.DraftItem.{DraftItem}
use Rattle.std.specs.List.{AllByRecursion}
use Rattle.step_naming.specs.Named.{AreSmallLeaves, HasSmallLeaves, AreNamed, formulas, rename_item}
use Rattle.step_naming.proofs.DraftLaws.{are_named, each_small, trees_are}
use Rattle.step_naming.proofs.naming.name_items.Goals as goal

pub returns : goal.returns
returns c =
    let d = c.args.db.now in
    let bound = c.args.bound.now in
    let items = c.args.items in
    let t = c.in_ok-names.names in
    let is = subst (λ (xs : List DraftItem). IsNamesOf d bound (formulas xs) t) c.as_slice.ensures c.in_ok-names.ensures in
    IfOk-weaker c.renamed.result (λ named. named ≡ map (rename_item (naming_of t.given)) items) (AreNamed d bound items)
    (λ named e. are_named d bound items named t c.names_are_naming.ensures c.named_tree_has_count.ensures c.numbers_fit.ensures is e) c.renamed.ensures

pub names_of-requires-clause-small : goal.names_of-requires-clause-small
names_of-requires-clause-small c =
    let d = c.args.db.now in
    let items = c.args.items in
    let small = each_small items (subst AreSmallLeaves (trees_are d items) c.requires.small) in
    subst (λ (xs : List DraftItem). AllByRecursion HasSmallLeaves xs) (sym c.as_slice.ensures) small
