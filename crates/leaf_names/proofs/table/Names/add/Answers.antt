use Rattle.std.proofs.Common.{sym, ap, subst, ◌∙◌, List, take, refl}
use Rattle.std.proofs.lemmas.Result.{on_err_weaker}
use Rattle.mm_model.specs.declared.rows.Production.{Production}
use Rattle.mm_model.specs.Names.{Name}
use Rattle.mm_frames.specs.Contents.{Contents}
use Rattle.leaf_names.specs.Leaves.{FreshLeaf, fresh_leaves}
use Rattle.leaf_names.specs.Tables.{Adds}
use Rattle.leaf_names.specs.Cursors.{AreSmall}
use Rattle.leaf_names.proofs.MarkLaws.{small_leaves}
use Rattle.leaf_names.proofs.TableLaws.{adds_to}
use Rattle.leaf_names.proofs.table.Names.add.Goals as goal

pub add_leaves-requires-clause-small : goal.add_leaves-requires-clause-small
add_leaves-requires-clause-small c =
    subst AreSmall (sym (c.as_slice.ensures.value ∙ c.in_ok-leaves.ensures)) (small_leaves c.grammar.result.now c.args.tree.now c.requires.small)

pub returns-clause-partly : goal.returns-clause-partly
returns-clause-partly c =
    let tree = c.args.tree.now in
    let read = c.self.inside.read.keys in
    let old = c.self.inside.given.numbers.entries in
    let new = c.add_leaves.new.given.numbers.entries in
    let symbols = ap (λ (k : Contents). k.symbols) c.frames.ensures in
    let leaves = c.as_slice.ensures.value ∙ c.in_ok-leaves.ensures ∙ ap (λ (rows : List Production). fresh_leaves rows tree) c.grammar.ensures in
    on_err_weaker c.add_leaves.result
    (λ p. (
      p.0,
      adds_to _ _ _ c.self.view_is tree p.0
          (subst (λ (ns : List Name). Adds ns read (take p.0 (fresh_leaves c.self.inside.db.now.rows tree)) old new) symbols
          (subst (λ (xs : List FreshLeaf). Adds c.frames.result.now.symbols read (take p.0 xs) old new) leaves p.1)) refl refl refl,
    ))
    c.add_leaves.ensures.partly
