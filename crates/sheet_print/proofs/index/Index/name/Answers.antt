use Rattle.std.proofs.Common.{◌∙◌, ap, List, [], get_or, ◌-◌}
use Rattle.sheet_text.specs.declared.sheet.SheetItem.{SheetItem}
use Rattle.sheet_print.specs.Pieces.{names_of}
use Rattle.sheet_print.proofs.Marks.{later_name, rest}
use Rattle.sheet_print.proofs.index.Index.name.Goals as goal

pub returns-then-mark-number : goal.returns-then-mark-number
returns-then-mark-number c =
    c.walk.ensures ∙ ap (λ (items : List SheetItem). get_or (names_of items) (c.args.number - c.near-mark.result.number) []) (rest c.args.self.now.items.now c.near-mark.result.place)
    ∙ later_name c.args.self.now.items.now c.near-mark.result c.args.number c.near-mark.ensures c.if-mark-number.true
