use Rattle.edit_laws.proofs.OneSheet.{nothing_changes}
use Rattle.edit_laws.proofs.other_sheets_change_nothing.Goals as goal

pub returns : goal.returns
returns c = nothing_changes c.replies_are_one.ensures
