use Rattle.edit_laws.proofs.OneSheet.{each_alone}
use Rattle.edit_laws.proofs.each_sheet_is_alone.Goals as goal

pub returns : goal.returns
returns c = each_alone
