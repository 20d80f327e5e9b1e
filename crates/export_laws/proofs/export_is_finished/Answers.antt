use Rattle.export_laws.proofs.ExportedFits.{law_of_export}
use Rattle.export_laws.proofs.export_is_finished.Goals as goal

pub returns : goal.returns
returns c = law_of_export c.exported_sheet_fits.ensures c.fitting_becomes_finished.ensures
