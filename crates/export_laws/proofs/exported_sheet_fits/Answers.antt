use Rattle.export_laws.proofs.ExportedFits.{exported_fits}
use Rattle.export_laws.proofs.exported_sheet_fits.Goals as goal

pub returns : goal.returns
returns c = exported_fits c.databases_have_places.ensures
