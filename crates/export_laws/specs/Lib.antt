pub mod ExportLaw
