pub mod InstalledActive
pub mod InstalledDatabase
pub mod InstalledFrames
pub mod InstalledNames
pub mod InstalledProofs
pub mod InstalledStatements
pub mod TwoDatabases
