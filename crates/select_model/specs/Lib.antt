pub mod Selected
pub mod SelectedLines
