pub mod OtherSheets
