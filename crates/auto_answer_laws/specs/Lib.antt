pub mod OneFilled
