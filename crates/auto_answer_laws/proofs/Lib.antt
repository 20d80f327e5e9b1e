pub mod OneChoice
mod OneFilled
