pub mod OneSelection
