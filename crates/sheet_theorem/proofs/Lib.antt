mod ListLaws
mod OutcomeLaws
mod PlaceLaws
mod TheoremLaws
