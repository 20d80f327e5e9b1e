mod EndLaws
mod TextLaws
