mod Small
mod UsedLaws
mod TextLaws
