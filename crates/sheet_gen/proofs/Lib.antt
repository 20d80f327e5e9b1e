mod Appends
mod Formulas
mod LineLaws
