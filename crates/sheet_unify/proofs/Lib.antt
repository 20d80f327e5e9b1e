mod AnswerLaws
mod DraftLaws
mod EndLaws
mod JudgedLaws
mod LateLaws
mod LineLaws
mod TextLaws
mod UnboundLaws
