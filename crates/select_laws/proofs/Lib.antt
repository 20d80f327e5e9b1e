mod AllOrders
mod FirstLabel
mod NotFoundBefore
mod FoundFirst
pub mod OneSelection
