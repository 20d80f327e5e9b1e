pub mod FitsAsWritten
pub mod FittingBecomesFinished
