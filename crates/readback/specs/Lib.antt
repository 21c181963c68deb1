pub mod Law
pub mod ReadingBack
pub mod Refusals
