pub mod Refusals
pub mod Films
pub mod Runs
pub mod Law
pub mod Makers
pub mod Plays
pub mod Filling
