pub mod Generated
pub mod Generating
