pub mod Refusals
pub mod Rows
pub mod Format
pub mod Reading
pub mod FirstFault
pub mod Head
