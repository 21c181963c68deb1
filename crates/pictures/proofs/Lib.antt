pub mod Steps
pub mod Grammar
pub mod FirstFault
pub mod Rows
pub mod Written
