pub mod Contrasts
pub mod Laying
pub mod Reading
pub mod Refusals
