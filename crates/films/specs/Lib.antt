pub mod Minimal
pub mod FilmRows
