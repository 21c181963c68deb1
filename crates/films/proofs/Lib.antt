pub mod MinimalFacts
pub mod RowFacts
