pub mod LayFacts
pub mod StackFacts
pub mod ContrastFacts
pub mod ReadFacts
pub mod ReadingFacts
pub mod WorkedFacts
pub mod CountFacts
