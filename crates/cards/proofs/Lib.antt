pub mod RisingFacts
pub mod FieldFacts
pub mod FormatFacts
pub mod ContentsFacts
pub mod AnswerFacts
pub mod LayoutFacts
pub mod WritingFacts
