pub mod ListFacts
pub mod QuestionFacts
pub mod MakingFacts
pub mod SchemeFacts
pub mod RecordFacts
