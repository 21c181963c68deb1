pub mod KeyholderFacts
pub mod PackedFacts
pub mod RangeFacts
pub mod StripFacts
