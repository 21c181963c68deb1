pub mod Access
pub mod Cumulative
pub mod Making
pub mod Records
pub mod Worked
pub mod ListedFacts
pub mod AccessFacts
pub mod CumulativeFacts
