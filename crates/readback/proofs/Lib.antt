pub mod Checks
pub mod MemberStrips
pub mod Accepted
pub mod Runs
pub mod Calls
