pub mod Candidates
pub mod Digits
pub mod Windows
