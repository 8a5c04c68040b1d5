pub mod Refusals
pub mod Questions
