pub mod Derived
pub mod Abstract
pub mod Ring
pub mod Codes
pub mod Inverses
pub mod Examples
