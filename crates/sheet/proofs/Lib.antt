pub mod Cuts
pub mod Ends
pub mod Holding
pub mod Overlays
pub mod Written
