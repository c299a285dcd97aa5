pub mod Texts
pub mod Waits
