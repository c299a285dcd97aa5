pub mod Statuses
pub mod Known
pub mod CaptureRows
pub mod Scripts
pub mod Played
