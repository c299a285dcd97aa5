pub mod Parts
pub mod within
pub mod Known
