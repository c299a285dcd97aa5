pub mod Keys
pub mod Parts
pub mod Open
pub mod Known
pub mod Texts
pub mod KnownTexts
