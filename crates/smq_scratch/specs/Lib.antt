pub mod Lines
pub mod Known
pub mod within
pub mod Blanked
pub mod KnownBlanked
