-- Values that laws pin: written out by hand, and what the definitions give for them.
pub mod Reach
pub mod Touches
pub mod Appended
