pub mod Carried
pub mod Joins
pub mod KnownValues
pub mod OneReading
pub mod Values
