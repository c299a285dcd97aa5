pub mod LeastPlaces
pub mod Values
pub mod Calendar
pub mod KnownReceipts
pub mod StateTable
pub mod Standing
pub mod Equalities
pub mod Offsets
