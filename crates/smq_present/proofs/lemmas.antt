-- Lemmas, by room.
pub mod present
pub mod pairing
pub mod join
pub mod whole
