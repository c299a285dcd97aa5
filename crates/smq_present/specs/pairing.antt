-- What the PDUs that are present say, whatever is set.
pub mod Traffic
pub mod Places
pub mod Pushes
pub mod Dealt
