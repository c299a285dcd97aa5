pub mod present
pub mod pairing
pub mod join
pub mod whole
pub mod known
pub mod within
