-- What private contracts alone cite.
pub mod Kept
pub mod Searches
pub mod NumberCodes
pub mod NumberKeys
pub mod NumberWalks
