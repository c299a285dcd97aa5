pub mod Lists
pub mod Pieces
pub mod Chains
pub mod States
pub mod Moments
pub mod Places
pub mod KnownStreams
pub mod Captures
