pub mod Matching
pub mod Changes
pub mod Groups
pub mod Links
pub mod within
pub mod Laws
pub mod Known
pub mod Standings
