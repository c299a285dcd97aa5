pub mod Versions
pub mod Routes
pub mod Numbers
pub mod Edits
pub mod Laws
pub mod Known
pub mod KnownNumbers
pub mod within
