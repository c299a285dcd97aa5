-- Which PDUs of a session are a request and its response, and which stand alone.
pub mod Pairing
pub mod Paired
pub mod Growth
pub mod Laws
pub mod Known
pub mod within
