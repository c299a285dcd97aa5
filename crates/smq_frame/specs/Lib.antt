pub mod Framing
pub mod Frame
pub mod Tail
pub mod Stream
pub mod Known
pub mod within
