-- What the code keeps, which no public contract names.
pub mod Turns
pub mod Orders
pub mod KeyLaws
pub mod Stream
pub mod Kept
pub mod Waits
