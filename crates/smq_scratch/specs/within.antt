-- What the code keeps, which no public contract names.
pub mod KeyNumbers
pub mod Groups
pub mod Joined
