-- What is present, and what an edit leaves present.
pub mod Content
pub mod Kept
pub mod Stream
pub mod Batch
pub mod Settings
pub mod Present
pub mod Book
pub mod Replies
pub mod Steps
pub mod Judged
