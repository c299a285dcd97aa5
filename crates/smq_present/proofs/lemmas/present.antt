-- Lemmas of what is present, and of what an edit leaves.
pub mod BatchReplies
pub mod Growth
pub mod NumberMaps
pub mod VersionLemmas
pub mod Appended
pub mod Changes
pub mod Replied
pub mod Folded
pub mod RefusedBatches
pub mod Cutting
pub mod OneOctet
pub mod SameEdits
