pub mod Texts
pub mod Mandatory
pub mod Numbers
pub mod Parameters
pub mod MessageIds
pub mod BodyLaws
pub mod Pairs
pub mod PduEquals
