-- The ids of chains: which stones have one, and how they change.
pub mod Paths
pub mod FindingIds
pub mod JoiningChains
pub mod SplittingChains
