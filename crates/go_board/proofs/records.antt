-- The record of a game, and what a game keeps beside it.
pub mod Moves
pub mod GameFields
pub mod TakenCounts
pub mod TakenStack
pub mod EveryGame
pub mod LegalPoints
pub mod RowsOfPoints
pub mod PointLists
pub mod ChainLists
pub mod Tables
pub mod PastHashes
pub mod LastTaken
pub mod PlayHashes
