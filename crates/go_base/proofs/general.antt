-- Facts on lists, fronts of texts and joined words, for the crates above too.
pub mod Lists
pub mod Fronts
pub mod Joined
