pub mod Among
pub mod Counts
pub mod Dialogues
pub mod Laws
pub mod Lines
pub mod Notes
pub mod Said
pub mod private
