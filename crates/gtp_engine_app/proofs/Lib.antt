mod Answering
pub mod command_line
