mod command_line
mod streams
mod matches
