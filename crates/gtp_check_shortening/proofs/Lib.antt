mod Ending
mod Games
mod Leaving
mod Playing
