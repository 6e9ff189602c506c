-- What is judged right is a right answer, and what is judged wrong is none.
pub mod Table
pub mod Texts
pub mod Statuses
pub mod Numbers
pub mod Lists
pub mod Rows
pub mod Choices
pub mod Judged
