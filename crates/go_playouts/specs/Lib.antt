pub mod Seeded
pub mod SeededLaws
