pub mod Pages
pub mod Gathered
pub mod Takes
pub mod Contents
