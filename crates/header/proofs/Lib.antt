pub mod RunsLaws
pub mod Blocks
pub mod FromFn
