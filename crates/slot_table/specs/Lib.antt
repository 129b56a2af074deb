pub mod Table
pub mod Runs
pub mod Claims
pub mod Remembered
pub mod CutRuns
