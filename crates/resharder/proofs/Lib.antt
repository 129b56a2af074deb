pub mod EntryLemmas
pub mod FrontLemmas
pub mod MigrationLemmas
pub mod RequestLemmas
pub mod RunLemmas
pub mod StepLemmas
pub mod WaitLemmas
mod WorkedValues
