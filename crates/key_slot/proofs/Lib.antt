pub mod DivisionLemmas
pub mod NumberLemmas
pub mod CrcLemmas
pub mod RemainderLemmas
pub mod TableLemmas
pub mod TagLemmas
pub mod WorkedValues
