pub mod NumberTexts
pub mod PairLemmas
mod WorkedValues
