mod AskedLemmas
mod DecisionLemmas
mod WorkedValues
