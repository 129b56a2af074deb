mod Maps
mod MovesLemmas
mod WorkedValues
