mod BuildLemmas
mod FormLemmas
mod PairLemmas
mod TextLemmas
mod WorkedValues
