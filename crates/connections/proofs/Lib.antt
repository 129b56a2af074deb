mod Counts
mod PlaceLemmas
mod Steps
mod WorkedValues
