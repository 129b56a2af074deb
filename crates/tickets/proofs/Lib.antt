pub mod TotalLemmas
pub mod RuleSteps
pub mod SeatLemmas
