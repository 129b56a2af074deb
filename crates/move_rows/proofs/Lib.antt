mod Acknowledging
mod ArrivalLemmas
mod TakenSlots
pub mod SendingLemmas
mod NamingLemmas
mod WriteLemmas
