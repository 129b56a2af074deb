pub mod DeliveryLemmas
pub mod GivenLemmas
pub mod JournalLemmas
pub mod SentLemmas
