pub mod ActionLemmas
pub mod StationLemmas
pub mod PortLemmas
