pub mod GateLemmas
