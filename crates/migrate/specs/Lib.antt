pub mod Sending
pub mod Arriving
pub mod Acknowledging
pub mod Draining
pub mod Losing
pub mod Resending
