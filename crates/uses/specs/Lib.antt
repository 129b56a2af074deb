pub mod Pongs
pub mod Serving
pub mod WholeRequests
pub mod Notes
