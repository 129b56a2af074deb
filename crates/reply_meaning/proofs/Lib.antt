pub mod RefusalKinds
pub mod Executions
pub mod Words
pub mod Steps
pub mod Laws
pub mod Reasons
pub mod Decimals
pub mod Asks
pub mod Clients
mod WorkedValues
