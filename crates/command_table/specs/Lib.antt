pub mod ClusterTable
pub mod ErrorLine
pub mod Keys
pub mod Names
pub mod Numbers
pub mod Pairs
pub mod Table
