pub mod KeyMap
pub mod Few
pub mod Form
pub mod FewLending
pub mod FormLending
pub mod Keys
pub mod Lending
