pub mod Tickets
pub mod Rule
pub use Rattle.atomic_table.specs.Seated
