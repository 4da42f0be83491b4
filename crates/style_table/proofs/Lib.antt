pub mod FirstRows
pub mod Plain
