pub mod ActivatedValues
pub mod AllowedChildren
pub mod BoxNames
pub mod Commands
pub mod ElementNames
pub mod Queries
