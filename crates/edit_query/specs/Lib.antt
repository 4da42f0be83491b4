pub mod Carets
pub mod Formattable
pub mod Leaves
pub mod Sought
pub mod Listed
pub mod Features
pub mod Inside
pub mod BlockTypes
pub mod ListStates
pub mod Gathered
pub mod Rows
pub mod Queries
pub mod Replies
pub use Rattle.block_extend.specs as BlockExtend
pub use Rattle.block_extend.specs.NodePaths
pub mod Below
