pub mod BlockExtend
pub mod Gather
pub mod Series
pub mod Order
pub mod Descendants
pub mod Prohibited
pub mod Gaps
pub use Rattle.node_paths.specs as NodePaths
pub use Rattle.node_tests.specs as NodeTests
