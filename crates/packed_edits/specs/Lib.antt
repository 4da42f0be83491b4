pub mod Packed
pub use Rattle.page_write.specs.HtmlNames
pub use Rattle.page_write.specs.LiveRange
pub use Rattle.page_write.specs.NodePaths
