pub mod Html
pub mod Listing
pub mod PointLines
pub use Rattle.escaped_text.specs as EscapedText
pub use Rattle.html_names.specs as HtmlNames
pub use Rattle.live_range.specs as LiveRange
pub use Rattle.node_paths.specs as NodePaths
