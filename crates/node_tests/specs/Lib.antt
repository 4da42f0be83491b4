pub mod Surroundings
pub mod Sides
pub mod CollapsedWhitespace
pub mod SolidNeighbours
pub mod Visible
pub mod BlockProps
pub mod BlockPoints
pub mod Ranges
pub mod Listing
pub mod AffectedHost
pub mod LineBreaks
pub mod Gaps
pub use Rattle.node_styles.specs.HtmlNames
pub use Rattle.point_order.specs.LiveRange
pub use Rattle.node_styles.specs as NodeStyles
pub use Rattle.point_order.specs as PointOrder
