pub mod Lineage
pub mod LegacySizes
pub mod OwnStyles
pub mod Resolved
pub mod Blocks
pub mod NameClasses
pub mod Allowed
pub mod Families
pub mod WrittenDecorations
pub mod TableTexts
pub mod Traits
pub mod TurnBound
pub use Rattle.css_value.specs as CssValue
pub use Rattle.node_arena.specs.DomModel
pub use Rattle.css_value.specs.HtmlNames
pub use Rattle.node_arena.specs as NodeArena
pub use Rattle.style_table.specs as StyleTable
pub mod Below
