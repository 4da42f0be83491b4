pub mod Subjects
pub mod EffectiveValues
pub mod SpecifiedValues
pub mod Equivalence
pub mod Alignment
pub mod Modifiable
pub mod ValueTexts
pub mod WorkedPages
pub mod Lines
pub use Rattle.node_styles.specs.CssValue
pub use Rattle.node_styles.specs as NodeStyles
pub use Rattle.node_styles.specs.StyleTable
