-- Definitions of the crates below that tactics of this crate name.
unfoldable pub use Rattle.wrap_split.specs.CommandValue.Equivalence.{equivalent}
unfoldable pub use Rattle.wrap_split.specs.CommandValue.Modifiable.{specifies_other}
unfoldable pub use Rattle.wrap_split.specs.NodeTests.CollapsedWhitespace.{is_words}
