-- Definitions of the crates below that tactics of this crate name.
unfoldable pub use Rattle.inline_value.specs.Recording.{record_values}
