-- Definitions of the crates below that tactics of this crate name.
unfoldable pub use Rattle.command_value.specs.CssValue.Numbers.{legacy_size}
