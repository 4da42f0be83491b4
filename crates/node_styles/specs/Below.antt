-- Definitions of the crates below that tactics of this crate name.
unfoldable pub use Rattle.css_value.specs.HtmlNames.BoxNames.{margin_names}
