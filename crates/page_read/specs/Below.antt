-- Definitions of the crates below that tactics of this crate name.
unfoldable pub use Rattle.page_grammar.specs.HtmlNames.ElementNames.{is_supported}
