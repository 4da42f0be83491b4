-- Definitions of the crates below that tactics of this crate name.
unfoldable pub use Rattle.edit_engine.specs.SelectedTexts.{selected_html, selected_text}
