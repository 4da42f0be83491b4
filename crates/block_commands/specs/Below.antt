-- Definitions of the crates below that tactics of this crate name.
unfoldable pub use Rattle.inline_value.specs.CommandValue.Alignment.{alignment_value}
unfoldable pub use Rattle.inline_value.specs.WrapSplit.Target.{aligns, is_aligned, meets}
