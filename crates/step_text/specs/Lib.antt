pub mod Applying
pub mod Planning
pub mod StepLine
pub mod StepReading
pub mod Replaying
pub use Rattle.edit_parts.specs.EditModel
pub use Rattle.edit_steps.specs as EditSteps
pub use Rattle.page_write.specs.EscapedText
pub use Rattle.page_write.specs.LiveRange
pub use Rattle.page_grammar.specs as PageGrammar
pub use Rattle.page_write.specs as PageWrite
pub use Rattle.script_read.specs as ScriptRead
