-- The place of each command is its place in the list of commands.
use Rattle.std.proofs.Common.{◌≡◌, refl}
use Rattle.edit_model.specs.HtmlNames.declared.commands.Command.{Command}
use Rattle.edit_model.specs.HtmlNames.declared.commands.Command.TheVariants as command
use Rattle.edit_model.specs.Overrides.{place_of}
use denote.Enum.Declared.{tag_of}
use Rattle.edit_model.specs.HtmlNames.contracts.commands.Command.{the_type}
use Rattle.edit_parts.proofs.overrides.place_of.Goals as goal

pub returns-clause-place : goal.returns-clause-place
unfolding place_of
returns-clause-place c = elim c.args.command as (λ k. tag_of the_type k ≡ place_of k) [
  | command.Bold ↦ refl
  | command.Italic ↦ refl
  | command.Underline ↦ refl
  | command.Strikethrough ↦ refl
  | command.Subscript ↦ refl
  | command.Superscript ↦ refl
  | command.CreateLink ↦ refl
  | command.Unlink ↦ refl
  | command.FontName ↦ refl
  | command.FontSize ↦ refl
  | command.ForeColor ↦ refl
  | command.BackColor ↦ refl
  | command.HiliteColor ↦ refl
  | command.RemoveFormat ↦ refl
  | command.FormatBlock ↦ refl
  | command.JustifyLeft ↦ refl
  | command.JustifyCenter ↦ refl
  | command.JustifyRight ↦ refl
  | command.JustifyFull ↦ refl
  | command.Indent ↦ refl
  | command.Outdent ↦ refl
  | command.Delete ↦ refl
  | command.InsertText ↦ refl
  | command.InsertParagraph ↦ refl
  | command.StyleWithCss ↦ refl
  | command.UseCss ↦ refl
  | command.DefaultParagraphSeparator ↦ refl
  | command.InsertOrderedList ↦ refl
  | command.InsertUnorderedList ↦ refl
  | command.InsertLineBreak ↦ refl
  | command.InsertHorizontalRule ↦ refl
  | command.InsertImage ↦ refl
]
