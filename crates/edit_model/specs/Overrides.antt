-- The overrides of commands: one setting for each command, in the order of the commands.
use Rattle.std.specs.Prelude.{ℕ, List, replicate, slice_index_or, slice_set}
use Rattle.html_names.specs.declared.commands.Command.{Command}
use Rattle.html_names.specs.declared.commands.Command.TheVariants as command
use Rattle.edit_model.specs.declared.settings.Setting.{Setting}
use Rattle.edit_model.specs.declared.settings.Setting.TheVariants.{Absent}

-- the place of a command's setting
unfoldable pub place_of : Command → ℕ
place_of command.Bold = 0
place_of command.Italic = 1
place_of command.Underline = 2
place_of command.Strikethrough = 3
place_of command.Subscript = 4
place_of command.Superscript = 5
place_of command.CreateLink = 6
place_of command.Unlink = 7
place_of command.FontName = 8
place_of command.FontSize = 9
place_of command.ForeColor = 10
place_of command.BackColor = 11
place_of command.HiliteColor = 12
place_of command.RemoveFormat = 13
place_of command.FormatBlock = 14
place_of command.JustifyLeft = 15
place_of command.JustifyCenter = 16
place_of command.JustifyRight = 17
place_of command.JustifyFull = 18
place_of command.Indent = 19
place_of command.Outdent = 20
place_of command.Delete = 21
place_of command.InsertText = 22
place_of command.InsertParagraph = 23
place_of command.StyleWithCss = 24
place_of command.UseCss = 25
place_of command.DefaultParagraphSeparator = 26
place_of command.InsertOrderedList = 27
place_of command.InsertUnorderedList = 28
place_of command.InsertLineBreak = 29
place_of command.InsertHorizontalRule = 30
place_of command.InsertImage = 31

-- no command has an override
unfoldable pub no_overrides : List Setting
no_overrides = replicate 32 Absent

unfoldable pub setting_of : List Setting → Command → Setting
setting_of list c = slice_index_or list (place_of c) Absent

unfoldable pub with_setting : List Setting → Command → Setting → List Setting
with_setting list c setting = slice_set list (place_of c) setting
