-- The editing commands (HTML Editing APIs) and their names.
use Rattle.std.specs.Prelude.{ℕ, List, [], ◌∷◌, Option, codes, find}
use Rattle.std.specs.Str.{str_eq_ignore_ascii_case}
use Rattle.html_names.specs.declared.commands.Command.{Command}
use Rattle.html_names.specs.declared.commands.Command.TheVariants as command

-- in lower case
unfoldable pub command_name : Command → List ℕ
command_name command.Bold = codes "bold"
command_name command.Italic = codes "italic"
command_name command.Underline = codes "underline"
command_name command.Strikethrough = codes "strikethrough"
command_name command.Subscript = codes "subscript"
command_name command.Superscript = codes "superscript"
command_name command.CreateLink = codes "createlink"
command_name command.Unlink = codes "unlink"
command_name command.FontName = codes "fontname"
command_name command.FontSize = codes "fontsize"
command_name command.ForeColor = codes "forecolor"
command_name command.BackColor = codes "backcolor"
command_name command.HiliteColor = codes "hilitecolor"
command_name command.RemoveFormat = codes "removeformat"
command_name command.FormatBlock = codes "formatblock"
command_name command.JustifyLeft = codes "justifyleft"
command_name command.JustifyCenter = codes "justifycenter"
command_name command.JustifyRight = codes "justifyright"
command_name command.JustifyFull = codes "justifyfull"
command_name command.Indent = codes "indent"
command_name command.Outdent = codes "outdent"
command_name command.Delete = codes "delete"
command_name command.InsertText = codes "inserttext"
command_name command.InsertParagraph = codes "insertparagraph"
command_name command.StyleWithCss = codes "stylewithcss"
command_name command.UseCss = codes "usecss"
command_name command.DefaultParagraphSeparator = codes "defaultparagraphseparator"
command_name command.InsertOrderedList = codes "insertorderedlist"
command_name command.InsertUnorderedList = codes "insertunorderedlist"
command_name command.InsertLineBreak = codes "insertlinebreak"
command_name command.InsertHorizontalRule = codes "inserthorizontalrule"
command_name command.InsertImage = codes "insertimage"

unfoldable pub all_commands : List Command
all_commands =
    command.Bold
    ∷ command.Italic
    ∷ command.Underline
    ∷ command.Strikethrough
    ∷ command.Subscript
    ∷ command.Superscript
    ∷ command.CreateLink
    ∷ command.Unlink
    ∷ command.FontName
    ∷ command.FontSize
    ∷ command.ForeColor
    ∷ command.BackColor
    ∷ command.HiliteColor
    ∷ command.RemoveFormat
    ∷ command.FormatBlock
    ∷ command.JustifyLeft
    ∷ command.JustifyCenter
    ∷ command.JustifyRight
    ∷ command.JustifyFull
    ∷ command.Indent
    ∷ command.Outdent
    ∷ command.Delete
    ∷ command.InsertText
    ∷ command.InsertParagraph
    ∷ command.StyleWithCss
    ∷ command.UseCss
    ∷ command.DefaultParagraphSeparator
    ∷ command.InsertOrderedList
    ∷ command.InsertUnorderedList
    ∷ command.InsertLineBreak
    ∷ command.InsertHorizontalRule
    ∷ command.InsertImage
    ∷ []

-- the command that a text names, in any case
unfoldable pub command_named : List ℕ → Option Command
command_named text = find (λ c. str_eq_ignore_ascii_case (command_name c) text) all_commands
