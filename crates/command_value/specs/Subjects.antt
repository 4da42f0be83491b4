-- What the values of an inline command are about (HTML Editing APIs, "relevant CSS property",
-- "inline command activated values").
use Rattle.std.specs.Prelude.{Option, Some, None}
use Rattle.node_styles.specs.CssValue.declared.decoration.DecorationLine.TheVariants.{Underline, LineThrough}
use Rattle.node_styles.specs.HtmlNames.declared.commands.Command.{Command}
use Rattle.node_styles.specs.HtmlNames.declared.commands.Command.TheVariants as command
use Rattle.node_styles.specs.StyleTable.declared.Property.{Property}
use Rattle.node_styles.specs.StyleTable.declared.Property.TheVariants as property
use Rattle.command_value.specs.declared.subject.Subject.{Subject}
use Rattle.command_value.specs.declared.subject.Subject.TheVariants.{Link, Background, Script, Line, Weight, Slant, Family, Size, Foreground, Nothing}

abbrev pub subject : Command → Subject
subject command.Bold = Weight
subject command.Italic = Slant
subject command.Underline = Line Underline
subject command.Strikethrough = Line LineThrough
subject command.Subscript = Script
subject command.Superscript = Script
subject command.CreateLink = Link
subject command.Unlink = Link
subject command.FontName = Family
subject command.FontSize = Size
subject command.ForeColor = Foreground
subject command.BackColor = Background
subject command.HiliteColor = Background
subject _ = Nothing

-- the property that styles the subject
abbrev pub property_of : Subject → Option Property
property_of Weight = Some property.FontWeight
property_of Slant = Some property.FontStyle
property_of Family = Some property.FontFamily
property_of Size = Some property.FontSize
property_of Foreground = Some property.Color
property_of Background = Some property.BackgroundColor
property_of _ = None

-- the property that a command sets
unfoldable pub relevant : Command → Option Property
relevant command = property_of (subject command)
