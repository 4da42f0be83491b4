-- The values at which an inline command counts as on (HTML Editing APIs, "inline command activated
-- values").
use Rattle.std.specs.Prelude.{ℕ, List, [], ◌∷◌, codes}
use Rattle.html_names.specs.declared.commands.Command.{Command}
use Rattle.html_names.specs.declared.commands.Command.TheVariants as command

abbrev pub activated_values : Command → List (List ℕ)
activated_values command.Bold =
    codes "bold" ∷ codes "600" ∷ codes "700" ∷ codes "800" ∷ codes "900" ∷ []
activated_values command.Italic = codes "italic" ∷ codes "oblique" ∷ []
activated_values command.Strikethrough = codes "line-through" ∷ []
activated_values command.Underline = codes "underline" ∷ []
activated_values command.Subscript = codes "subscript" ∷ []
activated_values command.Superscript = codes "superscript" ∷ []
activated_values _ = []
