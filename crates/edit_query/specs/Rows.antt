-- What each command answers of its own, where no override does (HTML Editing APIs, "indeterminate",
-- "state", "value"): a row a command. A host decides what is editable.
use Rattle.std.specs.Prelude.{ℕ, ◌+◌, Bool, true, false, ◌||◌, List, [], ◌∷◌, Option, Some, None, codes, if◌then◌else◌}
use Rattle.std.specs.List.{list_all}
use Rattle.std.specs.Option.{option_map_or, option_and_then, option_or, unwrap_or}
use Rattle.command_value.specs.CssValue.declared.values.TextAlign.TheVariants as text_align
use Rattle.command_value.specs.CssValue.Numbers.{legacy_size}
use Rattle.command_value.specs.CssValue.Values.{font_size_of}
use Rattle.edit_model.specs.HtmlNames.declared.commands.Command.{Command}
use Rattle.edit_model.specs.HtmlNames.declared.commands.Command.TheVariants as command
use Rattle.command_value.specs.Alignment.{alignment_value}
use Rattle.command_value.specs.EffectiveValues.{effective, is_activated}
use Rattle.edit_model.specs.State.{State}
use Rattle.edit_query.specs.BlockTypes.{type_of, have_other_types}
use Rattle.edit_query.specs.Formattable.{formattable_nodes, first_formattable, start_node}
use Rattle.edit_query.specs.Leaves.{leaves, first_leaf}
use Rattle.edit_query.specs.ListStates.{list_state, is_list_state, is_mixed_state}
use Rattle.edit_query.specs.Listed.{is_partly_on, is_partly_aligned, are_aligned, has_mixed, have_other_values}

abbrev pub is_on_at_start : State → Command → Bool
is_on_at_start s c = option_map_or (λ l. is_activated s.trees l c) (start_node s) false

-- the command is on at all formattable nodes in the range, or where there is none at the range's
-- start
abbrev pub is_on_throughout : State → Command → List ℕ → Bool
is_on_throughout s c [] = is_on_at_start s c
is_on_throughout s c (l ∷ ls) = list_all (λ n. is_activated s.trees n c) (l ∷ ls)

unfoldable pub is_on : State → Option ℕ → Command → Bool
is_on s host c = is_on_throughout s c (formattable_nodes s host)

-- the effective value of the first formattable node in the range, or where there is none that at
-- the range's start
unfoldable pub first_value : State → Option ℕ → Command → Option (List ℕ)
first_value s host c =
    option_and_then (λ l.
    effective s.trees l c) (option_or (first_formattable s host) (start_node s))

-- two leaves of the block-extended range have different types; without a host there are no leaves
abbrev pub types_differ : State → Option ℕ → Bool
types_differ s None = false
types_differ s (Some host) = have_other_types s.trees host (leaves s (Some host))

-- the type of the first leaf
abbrev pub first_type : State → Option ℕ → List ℕ
first_type s None = []
first_type s (Some host) = option_map_or (type_of s.trees host) (first_leaf s (Some host)) []

-- the alignment of the first leaf
abbrev pub first_alignment : State → Option ℕ → List ℕ
first_alignment s host = option_map_or (alignment_value s.trees) (first_leaf s host) (codes "left")

-- the digit of the legacy size, 1 to 7, of a size of a font (HTML Editing APIs, "legacy font size
-- for")
abbrev pub legacy_text : List ℕ → List ℕ
legacy_text text = option_map_or (λ px. (48 + legacy_size px) ∷ []) (font_size_of text) []

-- the name of the default single-line container
abbrev pub container_name : Bool → List ℕ
container_name paragraphs = if paragraphs then codes "p" else codes "div"

-- ---- one row a command

abbrev pub own_indeterm : State → Option ℕ → Command → Bool
own_indeterm s host command.Bold = is_partly_on s.trees command.Bold (formattable_nodes s host)
own_indeterm s host command.Italic = is_partly_on s.trees command.Italic (formattable_nodes s host)
own_indeterm s host command.Underline =
    is_partly_on s.trees command.Underline (formattable_nodes s host)
own_indeterm s host command.Strikethrough =
    is_partly_on s.trees command.Strikethrough (formattable_nodes s host)
own_indeterm s host command.Subscript =
    is_partly_on s.trees command.Subscript (formattable_nodes s host)
    || has_mixed s.trees (formattable_nodes s host)
own_indeterm s host command.Superscript =
    is_partly_on s.trees command.Superscript (formattable_nodes s host)
    || has_mixed s.trees (formattable_nodes s host)
own_indeterm s host command.CreateLink =
    have_other_values s.trees command.CreateLink (formattable_nodes s host)
own_indeterm s host command.FontName =
    have_other_values s.trees command.FontName (formattable_nodes s host)
own_indeterm s host command.FontSize =
    have_other_values s.trees command.FontSize (formattable_nodes s host)
own_indeterm s host command.ForeColor =
    have_other_values s.trees command.ForeColor (formattable_nodes s host)
own_indeterm s host command.BackColor =
    have_other_values s.trees command.BackColor (formattable_nodes s host)
own_indeterm s host command.HiliteColor =
    have_other_values s.trees command.HiliteColor (formattable_nodes s host)
own_indeterm s host command.FormatBlock = types_differ s host
own_indeterm s host command.JustifyLeft = is_partly_aligned s.trees text_align.Left (leaves s host)
own_indeterm s host command.JustifyCenter =
    is_partly_aligned s.trees text_align.Center (leaves s host)
own_indeterm s host command.JustifyRight =
    is_partly_aligned s.trees text_align.Right (leaves s host)
own_indeterm s host command.JustifyFull =
    is_partly_aligned s.trees text_align.Justify (leaves s host)
own_indeterm s host command.InsertOrderedList = is_mixed_state true (list_state s host)
own_indeterm s host command.InsertUnorderedList = is_mixed_state false (list_state s host)
own_indeterm s host _ = false

abbrev pub own_state : State → Option ℕ → Command → Bool
own_state s host command.Bold = is_on s host command.Bold
own_state s host command.Italic = is_on s host command.Italic
own_state s host command.Underline = is_on s host command.Underline
own_state s host command.Strikethrough = is_on s host command.Strikethrough
own_state s host command.Subscript = is_on s host command.Subscript
own_state s host command.Superscript = is_on s host command.Superscript
own_state s host command.JustifyLeft = are_aligned s.trees text_align.Left (leaves s host)
own_state s host command.JustifyCenter = are_aligned s.trees text_align.Center (leaves s host)
own_state s host command.JustifyRight = are_aligned s.trees text_align.Right (leaves s host)
own_state s host command.JustifyFull = are_aligned s.trees text_align.Justify (leaves s host)
own_state s host command.InsertOrderedList = is_list_state true (list_state s host)
own_state s host command.InsertUnorderedList = is_list_state false (list_state s host)
own_state s host command.StyleWithCss = s.flags.css_styling
own_state s host _ = false

-- null is empty
abbrev pub own_value : State → Option ℕ → Command → List ℕ
own_value s host command.CreateLink = unwrap_or (first_value s host command.CreateLink) []
own_value s host command.FontName = unwrap_or (first_value s host command.FontName) []
own_value s host command.FontSize =
    option_map_or legacy_text (first_value s host command.FontSize) []
own_value s host command.ForeColor = unwrap_or (first_value s host command.ForeColor) []
own_value s host command.BackColor = unwrap_or (first_value s host command.BackColor) []
own_value s host command.HiliteColor = unwrap_or (first_value s host command.HiliteColor) []
own_value s host command.FormatBlock = first_type s host
own_value s host command.JustifyLeft = first_alignment s host
own_value s host command.JustifyCenter = first_alignment s host
own_value s host command.JustifyRight = first_alignment s host
own_value s host command.JustifyFull = first_alignment s host
own_value s host command.DefaultParagraphSeparator = container_name s.flags.paragraphs
own_value s host _ = []
