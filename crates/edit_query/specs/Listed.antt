-- What commands and their values are at the nodes of a list.
use Rattle.std.specs.Prelude.{ℕ, Bool, true, false, not, ◌&&◌, List, [], ◌∷◌, Option, Some, None, bytes_eq, codes}
use Rattle.std.specs.List.{list_all, list_any}
use Rattle.std.specs.Option.{option_map_or}
use Rattle.edit_model.specs.DomModel.declared.Content.{Content}
use Rattle.edit_model.specs.DomModel.Forest.{Forest}
use Rattle.command_value.specs.CssValue.declared.values.TextAlign.{TextAlign}
use Rattle.command_value.specs.CssValue.Values.{text_align_keyword}
use Rattle.edit_model.specs.HtmlNames.declared.commands.Command.{Command}
use Rattle.edit_model.specs.HtmlNames.declared.commands.Command.TheVariants as command
use Rattle.command_value.specs.Alignment.{alignment_value}
use Rattle.command_value.specs.EffectiveValues.{effective, is_activated}

-- one of them passes, and another doesn't
unfoldable pub is_partly : (ℕ → Bool) → List ℕ → Bool
is_partly test ls = list_any test ls && not (list_all test ls)

-- the command is on at one of them, and not at another
abbrev pub is_partly_on : Forest Content → Command → List ℕ → Bool
is_partly_on f c ls = is_partly (λ l. is_activated f l c) ls

-- the node has this alignment
abbrev pub is_aligned : Forest Content → TextAlign → ℕ → Bool
is_aligned f a l = bytes_eq (alignment_value f l) (text_align_keyword a)

-- one of them has this alignment, and another hasn't
abbrev pub is_partly_aligned : Forest Content → TextAlign → List ℕ → Bool
is_partly_aligned f a ls = is_partly (λ l. is_aligned f a l) ls

-- there are some, and all have this alignment
abbrev pub are_aligned : Forest Content → TextAlign → List ℕ → Bool
are_aligned f a [] = false
are_aligned f a (l ∷ ls) = list_all (λ n. is_aligned f a n) (l ∷ ls)

-- the effective value of subscript, which is that of superscript too, is "mixed"
abbrev pub is_mixed : Forest Content → ℕ → Bool
is_mixed f l =
    option_map_or (λ text. bytes_eq text (codes "mixed")) (effective f l command.Subscript) false

unfoldable pub has_mixed : Forest Content → List ℕ → Bool
has_mixed f ls = list_any (is_mixed f) ls

-- both are null, or the same text
abbrev pub is_same_value : Option (List ℕ) → Option (List ℕ) → Bool
is_same_value None None = true
is_same_value (Some a) (Some b) = bytes_eq a b
is_same_value None (Some b) = false
is_same_value (Some a) None = false

-- the effective value of one of them is another than this
abbrev pub has_other_value : Forest Content → Command → Option (List ℕ) → List ℕ → Bool
has_other_value f c value ls = list_any (λ l. not (is_same_value (effective f l c) value)) ls

-- the effective value of one of them is another than that of the first
abbrev pub have_other_values : Forest Content → Command → List ℕ → Bool
have_other_values f c [] = false
have_other_values f c (l ∷ ls) = has_other_value f c (effective f l c) ls
