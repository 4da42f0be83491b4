-- Setting a value on the selection is tame.
use Rattle.std.proofs.Common.{ℕ, List, Option}
use Rattle.edit_model.specs.DomModel.declared.Content.{Content}
use Rattle.edit_model.specs.DomModel.Forest.{Forest}
use Rattle.edit_model.specs.HtmlNames.declared.commands.Command.{Command}
use Rattle.edit_model.specs.LiveRange.declared.places.Pair.{Pair}
use Rattle.edit_model.specs.LiveRange.declared.places.Point.{Point}
use Rattle.edit_model.specs.Action.{Override}
use Rattle.edit_model.specs.declared.settings.Setting.TheVariants.{Absent}
use Rattle.inline_value.specs.Selections.{with_start, set_start, start_text, split_at_start, split_at_end, split_start, split_end, split_ends, unset_rival, set_overrides, clear_one, clear_elements, force_phrase, give_node, give_nodes, give_range, set_value}
use Rattle.making_laws.specs.Tame.{Tame}
use Rattle.making_laws.proofs.TameRuns.{tame_answer, tame_parts, tame_perform}
use Rattle.making_laws.proofs.ClearingRuns.{tame_clear_value}
use Rattle.making_laws.proofs.ForcingRuns.{tame_force}
use Rattle.making_laws.proofs.PushingRuns.{tame_push_down}
use Rattle.edit_model.specs.HtmlNames.declared.commands.Command.TheVariants as command

tame_with_start : (f : Forest Content) (pair : Pair) (at : Point) → Tame (with_start f pair at)
tame_with_start f pair at = search tame_parts

tame_set_start : (at : Point) → Tame (set_start at)
unfolding set_start
tame_set_start at = search (tame_parts, tame_with_start)

tame_start_text : (n : ℕ) → Tame (start_text n)
unfolding start_text
tame_start_text n = search (tame_parts, tame_set_start)

tame_at_start : (at : Point) → Tame (split_at_start at)
unfolding split_at_start
tame_at_start at = search (tame_parts, tame_start_text)

tame_at_end : (at : Point) → Tame (split_at_end at)
unfolding split_at_end
tame_at_end at = search tame_parts

tame_start : Tame split_start
unfolding split_start
tame_start = search (tame_parts, tame_at_start)

tame_end : Tame split_end
unfolding split_end
tame_end = search (tame_parts, tame_at_end)

pub tame_split_ends : Tame split_ends
unfolding split_ends
tame_split_ends = search (tame_parts, tame_start, tame_end)

-- ---- the overrides

tame_rival : (c : Command) → Tame (unset_rival c)
tame_rival command.Bold = tame_answer tt
tame_rival command.Italic = tame_answer tt
tame_rival command.Underline = tame_answer tt
tame_rival command.Strikethrough = tame_answer tt
tame_rival command.Subscript = tame_perform (Override command.Superscript Absent) tt
tame_rival command.Superscript = tame_perform (Override command.Subscript Absent) tt
tame_rival command.CreateLink = tame_answer tt
tame_rival command.Unlink = tame_answer tt
tame_rival command.FontName = tame_answer tt
tame_rival command.FontSize = tame_answer tt
tame_rival command.ForeColor = tame_answer tt
tame_rival command.BackColor = tame_answer tt
tame_rival command.HiliteColor = tame_answer tt
tame_rival command.RemoveFormat = tame_answer tt
tame_rival command.FormatBlock = tame_answer tt
tame_rival command.JustifyLeft = tame_answer tt
tame_rival command.JustifyCenter = tame_answer tt
tame_rival command.JustifyRight = tame_answer tt
tame_rival command.JustifyFull = tame_answer tt
tame_rival command.Indent = tame_answer tt
tame_rival command.Outdent = tame_answer tt
tame_rival command.Delete = tame_answer tt
tame_rival command.InsertText = tame_answer tt
tame_rival command.InsertParagraph = tame_answer tt
tame_rival command.StyleWithCss = tame_answer tt
tame_rival command.UseCss = tame_answer tt
tame_rival command.DefaultParagraphSeparator = tame_answer tt
tame_rival command.InsertOrderedList = tame_answer tt
tame_rival command.InsertUnorderedList = tame_answer tt
tame_rival command.InsertLineBreak = tame_answer tt
tame_rival command.InsertHorizontalRule = tame_answer tt
tame_rival command.InsertImage = tame_answer tt

tame_set_overrides : (c : Command) (v : Option (List ℕ)) → Tame (set_overrides c v)
unfolding set_overrides
tame_set_overrides c v = search (tame_parts, tame_rival)

-- ---- the whole

pub tame_clear_one : (c : Command) (e : ℕ) → Tame (clear_one c e)
unfolding clear_one
tame_clear_one c e = search (tame_parts, tame_clear_value)

tame_clear_elements : (c : Command) → Tame (clear_elements c)
unfolding clear_elements
tame_clear_elements c = search (tame_parts, tame_clear_one)

tame_force_phrase : (c : Command) (v : Option (List ℕ)) (n : ℕ) → Tame (force_phrase c v n)
unfolding force_phrase
tame_force_phrase c v n = search (tame_parts, tame_force)

tame_give_node : (c : Command) (v : Option (List ℕ)) (n : ℕ) → Tame (give_node c v n)
unfolding give_node
tame_give_node c v n = search (tame_parts, tame_push_down, tame_force_phrase)

tame_give_nodes : (c : Command) (v : Option (List ℕ)) → Tame (give_nodes c v)
unfolding give_nodes
tame_give_nodes c v = search (tame_parts, tame_give_node)

tame_give_range : (c : Command) (v : Option (List ℕ)) → Tame (give_range c v)
unfolding give_range
tame_give_range c v = search (tame_parts, tame_split_ends, tame_clear_elements, tame_give_nodes)

pub tame_set_value : (c : Command) (v : Option (List ℕ)) → Tame (set_value c v)
unfolding set_value
tame_set_value c v = search (tame_parts, tame_set_overrides, tame_give_range)
