-- Setting a value on the selection keeps to the grammar.
use Rattle.std.proofs.Common.{ℕ, Bool, true, false, List, Option, Some, None, IfSome}
use Rattle.std.specs.Prelude.{is_none, if◌then◌else◌}
use Rattle.std.specs.Option.{option_map_or}
use Rattle.edit_model.specs.HtmlNames.ActivatedValues.{activated_values}
use Rattle.edit_model.specs.HtmlNames.ElementNames.{is_one_of}
use Rattle.edit_model.specs.DomModel.declared.Content.{Content}
use Rattle.edit_model.specs.DomModel.Forest.{Forest}
use Rattle.edit_model.specs.HtmlNames.declared.commands.Command.{Command}
use Rattle.edit_model.specs.LiveRange.declared.places.Pair.{Pair}
use Rattle.edit_model.specs.LiveRange.declared.places.Point.{Point}
use Rattle.edit_model.specs.Action.{Override}
use Rattle.edit_model.specs.declared.settings.Setting.TheVariants.{On, Off, Absent}
use Rattle.inline_value.specs.Selections.{with_start, set_start, start_text, split_at_start, split_at_end, split_start, split_end, split_ends, state_setting, value_setting, override_for, unset_rival, set_overrides, clear_one, clear_elements, force_phrase, give_node, give_nodes, give_range, set_value}
use Rattle.edit_model.specs.Run.{done, set_setting}
use Rattle.grammar_laws.specs.Proper.{IsProperSetting}
use Rattle.grammar_laws.specs.Runs.{Proper}
use Rattle.grammar_laws.proofs.Values.{IsValue}
use Rattle.grammar_laws.proofs.ProperRuns.{proper_act, proper_answer, proper_bind, proper_parts, proper_some}
use Rattle.grammar_laws.proofs.ClearingRuns.{proper_clear_value}
use Rattle.grammar_laws.proofs.ForcingRuns.{proper_force}
use Rattle.grammar_laws.proofs.PushingRuns.{proper_push_down}
use Rattle.edit_model.specs.HtmlNames.declared.commands.Command.TheVariants as command

proper_with_start : (f : Forest Content) (pair : Pair) (at : Point) → Proper (with_start f pair at)
proper_with_start f pair at = search proper_parts

proper_set_start : (at : Point) → Proper (set_start at)
unfolding set_start
proper_set_start at = search (proper_parts, proper_with_start)

proper_start_text : (n : ℕ) → Proper (start_text n)
unfolding start_text
proper_start_text n = search (proper_parts, proper_set_start)

proper_at_start : (at : Point) → Proper (split_at_start at)
unfolding split_at_start
proper_at_start at = search (proper_parts, proper_start_text)

proper_at_end : (at : Point) → Proper (split_at_end at)
unfolding split_at_end
proper_at_end at = search proper_parts

proper_start : Proper split_start
unfolding split_start
proper_start = search (proper_parts, proper_at_start)

proper_end : Proper split_end
unfolding split_end
proper_end = search (proper_parts, proper_at_end)

pub proper_split_ends : Proper split_ends
unfolding split_ends
proper_split_ends = search (proper_parts, proper_start, proper_end)

-- ---- the overrides

proper_rival : (c : Command) → Proper (unset_rival c)
proper_rival command.Bold = proper_answer tt
proper_rival command.Italic = proper_answer tt
proper_rival command.Underline = proper_answer tt
proper_rival command.Strikethrough = proper_answer tt
proper_rival command.Subscript = proper_act (Override command.Superscript Absent) tt
proper_rival command.Superscript = proper_act (Override command.Subscript Absent) tt
proper_rival command.CreateLink = proper_answer tt
proper_rival command.Unlink = proper_answer tt
proper_rival command.FontName = proper_answer tt
proper_rival command.FontSize = proper_answer tt
proper_rival command.ForeColor = proper_answer tt
proper_rival command.BackColor = proper_answer tt
proper_rival command.HiliteColor = proper_answer tt
proper_rival command.RemoveFormat = proper_answer tt
proper_rival command.FormatBlock = proper_answer tt
proper_rival command.JustifyLeft = proper_answer tt
proper_rival command.JustifyCenter = proper_answer tt
proper_rival command.JustifyRight = proper_answer tt
proper_rival command.JustifyFull = proper_answer tt
proper_rival command.Indent = proper_answer tt
proper_rival command.Outdent = proper_answer tt
proper_rival command.Delete = proper_answer tt
proper_rival command.InsertText = proper_answer tt
proper_rival command.InsertParagraph = proper_answer tt
proper_rival command.StyleWithCss = proper_answer tt
proper_rival command.UseCss = proper_answer tt
proper_rival command.DefaultParagraphSeparator = proper_answer tt
proper_rival command.InsertOrderedList = proper_answer tt
proper_rival command.InsertUnorderedList = proper_answer tt
proper_rival command.InsertLineBreak = proper_answer tt
proper_rival command.InsertHorizontalRule = proper_answer tt
proper_rival command.InsertImage = proper_answer tt

none_setting : (b : Bool) → IfSome (if b then Some Absent else None) IsProperSetting
none_setting true = tt
none_setting false = tt

value_proper : (v : Option (List ℕ)) → IsValue v → IsProperSetting (value_setting v)
value_proper None own = tt
value_proper (Some w) own = own

state_proper : (c : Command) (v : Option (List ℕ)) → IsProperSetting (state_setting c v)
state_proper c v = by_test (option_map_or (is_one_of (activated_values c)) v false)
  where
    by_test : (b : Bool) → IsProperSetting (if b then On else Off)
    by_test true = tt
    by_test false = tt

setting_for : (c : Command) (v : Option (List ℕ)) → IsValue v → IfSome (override_for c v) IsProperSetting
setting_for command.Bold v own = state_proper command.Bold v
setting_for command.Italic v own = state_proper command.Italic v
setting_for command.Underline v own = state_proper command.Underline v
setting_for command.Strikethrough v own = state_proper command.Strikethrough v
setting_for command.Subscript v own = state_proper command.Subscript v
setting_for command.Superscript v own = state_proper command.Superscript v
setting_for command.CreateLink v own = value_proper v own
setting_for command.Unlink v own = none_setting (is_none v)
setting_for command.FontName v own = value_proper v own
setting_for command.FontSize v own = value_proper v own
setting_for command.ForeColor v own = value_proper v own
setting_for command.BackColor v own = value_proper v own
setting_for command.HiliteColor v own = value_proper v own
setting_for command.RemoveFormat v own = none_setting (is_none v)
setting_for command.FormatBlock v own = none_setting (is_none v)
setting_for command.JustifyLeft v own = none_setting (is_none v)
setting_for command.JustifyCenter v own = none_setting (is_none v)
setting_for command.JustifyRight v own = none_setting (is_none v)
setting_for command.JustifyFull v own = none_setting (is_none v)
setting_for command.Indent v own = none_setting (is_none v)
setting_for command.Outdent v own = none_setting (is_none v)
setting_for command.Delete v own = none_setting (is_none v)
setting_for command.InsertText v own = none_setting (is_none v)
setting_for command.InsertParagraph v own = none_setting (is_none v)
setting_for command.StyleWithCss v own = none_setting (is_none v)
setting_for command.UseCss v own = none_setting (is_none v)
setting_for command.DefaultParagraphSeparator v own = none_setting (is_none v)
setting_for command.InsertOrderedList v own = none_setting (is_none v)
setting_for command.InsertUnorderedList v own = none_setting (is_none v)
setting_for command.InsertLineBreak v own = none_setting (is_none v)
setting_for command.InsertHorizontalRule v own = none_setting (is_none v)
setting_for command.InsertImage v own = none_setting (is_none v)

proper_set_overrides : (c : Command) (v : Option (List ℕ)) → IsValue v → Proper (set_overrides c v)
unfolding set_overrides
proper_set_overrides c v own =
    proper_bind _ (λ _. unset_rival c) (proper_some IsProperSetting (override_for c v) done (set_setting c) (setting_for c v own) (proper_answer tt) (λ setting h. proper_act (Override c setting) h)) (λ _. proper_rival c)

-- ---- the whole

pub proper_clear_one : (c : Command) (e : ℕ) → Proper (clear_one c e)
unfolding clear_one
proper_clear_one c e = search (proper_parts, proper_clear_value)

proper_clear_elements : (c : Command) → Proper (clear_elements c)
unfolding clear_elements
proper_clear_elements c = search (proper_parts, proper_clear_one)

proper_force_phrase : (c : Command) (v : Option (List ℕ)) (n : ℕ) → IsValue v → Proper (force_phrase c v n)
unfolding force_phrase
proper_force_phrase c v n own = search (proper_parts, proper_force)

proper_give_node : (c : Command) (v : Option (List ℕ)) (n : ℕ) → IsValue v → Proper (give_node c v n)
unfolding give_node
proper_give_node c v n own = search (proper_parts, proper_push_down, proper_force_phrase)

proper_give_nodes : (c : Command) (v : Option (List ℕ)) → IsValue v → Proper (give_nodes c v)
unfolding give_nodes
proper_give_nodes c v own = search (proper_parts, proper_give_node)

proper_give_range : (c : Command) (v : Option (List ℕ)) → IsValue v → Proper (give_range c v)
unfolding give_range
proper_give_range c v own = search (proper_parts, proper_split_ends, proper_clear_elements, proper_give_nodes)

pub proper_set_value : (c : Command) (v : Option (List ℕ)) → IsValue v → Proper (set_value c v)
unfolding set_value
proper_set_value c v own = search (proper_parts, proper_set_overrides, proper_give_range)
