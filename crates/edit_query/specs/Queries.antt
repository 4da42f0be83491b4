-- The questions that can be asked of a command (HTML Editing APIs, "queryCommandState()" and the
-- like), as a running command asks them: with its host, and whether the command asked for is
-- supported or enabled isn't looked at.
use Rattle.std.specs.Prelude.{ℕ, Bool, true, false, List, Option}
use Rattle.edit_model.specs.HtmlNames.declared.commands.Command.{Command}
use Rattle.edit_model.specs.HtmlNames.declared.commands.Command.TheVariants as command
use Rattle.edit_model.specs.HtmlNames.declared.query.QueryKind.{QueryKind}
use Rattle.edit_model.specs.HtmlNames.declared.query.QueryKind.TheVariants.{Enabled, Indeterm, State, Supported}
use Rattle.edit_model.specs.HtmlNames.declared.query.QueryKind.TheVariants as kind
use Rattle.edit_model.specs.declared.settings.Setting.{Setting}
use Rattle.edit_model.specs.declared.settings.Setting.TheVariants.{On, Off, Text, Absent}
use Rattle.edit_model.specs.Overrides.{setting_of}
use Rattle.edit_model.specs.State as model
use Rattle.edit_query.specs.declared.reply.Reply.{Reply}
use Rattle.edit_query.specs.declared.reply.Reply.TheVariants as reply
use Rattle.edit_query.specs.Replies.{no_reply}
use Rattle.edit_query.specs.Rows.{own_indeterm, own_state, own_value, legacy_text}

-- ---- a state override answers first, and a value override

abbrev pub overriding_state : Setting → Bool → Bool
overriding_state On b = true
overriding_state Off b = false
overriding_state (Text value) b = b
overriding_state Absent b = b

-- a size of a font is shown as its legacy size, any other value as it was set
abbrev pub shown_override : Command → List ℕ → List ℕ
shown_override command.FontSize value = legacy_text value
shown_override _ value = value

abbrev pub overriding_value : Command → Setting → List ℕ → List ℕ
overriding_value c On w = w
overriding_value c Off w = w
overriding_value c (Text value) w = shown_override c value
overriding_value c Absent w = w

unfoldable pub state_of : model.State → Option ℕ → Command → Bool
state_of s host c = overriding_state (setting_of s.overrides c) (own_state s host c)

unfoldable pub value_of : model.State → Option ℕ → Command → List ℕ
value_of s host c = overriding_value c (setting_of s.overrides c) (own_value s host c)

-- ---- the reply

unfoldable pub query_in : model.State → Option ℕ → QueryKind → Command → Reply
query_in s host Indeterm c = reply.Flag (own_indeterm s host c)
query_in s host State c = reply.Flag (state_of s host c)
query_in s host kind.Value c = reply.Wording (value_of s host c)
query_in s host Enabled c = no_reply Enabled
query_in s host Supported c = no_reply Supported
