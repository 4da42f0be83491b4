-- The questions that can be asked of a command (HTML Editing APIs, "queryCommandState()" and the
-- like): when the command itself is asked.
use Rattle.std.specs.Prelude.{ℕ, true, List, if◌then◌else◌}
use Rattle.std.specs.Option.{option_map_or}
use Rattle.edit_model.specs.HtmlNames.Commands.{command_named}
use Rattle.edit_model.specs.HtmlNames.declared.commands.Command.{Command}
use Rattle.edit_model.specs.HtmlNames.declared.query.QueryKind.{QueryKind}
use Rattle.edit_model.specs.HtmlNames.declared.query.QueryKind.TheVariants.{Enabled, Supported}
use Rattle.edit_model.specs.State.{State}
use Rattle.inline_value.specs.EditQuery.declared.reply.Reply.{Reply}
use Rattle.inline_value.specs.EditQuery.declared.reply.Reply.TheVariants as reply
use Rattle.inline_value.specs.EditQuery.Queries.{query_in}
use Rattle.inline_value.specs.EditQuery.Replies.{no_reply}
use Rattle.edit_engine.specs.Commands.{is_enabled}
use Rattle.inline_value.specs.EditActions.ActiveRange.{affected_host}

-- a command that isn't enabled isn't asked
unfoldable pub asked_if_enabled : State → QueryKind → Command → Reply
asked_if_enabled s kind c =
    if is_enabled s c then query_in s (affected_host s) kind c else no_reply kind

abbrev pub reply_for : State → QueryKind → Command → Reply
reply_for s Supported c = reply.Flag true
reply_for s Enabled c = reply.Flag (is_enabled s c)
reply_for s kind c = asked_if_enabled s kind c

unfoldable pub reply_of : State → QueryKind → List ℕ → Reply
reply_of s kind name = option_map_or (reply_for s kind) (command_named name) (no_reply kind)
