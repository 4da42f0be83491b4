-- What is answered to a question is the same without marks and cap.
use Rattle.std.proofs.Common.{◌≡◌, ℕ, List, Option, if◌then◌else◌, refl, sym, ap, ◌∙◌}
use Rattle.std.specs.Option.{option_map_or}
use Rattle.edit_model.specs.HtmlNames.Commands.{command_named}
use Rattle.edit_model.specs.HtmlNames.declared.commands.Command.{Command}
use Rattle.edit_model.specs.HtmlNames.declared.query.QueryKind.{QueryKind}
use Rattle.edit_model.specs.HtmlNames.declared.query.QueryKind.TheVariants as kind
use Rattle.edit_model.specs.State.{State}
use Rattle.inline_value.specs.EditActions.ActiveRange.{affected_host}
use Rattle.inline_value.specs.EditQuery.Formattable.{formattable_nodes, first_formattable, start_node}
use Rattle.inline_value.specs.EditQuery.Leaves.{leaves, first_leaf}
use Rattle.inline_value.specs.EditQuery.ListStates.{list_state}
use Rattle.inline_value.specs.EditQuery.Queries.{state_of, value_of, query_in}
use Rattle.inline_value.specs.EditQuery.Replies.{no_reply}
use Rattle.inline_value.specs.EditQuery.Rows.{is_on, first_value}
use Rattle.edit_engine.specs.Commands.{is_enabled}
use Rattle.edit_engine.specs.Queries.{asked_if_enabled, reply_for, reply_of}
use Rattle.independence_laws.specs.Unmarked.{unmarked}
use Rattle.independence_laws.specs.Editors.{QuestionsIgnoreMarks}

query_same : (s : State) (host : Option ℕ) (k : QueryKind) (c : Command) → query_in (unmarked s) host k c ≡ query_in s host k c
unfolding query_in state_of value_of is_on first_value formattable_nodes first_formattable start_node leaves first_leaf list_state
query_same s host kind.Enabled c = refl
query_same s host kind.Indeterm c = refl
query_same s host kind.State c = refl
query_same s host kind.Supported c = refl
query_same s host kind.Value c = refl

asked_same : (s : State) (k : QueryKind) (c : Command) → asked_if_enabled (unmarked s) k c ≡ asked_if_enabled s k c
unfolding asked_if_enabled is_enabled affected_host
asked_same s k c = ap (λ r. if is_enabled s c then r else no_reply k) (query_same s (affected_host s) k c)

reply_for_same : (s : State) (k : QueryKind) (c : Command) → reply_for (unmarked s) k c ≡ reply_for s k c
unfolding is_enabled affected_host
reply_for_same s kind.Enabled c = refl
reply_for_same s kind.Indeterm c = asked_same s kind.Indeterm c
reply_for_same s kind.State c = asked_same s kind.State c
reply_for_same s kind.Supported c = refl
reply_for_same s kind.Value c = asked_same s kind.Value c

reply_same : (s : State) (k : QueryKind) (name : List ℕ) → reply_of (unmarked s) k name ≡ reply_of s k name
unfolding reply_of
reply_same s k name = λ i. option_map_or (λ c. reply_for_same s k c i) (command_named name) (no_reply k)

pub questions_ignore : QuestionsIgnoreMarks
questions_ignore s t k name same = sym (reply_same s k name) ∙ (ap (λ u. reply_of u k name) same ∙ reply_same t k name)
