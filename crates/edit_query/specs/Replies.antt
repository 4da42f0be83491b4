-- The reply about a command that isn't supported or isn't enabled.
use Rattle.std.specs.Prelude.{false, []}
use Rattle.edit_model.specs.HtmlNames.declared.query.QueryKind.{QueryKind}
use Rattle.edit_model.specs.HtmlNames.declared.query.QueryKind.TheVariants as kind
use Rattle.edit_query.specs.declared.reply.Reply.{Reply}
use Rattle.edit_query.specs.declared.reply.Reply.TheVariants as reply

abbrev pub no_reply : QueryKind → Reply
no_reply kind.Value = reply.Wording []
no_reply _ = reply.Flag false
