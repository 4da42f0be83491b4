use Rattle.std.proofs.Common.{sym, ap, ◌∙◌}
use Rattle.std.specs.Prelude.{bytes_eq}
use Rattle.std.specs.List.{list_any}
use Rattle.edit_model.proofs.LiveRange.Lists.{list_any-map}
use Rattle.inline_value.proofs.selections.is_activated_at.Goals as goal

pub returns : goal.returns
returns c =
    c.is_in.ensures
    ∙ (sym (list_any-map (λ row. row.now) (λ row. bytes_eq row c.args.value.now) c.activated_values.result.now)
    ∙ ap (list_any (λ row. bytes_eq row c.args.value.now)) c.activated_values.ensures)
