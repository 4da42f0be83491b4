-- A run on a range that is selected first.
use Rattle.std.proofs.Common.{Bool, Result, Ok, Err, sym, ap, subst, ◌∙◌}
use Rattle.edit_model.specs.LiveRange.declared.places.Point.{Point}
use Rattle.edit_model.specs.declared.settings.EditFault.{EditFault}
use Rattle.edit_model.specs.Action.{Select, acted}
use Rattle.edit_model.specs.Gives.{Fails, Gives}
use Rattle.edit_model.specs.Run.{Run, ◌>>◌, final, value, select}
use Rattle.edit_model.specs.State.{State}
use Rattle.edit_model.proofs.Steps.{final-bind, value-bind, final-perform}

pub gives_selected : (r : Result Bool EditFault) (s t : State) (anchor focus : Point) (m : Run Bool) → Gives r (acted (Select anchor focus) s) t m → Gives r s t (select anchor focus >> m)
gives_selected (Ok v) s t anchor focus m gives =
    let first = final-perform (Select anchor focus) s in (
      final-bind (select anchor focus) (λ _. m) s ∙ (ap (final m) first ∙ gives.0),
      value-bind (select anchor focus) (λ _. m) s ∙ (ap (value m) first ∙ gives.1),
    )
gives_selected (Err fault) s t anchor focus m gives =
    let first = final-perform (Select anchor focus) s in
    subst (Fails fault) (sym (final-bind (select anchor focus) (λ _. m) s ∙ ap (final m) first)) gives
