use Rattle.std.proofs.Common.{sym, ◌∙◌, arith, bytes_eq}
use Rattle.std.specs.List.{list_any}
use Rattle.node_styles.specs.DomModel.declared.attributes.Attribute.{Attribute}
use Rattle.node_styles.proofs.Elements.{all_fails, all_past, has_element}
use Rattle.command_value.proofs.modifiable.has_only.Goals as goal
use Rattle.command_value.proofs.modifiable.has_only.Goals.{in-Some+else-not-is_one_of, in_default}

pub returns-then-not-is_one_of : goal.returns-then-not-is_one_of
returns-then-not-is_one_of c =
    let a : Attribute = record { name = c.in-Some.name.now; value = c.in-Some.value.now } in
    sym (all_fails (λ (b : Attribute). list_any (λ row. bytes_eq row.now b.name) c.args.names.now) c.args.attributes.now c.loop-place.place a (sym c.in-Some.ensures) (sym c.is_one_of.ensures ∙ c.if-not-is_one_of.true))

pub loop-place-preserved : goal.loop-place-preserved
loop-place-preserved c =
    elim c.match-at.branch [
      | in-Some+else-not-is_one_of w ↦ (
          let a : Attribute = record { name = w.in-Some.name.now; value = w.in-Some.value.now } in
          all_past (λ (b : Attribute). list_any (λ row. bytes_eq row.now b.name) c.args.names.now) c.args.attributes.now c.loop-place.place a (sym w.in-Some.ensures) (sym w.is_one_of.ensures ∙ w.if-not-is_one_of.false) c.loop-place.invariant)
      | in_default w ↦ absurd (has_element c.args.attributes.now c.loop-place.place (omega (arith, c.loop-place-test.true, c.len-place-end.ensures)) (sym w.in_default.ensures))
    ]
