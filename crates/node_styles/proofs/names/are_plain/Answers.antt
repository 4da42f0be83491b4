use Rattle.std.proofs.Common.{sym, ◌∙◌, ap, arith}
use Rattle.node_arena.specs.DomModel.declared.attributes.Attribute.{Attribute}
use Rattle.node_styles.specs.NameClasses.{is_plain_attribute}
use Rattle.node_styles.proofs.Elements.{all_fails, all_past, has_element}
use Rattle.node_styles.proofs.names.are_plain.Goals as goal
use Rattle.node_styles.proofs.names.are_plain.Goals.{in-Some+else-not-is_plain_attribute, in_default}

pub returns-then-not-is_plain_attribute : goal.returns-then-not-is_plain_attribute
returns-then-not-is_plain_attribute c =
    let a : Attribute = record { name = c.in-Some.name.now; value = c.in-Some.value.now } in
    sym (all_fails is_plain_attribute c.args.attributes.now c.loop-place.place a (sym c.in-Some.ensures) (ap (λ v. is_plain_attribute (record { name = c.in-Some.name.now; value = v })) (sym c.as_slice.ensures) ∙ (sym c.is_plain_attribute.ensures ∙ c.if-not-is_plain_attribute.true)))

pub loop-place-preserved : goal.loop-place-preserved
loop-place-preserved c =
    elim c.match-at.branch [
      | in-Some+else-not-is_plain_attribute w ↦ (
          let a : Attribute = record { name = w.in-Some.name.now; value = w.in-Some.value.now } in
          all_past is_plain_attribute c.args.attributes.now c.loop-place.place a (sym w.in-Some.ensures) (ap (λ v. is_plain_attribute (record { name = w.in-Some.name.now; value = v })) (sym w.as_slice.ensures) ∙ (sym w.is_plain_attribute.ensures ∙ w.if-not-is_plain_attribute.false)) c.loop-place.invariant)
      | in_default w ↦ absurd (has_element c.args.attributes.now c.loop-place.place (omega (arith, c.loop-place-test.true, c.len-place-end.ensures)) (sym w.in_default.ensures))
    ]
