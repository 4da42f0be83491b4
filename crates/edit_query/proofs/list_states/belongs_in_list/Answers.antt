use Rattle.std.proofs.Common.{◌≡◌, ◌||◌, Bool, true, false, refl, sym, ap, ◌∙◌}
use Rattle.std.specs.Option.{option_map_or}
use Rattle.edit_model.specs.DomModel.Forest.{parent_of}
use Rattle.edit_query.specs.ListStates.{is_any_list}
use Rattle.edit_query.proofs.list_states.belongs_in_list.Goals as goal

pub returns-then-is_paragraph : goal.returns-then-is_paragraph
returns-then-is_paragraph c =
    let f = c.args.doc.now.state.trees in
    let l = c.args.node.label in
    let above = option_map_or (is_any_list f) (parent_of f l) false in
    sym (ap (λ b. is_any_list f l || (above || b)) (c.is_paragraph.ensures c.if-is_paragraph.true) ∙ holds (is_any_list f l) above)
  where
    holds : (a b : Bool) → (a || (b || true)) ≡ true
    holds true b = refl
    holds false true = refl
    holds false false = refl
