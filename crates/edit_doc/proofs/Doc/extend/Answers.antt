use Rattle.std.proofs.Common.{◌≡◌, Bool, true, false, if◌then◌else◌, Some, None, IfSome, sym, ap, subst, ◌∙◌}
use Rattle.edit_model.specs.LiveRange.declared.places.Pair.{Pair}
use Rattle.edit_model.specs.LiveRange.declared.places.Point.{Point}
use Rattle.edit_model.specs.Action.{Extend, acted, extended, extended_from, with_selection}
use Rattle.edit_model.specs.Confined.{may_select}
use Rattle.edit_model.specs.Valid.{IsPlacedPair}
use Rattle.edit_model.specs.State.{State}
use Rattle.edit_doc.specs.declared.Doc.TheInside.{Inside}
use Rattle.edit_doc.specs.Whole.{Whole, with_state}
use Rattle.edit_doc.proofs.Inner.{seen, Ok}
use Rattle.edit_doc.proofs.Doc.extend.Goals as goal

chosen : (d : Inside) (v : Whole) (pair : Pair) → Ok d → seen d ≡ v → d.tree.points.selection ≡ Some pair → IsPlacedPair v.state.trees pair
chosen d v pair ok is e =
    subst (λ (w : Whole). IsPlacedPair w.state.trees pair) is (subst (λ o. IfSome o (IsPlacedPair (seen d).state.trees)) e ok.valid.placed.selection)

pub put_selection-requires : goal.put_selection-requires
unfolding may_select
put_selection-requires c =
    let placed = chosen c.self.inside c.args.self.now c.in-Some.pair c.self.invariant c.self.view_is (sym c.selection-selection.ensures ∙ c.in-Some.is) in
    record { anchor = placed.anchor; focus = sym c.may_select.ensures ∙ c.if-may_select.true }

-- where a pair is selected, extending takes its focus there
with_pair : (s : State) (to : Point) (pair : Pair) (b : Bool) → s.points.selection ≡ Some pair → may_select s to ≡ b →
    acted (Extend to) s ≡ (if b then with_selection (Some (record { anchor = pair.anchor; focus = to })) s else s)
unfolding acted extended
with_pair s to pair b e t = ap (λ o. extended_from o to s) e ∙ ap (λ x. if x then with_selection (Some (record { anchor = pair.anchor; focus = to })) s else s) t

without_pair : (s : State) (to : Point) → s.points.selection ≡ None → acted (Extend to) s ≡ s
unfolding acted extended
without_pair s to e = ap (λ o. extended_from o to s) e

pub returns-then-may_select : goal.returns-then-may_select
returns-then-may_select c =
    let old = c.args.self.now in
    let there = ap (λ (w : Whole). w.state.points.selection) (sym c.self.view_is) ∙ (sym c.selection-selection.ensures ∙ c.in-Some.is) in
    c.put_selection.ensures ∙ ap (with_state old) (sym (with_pair old.state c.args.to c.in-Some.pair true there (sym c.may_select.ensures ∙ c.if-may_select.true)))

pub returns-else-may_select : goal.returns-else-may_select
returns-else-may_select c =
    let old = c.args.self.now in
    let there = ap (λ (w : Whole). w.state.points.selection) (sym c.self.view_is) ∙ (sym c.selection-selection.ensures ∙ c.in-Some.is) in
    ap (with_state old) (sym (with_pair old.state c.args.to c.in-Some.pair false there (sym c.may_select.ensures ∙ c.if-may_select.false)))

pub returns-in_default : goal.returns-in_default
returns-in_default c =
    let old = c.args.self.now in
    let there = ap (λ (w : Whole). w.state.points.selection) (sym c.self.view_is) ∙ (sym c.selection-selection.ensures ∙ c.in_default.is) in
    ap (with_state old) (sym (without_pair old.state c.args.to there))
