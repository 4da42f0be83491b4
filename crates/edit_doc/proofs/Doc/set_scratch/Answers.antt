use Rattle.std.proofs.Common.{false, Some, refl, sym, ap, subst, ◌∙◌}
use Rattle.std.specs.Prelude.{IsTrue}
use Rattle.std.proofs.lemmas.Bool.{and_parts}
use Rattle.step_edits.specs.UndoLog.Log.{is_open}
use Rattle.edit_model.specs.Action.{acted, scratched, with_scratch}
use Rattle.edit_model.specs.Confined.{may_select}
use Rattle.edit_model.specs.Valid.{IsPlacedPair}
use Rattle.edit_doc.specs.Whole.{Whole, with_state}
use Rattle.edit_doc.proofs.Inner.{open_of}
use Rattle.edit_doc.proofs.Chosen.{other_ok}
use Rattle.edit_doc.proofs.Doc.set_scratch.Goals as goal

pub invariant_of-self : goal.invariant_of-self
unfolding may_select
invariant_of-self c =
    let d = c.self.inside in
    let ok = c.self.invariant in
    let placed = ok.valid.placed in
    let both = and_parts (may_select c.args.self.now.state c.args.pair.anchor) (may_select c.args.self.now.state c.args.pair.focus) (sym c.may_keep.ensures ∙ c.if-may_keep.true) in
    let pair : IsPlacedPair c.args.self.now.state.trees c.args.pair = record { anchor = both.0; focus = both.1 } in
    rw c.set_scratch.ensures (other_ok d ok d.tree.points.selection (Some c.args.pair) d.tree.points.marks d.tree.overrides d.tree.flags
    (record { selection = placed.selection; scratch = subst (λ (w : Whole). IsPlacedPair w.state.trees c.args.pair) (sym c.self.view_is) pair; marks = placed.marks })
    ok.valid.settings
    (λ closed. absurd (let opened = open_of d _ c.self.view_is c.requires in let no : IsTrue false = subst (λ o. IsTrue (is_open o)) closed opened in cc)))

pub returns-then-may_keep : goal.returns-then-may_keep
unfolding acted scratched
returns-then-may_keep c =
    let t = sym c.may_keep.ensures ∙ c.if-may_keep.true in
    rw (c.set_scratch.ensures, t) (ap (λ (w : Whole). with_state w (with_scratch (Some c.args.pair) w.state)) c.self.view_is)

pub returns-else-may_keep : goal.returns-else-may_keep
unfolding acted scratched
returns-else-may_keep c =
    let t = sym c.may_keep.ensures ∙ c.if-may_keep.false in
    rw t refl
