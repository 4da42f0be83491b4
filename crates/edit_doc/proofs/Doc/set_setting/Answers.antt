use Rattle.std.proofs.Common.{ap, ◌∙◌}
use Rattle.std.proofs.lemmas.List.{length-set}
use Rattle.edit_model.specs.Action.{Override, acted}
use Rattle.edit_model.specs.Overrides.{place_of, with_setting}
use Rattle.edit_doc.specs.Whole.{Whole, with_state}
use Rattle.edit_doc.proofs.Chosen.{other_ok, scratch_at_rest}
use Rattle.edit_doc.proofs.Doc.set_setting.Goals as goal

pub invariant_of-self : goal.invariant_of-self
unfolding with_setting
invariant_of-self c =
    let d = c.self.inside in
    let ok = c.self.invariant in
    rw c.set.ensures (other_ok d ok d.tree.points.selection d.tree.points.scratch d.tree.points.marks (with_setting d.tree.overrides c.args.command c.args.setting) d.tree.flags ok.valid.placed
    (length-set d.tree.overrides (place_of c.args.command) c.args.setting ∙ ok.valid.settings) (scratch_at_rest d ok))

pub returns : goal.returns
unfolding acted
returns c = rw c.set.ensures (ap (λ (w : Whole). with_state w (acted (Override c.args.command c.args.setting) w.state)) c.self.view_is)
