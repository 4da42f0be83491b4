use Rattle.std.proofs.Common.{refl, sym, ◌∙◌}
use Rattle.std.proofs.lemmas.Bool.{and_parts}
use Rattle.edit_model.specs.Action.{acted, selected}
use Rattle.edit_model.specs.Confined.{may_select}
use Rattle.edit_doc.proofs.Doc.select.Goals as goal

pub put_selection-requires : goal.put_selection-requires
unfolding may_select
put_selection-requires c =
    let both = and_parts (may_select c.args.self.now.state c.args.anchor) (may_select c.args.self.now.state c.args.focus) (sym c.may_keep.ensures ∙ c.if-may_keep.true) in
    record { anchor = both.0; focus = both.1 }

pub returns-then-may_keep : goal.returns-then-may_keep
unfolding acted selected
returns-then-may_keep c = let t = sym c.may_keep.ensures ∙ c.if-may_keep.true in rw t c.put_selection.ensures

pub returns-else-may_keep : goal.returns-else-may_keep
unfolding acted selected
returns-else-may_keep c = let t = sym c.may_keep.ensures ∙ c.if-may_keep.false in rw t refl
