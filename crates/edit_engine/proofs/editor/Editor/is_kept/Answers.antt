use Rattle.std.proofs.Common.{sym, ap, ◌∙◌}
use Rattle.edit_engine.specs.Editing.{EditorValue}
use Rattle.edit_engine.proofs.GoneLabels.{found_is_kept, kept_is_found, absent_is_gone}
use Rattle.edit_engine.proofs.editor.Editor.is_kept.Goals as goal

pub returns-clause-kept : goal.returns-clause-kept
returns-clause-kept c =
    let v = c.args.self.now in
    let a = c.arena-nodes.result.now in
    let same = c.arena-nodes.ensures.held ∙ ap (λ (x : EditorValue). x.held) c.self.view_is in (
      λ found. found_is_kept v a c.args.label c.find.result same c.slotted.ensures c.find.ensures.absent c.kept_nodes.ensures (sym c.is_some.ensures ∙ found),
      λ kept. c.is_some.ensures ∙ kept_is_found v a c.args.label c.find.result same c.slotted.ensures c.find.ensures.absent kept,
    )

pub returns-clause-gone : goal.returns-clause-gone
returns-clause-gone c off =
    let same = c.arena-nodes.ensures.held ∙ ap (λ (x : EditorValue). x.held) c.self.view_is in
    absent_is_gone c.args.self.now c.arena-nodes.result.now c.args.label c.find.result same c.slotted.ensures c.find.ensures.absent c.kept_nodes.ensures (sym c.is_some.ensures ∙ off)
