use Rattle.std.proofs.Common.{sym, subst}
use Rattle.edit_engine.specs.Changes.{CanFollow}
use Rattle.edit_engine.specs.Editing.{EditorValue, IsResting, value_of}
use Rattle.edit_engine.specs.Going.{going_turned}
use Rattle.edit_engine.specs.declared.following.Following.{Following}
use Rattle.edit_engine.specs.declared.going.Going.{Going}
use Rattle.edit_engine.proofs.Followed.{undo_followed}
use Rattle.edit_engine.proofs.HistoryKinds.{labels_after_undo}
use Rattle.edit_engine.proofs.GoingOn.{rests_undone}
use Rattle.edit_engine.proofs.editor.Editor.undo.Goals as goal

pub invariant_of-self : goal.invariant_of-self
invariant_of-self g c =
    let going = c.self.inside.going in
    let following = c.self.inside.following in
    let taken = c.undo-taken.result in
    subst (λ (n : Going). IsResting c.undo-taken.new.self n c.undo-self-inside.result) (sym c.going_turned-self-inside.ensures)
    (subst (λ (x : Following). IsResting c.undo-taken.new.self (going_turned taken going) x) (sym c.undo-self-inside.ensures)
    (rests_undone c.self.inside.doc c.undo-taken.new.self going taken following c.undo-taken.ensures.answer c.undo-taken.ensures.doc c.self.invariant))

pub returns-clause-labels : goal.returns-clause-labels
returns-clause-labels g c =
    let going = c.self.inside.going in
    labels_after_undo c.self.inside.doc c.undo-taken.new.self going c.going_turned-self-inside.result c.self.inside.following c.args.self.now c.self.view_is c.undo-taken.ensures.doc c.labels_last.ensures

pub returns-clause-followed : goal.returns-clause-followed
returns-clause-followed g c =
    let w = c.self.inside.doc in
    let new = c.undo-taken.new.self in
    let going = c.self.inside.going in
    let following = c.self.inside.following in
    let taken = c.undo-taken.result in
    let after = c.going_turned-self-inside.result in
    subst (λ (v : EditorValue). CanFollow v (value_of new after c.undo-self-inside.result)) c.self.view_is
    (subst (λ (x : Following). CanFollow (value_of w going following) (value_of new after x)) (sym c.undo-self-inside.ensures)
    (undo_followed w new going after following c.kept_nodes.ensures taken c.undo-taken.ensures.answer c.undo-taken.ensures.doc c.changes_lead.ensures.undone))
