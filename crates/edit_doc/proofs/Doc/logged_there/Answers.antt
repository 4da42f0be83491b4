use Rattle.std.proofs.Common.{◌≡◌, drop, reverse, take, sym, ap, subst, ◌∙◌}
use Rattle.edit_model.specs.LiveRange.Names.{shown}
use Rattle.edit_model.specs.Valid.{IsPlaced}
use Rattle.edit_doc.specs.Logged.{HasMoved}
use Rattle.edit_doc.specs.Whole.{Whole}
use Rattle.edit_doc.proofs.LoggedDocs.{returned, all_back}
use Rattle.edit_doc.proofs.Doc.logged_there.Goals as goal

pub put_back-requires-clause-placed : goal.put_back-requires-clause-placed
put_back-requires-clause-placed g c =
    let old = c.args.self.now in
    let mid = c.undo_entries.new.self in
    let new = c.redo_and_read-entries.new.self in
    let r = returned old mid new c.requires.more c.undo_entries.ensures
    (subst (λ n. HasMoved mid new (reverse (take n mid.history.redo)) (drop n mid.history.redo)) c.undo_len-count.ensures c.redo_and_read-entries.ensures.moved)
    c.kept_nodes.ensures c.kept_nodes-2.ensures in
    let points : shown new.state.points.names c.in_ok-kept.kept.places ≡ old.state.points =
    ap (λ ns. shown ns c.in_ok-kept.kept.places) (ap (λ (w : Whole). w.state.points.names) r.moved.rest ∙ sym (ap (λ (w : Whole). w.state.points.names) c.self.view_is))
    ∙ (c.in_ok-kept.ensures.shown ∙ ap (λ (w : Whole). w.state.points) c.self.view_is) in
    subst (λ t. IsPlaced t (shown new.state.points.names c.in_ok-kept.kept.places)) (sym r.trees) (subst (λ p. IsPlaced old.state.trees p) (sym points) c.valid.ensures.valid.placed)

pub returns-clause-stays : goal.returns-clause-stays
returns-clause-stays g c =
    let old = c.args.self.now in
    let mid = c.undo_entries.new.self in
    let new = c.redo_and_read-entries.new.self in
    let r = returned old mid new c.requires.more c.undo_entries.ensures
    (subst (λ n. HasMoved mid new (reverse (take n mid.history.redo)) (drop n mid.history.redo)) c.undo_len-count.ensures c.redo_and_read-entries.ensures.moved)
    c.kept_nodes.ensures c.kept_nodes-2.ensures in
    let kept = c.in_ok-kept.ensures in
    let points : shown new.state.points.names c.in_ok-kept.kept.places ≡ old.state.points =
    ap (λ ns. shown ns c.in_ok-kept.kept.places) (ap (λ (w : Whole). w.state.points.names) r.moved.rest ∙ sym (ap (λ (w : Whole). w.state.points.names) c.self.view_is))
    ∙ (kept.shown ∙ ap (λ (w : Whole). w.state.points) c.self.view_is) in
    c.put_back.ensures
    ∙ all_back old new _ _ _ r.moved r.trees points (kept.overrides_are ∙ ap (λ (w : Whole). w.state.overrides) c.self.view_is) (kept.flags_are ∙ ap (λ (w : Whole). w.state.flags) c.self.view_is)
