use Rattle.std.proofs.Common.{◌≡◌, ℕ, ◌+◌, ◌≤◌, List, [], ◌++◌, length, true, Some, unwrap_or, sym, ap, subst, ◌∙◌, arith, length-append}
use Rattle.edit_model.specs.DomModel.declared.Content.{Content}
use Rattle.edit_model.specs.DomModel.Contents.{chars_of, has_chars_at}
use Rattle.edit_model.specs.DomModel.Forest.{Forest}
use Rattle.edit_model.specs.DomModel.Room.{spliced}
use Rattle.edit_model.specs.NodeArena.declared.NodeRef.{NodeRef}
use Rattle.edit_model.specs.NodeArena.Held.{Holds}
use Rattle.step_edits.specs.ForestChanges.Change.{HasPart}
use Rattle.step_edits.proofs.ForestChanges.Splices.{part_chars}
use Rattle.edit_doc.specs.declared.logged.LoggedEdit.{LoggedEdit}
use Rattle.edit_doc.proofs.log_recorder.read_splice.Goals as goal

part_within : (f : Forest Content) (n at rest : ℕ) (taken put words : List ℕ) → HasPart f n at rest taken put → chars_of f n ≡ Some words → at + length taken ≤ length words
part_within f n at rest taken put words h e =
    let found : Some words ≡ Some (h.front ++ (taken ++ h.back)) = sym e ∙ h.chars in
    let same : words ≡ h.front ++ (taken ++ h.back) = cc in
    omega (arith, ap length same, length-append h.front (taken ++ h.back), length-append taken h.back, h.front_long)

pub words-requires-clause-held : goal.words-requires-clause-held
words-requires-clause-held c = subst (λ (r : NodeRef). Holds c.args.arena.now r) (sym c.node-node.ensures) c.requires.held.0

pub words-requires-clause-chars : goal.words-requires-clause-chars
words-requires-clause-chars c =
    let s = c.args.splice.now in
    let f = c.args.arena.now.trees in
    subst (λ (r : NodeRef). has_chars_at f r.label ≡ true) (sym c.node-node.ensures) (part_chars f s.node.label s.at s.rest s.taken s.put c.requires.fits.here)

pub spliced_words-requires : goal.spliced_words-requires
spliced_words-requires c =
    let s = c.args.splice.now in
    let f = c.args.arena.now.trees in
    let found : chars_of f s.node.label ≡ Some c.as_slice.result.now = ap (λ (r : NodeRef). chars_of f r.label) (sym c.node-node.ensures) ∙ (c.words.ensures ∙ ap Some (sym c.as_slice.ensures)) in
    part_within f s.node.label s.at s.rest s.taken s.put c.as_slice.result.now c.requires.fits.here found

pub returns : goal.returns
returns c =
    let s = c.args.splice.now in
    let f = c.args.arena.now.trees in
    let found : chars_of f s.node.label ≡ Some c.as_slice.result.now = ap (λ (r : NodeRef). chars_of f r.label) (sym c.node-node.ensures) ∙ (c.words.ensures ∙ ap Some (sym c.as_slice.ensures)) in
    let words = c.in_ok-words.ensures ∙ ap (λ o. spliced (unwrap_or o []) s.at (length s.taken) s.put) (sym found) in
    λ i. LoggedEdit.SetText (c.node-node.ensures i).label (words i)
