use Rattle.std.proofs.Common.{◌≡◌, [], length, unwrap_or, refl, sym, ap, ◌∙◌, arith, rules}
use Rattle.forest_changes.specs.DomModel.Contents.{chars_of, with_chars}
use Rattle.forest_changes.specs.DomModel.Revised.{revised}
use Rattle.forest_changes.specs.DomModel.Room.{spliced}
use Rattle.forest_changes.specs.Change.{applied}
use Rattle.edit_steps.specs.Step.{step_applied}
use Rattle.edit_steps.proofs.splice.Exchange.apply.Goals as goal
use Rattle.edit_steps.proofs.splice.Exchange.apply.Goals.{then-room, else-room}

pub returns-clause-arena : goal.returns-clause-arena
unfolding step_applied applied
returns-clause-arena c =
    let f = c.args.arena.now.trees in
    let n = c.args.node.label in
    elim c.if-room.branch [
      | then-room w ↦ (
          let count : w.len-then-room.result ≡ length c.args.self.now.taken.items = search rules in
          w.arena-is
          ∙ (w.splice_words.ensures
          ∙ (λ i. record c.args.arena.now { trees = revised f n (with_chars (spliced (unwrap_or (chars_of f n) []) c.args.at (count i) (w.as_slice.ensures.value i))) })))
      | else-room w ↦ w.arena-is ∙ w.rebuild.ensures.arena
    ]
