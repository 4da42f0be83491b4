-- A new entry goes before the others.
use Rattle.std.proofs.Common.{refl}
use Rattle.edit_doc.proofs.history.keep_entry.Goals as goal

pub returns-else-command-clause-entered : goal.returns-else-command-clause-entered
returns-else-command-clause-entered c =
    rw (c.push_front.ensures.items, c.if-command.false) (
      record { span = c.snapshot-snapshot.result.span; detached = c.swap-else-command.new.x },
      c.snapshot-snapshot.ensures.span,
      (λ i. (c.swap-else-command.ensures.x_after i).items),
      refl,
      c.push_front.ensures.value,
    )
