use Rattle.delete_core.proofs.InLine.{follows_inner}
use Rattle.delete_core.proofs.stepping.into_child_before.Goals as goal

pub returns-clause-knows : goal.returns-clause-knows
returns-clause-knows c =
    let kept = c.stays_in_line.ensures in
    rw c.end_in.ensures (λ h. follows_inner c.args.doc.now.state c.args.stand.at c.in_ok-child.child.label (c.requires (kept.known h)) c.in_ok-child.ensures.is (kept.hidden h) (kept.empty h))
