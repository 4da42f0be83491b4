use Rattle.std.proofs.Common.{◌+◌, ◌≤◌, sym, ◌∙◌, subst, arith}
use Rattle.edit_doc.specs.GivingUp.{GivesUp, is_unnamed}
use Rattle.edit_doc.proofs.GivingUp.{up_to, gives_first, gives_past, gives_next, gives_all, still_loose, lower_named, named_out, unnamed_in}
use Rattle.edit_doc.proofs.giving_up.give_up_unnamed.Goals as goal
use Rattle.edit_doc.proofs.giving_up.give_up_unnamed.Goals.{then-not-has_named, else-not-has_named}

pub loop-label-init : goal.loop-label-init
loop-label-init c = gives_first (is_unnamed c.args.low c.args.command.now) c.args.arena.now c.args.low (lower_named c.args.low c.args.command.now)

pub give_up_root-requires-clause-loose : goal.give_up_root-requires-clause-loose
give_up_root-requires-clause-loose c =
    let u = is_unnamed c.args.low c.args.command.now in
    let unnamed = unnamed_in c.args.low c.args.command.now c.loop-label.label c.loop-label.auto.label (sym c.has_named.ensures ∙ c.if-not-has_named.true) in
    still_loose u c.args.arena.now c.loop-label.arena c.loop-label.label c.loop-label.label c.valid.ensures (c.requires.loose c.loop-label.label unnamed) c.loop-label.invariant

pub loop-label-preserved : goal.loop-label-preserved
loop-label-preserved c =
    let u = is_unnamed c.args.low c.args.command.now in
    let n = c.loop-label.label in
    elim c.if-not-has_named.branch [
      | then-not-has_named w ↦ (
          let unnamed = unnamed_in c.args.low c.args.command.now n c.loop-label.auto.label (sym c.has_named.ensures ∙ w.if-not-has_named.true) in
          subst (GivesUp (up_to u (n + 1)) c.args.arena.now) (sym w.arena-is) (gives_next u c.args.arena.now c.loop-label.arena w.give_up_root.new.arena n unnamed c.loop-label.invariant w.give_up_root.ensures))
      | else-not-has_named w ↦ (
          let named = named_out c.args.low c.args.command.now n (sym c.has_named.ensures ∙ w.if-not-has_named.false) in
          subst (GivesUp (up_to u (n + 1)) c.args.arena.now) (sym w.arena-is) (gives_past u c.args.arena.now c.loop-label.arena n named c.loop-label.invariant))
    ]

pub returns : goal.returns
returns c =
    let all : c.args.arena.now.next ≤ c.loop-label.label = (let e = c.next_label-label-end.ensures in omega (arith, e, c.loop-label-test.false)) in
    gives_all (is_unnamed c.args.low c.args.command.now) c.args.arena.now c.loop-label.arena c.loop-label.label c.valid.ensures all c.loop-label.invariant
