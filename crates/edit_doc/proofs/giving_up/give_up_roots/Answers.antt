use Rattle.edit_doc.proofs.GivingUp.{gives_none, gives_one_more, gives_roots, listed_at, roots_loose}
use Rattle.edit_doc.proofs.giving_up.give_up_roots.Goals as goal

pub loop-i-init : goal.loop-i-init
loop-i-init c = gives_none c.args.arena.now

pub give_up_root-requires-clause-inner : goal.give_up_root-requires-clause-inner
give_up_root-requires-clause-inner c = c.requires.inner _ (listed_at c.args.roots.now c.loop-i.i record { slot = 0; label = 0 } c.loop-i-test.true)

pub give_up_root-requires-clause-loose : goal.give_up_root-requires-clause-loose
give_up_root-requires-clause-loose c =
    roots_loose c.args.arena.now c.loop-i.arena c.args.roots.now c.loop-i.i _ c.valid.ensures
    (c.requires.loose _ (listed_at c.args.roots.now c.loop-i.i record { slot = 0; label = 0 } c.loop-i-test.true)) c.loop-i.invariant

pub loop-i-preserved : goal.loop-i-preserved
loop-i-preserved c = gives_one_more c.args.arena.now c.loop-i.arena c.give_up_root.new.arena c.args.roots.now c.loop-i.i record { slot = 0; label = 0 } c.loop-i-test.true c.loop-i.invariant c.give_up_root.ensures

pub returns : goal.returns
returns c = gives_roots c.args.arena.now c.loop-i.arena c.args.roots.now c.loop-i.i c.loop-i-test.false c.loop-i.invariant
