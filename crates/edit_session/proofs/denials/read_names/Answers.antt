use Rattle.std.proofs.Common.{sym, ◌∙◌}
use Rattle.edit_session.proofs.DeniedNames.{shorter, listed_again, listed_new, listed_last}
use Rattle.edit_session.proofs.denials.read_names.Goals as goal

pub loop-name-smaller-in_ok-add : goal.loop-name-smaller-in_ok-add
loop-name-smaller-in_ok-add c = shorter c.in-Some.name.now c.in-Some.more.now c.loop-name.rest.now c.in-Some.ensures

pub loop-name-preserved-in_ok-add : goal.loop-name-preserved-in_ok-add
loop-name-preserved-in_ok-add c =
    listed_new c.in-Some.name.now c.in-Some.more.now c.loop-name.rest.now c.in-Some.ensures c.loop-name.list c.add.new.self _
    (sym c.stands_in.ensures ∙ c.if-not-stands_in.true) c.in_ok-add.ensures.ok c.loop-name.invariant

pub loop-name-smaller : goal.loop-name-smaller
loop-name-smaller c = shorter c.in-Some.name.now c.in-Some.more.now c.loop-name.rest.now c.in-Some.ensures

pub loop-name-preserved : goal.loop-name-preserved
loop-name-preserved c =
    listed_again c.in-Some.name.now c.in-Some.more.now c.loop-name.rest.now c.in-Some.ensures c.loop-name.list _
    (sym c.stands_in.ensures ∙ c.if-not-stands_in.false) c.loop-name.invariant

pub returns : goal.returns
returns c = listed_last c.loop-name.rest.now c.in_default.ensures c.loop-name.list c.add-2.new.self _ c.in_ok-add-2.ensures.ok c.loop-name.invariant
