use Rattle.std.proofs.Common.{sym, ◌∙◌}
use Rattle.edit_session.proofs.DeniedNames.{same_is, shorter, stands_first, stands_later, stands_last}
use Rattle.edit_session.proofs.denials.stands_in.Goals as goal

pub returns-then-eq_ignore_ascii_case : goal.returns-then-eq_ignore_ascii_case
returns-then-eq_ignore_ascii_case c =
    let t = c.eq_ignore_ascii_case.ensures.test in
    let same = same_is c.in-Some.first.now c.args.name.now c.eq_ignore_ascii_case.result t.0 t.1 ∙ c.if-eq_ignore_ascii_case.true in
    sym (stands_first c.in-Some.first.now c.in-Some.more.now c.loop-first.rest.now c.in-Some.ensures c.args.name.now same) ∙ c.loop-first.invariant

pub loop-first-smaller : goal.loop-first-smaller
loop-first-smaller c = shorter c.in-Some.first.now c.in-Some.more.now c.loop-first.rest.now c.in-Some.ensures

pub loop-first-preserved : goal.loop-first-preserved
loop-first-preserved c =
    let t = c.eq_ignore_ascii_case.ensures.test in
    let other = same_is c.in-Some.first.now c.args.name.now c.eq_ignore_ascii_case.result t.0 t.1 ∙ c.if-eq_ignore_ascii_case.false in
    stands_later c.in-Some.first.now c.in-Some.more.now c.loop-first.rest.now c.in-Some.ensures c.args.name.now other ∙ c.loop-first.invariant

pub returns : goal.returns
returns c =
    let t = c.eq_ignore_ascii_case-2.ensures.test in
    sym (same_is c.loop-first.rest.now c.args.name.now c.eq_ignore_ascii_case-2.result t.0 t.1)
    ∙ sym (stands_last c.loop-first.rest.now c.in_default.ensures c.args.name.now) ∙ c.loop-first.invariant
