use Rattle.std.proofs.Common.{◌≤◌, ap, sym, ◌∙◌, arith}
use Rattle.std.specs.Prelude.{◌&&◌, nat_lt}
use Rattle.edit_session.proofs.DeniedNames.{shorter, fits_no_name, fits_again, fits_new, fits_full, fits_last}
use Rattle.edit_session.proofs.denials.are_names.Goals as goal

pub returns-then-not-is_name : goal.returns-then-not-is_name
returns-then-not-is_name c =
    sym (fits_no_name c.in-Some.name.now c.in-Some.more.now c.loop-name.rest.now c.in-Some.ensures c.loop-name.count (sym c.is_name.ensures ∙ c.if-not-is_name.true))
    ∙ c.loop-name.invariant.rest

pub returns-then-count-eq-GREATEST_DENIED : goal.returns-then-count-eq-GREATEST_DENIED
returns-then-count-eq-GREATEST_DENIED c =
    let full : 16 ≤ c.loop-name.count = omega (arith, c.if-count-eq-GREATEST_DENIED.true) in
    sym (fits_full c.in-Some.name.now c.in-Some.more.now c.loop-name.rest.now c.in-Some.ensures c.loop-name.count full (sym c.stands_in.ensures ∙ c.if-not-stands_in.true))
    ∙ c.loop-name.invariant.rest

pub loop-name-smaller-else-count-eq-GREATEST_DENIED : goal.loop-name-smaller-else-count-eq-GREATEST_DENIED
loop-name-smaller-else-count-eq-GREATEST_DENIED c = shorter c.in-Some.name.now c.in-Some.more.now c.loop-name.rest.now c.in-Some.ensures

pub loop-name-preserved-else-count-eq-GREATEST_DENIED : goal.loop-name-preserved-else-count-eq-GREATEST_DENIED
loop-name-preserved-else-count-eq-GREATEST_DENIED c = record {
  rest =
      fits_new c.in-Some.name.now c.in-Some.more.now c.loop-name.rest.now c.in-Some.ensures c.loop-name.count
      (sym c.is_name.ensures ∙ c.if-not-is_name.false) (sym c.stands_in.ensures ∙ c.if-not-stands_in.true)
      ∙ c.loop-name.invariant.rest;
  few = omega (arith, c.loop-name.invariant.few, c.if-count-eq-GREATEST_DENIED.false);
}

pub loop-name-smaller : goal.loop-name-smaller
loop-name-smaller c = shorter c.in-Some.name.now c.in-Some.more.now c.loop-name.rest.now c.in-Some.ensures

pub loop-name-preserved : goal.loop-name-preserved
loop-name-preserved c = record {
  rest =
      fits_again c.in-Some.name.now c.in-Some.more.now c.loop-name.rest.now c.in-Some.ensures c.loop-name.count
      (sym c.is_name.ensures ∙ c.if-not-is_name.false) (sym c.stands_in.ensures ∙ c.if-not-stands_in.false)
      ∙ c.loop-name.invariant.rest;
  few = c.loop-name.invariant.few;
}

pub returns-then-is_name : goal.returns-then-is_name
returns-then-is_name c =
    sym (ap (λ b. b && nat_lt c.loop-name.count 16) (sym c.is_name-2.ensures ∙ c.if-is_name.true))
    ∙ sym (fits_last c.loop-name.rest.now c.in_default.ensures c.loop-name.count) ∙ c.loop-name.invariant.rest

pub returns-else-is_name : goal.returns-else-is_name
returns-else-is_name c =
    c.if-is_name.false ∙ sym (ap (λ b. b && nat_lt c.loop-name.count 16) (sym c.is_name-2.ensures ∙ c.if-is_name.false))
    ∙ sym (fits_last c.loop-name.rest.now c.in_default.ensures c.loop-name.count) ∙ c.loop-name.invariant.rest
