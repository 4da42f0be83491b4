use Rattle.std.proofs.Common.{◌≡◌, Result, Ok, Err, OnOk, sym, ◌∙◌, true≢false}
use Rattle.live_range.specs.declared.points.MarkFault.{MarkFault}
use Rattle.live_range.specs.declared.points.MarkFault.TheVariants.{TooManyMarks}
use Rattle.live_range.specs.LivePoints.{LivePoints}
use Rattle.live_range.proofs.Entries.{found_below, found_has, absent_has, set_found, set_absent}
use Rattle.live_range.proofs.points.Points.set_mark.Goals as goal

fine_is_no_fault : ◌≡◌ {A = Result (Unit {0}) MarkFault} (Ok tt) (Err TooManyMarks) → ⊥
fine_is_no_fault h = cc

added : (r : Result (Unit {0}) MarkFault) (a b d : LivePoints) → OnOk r (a ≡ b) → b ≡ d → OnOk r (a ≡ d)
added (Ok x) a b d h e = h ∙ e
added (Err f) a b d h e = tt

pub change_mark-requires : goal.change_mark-requires
change_mark-requires c = found_below c.args.name.now c.args.self.now c.in-Some.place (sym c.place_of.ensures ∙ c.in-Some.is)

pub add_mark-requires : goal.add_mark-requires
add_mark-requires c = absent_has c.args.name.now c.args.self.now (sym c.place_of.ensures ∙ c.in-None.is)

pub returns-in-Some-clause-set : goal.returns-in-Some-clause-set
returns-in-Some-clause-set c =
    c.change_mark.ensures ∙ set_found c.args.name.now c.args.pair c.args.self.now c.in-Some.place c.valid.ensures (sym c.place_of.ensures ∙ c.in-Some.is)

pub returns-in-Some-clause-too_many : goal.returns-in-Some-clause-too_many
returns-in-Some-clause-too_many c = (
  λ h. absurd (fine_is_no_fault h),
  λ h. absurd (true≢false (sym (found_has c.args.name.now c.args.self.now c.in-Some.place (sym c.place_of.ensures ∙ c.in-Some.is)) ∙ h.1)),
)

pub returns-in-None-clause-set : goal.returns-in-None-clause-set
returns-in-None-clause-set c =
    added c.add_mark.result _ _ _ c.add_mark.ensures.added (set_absent c.args.name.now c.args.pair c.args.self.now (absent_has c.args.name.now c.args.self.now (sym c.place_of.ensures ∙ c.in-None.is)))

pub returns-in-None-clause-too_many : goal.returns-in-None-clause-too_many
returns-in-None-clause-too_many c = (
  λ h. (c.add_mark.ensures.too_many.0 h, absent_has c.args.name.now c.args.self.now (sym c.place_of.ensures ∙ c.in-None.is)),
  λ h. c.add_mark.ensures.too_many.1 h.0,
)
