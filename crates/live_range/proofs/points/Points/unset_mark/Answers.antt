use Rattle.std.proofs.Common.{sym, ◌∙◌}
use Rattle.live_range.proofs.Entries.{found_below, found_has, absent_has, unset_found, unset_absent}
use Rattle.live_range.proofs.points.Points.unset_mark.Goals as goal

pub remove_mark-requires : goal.remove_mark-requires
remove_mark-requires c = found_below c.args.name.now c.args.self.now c.in-Some.place (sym c.place_of.ensures ∙ c.in-Some.is)

pub returns-in-Some-clause-answer : goal.returns-in-Some-clause-answer
returns-in-Some-clause-answer c = sym (found_has c.args.name.now c.args.self.now c.in-Some.place (sym c.place_of.ensures ∙ c.in-Some.is))

pub returns-in-Some-clause-unset : goal.returns-in-Some-clause-unset
returns-in-Some-clause-unset c = c.remove_mark.ensures ∙ unset_found c.args.name.now c.args.self.now c.in-Some.place (sym c.place_of.ensures ∙ c.in-Some.is)

pub returns-in-None-clause-answer : goal.returns-in-None-clause-answer
returns-in-None-clause-answer c = sym (absent_has c.args.name.now c.args.self.now (sym c.place_of.ensures ∙ c.in-None.is))

pub returns-in-None-clause-unset : goal.returns-in-None-clause-unset
returns-in-None-clause-unset c = unset_absent c.args.name.now c.args.self.now (absent_has c.args.name.now c.args.self.now (sym c.place_of.ensures ∙ c.in-None.is))
