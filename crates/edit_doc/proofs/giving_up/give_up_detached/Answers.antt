use Rattle.std.proofs.Common.{◌≡◌, true, sym, subst}
use Rattle.edit_model.specs.LiveRange.PointsEdit.{has_label}
use Rattle.edit_model.specs.Gives.{labels_of}
use Rattle.edit_doc.specs.GivingUp.{GivesUp, has_detached}
use Rattle.edit_doc.proofs.GivingUp.{gives_none}
use Rattle.edit_doc.proofs.giving_up.give_up_detached.Goals as goal

pub give_up_roots-requires-clause-inner : goal.give_up_roots-requires-clause-inner
give_up_roots-requires-clause-inner c = λ l e. c.requires.inner l (subst (λ o. has_detached o l ≡ true) (sym c.in-Some.is) (subst (λ ls. has_label (labels_of ls) l ≡ true) c.as_slice.ensures.value e))

pub give_up_roots-requires-clause-loose : goal.give_up_roots-requires-clause-loose
give_up_roots-requires-clause-loose c = λ l e. c.requires.loose l (subst (λ o. has_detached o l ≡ true) (sym c.in-Some.is) (subst (λ ls. has_label (labels_of ls) l ≡ true) c.as_slice.ensures.value e))

pub returns-in-Some : goal.returns-in-Some
returns-in-Some c =
    subst (λ o. GivesUp (has_detached o) c.args.arena.now c.give_up_roots.new.arena) (sym c.in-Some.is)
    (subst (λ ls. GivesUp (has_label (labels_of ls)) c.args.arena.now c.give_up_roots.new.arena) c.as_slice.ensures.value c.give_up_roots.ensures)

pub returns-in-None : goal.returns-in-None
returns-in-None c = subst (λ o. GivesUp (has_detached o) c.args.arena.now c.args.arena.now) (sym c.in-None.is) (gives_none c.args.arena.now)
