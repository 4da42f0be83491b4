-- What resuming the last entry owes.
use Rattle.std.proofs.Common.{◌≡◌, ◌<◌, false, true, ◌∙◌, ap, subst, sym, refl, length, arith}
use Rattle.step_edits.specs.UndoLog.Log.{resumed}
use Rattle.edit_doc.specs.Fields.{SwapsLeft}
use Rattle.edit_doc.specs.Trail.{Trail, trail_of}
use Rattle.edit_doc.specs.Whole.{Whole, opened}
use Rattle.edit_doc.specs.Held.{IfHeld}
use Rattle.edit_model.specs.Gives.{label_of}
use Rattle.edit_doc.proofs.Inner.{closed_of}
use Rattle.edit_doc.proofs.Laid.{resume_answer}
use Rattle.edit_doc.proofs.Resumes.{some_span, resume_ok, resume_is}
use Rattle.edit_doc.proofs.Doc.resume.Goals as goal

pub swap_detached-requires : goal.swap_detached-requires
swap_detached-requires c =
    let closed = closed_of c.self.inside _ c.self.view_is c.requires.closed in
    subst (λ (t : Trail). 0 < length t.past) (sym c.if-not-resume.ensures.history) (some_span c.self.inside c.valid.ensures closed c.self.invariant (c.if-not-resume.ensures.answer.0 refl).0)

pub returns-then-not-resume-clause-answer : goal.returns-then-not-resume-clause-answer
returns-then-not-resume-clause-answer c = resume_answer c.self.inside _ c.self.view_is c.self.invariant false c.if-not-resume.ensures.answer

pub returns-clause-answer : goal.returns-clause-answer
returns-clause-answer c = resume_answer c.self.inside _ c.self.view_is c.self.invariant true c.if-not-resume.ensures.answer

all : (c : goal.After-self-3-1) → c.len-self-inside.result ≡ length c.swap_detached.new.command.detached.items
all c = let o = c.swap_detached.new.command.detached.ok in let e = c.len-self-inside.ensures in omega (arith, o, e)

trail : (c : goal.After-self-3-1) → c.swap_detached.new.self ≡ trail_of (resumed c.self.inside.history.log) c.swap_detached.new.self.past c.self.inside.history.future
trail c = c.swap_detached.ensures.rest ∙ ap (λ (t : Trail). record t { past = c.swap_detached.new.self.past }) c.if-not-resume.ensures.history

swaps : (c : goal.After-self-3-1) → SwapsLeft c.self.inside.history.past c.swap_detached.new.self.past c.self.inside.command c.swap_detached.new.command
swaps c = subst (λ (t : Trail). SwapsLeft t.past c.swap_detached.new.self.past c.self.inside.command c.swap_detached.new.command) c.if-not-resume.ensures.history c.swap_detached.ensures.swapped

pub invariant_of-self-2 : goal.invariant_of-self-2
invariant_of-self-2 c =
    let closed = closed_of c.self.inside _ c.self.view_is c.requires.closed in
    rw (trail c)
    (resume_ok c.self.inside c.valid.ensures closed c.self.invariant c.in_ok-kept.kept c.args.host c.args.keeping c.in_ok-kept.ensures c.swap_detached.new.self.past c.swap_detached.new.command (swaps c) c.len-self-inside.result (all c)
    (subst (λ (w : Whole). IfHeld w c.args.host) (sym c.self.view_is) c.requires.host_held))

pub returns-clause-begun : goal.returns-clause-begun
returns-clause-begun c =
    let closed = closed_of c.self.inside _ c.self.view_is c.requires.closed in
    rw (trail c)
    (resume_is c.self.inside c.valid.ensures closed c.self.invariant c.in_ok-kept.kept c.args.host c.args.keeping c.in_ok-kept.ensures c.swap_detached.new.self.past c.swap_detached.new.command (swaps c) c.len-self-inside.result (all c)
    ∙ ap (opened (label_of c.args.host) c.args.keeping true) c.self.view_is)
