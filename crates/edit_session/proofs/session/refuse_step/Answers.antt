use Rattle.edit_session.proofs.Runs.{follows_nothing, ended_answered, step_wanted}
use Rattle.edit_session.specs.Transcript.{replay_ended}
use Rattle.edit_session.proofs.session.refuse_step.Goals as goal

pub returns-in-Memory : goal.returns-in-Memory
returns-in-Memory g c = λ want is. follows_nothing (replay_ended want) _ _ (ended_answered want)

pub returns-in_default : goal.returns-in_default
returns-in_default g c = λ want is. rw (← (step_wanted c.args.refusal want c.args.refusal.fault c.in_default.not-Memory is)) c.tell_refusal.ensures
