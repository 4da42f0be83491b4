use Rattle.std.proofs.Common.{map, string_bytes, ap, ◌∙◌}
use Rattle.hedit_c.proofs.Runs.{gave_up}
use Rattle.hedit_c.proofs.session.hedit_session_with_words.Goals as goal

pub returns-in-Ok-clause-replied : goal.returns-in-Ok-clause-replied
returns-in-Ok-clause-replied c =
    rw (ap (map string_bytes) c.deref.ensures.value ∙ c.in-Ok.ensures) at c.run_into.ensures

pub returns-in-Err-clause-replied : goal.returns-in-Err-clause-replied
returns-in-Err-clause-replied c =
    gave_up _ _ _ _ c.out_of_memory.ensures.number c.out_of_memory.ensures.count
