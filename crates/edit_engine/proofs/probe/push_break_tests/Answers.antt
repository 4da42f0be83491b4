use Rattle.edit_engine.specs.Probe.{break_words}
use Rattle.edit_engine.proofs.Appending.{appended_three}
use Rattle.edit_engine.proofs.probe.push_break_tests.Goals as goal

pub returns : goal.returns
unfolding break_words
returns c =
    rw (← c.is_extraneous_break.ensures, ← c.is_collapsed_break.ensures, ← c.is_block_prop.ensures)
    record { ok = appended_three _ _ _ _ _ _ _ c.in_ok-push_test.ensures.ok c.in_ok-push_test-2.ensures.ok c.in_ok-push_test-3.ensures.ok }
