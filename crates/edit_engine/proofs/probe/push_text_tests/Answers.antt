use Rattle.edit_engine.specs.Probe.{text_words}
use Rattle.edit_engine.proofs.Appending.{appended_four}
use Rattle.edit_engine.proofs.probe.push_text_tests.Goals as goal

pub returns : goal.returns
unfolding text_words
returns c =
    rw (← c.is_block.ensures, ← c.is_visible.ensures, ← c.is_whitespace.ensures, ← c.is_collapsed_whitespace.ensures)
    record { ok = appended_four _ _ _ _ _ _ _ _ _ c.in_ok-push_test.ensures.ok c.in_ok-push_test-2.ensures.ok c.in_ok-push_test-3.ensures.ok c.in_ok-push_test-4.ensures.ok }
