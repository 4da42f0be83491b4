use Rattle.edit_engine.specs.Probe.{style_words}
use Rattle.edit_engine.proofs.Appending.{appended_four}
use Rattle.edit_engine.proofs.probe.push_styles.Goals as goal

pub returns : goal.returns
unfolding style_words
returns c = record { ok = appended_four _ _ _ _ _ _ _ _ _ c.in_ok-extend_from_slice.ensures.items c.in_ok-push_style.ensures.ok c.in_ok-extend_from_slice-2.ensures.items c.in_ok-push_style-2.ensures.ok }
