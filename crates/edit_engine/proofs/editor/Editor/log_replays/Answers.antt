use Rattle.std.proofs.Common.{subst}
use Rattle.edit_engine.specs.Editing.{EditorValue}
use Rattle.edit_engine.specs.Replaying.{LogReplays}
use Rattle.edit_engine.proofs.ReplayedEntries.{log_replays}
use Rattle.edit_engine.proofs.editor.Editor.log_replays.Goals as goal

pub returns : goal.returns
returns c =
    let led = c.led_onward.ensures in
    let inside = c.self.inside in
    subst (λ (e : EditorValue). LogReplays e.editing) c.self.view_is
    (log_replays (record { state = inside.doc.state; history = inside.doc.history; going = inside.going }) led.0 led.1 led.2)
