-- Which nodes an editor holds.
use Rattle.std.proofs.Common.{◌≡◌, Option, subst}
use Rattle.inline_value.specs.EditDoc.Kept.{HoldsOnlyNeeded}
use Rattle.inline_value.specs.EditDoc.Whole.{Began, Whole, IsClosed}
use Rattle.edit_engine.specs.Editing.{EditorValue, value_of, document}
use Rattle.edit_engine.specs.declared.following.Following.{Following}
use Rattle.edit_engine.specs.declared.going.Going.{Going}

pub holds_only_needed : (d : Whole) (going : Going) (w : Following) (v : EditorValue) → value_of d going w ≡ v → IsClosed d → HoldsOnlyNeeded d → HoldsOnlyNeeded (document v)
holds_only_needed d going w v sees closed needed =
    subst (λ (e : EditorValue). HoldsOnlyNeeded (document e)) sees (subst (λ (o : Option Began). HoldsOnlyNeeded (record d { began = o })) closed needed)
