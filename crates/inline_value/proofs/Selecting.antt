-- What an editing call keeps is kept where a step selects, keeps a pair of points, or sets an override.
use Rattle.std.proofs.Common.{◌≡◌, ◌<◌, ◌&&◌, Option, Some, None, refl, sym, subst}
use Rattle.edit_model.specs.DomModel.Forest.{count_of}
use Rattle.edit_model.specs.HtmlNames.declared.commands.Command.{Command}
use Rattle.edit_model.specs.LiveRange.declared.places.Pair.{Pair}
use Rattle.edit_model.specs.LiveRange.declared.places.Point.{Point}
use Rattle.edit_model.specs.declared.settings.Setting.{Setting}
use Rattle.edit_model.specs.Action.{Select, Extend, Scratch, Override, selected, extended_from, extended, scratched, acted}
use Rattle.edit_model.specs.Confined.{may_select}
use Rattle.edit_model.specs.Edit.{changed}
use Rattle.edit_model.specs.State.{State}
use Rattle.edit_model.proofs.Steps.{either_way}
use Rattle.wrap_split.specs.EditDoc.Whole.{Whole, with_state}
use Rattle.wrap_split.specs.EditDoc.Held.{Keeps}
use Rattle.wrap_split.proofs.EditDoc.Chosen.{Stays}

keeps_by : (d new : Whole) (s : State) → Stays d.state s → new ≡ with_state d s → Keeps d new
keeps_by d new s stays is = subst (Keeps d) (sym is) (record {
  held = λ r h. record { slot = h.slot; here = subst (λ t. 0 < count_of t r.label) (sym stays.trees) h.here };
  history = refl;
  began = refl;
  start = stays.start;
  cap = stays.cap;
})

stays-selected : (anchor focus : Point) (s : State) → Stays s (acted (Select anchor focus) s)
unfolding acted selected changed
stays-selected anchor focus s =
    either_way (Stays s) (may_select s anchor && may_select s focus) (record { trees = refl; start = refl; cap = refl }) (record { trees = refl; start = refl; cap = refl })

pub keeps_selected : (d new : Whole) (anchor focus : Point) → new ≡ with_state d (acted (Select anchor focus) d.state) → Keeps d new
keeps_selected d new anchor focus is = keeps_by d new (acted (Select anchor focus) d.state) (stays-selected anchor focus d.state) is

stays-from : (o : Option Pair) (focus : Point) (s : State) → Stays s (extended_from o focus s)
unfolding changed
stays-from None focus s = record { trees = refl; start = refl; cap = refl }
stays-from (Some pair) focus s =
    either_way (Stays s) (may_select s focus) (record { trees = refl; start = refl; cap = refl }) (record { trees = refl; start = refl; cap = refl })

stays-extended : (focus : Point) (s : State) → Stays s (acted (Extend focus) s)
unfolding acted extended
stays-extended focus s = stays-from s.points.selection focus s

pub keeps_extended : (d new : Whole) (focus : Point) → new ≡ with_state d (acted (Extend focus) d.state) → Keeps d new
keeps_extended d new focus is = keeps_by d new (acted (Extend focus) d.state) (stays-extended focus d.state) is

stays-scratched : (pair : Pair) (s : State) → Stays s (acted (Scratch pair) s)
unfolding acted scratched
stays-scratched pair s =
    either_way (Stays s) (may_select s pair.anchor && may_select s pair.focus) (record { trees = refl; start = refl; cap = refl }) (record { trees = refl; start = refl; cap = refl })

pub keeps_scratched : (d new : Whole) (pair : Pair) → new ≡ with_state d (acted (Scratch pair) d.state) → Keeps d new
keeps_scratched d new pair is = keeps_by d new (acted (Scratch pair) d.state) (stays-scratched pair d.state) is

pub keeps_set : (d new : Whole) (command : Command) (setting : Setting) → new ≡ with_state d (acted (Override command setting) d.state) → Keeps d new
unfolding acted
keeps_set d new command setting is = keeps_by d new (acted (Override command setting) d.state) (record { trees = refl; start = refl; cap = refl }) is
