-- Setting the flags keeps what an editing call keeps.
use Rattle.std.proofs.Common.{◌≡◌, sym, subst, refl}
use Rattle.edit_model.specs.Action.{Flag, acted}
use Rattle.edit_model.specs.declared.settings.Flags.{Flags}
use Rattle.inline_value.specs.EditDoc.Whole.{Whole, with_state}
use Rattle.inline_value.specs.EditDoc.Held.{Keeps}

pub flags_kept : (d new : Whole) (flags : Flags) → new ≡ with_state d (acted (Flag flags) d.state) → Keeps d new
unfolding acted
flags_kept d new flags is = subst (Keeps d) (sym is) (record {
  held = λ r h. record { slot = h.slot; here = h.here };
  history = refl;
  began = refl;
  start = refl;
  cap = refl;
})
