-- What a handle owns: the box of its value behind its pointer, and nothing where that is null.
use mir.Syntax.{Ty}
use base.Fml.{Fml, ftrue, ffalse}
use denote.RattleType.{RattleType}
use denote.RawPtr.{Ptr, null_ptr, block_ptr}
use Rattle.std.specs.declared.option.Option.{Option}
use Rattle.std.specs.declared.option.Option.TheVariants.{None, Some}
use Rattle.std.specs.Box.Ownership.{box_owns}

abbrev pub held : (Ty → Ptr → Fml) → (R : RattleType) → Ptr → Option R.Denot → Fml
held token R null_ptr None = ftrue
held token R (block_ptr b o) (Some value) = box_owns token R (block_ptr b o) value
held token R (block_ptr b o) None = ffalse
held token R null_ptr (Some value) = ffalse
