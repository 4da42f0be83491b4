-- What a call gives of a run: the clause of every call that edits.
use Rattle.std.specs.Prelude.{◌≡◌, ℕ, List, [], ◌∷◌, Option, Some, None, Result, Ok, Err}
use Rattle.point_order.specs.NodeArena.declared.NodeRef.{NodeRef}
use Rattle.edit_model.specs.declared.settings.EditFault.{EditFault}
use Rattle.edit_model.specs.declared.settings.EditFault.TheVariants.{Full, Memory}
use Rattle.edit_model.specs.State.{State, IsPastCap}
use Rattle.edit_model.specs.Run.{Run, final, value}

-- the labels of a list of references
abbrev pub labels_of : List NodeRef → List ℕ
labels_of [] = []
labels_of (r ∷ rs) = r.label ∷ labels_of rs

abbrev pub label_of : Option NodeRef → Option ℕ
label_of None = None
label_of (Some r) = Some r.label

-- what a fault means: Full comes where the run ends past the cap, and Memory may come at any time
abbrev pub Fails : EditFault → State → Type 0
Fails Full s = IsPastCap s
Fails Memory s = Unit {0}

-- The call's answer and the state after it are those of the run, where `shows` tells the run's
-- answer of the call's; or it is Full, and the run ends past the cap. A state is never past the
-- cap, so Full comes exactly then, up to Memory.
abbrev pub GivesAs : {T U : Type 0} → (T → U) → Result T EditFault → State → State → Run U → Type 0
GivesAs shows (Ok v) s t m = (final m s ≡ t) × (value m s ≡ shows v)
GivesAs shows (Err e) s t m = Fails e (final m s)

abbrev pub Gives : {T : Type 0} → Result T EditFault → State → State → Run T → Type 0
Gives r s t m = GivesAs (λ v. v) r s t m

abbrev pub GivesNode : Result NodeRef EditFault → State → State → Run ℕ → Type 0
GivesNode r s t m = GivesAs (λ v. v.label) r s t m

abbrev pub GivesMaybe : Result (Option NodeRef) EditFault → State → State → Run (Option ℕ) → Type 0
GivesMaybe r s t m = GivesAs label_of r s t m
