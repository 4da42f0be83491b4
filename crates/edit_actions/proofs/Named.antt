-- What is named of the nodes of a document is found in it.
use Rattle.std.proofs.Common.{ℕ, Option, Some, None}
use Rattle.edit_model.specs.NodeArena.declared.NodeRef.{NodeRef}
use Rattle.edit_model.specs.NodeArena.Reads.{Names}
use Rattle.edit_doc.specs.Whole.{Whole}
use Rattle.edit_doc.specs.Held.{Holds, Finds}

pub finds_named : (d : Whole) (o : Option NodeRef) (l : Option ℕ) → Names (λ r. Holds d r) o l → Finds d o l
finds_named d None l names = record { is = names.is; held = tt }
finds_named d (Some r) l names = record { is = names.is; held = names.held }
