-- Which nodes a document under edits holds.
use Rattle.std.specs.Prelude.{◌≡◌, ℕ, ◌<◌, Bool, false, List, length, Option, Some, None, IfSome, slice_index_or}
use Rattle.std.proofs.Common.{get_or}
use Rattle.edit_model.specs.DomModel.declared.Content.{Content}
use Rattle.edit_model.specs.DomModel.Forest.{Forest, count_of}
use Rattle.edit_model.specs.DomModel.Pruned.{pruned}
use Rattle.edit_model.specs.NodeArena.declared.NodeRef.{NodeRef}
use Rattle.edit_model.specs.Gives.{label_of}
use Rattle.edit_doc.specs.Whole.{Whole}

-- the slot has the node, which stands in the document or in a loose tree of the running command
pub record Holds (d : Whole) (r : NodeRef) : Type 0 where
  pub slot : slice_index_or d.held r.slot None ≡ Some r.label
  pub here : 0 < count_of d.state.trees r.label

abbrev pub IfHeld : Whole → Option NodeRef → Type 0
IfHeld d o = IfSome o (λ r. Holds d r)

-- each of them is held
abbrev pub EachHeld : Whole → List NodeRef → Type 0
EachHeld d xs = (k : ℕ) → k < length xs → Holds d (get_or xs k record { slot = 0; label = 0 })

-- the answer names the node of that label, if there is one
pub record Finds (d : Whole) (o : Option NodeRef) (l : Option ℕ) : Type 0 where
  pub is : label_of o ≡ l
  pub held : IfHeld d o

-- what an editing call keeps, also where it gives up: what was held is held, the history, the cap,
-- and how the command began
pub record Keeps (old new : Whole) : Type 0 where
  pub held : (r : NodeRef) → Holds old r → Holds new r
  pub history : new.history ≡ old.history
  pub began : new.began ≡ old.began
  pub start : new.state.start ≡ old.state.start
  pub cap : new.state.cap ≡ old.state.cap

-- what was held and is still in the trees is held
abbrev pub KeepsThere : Whole → Whole → Type 0
KeepsThere old new =
    (r : NodeRef) → Holds old r → 0 < count_of new.state.trees r.label → Holds new r

-- one forest is another without some loose trees
pub record IsPart (part whole : Forest Content) : Type 0 where
  pub detached_out : ℕ → Bool
  pub not_document : detached_out 0 ≡ false
  pub is : part ≡ pruned detached_out whole
