-- Which nodes of the running command its edits name. No public clause cites this module.
use Rattle.std.specs.Prelude.{◌≡◌, ◌⊎◌, ℕ, ◌+◌, ◌-◌, ◌<◌, ◌≤◌, Bool, false, true, ◌&&◌, nat_le, List, [], ◌∷◌, ◌++◌, length, Option, slice_index_or}
use Rattle.edit_model.specs.LiveRange.PointsEdit.{has_label}
use Rattle.edit_model.specs.NodeArena.declared.NodeRef.{NodeRef}
use Rattle.step_edits.specs.ForestChanges.Named.{Each, listed}
use Rattle.edit_model.specs.Gives.{label_of}
use Rattle.edit_doc.specs.declared.command.Command.{Command}

-- the labels of a node and a place
abbrev pub place_labels : NodeRef → NodeRef → Option NodeRef → List ℕ
place_labels node parent before = node.label ∷ parent.label ∷ listed (label_of before)

-- the command has a mark for each of the labels that it drew
abbrev pub AreMarkable : Command → List ℕ → Type 0
AreMarkable c ls = Each (λ l. l < c.start + length c.named.items) ls

abbrev pub IsMarked : Command → ℕ → Type 0
IsMarked c l = c.start ≤ l → slice_index_or c.named.items (l - c.start) false ≡ true

-- the command made the node of the label, and an edit of it names the node
abbrev pub has_named : Command → ℕ → Bool
has_named c l = nat_le c.start l && slice_index_or c.named.items (l - c.start) false

-- each of the labels that the command drew is marked, and no other one, and all else is as it was
pub record Marks (ls : List ℕ) (old new : Command) : Type 0 where
  pub rest : record new { named = old.named } ≡ old
  pub count : length new.named.items ≡ length old.named.items
  pub marked : Each (IsMarked new) ls
  pub stay : (l : ℕ) → IsMarked old l → IsMarked new l
  pub only : (l : ℕ) → has_named new l ≡ true → (has_named old l ≡ true) ⊎ (has_label ls l ≡ true)

-- there is one more mark, which isn't set, and one more tree was detached
pub record NotesMade (node : NodeRef) (old new : Command) : Type 0 where
  pub rest : record new { named = old.named; detached = old.detached } ≡ old
  pub named : new.named.items ≡ old.named.items ++ false ∷ []
  pub detached : new.detached.items ≡ old.detached.items ++ node ∷ []
