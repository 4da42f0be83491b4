-- Trees that a document under edits gives up. No public clause cites this module.
use Rattle.std.specs.Prelude.{◌≡◌, ℕ, ◌<◌, Bool, false, not, ◌&&◌, nat_lt, nat_le, List, filter, Option, Some, None}
use Rattle.edit_model.specs.DomModel.declared.Content.{Content}
use Rattle.edit_model.specs.DomModel.Forest.{Forest, tops, times, count_of}
use Rattle.edit_model.specs.DomModel.Pruned.{pruned}
use Rattle.edit_model.specs.DomModel.ArenaState.{ArenaState as Arena}
use Rattle.edit_model.specs.NodeArena.declared.NodeRef.{NodeRef}
use Rattle.edit_model.specs.LiveRange.PointsEdit.{has_label}
use Rattle.edit_model.specs.Gives.{labels_of}
use Rattle.edit_doc.specs.declared.command.EntrySnapshot.{EntrySnapshot}
use Rattle.edit_doc.specs.declared.command.Command.{Command}
use Rattle.edit_doc.specs.Marks.{has_named}
use Rattle.edit_doc.specs.Sound.{RefIn}

-- the labels from `low` on but those that the command's edits name
abbrev pub is_unnamed : ℕ → Command → ℕ → Bool
is_unnamed low c l = nat_le low l && not (has_named c l)

-- the label is the root of a loose tree
abbrev pub is_loose : Forest Content → ℕ → Bool
is_loose f l = nat_lt 0 l && nat_lt 0 (times (tops f) l)

-- those of the nodes that are roots of loose trees
abbrev pub loose_roots : Forest Content → List NodeRef → List NodeRef
loose_roots f rs = filter (λ r. is_loose f r.label) rs

-- the entry that goes out, if there is one, detached a tree with this root
abbrev pub has_detached : Option EntrySnapshot → ℕ → Bool
has_detached None l = false
has_detached (Some b) l = has_label (labels_of b.detached.items) l

-- the trees with these roots are given up, and no other node stops being held
pub record GivesUp (k : ℕ → Bool) (old new : Arena) : Type 0 where
  pub trees : new.trees ≡ pruned k old.trees
  pub next : new.next ≡ old.next
  pub cap : new.cap ≡ old.cap
  pub keeps : (q : NodeRef) → RefIn old.held q → 0 < count_of (pruned k old.trees) q.label
      → RefIn new.held q
