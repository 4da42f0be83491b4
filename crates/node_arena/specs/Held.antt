-- Which nodes an arena holds.
use Rattle.std.specs.Prelude.{◌≡◌, ◌≢◌, ℕ, ◌+◌, ◌<◌, ◌↔◌, nat_le, Option, Some, None}
use Rattle.dom_model.specs.ArenaState.{ArenaState, HoldsAt}
use Rattle.dom_model.specs.declared.Content.{Content}
use Rattle.dom_model.specs.Forest.{without, tree_of, with_leaf, parent_of, first_of, last_of, prev_of, next_of, content_of, count_of}
use Rattle.dom_model.specs.Pruned.{pruned}
use Rattle.dom_model.specs.declared.Content.TheVariants.{Document}
use Rattle.dom_model.specs.Forest.Forest.{Nil, Tree}
use Rattle.node_arena.specs.declared.Node.{Node}
use Rattle.node_arena.specs.declared.NodeRef.{NodeRef}
use Rattle.node_arena.specs.Reads as reads
pub use Rattle.node_arena.specs.Reads.{label}

-- the slot has the node of that label
abbrev pub Holds : ArenaState → NodeRef → Type 0
Holds s r = HoldsAt s r.slot r.label

-- each node that was held is held
abbrev pub KeepsHeld : ArenaState → ArenaState → Type 0
KeepsHeld old new = (r : NodeRef) → Holds old r → Holds new r

-- the link names the node that has this label, if there is one
abbrev pub NamesHeld : ArenaState → Option NodeRef → Option ℕ → Type 0
NamesHeld s link named = reads.Names (λ r. Holds s r) link named

-- a stored node has the content and the links of the node of a label
pub record Shows (s : ArenaState) (l : ℕ) (n : Node) : Type 0 where
  pub label : n.label ≡ l
  pub here : 0 < count_of s.trees l
  pub content : content_of s.trees l ≡ Some n.content
  pub parent : NamesHeld s n.parent (parent_of s.trees l)
  pub first : NamesHeld s n.first (first_of s.trees l)
  pub last : NamesHeld s n.last (last_of s.trees l)
  pub prev : NamesHeld s n.prev (prev_of s.trees l)
  pub next : NamesHeld s n.next (next_of s.trees l)

-- a node without links
abbrev pub leaf_node : ℕ → Content → Node
leaf_node l c =
    record {
      label = l;
      content = c;
      parent = None;
      first = None;
      last = None;
      prev = None;
      next = None;
    }

-- the new node has the next label and this content, and is the last loose tree; every other node
-- stays held, and no other node is
pub record Makes (old new : ArenaState) (r : NodeRef) (c : Content) : Type 0 where
  pub trees : new.trees ≡ with_leaf old.trees old.next c
  pub next : new.next ≡ old.next + 1
  pub cap : new.cap ≡ old.cap
  pub label : r.label ≡ old.next
  pub held : Holds new r
  pub keeps : KeepsHeld old new
  pub others : (q : NodeRef) → Holds new q → q.slot ≢ r.slot → Holds old q

-- the empty document alone
pub record IsNew (s : ArenaState) (limit : ℕ) : Type 0 where
  pub trees : s.trees ≡ Tree 0 Document Nil Nil
  pub next : s.next ≡ 1
  pub cap : s.cap ≡ limit
  pub others : (q : NodeRef) → Holds s q → (q.slot ≡ 0) × (q.label ≡ 0)

-- the tree of r is given up, its label stays spent, and no other node stops being held
pub record Drops (old new : ArenaState) (r : NodeRef) : Type 0 where
  pub trees : new.trees ≡ without old.trees r.label
  pub next : new.next ≡ old.next
  pub cap : new.cap ≡ old.cap
  pub gone : Holds new r → ⊥
  pub held : (q : NodeRef) → Holds new q → Holds old q
  pub keeps : (q : NodeRef) → Holds old q → q.label ≢ r.label → Holds new q

-- the tree of r is given up: its labels stay spent, none of its nodes is held, and all others stay
-- held
pub record DropsTree (old new : ArenaState) (r : NodeRef) : Type 0 where
  pub trees : new.trees ≡ without old.trees r.label
  pub next : new.next ≡ old.next
  pub cap : new.cap ≡ old.cap
  pub held : (q : NodeRef) → Holds new q → Holds old q
  pub gone : (q : NodeRef) → Holds new q → count_of (tree_of old.trees r.label) q.label ≡ 0
  pub keeps : (q : NodeRef) → Holds old q → count_of (tree_of old.trees r.label) q.label ≡ 0
      → Holds new q

-- the nodes of this label or a greater one are given up, with labels that stay spent, and no others
pub record DropsMade (old new : ArenaState) (first : ℕ) : Type 0 where
  pub trees : new.trees ≡ pruned (nat_le first) old.trees
  pub next : new.next ≡ old.next
  pub cap : new.cap ≡ old.cap
  pub held : (q : NodeRef) → Holds new q ↔ (Holds old q × (q.label < first))
