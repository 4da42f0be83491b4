-- Arenas that grow at the end of a parent's children.
use Rattle.std.specs.Prelude.{◌≡◌, ℕ, suc, true, None}
use Rattle.node_arena.specs.DomModel.declared.Content.{Content}
use Rattle.node_arena.specs.DomModel.Contents.{is_parent_at}
use Rattle.node_arena.specs.DomModel.Forest.{put_under}
use Rattle.node_arena.specs.DomModel.Forest.Forest.{Nil, Tree}
use Rattle.node_arena.specs.DomModel.ArenaState.{ArenaState}
use Rattle.node_arena.specs.declared.NodeRef.{NodeRef}
use Rattle.node_arena.specs.Held.{Holds}

-- a node that may have children
pub record IsOpen (s : ArenaState) (r : NodeRef) : Type 0 where
  pub held : Holds s r
  pub parent : is_parent_at s.trees r.label ≡ true

-- a node of this content, with the next label, is the last child of p; what was open is open
pub record Appends (old new : ArenaState) (p : ℕ) (c : Content) : Type 0 where
  pub trees : new.trees ≡ put_under old.trees p None (Tree old.next c Nil Nil)
  pub next : new.next ≡ suc old.next
  pub cap : new.cap ≡ old.cap
  pub opens : (r : NodeRef) → IsOpen old r → IsOpen new r

-- and that node is open
pub record AppendsElement (old new : ArenaState) (p : ℕ) (c : Content)
    (node : NodeRef) : Type 0 where
  pub label : node.label ≡ old.next
  pub here : IsOpen new node
  pub grown : Appends old new p c
