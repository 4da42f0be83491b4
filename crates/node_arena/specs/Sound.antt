-- What holds of the slots of every arena.
use Rattle.std.specs.Prelude.{◌^◌, map, ◌≡◌, ℕ, ◌<◌, ◌≤◌, List, length, Option, Some, None, slice_index_or}
use Rattle.dom_model.specs.declared.Content.{Content}
use Rattle.dom_model.specs.Contents.{IsNode}
use Rattle.dom_model.specs.Forest.{Forest, Seen, seek, count_of, total, IsDistinct, RisesFrom, parent_of}
use Rattle.node_arena.specs.declared.Node.{Node}
use Rattle.node_arena.specs.Nodes.{node_for, label_in, trees_of}

-- the slots hold the nodes of a labelled nested list, each linked as that list says
pub record IsSoundArena (slots : List (Option Node)) (next cap : ℕ) : Type 0 where
  pub trees : Forest Content
  pub at : ℕ → ℕ
  pub stored : (l : ℕ) (s : Seen Content) → seek None trees l ≡ Some s
      → slice_index_or slots (at l) None
      ≡ Some (node_for trees at l s)
  pub back : (slot : ℕ) (n : Node) → slice_index_or slots slot None ≡ Some n
      → (0 < count_of trees n.label)
      × (slot ≡ at n.label)
  pub distinct : IsDistinct trees
  pub rising : RisesFrom 0 trees
  pub below : (l : ℕ) → 0 < count_of trees l → l < next
  pub few : total (λ _ _. 1) trees ≤ next
  pub capped : next ≤ cap

-- and the document stands in the first slot, each node is one that may be, and the index tells the
-- slot of each label that is held
pub record IsArena (slots : List (Option Node)) (next cap : ℕ) (index : List ℕ) : Type 0 where
  pub sound : IsSoundArena slots next cap
  pub document : slice_index_or (map label_in slots) 0 None ≡ Some 0
  pub root : parent_of (trees_of slots next) 0 ≡ None
  pub small : cap < 2 ^ 32
  pub nodes : (l : ℕ) (s : Seen Content) → seek None (trees_of slots next) l ≡ Some s → IsNode l s
  pub long : length index ≡ next
  pub indexed : (slot l : ℕ) → slice_index_or (map label_in slots) slot None ≡ Some l
      → slice_index_or index l 0 ≡ slot

-- each node in a slot has a label that the index leads to that slot, and none past its end
pub record IsIndexed (slots : List (Option Node)) (index : List ℕ) : Type 0 where
  pub below : (slot : ℕ) (n : Node) → slice_index_or slots slot None ≡ Some n
      → n.label < length index
  pub at : (slot : ℕ) (n : Node) → slice_index_or slots slot None ≡ Some n
      → slice_index_or index n.label 0 ≡ slot
