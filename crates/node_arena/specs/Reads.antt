-- What can be read of labelled nodes, whatever holds them: `holds` says which references name a
-- node.
use Rattle.std.specs.Prelude.{◌^◌, ◌≡◌, ℕ, ◌<◌, ◌≤◌, Option, Some, None, IfSome}
use Rattle.std.specs.Option.{option_map}
use Rattle.dom_model.specs.declared.Content.{Content}
use Rattle.dom_model.specs.Contents.{IsNode}
use Rattle.dom_model.specs.Forest.{Forest, Seen, seek, total, count_of, IsDistinct, RisesFrom, parent_of}
use Rattle.node_arena.specs.declared.NodeRef.{NodeRef}

-- the label of a node, if there is one
abbrev pub label : Option NodeRef → Option ℕ
label o = option_map (λ r. r.label) o

-- the link names the node that has this label, if there is one
pub record Names (holds : NodeRef → Type 0) (link : Option NodeRef)
    (named : Option ℕ) : Type 0 where
  pub is : label link ≡ named
  pub held : IfSome link (λ r. holds r)

-- what holds of all nodes that can be read
pub record IsValid (holds : NodeRef → Type 0) (f : Forest Content) (next : ℕ) : Type 0 where
  pub distinct : IsDistinct f
  pub rising : RisesFrom 0 f
  pub below : (l : ℕ) → 0 < count_of f l → l < next
  pub few : total (λ _ _. 1) f ≤ next
  pub small : next < 2 ^ 32
  pub here : (r : NodeRef) → holds r → 0 < count_of f r.label
  pub document : 0 < count_of f 0
  pub root : parent_of f 0 ≡ None
  pub nodes : (l : ℕ) (seen : Seen Content) → seek None f l ≡ Some seen → IsNode l seen
