-- The nodes of trees, appended to a list node by node.
use Rattle.std.proofs.Common.{◌≡◌, ℕ, ◌+◌, ◌<◌, ◌^◌, ◌⊎◌, List, [], ◌∷◌, ◌++◌, Option, Some, refl, sym, ap, ◌∙◌, inl, inr, arith, append_assoc}
use Rattle.std.proofs.lemmas.Bool.Decides.{eqb_tells}
use Rattle.std.proofs.lemmas.List.{append-nil}
use Rattle.document_edits.specs.DomModel.declared.Content.{Content}
use Rattle.document_edits.specs.DomModel.Forest.{Forest, total, count_of, content_of, IsDistinct, tree_of, first_of, next_of}
use Rattle.document_edits.specs.DomModel.Forest.Forest.{Nil, Tree}
use Rattle.document_edits.specs.DomModel.ArenaState.{ArenaState, IsValid}
use Rattle.document_edits.specs.DomModel.Places.{onward, or_else}
use Rattle.document_edits.proofs.DomModel.Links.{tree_of_absent, join-Nil}
use Rattle.document_edits.proofs.DomModel.Parts.{at_label, onward_absent}
use Rattle.document_edits.proofs.DomModel.Totals.{total-without}
use Rattle.node_paths.specs.NodeArena.declared.NodeRef.{NodeRef}
use Rattle.node_paths.specs.NodeArena.Held.{Holds, NamesHeld, label}
use Rattle.node_paths.specs.Onward.{onward_at, IsInner}
use Rattle.node_paths.proofs.Onward.{children_led}
use Rattle.node_paths.proofs.Visiting.{Visit, size_from, led, size_led, size_here, inner_first}
use Rattle.document_edits.specs.declared.edit.TreeNode.{TreeNode}
use Rattle.document_edits.specs.Flat.{flat}

-- a link from the node that a walk has come to leads to inner nodes, from which on there are fewer
pub leads_on : (a : ArenaState) (at : Option NodeRef) (node : NodeRef) → at ≡ Some node
    → (link : Option NodeRef) (named : Option ℕ) → NamesHeld a link named
    → size_from a.trees named < size_from a.trees (Some node.label) → IsInner a.trees named
    → (size_from a.trees (label link) < size_from a.trees (label at)) × IsInner a.trees (label link)
leads_on a at node is link named names fewer inner =
    let there = size_led a link named names in
    let here = size_here a at node is in
    (omega (arith, there, fewer, here), led a link named names inner)

-- a node, then the nodes below it, are what was to be appended for it before what comes behind it
pub nodes_appended : (a : ArenaState) (l : ℕ) (c : Content) → Visit a.trees l c → (level : ℕ)
    → (down right here : Option ℕ) → down ≡ first_of a.trees l → right ≡ next_of a.trees l → here ≡ Some l
    → (b0 b1 b2 whole : List TreeNode) → b0 ++ flat level (onward_at a.trees here) ≡ whole
    → b1 ≡ b0 ++ record { level = level; label = l; content = c } ∷ [] → b2 ≡ b1 ++ flat (level + 1) (onward_at a.trees down)
    → b2 ++ flat level (onward_at a.trees right) ≡ whole
nodes_appended a l c v level down right here d r h b0 b1 b2 whole before one two =
    let list : flat level (onward_at a.trees here) ≡ record { level = level; label = l; content = c } ∷ (flat (level + 1) (onward_at a.trees down) ++ flat level (onward_at a.trees right)) =
    ap (λ o. flat level (onward_at a.trees o)) h ∙ ap (flat level) v.is ∙ rw (d, r) refl in
    rw (two, one, ← before, list) (simp append_assoc)

-- ---- the tree of a node

or_nil : {C : Type 0} (f : Forest C) → or_else f Nil ≡ f
or_nil Nil = refl
or_nil (Tree m c ks rest) = refl

-- it is the first of the trees from the node on
first_tree : {C : Type 0} (f : Forest C) (l : ℕ) (c : C) (ks rest : Forest C) → count_of f l ≡ 1 → onward f l ≡ Tree l c ks rest → tree_of f l ≡ Tree l c ks Nil
first_tree Nil l c ks rest once is = absurd (omega (arith, once))
first_tree (Tree m d js more) l c ks rest once is =
    elim (eqb_tells m l) [
      | inl (e, _) ↦ (let is' = rw e at is in rw e (same is'))
      | inr (e, _) ↦ (
          let once' = rw e at once in
          let is' = rw e at is in
          elim (split_one (count_of js l) (count_of more l) once') [
            | inl (one, none) ↦ (
                let t = first_tree js l c ks rest one (sym (or_nil (onward js l)) ∙ (ap (or_else (onward js l)) (sym (onward_absent more l none)) ∙ is')) in
                rw (e, tree_of_absent more l none, join-Nil) t)
            | inr (none, one) ↦ (
                let t = first_tree more l c ks rest one (ap (λ g. or_else g (onward more l)) (sym (onward_absent js l none)) ∙ is') in
                rw (e, tree_of_absent js l none) t)
          ])
    ]
  where
    same : Tree m d js more ≡ Tree l c ks rest → Tree m d js Nil ≡ Tree l c ks Nil
    same t = cc

    split_one : (a b : ℕ) → 0 + (a + b) ≡ 1 → ((a ≡ 1) × (b ≡ 0)) ⊎ ((a ≡ 0) × (b ≡ 1))
    split_one a b h = grind arith

tree_at : (f : Forest Content) (l : ℕ) (c : Content) → IsDistinct f → 0 < count_of f l → content_of f l ≡ Some c → tree_of f l ≡ Tree l c (onward_at f (first_of f l)) Nil
tree_at f l c once here content =
    let at = at_label f once l here in
    let same : at.content ≡ c = (let e = at.content_is in cc) in
    let one : count_of f l ≡ 1 = (let few = once l in omega (arith, here, few)) in
    rw (children_led f l at, ← same) (first_tree f l at.content at.kids at.rest one at.is)

-- what is appended for a tree: its root, then all below it
pub tree_appended : (a : ArenaState) (node : NodeRef) (c : Content) → IsValid a → Holds a node → content_of a.trees node.label ≡ Some c → (first : Option NodeRef)
    → NamesHeld a first (first_of a.trees node.label) → (none b1 b2 : List TreeNode) → none ≡ []
    → b1 ≡ none ++ record { level = 0; label = node.label; content = c } ∷ [] → b2 ≡ b1 ++ flat 1 (onward_at a.trees (label first))
    → b2 ≡ flat 0 (tree_of a.trees node.label)
tree_appended a node c valid held content first names none b1 b2 empty one two =
    let tree = tree_at a.trees node.label c valid.distinct (valid.here node.slot node.label held) content in
    rw (two, one, empty, tree, names.is) (ap (λ ns. record { level = 0; label = node.label; content = c } ∷ ns) (sym (append-nil (flat 1 (onward_at a.trees (first_of a.trees node.label))))))

pub below_inner : (a : ArenaState) (node : NodeRef) → IsValid a → Holds a node → (first : Option NodeRef) → NamesHeld a first (first_of a.trees node.label) → IsInner a.trees (label first)
below_inner a node valid held first names =
    led a first (first_of a.trees node.label) names (inner_first a.trees node.label valid.distinct (valid.here node.slot node.label held))

-- the levels stay below a number that the labels do not reach
pub below_room : (a : ArenaState) (node : NodeRef) (c : Content) → IsValid a → Holds a node → content_of a.trees node.label ≡ Some c → (first : Option NodeRef)
    → NamesHeld a first (first_of a.trees node.label) → 1 + size_from a.trees (label first) < 2 ^ 32
below_room a node c valid held content first names =
    let tree = tree_at a.trees node.label c valid.distinct (valid.here node.slot node.label held) content in
    let size = size_led a first (first_of a.trees node.label) names in
    let whole : total (λ _ _. 1) (tree_of a.trees node.label) ≡ 1 + (size_from a.trees (first_of a.trees node.label) + 0) = ap (total (λ _ _. 1)) tree in
    omega (arith, size, whole, total-without (λ _ _. 1) a.trees node.label, valid.few, valid.capped, valid.small)
