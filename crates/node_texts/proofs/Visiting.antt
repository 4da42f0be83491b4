-- What a walk needs at a node of any nodes that can be read.
use Rattle.std.proofs.Common.{◌≡◌, ◌⊎◌, ℕ, zero, suc, ◌+◌, ◌<◌, ◌≤◌, ◌^◌, Option, Some, IfSome, refl, sym, ap, ◌∙◌, inl, inr, arith}
use Rattle.std.proofs.lemmas.Bool.Decides.{eqb_tells}
use Rattle.node_styles.specs.DomModel.declared.Content.{Content}
use Rattle.node_styles.specs.DomModel.Contents.{char_length, IsNode}
use Rattle.node_styles.specs.DomModel.Forest.{Forest, join, count_of, content_of, first_of, next_of, tree_of, IsDistinct}
use Rattle.node_styles.specs.DomModel.Forest.Forest.{Nil, Tree}
use Rattle.node_styles.specs.DomModel.Places.{onward, or_else}
use Rattle.node_styles.proofs.DomModel.Links.{tree_of_absent, seen}
use Rattle.node_styles.proofs.DomModel.Parts.{onward_absent, at_label}
use Rattle.node_styles.specs.NodeArena.declared.NodeRef.{NodeRef}
use Rattle.node_styles.specs.NodeArena.Held.{label}
use Rattle.node_styles.specs.NodeArena.Reads.{IsValid, Names}
use Rattle.page_write.specs.NodePaths.Onward.{onward_at, IsInner}
use Rattle.page_write.proofs.NodePaths.Onward.{children_led}
use Rattle.page_write.proofs.NodePaths.Visiting.{Visit, visit, size_from, inner_first}
use Rattle.node_texts.specs.Walk.{walked}

-- ---- the tree of a node

-- the first tree of a forest, alone
abbrev alone : Forest Content → Forest Content
alone Nil = Nil
alone (Tree m c ks rest) = Tree m c ks Nil

either_none : (a b : ℕ) → 0 + (a + b) ≤ 1 → (a ≡ 0) ⊎ (b ≡ 0)
either_none zero b h = inl refl
either_none (suc a) b h = inr (omega (arith, h))

alone_joined : (g : Forest Content) → join (alone g) Nil ≡ alone (or_else g Nil)
alone_joined Nil = refl
alone_joined (Tree m c ks rest) = refl

tree_alone : (f : Forest Content) (l : ℕ) → count_of f l ≤ 1 → tree_of f l ≡ alone (onward f l)
tree_alone Nil l once = refl
tree_alone (Tree m c ks rest) l once =
    elim (eqb_tells m l) [
      | inl (t, _) ↦ rw t refl
      | inr (t, _) ↦ (let once' = rw t at once in
          elim (either_none (count_of ks l) (count_of rest l) once') [
            | inl none ↦ rw (t, tree_of_absent ks l none, onward_absent ks l none) (tree_alone rest l (omega (arith, once')))
            | inr none ↦ rw (t, tree_of_absent rest l none, onward_absent rest l none, tree_alone ks l (omega (arith, once'))) (alone_joined (onward ks l))
          ])
    ]

-- the tree of a node has the children that its first child leads to
pub tree_led : (f : Forest Content) (l : ℕ) (c : Content) → IsDistinct f → 0 < count_of f l → content_of f l ≡ Some c → tree_of f l ≡ Tree l c (onward_at f (first_of f l)) Nil
tree_led f l c distinct here content =
    let at = at_label f distinct l here in
    let same : at.content ≡ c = (let t : Some at.content ≡ Some c = sym at.content_is ∙ content in cc) in
    tree_alone f l (distinct l) ∙ ap alone at.is ∙ rw (same, ← (children_led f l at)) refl

-- ---- a step

module _ {holds : NodeRef → Type 0} {f : Forest Content} {upper : ℕ} (law : IsValid holds f upper) where
  -- the characters of a node can be counted
  pub short_content : (r : NodeRef) (c : Content) → holds r → content_of f r.label ≡ Some c → char_length c < 2 ^ 32
  short_content r c held content =
      let s = seen f r.label law.distinct (law.here r held) in
      let node : IsNode r.label s.0 = law.nodes r.label s.0 s.2 in
      let is : s.0.content ≡ c = (let t = rw s.2 at content in cc) in
      rw (← is) node.short

  -- at a node that a walk has come to
  pub come_at : (o : Option NodeRef) (r : NodeRef) (c : Content) → o ≡ Some r → IfSome o (λ k. holds k) → IsInner f (label o) → content_of f r.label ≡ Some c → Visit f r.label c
  come_at o r c is held inner content =
      let held' : holds r = rw is at held in
      let inner' : IsInner f (Some r.label) = rw is at inner in
      visit f r.label c law.distinct (law.here r held') inner' content

  pub first_led : (r : NodeRef) → holds r → (link : Option NodeRef) → Names holds link (first_of f r.label) → IsInner f (label link)
  first_led r held link names = rw names.is (inner_first f r.label law.distinct (law.here r held))

-- a link from the node that a walk has come to leads to inner nodes, from which on there are fewer
pub leads_on : {holds : NodeRef → Type 0} (f : Forest Content) (at : Option NodeRef) (node : NodeRef) → at ≡ Some node
    → (link : Option NodeRef) (named : Option ℕ) → Names holds link named
    → size_from f named < size_from f (Some node.label) → IsInner f named
    → (size_from f (label link) < size_from f (label at)) × IsInner f (label link)
leads_on f at node is link named names fewer inner = (rw (names.is, is) fewer, rw names.is inner)

-- ---- what is shown

module _ {S : Type 0} (enter leave : S → ℕ → Content → S) where
  -- the node, what stands below it, and what comes after it
  pub shown_on : (f : Forest Content) (l : ℕ) (c : Content) → Visit f l c → (down right here : Option ℕ)
      → down ≡ first_of f l → right ≡ next_of f l → here ≡ Some l
      → (s0 s1 s2 s3 whole : S) → walked enter leave (onward_at f here) s0 ≡ whole
      → s1 ≡ enter s0 l c → s2 ≡ walked enter leave (onward_at f down) s1 → s3 ≡ leave s2 l c
      → walked enter leave (onward_at f right) s3 ≡ whole
  shown_on f l c v down right here d r h s0 s1 s2 s3 whole before one two three =
      let all : walked enter leave (onward_at f here) s0 ≡ walked enter leave (onward_at f (next_of f l)) (leave (walked enter leave (onward_at f (first_of f l)) (enter s0 l c)) l c) =
      ap (λ o. walked enter leave (onward_at f o) s0) h ∙ ap (λ t. walked enter leave t s0) v.is in
      rw (three, two, one, d, r) (sym all ∙ before)

  pub shown_tree : (f : Forest Content) (l : ℕ) (c : Content) → IsDistinct f → 0 < count_of f l → content_of f l ≡ Some c → (down : Option ℕ) → down ≡ first_of f l
      → (s0 s1 s2 s3 : S) → s1 ≡ enter s0 l c → s2 ≡ walked enter leave (onward_at f down) s1 → s3 ≡ leave s2 l c
      → s3 ≡ walked enter leave (tree_of f l) s0
  shown_tree f l c distinct here content down d s0 s1 s2 s3 one two three =
      rw (tree_led f l c distinct here content, three, two, one, d) refl
