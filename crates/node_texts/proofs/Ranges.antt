-- The innermost node that holds two points, and the contents of their range.
use Rattle.std.proofs.Common.{◌≡◌, ℕ, ◌<◌, true, false, List, [], ◌∷◌, Option, Some, None, refl, ap, ◌∙◌}
use Rattle.node_styles.specs.DomModel.declared.Content.{Content}
use Rattle.node_styles.specs.DomModel.Contents.{has_chars}
use Rattle.node_styles.specs.DomModel.Forest.{Forest, count_of, content_of, parent_of, first_of, tree_of, IsDistinct}
use Rattle.node_styles.proofs.DomModel.Parts.{at_label}
use Rattle.point_order.specs.LiveRange.declared.places.Point.{Point}
use Rattle.page_write.specs.NodePaths.Onward.{onward_at}
use Rattle.node_styles.specs.Lineage.{Ancestor, lineage}
use Rattle.node_styles.proofs.Lineages.{ancestor, lineage-root, lineage-child}
use Rattle.point_order.specs.PointOrder.{is_within}
use Rattle.node_texts.specs.declared.between.Limit.TheVariants.{Inside}
use Rattle.node_texts.specs.Between.{common_ancestor, contents_in, content_between, between, below, range_contents}
use Rattle.node_texts.specs.Walk.{walked}
use Rattle.node_texts.proofs.Visiting.{tree_led}

-- ---- the innermost node

module _ (f : Forest Content) (once : IsDistinct f) (l : ℕ) (here : 0 < count_of f l) (b : ℕ) where
  first_found : (c : Content) (rest : List Ancestor) → lineage f l ≡ ancestor l c ∷ rest → is_within f l b ≡ true → common_ancestor f l b ≡ Some l
  unfolding common_ancestor
  first_found c rest line within = rw (line, within) refl

  pub common_here : is_within f l b ≡ true → common_ancestor f l b ≡ Some l
  common_here within = by_parent (parent_of f l) refl
    where
      by_parent : (o : Option ℕ) → parent_of f l ≡ o → common_ancestor f l b ≡ Some l
      by_parent None e = let at = at_label f once l here in first_found at.content [] (lineage-root f once l at.content here e at.content_is) within
      by_parent (Some p) e = let at = at_label f once l here in first_found at.content (lineage f p) (lineage-child f once l p at.content e at.content_is) within

  pub common_above : (p : ℕ) → parent_of f l ≡ Some p → is_within f l b ≡ false → common_ancestor f l b ≡ common_ancestor f p b
  unfolding common_ancestor
  common_above p child outside =
      let at = at_label f once l here in
      let line : lineage f l ≡ ancestor l at.content ∷ lineage f p = lineage-child f once l p at.content child at.content_is in
      rw (line, outside) refl

  pub common_nowhere : parent_of f l ≡ None → is_within f l b ≡ false → common_ancestor f l b ≡ None
  unfolding common_ancestor
  common_nowhere root outside =
      let at = at_label f once l here in
      let line : lineage f l ≡ ancestor l at.content ∷ [] = lineage-root f once l at.content here root at.content_is in
      rw (line, outside) refl

-- ---- the contents

module _ {S : Type 0} (enter leave : S → ℕ → Content → S) (f : Forest Content) (start end : Point) where
  pub shown_nothing : common_ancestor f start.label end.label ≡ None → (s : S) → s ≡ walked enter leave (range_contents f start end) s
  unfolding range_contents
  shown_nothing none s = rw none refl

  module _ (distinct : IsDistinct f) (top : ℕ) (c : Content) (there : 0 < count_of f top) (content : content_of f top ≡ Some c) (common : common_ancestor f start.label end.label ≡ Some top) where
    contents_are : range_contents f start end ≡ contents_in (Inside start) (Inside end) (tree_of f top)
    unfolding range_contents
    contents_are = rw common refl

    pub shown_chars : has_chars c ≡ true → (s0 s1 s2 : S) → s1 ≡ enter s0 top (content_between (Inside start) (Inside end) top c) → s2 ≡ leave s1 top c
        → leave s1 top (content_between (Inside start) (Inside end) top c) ≡ leave s1 top c
        → s2 ≡ walked enter leave (range_contents f start end) s0
    shown_chars chars s0 s1 s2 one two same =
        let is = contents_are ∙ ap (contents_in (Inside start) (Inside end)) (tree_led f top c distinct there content) in
        rw (is, chars, two, ← same, one) refl

    pub shown_children : has_chars c ≡ false → (down : Option ℕ) → down ≡ first_of f top → (s0 s1 : S)
        → s1 ≡ walked enter leave (between (below (Inside start) top) (below (Inside end) top) (onward_at f down)) s0
        → s1 ≡ walked enter leave (range_contents f start end) s0
    shown_children chars down d s0 s1 one =
        let is = contents_are ∙ ap (contents_in (Inside start) (Inside end)) (tree_led f top c distinct there content) in
        rw (is, chars, one, d) refl
