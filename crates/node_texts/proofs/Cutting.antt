-- What a walk between two limits shows at a node.
use Rattle.std.proofs.Common.{◌≡◌, ℕ, ◌<◌, true, false, Option, Some, refl, sym, ap, ◌∙◌, inl, inr}
use Rattle.std.proofs.lemmas.Bool.Decides.{eqb_tells}
use Rattle.node_styles.specs.DomModel.declared.Content.{Content}
use Rattle.node_styles.specs.DomModel.Forest.{Forest, count_of, content_of, first_of, next_of, tree_of, IsDistinct}
use Rattle.node_styles.specs.DomModel.Forest.Forest.{Nil, Tree}
use Rattle.page_write.specs.NodePaths.Onward.{onward_at}
use Rattle.page_write.proofs.NodePaths.Visiting.{Visit}
use Rattle.node_texts.specs.declared.between.Limit.{Limit}
use Rattle.node_texts.specs.declared.between.Limit.TheVariants.{Open, Past, Inside}
use Rattle.node_texts.specs.Between.{is_over, is_ahead, stands_in, passed, below, content_between, between, IsThere}
use Rattle.node_texts.specs.Walk.{walked}
use Rattle.node_texts.proofs.Visiting.{tree_led}

-- ---- the node of a limit stays there

pub there_passed : (f : Forest Content) (limit : Limit) → IsThere f limit → IsThere f (passed limit)
unfolding passed
there_passed f Open h = tt
there_passed f (Past count) h = tt
there_passed f (Inside p) h = h

pub there_below : (f : Forest Content) (limit : Limit) (l : ℕ) → IsThere f limit → IsThere f (below limit l)
unfolding below
there_below f Open l h = tt
there_below f (Past count) l h = tt
there_below f (Inside p) l h =
    elim (eqb_tells p.label l) [
      | inl (t, _) ↦ rw t tt
      | inr (t, _) ↦ rw t h
    ]

-- ---- at a node

-- past the end nothing is shown
pub shown_over : {S : Type 0} (enter leave : S → ℕ → Content → S) (start end : Limit) (g : Forest Content) → is_over end ≡ true → (s : S) → walked enter leave (between start end g) s ≡ s
shown_over enter leave start end Nil over s = refl
shown_over enter leave start end (Tree l c ks rest) over s = rw over refl

module _ {S : Type 0} (enter leave : S → ℕ → Content → S) (f : Forest Content) (distinct : IsDistinct f) (l : ℕ) (c : Content) (there : 0 < count_of f l) (content : content_of f l ≡ Some c) (v : Visit f l c) (start end : Limit) (here : Option ℕ) (at : here ≡ Some l) where
  here_is : onward_at f here ≡ Tree l c (onward_at f (first_of f l)) (onward_at f (next_of f l))
  here_is = ap (onward_at f) at ∙ v.is

  -- what comes after it
  pub shown_ahead : is_over end ≡ false → is_ahead start (tree_of f l) ≡ true → (right : Option ℕ) → right ≡ next_of f l → (s whole : S)
      → walked enter leave (between start end (onward_at f here)) s ≡ whole
      → walked enter leave (between (passed start) (passed end) (onward_at f right)) s ≡ whole
  shown_ahead over ahead right r s all before =
      let ahead' = rw (tree_led f l c distinct there content) at ahead in
      let e : between start end (onward_at f here) ≡ between (passed start) (passed end) (onward_at f (next_of f l)) = rw (here_is, over, ahead') refl in
      rw (r, ← e) before

  -- the node cut, what stands below it, and what comes after it
  shown_here : is_over end ≡ false → is_ahead start (tree_of f l) ≡ false → (down : Option ℕ) → down ≡ first_of f l → (rest : Forest Content)
      → between start end (onward_at f here) ≡ Tree l (content_between start end l c) (between (below start l) (below end l) (onward_at f (first_of f l))) rest
      → (s0 s1 s2 s3 : S) → s1 ≡ enter s0 l (content_between start end l c)
      → s2 ≡ walked enter leave (between (below start l) (below end l) (onward_at f down)) s1
      → s3 ≡ leave s2 l c → leave s2 l (content_between start end l c) ≡ leave s2 l c
      → walked enter leave (between start end (onward_at f here)) s0 ≡ walked enter leave rest s3
  shown_here over ahead down d rest is s0 s1 s2 s3 one two three same = rw (is, three, ← same, two, one, d) refl

  pub shown_more : is_over end ≡ false → is_ahead start (tree_of f l) ≡ false → stands_in end (tree_of f l) ≡ false
      → (down right : Option ℕ) → down ≡ first_of f l → right ≡ next_of f l
      → (s0 s1 s2 s3 all : S) → walked enter leave (between start end (onward_at f here)) s0 ≡ all
      → s1 ≡ enter s0 l (content_between start end l c)
      → s2 ≡ walked enter leave (between (below start l) (below end l) (onward_at f down)) s1
      → s3 ≡ leave s2 l c → leave s2 l (content_between start end l c) ≡ leave s2 l c
      → walked enter leave (between Open (passed end) (onward_at f right)) s3 ≡ all
  shown_more over ahead inside down right d r s0 s1 s2 s3 all before one two three same =
      let led = tree_led f l c distinct there content in
      let ahead' = rw led at ahead in
      let inside' = rw led at inside in
      let is : between start end (onward_at f here) ≡ Tree l (content_between start end l c) (between (below start l) (below end l) (onward_at f (first_of f l))) (between Open (passed end) (onward_at f (next_of f l))) = rw (here_is, over, ahead', inside') refl in
      rw r (sym (shown_here over ahead down d _ is s0 s1 s2 s3 one two three same) ∙ before)

  pub shown_last : is_over end ≡ false → is_ahead start (tree_of f l) ≡ false → stands_in end (tree_of f l) ≡ true
      → (down : Option ℕ) → down ≡ first_of f l
      → (s0 s1 s2 s3 all : S) → walked enter leave (between start end (onward_at f here)) s0 ≡ all
      → s1 ≡ enter s0 l (content_between start end l c)
      → s2 ≡ walked enter leave (between (below start l) (below end l) (onward_at f down)) s1
      → s3 ≡ leave s2 l c → leave s2 l (content_between start end l c) ≡ leave s2 l c
      → s3 ≡ all
  shown_last over ahead inside down d s0 s1 s2 s3 all before one two three same =
      let led = tree_led f l c distinct there content in
      let ahead' = rw led at ahead in
      let inside' = rw led at inside in
      let is : between start end (onward_at f here) ≡ Tree l (content_between start end l c) (between (below start l) (below end l) (onward_at f (first_of f l))) Nil = rw (here_is, over, ahead', inside') refl in
      sym (shown_here over ahead down d Nil is s0 s1 s2 s3 one two three same) ∙ before
