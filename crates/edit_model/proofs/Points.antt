-- Kept points stay placed: each in the document, at an offset up to its node's length.
use Rattle.std.proofs.Common.{◌≡◌, ◌≢◌, ℕ, zero, suc, ◌+◌, ◌-◌, ◌<◌, ◌≤◌, Bool, true, false, cond, eqb, List, [], ◌∷◌, ◌++◌, length, take, drop, Option, Some, None, IfSome, refl, sym, ap, subst, ◌∙◌, inl, inr, arith, nat_lt, length-append, length-drop, length-take}
use Rattle.std.specs.Prelude.{nat_le}
use Rattle.std.specs.Option.{option_map, option_map_or}
use Rattle.std.proofs.lemmas.Bool.{and_parts, and_from, ltb-true, leb-true, lt-ltb, le-leb, le-ltb, eq-eqb, ne_eqb, cases_lt}
use Rattle.std.proofs.lemmas.Bool.Decides.{eqb_tells, nat_tests}
use Rattle.std.proofs.lemmas.List.Elements.{All-map, All-weaker}
use Rattle.point_order.specs.DomModel.declared.Content.{Content}
use Rattle.point_order.specs.DomModel.declared.Content.TheVariants.{Words}
use Rattle.point_order.specs.DomModel.Contents.{is_parent_at, length_in, length_of}
use Rattle.point_order.specs.DomModel.Forest.{Forest, times, count_of, tree_of, preorder_onto, preorder, parent_of, children_of, content_of, link, unlink, with_leaf, IsWithin, CanPut}
use Rattle.point_order.specs.DomModel.Forest.Forest.{Nil, Tree}
use Rattle.point_order.specs.DomModel.Places.{index_of}
use Rattle.point_order.specs.DomModel.Revised.{revised}
use Rattle.point_order.proofs.DomModel.Totals.{total-without}
use Rattle.point_order.proofs.DomModel.Move.{parent_apart}
use Rattle.point_order.proofs.DomModel.Revising.{children_of-revised, content_of-revised}
use Rattle.point_order.specs.LiveRange.declared.places.Point.{Point}
use Rattle.point_order.specs.LiveRange.declared.places.Pair.{Pair}
use Rattle.point_order.specs.LiveRange.PointsEdit as range
use Rattle.point_order.specs.LiveRange.PointsEdit.{adjusted, adjusted_pair, with_offset, after_insert, after_removal, after_replacement, after_loss, has_label, PointFits, PairFits}
use Rattle.point_order.specs.LiveRange.LivePoints.{LivePoints, mapped, at_pair}
use Rattle.point_order.specs.PointOrder.{is_in_document, is_placed}
use Rattle.edit_model.specs.Edit.{index_before, with_replaced}
use Rattle.edit_model.specs.Confined.{spliced}
use Rattle.edit_model.specs.Valid.{IsForest, IsPlacedPair, IsPlaced}
use Rattle.edit_model.proofs.Forests.{forest-unlink, parent_at-unlink}
use Rattle.edit_model.proofs.Documents.{within-link, within-unlink, within-with_leaf, within-revised, within_inside, within_above, within_below, within-move, place_in_length, length_of-parent, length_of-link, length_of-link_other, length_of-unlink, length_of-unlink_other, length_of-with_leaf, index_below}

-- ---- a point in the document, at an offset up to its node's length

pub record Placed (f : Forest Content) (x : Point) : Type 0 where
  pub inside : IsWithin f 0 x.label
  pub fits : x.offset ≤ length_of f x.label

pub placed_is : (f : Forest Content) (x : Point) → is_placed f x ≡ true → Placed f x
unfolding is_placed
placed_is f x h =
    let parts = and_parts (is_in_document f x.label) (nat_le x.offset (length_of f x.label)) h in
    record { inside = ltb-true 0 (count_of (tree_of f 0) x.label) parts.0; fits = leb-true x.offset (length_of f x.label) parts.1 }

pub placed_from : (f : Forest Content) (x : Point) → Placed f x → is_placed f x ≡ true
unfolding is_placed
placed_from f x h = and_from (is_in_document f x.label) (nat_le x.offset (length_of f x.label)) (lt-ltb 0 (count_of (tree_of f 0) x.label) h.inside) (le-leb x.offset (length_of f x.label) h.fits)

-- an adjustment that keeps each point placed
abbrev pub Places : range.PointsEdit → Forest Content → Forest Content → Type 0
Places e f g = (x : Point) → Placed f x → Placed g (adjusted e x)

pub pair_placed : (e : range.PointsEdit) (f g : Forest Content) → Places e f g → (p : Pair) → IsPlacedPair f p → IsPlacedPair g (adjusted_pair e p)
pair_placed e f g places p h = record {
  anchor = placed_from g (adjusted e p.anchor) (places p.anchor (placed_is f p.anchor h.anchor));
  focus = placed_from g (adjusted e p.focus) (places p.focus (placed_is f p.focus h.focus));
}

some_placed : (e : range.PointsEdit) (f g : Forest Content) → Places e f g → (o : Option Pair) → IfSome o (IsPlacedPair f) → IfSome (option_map (adjusted_pair e) o) (IsPlacedPair g)
some_placed e f g places None h = tt
some_placed e f g places (Some p) h = pair_placed e f g places p h

pub mapped_placed : (e : range.PointsEdit) (f g : Forest Content) → Places e f g → (points : LivePoints) → IsPlaced f points → IsPlaced g (mapped e points)
mapped_placed e f g places points h = record {
  selection = some_placed e f g places points.selection h.selection;
  scratch = some_placed e f g places points.scratch h.scratch;
  marks =
      All-map (λ m. IsPlacedPair g m.1) (at_pair (adjusted_pair e)) points.marks
      (All-weaker (λ m. IsPlacedPair f m.1) (λ m. IsPlacedPair g (adjusted_pair e m.1)) (λ m k. pair_placed e f g places m.1 k) points.marks h.marks);
}

-- a change of the trees that moves no point
abbrev pub Leaves : Forest Content → Forest Content → Type 0
Leaves f g = (x : Point) → Placed f x → Placed g x

pub pair_left : (f g : Forest Content) → Leaves f g → (p : Pair) → IsPlacedPair f p → IsPlacedPair g p
pair_left f g leaves p h = record {
  anchor = placed_from g p.anchor (leaves p.anchor (placed_is f p.anchor h.anchor));
  focus = placed_from g p.focus (leaves p.focus (placed_is f p.focus h.focus));
}

some_left : (f g : Forest Content) → Leaves f g → (o : Option Pair) → IfSome o (IsPlacedPair f) → IfSome o (IsPlacedPair g)
some_left f g leaves None h = tt
some_left f g leaves (Some p) h = pair_left f g leaves p h

pub points_left : (f g : Forest Content) → Leaves f g → (points : LivePoints) → IsPlaced f points → IsPlaced g points
points_left f g leaves points h = record {
  selection = some_left f g leaves points.selection h.selection;
  scratch = some_left f g leaves points.scratch h.scratch;
  marks = All-weaker (λ m. IsPlacedPair f m.1) (λ m. IsPlacedPair g m.1) (λ m k. pair_left f g leaves m.1 k) points.marks h.marks;
}

-- ---- offsets

insert_bound : (i o k : ℕ) → o ≤ k → after_insert i o ≤ k + 1
insert_bound i o k h = grind (arith, nat_tests)

removal_bound : (i o k : ℕ) → i ≤ k → o ≤ k + 1 → after_removal i o ≤ k
removal_bound i o k hi ho = grind (arith, nat_tests)

replacement_bound : (at taken put o n : ℕ) → at + taken ≤ n → o ≤ n → after_replacement at taken put o ≤ at + (put + (n - (at + taken)))
replacement_bound at taken put o n reach ho = grind (arith, nat_tests)

pub index_before_low : (f : Forest Content) (p : ℕ) (b : Option ℕ) → index_before f p b ≤ length (children_of f p)
unfolding index_before
index_before_low f p None = omega arith
index_before_low f p (Some b) = place_in_length (children_of f p) b

-- ---- the labels of a tree

has_label-is : (ls : List ℕ) (l : ℕ) → has_label ls l ≡ nat_lt 0 (times ls l)
has_label-is [] l = refl
has_label-is (x ∷ xs) l = elim (eqb_tells x l) [
  | inl (t, _) ↦ rw t (sym (lt-ltb 0 (1 + times xs l) (omega arith)))
  | inr (t, _) ↦ rw t (has_label-is xs l ∙ ap (nat_lt 0) (omega arith))
]

times-preorder_onto : (f : Forest Content) (ls : List ℕ) (l : ℕ) → times (preorder_onto f ls) l ≡ count_of f l + times ls l
times-preorder_onto Nil ls l = omega arith
times-preorder_onto (Tree m c ks rest) ls l = omega (arith, times-preorder_onto ks (preorder_onto rest ls) l, times-preorder_onto rest ls l)

pub has_label-preorder : (f : Forest Content) (l : ℕ) → has_label (preorder f) l ≡ nat_lt 0 (count_of f l)
has_label-preorder f l = has_label-is (preorder f) l ∙ ap (nat_lt 0) (times-preorder_onto f [] l ∙ (omega arith))

-- ---- the rows of the table of edits and points

-- a point of a node
at_node : (x : Point) (l : ℕ) → x.label ≡ l → eqb x.label l ≡ true
at_node x l e = eq-eqb x.label l e

module _ (f : Forest Content) (next : ℕ) (is : IsForest f next) where
  pub places-inserted : (p : ℕ) (b : Option ℕ) (n : ℕ) → CanPut f p b n → is_parent_at f p ≡ true → Places (range.Insert p (index_before f p b)) f (link f p b n)
  places-inserted p b n can parent x h =
      let inside = within-link f next is p b n x.label can h.inside in
      elim (eqb_tells x.label p) [
        | inl (t, e) ↦ rw t (record {
          inside = inside;
          fits = (
              let more : length_of (link f p b n) x.label ≡ length_of f x.label + 1 = subst (λ l. length_of (link f p b n) l ≡ length_of f l + 1) (sym e) (length_of-link f next is p b n can parent) in
              omega (arith, more, insert_bound (index_before f p b) x.offset (length_of f x.label) h.fits));
        })
        | inr (t, off) ↦ rw t (record {
          inside = inside;
          fits = omega (arith, h.fits, length_of-link_other f next is p b n x.label can (λ e. off (sym e)));
        })
      ]

  pub places-removed : (o n : ℕ) → parent_of f n ≡ Some o → Places (range.Remove (preorder (tree_of f n)) o (index_of f n)) f (unlink f n)
  places-removed o n child x h = by_count (count_of (tree_of f n) x.label) refl
    where
      less : length_of (unlink f n) o + 1 ≡ length_of f o
      less = length_of-unlink f next is o n child

      low : index_of f n < length_of f o
      low = index_below f next is o n child

      apart : count_of (tree_of f n) o ≡ 0
      apart = by_zero (count_of (tree_of f n) o) refl
        where
          by_zero : (k : ℕ) → count_of (tree_of f n) o ≡ k → k ≡ 0
          by_zero zero e = refl
          by_zero (suc k) e = absurd (parent_apart f n o is.distinct child (omega (arith, e)))

      by_count : (k : ℕ) → count_of (tree_of f n) x.label ≡ k → Placed (unlink f n) (adjusted (range.Remove (preorder (tree_of f n)) o (index_of f n)) x)
      by_count (suc k) e =
          let listed : has_label (preorder (tree_of f n)) x.label ≡ true = has_label-preorder (tree_of f n) x.label ∙ lt-ltb 0 (count_of (tree_of f n) x.label) (omega (arith, e)) in
          let up = within_above f next is o n child (within_inside f next is o n x.label child (omega (arith, e)) h.inside) in
          rw listed (record { inside = within-unlink f next is o n o child apart up; fits = omega (arith, less, low) })
      by_count zero e =
          let unlisted : has_label (preorder (tree_of f n)) x.label ≡ false = has_label-preorder (tree_of f n) x.label ∙ le-ltb 0 (count_of (tree_of f n) x.label) (omega (arith, e)) in
          let inside = within-unlink f next is o n x.label child e h.inside in
          rw unlisted (elim (eqb_tells x.label o) [
            | inl (t, at) ↦ rw t (record {
              inside = inside;
              fits = (
                  let less' : length_of (unlink f n) x.label + 1 ≡ length_of f x.label = subst (λ l. length_of (unlink f n) l + 1 ≡ length_of f l) (sym at) less in
                  let low' : index_of f n < length_of f x.label = subst (λ l. index_of f n < length_of f l) (sym at) low in
                  removal_bound (index_of f n) x.offset (length_of (unlink f n) x.label) (omega (arith, less', low')) (omega (arith, less', h.fits)));
            })
            | inr (t, off) ↦ rw t (record {
              inside = inside;
              fits = omega (arith, h.fits, length_of-unlink_other f next is o n x.label child (λ e. off (sym e)));
            })
          ])

  pub places-moved : (o n p : ℕ) (b : Option ℕ) → parent_of f n ≡ Some o → CanPut (unlink f n) p b n → count_of (tree_of f n) p ≡ 0 → is_parent_at f p ≡ true → (IsWithin f 0 n → IsWithin f 0 p) → Places (range.Move (record { label = o; offset = index_of f n }) (record { label = p; offset = index_before (unlink f n) p b })) f (link (unlink f n) p b n)
  places-moved o n p b child can apart parent goes x h = elim (eqb_tells o p) [
    | inl (t, e) ↦ rw t (within_one e)
    | inr (t, off) ↦ rw t (between off)
  ]
    where
      loose : IsForest (unlink f n) next
      loose = forest-unlink f next is o n child

      stays : (l : ℕ) → IsWithin f 0 l → IsWithin (link (unlink f n) p b n) 0 l
      stays l k = within-move f next is o n p b l child can apart goes k

      less : length_of (unlink f n) o + 1 ≡ length_of f o
      less = length_of-unlink f next is o n child

      low : index_of f n < length_of f o
      low = index_below f next is o n child

      parent' : is_parent_at (unlink f n) p ≡ true
      parent' = parent_at-unlink f next is o n p child parent

      more : length_of (link (unlink f n) p b n) p ≡ length_of (unlink f n) p + 1
      more = length_of-link (unlink f n) next loose p b n can parent'

      other : (l : ℕ) → p ≢ l → length_of (link (unlink f n) p b n) l ≡ length_of (unlink f n) l
      other l off = length_of-link_other (unlink f n) next loose p b n l can off

      kept : (l : ℕ) → o ≢ l → length_of (unlink f n) l ≡ length_of f l
      kept l off = length_of-unlink_other f next is o n l child off

      to_low : index_before (unlink f n) p b ≤ length_of (unlink f n) p
      to_low = omega (arith, index_before_low (unlink f n) p b, length_of-parent (unlink f n) p parent')

      -- a move within one parent
      within_one : o ≡ p → Placed (link (unlink f n) p b n) (cond (eqb x.label o) (with_offset x (after_insert (index_before (unlink f n) p b) (after_removal (index_of f n) x.offset))) x)
      within_one same = elim (eqb_tells x.label o) [
        | inl (t, at) ↦ rw t (record {
          inside = stays x.label h.inside;
          fits = (
              let all : length_of (link (unlink f n) p b n) x.label ≡ length_of f x.label =
              subst (λ l. length_of (link (unlink f n) p b n) l ≡ length_of f l) (sym at) (subst (λ l. length_of (link (unlink f n) p b n) l ≡ length_of f o) (sym same) (more ∙ subst (λ l. length_of (unlink f n) l + 1 ≡ length_of f o) same less)) in
              let low' : index_of f n < length_of f x.label = subst (λ l. index_of f n < length_of f l) (sym at) low in
              let less' : length_of (unlink f n) x.label + 1 ≡ length_of f x.label = subst (λ l. length_of (unlink f n) l + 1 ≡ length_of f l) (sym at) less in
              let first = removal_bound (index_of f n) x.offset (length_of (unlink f n) x.label) (omega (arith, low', less')) (omega (arith, h.fits, less')) in
              let second = insert_bound (index_before (unlink f n) p b) (after_removal (index_of f n) x.offset) (length_of (unlink f n) x.label) first in
              omega (arith, all, less', second));
        })
        | inr (t, off) ↦ rw t (record {
          inside = stays x.label h.inside;
          fits = omega (arith, h.fits, kept x.label (λ e. off (sym e)), other x.label (λ e. off (sym e ∙ sym same)));
        })
      ]

      -- a move from one parent to another
      lost : o ≢ p → x.label ≡ o → Placed (link (unlink f n) p b n) (after_loss (record { label = o; offset = index_of f n }) (record { label = p; offset = index_before (unlink f n) p b }) x)
      lost off at = elim (eqb_tells x.offset (index_of f n)) [
        | inl (t, _) ↦ rw t (record { inside = stays p to; fits = omega (arith, to_low, more) })
        | inr (t, _) ↦ rw t (elim (eqb_tells x.offset (index_of f n + 1)) [
          | inl (u, _) ↦ rw u (record { inside = stays p to; fits = omega (arith, to_low, more) })
          | inr (u, _) ↦ rw u (record {
            inside = stays x.label h.inside;
            fits = (
                let low' : index_of f n < length_of f x.label = subst (λ l. index_of f n < length_of f l) (sym at) low in
                let less' : length_of (unlink f n) x.label + 1 ≡ length_of f x.label = subst (λ l. length_of (unlink f n) l + 1 ≡ length_of f l) (sym at) less in
                omega (arith, other x.label (λ e. off (sym (e ∙ at))), removal_bound (index_of f n) x.offset (length_of (unlink f n) x.label) (omega (arith, low', less')) (omega (arith, h.fits, less'))));
          })
        ])
      ]
        where
          to : IsWithin f 0 p
          to = goes (within_below f next is o n child (subst (λ l. IsWithin f 0 l) at h.inside))

      between : o ≢ p → Placed (link (unlink f n) p b n) (cond (eqb x.label o) (after_loss (record { label = o; offset = index_of f n }) (record { label = p; offset = index_before (unlink f n) p b }) x) (cond (eqb x.label p) (with_offset x (after_insert (index_before (unlink f n) p b) x.offset)) x))
      between off = elim (eqb_tells x.label o) [
        | inl (t, at) ↦ rw t (lost off at)
        | inr (t, off_o) ↦ rw t (elim (eqb_tells x.label p) [
          | inl (u, at) ↦ rw u (record {
            inside = stays x.label h.inside;
            fits = (
                let more' : length_of (link (unlink f n) p b n) x.label ≡ length_of (unlink f n) x.label + 1 = subst (λ l. length_of (link (unlink f n) p b n) l ≡ length_of (unlink f n) l + 1) (sym at) more in
                omega (arith, more', kept x.label (λ e. off_o (sym e)), insert_bound (index_before (unlink f n) p b) x.offset (length_of f x.label) h.fits));
          })
          | inr (u, off_p) ↦ rw u (record {
            inside = stays x.label h.inside;
            fits = omega (arith, h.fits, other x.label (λ e. off_p (sym e)), kept x.label (λ e. off_o (sym e)));
          })
        ])
      ]

  -- ---- contents

  pub length_of-revised_other : (n l : ℕ) (g : Content → Content) → n ≢ l → length_of (revised f n g) l ≡ length_of f l
  length_of-revised_other n l g off =
      let other : eqb n l ≡ false = ne_eqb n l off in
      rw (content_of-revised n g f l, children_of-revised n g f l, other) (same (content_of f l))
    where
      same : (o : Option Content) → option_map_or (λ c. length_in c (children_of f l)) (option_map (λ c. c) o) 0 ≡ option_map_or (λ c. length_in c (children_of f l)) o 0
      same None = refl
      same (Some c) = refl

  -- a change of content that changes no length
  pub leaves-revised : (n : ℕ) (g : Content → Content) → ((c : Content) (kids : List ℕ) → length_in (g c) kids ≡ length_in c kids) → Leaves f (revised f n g)
  leaves-revised n g same x h = record { inside = within-revised f next is n x.label g h.inside; fits = omega (arith, h.fits, equal) }
    where
      each : (v : Bool) (o : Option Content) → option_map_or (λ c. length_in c (children_of f x.label)) (option_map (λ c. cond v (g c) c) o) 0 ≡ option_map_or (λ c. length_in c (children_of f x.label)) o 0
      each v None = refl
      each true (Some c) = same c (children_of f x.label)
      each false (Some c) = refl

      equal : length_of (revised f n g) x.label ≡ length_of f x.label
      equal = rw (content_of-revised n g f x.label, children_of-revised n g f x.label) (each (eqb n x.label) (content_of f x.label))

  pub leaves-with_leaf : (c : Content) → Leaves f (with_leaf f next c)
  leaves-with_leaf c x h = record {
    inside = within-with_leaf f next is next x.label c h.inside;
    fits = omega (arith, h.fits, length_of-with_leaf f next is c x.label off);
  }
    where
      off : next ≢ x.label
      off e = (let b = is.below x.label (omega (arith, h.inside, total-without (λ m _. cond (eqb m x.label) 1 0) f 0)) in omega (arith, b, e))

  pub places-replaced : (n at count : ℕ) (put chars : List ℕ) → content_of f n ≡ Some (Words chars) → at + count ≤ length chars → Places (range.Replace n at count (length put)) f (revised f n (with_replaced at count put))
  places-replaced n at count put chars content reach x h = elim (eqb_tells x.label n) [
    | inl (t, e) ↦ rw t (record {
      inside = within-revised f next is n x.label (with_replaced at count put) h.inside;
      fits = (
          let was : length_of f x.label ≡ length chars = subst (λ l. length_of f l ≡ length chars) (sym e) old in
          let now : length_of (revised f n (with_replaced at count put)) x.label ≡ length (spliced chars at count put) = subst (λ l. length_of (revised f n (with_replaced at count put)) l ≡ length (spliced chars at count put)) (sym e) new in
          omega (arith, now, length-spliced, replacement_bound at count (length put) x.offset (length chars) reach (omega (arith, h.fits, was))));
    })
    | inr (t, off) ↦ rw t (record {
      inside = within-revised f next is n x.label (with_replaced at count put) h.inside;
      fits = omega (arith, h.fits, length_of-revised_other n x.label (with_replaced at count put) (λ e. off (sym e)));
    })
  ]
    where
      old : length_of f n ≡ length chars
      old = rw content refl

      own : eqb n n ≡ true
      own = eq-eqb n n refl

      new : length_of (revised f n (with_replaced at count put)) n ≡ length (spliced chars at count put)
      new = rw (content_of-revised n (with_replaced at count put) f n, own, content) refl

      length-spliced : length (spliced chars at count put) ≡ at + (length put + (length chars - (at + count)))
      length-spliced = omega (arith, length-append (take at chars) (put ++ drop (at + count) chars), length-append put (drop (at + count) chars), length-drop (at + count) chars, length-take at chars)

  -- ---- selecting steps

  pub places-grown : (at : Point) → IsWithin f 0 at.label → at.offset < length_of f at.label → Places (range.Grown at) f f
  places-grown at inside room x h = elim (eqb_tells x.label at.label) [
    | inl (t, e) ↦ elim (eqb_tells x.offset at.offset) [
      | inl (u, same) ↦ rw (t, u) (record { inside = h.inside; fits = (let room' : at.offset < length_of f x.label = subst (λ l. at.offset < length_of f l) (sym e) room in omega (arith, room', same)) })
      | inr (u, _) ↦ rw (t, u) h
    ]
    | inr (t, _) ↦ rw t h
  ]

  pub places-sent : (n at tail : ℕ) → IsWithin f 0 tail → length_of f n ≤ at + length_of f tail → Places (range.Split n at tail n 0) f f
  places-sent n at tail inside reach x h = elim (eqb_tells x.label n) [
    | inl (t, e) ↦ rw t (elim (cases_lt at x.offset) [
      | inl past ↦ rw (lt-ltb at x.offset past) (record { inside = inside; fits = (let fits : x.offset ≤ length_of f n = subst (λ l. x.offset ≤ length_of f l) e h.fits in omega (arith, fits, reach)) })
      | inr low ↦ rw (le-ltb at x.offset low) h
    ])
    | inr (t, _) ↦ rw t h
  ]
