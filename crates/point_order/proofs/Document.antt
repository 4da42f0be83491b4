-- Which labels are in the document.
use Rattle.std.proofs.Common.{◌≡◌, ◌↔◌, ℕ, Bool, true, false, cond, ◌&&◌, refl, sym, arith, eqb, nat_le}
use Rattle.std.proofs.lemmas.Bool.{le-ltb, ltb_from_iff}
use Rattle.node_arena.specs.DomModel.declared.Content.{Content}
use Rattle.node_arena.specs.DomModel.Forest.{Forest, count_of, tree_of, IsWithin}
use Rattle.node_arena.specs.DomModel.Contents.{length_of}
use Rattle.node_arena.proofs.DomModel.Totals.{total-without}
use Rattle.live_range.specs.declared.places.Point.{Point}
use Rattle.point_order.specs.PointOrder.{is_in_document, is_placed}

-- a label that stands nowhere isn't
pub absent : (f : Forest Content) (l : ℕ) → count_of f l ≡ 0 → false ≡ is_in_document f l
absent f l none =
    sym (le-ltb 0 (count_of (tree_of f 0) l) (omega (arith, total-without (λ m _. cond (eqb m l) 1 0) f 0, none)))

-- a label that stands below the Document is
pub inside : (f : Forest Content) (b : Bool) (top l m : ℕ) → top ≡ 0 → l ≡ m → ((b ≡ true) ↔ IsWithin f top l) → b ≡ is_in_document f m
inside f b top l m at is both = let both' = rw (at, is) at both in ltb_from_iff both'

module _ (f : Forest Content) (p : Point) where
  pub placed : (b t : Bool) → b ≡ is_in_document f p.label → t ≡ nat_le p.offset (length_of f p.label) → (b && t) ≡ is_placed f p
  unfolding is_placed
  placed b t e at = rw (e, at) refl

  pub not_placed : (b : Bool) → b ≡ is_in_document f p.label → b ≡ false → b ≡ is_placed f p
  unfolding is_placed
  not_placed b e off = rw (sym e) (rw off refl)
