-- A state without its loose trees is valid, and so are the views that the history keeps.
use Rattle.std.proofs.Common.{◌≡◌, ℕ, ◌≤◌, cond, eqb, [], length, Option, Some, None, refl, sym, ap, subst, ◌∙◌, inl, inr, arith}
use Rattle.std.specs.Option.{option_map, option_map_or}
use Rattle.std.proofs.lemmas.Bool.Decides.{eqb_tells}
use Rattle.point_order.specs.DomModel.declared.Content.{Content}
use Rattle.point_order.specs.DomModel.Contents.{length_of, length_in}
use Rattle.point_order.specs.DomModel.Forest.{Forest, Seen, seek, either, count_of, tree_of, parent_of, IsDistinct, IsWithin, RisesFrom}
use Rattle.point_order.specs.DomModel.Forest.Forest.{Nil, Tree}
use Rattle.point_order.proofs.DomModel.Totals.{total-without}
use Rattle.point_order.proofs.DomModel.Stands.{Stands-count, seek_Stands}
use Rattle.point_order.proofs.DomModel.Within.{within_self}
use Rattle.edit_model.specs.State.{State}
use Rattle.edit_model.specs.Overrides.{no_overrides}
use Rattle.edit_model.specs.History.{View, view_of, at_view, rested}
use Rattle.edit_model.specs.Valid.{IsForest, IsValid, IsView}
use Rattle.edit_model.proofs.Documents.{document_shape}
use Rattle.edit_model.proofs.Points.{Leaves, points_left}

-- ---- the first tree alone

either_first : {A : Type 0} (o p : Option A) (x : A) → either o None ≡ Some x → either o p ≡ Some x
either_first None p x e = absurd (let t : None ≡ Some x = e in cc)
either_first (Some y) p x e = e

module _ {C : Type 0} where
  -- what is found in the first tree is found in the whole
  seek_first : (c : C) (ks rest : Forest C) (l : ℕ) (s : Seen C) → seek None (Tree 0 c ks Nil) l ≡ Some s → seek None (Tree 0 c ks rest) l ≡ Some s
  seek_first c ks rest l s e = elim (eqb_tells 0 l) [
    | inl (t, _) ↦ (let e' = rw t at e in rw t e')
    | inr (t, _) ↦ (let e' = rw t at e in rw t (either_first (seek (Some 0) ks l) (seek None rest l) s e'))
  ]

pub seek_document : (f : Forest Content) (next l : ℕ) (s : Seen Content) → IsForest f next → seek None (tree_of f 0) l ≡ Some s → seek None f l ≡ Some s
seek_document f next l s is =
    let d = document_shape f next is in
    subst (λ g. seek None (tree_of g 0) l ≡ Some s → seek None g l ≡ Some s) (sym d.3) (seek_first d.0 d.1 d.2 l s)

module _ (f : Forest Content) (next : ℕ) (is : IsForest f next) where
  document_le : (l : ℕ) → count_of (tree_of f 0) l ≤ count_of f l
  document_le l = omega (arith, total-without (λ m _. cond (eqb m l) 1 0) f 0)

  document_distinct : IsDistinct (tree_of f 0)
  document_distinct l = omega (arith, is.distinct l, document_le l)

  pub forest-document : IsForest (tree_of f 0) next
  forest-document = record {
    distinct = λ l. document_distinct l;
    rising = (let d = document_shape f next is in subst (λ g. RisesFrom 0 (tree_of g 0)) (sym d.3) (omega arith, tt));
    below = λ l h. is.below l (omega (arith, h, document_le l));
    document = within_self f 0 is.distinct is.document;
    root = (let d = document_shape f next is in subst (λ g. parent_of (tree_of g 0) 0 ≡ None) (sym d.3) refl);
    nodes = λ l s e. is.nodes l s (seek_document f next l s is e);
  }

  same_seek : (l : ℕ) → IsWithin f 0 l → seek None (tree_of f 0) l ≡ seek None f l
  same_seek l here =
      let t = Stands-count None (tree_of f 0) l here in
      let found = seek_Stands None (tree_of f 0) l t.0 (document_distinct l) t.1 in
      found ∙ sym (seek_document f next l t.0 is found)

  pub length_of-document : (l : ℕ) → IsWithin f 0 l → length_of (tree_of f 0) l ≡ length_of f l
  length_of-document l here = ap (λ (o : Option (Seen Content)). option_map_or (λ c. length_in c (option_map_or (λ s. s.children) o [])) (option_map (λ s. s.content) o) 0) (same_seek l here)

  pub leaves-document : Leaves f (tree_of f 0)
  leaves-document x h = record {
    inside = (let d = document_shape f next is in subst (λ g. IsWithin g 0 x.label → IsWithin (tree_of g 0) 0 x.label) (sym d.3) (λ k. k) h.inside);
    fits = omega (arith, h.fits, length_of-document x.label h.inside);
  }

-- ---- outside commands

pub valid_rested : (s : State) → IsValid s → IsValid (rested s)
unfolding rested
valid_rested s is =
    let placed = points_left s.trees (tree_of s.trees 0) (leaves-document s.trees s.next is.forest) s.points is.placed in
    record {
      forest = forest-document s.trees s.next is.forest;
      placed = record { selection = placed.selection; scratch = tt; marks = placed.marks };
      started = omega arith;
      settings = is.settings;
    }

pub view_valid : (s : State) → IsValid s → IsView (view_of s) s.next
unfolding view_of
view_valid s is =
    let placed = points_left s.trees (tree_of s.trees 0) (leaves-document s.trees s.next is.forest) s.points is.placed in
    record { forest = forest-document s.trees s.next is.forest; selection = placed.selection; marks = placed.marks }

-- a view stays valid as labels are drawn
pub view_later : (v : View) (next later : ℕ) → next ≤ later → IsView v next → IsView v later
view_later v next later h is = record {
  forest = record {
    distinct = is.forest.distinct;
    rising = is.forest.rising;
    below = λ l k. (let b = is.forest.below l k in omega (arith, b, h));
    document = is.forest.document;
    root = is.forest.root;
    nodes = is.forest.nodes;
  };
  selection = is.selection;
  marks = is.marks;
}

none_length : length no_overrides ≡ 32
unfolding no_overrides
none_length = refl

pub valid_at_view : (v : View) (s : State) → IsView v s.next → s.start ≤ s.next → IsValid (at_view v s)
unfolding at_view
valid_at_view v s is started = record {
  forest = is.forest;
  placed = record { selection = is.selection; scratch = tt; marks = is.marks };
  started = started;
  settings = none_length;
}
