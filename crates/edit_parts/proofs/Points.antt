-- Points that an edit leaves where they are.
use Rattle.std.proofs.Common.{◌≡◌, ◌≢◌, ◌⊎◌, ℕ, Bool, true, false, ◌||◌, List, [], ◌∷◌, ◌++◌, map, cond, Option, Some, None, refl, sym, ap, ◌∙◌, inl, inr, eqb}
use Rattle.std.specs.List.{list_any, flat_map}
use Rattle.std.specs.Option.{option_map}
use Rattle.std.proofs.lemmas.Bool.Decides.{eqb_tells}
use Rattle.edit_model.specs.LiveRange.declared.places.Point.{Point}
use Rattle.edit_model.specs.LiveRange.declared.places.Pair.{Pair}
use Rattle.edit_model.specs.LiveRange.PointsEdit.{PointsEdit, Insert, Remove, Grown, adjusted, adjusted_pair, has_label}
use Rattle.edit_model.specs.LiveRange.LivePoints.{LivePoints, at_pair, labels_of, mapped, option_labels, pair_labels}
use Rattle.edit_model.specs.DomModel.declared.Content.{Content}
use Rattle.edit_model.specs.DomModel.Forest.{Forest, preorder, tree_of}
use Rattle.edit_model.specs.DomModel.Places.{index_of}
use Rattle.edit_parts.specs.declared.following.Removal.{Removal}
use Rattle.edit_parts.specs.Following.{IsRemoval}
use Rattle.edit_parts.proofs.Standing.{has_label-append}

in_left : (a b : Bool) → a ≡ true → (a || b) ≡ true
in_left a b e = rw e refl

in_right : (a b : Bool) → b ≡ true → (a || b) ≡ true
in_right true b e = refl
in_right false b e = e

first_of_two : (x y : ℕ) → has_label (x ∷ y ∷ []) x ≡ true
first_of_two x y = elim (eqb_tells x x) [ inl (t, _) ↦ rw t refl | inr (_, off) ↦ absurd (off refl) ]

second_of_two : (x y : ℕ) → has_label (x ∷ y ∷ []) y ≡ true
second_of_two x y = elim (eqb_tells y y) [ inl (t, _) ↦ rw t (in_right (eqb x y) true refl) | inr (_, off) ↦ absurd (off refl) ]

-- the edit leaves every point of a listed label
abbrev pub Leaves : PointsEdit → List ℕ → Type 0
Leaves e labels = (p : Point) → has_label labels p.label ≡ true → adjusted e p ≡ p

module _ (e : PointsEdit) where
  left : (xs ys : List ℕ) → Leaves e (xs ++ ys) → Leaves e xs
  left xs ys h p is = h p (has_label-append xs ys p.label ∙ in_left _ _ is)

  right : (xs ys : List ℕ) → Leaves e (xs ++ ys) → Leaves e ys
  right xs ys h p is = h p (has_label-append xs ys p.label ∙ in_right _ _ is)

  pair_same : (p : Pair) → Leaves e (pair_labels p) → adjusted_pair e p ≡ p
  pair_same p h =
      let a : adjusted e p.anchor ≡ p.anchor = h p.anchor (first_of_two p.anchor.label p.focus.label) in
      let b : adjusted e p.focus ≡ p.focus = h p.focus (second_of_two p.anchor.label p.focus.label) in
      ap (λ (x : Point). record { anchor = x; focus = adjusted e p.focus }) a ∙ ap (λ (x : Point). record { anchor = p.anchor; focus = x }) b

  option_same : (o : Option Pair) → Leaves e (option_labels o) → option_map (adjusted_pair e) o ≡ o
  option_same None h = refl
  option_same (Some p) h = ap Some (pair_same p h)

  marks_same : (ms : List (List ℕ × Pair)) → Leaves e (flat_map (λ m. pair_labels m.1) ms) → map (at_pair (adjusted_pair e)) ms ≡ ms
  marks_same [] h = refl
  marks_same (m ∷ ms) h =
      let own = pair_same m.1 (left (pair_labels m.1) (flat_map (λ (n : List ℕ × Pair). pair_labels n.1) ms) h) in
      let more = marks_same ms (right (pair_labels m.1) (flat_map (λ (n : List ℕ × Pair). pair_labels n.1) ms) h) in
      ap (λ (q : Pair). (m.0, q) ∷ map (at_pair (adjusted_pair e)) ms) own ∙ ap (λ r. m ∷ r) more

  -- an edit that leaves every point leaves all of them
  pub mapped_same : (s : LivePoints) → Leaves e (labels_of s) → s ≡ mapped e s
  mapped_same s h =
      let pairs = left (option_labels s.selection ++ option_labels s.scratch) (flat_map (λ (m : List ℕ × Pair). pair_labels m.1) s.marks) h in
      let one = option_same s.selection (left (option_labels s.selection) (option_labels s.scratch) pairs) in
      let two = option_same s.scratch (right (option_labels s.selection) (option_labels s.scratch) pairs) in
      let three = marks_same s.marks (right (option_labels s.selection ++ option_labels s.scratch) (flat_map (λ (m : List ℕ × Pair). pair_labels m.1) s.marks) h) in
      sym (
      ap (λ o. record s { selection = o; scratch = option_map (adjusted_pair e) s.scratch; marks = map (at_pair (adjusted_pair e)) s.marks }) one
      ∙ (ap (λ o. record s { scratch = o; marks = map (at_pair (adjusted_pair e)) s.marks }) two
      ∙ ap (λ m. record s { marks = m }) three))

-- where no point stands at the parent an insertion leaves them
pub inserted_same : (s : LivePoints) (parent index : ℕ) → has_label (labels_of s) parent ≡ false → s ≡ mapped (Insert parent index) s
inserted_same s parent index off = mapped_same (Insert parent index) s (λ p is. elim (eqb_tells p.label parent) [
  | inl (_, at) ↦ absurd (let is' = rw at at is in cc)
  | inr (t, _) ↦ rw t refl
])

-- where no point stands at a node none grows there
pub grown_same : (s : LivePoints) (at : Point) → has_label (labels_of s) at.label ≡ false → s ≡ mapped (Grown at) s
grown_same s at off = mapped_same (Grown at) s (λ p is. elim (eqb_tells p.label at.label) [
  | inl (_, same) ↦ absurd (let is' = rw same at is in cc)
  | inr (t, _) ↦ rw t refl
])

-- where no point stands in the tree or at its parent a removal leaves them
pub removed_same : (s : LivePoints) (r : Removal) (f : Forest Content) (n p : ℕ) → r.place ≡ None → IsRemoval f s n p r → s ≡ mapped (Remove (preorder (tree_of f n)) p (index_of f n)) s
removed_same s r f n p none is = mapped_same (Remove (preorder (tree_of f n)) p (index_of f n)) s (λ x here.
    let off = is.apart none x.label here in
    elim (eqb_tells x.label p) [
      | inl (_, at) ↦ absurd (off.1 at)
      | inr (t, _) ↦ rw (off.0, t) refl
    ])
