-- The steps of a tail end by themselves: each child has fewer nodes than its parent.
use Rattle.std.proofs.Common.{◌≡◌, ℕ, zero, suc, ◌+◌, ◌<◌, ◌≤◌, true, false, eqb, [], ◌∷◌, ◌++◌, drop, Option, Some, None, refl, sym, ap, ◌∙◌, inl, inr, arith}
use Rattle.std.specs.Option.{option_map_or}
use Rattle.std.proofs.lemmas.Bool.{cases_Bool, ne_eqb}
use Rattle.point_order.specs.DomModel.declared.Content.{Content}
use Rattle.point_order.specs.DomModel.Forest.{Forest, total, count_of, tree_of, parent_of, children_of, IsDistinct}
use Rattle.point_order.specs.DomModel.Forest.Forest.{Nil, Tree}
use Rattle.point_order.proofs.DomModel.Totals.{total-without}
use Rattle.point_order.proofs.DomModel.Links.{tree_is, parent_count, join-Nil}
use Rattle.point_order.proofs.DomModel.Stands.{seek_absent}
use Rattle.point_order.proofs.DomModel.Within.{within_child, within_self}
use Rattle.point_order.proofs.DomModel.Move.{parent_apart}
use Rattle.point_order.specs.LiveRange.declared.places.Point.{Point}
use Rattle.point_order.specs.PointOrder.{is_within, child_toward}
use Rattle.edit_model.specs.State.{State}
use Rattle.edit_model.specs.Edit.{Insert}
use Rattle.edit_model.specs.Tail.{Copy, Do, carried, later, copy_of, tail_steps, document_size}
use Rattle.edit_model.specs.Action.{tail_of, may_extract}
use Rattle.edit_model.specs.Valid.{IsValid}
use Rattle.edit_model.proofs.Trees.{none_or_some, tree_of-inside}
use Rattle.edit_model.proofs.TailPlan.{parent_among, find_some}
use Rattle.edit_model.proofs.TailSteps.{extract_tests}

-- how many nodes the tree of a label has
abbrev pub size_at : Forest Content → ℕ → ℕ
size_at f l = total (λ _ _. 1) (tree_of f l)

module _ (f : Forest Content) (once : IsDistinct f) (from : Point) where
  pub size_child : (c k : ℕ) → parent_of f k ≡ Some c → size_at f k < size_at f c
  size_child c k child =
      let known = (parent_count f k c once child).1 in
      let t = tree_is f c (omega (arith, once c, known)) in
      let inside = within_child f c once known k c child (within_self f c once known) in
      let off : eqb c k ≡ false = ne_eqb c k (λ e. parent_apart f c c once (ap (parent_of f) e ∙ child) (within_self f c once known)) in
      let same : tree_of (tree_of f c) k ≡ tree_of f k = tree_of-inside f c k once inside in
      let at : tree_of (Tree c t.0 t.1 Nil) k ≡ tree_of f k = ap (λ g. tree_of g k) (sym t.2) ∙ same in
      let low : total (λ _ _. 1) (tree_of (Tree c t.0 t.1 Nil) k) ≤ total (λ _ _. 1) t.1 = rw (off, join-Nil (tree_of t.1 k)) (omega (arith, total-without (λ _ _. 1) t.1 k)) in
      omega (arith, low, ap (total (λ _ _. 1)) at, ap (total (λ _ _. 1)) t.2)

  size_known : (c : ℕ) → size_at f c ≤ 0 → count_of f c ≡ 0
  size_known c small = elim (none_or_some (count_of f c)) [
    | inl none ↦ none
    | inr known ↦ absurd (let t = tree_is f c (omega (arith, once c, known)) in omega (arith, small, ap (total (λ _ _. 1)) t.2))
  ]

  carried_none : (d n : ℕ) → carried d (drop n []) ≡ []
  unfolding carried
  carried_none d zero = refl
  carried_none d (suc n) = refl

  none_below : (fuel c d n : ℕ) → count_of f c ≡ 0 → tail_steps fuel f from c d n ≡ []
  unfolding tail_steps
  none_below zero c d n none = refl
  none_below (suc fuel) c d n none =
      let kids : children_of f c ≡ [] = ap (λ o. option_map_or (λ s. s.children) o []) (seek_absent None f c none) in
      elim (cases_Bool (eqb from.label c)) [
        | inl t ↦ rw (t, kids) (carried_none d from.offset)
        | inr t ↦ rw (t, kids) refl
      ]

  abbrev Inner : ℕ → ℕ → ℕ → Type 0
  Inner i j n = (k : ℕ) → size_at f k ≤ i → size_at f k ≤ j → tail_steps i f from k n (n + 1) ≡ tail_steps j f from k n (n + 1)

  pub same_steps : (i j c d n : ℕ) → size_at f c ≤ i → size_at f c ≤ j → tail_steps i f from c d n ≡ tail_steps j f from c d n
  unfolding tail_steps
  same_steps zero j c d n low high = sym (none_below j c d n (size_known c low))
  same_steps (suc i) zero c d n low high = none_below (suc i) c d n (size_known c high)
  same_steps (suc i) (suc j) c d n low high = elim (cases_Bool (eqb from.label c)) [
    | inl t ↦ rw t refl
    | inr t ↦ rw t (toward (λ k a b. same_steps i j k n (n + 1) a b) (child_toward f c from.label) refl)
  ]
    where
      toward : Inner i j n → (o : Option ℕ) → child_toward f c from.label ≡ o → option_map_or (λ k. Copy (copy_of f k) ∷ (tail_steps i f from k n (n + 1) ++ (Do (Insert d None n) ∷ carried d (later (children_of f c) k)))) o [] ≡ option_map_or (λ k. Copy (copy_of f k) ∷ (tail_steps j f from k n (n + 1) ++ (Do (Insert d None n) ∷ carried d (later (children_of f c) k)))) o []
      toward inner None e = refl
      toward inner (Some k) e =
          let r = find_some (λ j. is_within f j from.label) (children_of f c) k e in
          let less = size_child c k (parent_among f once c k r.1) in
          ap (λ xs. Copy (copy_of f k) ∷ (xs ++ (Do (Insert d None n) ∷ carried d (later (children_of f c) k)))) (inner k (omega (arith, less, low)) (omega (arith, less, high)))

pub tails_end : (s : State) (from : Point) (end target fuel : ℕ) → IsValid s → may_extract s from end target ≡ true → document_size s.trees ≤ fuel → tail_steps fuel s.trees from end target s.next ≡ tail_of s from end target
unfolding tail_of
tails_end s from end target fuel is may enough =
    let f = s.trees in
    let once = is.forest.distinct in
    let inside = (extract_tests s from end target may).end_inside in
    let part = total-without (λ _ _. 1) (tree_of f 0) end in
    let few : size_at f end ≤ document_size f = omega (arith, part, ap (total (λ _ _. 1)) (tree_of-inside f 0 end once inside)) in
    same_steps f once from fuel (document_size f) end target s.next (omega (arith, few, enough)) few
