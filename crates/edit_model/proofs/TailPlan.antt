-- What the steps of a tail have in common, by the trees at first.
use Rattle.std.proofs.Common.{◌≡◌, ℕ, zero, suc, ◌+◌, ◌<◌, ◌≤◌, ◌^◌, Bool, true, eqb, List, [], ◌∷◌, ◌++◌, drop, Option, Some, None, IfSome, refl, subst, inl, inr, arith}
use Rattle.std.specs.Prelude.{unwrap_or, codes}
use Rattle.std.specs.Option.{option_map, option_map_or, option_and_then}
use Rattle.std.specs.List.{find}
use Rattle.std.proofs.lemmas.Bool.{cases_Bool, eq-eqb, ltb-true}
use Rattle.point_order.specs.DomModel.declared.Content.{Content}
use Rattle.point_order.specs.DomModel.declared.Content.TheVariants.{Document, Element, Words, Remark}
use Rattle.point_order.specs.DomModel.AttributeList.{IsDistinctNames}
use Rattle.point_order.specs.DomModel.Contents.{IsNode, attributes_in, char_length}
use Rattle.point_order.specs.DomModel.Forest.{Forest, Seen, seek, times, count_of, tree_of, parent_of, children_of, IsDistinct, IsWithin}
use Rattle.point_order.proofs.DomModel.AttributeLemmas.{distinct-nothing, distinct-unset}
use Rattle.point_order.proofs.DomModel.Links.{parent_of_child, found_stands}
use Rattle.point_order.proofs.DomModel.NodesKept.{AreNodes}
use Rattle.point_order.specs.LiveRange.declared.places.Point.{Point}
use Rattle.point_order.specs.PointOrder.{is_within, child_toward}
use Rattle.edit_model.specs.Edit.{Insert, Remove, Move, Replace, Set, Unset}
use Rattle.edit_model.specs.Compositions.{attribute_list_of}
use Rattle.edit_model.specs.Tail.{Step, Copy, Do, carried, later, copy_of, tail_steps}

-- ---- each of a list

abbrev pub AllOf : {A : Type 0} → (A → Type 0) → List A → Type 0
AllOf P [] = Unit {0}
AllOf P (x ∷ xs) = P x × AllOf P xs

pub all_append : {A : Type 0} (P : A → Type 0) (xs ys : List A) → AllOf P xs → AllOf P ys → AllOf P (xs ++ ys)
all_append P [] ys h g = g
all_append P (x ∷ xs) ys h g = (h.0, all_append P xs ys h.1 g)

all_drop : {A : Type 0} (P : A → Type 0) (n : ℕ) (xs : List A) → AllOf P xs → AllOf P (drop n xs)
all_drop P zero xs h = h
all_drop P (suc n) [] h = h
all_drop P (suc n) (x ∷ xs) h = all_drop P n xs h.1

head_in : (x : ℕ) (xs : List ℕ) → 0 < times (x ∷ xs) x
head_in x xs = let t : eqb x x ≡ true = eq-eqb x x refl in rw t (omega arith)

all_times : (P : ℕ → Type 0) (xs : List ℕ) → ((x : ℕ) → 0 < times xs x → P x) → AllOf P xs
all_times P [] h = tt
all_times P (x ∷ xs) h = (h x (head_in x xs), all_times P xs (λ k t. h k (omega (arith, t))))

pub find_some : (p : ℕ → Bool) (xs : List ℕ) (k : ℕ) → find p xs ≡ Some k → (p k ≡ true) × (0 < times xs k)
find_some p [] k e = absurd (let t : None ≡ Some k = e in cc)
find_some p (x ∷ xs) k e = elim (cases_Bool (p x)) [
  | inl t ↦ (
      let e' = rw t at e in
      let same : x ≡ k = (let q = e' in cc) in
      (subst (λ j. p j ≡ true) same t, subst (λ j. 0 < times (x ∷ xs) j) same (head_in x xs)))
  | inr t ↦ (
      let e' = rw t at e in
      let r = find_some p xs k e' in
      (r.0, omega (arith, r.1)))
]

-- a label among the children of a node has that node as its parent
pub parent_among : (f : Forest Content) → IsDistinct f → (p k : ℕ) → 0 < times (children_of f p) k → parent_of f k ≡ Some p
parent_among f once p k h = by_seen (seek None f p) refl h
  where
    by_seen : (o : Option (Seen Content)) → seek None f p ≡ o → 0 < times (option_map_or (λ s. s.children) o []) k → parent_of f k ≡ Some p
    by_seen None e t = absurd (omega (arith, t))
    by_seen (Some s) e t = parent_of_child f p k s once (found_stands f p s once e) t

-- ---- the steps

-- a step that makes such a copy, or removes such a node, or inserts such a node into such a parent
abbrev pub Fits : (Content → Type 0) → (ℕ → Type 0) → (ℕ → Type 0) → Step → Type 0
Fits K N D (Copy c) = K c
Fits K N D (Do (Insert p b n)) = D p × N n
Fits K N D (Do (Remove n)) = N n
Fits K N D (Do (Move n p b)) = ⊥
Fits K N D (Do (Replace n at count put)) = ⊥
Fits K N D (Do (Set n name value)) = ⊥
Fits K N D (Do (Unset n name)) = ⊥

-- what a copy is to a valid state
abbrev pub IsCopy : Content → Type 0
IsCopy c = (c ≡ Document → ⊥) × (char_length c < 2 ^ 32) × IfSome (attributes_in c) IsDistinctNames

-- no two attributes of a node have the same name
pub attributes_distinct : (f : Forest Content) → AreNodes f → (k : ℕ) → IsDistinctNames (attribute_list_of f k)
attributes_distinct f nodes k = by_seen (seek None f k) (nodes k)
  where
    by_content : (c : Content) → IfSome (attributes_in c) IsDistinctNames → IsDistinctNames (unwrap_or (attributes_in c) [])
    by_content Document names = distinct-nothing
    by_content (Element name attributes) names = names
    by_content (Words chars) names = distinct-nothing
    by_content (Remark chars) names = distinct-nothing

    by_seen : (o : Option (Seen Content)) → ((s : Seen Content) → o ≡ Some s → IsNode k s) → IsDistinctNames (unwrap_or (option_and_then attributes_in (option_map (λ s. s.content) o)) [])
    by_seen None node = distinct-nothing
    by_seen (Some s) node = by_content s.content (node s refl).names

pub is_copy : (f : Forest Content) → AreNodes f → (k : ℕ) → IsCopy (copy_of f k)
unfolding copy_of
is_copy f nodes k = ((λ e. cc), omega arith, distinct-unset (attribute_list_of f k) (codes "id") (attributes_distinct f nodes k))

module _ (K : Content → Type 0) (N D : ℕ → Type 0) where
  carried_fits : (d : ℕ) → D d → (xs : List ℕ) → AllOf N xs → AllOf (Fits K N D) (carried d xs)
  unfolding carried
  carried_fits d place [] h = tt
  carried_fits d place (x ∷ xs) h = (h.0, ((place, h.0), carried_fits d place xs h.1))

  -- P holds of the nodes whose children go, from the end down to the point's node
  module _ (f : Forest Content) (once : IsDistinct f) (next : ℕ) (from : Point) (P : ℕ → Type 0) (down : (c k : ℕ) → P c → parent_of f k ≡ Some c → IsWithin f k from.label → P k) (kid : (c x : ℕ) → P c → parent_of f x ≡ Some c → N x) (copied : (k : ℕ) → P k → K (copy_of f k)) (new_node : (j : ℕ) → next ≤ j → N j) (new_place : (j : ℕ) → next ≤ j → D j) where
    kids_fit : (c : ℕ) → P c → AllOf N (children_of f c)
    kids_fit c path = all_times N (children_of f c) (λ x t. kid c x path (parent_among f once c x t))

    pub tail_fits : (fuel c d n : ℕ) → P c → D d → next ≤ n → AllOf (Fits K N D) (tail_steps fuel f from c d n)
    unfolding tail_steps
    tail_fits zero c d n path place high = tt
    tail_fits (suc fuel) c d n path place high = elim (cases_Bool (eqb from.label c)) [
      | inl t ↦ rw t (carried_fits d place (drop from.offset (children_of f c)) (all_drop N from.offset (children_of f c) (kids_fit c path)))
      | inr t ↦ rw t (toward (λ k path'. tail_fits fuel k n (n + 1) path' (new_place n high) (omega (arith, high))) (child_toward f c from.label) refl)
    ]
      where
        toward : ((k : ℕ) → P k → AllOf (Fits K N D) (tail_steps fuel f from k n (n + 1))) → (o : Option ℕ) → child_toward f c from.label ≡ o → AllOf (Fits K N D) (option_map_or (λ k. Copy (copy_of f k) ∷ (tail_steps fuel f from k n (n + 1) ++ (Do (Insert d None n) ∷ carried d (later (children_of f c) k)))) o [])
        toward inner None e = tt
        toward inner (Some k) e =
            let r = find_some (λ j. is_within f j from.label) (children_of f c) k e in
            let child = parent_among f once c k r.1 in
            let path' = down c k path child (ltb-true 0 (count_of (tree_of f k) from.label) r.0) in (
              copied k path',
              all_append (Fits K N D) (tail_steps fuel f from k n (n + 1)) (Do (Insert d None n) ∷ carried d (later (children_of f c) k))
                  (inner k path')
                  ((place, new_node n high), carried_fits d place (later (children_of f c) k) (all_drop N _ (children_of f c) (kids_fit c path))),
            )
