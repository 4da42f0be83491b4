-- The tests on places in the trees of a document.
use Rattle.std.proofs.Common.{◌≡◌, ◌⊎◌, ℕ, ◌+◌, ◌<◌, Bool, true, false, true≢false, Option, Some, refl, sym, ap, subst, ◌∙◌, inl, inr, arith, eqb, nat_lt}
use Rattle.std.specs.Prelude.{◌&&◌, not, nat_le, IsTrue, ◌↔◌}
use Rattle.std.proofs.lemmas.Bool.Decides.{nat_tests}
use Rattle.edit_model.specs.DomModel.declared.Content.{Content}
use Rattle.edit_model.specs.DomModel.Contents.{length_of}
use Rattle.edit_model.specs.DomModel.Forest.{Forest, is_label, count_of, parent_of, IsWithin}
use Rattle.edit_model.specs.DomModel.ArenaState.{ArenaState as Arena}
use Rattle.edit_model.proofs.DomModel.Stands.{true_or_false}
use Rattle.edit_model.specs.LiveRange.declared.places.Point.{Point}
use Rattle.edit_model.specs.NodeArena.declared.NodeRef.{NodeRef}
use Rattle.edit_model.specs.NodeArena.declared.Kind.{Kind}
use Rattle.edit_model.specs.NodeArena.declared.Kind.TheVariants as kind
use Rattle.edit_model.specs.NodeArena.Kinds.{is_parent_kind}
use Rattle.edit_model.specs.PointOrder.PointOrder.{is_within, is_in_document, is_placed}
use Rattle.edit_model.specs.Confined.{is_place, is_own, is_open, may_grow, may_select, may_send}
use Rattle.edit_model.specs.Gives.{label_of}
use Rattle.edit_doc.specs.Whole.{Whole}
use Rattle.edit_doc.specs.Shows.{Shows}
use Rattle.edit_doc.specs.Held.{Holds}
use Rattle.edit_model.specs.NodeArena.Held.{Holds as HoldsNode}
use Rattle.edit_doc.proofs.Asking.{second_false}
use Rattle.edit_doc.proofs.Found.{tree_of-fewer}
use Rattle.edit_doc.proofs.HiddenTrees.{lt_true, document-pruned, inside_detached, length_of-pruned}
use Rattle.edit_doc.proofs.Rests.{arena_forest}
use Rattle.edit_doc.proofs.SeenNodes.{holds_shown}

-- ---- kinds and names

pub parent_kind : (k : Kind) → (k ≡ kind.Document) ⊎ (k ≡ kind.Element) → is_parent_kind k ≡ true
parent_kind k h = elim h [ inl e ↦ ap is_parent_kind e | inr e ↦ ap is_parent_kind e ]

pub leaf_kind : (k : Kind) → (k ≡ kind.Document → ⊥) → (k ≡ kind.Element → ⊥) → is_parent_kind k ≡ false
leaf_kind kind.Document d e = absurd (d refl)
leaf_kind kind.Element d e = absurd (e refl)
leaf_kind kind.Words d e = refl
leaf_kind kind.Remark d e = refl

-- ---- places among children

pub place_is : (f : Forest Content) (p n : ℕ) (o : Option NodeRef) (b : NodeRef) (q : Option ℕ) → o ≡ Some b → parent_of f b.label ≡ q → is_place f p (label_of o) n ≡ (is_label q p && not (eqb b.label n))
place_is f p n o b q e up = ap (λ r. is_place f p (label_of r) n) e ∙ ap (λ r. is_label r p && not (eqb b.label n)) up

pub and_first : (a b : Bool) → a ≡ true → b ≡ (a && b)
and_first a b e = sym (ap (λ x. x && b) e)

pub and_none : (a b : Bool) → a ≡ false → a ≡ (a && b)
and_none a b e = e ∙ sym (ap (λ x. x && b) e)

pub within_told : (f : Forest Content) (n l : ℕ) (r : Bool) → (IsTrue r ↔ IsWithin f n l) → r ≡ is_within f n l
within_told f n l true h = sym (less (h.0 refl))
  where
    less : {m : ℕ} → 0 < m → nat_lt 0 m ≡ true
    less t = grind (arith, nat_tests)
within_told f n l false h = elim (true_or_false (is_within f n l)) [
  | inl t ↦ absurd (true≢false (sym (h.1 (lt_true 0 (count_of _ l) t))))
  | inr t ↦ sym t
]

pub takes_so : (parent within place r : Bool) → parent ≡ true → place ≡ true → r ≡ within → not r ≡ (parent && (not within && place))
takes_so parent true place r a b e = ap not e ∙ sym (ap (λ x. x && (false && place)) a)
takes_so parent false place r a b e = ap not e ∙ (sym b ∙ sym (ap (λ x. x && (true && place)) a))

-- ---- places of points

module _ {v : Whole} {a : Arena} (s : Shows v a) where
  abbrev out : ℕ → Bool
  out = s.part.detached_out

  pub document_seen : (l : ℕ) → is_in_document v.state.trees l ≡ is_in_document a.trees l
  document_seen l = ap (λ t. is_in_document t l) s.part.is ∙ ap (λ t. nat_lt 0 (count_of t l)) (document-pruned a.trees a.next (arena_forest a s.law) out s.part.not_document)

  pub select_is : (p : Point) → may_select v.state p ≡ is_placed a.trees p
  unfolding may_select is_placed
  select_is p = elim (true_or_false (is_in_document a.trees p.label)) [
    | inl t ↦ (
        let len = ap (λ f. length_of f p.label) s.part.is ∙ length_of-pruned a.trees a.next (arena_forest a s.law) out s.part.not_document p.label (lt_true 0 (count_of _ p.label) t) in
        λ i. document_seen p.label i && nat_le p.offset (len i))
    | inr u ↦ ap (λ b. b && nat_le p.offset (length_of v.state.trees p.label)) (document_seen p.label ∙ u) ∙ sym (ap (λ b. b && nat_le p.offset (length_of a.trees p.label)) u)
  ]

  -- ---- the points of a text

  pub send_is : (n at tail : ℕ) → may_send v.state n at tail ≡ (is_own v.state n && (is_in_document a.trees tail && (not (eqb n tail) && nat_le (length_of v.state.trees n) (at + length_of v.state.trees tail))))
  unfolding may_send
  send_is n at tail = ap (λ x. is_own v.state n && (x && (not (eqb n tail) && nat_le (length_of v.state.trees n) (at + length_of v.state.trees tail)))) (document_seen tail)

  -- ---- points that may grow

  pub inside_held : (node : NodeRef) → HoldsNode a node → is_in_document a.trees node.label ≡ true → Holds v node
  inside_held node held e = holds_shown s node held (subst (λ t. 0 < count_of t node.label) (sym s.part.is)
      (inside_detached a.trees a.next (arena_forest a s.law) out s.part.not_document node.label (lt_true 0 (count_of _ node.label) e)))

  pub grow_is : (p : Point) → may_grow v.state p ≡ (is_open v.state p.label && (is_in_document a.trees p.label && nat_lt p.offset (length_of v.state.trees p.label)))
  unfolding may_grow
  grow_is p = ap (λ x. is_open v.state p.label && (x && nat_lt p.offset (length_of v.state.trees p.label))) (document_seen p.label)

  pub grow_absent : (p : Point) → count_of a.trees p.label ≡ 0 → may_grow v.state p ≡ false
  grow_absent p none = grow_is p ∙ second_false (is_open v.state p.label) (is_in_document a.trees p.label) (nat_lt p.offset (length_of v.state.trees p.label)) (elim (true_or_false (is_in_document a.trees p.label)) [
    | inl t ↦ absurd (let w = lt_true 0 (count_of _ p.label) t in omega (arith, w, none, tree_of-fewer a.trees 0 p.label))
    | inr u ↦ u
  ])
