-- How deep the document is at most after a tree is linked, moved or made loose.
use Rattle.std.proofs.Common.{◌≡◌, ℕ, ◌+◌, ◌<◌, ◌≤◌, ◌^◌, max, min, Bool, true, false, Option, Some, ap, ◌∙◌, inl, inr, arith}
use Rattle.edit_model.specs.DomModel.declared.Content.{Content}
use Rattle.edit_model.specs.DomModel.Document.{node_count, page_depth}
use Rattle.edit_model.specs.DomModel.Forest.{Forest, total, count_of, depth_of, tree_of, parent_of, link, unlink, CanPut}
use Rattle.edit_model.specs.DomModel.Forest.Forest.{Nil, Tree}
use Rattle.edit_model.specs.DomModel.Places.{levels, kids_in}
use Rattle.edit_model.specs.DomModel.Revised.{revised}
use Rattle.edit_model.proofs.DomModel.Heights.{levels_low, page_depth-link, page_depth-move, page_depth-revised, page_depth-unlink, page_depth-within}
use Rattle.edit_model.proofs.DomModel.Stands.{true_or_false}
use Rattle.edit_model.specs.PointOrder.PointOrder.{is_in_document}
use Rattle.edit_model.specs.Valid.{IsForest}
use Rattle.edit_model.proofs.Documents.{document_shape, document-link}
use Rattle.edit_model.proofs.Forests.{forest-unlink}
use Rattle.edit_doc.specs.Fields.{IsRaised}
use Rattle.edit_doc.proofs.Counted.{put_under-absent}
use Rattle.edit_doc.proofs.HiddenTrees.{lt_true}
use Rattle.edit_doc.proofs.Inserted.{none_of}

-- a document is no deeper than it has nodes
depth_low : (g : Forest Content) → page_depth g ≤ node_count g
depth_low g = by_tree (tree_of g 0)
  where
    by_tree : (t : Forest Content) → levels (kids_in t) ≤ total (λ _ _. 1) t
    by_tree Nil = omega arith
    by_tree (Tree l c ks rest) = omega (arith, levels_low ks)

-- what comes to stand in the document
there_is : (i most high old new few : ℕ) → i ≤ max most high → most ≤ old → old ≤ new → min high 4294967295 ≤ new → i ≤ few → few < 2 ^ 32 → i ≤ new
there_is i most high old new few h m s r l k = (let k' : few < 4294967296 = k in grind arith)

module _ (f : Forest Content) (next : ℕ) (is : IsForest f next) where
  -- a node of the document has its tree below it there
  pub stands_low : (n : ℕ) → is_in_document f n ≡ true → levels (tree_of f n) + depth_of f n ≤ page_depth f + 1
  stands_low n t = (let d = document_shape f next is in page_depth-within f d.0 d.1 d.2 n d.3 is.distinct (lt_true 0 (count_of (tree_of f 0) n) t))

  outside : (p : ℕ) (b : Option ℕ) (n : ℕ) → CanPut f p b n → is_in_document f p ≡ false → page_depth (link f p b n) ≡ page_depth f
  outside p b n can off =
      ap (λ (t : Forest Content). levels (kids_in t)) (document-link f next is p b n can ∙ put_under-absent (tree_of f 0) p b (tree_of f n) (none_of (count_of (tree_of f 0) p) off))

  pub linked_depth : (p : ℕ) (b : Option ℕ) (n : ℕ) → CanPut f p b n → (there : Bool) → there ≡ is_in_document f p → (old new : ℕ) → page_depth f ≤ old → IsRaised f p n there old new → node_count (link f p b n) < 2 ^ 32 → page_depth (link f p b n) ≤ new
  linked_depth p b n can there there_is_in old new low raised few = elim (true_or_false (is_in_document f p)) [
    | inl t ↦ (
        let d = document_shape f next is in
        there_is (page_depth (link f p b n)) (page_depth f) (depth_of f p + levels (tree_of f n)) old new (node_count (link f p b n))
        (page_depth-link f d.0 d.1 d.2 p b n d.3 can.inner is.distinct) low raised.stays (raised.reach (there_is_in ∙ t)) (depth_low (link f p b n)) few)
    | inr t ↦ (let same = outside p b n can t in let s = raised.stays in omega (arith, same, low, s))
  ]

  pub revised_depth : (n : ℕ) (g : Content → Content) → page_depth (revised f n g) ≡ page_depth f
  revised_depth n g = (let d = document_shape f next is in page_depth-revised f d.0 d.1 d.2 n g d.3)

  pub unlinked_depth : (n : ℕ) → 0 < n → page_depth (unlink f n) ≤ page_depth f
  unlinked_depth n inner = (let d = document_shape f next is in page_depth-unlink f d.0 d.1 d.2 n d.3 inner)

-- a move, after which p stands in the document where it did before
pub moved_depth : (f : Forest Content) (next : ℕ) → IsForest f next → (o n p : ℕ) (b : Option ℕ) → parent_of f n ≡ Some o → CanPut (unlink f n) p b n → is_in_document (unlink f n) p ≡ is_in_document f p →
    (old new : ℕ) → page_depth f ≤ old → IsRaised f p n (is_in_document f p) old new → node_count (link (unlink f n) p b n) < 2 ^ 32 → page_depth (link (unlink f n) p b n) ≤ new
moved_depth f next is o n p b up can same old new low raised few = elim (true_or_false (is_in_document f p)) [
  | inl t ↦ (
      let d = document_shape f next is in
      there_is (page_depth (link (unlink f n) p b n)) (page_depth f) (depth_of f p + levels (tree_of f n)) old new (node_count (link (unlink f n) p b n))
      (page_depth-move f d.0 d.1 d.2 o p b n d.3 can.inner is.distinct up) low raised.stays (raised.reach t) (depth_low (link (unlink f n) p b n)) few)
  | inr t ↦ (
      let e = outside (unlink f n) next (forest-unlink f next is o n up) p b n can (same ∙ t) in
      let s = raised.stays in
      omega (arith, e, unlinked_depth f next is n can.inner, low, s))
]
