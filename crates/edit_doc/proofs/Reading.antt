-- What is read of the document as a whole, and of its points, is read of the arena.
use Rattle.std.proofs.Common.{◌≡◌, ◌<◌, true, sym, ap, ◌∙◌, arith}
use Rattle.edit_model.specs.DomModel.declared.Content.{Content}
use Rattle.edit_model.specs.DomModel.Document.{page_depth}
use Rattle.edit_model.specs.DomModel.Forest.{Forest, count_of, tree_of}
use Rattle.edit_model.specs.DomModel.Places.{levels, kids_in}
use Rattle.edit_model.specs.DomModel.ArenaState.{ArenaState as Arena}
use Rattle.edit_model.specs.LiveRange.declared.places.Point.{Point}
use Rattle.edit_model.specs.PointOrder.PointOrder.{is_before, is_placed}
use Rattle.edit_parts.proofs.Ranges.{placed_here}
use Rattle.edit_doc.specs.Whole.{Whole}
use Rattle.edit_doc.specs.Shows.{Shows}
use Rattle.edit_model.proofs.DomModel.Pruning.{count_of-pruned}
use Rattle.edit_doc.proofs.HiddenTrees.{document-pruned}
use Rattle.edit_doc.proofs.Ordered.{before-detached}
use Rattle.edit_doc.proofs.Rests.{arena_forest}
use Rattle.edit_doc.proofs.SeenNodes.{here_shown}

module _ {v : Whole} {a : Arena} (s : Shows v a) where
  pub document_is : tree_of a.trees 0 ≡ tree_of v.state.trees 0
  document_is = sym (ap (λ t. tree_of t 0) s.part.is ∙ document-pruned a.trees a.next (arena_forest a s.law) s.part.detached_out s.part.not_document)

  pub page_depth_is : page_depth a.trees ≡ page_depth v.state.trees
  page_depth_is = ap (λ (t : Forest Content). levels (kids_in t)) document_is

  pub point_here : (p : Point) → is_placed v.state.trees p ≡ true → 0 < count_of a.trees p.label
  point_here p placed = omega (arith, here_shown s p.label (placed_here v.state.trees p placed), count_of-pruned s.part.detached_out a.trees p.label)

  pub before_seen : (p q : Point) → is_placed v.state.trees p ≡ true → is_placed v.state.trees q ≡ true → is_before a.trees p q ≡ is_before v.state.trees p q
  before_seen p q hp hq = sym (ap (λ t. is_before t p q) s.part.is
      ∙ before-detached s.part.detached_out a.trees s.law.distinct p q (here_shown s p.label (placed_here v.state.trees p hp)) (here_shown s q.label (placed_here v.state.trees q hq)))
