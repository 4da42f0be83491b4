-- What the fields of a document tell of it as a whole.
use Rattle.std.proofs.Common.{◌≡◌, ◌<◌, ◌≤◌, ℕ, Option, Some, None, IfSome, refl, sym, ap, subst, ◌∙◌, arith}
use Rattle.edit_model.specs.DomModel.declared.Content.{Content}
use Rattle.edit_model.specs.DomModel.Document.{node_count, char_count, page_depth}
use Rattle.edit_model.specs.DomModel.Forest.{Forest, count_of, tree_of}
use Rattle.edit_model.specs.DomModel.ArenaState.{ArenaState as Arena, IsValid as IsArena}
use Rattle.edit_model.specs.LiveRange.LivePoints.{LivePoints}
use Rattle.step_edits.specs.UndoLog.Log.{IsLog}
use Rattle.edit_model.specs.NodeArena.declared.NodeRef.{NodeRef}
use Rattle.edit_model.specs.NodeArena.Held.{Holds as HoldsNode}
use Rattle.edit_model.specs.Valid.{IsForest}
use Rattle.edit_model.specs.History.{document_of, rested}
use Rattle.edit_model.proofs.Documents.{document_shape}
use Rattle.edit_doc.specs.declared.Doc.TheInside.{Inside}
use Rattle.edit_doc.specs.Whole.{Whole, IsClosed, IsDoc}
use Rattle.edit_doc.specs.Held.{Holds, Finds, IfHeld}
use Rattle.edit_doc.specs.Shows.{Shows}
use Rattle.edit_doc.specs.Sound.{RefIn}
use Rattle.edit_doc.specs.Live.{live}
use Rattle.edit_doc.proofs.HiddenTrees.{node_count-pruned, char_count-pruned, page_depth-pruned, document_here}
use Rattle.edit_doc.proofs.Inner.{seen, Ok, closed_of}
use Rattle.edit_doc.proofs.Laid.{undo_count}
use Rattle.edit_doc.proofs.Rests.{arena_forest, rested_state, rest_state, rest_of}
use Rattle.edit_doc.proofs.SeenNodes.{out_of, IsSeen, holds_shown}

-- the document of a document
document_twice : (f : Forest Content) (next : ℕ) → IsForest f next → document_of (document_of f) ≡ document_of f
document_twice f next is = let s = document_shape f next is in subst (λ g. tree_of (tree_of g 0) 0 ≡ tree_of g 0) (sym s.3) refl

no_scratch : (p : LivePoints) → p.scratch ≡ None → record p { scratch = None } ≡ p
no_scratch p e = λ i. record p { scratch = sym e i }

module _ (d : Inside) (law : IsArena d.tree.nodes.arena) (ok : Ok d) where
  at_rest : IsClosed (seen d) → rested (seen d).state ≡ (seen d).state
  unfolding rested
  at_rest closed =
      let rest = rest_of (live d.tree) d.command d.history law (closed_of d (seen d) refl closed) ok in
      let e = rest_state (live d.tree) d.command d.history rest in
      ap rested e ∙ ((λ i. record (rested_state (live d.tree)) {
        trees = document_twice d.tree.nodes.arena.trees d.tree.nodes.arena.next (arena_forest d.tree.nodes.arena law) i;
        points = no_scratch d.tree.points rest.idle.scratch i;
      }) ∙ sym e)

  pub is_doc : IsLog d.history.log → (v : Whole) → seen d ≡ v → IsDoc v
  is_doc log v is = subst IsDoc is (record {
    valid = ok.valid;
    capped = law.capped;
    resting = at_rest;
    some_depth = log.some_depth;
    within = (let n = undo_count d (seen d) refl ok in let w = log.within in omega (arith, n, w));
  })

  pub nodes_are : (v : Whole) → seen d ≡ v → d.tree.nodes.counts.nodes ≡ node_count v.state.trees
  nodes_are v is = subst (λ (w : Whole). d.tree.nodes.counts.nodes ≡ node_count w.state.trees) is (d.tree.nodes.counted.nodes ∙ sym (node_count-pruned d.tree.nodes.arena.trees d.tree.nodes.arena.next (arena_forest d.tree.nodes.arena law) (out_of d) refl))

  pub chars_are : (v : Whole) → seen d ≡ v → d.tree.nodes.counts.chars ≡ char_count v.state.trees
  chars_are v is = subst (λ (w : Whole). d.tree.nodes.counts.chars ≡ char_count w.state.trees) is (d.tree.nodes.counted.chars ∙ sym (char_count-pruned d.tree.nodes.arena.trees d.tree.nodes.arena.next (arena_forest d.tree.nodes.arena law) (out_of d) refl))

  pub depth_is : (v : Whole) → seen d ≡ v → page_depth v.state.trees ≤ d.tree.nodes.counts.depth
  depth_is v is = subst (λ (w : Whole). page_depth w.state.trees ≤ d.tree.nodes.counts.depth) is (subst (λ n. n ≤ d.tree.nodes.counts.depth) (sym (page_depth-pruned d.tree.nodes.arena.trees d.tree.nodes.arena.next (arena_forest d.tree.nodes.arena law) (out_of d) refl)) d.tree.nodes.counted.depth)

pub document_held : {v : Whole} {a : Arena} → Shows v a → (r : NodeRef) → r.label ≡ 0 → HoldsNode a r → Holds v r
document_held {v} {a} s r e held = holds_shown s r held (subst (λ l. 0 < count_of v.state.trees l) (sym e) (subst (λ t. 0 < count_of t 0) (sym s.part.is) (document_here a.trees a.next (arena_forest a s.law) s.part.detached_out s.part.not_document)))

module _ (d : Inside) (ok : Ok d) where
  host_held : (o : Option NodeRef) → IfSome o (λ h. RefIn d.tree.nodes.arena.held h × IsSeen d h.label) → IfHeld (seen d) o
  host_held None h = tt
  host_held (Some r) h = record { slot = h.0; here = h.1 }

  pub host_is : (v : Whole) → seen d ≡ v → Finds v d.command.host v.state.host
  host_is v is = subst (λ (w : Whole). Finds w d.command.host w.state.host) is (record { is = refl; held = host_held d.command.host ok.host })
