-- Which nodes the running command made or detached, and which a label finds.
use Rattle.std.proofs.Common.{◌≡◌, ◌≢◌, ◌⊎◌, ℕ, zero, suc, ◌<◌, ◌≤◌, Bool, true, false, true≢false, List, [], ◌∷◌, drop, None, refl, sym, subst, ◌∙◌, inl, inr, arith}
use Rattle.std.specs.Prelude.{◌||◌, nat_le}
use Rattle.std.proofs.lemmas.Bool.Decides.{nat_tests}
use Rattle.edit_model.specs.DomModel.Forest.{tops, times, count_of, parent_of, IsWithin}
use Rattle.edit_model.specs.DomModel.Pruned.{pruned}
use Rattle.edit_model.specs.DomModel.ArenaState.{IsValid as IsArena}
use Rattle.edit_model.proofs.DomModel.Pruning.{count_of-pruned}
use Rattle.edit_model.proofs.DomModel.Stands.{true_or_false}
use Rattle.edit_model.specs.LiveRange.PointsEdit.{has_label}
use Rattle.step_edits.specs.UndoLog.Log.{Open}
use Rattle.step_edits.specs.UndoLog.Log.Open.{Closed, Begun, Resumed}
use Rattle.step_edits.specs.EditSteps.declared.step.Step.{Step}
use Rattle.edit_model.specs.NodeArena.declared.NodeRef.{NodeRef}
use Rattle.edit_model.specs.NodeArena.Held.{Holds as HoldsNode}
use Rattle.edit_model.specs.Gives.{labels_of}
use Rattle.edit_doc.specs.declared.Doc.TheInside.{Inside}
use Rattle.edit_doc.specs.Whole.{Whole}
use Rattle.edit_doc.specs.Held.{Holds}
use Rattle.edit_doc.specs.Fields.{has_newly_detached}
use Rattle.edit_doc.specs.History.{begun_forest, other}
use Rattle.edit_doc.specs.Sound.{OpenSound}
use Rattle.edit_doc.specs.Live.{live}
use Rattle.edit_doc.proofs.Begins.{document_tops}
use Rattle.edit_doc.proofs.Found.{tree_detached, root_stays, root_detached, root_is_top}
use Rattle.edit_doc.proofs.HiddenTrees.{hidden_is, inside_detached}
pub use Rattle.edit_doc.proofs.MadeNodes.{listed_has}
use Rattle.edit_doc.proofs.Inner.{seen, Ok}
use Rattle.edit_doc.proofs.Rests.{arena_forest, trees_are}
use Rattle.edit_doc.proofs.SeenNodes.{out_of, IsSeen}

pub or_false : (a b : Bool) → (a || b) ≡ false → (a ≡ false) × (b ≡ false)
or_false true b e = absurd (cc)
or_false false b e = (refl, e)

pub or_true : (a b : Bool) → (a || b) ≡ true → (a ≡ true) ⊎ (b ≡ true)
or_true true b e = inl refl
or_true false b e = inr e

drop_none : (n : ℕ) (xs : List NodeRef) → xs ≡ [] → drop n xs ≡ []
drop_none zero xs e = e
drop_none (suc n) [] e = refl
drop_none (suc n) (x ∷ xs) e = absurd (cc)

start_true : (a b : ℕ) → nat_le a b ≡ true → a ≤ b
start_true a b e = grind (arith, nat_tests)

module _ (d : Inside) (law : IsArena d.tree.nodes.arena) (ok : Ok d) where
  -- a label that isn't below the start isn't hidden
  made_out : (l : ℕ) → d.command.start ≤ l → out_of d l ≡ false
  made_out l later = elim (true_or_false (out_of d l)) [
    | inl t ↦ absurd (let h = hidden_is (begun_forest d.history.log d.tree.nodes.arena.trees) d.command.start l t in let o = h.old in omega arith)
    | inr t ↦ t
  ]

  detached_seen : (l : ℕ) → has_label (labels_of (drop d.command.detached_before d.command.detached.items)) l ≡ true → IsSeen d l
  detached_seen l e = at d.history.log.open_entry refl ok.running
    where
      at : (o : Open Step) → d.history.log.open_entry ≡ o → OpenSound d.tree.nodes.arena d.tree.points d.command (begun_forest d.history.log d.tree.nodes.arena.trees) o → IsSeen d l
      at Closed is idle = absurd (let none : has_label [] l ≡ true = subst (λ rs. has_label (labels_of rs) l ≡ true) (drop_none d.command.detached_before d.command.detached.items idle.detached) e in cc)
      at (Begun xs) is run = listed_has (IsSeen d) (labels_of (drop d.command.detached_before d.command.detached.items)) l run.detached_seen e
      at (Resumed xs) is run = listed_has (IsSeen d) (labels_of (drop d.command.detached_before d.command.detached.items)) l run.detached_seen e

  -- what the command detached, or the Document, is seen
  newly_detached_seen : (r : ℕ) → 0 < times (tops d.tree.nodes.arena.trees) r → has_newly_detached d.command r ≡ true → IsSeen d r
  newly_detached_seen r top e = elim (or_true (nat_le d.command.start r) (has_label (labels_of (drop d.command.detached_before d.command.detached.items)) r) e) [
    | inl made ↦ root_stays (out_of d) d.tree.nodes.arena.trees r top (made_out r (start_true d.command.start r made))
    | inr detached ↦ detached_seen r detached
  ]

  -- a root that is seen, but for the Document, was detached by the command
  seen_newly_detached : (r : ℕ) → 0 < r → 0 < times (tops (pruned (out_of d) d.tree.nodes.arena.trees)) r → has_newly_detached d.command r ≡ false → ⊥
  seen_newly_detached r inner top e = at d.history.log.open_entry refl ok.running
    where
      out : has_label (labels_of (drop d.command.detached_before d.command.detached.items)) r ≡ false
      out = (or_false (nat_le d.command.start r) (has_label (labels_of (drop d.command.detached_before d.command.detached.items)) r) e).1

      at : (o : Open Step) → d.history.log.open_entry ≡ o → OpenSound d.tree.nodes.arena d.tree.points d.command (begun_forest d.history.log d.tree.nodes.arena.trees) o → ⊥
      at Closed is idle = document_tops d.tree.nodes.arena.trees d.tree.nodes.arena.next r (arena_forest d.tree.nodes.arena law) inner
          (subst (λ g. 0 < times (tops g) r) (trees_are (live d.tree) d.command d.history law is idle.start) top)
      at (Begun xs) is run = true≢false (sym (run.newly_detached r inner top) ∙ out)
      at (Resumed xs) is run = true≢false (sym (run.newly_detached r inner top) ∙ out)

  module _ (v : Whole) (is : seen d ≡ v) (node root : NodeRef) (held : HoldsNode d.tree.nodes.arena node) (root_held : HoldsNode d.tree.nodes.arena root) (loose : parent_of d.tree.nodes.arena.trees root.label ≡ None) (above : IsWithin d.tree.nodes.arena.trees root.label node.label) where
    root_top : 0 < times (tops d.tree.nodes.arena.trees) root.label
    root_top = root_is_top d.tree.nodes.arena.trees root.label law.distinct (law.here root.slot root.label root_held) loose

    holds_seen : IsSeen d node.label → Holds v node
    holds_seen here = subst (λ w. Holds w node) is (record { slot = held; here = here })

    -- the node of a root that the command detached
    pub newly_detached_held : has_newly_detached d.command root.label ≡ true → Holds v node
    newly_detached_held e = holds_seen (tree_detached (out_of d) d.tree.nodes.arena.trees root.label node.label law.distinct (newly_detached_seen root.label root_top e) above)

    pub document_node_held : root.label ≡ 0 → Holds v node
    document_node_held e = holds_seen (inside_detached d.tree.nodes.arena.trees d.tree.nodes.arena.next (arena_forest d.tree.nodes.arena law) (out_of d) refl node.label (subst (λ r. IsWithin d.tree.nodes.arena.trees r node.label) e above))

    -- and of another root, which isn't seen
    pub none_seen : root.label ≢ 0 → has_newly_detached d.command root.label ≡ false → count_of v.state.trees node.label ≡ 0
    none_seen other e = subst (λ (w : Whole). count_of w.state.trees node.label ≡ 0) is (zero_of (count_of (pruned (out_of d) d.tree.nodes.arena.trees) node.label) (λ here.
        seen_newly_detached root.label (inner root.label other) (root_detached (out_of d) d.tree.nodes.arena.trees root.label node.label law.distinct root_top above here) e))
      where
        zero_of : (n : ℕ) → (0 < n → ⊥) → n ≡ 0
        zero_of zero h = refl
        zero_of (suc n) h = absurd (h (omega arith))

        inner : (n : ℕ) → n ≢ 0 → 0 < n
        inner zero h = absurd (h refl)
        inner (suc n) h = omega arith

  pub absent_seen : (v : Whole) → seen d ≡ v → (l : ℕ) → count_of d.tree.nodes.arena.trees l ≡ 0 → count_of v.state.trees l ≡ 0
  absent_seen v is l none = subst (λ (w : Whole). count_of w.state.trees l ≡ 0) is (omega (arith, none, count_of-pruned (out_of d) d.tree.nodes.arena.trees l))
