-- What an insert of a loose tree is to the arena and to the fields of the command.
use Rattle.edit_model.specs.LiveRange.PointsEdit.{has_label}
use Rattle.std.proofs.Common.{◌≡◌, true, [], ◌∷◌, Option, Some, None, refl, sym, ap, subst, ◌∙◌, inl, inr}
use Rattle.std.proofs.lemmas.List.{append-nil}
use Rattle.edit_model.specs.DomModel.declared.Content.{Content}
use Rattle.edit_model.specs.DomModel.Contents.{is_parent_at}
use Rattle.edit_model.specs.DomModel.Forest.{Forest, CanPut}
use Rattle.edit_model.specs.DomModel.Pruned.{pruned}
use Rattle.edit_model.specs.DomModel.ArenaState.{IsValid as IsArena, IsSlotted}
use Rattle.edit_model.specs.NodeArena.declared.NodeRef.{NodeRef}
use Rattle.edit_model.specs.NodeArena.Held.{label}
use Rattle.step_edits.specs.ForestChanges.Change.{Insert, inverse}
use Rattle.step_edits.specs.ForestChanges.Named.{Each, listed}
use Rattle.step_edits.specs.ForestChanges.Down.{IsLeft}
use Rattle.step_edits.proofs.ForestChanges.PrunedChanges.{CanPut-pruned}
use Rattle.step_edits.proofs.ForestChanges.Twice.{forest_of}
use Rattle.step_edits.specs.EditSteps.declared.step.Step.TheVariants as step
use Rattle.step_edits.specs.EditSteps.Step.{StepFits}
use Rattle.edit_model.specs.Gives.{label_of}
use Rattle.edit_doc.specs.declared.Doc.TheInside.{Inside}
use Rattle.edit_doc.specs.declared.command.Command.{Command}
use Rattle.edit_doc.specs.Whole.{Whole}
use Rattle.edit_doc.specs.Held.{Holds, IfHeld}
use Rattle.edit_doc.specs.Marks.{Marks, IsMarked, place_labels}
use Rattle.edit_doc.specs.Sound.{RefIn}
use Rattle.edit_doc.proofs.Inner.{seen}
use Rattle.edit_doc.proofs.SeenNodes.{out_of, held_seen}
use Rattle.edit_doc.proofs.Changing.{Follows}

pub labels_same : (o : Option NodeRef) → label o ≡ label_of o
labels_same None = refl
labels_same (Some r) = refl

pub inserts_follow : (c d : Command) (node parent : NodeRef) (before : Option NodeRef) (f : Forest Content) → Marks (place_labels node parent before) c d → Follows c d (Insert node.label parent.label (label before)) (inverse (Insert node.label parent.label (label before)) f)
unfolding inverse
inserts_follow c d node parent before f m = record {
  start = ap (λ (k : Command). k.start) m.rest;
  host = ap (λ (k : Command). k.host) m.rest;
  keeping = ap (λ (k : Command). k.keeping) m.rest;
  resumed = ap (λ (k : Command). k.resumed) m.rest;
  kept = ap (λ (k : Command). k.kept) m.rest;
  detached_before = ap (λ (k : Command). k.detached_before) m.rest;
  count = m.count;
  stay = m.stay;
  marked = subst (λ o. Each (IsMarked d) (node.label ∷ parent.label ∷ listed o)) (sym (labels_same before)) m.marked;
  marked_inverse = (m.marked.0, tt);
  only = λ l h. elim (m.only l h) [ inl t ↦ inl t | inr t ↦ inr (inl (subst (λ o. has_label (node.label ∷ parent.label ∷ listed o) l ≡ true) (sym (labels_same before)) t)) ];
  more = [];
  detached = ap (λ (k : Command). k.detached.items) m.rest ∙ sym (append-nil c.detached.items);
  loosed_is = refl;
}

module _ (d : Inside) (v : Whole) (is : seen d ≡ v) (law : IsArena d.tree.nodes.arena) (slotted : IsSlotted d.tree.nodes.arena) (node parent : NodeRef) (before : Option NodeRef) (node_held : Holds v node) (parent_held : Holds v parent) (before_held : IfHeld v before) where
  before_parts : (o : Option NodeRef) → IfHeld v o → Each (RefIn d.tree.nodes.arena.held) (listed o) × Each (IsLeft (out_of d) d.tree.nodes.arena.trees) (listed (label o))
  before_parts None h = (tt, tt)
  before_parts (Some r) h = (let k = held_seen d v is r h in ((k.slot, tt), (k.here, tt)))

  pub place_held : Each (RefIn d.tree.nodes.arena.held) (node ∷ parent ∷ listed before)
  place_held = ((held_seen d v is node node_held).slot, ((held_seen d v is parent parent_held).slot, (before_parts before before_held).0))

  pub place_seen : Each (IsLeft (out_of d) d.tree.nodes.arena.trees) (node.label ∷ parent.label ∷ listed (label before))
  place_seen = ((held_seen d v is node node_held).here, ((held_seen d v is parent parent_held).here, (before_parts before before_held).1))

  pub link_fits : CanPut (pruned (out_of d) d.tree.nodes.arena.trees) parent.label (label before) node.label → is_parent_at d.tree.nodes.arena.trees parent.label ≡ true → StepFits (step.Insert node parent before) d.tree.nodes.arena
  link_fits can bears = record {
    fits = record { forest = forest_of d.tree.nodes.arena law; here = record { place = CanPut-pruned (out_of d) d.tree.nodes.arena.trees parent.label (label before) node.label (forest_of d.tree.nodes.arena law) can; parent = bears } };
    slotted = slotted;
    held = place_held;
  }
