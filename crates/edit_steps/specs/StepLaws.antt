-- A step applied twice leaves the arena and the step as they were.
use Rattle.std.proofs.Common.{◌≡◌, ℕ, ◌<◌, List, [], ◌∷◌, Option, Some, None, IfSome, unwrap_or, refl, sym, ap, ◌∙◌}
use Rattle.std.specs.Option.{option_map}
use Rattle.forest_changes.specs.DomModel.declared.attributes.Attribute.{Attribute}
use Rattle.forest_changes.specs.DomModel.Forest.{count_of, parent_of, next_of}
use Rattle.node_arena.specs.declared.NodeRef.{NodeRef}
use Rattle.node_arena.specs.Held.{Holds, label}
use Rattle.forest_changes.specs.DomModel.ArenaState.{ArenaState, IsSlotted}
use Rattle.forest_changes.specs.Change.{Insert, Move, SetText, SetAttributes, applied, inverse}
use Rattle.forest_changes.proofs.Twice.{turns, given_parent, count_of-applied}
use Rattle.edit_steps.specs.declared.step.Step.{Step}
use Rattle.edit_steps.specs.declared.step.Step.TheVariants as step
use Rattle.edit_steps.specs.Step.{change_of, ref_at, step_applied, step_inverse, nodes_of, StepFits}
use Rattle.forest_changes.specs.Named.{listed, Each}
use Rattle.forest_changes.proofs.DownChange.{each_listed, parent_count, next_here}

label-ref : (a : ArenaState) (o : Option ℕ) → label (option_map (ref_at a) o) ≡ o
label-ref a None = refl
label-ref a (Some l) = refl

pub change_of-inverse : (x : Step) (a : ArenaState) → change_of (step_inverse x a)
    ≡ inverse (change_of x) a.trees
unfolding step_inverse inverse
change_of-inverse (step.Remove n) a =
    ap (Insert n.label (unwrap_or (parent_of a.trees n.label) 0))
    (label-ref a (next_of a.trees n.label))
change_of-inverse (step.Insert n p b) a = refl
change_of-inverse (step.SetText n words) a = refl
change_of-inverse (step.Splice s) a = refl
change_of-inverse (step.SetAttributes n list) a = refl
change_of-inverse (step.Move n p b) a =
    ap (Move n.label (unwrap_or (parent_of a.trees n.label) 0))
    (label-ref a (next_of a.trees n.label))

-- a held reference is the one to its label
pub ref_is : (a : ArenaState) → IsSlotted a → (r : NodeRef) → Holds a r → ref_at a r.label ≡ r
ref_is a ok r h = ap (λ k. record { slot = k; label = r.label }) (sym (ok.at r.slot r.label h))

pub refs_are : (a : ArenaState) → IsSlotted a → (o : Option NodeRef) → IfSome o (λ r. Holds a r)
    → option_map (ref_at a) (label o) ≡ o
refs_are a ok None h = refl
refs_are a ok (Some r) h = ap Some (ref_is a ok r h)

held_next : (a : ArenaState) → IsSlotted a → (o : Option ℕ) → IfSome o (λ l. 0 < count_of a.trees l)
    → Each (Holds a) (listed (option_map (ref_at a) o))
held_next a ok None h = tt
held_next a ok (Some l) h = (ok.kept l h, tt)

pub slotted-applied : (x : Step) (a : ArenaState) → StepFits x a → IsSlotted (step_applied x a)
unfolding step_applied
slotted-applied x a h = record {
  kept = λ l here.
      h.slotted.kept l (let e = count_of-applied (change_of x) a.trees h.fits l in rw e at here);
  at = h.slotted.at;
  here = λ slot l held.
      rw (count_of-applied (change_of x) a.trees h.fits l) (h.slotted.here slot l held);
}

pub held-inverse : (x : Step) (a : ArenaState) → StepFits x a
    → Each (Holds a) (nodes_of (step_inverse x a))
unfolding step_inverse
held-inverse (step.Remove n) a h =
    let p = unwrap_or (parent_of a.trees n.label) 0 in
    let child = given_parent a.trees n.label h.fits.here in
    let c = parent_count a.trees n.label p h.fits.forest.distinct child in (
      h.held.0,
      (
        h.slotted.kept p c.1,
        held_next a h.slotted (next_of a.trees n.label)
            (next_here a.trees n.label h.fits.forest.distinct),
      ),
    )
held-inverse (step.Insert n p b) a h = (h.held.0, tt)
held-inverse (step.SetText n words) a h = h.held
held-inverse (step.Splice s) a h = h.held
held-inverse (step.SetAttributes n list) a h = h.held
held-inverse (step.Move n p b) a h =
    let q = unwrap_or (parent_of a.trees n.label) 0 in
    let child = given_parent a.trees n.label h.fits.here.0 in
    let c = parent_count a.trees n.label q h.fits.forest.distinct child in (
      h.held.0,
      (
        h.slotted.kept q c.1,
        held_next a h.slotted (next_of a.trees n.label)
            (next_here a.trees n.label h.fits.forest.distinct),
      ),
    )

-- a step changes no slot
pub held-applied : (x : Step) (a : ArenaState) (rs : List NodeRef) → Each (Holds a) rs
    → Each (Holds (step_applied x a)) rs
unfolding step_applied
held-applied x a [] h = tt
held-applied x a (r ∷ rs) h = (h.0, held-applied x a rs h.1)

pub step_fits_again : (x : Step) (a : ArenaState) → StepFits x a
    → StepFits (step_inverse x a) (step_applied x a)
unfolding step_applied
step_fits_again x a h = record {
  fits = rw (change_of-inverse x a) (turns (change_of x) a.trees h.fits).fits;
  slotted = slotted-applied x a h;
  held = held-applied x a (nodes_of (step_inverse x a)) (held-inverse x a h);
}

pub step_state_again : (x : Step) (a : ArenaState) → StepFits x a
    → step_applied (step_inverse x a) (step_applied x a) ≡ a
unfolding step_applied
step_state_again x a h =
    let e : applied (change_of (step_inverse x a)) (applied (change_of x) a.trees) ≡ a.trees =
    rw (change_of-inverse x a) (turns (change_of x) a.trees h.fits).back in
    ap (λ f. record a { trees = f }) e

attach_parts : (n p q : ℕ) (b c : Option ℕ) → (Insert n p b) ≡ Insert n q c → (p ≡ q) × (b ≡ c)
attach_parts n p q b c e = (cc, cc)

shift_parts : (n p q : ℕ) (b c : Option ℕ) → (Move n p b) ≡ Move n q c → (p ≡ q) × (b ≡ c)
shift_parts n p q b c e = (cc, cc)

rewrite_parts : (n : ℕ) (ws vs : List ℕ) → SetText n ws ≡ SetText n vs → (r : NodeRef)
    → step.SetText r ws ≡ step.SetText r vs
rewrite_parts n ws vs e r = (let same : ws ≡ vs = cc in ap (step.SetText r) same)

redress_parts : (n : ℕ) (ws vs : List Attribute) → SetAttributes n ws ≡ SetAttributes n vs
    → (r : NodeRef) → step.SetAttributes r ws ≡ step.SetAttributes r vs
redress_parts n ws vs e r = (let same : ws ≡ vs = cc in ap (step.SetAttributes r) same)

pub step_step_again : (x : Step) (a : ArenaState) → StepFits x a
    → step_inverse (step_inverse x a) (step_applied x a) ≡ x
unfolding step_applied step_inverse inverse applied
step_step_again (step.Remove n) a h = refl
step_step_again (step.Insert n p b) a h =
    let t =
    attach_parts n.label _ _ _ _ (turns (change_of (step.Insert n p b)) a.trees h.fits).same in
    λ i. step.Insert n ((ap (ref_at a) t.0 ∙ ref_is a h.slotted p h.held.1.0) i)
    ((ap (option_map (ref_at a)) t.1
    ∙ refs_are a h.slotted b (each_listed (Holds a) b h.held.1.1)) i)
step_step_again (step.Move n p b) a h =
    let t = shift_parts n.label _ _ _ _ (turns (change_of (step.Move n p b)) a.trees h.fits).same in
    λ i. step.Move n ((ap (ref_at a) t.0 ∙ ref_is a h.slotted p h.held.1.0) i)
    ((ap (option_map (ref_at a)) t.1
    ∙ refs_are a h.slotted b (each_listed (Holds a) b h.held.1.1)) i)
step_step_again (step.SetText n words) a h =
    rewrite_parts n.label _ _ (turns (change_of (step.SetText n words)) a.trees h.fits).same n
step_step_again (step.Splice s) a h = refl
step_step_again (step.SetAttributes n list) a h =
    redress_parts n.label _ _ (turns (change_of (step.SetAttributes n list)) a.trees h.fits).same n
