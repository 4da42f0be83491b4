-- Steps one after another, over an arena and over its forest.
use Rattle.std.proofs.Common.{◌≡◌, List, [], ◌∷◌, map, Option, Some, None, refl, sym, ap, subst, ◌∙◌}
use Rattle.forest_changes.specs.DomModel.declared.Content.{Content}
use Rattle.forest_changes.specs.DomModel.Forest.{Forest}
use Rattle.forest_changes.specs.DomModel.ArenaState.{ArenaState, IsSlotted}
use Rattle.node_arena.specs.declared.NodeRef.{NodeRef}
use Rattle.node_arena.specs.Held.{Holds, label}
use Rattle.forest_changes.specs.UndoLog.Turning.{back, forth, inverses_back, inverses_forth, FitsBack, FitsForth}
use Rattle.forest_changes.specs.Change.{Fits, applied, inverse}
use Rattle.forest_changes.specs.Named.{named, listed, Each}
use Rattle.forest_changes.proofs.ChangeLists.{each_join, each_first, each_rest}
use Rattle.edit_steps.specs.declared.step.Step.{Step}
use Rattle.edit_steps.specs.declared.step.Step.TheVariants as step
use Rattle.edit_steps.specs.Step.{change_of, changes_of, step_applied, step_inverse, nodes_of, nodes_in, StepFits, GoBack, GoForth}
use Rattle.edit_steps.specs.StepLaws.{change_of-inverse, slotted-applied, held-inverse}

labels_listed : (o : Option NodeRef) → map (λ (r : NodeRef). r.label) (listed o) ≡ listed (label o)
labels_listed None = refl
labels_listed (Some r) = refl

pub named_labels : (x : Step) → map (λ (r : NodeRef). r.label) (nodes_of x) ≡ named (change_of x)
named_labels (step.Remove n) = refl
named_labels (step.Insert n p b) = ap (λ ls. n.label ∷ p.label ∷ ls) (labels_listed b)
named_labels (step.Move n p b) = ap (λ ls. n.label ∷ p.label ∷ ls) (labels_listed b)
named_labels (step.SetText n words) = refl
named_labels (step.Splice s) = refl
named_labels (step.SetAttributes n list) = refl

-- which nodes are held doesn't depend on the forest
same_held : (a : ArenaState) (f : Forest Content) (rs : List NodeRef) → Each (Holds (record a { trees = f })) rs → Each (Holds a) rs
same_held a f [] h = tt
same_held a f (r ∷ rs) h = (h.0, same_held a f rs h.1)

held_in : (a : ArenaState) (f : Forest Content) (rs : List NodeRef) → Each (Holds a) rs → Each (Holds (record a { trees = f })) rs
held_in a f [] h = tt
held_in a f (r ∷ rs) h = (h.0, held_in a f rs h.1)

pub go_back : (xs : List Step) (a : ArenaState) → FitsBack step_applied StepFits xs a → GoBack xs a
unfolding back inverses_back FitsBack step_applied
go_back [] a h = record { fits = tt; state = refl; turns = refl; held = tt }
go_back (x ∷ xs) a h =
    let r = go_back xs a h.0 in
    let b = back step_applied xs a in
    let f = back applied (changes_of xs) a.trees in
    let now : Each (Holds b) (nodes_of (step_inverse x b)) = held-inverse x b h.1 in
    record {
      fits = (r.fits, subst (λ (s : ArenaState). Fits (change_of x) s.trees) r.state h.1.fits);
      state = ap (step_applied x) r.state;
      turns = λ i. (change_of-inverse x b ∙ ap (λ (s : ArenaState). inverse (change_of x) s.trees) r.state) i ∷ r.turns i;
      held = each_join (Holds a) (nodes_of (step_inverse x b)) (nodes_in (inverses_back step_applied step_inverse xs a)) (same_held a f (nodes_of (step_inverse x b)) (subst (λ (s : ArenaState). Each (Holds s) (nodes_of (step_inverse x b))) r.state now)) r.held;
    }

pub go_forth : (xs : List Step) (a : ArenaState) → FitsForth step_applied StepFits xs a → GoForth xs a
unfolding forth inverses_forth FitsForth step_applied
go_forth [] a h = record { fits = tt; state = refl; turns = refl; held = tt }
go_forth (x ∷ xs) a h =
    let b = step_applied x a in
    let r = go_forth xs b h.1 in
    record {
      fits = (h.0.fits, r.fits);
      state = r.state;
      turns = λ i. change_of-inverse x a i ∷ r.turns i;
      held = each_join (Holds a) (nodes_of (step_inverse x a)) (nodes_in (inverses_forth step_applied step_inverse xs b)) (held-inverse x a h.0) (same_held a b.trees (nodes_in (inverses_forth step_applied step_inverse xs b)) r.held);
    }

record BackFits (xs : List Step) (a : ArenaState) : Type 0 where
  fits : FitsBack step_applied StepFits xs a
  slotted : IsSlotted (back step_applied xs a)

back_steps : (xs : List Step) (a : ArenaState) → IsSlotted a → Each (Holds a) (nodes_in xs) → FitsBack applied Fits (changes_of xs) a.trees → BackFits xs a
unfolding back FitsBack step_applied
back_steps [] a ok held h = record { fits = tt; slotted = ok }
back_steps (x ∷ xs) a ok held h =
    let r = back_steps xs a ok (each_rest (Holds a) (nodes_of x) (nodes_in xs) held) h.0 in
    let state = (go_back xs a r.fits).state in
    let f = back applied (changes_of xs) a.trees in
    let own = held_in a f (nodes_of x) (each_first (Holds a) (nodes_of x) (nodes_in xs) held) in
    let here : StepFits x (back step_applied xs a) = record {
      fits = subst (λ (s : ArenaState). Fits (change_of x) s.trees) (sym state) h.1;
      slotted = r.slotted;
      held = subst (λ (s : ArenaState). Each (Holds s) (nodes_of x)) (sym state) own;
    } in
    record { fits = (r.fits, here); slotted = slotted-applied x (back step_applied xs a) here }

pub back_fits : (xs : List Step) (a : ArenaState) → IsSlotted a → Each (Holds a) (nodes_in xs) → FitsBack applied Fits (changes_of xs) a.trees → FitsBack step_applied StepFits xs a
back_fits xs a ok held h = (back_steps xs a ok held h).fits

pub forth_fits : (xs : List Step) (a : ArenaState) → IsSlotted a → Each (Holds a) (nodes_in xs) → FitsForth applied Fits (changes_of xs) a.trees → FitsForth step_applied StepFits xs a
unfolding forth FitsForth step_applied
forth_fits [] a ok held h = tt
forth_fits (x ∷ xs) a ok held h =
    let here : StepFits x a = record { fits = h.0; slotted = ok; held = each_first (Holds a) (nodes_of x) (nodes_in xs) held } in
    let b = step_applied x a in
    (here, forth_fits xs b (slotted-applied x a here) (held_in a b.trees (nodes_in xs) (each_rest (Holds a) (nodes_of x) (nodes_in xs) held)) h.1)
