-- An edit that is made: what a call that makes it owes.
use Rattle.std.proofs.Common.{◌≡◌, true, List, [], ◌∷◌, ◌++◌, Ok, refl, sym, ap, subst, ◌∙◌, arith}
use Rattle.std.specs.Prelude.{IsTrue}
use Rattle.edit_model.specs.DomModel.declared.Content.{Content}
use Rattle.edit_model.specs.DomModel.Forest.{Forest}
use Rattle.edit_model.specs.DomModel.Pruned.{pruned}
use Rattle.edit_model.specs.DomModel.ArenaState.{ArenaState as Arena, IsValid as IsArena}
use Rattle.edit_model.specs.LiveRange.LivePoints.{LivePoints}
use Rattle.step_edits.specs.UndoLog.Log.{noted, is_open, with_step}
use Rattle.step_edits.specs.ForestChanges.Change.{applied, inverse}
use Rattle.step_edits.specs.ForestChanges.Named.{Each, named}
use Rattle.step_edits.specs.ForestChanges.Down.{IsLeft}
use Rattle.step_edits.proofs.ForestChanges.Twice.{count_of-applied}
use Rattle.step_edits.specs.EditSteps.declared.step.Step.{Step}
use Rattle.step_edits.specs.EditSteps.Step.{change_of, step_applied, step_inverse, StepFits}
use Rattle.edit_model.specs.declared.settings.Setting.{Setting}
use Rattle.edit_model.specs.State.{State}
use Rattle.edit_model.specs.Valid.{IsValid}
use Rattle.edit_model.specs.Edit.{Edit, is_made_edit, trees_after, points_after, overrides_after, changed, with_change, change_of as edit_change}
use Rattle.edit_model.specs.Run.{edit}
use Rattle.edit_model.specs.Gives.{Gives}
use Rattle.edit_model.specs.Action.{applied as edit_applied}
use Rattle.edit_model.specs.Possible.{freed}
use Rattle.edit_model.proofs.Giving.{gives_made}
use Rattle.edit_model.proofs.ValidParts.{valid_applied}
use Rattle.edit_doc.specs.declared.Doc.TheInside.{Inside}
use Rattle.edit_doc.specs.declared.command.Command.{Command}
use Rattle.edit_doc.specs.Whole.{Whole, IsOpen, with_state}
use Rattle.edit_doc.specs.Held.{Keeps}
use Rattle.edit_doc.specs.History.{edits_before, state_of, whole_of}
use Rattle.edit_doc.specs.Sound.{IsSoundDoc}
use Rattle.edit_doc.specs.Live.{Live, live}
use Rattle.edit_doc.specs.Trail.{Trail, with_note}
use Rattle.edit_doc.proofs.Inner.{seen, seen as seen_of, Ok as OkInside, open_of}
use Rattle.edit_doc.proofs.SeenNodes.{out_of}
use Rattle.edit_doc.proofs.Freely.{freed_edit}
use Rattle.edit_doc.proofs.Changing.{Follows, goes, seen_next, state_next, whole_next, sound_next}

-- the tree after an edit
abbrev edited : Inside → Arena → LivePoints → List Setting → Live
edited d arena points overrides = record (live d.tree) { arena = arena; points = points; overrides = overrides }

-- what a call that makes an edit without its test owes after it
pub record Applied (d : Inside) (v : Whole) (e : Edit) (arena : Arena) (points : LivePoints) (overrides : List Setting) (c : Command) (trail : Trail) : Type 0 where
  pub invariant : IsSoundDoc (edited d arena points overrides) c trail
  pub state : state_of (edited d arena points overrides) c trail.log ≡ edit_applied e v.state
  pub keeps : Keeps v (whole_of (edited d arena points overrides) c trail)

-- and what a call that makes its test first owes
pub record Done (d : Inside) (v : Whole) (e : Edit) (arena : Arena) (points : LivePoints) (overrides : List Setting) (c : Command) (trail : Trail) : Type 0 where
  pub invariant : IsSoundDoc (edited d arena points overrides) c trail
  pub gives : Gives (Ok true) v.state (state_of (edited d arena points overrides) c trail.log) (edit e)
  pub keeps : Keeps v (whole_of (edited d arena points overrides) c trail)

-- the edit in the terms of the arena: the step that is made, and what the other fields become
pub record Makes (d : Inside) (e : Edit) (x : Step) (points : LivePoints) (overrides : List Setting) (c : Command) : Type 0 where
  pub fits : StepFits x d.tree.nodes.arena
  pub seen : Each (IsLeft (out_of d) d.tree.nodes.arena.trees) (named (change_of x))
  pub follows : Follows d.command c (change_of x) (inverse (change_of x) d.tree.nodes.arena.trees)
  pub names : points.names ≡ d.tree.points.names
  pub change : change_of x ≡ edit_change e (pruned (out_of d) d.tree.nodes.arena.trees)
  pub trees : applied (change_of x) (pruned (out_of d) d.tree.nodes.arena.trees) ≡ trees_after e (pruned (out_of d) d.tree.nodes.arena.trees)
  pub points_are : points ≡ points_after e (pruned (out_of d) d.tree.nodes.arena.trees) d.tree.points
  pub overrides_are : overrides ≡ overrides_after (seen_of d).state (trees_after e (pruned (out_of d) d.tree.nodes.arena.trees)) (points_after e (pruned (out_of d) d.tree.nodes.arena.trees) d.tree.points)

-- an edit that is made is applied
pub gives_applied : (e : Edit) (s t : State) → is_made_edit e s ≡ true → t ≡ edit_applied e s → Gives (Ok true) s t (edit e)
unfolding edit_applied
gives_applied e s t may is = gives_made e s t may is

module _ (d : Inside) (v : Whole) (is : seen d ≡ v) (law : IsArena d.tree.nodes.arena) (now_open : IsOpen v) (ok : OkInside d) where
  module _ (e : Edit) (x : Step) (points : LivePoints) (overrides : List Setting) (c : Command) (may : is_made_edit e (freed v.state) ≡ true) (m : Makes d e x points overrides c) where
    opened : IsTrue (is_open d.history.log.open_entry)
    opened = open_of d v is now_open

    abbrev f : Forest Content
    f = applied (change_of x) d.tree.nodes.arena.trees

    abbrev next : State
    next = seen_next (live d.tree) d.command d.history law opened ok x m.fits m.seen c m.follows points overrides

    may_seen : is_made_edit e (freed (seen d).state) ≡ true
    may_seen = subst (λ (w : Whole). is_made_edit e (freed w.state) ≡ true) (sym is) may

    next_is : next ≡ edit_applied e (seen d).state
    unfolding edit_applied changed with_change
    next_is = λ i. record (seen d).state {
      trees = m.trees i;
      points = m.points_are i;
      overrides = m.overrides_are i;
      edits = edits_before (noted d.history.log.open_entry) d.tree.nodes.arena.trees ++ m.change i ∷ [];
    }

    valid_next : IsValid next
    valid_next = subst IsValid (sym (next_is)) (valid_applied e (seen d).state ok.valid may_seen)

    state_is : state_of (edited d (record d.tree.nodes.arena { trees = f }) points overrides) c (with_step d.history.log (step_inverse x d.tree.nodes.arena)) ≡ next
    state_is = state_next (live d.tree) d.command d.history law opened ok x m.fits m.seen c m.follows points overrides m.names

    whole_is : whole_of (edited d (record d.tree.nodes.arena { trees = f }) points overrides) c (with_note d.history (step_inverse x d.tree.nodes.arena)) ≡ with_state (seen d) next
    whole_is = whole_next (live d.tree) d.command d.history law opened ok x m.fits m.seen c m.follows points overrides m.names

    keeps_seen : Keeps (seen d) (with_state (seen d) next)
    keeps_seen = record {
      held = λ r h. record {
        slot = h.slot;
        here = (let down = goes (live d.tree) d.command d.history law opened ok x m.fits m.seen in
            let same = count_of-applied (change_of x) (pruned (out_of d) d.tree.nodes.arena.trees) down.fits r.label in let here = h.here in omega (arith, same, here));
      };
      history = refl;
      began = refl;
      start = refl;
      cap = refl;
    }

    applied_here : Applied d v e (record d.tree.nodes.arena { trees = f }) points overrides c (with_note d.history (step_inverse x d.tree.nodes.arena))
    applied_here = record {
      invariant = sound_next (live d.tree) d.command d.history law opened ok x m.fits m.seen c m.follows points overrides m.names valid_next;
      state = state_is ∙ (next_is ∙ ap (λ (w : Whole). edit_applied e w.state) is);
      keeps = subst (λ w. Keeps w (whole_of (edited d (record d.tree.nodes.arena { trees = f }) points overrides) c (with_note d.history (step_inverse x d.tree.nodes.arena)))) is (subst (Keeps (seen d)) (sym whole_is) keeps_seen);
    }

    -- the same of what the calls that make it leave
    pub edit_linked : (arena : Arena) (trail : Trail) → arena ≡ step_applied x d.tree.nodes.arena → trail ≡ with_note d.history (step_inverse x d.tree.nodes.arena) → Applied d v e arena points overrides c trail
    unfolding step_applied
    edit_linked arena trail arena_is trail_is =
        subst (λ l. Applied d v e arena points overrides c l) (sym trail_is) (subst (λ a. Applied d v e a points overrides c (with_note d.history (step_inverse x d.tree.nodes.arena))) (sym arena_is) applied_here)

  -- and where the test was made
  module _ (e : Edit) (x : Step) (points : LivePoints) (overrides : List Setting) (c : Command) (may : is_made_edit e v.state ≡ true) (m : Makes d e x points overrides c) where
    pub edit_called : (arena : Arena) (trail : Trail) → arena ≡ step_applied x d.tree.nodes.arena → trail ≡ with_note d.history (step_inverse x d.tree.nodes.arena) → Done d v e arena points overrides c trail
    edit_called arena trail arena_is trail_is =
        let a = edit_linked e x points overrides c (freed_edit e v.state may) m arena trail arena_is trail_is in
        record { invariant = a.invariant; gives = gives_applied e v.state (state_of (edited d arena points overrides) c trail.log) may a.state; keeps = a.keeps }

pub keeps_same : (v : Whole) → Keeps v v
keeps_same v = record { held = λ r h. h; history = refl; began = refl; start = refl; cap = refl }

pub keeps_on : (first old new : Whole) → Keeps first old → Keeps old new → Keeps first new
keeps_on first old new a b = record {
  held = λ r h. b.held r (a.held r h);
  history = b.history ∙ a.history;
  began = b.began ∙ a.began;
  start = b.start ∙ a.start;
  cap = b.cap ∙ a.cap;
}
