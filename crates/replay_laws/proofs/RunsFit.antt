-- The edits of a run fit the forest that it began with and the nodes that it made, and lead to the forest that it leaves.
use Rattle.std.proofs.Common.{◌≡◌, ℕ, ◌+◌, ◌<◌, ◌≤◌, Bool, true, ◌&&◌, List, [], ◌∷◌, ◌++◌, Option, Some, None, refl, sym, ap, subst, ◌∙◌, arith}
use Rattle.std.proofs.lemmas.Bool.{and_parts}
use Rattle.edit_model.specs.DomModel.declared.Content.{Content}
use Rattle.edit_model.specs.DomModel.Forest.{Forest, count_of, with_leaf}
use Rattle.edit_model.proofs.DomModel.Links.{seek-with_leaf_new}
use Rattle.inline_value.specs.UndoLog.Turning.{forth, FitsForth}
use Rattle.inline_value.specs.ForestChanges.Change.{Change, Fits, applied}
use Rattle.inline_value.specs.ForestChanges.Leaves.{IsBelow, IsMade}
use Rattle.inline_value.specs.ForestChanges.Named.{Each}
use Rattle.inline_value.proofs.ForestChanges.ChangeLists.{each_join}
use Rattle.inline_value.proofs.ForestChanges.ManyLeaves.{forth_beside}
use Rattle.inline_value.proofs.EditDoc.Downs.{forth_labels}
use Rattle.inline_value.specs.EditDoc.Onward.{with_made, RiseFrom, next_past}
use Rattle.edit_model.specs.LiveRange.declared.places.Point.{Point}
use Rattle.edit_model.specs.LiveRange.declared.places.Pair.{Pair}
use Rattle.edit_model.specs.State.{State}
use Rattle.edit_model.specs.Confined.{may_select, may_grow, may_send}
use Rattle.edit_model.specs.Edit.{Edit, is_made_edit, change_of, trees_after, points_after, changed, with_change, edited}
use Rattle.edit_model.specs.Tail.{Step, Copy, Do}
use Rattle.edit_model.specs.Possible.{freed, are_possible}
use Rattle.edit_model.specs.Action as action
use Rattle.edit_model.specs.Action.{Action, made, stepped, stepped_all, tail_of, extracted, words_content, element_content, selected, extended_from, extended, grown, sent, scratched, acted}
use Rattle.edit_model.specs.Run.{Reaches}
use Rattle.edit_model.specs.History.{begun}
use Rattle.edit_model.specs.Valid.{IsValid}
use Rattle.edit_model.proofs.Commands.{valid_begun}
use Rattle.edit_model.proofs.Forests.{fresh}
use Rattle.edit_model.proofs.Steps.{along, either_way}
use Rattle.edit_model.proofs.TailPlan.{AllOf, Fits as StepFits, IsCopy}
use Rattle.edit_model.proofs.TailPossible.{tail_possible}
use Rattle.edit_model.proofs.TailSteps.{either_extracted}
use Rattle.edit_model.proofs.ValidParts.{valid_freed, valid_applied, valid_copied, plain_tail}
use Rattle.edit_model.proofs.ValidRuns.{chosen, valid_acted}
use Rattle.replay_laws.proofs.EditsFit.{fits_made}
use Rattle.replay_laws.proofs.MadeBeside.{fits_join, forth_join, with_made-join, rise_join, past_join}

-- what a valid state came to have is a node that can be made
made_node : (c : Content) (s : State) → IsValid s → IsValid (made c s) → IsMade c
unfolding made
made_node c s is new =
    let node = new.forest.nodes s.next _ (seek-with_leaf_new s.trees s.next c (fresh s.trees s.next is.forest)) in
    let some = is.forest.below 0 is.forest.document in
    record { plain = λ e. (let z : s.next ≡ 0 = node.document.0 e in omega (arith, z, some)); short = node.short; names = node.names }

module _ (f : Forest Content) (first : ℕ) where
  -- the changes fit the forest with the nodes, and lead to the trees
  pub record LeadTo (trees : Forest Content) (edits : List Change) (nodes : List (ℕ × Content)) (next : ℕ) : Type 0 where
    pub rise : RiseFrom first nodes
    pub past : next_past first nodes ≤ next
    pub made : Each (λ (n : ℕ × Content). IsMade n.1) nodes
    pub fits : FitsForth applied Fits edits (with_made f nodes)
    pub same : forth applied edits (with_made f nodes) ≡ trees

  pub record Led (t : State) : Type 0 where
    pub lead : LeadTo t.trees t.edits t.made t.next

  lead_edit : (trees after : Forest Content) (edits : List Change) (nodes : List (ℕ × Content)) (next : ℕ) (x : Change) → Fits x trees → applied x trees ≡ after → LeadTo trees edits nodes next → LeadTo after (edits ++ x ∷ []) nodes next
  unfolding forth FitsForth
  lead_edit trees after edits nodes next x fit same h = record {
    rise = h.rise;
    past = h.past;
    made = h.made;
    fits = fits_join edits (x ∷ []) (with_made f nodes) h.fits (subst (λ (g : Forest Content). Fits x g) (sym h.same) fit, tt);
    same = forth_join edits (x ∷ []) (with_made f nodes) ∙ (ap (applied x) h.same ∙ same);
  }

  lead_node : (trees : Forest Content) (edits : List Change) (nodes : List (ℕ × Content)) (next : ℕ) (c : Content) → IsMade c → ((l : ℕ) → 0 < count_of trees l → l < next) → LeadTo trees edits nodes next
      → LeadTo (with_leaf trees next c) edits (nodes ++ (next, c) ∷ []) (next + 1)
  lead_node trees edits nodes next c own below h =
      let g = with_made f nodes in
      let low : IsBelow g next = record {
        below = λ l k. (
            let labels = forth_labels edits g l h.fits in
            let there = ap (λ (w : Forest Content). count_of w l) h.same in
            below l (omega (arith, k, labels, there)));
      } in
      let one = forth_beside next (c ∷ []) edits g low (own, tt) h.fits in
      let join : with_made f (nodes ++ (next, c) ∷ []) ≡ with_leaf g next c = with_made-join nodes ((next, c) ∷ []) f in
      record {
        rise = rise_join nodes ((next, c) ∷ []) first h.rise (h.past, tt);
        past = (let e : next_past first (nodes ++ (next, c) ∷ []) ≡ next + 1 = past_join nodes ((next, c) ∷ []) first in omega (arith, e));
        made = each_join (λ (n : ℕ × Content). IsMade n.1) nodes ((next, c) ∷ []) h.made (own, tt);
        fits = subst (λ (w : Forest Content). FitsForth applied Fits edits w) (sym join) one.fits;
        same = ap (forth applied edits) join ∙ (one.same ∙ ap (λ (w : Forest Content). with_leaf w next c) h.same);
      }

  -- ---- the parts of actions

  led_made : (c : Content) (s : State) → IsValid s → IsValid (made c s) → Led s → Led (made c s)
  unfolding made
  led_made c s is new h = record { lead = lead_node s.trees s.edits s.made s.next c (made_node c s is new) is.forest.below h.lead }

  led_change : (e : Edit) (s : State) → IsValid s → is_made_edit e s ≡ true → Led s → Led (with_change (change_of e s.trees) (changed s (trees_after e s.trees) (points_after e s.trees s.points)))
  unfolding with_change changed
  led_change e s is may h =
      let fit = fits_made s is e may in
      record { lead = lead_edit s.trees (trees_after e s.trees) s.edits s.made s.next (change_of e s.trees) fit.fits fit.same h.lead }

  led_edited : (e : Edit) (s : State) → IsValid s → Led s → Led (edited e s)
  unfolding edited
  led_edited e s is h = chosen Led (is_made_edit e s) (λ may. led_change e s is may h) h

  led_applied : (e : Edit) (s : State) → IsValid s → is_made_edit e (freed s) ≡ true → Led s → Led (action.applied e s)
  unfolding action.applied with_change changed
  led_applied e s is may h =
      let fit = fits_made (freed s) (valid_freed s is) e may in
      record { lead = lead_edit s.trees (trees_after e s.trees) s.edits s.made s.next (change_of e s.trees) fit.fits fit.same h.lead }

  led_steps : (xs : List Step) (s : State) → AllOf (StepFits IsCopy (λ _. Unit {0}) (λ _. Unit {0})) xs → are_possible xs s ≡ true → IsValid s → Led s → Led (stepped_all xs s)
  unfolding stepped_all stepped are_possible
  led_steps [] s fit may is h = h
  led_steps (Copy c ∷ xs) s fit may is h =
      let new = valid_copied c s fit.0 is in
      led_steps xs (made c s) fit.1 may new (led_made c s is new h)
  led_steps (Do e ∷ xs) s fit may is h =
      let parts = and_parts (is_made_edit e (freed s)) (are_possible xs (action.applied e s)) may in
      led_steps xs (action.applied e s) fit.1 parts.1 (valid_applied e s is parts.0) (led_applied e s is parts.0 h)

  led_extracted : (from : Point) (end target : ℕ) (s : State) → IsValid s → Led s → Led (extracted from end target s)
  led_extracted from end target s is h =
      either_extracted Led from end target s (λ may. led_steps (tail_of s from end target) s (plain_tail s is from end target) (tail_possible s is from end target may) is h) h

  -- ---- actions that make no edit and no node

  led_selected : (anchor focus : Point) (s : State) → Led s → Led (selected anchor focus s)
  unfolding selected changed
  led_selected anchor focus s h = either_way Led (may_select s anchor && may_select s focus) (record { lead = h.lead }) h

  led_extended : (o : Option Pair) (focus : Point) (s : State) → Led s → Led (extended_from o focus s)
  unfolding changed
  led_extended None focus s h = h
  led_extended (Some pair) focus s h = either_way Led (may_select s focus) (record { lead = h.lead }) h

  led_grown : (at : Point) (s : State) → Led s → Led (grown at s)
  unfolding grown changed
  led_grown at s h = either_way Led (may_grow s at) (record { lead = h.lead }) h

  led_sent : (n at tail : ℕ) (s : State) → Led s → Led (sent n at tail s)
  unfolding sent changed
  led_sent n at tail s h = either_way Led (may_send s n at tail) (record { lead = h.lead }) h

  led_scratched : (pair : Pair) (s : State) → Led s → Led (scratched pair s)
  unfolding scratched
  led_scratched pair s h = either_way Led (may_select s pair.anchor && may_select s pair.focus) (record { lead = h.lead }) h

  -- ---- every action, and every run

  led_acted : (a : Action) (s : State) → IsValid s → Led s → Led (acted a s)
  unfolding acted extended changed
  led_acted (action.Change e) s is h = led_edited e s is h
  led_acted (action.MakeElement name attributes) s is h = led_made (element_content name attributes) s is (valid_acted (action.MakeElement name attributes) s is) h
  led_acted (action.MakeWords chars) s is h = led_made (words_content chars) s is (valid_acted (action.MakeWords chars) s is) h
  led_acted (action.Select anchor focus) s is h = led_selected anchor focus s h
  led_acted (action.Extend focus) s is h = led_extended s.points.selection focus s h
  led_acted action.Unselect s is h = record { lead = h.lead }
  led_acted (action.Grow at) s is h = led_grown at s h
  led_acted (action.Send node at tail) s is h = led_sent node at tail s h
  led_acted (action.Scratch pair) s is h = led_scratched pair s h
  led_acted (action.Override command setting) s is h = record { lead = h.lead }
  led_acted (action.Flag flags) s is h = record { lead = h.lead }
  led_acted (action.Extract from end target) s is h = led_extracted from end target s is h

  pub record ValidLed (s : State) : Type 0 where
    pub valid : IsValid s
    pub led : Led s

  pub led_along : {s t : State} → Reaches s t → ValidLed s → ValidLed t
  led_along r h = along ValidLed (λ a s k. record { valid = valid_acted a s k.valid; led = led_acted a s k.valid k.led }) r h

-- a command's run, from where it begins
pub run_led : (s t : State) (host : Option ℕ) (keeping : Bool) → IsValid s → Reaches (begun host keeping s) t → LeadTo s.trees s.next t.trees t.edits t.made t.next
unfolding begun forth FitsForth
run_led s t host keeping is r =
    let start : ValidLed s.trees s.next (begun host keeping s) = record { valid = valid_begun host keeping s is; led = record { lead = record { rise = tt; past = omega arith; made = tt; fits = tt; same = refl } } } in
    (led_along s.trees s.next r start).led.lead
