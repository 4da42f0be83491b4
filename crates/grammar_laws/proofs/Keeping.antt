-- Each action of the grammar keeps a state within it.
use Rattle.std.proofs.Common.{◌≡◌, ℕ, ◌<◌, ◌^◌, Bool, true, false, not, cond, eqb, List, [], ◌∷◌, length, Option, Some, None, refl, sym, ◌∙◌, arith}
use Rattle.std.specs.Prelude.{nat_lt, codes, ◌&&◌, if◌then◌else◌}
use Rattle.std.proofs.lemmas.Bool.{and_parts}
use Rattle.edit_model.specs.DomModel.declared.Content.{Content}
use Rattle.edit_model.specs.DomModel.declared.Content.TheVariants.{Document, Element, Words, Remark}
use Rattle.edit_model.specs.DomModel.declared.attributes.Attribute.{Attribute}
use Rattle.edit_model.specs.DomModel.AttributeList.{are_distinct}
use Rattle.edit_model.specs.DomModel.Contents.{is_parent_at}
use Rattle.edit_model.specs.DomModel.Editing.{editing_host}
use Rattle.edit_model.specs.DomModel.Forest.{Forest, IsWithin, count_of, parent_of}
use Rattle.edit_model.proofs.DomModel.AttributeLemmas.{distinct-nothing}
use Rattle.edit_model.proofs.DomModel.Links.{parent_count}
use Rattle.edit_model.proofs.DomModel.Totals.{total-without}
use Rattle.edit_model.specs.HtmlNames.declared.commands.Command.{Command}
use Rattle.edit_model.specs.LiveRange.LivePoints.{LivePoints}
use Rattle.edit_model.specs.LiveRange.declared.places.Pair.{Pair}
use Rattle.edit_model.specs.LiveRange.declared.places.Point.{Point}
use Rattle.edit_model.specs.PointOrder.PointOrder.{is_in_document}
use Rattle.inline_value.specs.ForestChanges.Named.{Each}
use Rattle.edit_model.specs.State.{State}
use Rattle.edit_model.specs.Confined.{is_editable_for, may_select, may_grow, may_send}
use Rattle.edit_model.specs.Compositions.{attribute_list_of}
use Rattle.edit_model.specs.Edit.{Edit, Insert, Remove, Move, Replace, Set, Unset, is_made_edit, trees_after, overrides_after, changed, change_of, with_change, with_replaced, with_set, with_unset, edited}
use Rattle.edit_model.specs.Action as action
use Rattle.edit_model.specs.Tail.{copy_of, document_size}
use Rattle.edit_model.specs.Action.{Action, made, applied, tail_of, may_extract, extracted, words_content, with_selection, selected, extended, extended_from, grown, sent, scratched, acted, element_content}
use Rattle.edit_model.specs.Overrides.{no_overrides, with_setting}
use Rattle.edit_model.specs.Run.{Reaches, here, onward}
use Rattle.edit_model.specs.Valid.{IsValid}
use Rattle.edit_model.specs.declared.settings.Setting.{Setting}
use Rattle.edit_model.specs.declared.settings.Setting.TheVariants.{Absent}
use Rattle.edit_model.proofs.Steps.{either_way}
use Rattle.edit_model.proofs.ValidRuns.{valid_along}
use Rattle.edit_model.proofs.TailPossible.{tail_possible}
use Rattle.edit_model.proofs.TailPlan.{IsCopy, is_copy, tail_fits}
use Rattle.edit_model.proofs.TailSteps.{extract_tests, either_extracted}
use Rattle.edit_model.proofs.TailRuns.{fit_steps}
use Rattle.edit_model.proofs.TailOutside.{host_of}
use Rattle.edit_model.proofs.TailStates.{host_between}
use Rattle.making_laws.proofs.Named.{IsNamed, named_within}
use Rattle.step_text.specs.StepLine.{is_attribute_name}
use Rattle.grammar_laws.specs.Proper.{AllNodes, IsText, IsPageTag, IsProper, IsProperChange, IsProperSetting, IsProperNode, IsProperState}
use Rattle.grammar_laws.specs.Runs.{IsProperEdit, IsProperAction, ProperOn}
use Rattle.grammar_laws.proofs.Lists.{list_set, list_unset}
use Rattle.grammar_laws.proofs.Nodes.{nodes_linked, nodes_unlinked, nodes_leaf, nodes_revised}
use Rattle.grammar_laws.proofs.Reading.{tag_proper, list_proper}
use Rattle.grammar_laws.proofs.Texts.{each_if, each_append, each_replicate, each_set_at, text_spliced}

-- ---- contents

replaced_proper : (at count : ℕ) (put : List ℕ) → IsText put → (c : Content) → IsProper c → IsProper (with_replaced at count put c)
replaced_proper at count put own Document h = tt
replaced_proper at count put own (Element name list) h = h
replaced_proper at count put own (Words chars) h = text_spliced chars at count put h own
replaced_proper at count put own (Remark chars) h = h

set_proper : (name value : List ℕ) → is_attribute_name name ≡ true → IsText value → (c : Content) → IsProper c → IsProper (with_set name value c)
set_proper name value named own Document h = tt
set_proper name value named own (Element tag list) h = (let k = list_set list name value named own (h.0.1, h.0.2) in ((h.0.0, k.0, k.1), h.1))
set_proper name value named own (Words chars) h = h
set_proper name value named own (Remark chars) h = h

unset_proper : (name : List ℕ) (c : Content) → IsProper c → IsProper (with_unset name c)
unset_proper name Document h = tt
unset_proper name (Element tag list) h = (let k = list_unset list name (h.0.1, h.0.2) in ((h.0.0, k.0, k.1), h.1))
unset_proper name (Words chars) h = h
unset_proper name (Remark chars) h = h

words_proper : (chars : List ℕ) → IsText chars → IsProper (words_content chars)
words_proper chars own = by_test (nat_lt (length chars) (2 ^ 32))
  where
    by_test : (b : Bool) → IsProper (if b then Words chars else Words [])
    by_test true = own
    by_test false = refl

element_proper : (b : Bool) (name : List ℕ) (list : List Attribute) → IsPageTag name list → IsProper (Element name (if b then list else []))
element_proper true name list own = own
element_proper false name list own = ((own.0.0, tt, distinct-nothing), own.1)

-- ---- an edit

nodes_after : (e : Edit) (f : Forest Content) → IsProperEdit e → AllNodes IsProper f → AllNodes IsProper (trees_after e f)
unfolding trees_after
nodes_after (Insert p b n) f h k = nodes_linked IsProper f p b n k
nodes_after (Remove n) f h k = nodes_unlinked IsProper f n k
nodes_after (Move n p b) f h k = nodes_linked IsProper _ p b n (nodes_unlinked IsProper f n k)
nodes_after (Replace n at count put) f h k = nodes_revised IsProper f n (with_replaced at count put) (replaced_proper at count put h) k
nodes_after (Set n name value) f h k = nodes_revised IsProper f n (with_set name value) (set_proper name value h.0 h.1) k
nodes_after (Unset n name) f h k = nodes_revised IsProper f n (with_unset name) (unset_proper name) k

change_proper : (e : Edit) (f : Forest Content) → IsProperEdit e → AllNodes IsProper f → IsProperChange (change_of e f)
unfolding change_of
change_proper (Insert p b n) f h k = tt
change_proper (Remove n) f h k = tt
change_proper (Move n p b) f h k = tt
change_proper (Replace n at count put) f h k = h
change_proper (Set n name value) f h k = list_set (attribute_list_of f n) name value h.0 h.1 (list_proper f k n)
change_proper (Unset n name) f h k = list_unset (attribute_list_of f n) name (list_proper f k n)

-- ---- overrides

pub settings_none : Each IsProperSetting no_overrides
unfolding no_overrides
settings_none = each_replicate IsProperSetting 32 Absent tt

settings_after : (s : State) (trees : Forest Content) (points : LivePoints) → Each IsProperSetting s.overrides → Each IsProperSetting (overrides_after s trees points)
unfolding overrides_after
settings_after s trees points h = each_if IsProperSetting _ no_overrides s.overrides settings_none h

settings_with : (c : Command) (setting : Setting) (s : State) → IsProperSetting setting → Each IsProperSetting s.overrides → Each IsProperSetting (with_setting s.overrides c setting)
unfolding with_setting
settings_with c setting s own h = each_set_at IsProperSetting s.overrides _ setting own h

-- ---- steps to other states

pub proper_changed : (s : State) (trees : Forest Content) (points : LivePoints) → IsProperState s → AllNodes IsProper trees → IsProperState (changed s trees points)
unfolding changed
proper_changed s trees points p h = record { nodes = h; settings = settings_after s trees points p.settings; made = p.made; edits = p.edits }

proper_applied : (e : Edit) (s : State) → IsProperEdit e → IsProperState s → IsProperState (applied e s)
unfolding applied with_change changed
proper_applied e s h p = record {
  nodes = nodes_after e s.trees h p.nodes;
  settings = settings_after s (trees_after e s.trees) _ p.settings;
  made = p.made;
  edits = each_append IsProperChange s.edits (change_of e s.trees ∷ []) p.edits (change_proper e s.trees h p.nodes, tt);
}

proper_edited : (e : Edit) (s : State) → IsProperEdit e → IsProperState s → IsProperState (edited e s)
unfolding edited applied
proper_edited e s h p = either_way IsProperState (is_made_edit e s) (proper_applied e s h p) p

proper_made : (c : Content) (s : State) → IsProper c → IsProperState s → IsProperState (made c s)
unfolding made
proper_made c s h p = record {
  nodes = nodes_leaf IsProper s.trees s.next c h p.nodes;
  settings = p.settings;
  made = each_append IsProperNode s.made ((s.next, c) ∷ []) p.made (h, tt);
  edits = p.edits;
}

pub proper_selection : (pair : Option Pair) (s : State) → IsProperState s → IsProperState (with_selection pair s)
proper_selection pair s p = proper_changed s s.trees _ p p.nodes

pub proper_selected : (anchor focus : Point) (s : State) → IsProperState s → IsProperState (selected anchor focus s)
unfolding selected
proper_selected anchor focus s p = either_way IsProperState (may_select s anchor && may_select s focus) (proper_selection _ s p) p

proper_extended : (o : Option Pair) (focus : Point) (s : State) → IsProperState s → IsProperState (extended_from o focus s)
proper_extended None focus s p = p
proper_extended (Some pair) focus s p = either_way IsProperState (may_select s focus) (proper_selection _ s p) p

proper_grown : (at : Point) (s : State) → IsProperState s → IsProperState (grown at s)
unfolding grown
proper_grown at s p = either_way IsProperState (may_grow s at) (proper_changed s s.trees _ p p.nodes) p

proper_sent : (node at tail : ℕ) (s : State) → IsProperState s → IsProperState (sent node at tail s)
unfolding sent
proper_sent node at tail s p = either_way IsProperState (may_send s node at tail) (proper_changed s s.trees _ p p.nodes) p

proper_scratched : (pair : Pair) (s : State) → IsProperState s → IsProperState (scratched pair s)
unfolding scratched
proper_scratched pair s p =
    either_way IsProperState (may_select s pair.anchor && may_select s pair.focus) (record { nodes = p.nodes; settings = p.settings; made = p.made; edits = p.edits }) p

-- ---- an extraction

copy_proper : (f : Forest Content) (k : ℕ) → AllNodes IsProper f → IsNamed f k → IsProper (copy_of f k)
unfolding copy_of
copy_proper f k h named = (let list = list_unset (attribute_list_of f k) (codes "id") (list_proper f h k) in let own = tag_proper f h k named in ((own.0, list.0, list.1), own.1))

-- the node of the point may have children
from_open : (s : State) (from : Point) (end target : ℕ) → may_extract s from end target ≡ true → is_parent_at s.trees from.label ≡ true
unfolding may_extract
from_open s from end target may =
    let h1 = and_parts (not s.keeping) _ may in
    let h2 = and_parts (is_editable_for s end) _ h1.1 in
    let h3 = and_parts (is_in_document s.trees end) _ h2.1 in
    let h4 = and_parts (is_editable_for s from.label) _ h3.1 in
    (and_parts (is_parent_at s.trees from.label) _ h4.1).0

proper_extracted : (s : State) (from : Point) (end target : ℕ) → IsValid s → IsProperState s → IsProperState (extracted from end target s)
unfolding tail_of
proper_extracted s from end target is p =
    either_extracted IsProperState from end target s
    (λ may. (
    let tests = extract_tests s from end target may in
    let host = host_of s end tests.end_editable in
    let own = host_of s from.label tests.from_editable in
    let same : Some own.0 ≡ Some host.0 = sym own.1 ∙ host.1 in
    let g = s.trees in
    let bears = from_open s from end target may in
    let there = λ (c k : ℕ) (child : parent_of g k ≡ Some c). (parent_count g k c is.forest.distinct child).0 in
    fit_steps (λ c. IsCopy c × IsProper c) (λ _. Unit {0}) (λ _. Unit {0}) (λ c q. q.0) IsProperState
    (λ c u is' k q. proper_made c u k.1 q)
    (λ n o u is' _ child q. proper_applied (Remove n) u tt q)
    (λ b d n u is' _ _ can q. proper_applied (Insert b d n) u tt q)
    (tail_of s from end target) s
    (tail_fits (λ c. IsCopy c × IsProper c) (λ _. Unit {0}) (λ _. Unit {0}) g is.forest.distinct s.next from
    (λ c. (editing_host g c ≡ Some host.0) × (IsWithin g c from.label × (0 < count_of g c)))
    (λ c k above child within. (host_between g s.next is.forest host.0 c k from.label above.0 child within (own.2 ∙ same), (within, there c k child)))
    (λ _ _ _ _. tt)
    (λ k e. (is_copy g is.forest.nodes k, copy_proper g k p.nodes (named_within g s.next is.forest host.0 k from.label e.0 e.1.0 bears e.1.1)))
    (λ _ _. tt) (λ _ _. tt) (document_size g) end target s.next (host.2, (tests.below, end_there s end tests.end_inside)) tt (omega arith))
    (tail_possible s is from end target may) is p))
    p
  where
    end_there : (s : State) (end : ℕ) → IsWithin s.trees 0 end → 0 < count_of s.trees end
    end_there s end inside = omega (arith, inside, total-without (λ m _. cond (eqb m end) 1 0) s.trees 0)

-- ---- an action, and a run

proper_acted : (a : Action) (s : State) → IsValid s → IsProperAction a → IsProperState s → IsProperState (acted a s)
unfolding acted extended
proper_acted (action.Change e) s is h p = proper_edited e s h p
proper_acted (action.MakeElement name attributes) s is h p = proper_made (element_content name attributes) s (element_proper (are_distinct attributes) name attributes h) p
proper_acted (action.MakeWords chars) s is h p = proper_made (words_content chars) s (words_proper chars h) p
proper_acted (action.Select anchor focus) s is h p = proper_selected anchor focus s p
proper_acted (action.Extend focus) s is h p = proper_extended s.points.selection focus s p
proper_acted action.Unselect s is h p = proper_selection None s p
proper_acted (action.Grow at) s is h p = proper_grown at s p
proper_acted (action.Send node at tail) s is h p = proper_sent node at tail s p
proper_acted (action.Scratch pair) s is h p = proper_scratched pair s p
proper_acted (action.Override command setting) s is h p = record { nodes = p.nodes; settings = settings_with command setting s h p.settings; made = p.made; edits = p.edits }
proper_acted (action.Flag flags) s is h p = record { nodes = p.nodes; settings = p.settings; made = p.made; edits = p.edits }
proper_acted (action.Extract from end target) s is h p = proper_extracted s from end target is p

pub proper_along : {s t : State} (r : Reaches s t) → IsValid s → IsProperState s → ProperOn r → IsProperState t
proper_along here is p h = p
proper_along (onward {t = t} q a) is p h = proper_acted a t (valid_along q is) h.1 (proper_along q is p h.0)
