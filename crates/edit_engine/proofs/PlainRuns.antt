-- Runs make elements and texts alone, and change the characters of texts alone.
use Rattle.std.proofs.Common.{◌≡◌, ℕ, zero, suc, ◌+◌, ◌^◌, true, false, true≢false, drop, nat_lt, List, [], ◌∷◌, ◌++◌, length, Option, Some, None, refl, sym, inl, inr}
use Rattle.std.specs.Prelude.{◌==◌}
use Rattle.std.specs.Option.{option_map_or}
use Rattle.std.proofs.lemmas.Bool.{and_parts}
use Rattle.edit_model.specs.DomModel.declared.Content.{Content}
use Rattle.edit_model.specs.DomModel.declared.Content.TheVariants.{Document, Element, Words, Remark}
use Rattle.edit_model.specs.DomModel.Forest.{Forest, children_of, content_of}
use Rattle.edit_model.proofs.DomModel.Stands.{true_or_false}
use Rattle.edit_model.specs.LiveRange.declared.places.Point.{Point}
use Rattle.edit_model.specs.PointOrder.PointOrder.{child_toward}
use Rattle.inline_value.specs.ForestChanges.Named.{Each}
use Rattle.inline_value.proofs.ForestChanges.ChangeLists.{each_join}
use Rattle.edit_model.specs.State.{State}
use Rattle.edit_model.specs.Confined.{is_own, may_change, may_replace}
use Rattle.edit_model.specs.Edit.{Edit, Insert, Remove, Move, Replace, Set, Unset, change_of, is_made_edit}
use Rattle.edit_model.specs.Tail.{Step, Copy, Do, carried, copy_of, later, tail_steps, document_size}
use Rattle.edit_model.specs.Action as action
use Rattle.edit_model.specs.Action.{Action, stepped, tail_of, may_extract, words_content}
use Rattle.edit_model.specs.Run.{Reaches, here, onward, changes_in, changes_of, nodes_in, nodes_of, nodes_on}
use Rattle.edit_engine.specs.PlainRuns.{ChangeTextsOn, RunsArePlain}
use Rattle.edit_engine.specs.Replaying.{can_be_made, ChangesText}
use Rattle.step_text.specs.Applying.{is_text}

abbrev CanBeMade : ℕ × Content → Type 0
CanBeMade n = can_be_made n.1 ≡ true

-- ---- an extraction

-- a copy of an element, or an edit without characters
abbrev IsMute : Step → Type 0
IsMute (Copy content) = can_be_made content ≡ true
IsMute (Do (Insert p b n)) = Unit {0}
IsMute (Do (Remove n)) = Unit {0}
IsMute (Do _) = ⊥

carried_mute : (d : ℕ) (xs : List ℕ) → Each IsMute (carried d xs)
unfolding carried
carried_mute d [] = tt
carried_mute d (x ∷ xs) = (tt, (tt, carried_mute d xs))

tail_mute : (fuel : ℕ) (f : Forest Content) (from : Point) (c d next : ℕ) → Each IsMute (tail_steps fuel f from c d next)
unfolding tail_steps copy_of
tail_mute zero f from c d next = tt
tail_mute (suc fuel) f from c d next = elim (true_or_false (from.label == c)) [
  | inl t ↦ rw t (carried_mute d (drop from.offset (children_of f c)))
  | inr t ↦ rw t (by_child (child_toward f c from.label) (λ k. tail_mute fuel f from k next (next + 1)))
]
  where
    by_child : (o : Option ℕ) → ((k : ℕ) → Each IsMute (tail_steps fuel f from k next (next + 1))) → Each IsMute (option_map_or (λ k. Copy (copy_of f k) ∷ (tail_steps fuel f from k next (next + 1) ++ (Do (Insert d None next) ∷ carried d (later (children_of f c) k)))) o [])
    by_child None inner = tt
    by_child (Some k) inner =
        (refl, each_join IsMute (tail_steps fuel f from k next (next + 1)) (Do (Insert d None next) ∷ carried d (later (children_of f c) k)) (inner k) (tt, carried_mute d (later (children_of f c) k)))

changes_mute : (f : Forest Content) (xs : List Step) (s : State) → Each IsMute xs → Each (ChangesText (content_of f)) (changes_in xs s)
unfolding change_of
changes_mute f [] s mute = tt
changes_mute f (Copy content ∷ xs) s mute = changes_mute f xs (stepped (Copy content) s) mute.1
changes_mute f (Do (Insert p b n) ∷ xs) s mute = (tt, changes_mute f xs (stepped (Do (Insert p b n)) s) mute.1)
changes_mute f (Do (Remove n) ∷ xs) s mute = (tt, changes_mute f xs (stepped (Do (Remove n)) s) mute.1)
changes_mute f (Do (Move n p b) ∷ xs) s mute = absurd mute.0
changes_mute f (Do (Replace n at count put) ∷ xs) s mute = absurd mute.0
changes_mute f (Do (Set n name value) ∷ xs) s mute = absurd mute.0
changes_mute f (Do (Unset n name) ∷ xs) s mute = absurd mute.0

nodes_mute : (xs : List Step) (s : State) → Each IsMute xs → Each CanBeMade (nodes_in xs s)
nodes_mute [] s mute = tt
nodes_mute (Copy content ∷ xs) s mute = (mute.0, nodes_mute xs (stepped (Copy content) s) mute.1)
nodes_mute (Do e ∷ xs) s mute = nodes_mute xs (stepped (Do e) s) mute.1

extracted_mute : (s : State) (from : Point) (end target : ℕ) → Each IsMute (tail_of s from end target)
unfolding tail_of
extracted_mute s from end target = tail_mute (document_size s.trees) s.trees from end target s.next

-- ---- an action

of_text : (o : Option Content) (at count : ℕ) (put : List ℕ) → may_change o at count put ≡ true → option_map_or is_text o false ≡ true
of_text None at count put t = absurd (true≢false (sym t))
of_text (Some Document) at count put t = absurd (true≢false (sym t))
of_text (Some (Element name list)) at count put t = absurd (true≢false (sym t))
of_text (Some (Words chars)) at count put t = refl
of_text (Some (Remark chars)) at count put t = absurd (true≢false (sym t))

edit_plain : (e : Edit) (s : State) → is_made_edit e s ≡ true → ChangesText (content_of s.trees) (change_of e s.trees)
unfolding change_of is_made_edit may_replace
edit_plain (Insert p b n) s t = tt
edit_plain (Remove n) s t = tt
edit_plain (Move n p b) s t = tt
edit_plain (Replace n at count put) s t = of_text (content_of s.trees n) at count put (and_parts (is_own s n) (may_change (content_of s.trees n) at count put) t).1
edit_plain (Set n name value) s t = tt
edit_plain (Unset n name) s t = tt

abbrev TextsOf : Action → State → Type 0
TextsOf a s = Each (ChangesText (content_of s.trees)) (changes_of a s)

action_plain : (a : Action) (s : State) → TextsOf a s
action_plain (action.Change e) s = elim (true_or_false (is_made_edit e s)) [
  | inl t ↦ rw t (edit_plain e s t, tt)
  | inr t ↦ rw t tt
]
action_plain (action.Extract from end target) s = elim (true_or_false (may_extract s from end target)) [
  | inl t ↦ rw t (changes_mute s.trees (tail_of s from end target) s (extracted_mute s from end target))
  | inr t ↦ rw t tt
]
action_plain (action.MakeElement name list) s = tt
action_plain (action.MakeWords chars) s = tt
action_plain (action.Select anchor focus) s = tt
action_plain (action.Extend focus) s = tt
action_plain action.Unselect s = tt
action_plain (action.Grow at) s = tt
action_plain (action.Send node at tail) s = tt
action_plain (action.Scratch pair) s = tt
action_plain (action.Override command setting) s = tt
action_plain (action.Flag flags) s = tt

words_made : (chars : List ℕ) → can_be_made (words_content chars) ≡ true
words_made chars = elim (true_or_false (nat_lt (length chars) (2 ^ 32))) [ inl t ↦ rw t refl | inr t ↦ rw t refl ]

nodes_plain : (a : Action) (s : State) → Each CanBeMade (nodes_of a s)
nodes_plain (action.Change e) s = tt
nodes_plain (action.Extract from end target) s = elim (true_or_false (may_extract s from end target)) [
  | inl t ↦ rw t (nodes_mute (tail_of s from end target) s (extracted_mute s from end target))
  | inr t ↦ rw t tt
]
nodes_plain (action.MakeElement name list) s = (refl, tt)
nodes_plain (action.MakeWords chars) s = (words_made chars, tt)
nodes_plain (action.Select anchor focus) s = tt
nodes_plain (action.Extend focus) s = tt
nodes_plain action.Unselect s = tt
nodes_plain (action.Grow at) s = tt
nodes_plain (action.Send node at tail) s = tt
nodes_plain (action.Scratch pair) s = tt
nodes_plain (action.Override command setting) s = tt
nodes_plain (action.Flag flags) s = tt

-- ---- a run

made_plain : {s t : State} (r : Reaches s t) → Each CanBeMade (nodes_on r)
unfolding nodes_on
made_plain here = tt
made_plain (onward {t = t} q a) = each_join CanBeMade (nodes_on q) (nodes_of a t) (made_plain q) (nodes_plain a t)

texts_plain : {s t : State} (r : Reaches s t) → ChangeTextsOn r
texts_plain here = tt
texts_plain (onward {t = t} q a) = (texts_plain q, action_plain a t)

pub runs_are_plain : RunsArePlain
runs_are_plain s t r = (made_plain r, texts_plain r)
