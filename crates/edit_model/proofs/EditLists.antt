-- The edits that a run makes, in order, and their count.
use Rattle.std.proofs.Common.{◌≡◌, ℕ, ◌+◌, Bool, true, false, ◌&&◌, if◌then◌else◌, List, [], ◌∷◌, ◌++◌, length, Option, Some, None, refl, sym, ap, ◌∙◌, arith, append_assoc, length-append}
use Rattle.point_order.specs.DomModel.declared.Content.{Content}
use Rattle.point_order.specs.DomModel.Change.{Change}
use Rattle.point_order.specs.DomModel.declared.attributes.Attribute.{Attribute}
use Rattle.point_order.specs.LiveRange.declared.places.Point.{Point}
use Rattle.point_order.specs.LiveRange.declared.places.Pair.{Pair}
use Rattle.edit_model.specs.State.{State}
use Rattle.edit_model.specs.Confined.{may_select, may_grow, may_send}
use Rattle.edit_model.specs.Edit.{Edit, is_made_edit, trees_after, points_after, changed, change_of, with_change, edited}
use Rattle.edit_model.specs.Action as action
use Rattle.edit_model.specs.Tail.{Step, Copy, Do}
use Rattle.edit_model.specs.Action.{Action, made, applied, stepped, stepped_all, tail_of, may_extract, extracted, with_selection, selected, extended_from, extended, grown, sent, scratched, words_content, element_content, acted}
use Rattle.edit_model.specs.Run.{Reaches, here, onward, reaches_trans, edits_in, edits_of, edits_on, changes_in, changes_of, changes_on, nodes_in, nodes_of, nodes_on, Run, final, value, edit_list, ◌>>=◌, act, answer, look, edit, make_element, make_words, perform}
use Rattle.edit_model.proofs.Steps.{either_way}

append_none : {A : Type 0} (xs : List A) → xs ++ [] ≡ xs
append_none [] = refl
append_none (x ∷ xs) = ap (λ r. x ∷ r) (append_none xs)

-- ---- the edits of a way

pub edits_on-trans : {s t u : State} (p : Reaches s t) (q : Reaches t u) → edits_on (reaches_trans p q) ≡ edits_on p ++ edits_on q
unfolding edits_on reaches_trans
edits_on-trans p here = sym (append_none (edits_on p))
edits_on-trans p (onward {t = t} q a) = ap (λ xs. xs ++ edits_of a t) (edits_on-trans p q) ∙ append_assoc (edits_on p) (edits_on q) (edits_of a t)

-- ---- the edits of a run

pub edit_list-bind : {A B : Type 0} (m : Run A) (k : A → Run B) (s : State) → edit_list (m >>= k) s ≡ edit_list m s ++ edit_list (k (value m s)) (final m s)
unfolding ◌>>=◌ edit_list value final
edit_list-bind m k s = edits_on-trans (m.by_actions s) ((k (m.run s).1).by_actions (m.run s).0)

pub edit_list-answer : {A : Type 0} (a : A) (s : State) → edit_list (answer a) s ≡ []
unfolding answer edit_list edits_on
edit_list-answer a s = refl

pub edit_list-look : {A : Type 0} (k : State → Run A) (s : State) → edit_list (look k) s ≡ edit_list (k s) s
unfolding look edit_list
edit_list-look k s = refl

pub edit_list-act : {A : Type 0} (a : Action) (tells : State → A) (s : State) → edit_list (act a tells) s ≡ edits_of a s
unfolding act edit_list edits_on
edit_list-act a tells s = refl

pub edit_list-edit : (e : Edit) (s : State) → edit_list (edit e) s ≡ (if is_made_edit e s then e ∷ [] else [])
unfolding edit act edit_list edits_on
edit_list-edit e s = refl

pub edit_list-make_element : (name : List ℕ) (attributes : List Attribute) (s : State) → edit_list (make_element name attributes) s ≡ []
unfolding make_element act edit_list edits_on
edit_list-make_element name attributes s = refl

pub edit_list-make_words : (chars : List ℕ) (s : State) → edit_list (make_words chars) s ≡ []
unfolding make_words act edit_list edits_on
edit_list-make_words chars s = refl

pub edit_list-perform : (a : Action) (s : State) → edit_list (perform a) s ≡ edits_of a s
unfolding perform act edit_list edits_on
edit_list-perform a s = refl

pub ruleset edit_lists = (edit_list-bind, edit_list-answer, edit_list-look, edit_list-edit, edit_list-make_element, edit_list-make_words, edit_list-perform)

-- ---- what a state keeps of them

-- a state with more changes and nodes
abbrev Adds : State → List Change → List (ℕ × Content) → State → Type 0
Adds s xs ns t = (t.edits ≡ s.edits ++ xs) × (t.made ≡ s.made ++ ns)

abbrev AddsNone : State → State → Type 0
AddsNone s t = Adds s [] [] t

none_added : (s t : State) → t.edits ≡ s.edits → t.made ≡ s.made → AddsNone s t
none_added s t e m = (e ∙ sym (append_none s.edits), m ∙ sym (append_none s.made))

adds_edit : (e : Edit) (s : State) → Adds s (if is_made_edit e s then change_of e s.trees ∷ [] else []) [] (edited e s)
unfolding edited with_change changed
adds_edit e s = by (is_made_edit e s)
  where
    by : (b : Bool) → Adds s (if b then change_of e s.trees ∷ [] else []) [] (if b then with_change (change_of e s.trees) (changed s (trees_after e s.trees) (points_after e s.trees s.points)) else s)
    by true = (refl, sym (append_none s.made))
    by false = none_added s s refl refl

abbrev SameLists : State → State → Type 0
SameLists s t = (t.edits ≡ s.edits) × (t.made ≡ s.made)

same_added : (s t : State) → SameLists s t → AddsNone s t
same_added s t h = none_added s t h.0 h.1

adds-extended : (o : Option Pair) (at : Point) (s : State) → AddsNone s (extended_from o at s)
unfolding changed
adds-extended None at s = none_added s s refl refl
adds-extended (Some pair) at s = same_added s (extended_from (Some pair) at s) (either_way (SameLists s) (may_select s at) (refl, refl) (refl, refl))

adds-selected : (anchor focus : Point) (s : State) → AddsNone s (selected anchor focus s)
unfolding selected changed
adds-selected anchor focus s = same_added s (selected anchor focus s) (either_way (SameLists s) (may_select s anchor && may_select s focus) (refl, refl) (refl, refl))

adds-grown : (at : Point) (s : State) → AddsNone s (grown at s)
unfolding grown changed
adds-grown at s = same_added s (grown at s) (either_way (SameLists s) (may_grow s at) (refl, refl) (refl, refl))

adds-sent : (n at tail : ℕ) (s : State) → AddsNone s (sent n at tail s)
unfolding sent changed
adds-sent n at tail s = same_added s (sent n at tail s) (either_way (SameLists s) (may_send s n at tail) (refl, refl) (refl, refl))

adds-scratched : (pair : Pair) (s : State) → AddsNone s (scratched pair s)
unfolding scratched
adds-scratched pair s = same_added s (scratched pair s) (either_way (SameLists s) (may_select s pair.anchor && may_select s pair.focus) (refl, refl) (refl, refl))

adds-made : (c : Content) (s : State) → Adds s [] ((s.next, c) ∷ []) (made c s)
unfolding made
adds-made c s = (sym (append_none s.edits), refl)

adds_steps : (xs : List Step) (s : State) → Adds s (changes_in xs s) (nodes_in xs s) (stepped_all xs s)
unfolding stepped_all stepped made applied with_change changed
adds_steps [] s = none_added s s refl refl
adds_steps (Copy c ∷ xs) s = let h = adds_steps xs (made c s) in (h.0, h.1 ∙ append_assoc s.made ((s.next, c) ∷ []) (nodes_in xs (made c s)))
adds_steps (Do e ∷ xs) s = let h = adds_steps xs (applied e s) in (h.0 ∙ append_assoc s.edits (change_of e s.trees ∷ []) (changes_in xs (applied e s)), h.1)

adds-extracted : (from : Point) (end target : ℕ) (s : State) → Adds s (changes_of (action.Extract from end target) s) (nodes_of (action.Extract from end target) s) (extracted from end target s)
unfolding extracted
adds-extracted from end target s = by (may_extract s from end target)
  where
    xs : List Step
    xs = tail_of s from end target

    by : (b : Bool) → Adds s (if b then changes_in xs s else []) (if b then nodes_in xs s else []) (if b then stepped_all xs s else s)
    by true = adds_steps xs s
    by false = none_added s s refl refl

pub adds_acted : (a : Action) (s : State) → Adds s (changes_of a s) (nodes_of a s) (acted a s)
unfolding acted extended changed
adds_acted (action.Change e) s = adds_edit e s
adds_acted (action.MakeElement name attributes) s = adds-made (element_content name attributes) s
adds_acted (action.MakeWords chars) s = adds-made (words_content chars) s
adds_acted (action.Select anchor focus) s = adds-selected anchor focus s
adds_acted (action.Extend focus) s = adds-extended s.points.selection focus s
adds_acted action.Unselect s = none_added s (with_selection None s) refl refl
adds_acted (action.Grow at) s = adds-grown at s
adds_acted (action.Send node at tail) s = adds-sent node at tail s
adds_acted (action.Scratch pair) s = adds-scratched pair s
adds_acted (action.Override command setting) s = none_added s (acted (action.Override command setting) s) refl refl
adds_acted (action.Flag flags) s = none_added s (acted (action.Flag flags) s) refl refl
adds_acted (action.Extract from end target) s = adds-extracted from end target s

pub adds_along : {s t : State} (r : Reaches s t) → Adds s (changes_on r) (nodes_on r) t
unfolding changes_on nodes_on
adds_along {s = s} here = none_added s s refl refl
adds_along {s = s} (onward {t = t} q a) =
    let h = adds_along q in
    let k = adds_acted a t in (
      k.0 ∙ (ap (λ xs. xs ++ changes_of a t) h.0 ∙ append_assoc s.edits (changes_on q) (changes_of a t)),
      k.1 ∙ (ap (λ ns. ns ++ nodes_of a t) h.1 ∙ append_assoc s.made (nodes_on q) (nodes_of a t)),
    )

-- one change for each edit
one_each_in : (xs : List Step) (s : State) → length (changes_in xs s) ≡ length (edits_in xs)
one_each_in [] s = refl
one_each_in (Copy c ∷ xs) s = one_each_in xs (stepped (Copy c) s)
one_each_in (Do e ∷ xs) s = omega (arith, one_each_in xs (stepped (Do e) s))

one_each : (a : Action) (s : State) → length (changes_of a s) ≡ length (edits_of a s)
one_each (action.Change e) s = by (is_made_edit e s)
  where
    by : (b : Bool) → length (if b then change_of e s.trees ∷ [] else []) ≡ length (if b then e ∷ [] else [])
    by true = refl
    by false = refl
one_each (action.MakeElement name attributes) s = refl
one_each (action.MakeWords chars) s = refl
one_each (action.Select anchor focus) s = refl
one_each (action.Extend focus) s = refl
one_each action.Unselect s = refl
one_each (action.Grow at) s = refl
one_each (action.Send node at tail) s = refl
one_each (action.Scratch pair) s = refl
one_each (action.Override command setting) s = refl
one_each (action.Flag flags) s = refl
one_each (action.Extract from end target) s = by (may_extract s from end target)
  where
    xs : List Step
    xs = tail_of s from end target

    by : (b : Bool) → length (if b then changes_in xs s else []) ≡ length (if b then edits_in xs else [])
    by true = one_each_in xs s
    by false = refl

pub one_each_along : {s t : State} (r : Reaches s t) → length (changes_on r) ≡ length (edits_on r)
unfolding changes_on edits_on
one_each_along here = refl
one_each_along (onward {t = t} q a) =
    omega (arith, one_each_along q, one_each a t, length-append (changes_on q) (changes_of a t), length-append (edits_on q) (edits_of a t))

-- the number of edits rises by the length of the list
pub final_edits : {T : Type 0} (m : Run T) (s : State) → length (final m s).edits ≡ length s.edits + length (edit_list m s)
unfolding final edit_list
final_edits m s =
    let r = m.by_actions s in
    omega (arith, ap length (adds_along r).0, length-append s.edits (changes_on r), one_each_along r)
