-- Runs that do the same whether the command keeps contents or not, where they take out nothing that is kept, and that leave texts
-- their room: the certificate of an algorithm by its parts. What keeps the order while a command keeps contents keeps it then in any
-- command.
use Rattle.std.proofs.Common.{◌≡◌, ◌+◌, ◌<◌, ◌^◌, length, ℕ, zero, suc, Bool, true, false, ◌||◌, ◌&&◌, not, if◌then◌else◌, List, [], ◌∷◌, Option, Some, None, refl, ap, subst, ◌∙◌}
use Rattle.edit_model.specs.DomModel.declared.attributes.Attribute.{Attribute}
use Rattle.edit_model.specs.DomModel.Contents.{is_break}
use Rattle.edit_model.specs.DomModel.Forest.{parent_of, tree_of}
use Rattle.edit_model.specs.LiveRange.declared.places.Pair.{Pair}
use Rattle.edit_model.specs.LiveRange.LivePoints.{mapped}
use Rattle.edit_model.specs.LiveRange.PointsEdit as range
use Rattle.edit_model.specs.State.{State}
use Rattle.edit_model.specs.Action as action
use Rattle.edit_model.specs.Action.{Action, Change, MakeElement, MakeWords, made, words_content, with_selection, with_scratch, selected, extended_from, extended, grown, sent, scratched, acted}
use Rattle.edit_model.specs.Confined.{is_editable_for, is_inside, is_made, is_open, is_own, may_insert, may_leave, may_remove, may_move, may_replace, may_set, may_unset, may_select, may_grow, may_send}
use Rattle.edit_model.specs.Edit.{Edit, Insert, Remove, Move, Replace, Set, Unset, is_made_edit, trees_after, points_after, overrides_after, changed, change_of, with_change, edited}
use Rattle.edit_model.specs.Kept.{has_no_kept_leaves}
use Rattle.edit_model.specs.Run.{Reaches, here, onward, reaches_trans, Run, final, value, ◌>>=◌, act, answer, look, given, for_each, while_at_most, edit, make_element, make_words, perform}
use Rattle.edit_model.specs.Valid.{IsValid}
use Rattle.edit_laws.specs.Order.{KeepsOrder}
use Rattle.edit_laws.specs.OrderPreserving.{OrderPreserving}
use Rattle.edit_model.proofs.ValidRuns.{valid_acted, valid_along}
use Rattle.caret_laws.specs.SolidOrder.{HasRoomFor}
use Rattle.caret_laws.specs.Sparing.{Spares, SparesOn}
use Rattle.caret_laws.proofs.BlindRuns.{kept, kept_valid}
use Rattle.caret_laws.proofs.TextRoom.{AddsNoText, room_words, room_acted}

pub record Alike {T : Type 0} (m : Run T) : Type 0 where
  pub ends : (s : State) → SparesOn (m.by_actions s) → final m (kept s) ≡ kept (final m s)
  pub tells : (s : State) → SparesOn (m.by_actions s) → value m (kept s) ≡ value m s
  pub room : (r : ℕ) (s : State) → IsValid s → HasRoomFor r s → HasRoomFor r (final m s)

-- ---- ways in two parts

pub spares_first : {s t u : State} (p : Reaches s t) (q : Reaches t u) → SparesOn (reaches_trans p q) → SparesOn p
unfolding reaches_trans
spares_first p here h = h
spares_first p (onward q a) h = spares_first p q h.0

pub spares_then : {s t u : State} (p : Reaches s t) (q : Reaches t u) → SparesOn (reaches_trans p q) → SparesOn q
unfolding reaches_trans
spares_then p here h = tt
spares_then p (onward q a) h = (spares_then p q h.0, h.1)

pub spares_both : {s t u : State} (p : Reaches s t) (q : Reaches t u) → SparesOn p → SparesOn q → SparesOn (reaches_trans p q)
unfolding reaches_trans
spares_both p here h k = h
spares_both p (onward q a) h k = (spares_both p q h k.0, k.1)

-- ---- runs that take out nothing that is kept, by their parts

module _ {T : Type 0} where
  abbrev pub Spared : Run T → State → Type 0
  Spared m s = SparesOn (m.by_actions s)

pub spared_look : {T : Type 0} (k : State → Run T) (s : State) → Spared (look k) s → Spared (k s) s
unfolding look
spared_look k s h = h

pub spared_front : {A B : Type 0} (m : Run A) (k : A → Run B) (s : State) → Spared (m >>= k) s → Spared m s
unfolding ◌>>=◌
spared_front m k s h = spares_first (m.by_actions s) ((k (m.run s).1).by_actions (m.run s).0) h

pub spared_back : {A B : Type 0} (m : Run A) (k : A → Run B) (s : State) → Spared (m >>= k) s → Spared (k (value m s)) (final m s)
unfolding ◌>>=◌ final value
spared_back m k s h = spares_then (m.by_actions s) ((k (m.run s).1).by_actions (m.run s).0) h

-- ---- the ways in which runs are composed

pub alike_answer : {A : Type 0} (a : A) → Alike (answer a)
unfolding answer final value
alike_answer a = record { ends = λ s _. refl; tells = λ s _. refl; room = λ r s _ room. room }

pub alike_bind : {A B : Type 0} (m : Run A) (k : A → Run B) → Alike m → ((a : A) → Alike (k a)) → Alike (m >>= k)
unfolding ◌>>=◌ final value
alike_bind m k h g = record {
  ends = λ s spares.
      let first = spares_first (m.by_actions s) ((k (value m s)).by_actions (final m s)) spares in
      let rest = spares_then (m.by_actions s) ((k (value m s)).by_actions (final m s)) spares in
      ap (λ v. final (k v) (final m (kept s))) (h.tells s first) ∙ (ap (final (k (value m s))) (h.ends s first) ∙ (g (value m s)).ends (final m s) rest);
  tells = λ s spares.
      let first = spares_first (m.by_actions s) ((k (value m s)).by_actions (final m s)) spares in
      let rest = spares_then (m.by_actions s) ((k (value m s)).by_actions (final m s)) spares in
      ap (λ v. value (k v) (final m (kept s))) (h.tells s first) ∙ (ap (value (k (value m s))) (h.ends s first) ∙ (g (value m s)).tells (final m s) rest);
  room = λ r s is room. (g (value m s)).room r (final m s) (valid_along (m.by_actions s) is) (h.room r s is room);
}

-- what is looked at is the same
pub alike_look : {A : Type 0} (k : State → Run A) → ((s : State) → k (kept s) ≡ k s) → ((s : State) → Alike (k s)) → Alike (look k)
unfolding look final value
alike_look k same h = record {
  ends = λ s spares. ap (λ m. final m (kept s)) (same s) ∙ (h s).ends s spares;
  tells = λ s spares. ap (λ m. value m (kept s)) (same s) ∙ (h s).tells s spares;
  room = λ r s is room. (h s).room r s is room;
}

pub alike_if : {A : Type 0} (b : Bool) (m n : Run A) → Alike m → Alike n → Alike (if b then m else n)
alike_if true m n h g = h
alike_if false m n h g = g

pub alike_given : {A B : Type 0} (o : Option A) (n : Run B) (f : A → Run B) → Alike n → ((a : A) → Alike (f a)) → Alike (given o n f)
alike_given None n f h g = h
alike_given (Some a) n f h g = g a

pub alike_each : {A : Type 0} (xs : List A) (f : A → Run (Unit {0})) → ((x : A) → Alike (f x)) → Alike (for_each xs f)
unfolding for_each
alike_each [] f h = alike_answer tt
alike_each (x ∷ xs) f h = alike_bind (f x) (λ _. for_each xs f) (h x) (λ _. alike_each xs f h)

pub alike_while : {A : Type 0} (n : ℕ) (test : State → A → Bool) (body : A → Run A) (a : A) → ((s : State) → test (kept s) ≡ test s) → ((a : A) → Alike (body a)) → Alike (while_at_most n test body a)
unfolding while_at_most
alike_while zero test body a same h = alike_answer a
alike_while (suc n) test body a same h =
    alike_look (λ s. if test s a then (body a >>= while_at_most n test body) else answer a)
    (λ s i. if same s i a then (body a >>= while_at_most n test body) else answer a)
    (λ s. alike_if (test s a) (body a >>= while_at_most n test body) (answer a) (alike_bind (body a) (while_at_most n test body) (h a) (λ b. alike_while n test body b same h)) (alike_answer a))

-- ---- the runs of one action

either_kept : (v : Bool) (s t : State) → (if v then kept s else kept t) ≡ kept (if v then s else t)
either_kept true s t = refl
either_kept false s t = refl

-- but for a removal, which edits are made is the same whether contents are kept or not
remove_same : (n : ℕ) (s : State) → (may_remove s n ≡ true → has_no_kept_leaves (tree_of s.trees n) ≡ true) → may_remove (kept s) n ≡ may_remove s n
unfolding may_remove is_open is_own is_inside is_editable_for is_made
remove_same n s h = by_parent (parent_of s.trees n) h
  where
    sure : (k v : Bool) → (k || v) ≡ true → (true ≡ true → v ≡ true) → v ≡ (k || v)
    sure true v e h = h refl
    sure false v e h = refl

    by_tests : (a b k v : Bool) → ((a && (b && (k || v))) ≡ true → v ≡ true) → (a && (b && v)) ≡ (a && (b && (k || v)))
    by_tests false b k v h = refl
    by_tests true false k v h = refl
    by_tests true true true v h = h refl
    by_tests true true false v h = refl

    by_parent : (o : Option ℕ) → (may_leave s n o ≡ true → has_no_kept_leaves (tree_of s.trees n) ≡ true) → may_leave (kept s) n o ≡ may_leave s n o
    by_parent None h = refl
    by_parent (Some o) h = by_tests (is_open s o) (is_own s n || is_break s.trees n) (not s.keeping) (has_no_kept_leaves (tree_of s.trees n)) h

made_same : (e : Edit) (s : State) → Spares (Change e) s → is_made_edit e (kept s) ≡ is_made_edit e s
unfolding is_made_edit may_insert may_move may_replace may_set may_unset is_open is_own is_inside is_editable_for is_made
made_same (Insert p b n) s h = refl
made_same (Remove n) s h = remove_same n s h
made_same (Move n p b) s h = refl
made_same (Replace n at count put) s h = refl
made_same (Set n name v) s h = refl
made_same (Unset n name) s h = refl

edited_same : (e : Edit) (s : State) → Spares (Change e) s → edited e (kept s) ≡ kept (edited e s)
unfolding edited with_change changed overrides_after
edited_same e s h = ap (λ v. if v then with_change (change_of e s.trees) (changed (kept s) (trees_after e s.trees) (points_after e s.trees s.points)) else kept s) (made_same e s h)
    ∙ either_kept (is_made_edit e s) (with_change (change_of e s.trees) (changed s (trees_after e s.trees) (points_after e s.trees s.points))) s

-- an action other than extracting a tail, which a command that keeps contents doesn't do
abbrev pub IsPlain : Action → Type 0
IsPlain (action.Extract from end target) = ⊥
IsPlain a = Unit {0}

acted_same : (a : Action) (s : State) → IsPlain a → Spares a s → acted a (kept s) ≡ kept (acted a s)
unfolding acted made selected extended grown sent scratched may_select may_grow may_send is_open is_own is_inside is_editable_for is_made changed overrides_after
acted_same (Change e) s plain h = edited_same e s h
acted_same (MakeElement name attributes) s plain h = refl
acted_same (MakeWords chars) s plain h = refl
acted_same (action.Select anchor focus) s plain h = either_kept (may_select s anchor && may_select s focus) (with_selection (Some (record { anchor = anchor; focus = focus })) s) s
acted_same (action.Extend focus) s plain h = by s.points.selection
  where
    by : (o : Option Pair) → extended_from o focus (kept s) ≡ kept (extended_from o focus s)
    by None = refl
    by (Some pair) = either_kept (may_select s focus) (with_selection (Some (record { anchor = pair.anchor; focus = focus })) s) s
acted_same action.Unselect s plain h = refl
acted_same (action.Grow at) s plain h = either_kept (may_grow s at) (changed s s.trees (mapped (range.Grown at) s.points)) s
acted_same (action.Send node at tail) s plain h = either_kept (may_send s node at tail) (changed s s.trees (mapped (range.Split node at tail node 0) s.points)) s
acted_same (action.Scratch pair) s plain h = either_kept (may_select s pair.anchor && may_select s pair.focus) (with_scratch (Some pair) s) s
acted_same (action.Override command setting) s plain h = refl
acted_same (action.Flag flags) s plain h = refl
acted_same (action.Extract from end target) s plain h = absurd plain

pub alike_edit : (e : Edit) → AddsNoText (Change e) → Alike (edit e)
unfolding edit act final value acted
alike_edit e adds = record {
  ends = λ s spares. edited_same e s spares.1;
  tells = λ s spares. made_same e s spares.1;
  room = λ r s is room. room_acted r (Change e) s adds is room;
}

plain_adding : (a : Action) → AddsNoText a → IsPlain a
plain_adding (Change e) adds = tt
plain_adding (MakeElement name attributes) adds = tt
plain_adding (MakeWords chars) adds = tt
plain_adding (action.Select anchor focus) adds = tt
plain_adding (action.Extend focus) adds = tt
plain_adding action.Unselect adds = tt
plain_adding (action.Grow at) adds = tt
plain_adding (action.Send node at tail) adds = tt
plain_adding (action.Scratch pair) adds = tt
plain_adding (action.Override command setting) adds = tt
plain_adding (action.Flag flags) adds = tt
plain_adding (action.Extract from end target) adds = absurd adds

pub alike_perform : (a : Action) → AddsNoText a → Alike (perform a)
unfolding perform act final value
alike_perform a adds = record {
  ends = λ s spares. acted_same a s (plain_adding a adds) spares.1;
  tells = λ s spares. refl;
  room = λ r s is room. room_acted r a s adds is room;
}

pub alike_make : (name : List ℕ) (attributes : List Attribute) → Alike (make_element name attributes)
unfolding make_element act final value
alike_make name attributes = record {
  ends = λ s _. acted_same (MakeElement name attributes) s tt tt;
  tells = λ s _. refl;
  room = λ r s is room. room_acted r (MakeElement name attributes) s tt is room;
}

-- with these a run is such by its parts
pub ruleset alike_parts = (alike_answer, alike_bind, alike_look, alike_if, alike_given, alike_each, alike_while, alike_edit, alike_perform, alike_make)

-- a text is made of no more characters than one that there is
module _ {T : Type 0} (chars : List ℕ) (k : ℕ → Run T) (h : (x : ℕ) → Alike (k x)) where
  pub words_end : (s : State) → SparesOn ((make_words chars >>= k).by_actions s) → final (make_words chars >>= k) (kept s) ≡ kept (final (make_words chars >>= k) s)
  unfolding ◌>>=◌ make_words act final value
  words_end s spares = ap (final (k s.next)) (acted_same (MakeWords chars) s tt tt) ∙ (h s.next).ends (acted (MakeWords chars) s) (spares_then ((make_words chars).by_actions s) ((k s.next).by_actions (acted (MakeWords chars) s)) spares)

  pub words_tell : (s : State) → SparesOn ((make_words chars >>= k).by_actions s) → value (make_words chars >>= k) (kept s) ≡ value (make_words chars >>= k) s
  unfolding ◌>>=◌ make_words act final value
  words_tell s spares = ap (value (k s.next)) (acted_same (MakeWords chars) s tt tt) ∙ (h s.next).tells (acted (MakeWords chars) s) (spares_then ((make_words chars).by_actions s) ((k s.next).by_actions (acted (MakeWords chars) s)) spares)

  pub words_room : (r : ℕ) (s : State) → IsValid s → length chars + r < 2 ^ 32 → HasRoomFor r s → HasRoomFor r (final (make_words chars >>= k) s)
  unfolding ◌>>=◌ make_words act final value acted
  words_room r s is short room = (h s.next).room r (made (words_content chars) s) (valid_acted (MakeWords chars) s is) (room_words r chars s is short room)

-- ---- what such a run keeps

pub sparing_keeps : {T : Type 0} (m : Run T) (s : State) → Alike m → IsValid s → SparesOn (m.by_actions s) → KeepsOrder (kept s) (final m (kept s)) → KeepsOrder s (final m s)
sparing_keeps m s alike is spares keeps = subst (λ t. KeepsOrder (kept s) t) (alike.ends s spares) keeps

pub sparing_ordered : {T : Type 0} (m : Run T) (s : State) → Alike m → OrderPreserving m → IsValid s → SparesOn (m.by_actions s) → KeepsOrder s (final m s)
sparing_ordered m s alike ordered is spares = sparing_keeps m s alike is spares (ordered.keeps (kept s) (record { valid = kept_valid s is; keeping = refl }))
