-- Runs that keep to the grammar, by their parts.
use Rattle.std.proofs.Common.{◌≡◌, ℕ, zero, suc, ◌-◌, Bool, true, false, ◌||◌, not, if◌then◌else◌, List, [], ◌∷◌, length, drop, Option, Some, None, IfSome, subst, sym}
use Rattle.std.specs.Prelude.{codes}
use Rattle.edit_model.specs.DomModel.declared.attributes.Attribute.{Attribute}
use Rattle.edit_model.specs.DomModel.Contents.{has_name}
use Rattle.edit_model.specs.DomModel.Places.{index_of}
use Rattle.edit_model.specs.DomModel.Forest.{parent_of, next_of, children_of}
use Rattle.edit_model.specs.State.{State}
use Rattle.edit_model.specs.Edit.{Edit, Set}
use Rattle.edit_model.specs.LiveRange.declared.places.Point.{Point}
use Rattle.edit_model.specs.Action.{Action, Change, MakeElement, MakeWords, Select, Override}
use Rattle.edit_model.specs.Confined.{is_editable_for}
use Rattle.edit_model.specs.Compositions.{attribute_list_of, characters_of, points_sent, split_under, split_words, renamed, set_tag_name}
use Rattle.edit_model.specs.Moves.{insert_before, insert_after, make_break, move_before, move_after, move_first, move_all_before, move_all_after, move_all_first, move_each_last, unwrap}
use Rattle.edit_model.specs.Valid.{IsValid}
use Rattle.edit_model.specs.Run.{Reaches, here, onward, reaches_trans, Run, final, value, ◌>>=◌, act, answer, look, given, for_each, while_at_most, edit, insert, remove, replace, set_attribute, make_element, make_words, perform, select, collapse}
use Rattle.edit_model.proofs.Steps.{value-bind, value-answer, value-look}
use Rattle.edit_model.proofs.ValidRuns.{valid_along}
use Rattle.inline_value.specs.ForestChanges.Named.{Each}
use Rattle.making_laws.specs.Names.{is_made_name, is_set_name}
use Rattle.making_laws.proofs.TameRuns.{made_br}
use Rattle.grammar_laws.specs.Proper.{IsText, IsList, IsProperState}
use Rattle.grammar_laws.specs.Runs.{IsProperEdit, IsProperAction, ProperOn, Proper}
use Rattle.grammar_laws.proofs.Keeping.{proper_along}
use Rattle.grammar_laws.proofs.Lists.{list_none}
use Rattle.grammar_laws.proofs.Names.{IsPageName, made_name, set_name}
use Rattle.grammar_laws.proofs.Reading.{list_proper, chars_proper}
use Rattle.grammar_laws.proofs.Texts.{text_drop}

-- ---- a run from a state

abbrev pub At : {T : Type 0} → State → Run T → Type 0
At s m = ProperOn (m.by_actions s)

proper_trans : {s t u : State} (p : Reaches s t) (q : Reaches t u) → ProperOn p → ProperOn q → ProperOn (reaches_trans p q)
unfolding reaches_trans
proper_trans p here h k = h
proper_trans p (onward q a) h k = (proper_trans p q h k.0, k.1)

pub at_bind : {A B : Type 0} (m : Run A) (k : A → Run B) (s : State) → At s m → At (final m s) (k (value m s)) → At s (m >>= k)
unfolding ◌>>=◌ final value
at_bind m k s h g = proper_trans (m.by_actions s) ((k (m.run s).1).by_actions (m.run s).0) h g

pub at_look : {A : Type 0} (k : State → Run A) (s : State) → At s (k s) → At s (look k)
unfolding look
at_look k s h = h

pub valid_final : {T : Type 0} (m : Run T) (s : State) → IsValid s → IsValid (final m s)
unfolding final
valid_final m s is = valid_along (m.by_actions s) is

pub proper_final : {T : Type 0} (m : Run T) (s : State) → IsValid s → IsProperState s → At s m → IsProperState (final m s)
unfolding final
proper_final m s is proper h = proper_along (m.by_actions s) is proper h

-- ---- the ways in which runs are composed

pub proper_answer : {A : Type 0} (a : A) → Proper (answer a)
unfolding answer
proper_answer a = record { stays = λ s is proper. tt }

pub proper_bind : {A B : Type 0} (m : Run A) (k : A → Run B) → Proper m → ((a : A) → Proper (k a)) → Proper (m >>= k)
proper_bind m k h g = record {
  stays = λ s is proper.
      let first = h.stays s is proper in
      at_bind m k s first ((g (value m s)).stays (final m s) (valid_final m s is) (proper_final m s is proper first));
}

-- where the state tells something
pub proper_look_at : {A : Type 0} (k : State → Run A) → ((s : State) → IsValid s → IsProperState s → At s (k s)) → Proper (look k)
proper_look_at k h = record { stays = λ s is proper. at_look k s (h s is proper) }

pub proper_look : {A : Type 0} (k : State → Run A) → ((s : State) → IsProperState s → Proper (k s)) → Proper (look k)
proper_look k h = proper_look_at k (λ s is proper. (h s proper).stays s is proper)

pub proper_if : {A : Type 0} (b : Bool) (m n : Run A) → Proper m → Proper n → Proper (if b then m else n)
proper_if true m n h g = h
proper_if false m n h g = g

pub proper_given : {A B : Type 0} (o : Option A) (n : Run B) (f : A → Run B) → Proper n → ((a : A) → Proper (f a)) → Proper (given o n f)
proper_given None n f h g = h
proper_given (Some a) n f h g = g a

-- where what is given, if anything, has a property
pub proper_some : {A B : Type 0} (P : A → Type 0) (o : Option A) (n : Run B) (f : A → Run B) → IfSome o P → Proper n → ((a : A) → P a → Proper (f a)) → Proper (given o n f)
proper_some P None n f own h g = h
proper_some P (Some a) n f own h g = g a own

pub proper_each : {A : Type 0} (xs : List A) (f : A → Run (Unit {0})) → ((x : A) → Proper (f x)) → Proper (for_each xs f)
unfolding for_each
proper_each [] f h = proper_answer tt
proper_each (x ∷ xs) f h = proper_bind (f x) (λ _. for_each xs f) (h x) (λ _. proper_each xs f h)

pub proper_each_such : {A : Type 0} (P : A → Type 0) (xs : List A) (f : A → Run (Unit {0})) → Each P xs → ((x : A) → P x → Proper (f x)) → Proper (for_each xs f)
unfolding for_each
proper_each_such P [] f own h = proper_answer tt
proper_each_such P (x ∷ xs) f own h = proper_bind (f x) (λ _. for_each xs f) (h x own.0) (λ _. proper_each_such P xs f own.1 h)

pub proper_while : {A : Type 0} (n : ℕ) (test : State → A → Bool) (body : A → Run A) (a : A) → ((a : A) → Proper (body a)) → Proper (while_at_most n test body a)
unfolding while_at_most
proper_while zero test body a h = proper_answer a
proper_while (suc n) test body a h =
    proper_look (λ s. if test s a then (body a >>= while_at_most n test body) else answer a)
    (λ s proper. proper_if (test s a) (body a >>= while_at_most n test body) (answer a) (proper_bind (body a) (while_at_most n test body) (h a) (λ b. proper_while n test body b h)) (proper_answer a))

-- ---- runs that answer something with a property

pub record Gives {T : Type 0} (P : T → Type 0) (m : Run T) : Type 0 where
  pub proper : Proper m
  pub gives : (s : State) → IsValid s → IsProperState s → P (value m s)

module _ {B : Type 0} (P : B → Type 0) where
  pub gives_answer : (a : B) → P a → Gives P (answer a)
  gives_answer a h = record { proper = proper_answer a; gives = λ s is proper. subst P (sym (value-answer a s)) h }

  pub gives_after : {A : Type 0} (m : Run A) (k : A → Run B) → Proper m → ((a : A) → Gives P (k a)) → Gives P (m >>= k)
  gives_after m k h g = record {
    proper = proper_bind m k h (λ a. (g a).proper);
    gives = λ s is proper.
        let first = h.stays s is proper in
        subst P (sym (value-bind m k s)) ((g (value m s)).gives (final m s) (valid_final m s is) (proper_final m s is proper first));
  }

  pub gives_look : (k : State → Run B) → ((s : State) → IsProperState s → Gives P (k s)) → Gives P (look k)
  gives_look k h = record {
    proper = proper_look k (λ s proper. (h s proper).proper);
    gives = λ s is proper. subst P (sym (value-look k s)) ((h s proper).gives s is proper);
  }

  pub gives_if : (b : Bool) (m n : Run B) → Gives P m → Gives P n → Gives P (if b then m else n)
  gives_if true m n h g = h
  gives_if false m n h g = g

  pub gives_given : {A : Type 0} (o : Option A) (n : Run B) (f : A → Run B) → Gives P n → ((a : A) → Gives P (f a)) → Gives P (given o n f)
  gives_given None n f h g = h
  gives_given (Some a) n f h g = g a

pub proper_after : {A B : Type 0} (P : A → Type 0) (m : Run A) (k : A → Run B) → Gives P m → ((a : A) → P a → Proper (k a)) → Proper (m >>= k)
proper_after P m k h g = record {
  stays = λ s is proper.
      let first = h.proper.stays s is proper in
      at_bind m k s first ((g (value m s) (h.gives s is proper)).stays (final m s) (valid_final m s is) (proper_final m s is proper first));
}

-- ---- the runs of one action

pub proper_edit : (e : Edit) → IsProperEdit e → Proper (edit e)
unfolding edit act
proper_edit e h = record { stays = λ s is proper. (tt, h) }

pub proper_set : (n : ℕ) (name value : List ℕ) → is_set_name name ≡ true → IsText value → Proper (set_attribute n name value)
proper_set n name value set h = proper_edit (Set n name value) (set_name name set, h)

-- an action that makes no node, sets no override, and is no edit
abbrev pub IsOther : Action → Type 0
IsOther (Change e) = ⊥
IsOther (MakeElement name attributes) = ⊥
IsOther (MakeWords chars) = ⊥
IsOther (Override command setting) = ⊥
IsOther _ = Unit {0}

other_proper : (a : Action) → IsOther a → IsProperAction a
other_proper (Change e) h = absurd h
other_proper (MakeElement name attributes) h = absurd h
other_proper (MakeWords chars) h = absurd h
other_proper (Override command setting) h = absurd h
other_proper _ h = tt

pub proper_act : (a : Action) → IsProperAction a → Proper (perform a)
unfolding perform act
proper_act a h = record { stays = λ s is proper. (tt, h) }

pub proper_perform : (a : Action) → IsOther a → Proper (perform a)
proper_perform a h = proper_act a (other_proper a h)

pub proper_select : (anchor focus : Point) → Proper (select anchor focus)
proper_select anchor focus = proper_perform (Select anchor focus) tt

pub proper_collapse : (at : Point) → Proper (collapse at)
proper_collapse at = proper_select at at

pub proper_words : (chars : List ℕ) → IsText chars → Proper (make_words chars)
unfolding make_words act
proper_words chars h = record { stays = λ s is proper. (tt, h) }

pub make_at : (s : State) (name : List ℕ) (attributes : List Attribute) → IsPageName name → IsList attributes → At s (make_element name attributes)
unfolding make_element act
make_at s name attributes h g = (tt, ((h.0, g.0, g.1), h.1))

pub proper_make : (name : List ℕ) (attributes : List Attribute) → is_made_name name ≡ true → IsList attributes → Proper (make_element name attributes)
proper_make name attributes h sets = record { stays = λ s is proper. make_at s name attributes (made_name name h) sets }

-- ---- compositions of edits

pub proper_each_last : (ns : List ℕ) (p : ℕ) → Proper (move_each_last ns p)
unfolding move_each_last
proper_each_last ns p = search (proper_each, proper_bind, proper_edit, proper_answer)

proper_rest : (p : ℕ) (s : State) (e x : ℕ) → Proper (insert p (Some e) x >>= (λ _. move_each_last (children_of s.trees e) x >>= (λ _. remove e >>= (λ _. answer x))))
proper_rest p s e x = search (proper_bind, proper_edit, proper_answer, proper_each_last)

pub proper_tag_name : (e : ℕ) (name : List ℕ) → is_made_name name ≡ true → Proper (set_tag_name e name)
unfolding set_tag_name renamed
proper_tag_name e name made = proper_look_at _ (λ s is proper. by_parent s is proper (parent_of s.trees e) (has_name s.trees e name || not (is_editable_for s e)))
  where
    by_parent : (s : State) → IsValid s → IsProperState s → (o : Option ℕ) (b : Bool) → At s (given o (answer e) λ p. if b then answer e else renamed p s e name)
    by_parent s is proper None b = (proper_answer e).stays s is proper
    by_parent s is proper (Some p) true = (proper_answer e).stays s is proper
    by_parent s is proper (Some p) false =
        let m = make_element name (attribute_list_of s.trees e) in
        let first : At s m = make_at s name (attribute_list_of s.trees e) (made_name name made) (list_proper s.trees proper.nodes e) in
        at_bind m _ s first ((proper_rest p s e (value m s)).stays (final m s) (valid_final m s is) (proper_final m s is proper first))

proper_sent : (p i n at tail : ℕ) (inserted : Bool) → Proper (points_sent p i n at tail inserted)
unfolding points_sent
proper_sent p i n at tail inserted = search (proper_if, proper_bind, proper_perform, proper_answer)

proper_close : (p : ℕ) (s : State) (n at x : ℕ)
    → Proper (insert p (next_of s.trees n) x >>= (λ inserted. points_sent p (index_of s.trees n) n at x inserted >>= (λ _. replace n at (length (characters_of s.trees n) - at) [] >>= (λ _. answer x))))
proper_close p s n at x = search (proper_bind, proper_edit, proper_answer, proper_sent)

-- the new text has characters of one that is there
proper_under : (s : State) → IsProperState s → (p n at : ℕ) → Proper (split_under p s n at)
unfolding split_under
proper_under s proper p n at =
    let chars = drop at (characters_of s.trees n) in
    proper_bind (make_words chars) _ (proper_words chars (text_drop at (characters_of s.trees n) (chars_proper s.trees proper.nodes n))) (λ x. proper_close p s n at x)

pub proper_split_words : (n at : ℕ) → Proper (split_words n at)
unfolding split_words
proper_split_words n at = search (proper_look, proper_given, proper_answer, proper_under)

-- with these a run that makes no nodes and sets no attributes keeps to the grammar by its parts
pub ruleset proper_parts = (proper_answer, proper_bind, proper_look, proper_if, proper_given, proper_each, proper_while, proper_edit, proper_perform, proper_tag_name, proper_split_words)

-- ---- moves, and insertions of nodes that are there

pub proper_insert_before : (o n : ℕ) → Proper (insert_before o n)
unfolding insert_before
proper_insert_before o n = search proper_parts

pub proper_insert_after : (o n : ℕ) → Proper (insert_after o n)
unfolding insert_after
proper_insert_after o n = search proper_parts

pub proper_move_before : (o n : ℕ) → Proper (move_before o n)
unfolding move_before
proper_move_before o n = search proper_parts

pub proper_move_after : (o n : ℕ) → Proper (move_after o n)
unfolding move_after
proper_move_after o n = search proper_parts

pub proper_move_first : (p n : ℕ) → Proper (move_first p n)
unfolding move_first
proper_move_first p n = search proper_parts

pub proper_all_before : (list : List ℕ) (o : ℕ) → Proper (move_all_before list o)
unfolding move_all_before
proper_all_before list o = search (proper_parts, proper_move_before)

pub proper_all_after : (list : List ℕ) (o : ℕ) → Proper (move_all_after list o)
unfolding move_all_after
proper_all_after list o = search (proper_parts, proper_move_after)

pub proper_all_first : (list : List ℕ) (p : ℕ) → Proper (move_all_first list p)
unfolding move_all_first
proper_all_first list p = search (proper_parts, proper_move_first)

pub proper_break : Proper make_break
unfolding make_break
proper_break = proper_make (codes "br") [] made_br list_none

pub proper_unwrap : (e : ℕ) → Proper (unwrap e)
unfolding unwrap
proper_unwrap e = search (proper_parts, proper_all_before)

pub ruleset proper_moves = (proper_insert_before, proper_insert_after, proper_move_before, proper_move_after, proper_move_first, proper_all_before, proper_all_after, proper_all_first, proper_each_last, proper_break)
