-- Tame runs, by their parts.
use Rattle.std.proofs.Common.{◌≡◌, ℕ, zero, suc, ◌-◌, Bool, true, false, ◌||◌, not, if◌then◌else◌, List, [], ◌∷◌, length, drop, Option, Some, None, refl, inl}
use Rattle.std.specs.Prelude.{codes}
use Rattle.edit_model.specs.DomModel.declared.attributes.Attribute.{Attribute}
use Rattle.edit_model.specs.DomModel.declared.Content.{Content}
use Rattle.edit_model.specs.DomModel.declared.Content.TheVariants.{Element}
use Rattle.edit_model.specs.DomModel.Contents.{has_name}
use Rattle.edit_model.specs.DomModel.Places.{index_of}
use Rattle.edit_model.specs.DomModel.Forest.{Forest, parent_of, next_of, children_of}
use Rattle.inline_value.specs.ForestChanges.Named.{Each}
use Rattle.edit_model.specs.State.{State}
use Rattle.edit_model.specs.Edit.{Edit, Replace, Set}
use Rattle.edit_model.specs.Action.{Action, Change, MakeElement, MakeWords}
use Rattle.edit_model.specs.Confined.{is_editable_for}
use Rattle.edit_model.specs.Compositions.{attribute_list_of, characters_of, points_sent, split_under, split_words, renamed, set_tag_name}
use Rattle.edit_model.specs.Moves.{insert_before, insert_after, make_break, move_before, move_after, move_first, move_all_before, move_all_after, move_all_first, move_each_last, unwrap}
use Rattle.edit_model.specs.Valid.{IsValid}
use Rattle.edit_model.specs.Run.{Reaches, here, onward, reaches_trans, Run, final, value, ◌>>=◌, act, answer, look, given, for_each, while_at_most, edit, insert, remove, replace, make_element, make_words, perform}
use Rattle.edit_model.proofs.ValidRuns.{valid_along}
use Rattle.making_laws.specs.Names.{made_names, set_names, is_made_name, is_set_name}
use Rattle.making_laws.specs.Known.{Source, IsKnown, IsKnownAttribute, IsKnownCharacter, KnowsAll}
use Rattle.making_laws.specs.Tame.{IsTameEdit, IsTame, TameOn, Tame, TameFrom}
use Rattle.making_laws.proofs.Attributes.{list_known}
use Rattle.making_laws.proofs.Characters.{AreBlanks, blanks_known, characters_known, each_drop}
use Rattle.making_laws.proofs.Knowing.{knows_along}

-- ---- a run from a state

abbrev pub At : {T : Type 0} → Source → State → Run T → Type 0
At source s m = TameOn source (m.by_actions s)

tame_trans : (source : Source) {s t u : State} (p : Reaches s t) (q : Reaches t u) → TameOn source p → TameOn source q → TameOn source (reaches_trans p q)
unfolding reaches_trans
tame_trans source p here h k = h
tame_trans source p (onward q a) h k = (tame_trans source p q h k.0, k.1)

pub at_bind : {A B : Type 0} (source : Source) (m : Run A) (k : A → Run B) (s : State) → At source s m → At source (final m s) (k (value m s)) → At source s (m >>= k)
unfolding ◌>>=◌ final value
at_bind source m k s h g = tame_trans source (m.by_actions s) ((k (m.run s).1).by_actions (m.run s).0) h g

pub at_look : {A : Type 0} (source : Source) (k : State → Run A) (s : State) → At source s (k s) → At source s (look k)
unfolding look
at_look source k s h = h

pub valid_final : {T : Type 0} (m : Run T) (s : State) → IsValid s → IsValid (final m s)
unfolding final
valid_final m s is = valid_along (m.by_actions s) is

pub known_final : {T : Type 0} (source : Source) (m : Run T) (s : State) → IsValid s → KnowsAll source s.trees → At source s m → KnowsAll source (final m s).trees
unfolding final
known_final source m s is known tame = knows_along source (m.by_actions s) is known tame

-- ---- the ways in which runs are composed

pub tame_answer : {A : Type 0} (a : A) → Tame (answer a)
unfolding answer
tame_answer a = record { stays = λ source s is known. tt }

pub tame_bind : {A B : Type 0} (m : Run A) (k : A → Run B) → Tame m → ((a : A) → Tame (k a)) → Tame (m >>= k)
tame_bind m k h g = record {
  stays = λ source s is known.
      let first = h.stays source s is known in
      at_bind source m k s first ((g (value m s)).stays source (final m s) (valid_final m s is) (known_final source m s is known first));
}

-- where the state tells something
pub tame_look_at : {A : Type 0} (k : State → Run A) → ((source : Source) (s : State) → IsValid s → KnowsAll source s.trees → At source s (k s)) → Tame (look k)
tame_look_at k h = record { stays = λ source s is known. at_look source k s (h source s is known) }

pub tame_look : {A : Type 0} (k : State → Run A) → ((s : State) → Tame (k s)) → Tame (look k)
tame_look k h = tame_look_at k (λ source s is known. (h s).stays source s is known)

pub tame_if : {A : Type 0} (b : Bool) (m n : Run A) → Tame m → Tame n → Tame (if b then m else n)
tame_if true m n h g = h
tame_if false m n h g = g

pub tame_given : {A B : Type 0} (o : Option A) (n : Run B) (f : A → Run B) → Tame n → ((a : A) → Tame (f a)) → Tame (given o n f)
tame_given None n f h g = h
tame_given (Some a) n f h g = g a

pub tame_each : {A : Type 0} (xs : List A) (f : A → Run (Unit {0})) → ((x : A) → Tame (f x)) → Tame (for_each xs f)
unfolding for_each
tame_each [] f h = tame_answer tt
tame_each (x ∷ xs) f h = tame_bind (f x) (λ _. for_each xs f) (h x) (λ _. tame_each xs f h)

pub tame_while : {A : Type 0} (n : ℕ) (test : State → A → Bool) (body : A → Run A) (a : A) → ((a : A) → Tame (body a)) → Tame (while_at_most n test body a)
unfolding while_at_most
tame_while zero test body a h = tame_answer a
tame_while (suc n) test body a h =
    tame_look (λ s. if test s a then (body a >>= while_at_most n test body) else answer a)
    (λ s. tame_if (test s a) (body a >>= while_at_most n test body) (answer a) (tame_bind (body a) (while_at_most n test body) (h a) (λ b. tame_while n test body b h)) (tame_answer a))

-- ---- the runs of one action

-- an edit that sets no attribute of other names, and puts no characters but blanks
abbrev pub BringsNone : Edit → Type 0
BringsNone (Replace n at count put) = AreBlanks put
BringsNone (Set n name value) = is_set_name name ≡ true
BringsNone _ = Unit {0}

none_tame : (source : Source) (e : Edit) → BringsNone e → IsTameEdit source e
none_tame source (Replace n at count put) h = blanks_known source put h
none_tame source (Set n name value) h = h
none_tame source _ h = tt

pub tame_edit : (e : Edit) → BringsNone e → Tame (edit e)
unfolding edit act
tame_edit e h = record { stays = λ source s is known. (tt, none_tame source e h) }

-- an action that makes no node, and is no edit
abbrev pub IsOther : Action → Type 0
IsOther (Change e) = ⊥
IsOther (MakeElement name attributes) = ⊥
IsOther (MakeWords chars) = ⊥
IsOther _ = Unit {0}

other_tame : (source : Source) (a : Action) → IsOther a → IsTame source a
other_tame source (Change e) h = absurd h
other_tame source (MakeElement name attributes) h = absurd h
other_tame source (MakeWords chars) h = absurd h
other_tame source _ h = tt

pub tame_perform : (a : Action) → IsOther a → Tame (perform a)
unfolding perform act
tame_perform a h = record { stays = λ source s is known. (tt, other_tame source a h) }

words_at : (source : Source) (s : State) (chars : List ℕ) → Each (IsKnownCharacter source) chars → At source s (make_words chars)
unfolding make_words act
words_at source s chars h = (tt, h)

pub make_at : (source : Source) (s : State) (name : List ℕ) (attributes : List Attribute) → IsKnown source (Element name attributes) → At source s (make_element name attributes)
unfolding make_element act
make_at source s name attributes h = (tt, h)

-- attributes of names that commands set
abbrev pub AreSet : List Attribute → Type 0
AreSet list = Each (λ (a : Attribute). is_set_name a.name ≡ true) list

set_known : (f : Forest Content) (list : List Attribute) → AreSet list → Each (IsKnownAttribute f) list
set_known f [] h = tt
set_known f (a ∷ list) h = (inl h.0, set_known f list h.1)

pub tame_make : (name : List ℕ) (attributes : List Attribute) → is_made_name name ≡ true → AreSet attributes → Tame (make_element name attributes)
tame_make name attributes h sets = record { stays = λ source s is known. make_at source s name attributes (inl h, set_known source.forest attributes sets) }

-- ---- compositions of edits

pub tame_each_last : (ns : List ℕ) (p : ℕ) → Tame (move_each_last ns p)
unfolding move_each_last
tame_each_last ns p = search (tame_each, tame_bind, tame_edit, tame_answer)

tame_rest : (p : ℕ) (s : State) (e x : ℕ) → Tame (insert p (Some e) x >>= (λ _. move_each_last (children_of s.trees e) x >>= (λ _. remove e >>= (λ _. answer x))))
tame_rest p s e x = search (tame_bind, tame_edit, tame_answer, tame_each_last)

pub tame_tag_name : (e : ℕ) (name : List ℕ) → is_made_name name ≡ true → Tame (set_tag_name e name)
unfolding set_tag_name renamed
tame_tag_name e name made = tame_look_at _ (λ source s is known. by_parent source s is known (parent_of s.trees e) (has_name s.trees e name || not (is_editable_for s e)))
  where
    by_parent : (source : Source) (s : State) → IsValid s → KnowsAll source s.trees → (o : Option ℕ) (b : Bool) → At source s (given o (answer e) λ p. if b then answer e else renamed p s e name)
    by_parent source s is known None b = (tame_answer e).stays source s is known
    by_parent source s is known (Some p) true = (tame_answer e).stays source s is known
    by_parent source s is known (Some p) false =
        let m = make_element name (attribute_list_of s.trees e) in
        let first : At source s m = make_at source s name (attribute_list_of s.trees e) (inl made, list_known source s.trees e known) in
        at_bind source m _ s first ((tame_rest p s e (value m s)).stays source (final m s) (valid_final m s is) (known_final source m s is known first))

tame_sent : (p i n at tail : ℕ) (inserted : Bool) → Tame (points_sent p i n at tail inserted)
unfolding points_sent
tame_sent p i n at tail inserted = search (tame_if, tame_bind, tame_perform, tame_answer)

tame_close : (p : ℕ) (s : State) (n at x : ℕ)
    → Tame (insert p (next_of s.trees n) x >>= (λ inserted. points_sent p (index_of s.trees n) n at x inserted >>= (λ _. replace n at (length (characters_of s.trees n) - at) [] >>= (λ _. answer x))))
tame_close p s n at x = search (tame_bind, tame_edit, tame_answer, tame_sent)

-- the new text has characters of one that is there
under_at : (source : Source) (s : State) → IsValid s → KnowsAll source s.trees → (p n at : ℕ) → At source s (split_under p s n at)
unfolding split_under
under_at source s is known p n at =
    let chars = drop at (characters_of s.trees n) in
    let m = make_words chars in
    let first : At source s m = words_at source s chars (each_drop (IsKnownCharacter source) at (characters_of s.trees n) (characters_known source s.trees n known)) in
    at_bind source m _ s first ((tame_close p s n at (value m s)).stays source (final m s) (valid_final m s is) (known_final source m s is known first))

pub tame_split_words : (n at : ℕ) → Tame (split_words n at)
unfolding split_words
tame_split_words n at = tame_look_at _ (λ source s is known. by_parent source s is known (parent_of s.trees n))
  where
    by_parent : (source : Source) (s : State) → IsValid s → KnowsAll source s.trees → (o : Option ℕ) → At source s (given o (answer n) λ p. split_under p s n at)
    by_parent source s is known None = (tame_answer n).stays source s is known
    by_parent source s is known (Some p) = under_at source s is known p n at

-- with these a run that makes no nodes is tame by its parts
pub ruleset tame_parts = (tame_answer, tame_bind, tame_look, tame_if, tame_given, tame_each, tame_while, tame_edit, tame_perform, tame_tag_name, tame_split_words)

-- ---- runs that are tame from a source that has what they put

module _ (source : Source) where
  pub from_any : {A : Type 0} (m : Run A) → Tame m → TameFrom source m
  from_any m h = record { stays = λ s is known. h.stays source s is known }

  pub from_answer : {A : Type 0} (a : A) → TameFrom source (answer a)
  from_answer a = from_any (answer a) (tame_answer a)

  pub from_bind : {A B : Type 0} (m : Run A) (k : A → Run B) → TameFrom source m → ((a : A) → TameFrom source (k a)) → TameFrom source (m >>= k)
  from_bind m k h g = record {
    stays = λ s is known.
        let first = h.stays s is known in
        at_bind source m k s first ((g (value m s)).stays (final m s) (valid_final m s is) (known_final source m s is known first));
  }

  pub from_look : {A : Type 0} (k : State → Run A) → ((s : State) → TameFrom source (k s)) → TameFrom source (look k)
  from_look k h = record { stays = λ s is known. at_look source k s ((h s).stays s is known) }

  pub from_if : {A : Type 0} (b : Bool) (m n : Run A) → TameFrom source m → TameFrom source n → TameFrom source (if b then m else n)
  from_if true m n h g = h
  from_if false m n h g = g

  pub from_given : {A B : Type 0} (o : Option A) (n : Run B) (f : A → Run B) → TameFrom source n → ((a : A) → TameFrom source (f a)) → TameFrom source (given o n f)
  from_given None n f h g = h
  from_given (Some a) n f h g = g a

  pub from_edit : (e : Edit) → IsTameEdit source e → TameFrom source (edit e)
  unfolding edit act
  from_edit e h = record { stays = λ s is known. (tt, h) }

  pub from_words : (chars : List ℕ) → Each (IsKnownCharacter source) chars → TameFrom source (make_words chars)
  from_words chars h = record { stays = λ s is known. words_at source s chars h }

  pub from_perform : (a : Action) → IsOther a → TameFrom source (perform a)
  from_perform a h = from_any (perform a) (tame_perform a h)

pub ruleset from_parts = (from_answer, from_bind, from_look, from_if, from_given, from_perform)

-- ---- moves, and insertions of nodes that are there

pub tame_insert_before : (o n : ℕ) → Tame (insert_before o n)
unfolding insert_before
tame_insert_before o n = search tame_parts

pub tame_insert_after : (o n : ℕ) → Tame (insert_after o n)
unfolding insert_after
tame_insert_after o n = search tame_parts

pub tame_move_before : (o n : ℕ) → Tame (move_before o n)
unfolding move_before
tame_move_before o n = search tame_parts

pub tame_move_after : (o n : ℕ) → Tame (move_after o n)
unfolding move_after
tame_move_after o n = search tame_parts

pub tame_move_first : (p n : ℕ) → Tame (move_first p n)
unfolding move_first
tame_move_first p n = search tame_parts

pub tame_all_before : (list : List ℕ) (o : ℕ) → Tame (move_all_before list o)
unfolding move_all_before
tame_all_before list o = search (tame_parts, tame_move_before)

pub tame_all_after : (list : List ℕ) (o : ℕ) → Tame (move_all_after list o)
unfolding move_all_after
tame_all_after list o = search (tame_parts, tame_move_after)

pub tame_all_first : (list : List ℕ) (p : ℕ) → Tame (move_all_first list p)
unfolding move_all_first
tame_all_first list p = search (tame_parts, tame_move_first)

pub made_br : is_made_name (codes "br") ≡ true
unfolding is_made_name made_names
made_br = refl

pub tame_break : Tame make_break
unfolding make_break
tame_break = tame_make (codes "br") [] made_br tt

pub tame_unwrap : (e : ℕ) → Tame (unwrap e)
unfolding unwrap
tame_unwrap e = search (tame_parts, tame_all_before)

pub ruleset tame_moves = (tame_insert_before, tame_insert_after, tame_move_before, tame_move_after, tame_move_first, tame_all_before, tame_all_after, tame_all_first, tame_each_last, tame_break)

-- ---- names that are made and set

pub made_div : is_made_name (codes "div") ≡ true
unfolding is_made_name made_names
made_div = refl

pub made_span : is_made_name (codes "span") ≡ true
unfolding is_made_name made_names
made_span = refl

pub made_li : is_made_name (codes "li") ≡ true
unfolding is_made_name made_names
made_li = refl

pub made_p : is_made_name (codes "p") ≡ true
unfolding is_made_name made_names
made_p = refl

pub set_style_name : is_set_name (codes "style") ≡ true
unfolding is_set_name set_names
set_style_name = refl

pub set_href_name : is_set_name (codes "href") ≡ true
unfolding is_set_name set_names
set_href_name = refl
