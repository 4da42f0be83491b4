-- Splitting the parent of a list is tame: the parent that is copied is an element, since it has a child and is editable.
use Rattle.std.proofs.Common.{◌≡◌, ℕ, ◌<◌, Bool, true, false, ◌&&◌, ◌||◌, not, if◌then◌else◌, List, [], ◌∷◌, Option, Some, None, is_none, refl, sym, ap, subst, ◌∙◌}
use Rattle.std.specs.Prelude.{codes, unwrap_or}
use Rattle.std.specs.Option.{option_map, option_and_then}
use Rattle.edit_model.specs.DomModel.declared.Content.{Content}
use Rattle.edit_model.specs.DomModel.declared.Content.TheVariants.{Document, Element, Words, Remark}
use Rattle.edit_model.specs.DomModel.Contents.{name_in, name_of}
use Rattle.edit_model.specs.DomModel.Forest.{Forest, either, first_in, last_in, parent_of, children_of, content_of}
use Rattle.edit_model.proofs.DomModel.Links.{parent_count}
use Rattle.inline_value.specs.NodeTests.LineBreaks.{follows_break, precedes_break}
use Rattle.edit_model.specs.State.{State}
use Rattle.edit_model.specs.Compositions.{tag_of, attribute_list_of}
use Rattle.edit_model.specs.Confined.{is_editable_for}
use Rattle.edit_model.specs.Valid.{IsValid}
use Rattle.edit_model.specs.Moves.{insert_before, move_all_before, move_each_last}
use Rattle.edit_model.specs.Run.{Run, final, value, ◌>>◌, done, given, make_element, unset_attribute}
use Rattle.edit_model.proofs.TailOutside.{host_of}
use Rattle.edit_laws.specs.Kinds.{kind_of}
use Rattle.edit_laws.specs.Kinds as kinds
use Rattle.edit_laws.proofs.StayingKinds.{kind_along}
use Rattle.inline_value.specs.EditActions.Siblings.{first_parent, members, starts_in, ends_in, until}
use Rattle.inline_value.specs.WrapSplit.Breaks.{breaks_before, breaks_at_end, breaks_from}
use Rattle.inline_value.specs.WrapSplit.Split.{break_before, break_after, clear_before, copied, copy_front, drop_first_break, close, tidy_after, split_end, split_rest, split_marked, is_void_thing, split_at, split_members, split_parent, split_around, remove_keeping_children}
use Rattle.making_laws.specs.Known.{Source, IsKnownName, KnowsAll}
use Rattle.making_laws.specs.Tame.{Tame}
use Rattle.making_laws.proofs.Attributes.{list_known}
use Rattle.making_laws.proofs.Named.{IsNamed, named_parent}
use Rattle.making_laws.proofs.TameRuns.{At, at_bind, at_look, valid_final, known_final, make_at, tame_answer, tame_parts, tame_moves}

-- ---- line breaks

pub tame_breaks_before : (n : ℕ) → Tame (breaks_before n)
unfolding breaks_before
tame_breaks_before n = search tame_parts depth 9

pub tame_breaks_at_end : (n : ℕ) → Tame (breaks_at_end n)
unfolding breaks_at_end
tame_breaks_at_end n = search tame_parts depth 9

pub tame_breaks_from : (n : ℕ) → Tame (breaks_from n)
unfolding breaks_from
tame_breaks_from n = search (tame_parts, tame_breaks_before, tame_breaks_at_end)

-- ---- the parts that copy nothing

tame_break_before : (wanted : Bool) (a : ℕ) → Tame (break_before wanted a)
unfolding break_before
tame_break_before wanted a = search (tame_parts, tame_moves)

tame_break_after : (wanted : Bool) (z : ℕ) → Tame (break_after wanted z)
unfolding break_after
tame_break_after wanted z = search (tame_parts, tame_moves)

tame_clear_before : (o : ℕ) (list : List ℕ) → Tame (clear_before o list)
unfolding clear_before
tame_clear_before o list = search (tame_parts, tame_breaks_before)

tame_drop_first : (o z : ℕ) → Tame (drop_first_break o z)
unfolding drop_first_break
tame_drop_first o z = search tame_parts depth 9

tame_close : (o z : ℕ) (wanted : Bool) → Tame (close o z wanted)
unfolding close
tame_close o z wanted = search (tame_parts, tame_break_after, tame_breaks_before)

tame_tidy : (z : ℕ) → Tame (tidy_after z)
unfolding tidy_after
tame_tidy z = search (tame_parts, tame_breaks_at_end)

tame_end : (o : ℕ) (list : List ℕ) (z : ℕ) (wanted : Bool) → Tame (split_end o list z wanted)
unfolding split_end
tame_end o list z wanted = search (tame_parts, tame_moves, tame_break_after, tame_breaks_at_end)

tail : (o : ℕ) (list : List ℕ) (a z : ℕ) (before after : Bool) → Run (Unit {0})
tail o list a z before after = do
  move_all_before list o
  break_before before a
  drop_first_break o z
  close o z after
  tidy_after z

tame_tail : (o : ℕ) (list : List ℕ) (a z : ℕ) (before after : Bool) → Tame (tail o list a z before after)
unfolding tail
tame_tail o list a z before after = search (tame_parts, tame_moves, tame_break_before, tame_drop_first, tame_close, tame_tidy)

-- ---- elements stay elements

-- the name of an element that is known
pub name_known : (source : Source) (g : Forest Content) (l : ℕ) → KnowsAll source g → IsNamed g l → IsKnownName source.forest (tag_of g l)
name_known source g l known (name, e) = subst (IsKnownName source.forest) (sym (ap (λ (o : Option (List ℕ)). unwrap_or o []) e)) (by_content (content_of g l) refl e)
  where
    by_content : (o : Option Content) → content_of g l ≡ o → option_and_then name_in o ≡ Some name → IsKnownName source.forest name
    by_content None at t = absurd (let u : None ≡ Some name = t in cc)
    by_content (Some Document) at t = absurd (let u : None ≡ Some name = t in cc)
    by_content (Some (Element own list)) at t = (let same : own ≡ name = (let u : Some own ≡ Some name = t in cc) in subst (IsKnownName source.forest) same (known l (Element own list) at).0)
    by_content (Some (Words chars)) at t = absurd (let u : None ≡ Some name = t in cc)
    by_content (Some (Remark chars)) at t = absurd (let u : None ≡ Some name = t in cc)

kind_named : (f : Forest Content) (l : ℕ) (name : List ℕ) → kind_of f l ≡ Some (kinds.Element name) → IsNamed f l
kind_named f l name e = (name, by_content (content_of f l) e)
  where
    by_content : (o : Option Content) → option_map kinds.kind_in o ≡ Some (kinds.Element name) → option_and_then name_in o ≡ Some name
    by_content None t = absurd (let u : None ≡ Some (kinds.Element name) = t in cc)
    by_content (Some Document) t = absurd (let u : Some kinds.Document ≡ Some (kinds.Element name) = t in cc)
    by_content (Some (Element own list)) t = (let u : Some (kinds.Element own) ≡ Some (kinds.Element name) = t in cc)
    by_content (Some (Words chars)) t = absurd (let u : Some kinds.Text ≡ Some (kinds.Element name) = t in cc)
    by_content (Some (Remark chars)) t = absurd (let u : Some kinds.Comment ≡ Some (kinds.Element name) = t in cc)

named_kind : (f : Forest Content) (l : ℕ) (name : List ℕ) → name_of f l ≡ Some name → kind_of f l ≡ Some (kinds.Element name)
named_kind f l name e = by_content (content_of f l) e
  where
    by_content : (o : Option Content) → option_and_then name_in o ≡ Some name → option_map kinds.kind_in o ≡ Some (kinds.Element name)
    by_content None t = absurd (let u : None ≡ Some name = t in cc)
    by_content (Some Document) t = absurd (let u : None ≡ Some name = t in cc)
    by_content (Some (Element own list)) t = (let u : Some own ≡ Some name = t in cc)
    by_content (Some (Words chars)) t = absurd (let u : None ≡ Some name = t in cc)
    by_content (Some (Remark chars)) t = absurd (let u : None ≡ Some name = t in cc)

pub still_named : {T : Type 0} (m : Run T) (s : State) (l : ℕ) → IsValid s → l < s.next → IsNamed s.trees l → IsNamed (final m s).trees l
unfolding final
still_named m s l is low (name, e) = kind_named (m.run s).0.trees l name (kind_along l (m.by_actions s) is low ∙ named_kind s.trees l name e)

-- ---- the copy

-- an element, with a label that was drawn
abbrev pub IsElement : State → ℕ → Type 0
IsElement s o = (o < s.next) × IsNamed s.trees o

module _ (source : Source) where
  copied_at : (o a : ℕ) (s : State) → IsValid s → KnowsAll source s.trees → IsNamed s.trees o → At source s (copied o a)
  unfolding copied
  copied_at o a s is known named =
      let m : Run ℕ = make_element (tag_of s.trees o) (attribute_list_of s.trees o) in
      let first : At source s m = make_at source s (tag_of s.trees o) (attribute_list_of s.trees o) (name_known source s.trees o known named, list_known source s.trees o known) in
      at_look source _ s (at_bind source m _ s first ((tame_rest (value m s)).stays source (final m s) (valid_final m s is) (known_final source m s is known first)))
    where
      tame_rest : (x : ℕ) → Tame (unset_attribute o (codes "id") >> (insert_before o x >> move_each_last (until a (children_of s.trees o)) x))
      tame_rest x = search (tame_parts, tame_moves)

  front_at : (o : ℕ) (list : List ℕ) (a : ℕ) (s : State) → IsValid s → KnowsAll source s.trees → IsNamed s.trees o → At source s (copy_front o list a)
  unfolding copy_front
  front_at o list a s is known named = at_look source _ s (by_start (starts_in s o list))
    where
      by_start : (v : Bool) → At source s (if v then done else copied o a)
      by_start true = (tame_answer tt).stays source s is known
      by_start false = copied_at o a s is known named

  rest_at : (o : ℕ) (list : List ℕ) (a z : ℕ) (before after : Bool) (s : State) → IsValid s → KnowsAll source s.trees → IsNamed s.trees o → At source s (split_rest o list a z before after)
  unfolding split_rest tail
  rest_at o list a z before after s is known named =
      let front = front_at o list a s is known named in
      at_bind source (copy_front o list a) (λ _. tail o list a z before after) s front
      ((tame_tail o list a z before after).stays source (final (copy_front o list a) s) (valid_final (copy_front o list a) s is) (known_final source (copy_front o list a) s is known front))

  marked_at : (o : ℕ) (list : List ℕ) (a z : ℕ) (s : State) → IsValid s → KnowsAll source s.trees → IsNamed s.trees o → At source s (split_marked o list a z)
  unfolding split_marked
  marked_at o list a z s is known named =
      at_look source _ s (by_ends (not (starts_in s o list) && ends_in s o list) (starts_in s o list && follows_break s.trees o) (ends_in s o list && precedes_break s.trees o))
    where
      by_ends : (v before after : Bool) → At source s (if v then split_end o list z after else split_rest o list a z before after)
      by_ends true before after = (tame_end o list z after).stays source s is known
      by_ends false before after = rest_at o list a z before after s is known named

  -- the lists are those of the children of o, which is an element if it is editable
  split_at_at : (o : ℕ) (list : List ℕ) (a z : ℕ) (s : State) → IsValid s → KnowsAll source s.trees → (is_editable_for s o ≡ true → IsElement s o) → At source s (split_at o list a z)
  unfolding split_at
  split_at_at o list a z s is known named = at_look source _ s (by_test (is_editable_for s o) (is_none (parent_of s.trees o) || is_void_thing s o) refl)
    where
      by_test : (v w : Bool) → is_editable_for s o ≡ v → At source s (if not v || w then done else (clear_before o list >> split_marked o list a z))
      by_test false w e = (tame_answer tt).stays source s is known
      by_test true true e = (tame_answer tt).stays source s is known
      by_test true false e =
          let m = clear_before o list in
          let own = named e in
          let first = (tame_clear_before o list).stays source s is known in
          at_bind source m (λ _. split_marked o list a z) s first
          (marked_at o list a z (final m s) (valid_final m s is) (known_final source m s is known first) (still_named m s o is own.0 own.1))

  members_at : (o : ℕ) (list : List ℕ) (s : State) → IsValid s → KnowsAll source s.trees → (is_editable_for s o ≡ true → IsElement s o) → At source s (split_members o list)
  unfolding split_members
  members_at o list s is known named = by_first (first_in list) (last_in list)
    where
      by_first : (p q : Option ℕ) → At source s (given p done λ a. given q done λ z. split_at o list a z)
      by_first None q = (tame_answer tt).stays source s is known
      by_first (Some a) None = (tame_answer tt).stays source s is known
      by_first (Some a) (Some z) = split_at_at o list a z s is known named

-- the parent of a member has a child
first_parent_is : (s : State) (list : List ℕ) (o : ℕ) → first_parent s list ≡ Some o → (x : ℕ) × (parent_of s.trees x ≡ Some o)
unfolding first_parent
first_parent_is s [] o e = absurd (let t : None ≡ Some o = e in cc)
first_parent_is s (x ∷ xs) o e = by_parent (parent_of s.trees x) refl e (λ t. first_parent_is s xs o t)
  where
    by_parent : (p : Option ℕ) → parent_of s.trees x ≡ p → either p (first_parent s xs) ≡ Some o → (first_parent s xs ≡ Some o → (y : ℕ) × (parent_of s.trees y ≡ Some o)) → (y : ℕ) × (parent_of s.trees y ≡ Some o)
    by_parent None at t more = more t
    by_parent (Some q) at t more = (x, at ∙ t)

parent_element : (s : State) (x o : ℕ) → IsValid s → parent_of s.trees x ≡ Some o → is_editable_for s o ≡ true → IsElement s o
parent_element s x o is child editable =
    let host = host_of s o editable in
    (is.forest.below o (parent_count s.trees x o is.forest.distinct child).1, named_parent s.trees s.next is.forest host.0 x o host.2 child)

-- ---- of a list

pub tame_split : (list : List ℕ) → Tame (split_parent list)
unfolding split_parent
tame_split list = record { stays = λ source s is known. at_look source _ s (by_parent source s is known (first_parent s list) refl) }
  where
    by_parent : (source : Source) (s : State) → IsValid s → KnowsAll source s.trees → (p : Option ℕ) → first_parent s list ≡ p → At source s (given p done λ o. split_members o (members s o list))
    by_parent source s is known None e = (tame_answer tt).stays source s is known
    by_parent source s is known (Some o) e = (let child = first_parent_is s list o e in members_at source o (members s o list) s is known (parent_element s child.0 o is child.1))

pub tame_split_around : (n : ℕ) → Tame (split_around n)
unfolding split_around
tame_split_around n = search (tame_parts, tame_split)

pub tame_keeping_children : (n : ℕ) → Tame (remove_keeping_children n)
unfolding remove_keeping_children
tame_keeping_children n = search (tame_parts, tame_split)
