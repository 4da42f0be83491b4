-- Actions that make no text and put no characters into one leave the room that texts have.
use Rattle.std.proofs.Common.{◌≡◌, ◌<◌, ◌≤◌, ◌^◌, ◌+◌, ℕ, Bool, true, false, cond, eqb, if◌then◌else◌, List, [], ◌∷◌, take, drop, length, Option, Some, None, true≢false, refl, sym, ap, subst, ◌∙◌, inl, inr, arith}
use Rattle.std.specs.Option.{option_map, option_map_or}
use Rattle.std.proofs.lemmas.Bool.{cases_Bool}
use Rattle.std.proofs.lemmas.Bool.Decides.{eqb_tells}
use Rattle.std.proofs.lemmas.List.{length-append, length-drop, length-take}
use Rattle.edit_model.specs.DomModel.declared.Content.{Content}
use Rattle.edit_model.specs.DomModel.declared.Content.TheVariants.{Document, Element, Words, Remark}
use Rattle.edit_model.specs.DomModel.Forest.{Forest, parent_of, content_of, link, unlink, CanPut}
use Rattle.edit_model.specs.DomModel.Revised.{revised}
use Rattle.edit_model.proofs.DomModel.Kept.{content_of-link, content_of-unlink, content_of-with_leaf_new, content_of-with_leaf_other}
use Rattle.edit_model.proofs.DomModel.Revising.{content_of-revised}
use Rattle.inline_value.specs.NodeTests.CollapsedWhitespace.{is_words_content}
use Rattle.edit_model.specs.State.{State}
use Rattle.edit_model.specs.Confined.{spliced}
use Rattle.edit_model.specs.Edit.{Edit, Insert, Remove, Move, Replace, Set, Unset, is_made_edit, trees_after, with_replaced, with_set, with_unset, changed}
use Rattle.edit_model.specs.Action as action
use Rattle.edit_model.specs.Action.{Action, made, element_content, words_content, extended, acted}
use Rattle.edit_model.specs.Valid.{IsForest, IsValid}
use Rattle.edit_model.proofs.Forests.{forest-unlink, can_go, fresh}
use Rattle.edit_model.proofs.IslandRuns.{trees_made, trees_left}
use Rattle.edit_model.proofs.OutsideRuns.{trees-extended, trees-selected, trees-grown, trees-sent, trees-scratched}
use Rattle.edit_model.proofs.Tests.{inserts, removes, goes, parent_there}
use Rattle.caret_laws.specs.SolidOrder.{HasRoomFor}
use Rattle.caret_laws.proofs.Blanks.{words_same}

-- the action makes no text and puts no characters into one
abbrev pub AddsNoText : Action → Type 0
AddsNoText (action.Change (Replace n at count [])) = Unit {0}
AddsNoText (action.Change (Replace n at count (c ∷ put))) = ⊥
AddsNoText (action.MakeWords chars) = ⊥
AddsNoText (action.Extract from end target) = ⊥
AddsNoText a = Unit {0}

-- ---- contents

pub words_there : (o : Option Content) → option_map_or is_words_content o false ≡ true → (chars : List ℕ) × (o ≡ Some (Words chars))
words_there None h = absurd (true≢false (sym h))
words_there (Some Document) h = absurd (true≢false (sym h))
words_there (Some (Element name attributes)) h = absurd (true≢false (sym h))
words_there (Some (Words chars)) h = (chars, refl)
words_there (Some (Remark chars)) h = absurd (true≢false (sym h))

-- what is a text then was one that was as long
abbrev Shortens : (Content → Content) → Type 0
Shortens g = (c : Content) (xs : List ℕ) → g c ≡ Words xs → (ys : List ℕ) × (c ≡ Words ys) × (length xs ≤ length ys)

shorter : (chars : List ℕ) (at count : ℕ) → length (spliced chars at count []) ≤ length chars
shorter chars at count = omega (arith, length-append (take at chars) (drop (at + count) chars), length-take at chars, length-drop (at + count) chars)

shortens_replaced : (at count : ℕ) → Shortens (with_replaced at count [])
shortens_replaced at count Document xs e = absurd (let t = e in cc)
shortens_replaced at count (Element name list) xs e = absurd (let t = e in cc)
shortens_replaced at count (Words chars) xs e =
    let same : spliced chars at count [] ≡ xs = words_same (spliced chars at count []) xs (ap Some e) in
    (chars, refl, subst (λ l. length l ≤ length chars) same (shorter chars at count))
shortens_replaced at count (Remark chars) xs e = absurd (let t = e in cc)

shortens_set : (name value : List ℕ) → Shortens (with_set name value)
shortens_set name value Document xs e = absurd (let t = e in cc)
shortens_set name value (Element tag list) xs e = absurd (let t = e in cc)
shortens_set name value (Words chars) xs e = (xs, e, omega arith)
shortens_set name value (Remark chars) xs e = absurd (let t = e in cc)

shortens_unset : (name : List ℕ) → Shortens (with_unset name)
shortens_unset name Document xs e = absurd (let t = e in cc)
shortens_unset name (Element tag list) xs e = absurd (let t = e in cc)
shortens_unset name (Words chars) xs e = (xs, e, omega arith)
shortens_unset name (Remark chars) xs e = absurd (let t = e in cc)

module _ (r : ℕ) where
  abbrev Room : Forest Content → Type 0
  Room f = (l : ℕ) (chars : List ℕ) → content_of f l ≡ Some (Words chars) → length chars + r < 2 ^ 32

  room_revised : (f : Forest Content) (n : ℕ) (g : Content → Content) → Shortens g → Room f → Room (revised f n g)
  room_revised f n g shortens room l xs e = by (eqb n l) (content_of f l) refl (sym (content_of-revised n g f l) ∙ e)
    where
      by : (v : Bool) (o : Option Content) → content_of f l ≡ o → option_map (λ c. cond v (g c) c) o ≡ Some (Words xs) → length xs + r < 2 ^ 32
      by v None at h = absurd (let t : None ≡ Some (Words xs) = h in cc)
      by false (Some c) at h = room l xs (at ∙ h)
      by true (Some c) at h =
          let k = shortens c xs (let t : Some (g c) ≡ Some (Words xs) = h in cc) in
          let long = k.2 in
          let low = room l k.0 (at ∙ ap Some k.1) in
          omega (arith, long, low)

  room_linked : (f : Forest Content) (p : ℕ) (b : Option ℕ) (n next : ℕ) → IsForest f next → CanPut f p b n → Room f → Room (link f p b n)
  room_linked f p b n next is can room l xs e = room l xs (sym (content_of-link f p b n l is.distinct can) ∙ e)

  room_unlinked : (f : Forest Content) (p n next : ℕ) → IsForest f next → parent_of f n ≡ Some p → Room f → Room (unlink f n)
  room_unlinked f p n next is child room l xs e = room l xs (sym (content_of-unlink f p n l is.distinct child) ∙ e)

  after : (e : Edit) (s : State) → AddsNoText (action.Change e) → IsValid s → is_made_edit e s ≡ true → Room s.trees → Room (trees_after e s.trees)
  unfolding is_made_edit trees_after
  after (Insert p b n) s adds is may room = room_linked s.trees p b n s.next is.forest (inserts s p b n may).can room
  after (Remove n) s adds is may room = let t = removes s n may in room_unlinked s.trees t.from n s.next is.forest t.child room
  after (Move n p b) s adds is may room =
      let t = goes s n p b may in
      let f = s.trees in
      let loose = forest-unlink f s.next is.forest t.from n t.child in
      let can = can_go f s.next is.forest t.from n p b t.child t.apart t.parent (parent_there f p t.parent) t.before in
      room_linked (unlink f n) p b n s.next loose can (room_unlinked f t.from n s.next is.forest t.child room)
  after (Replace n at count []) s adds is may room = room_revised s.trees n (with_replaced at count []) (shortens_replaced at count) room
  after (Replace n at count (c ∷ put)) s adds is may room = absurd adds
  after (Set n own value) s adds is may room = room_revised s.trees n (with_set own value) (shortens_set own value) room
  after (Unset n own) s adds is may room = room_revised s.trees n (with_unset own) (shortens_unset own) room

  -- ---- actions

  same_trees : (s t : State) → t.trees ≡ s.trees → HasRoomFor r s → HasRoomFor r t
  same_trees s t same room = subst Room (sym same) room

  abbrev IsNoLonger : Content → Type 0
  IsNoLonger c = (chars : List ℕ) → c ≡ Words chars → length chars + r < 2 ^ 32

  room_made : (c : Content) (s : State) → IsValid s → IsNoLonger c → HasRoomFor r s → HasRoomFor r (made c s)
  unfolding made
  room_made c s is new room l xs e = elim (eqb_tells s.next l) [
    | inl (_, same) ↦ new xs (
        let own : Some c ≡ Some (Words xs) = sym (content_of-with_leaf_new s.trees s.next c (fresh s.trees s.next is.forest)) ∙ subst (λ m. content_of (made c s).trees m ≡ Some (Words xs)) (sym same) e in
        cc)
    | inr (_, off) ↦ room l xs (sym (content_of-with_leaf_other s.trees s.next c l (fresh s.trees s.next is.forest) off) ∙ e)
  ]

  pub room_words : (chars : List ℕ) (s : State) → IsValid s → length chars + r < 2 ^ 32 → HasRoomFor r s → HasRoomFor r (made (words_content chars) s)
  room_words chars s is short room = room_made (words_content chars) s is (λ xs e. by xs _ e) room
    where
      by : (xs : List ℕ) (v : Bool) → (if v then Words chars else Words []) ≡ Words xs → length xs + r < 2 ^ 32
      by xs true e = subst (λ l. length l + r < 2 ^ 32) (words_same chars xs (ap Some e)) short
      by xs false e = subst (λ l. length l + r < 2 ^ 32) (words_same [] xs (ap Some e)) (omega (arith, short))

  pub room_acted : (a : Action) (s : State) → AddsNoText a → IsValid s → HasRoomFor r s → HasRoomFor r (acted a s)
  unfolding acted extended changed
  room_acted (action.Change e) s adds is room = elim (cases_Bool (is_made_edit e s)) [
    | inl may ↦ subst Room (sym (trees_made e s may)) (after e s adds is may room)
    | inr off ↦ same_trees s (acted (action.Change e) s) (trees_left e s off) room
  ]
  room_acted (action.MakeElement own attributes) s adds is room = room_made (element_content own attributes) s is (λ xs e. absurd (let t = e in cc)) room
  room_acted (action.MakeWords chars) s adds is room = absurd adds
  room_acted (action.Select anchor focus) s adds is room = same_trees s (acted (action.Select anchor focus) s) (trees-selected anchor focus s) room
  room_acted (action.Extend focus) s adds is room = same_trees s (acted (action.Extend focus) s) (trees-extended s.points.selection focus s) room
  room_acted action.Unselect s adds is room = room
  room_acted (action.Grow at) s adds is room = same_trees s (acted (action.Grow at) s) (trees-grown at s) room
  room_acted (action.Send node at tail) s adds is room = same_trees s (acted (action.Send node at tail) s) (trees-sent node at tail s) room
  room_acted (action.Scratch pair) s adds is room = same_trees s (acted (action.Scratch pair) s) (trees-scratched pair s) room
  room_acted (action.Override command setting) s adds is room = room
  room_acted (action.Flag flags) s adds is room = room
  room_acted (action.Extract from end target) s adds is room = absurd adds
