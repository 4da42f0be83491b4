-- Wrapping a line in a new container takes out nothing that is kept, where the host isn't hidden, and at or below it no node has
-- display none, each rule is a block, and no image, rule or line break has children.
use Rattle.std.proofs.Common.{◌≡◌, ◌⊎◌, ℕ, zero, suc, ◌<◌, Bool, true, false, ◌||◌, ◌&&◌, not, if◌then◌else◌, bytes_eq, List, [], ◌∷◌, Option, Some, None, is_none, refl, sym, ap, subst, ◌∙◌, inl, inr, arith, true≢false}
use Rattle.std.specs.Prelude.{codes}
use Rattle.std.specs.List.{filter}
use Rattle.std.specs.Option.{option_map_or, option_and_then}
use Rattle.std.proofs.lemmas.Bool.{and_parts}
use Rattle.edit_model.specs.DomModel.declared.Content.{Content}
use Rattle.edit_model.specs.DomModel.declared.Content.TheVariants.{Document, Element, Words, Remark}
use Rattle.edit_model.specs.DomModel.Contents.{is_break, is_parent_at, may_have_children, name_in}
use Rattle.edit_model.specs.DomModel.Forest.{Forest, tops, first_in, last_in, count_of, parent_of, children_of, prev_of, next_of, first_of, IsDistinct}
use Rattle.edit_model.specs.DomModel.Forest.Forest.{Nil, Tree}
use Rattle.edit_model.specs.DomModel.Places.{index_of}
use Rattle.edit_model.proofs.DomModel.Links.{parent_count, tree_is}
use Rattle.edit_model.proofs.DomModel.Neighbours.{parent_of-first}
use Rattle.inline_value.specs.CssValue.Values.{display_of}
use Rattle.inline_value.specs.NodeStyles.Blocks.{is_block_content, own_or_inline, is_hidden}
use Rattle.inline_value.specs.NodeStyles.OwnStyles.{attribute, declared, defaulted, own_display}
use Rattle.inline_value.specs.StyleTable.DefaultStyles.{default_of, default_display, value_of, display_rows}
use Rattle.inline_value.specs.NodeTests.SolidNeighbours.{is_extraneous_break}
use Rattle.inline_value.specs.NodeTests.Visible.{is_visible}
use Rattle.edit_model.specs.State.{State}
use Rattle.edit_model.specs.Action as action
use Rattle.edit_model.specs.Action.{Action, made, element_content, acted}
use Rattle.edit_model.specs.Confined.{is_editable_for, may_remove}
use Rattle.edit_model.specs.Edit.{Insert, Remove, Move, Replace, Set, Unset}
use Rattle.edit_model.specs.Kept.{is_empty, is_kept, is_thing, borne_by, leaves, kept_leaves, has_no_kept_leaves}
use Rattle.edit_model.specs.Moves.{insert_before, move_first, move_all_first, move_each_last, make_break}
use Rattle.edit_model.specs.Run.{Reaches, here, onward, Run, ◌>>=◌, ◌>>◌, act, answer, done, look, given, final, value, edit, insert, remove, make_element, grow}
use Rattle.edit_model.specs.Valid.{IsValid}
use Rattle.edit_model.proofs.Bearing.{bears-Tree}
use Rattle.edit_model.proofs.Documents.{has_children}
use Rattle.edit_model.proofs.Each.{EachOn}
use Rattle.edit_model.proofs.Forests.{fresh}
use Rattle.edit_model.proofs.OutsideRuns.{trees-grown}
use Rattle.edit_model.proofs.Steps.{final-make_element}
use Rattle.edit_model.proofs.Tests.{none_is, removes}
use Rattle.edit_model.proofs.ValidRuns.{final_valid}
use Rattle.edit_laws.proofs.StayingKinds.{kind_along}
use Rattle.inline_value.specs.EditActions.Siblings.{first_parent, members}
use Rattle.inline_value.specs.EditQuery.Rows.{container_name}
use Rattle.inline_value.specs.WrapSplit.declared.rule.Criterion.TheVariants.{Never}
use Rattle.inline_value.specs.WrapSplit.declared.rule.Recipe.{Recipe}
use Rattle.inline_value.specs.WrapSplit.declared.rule.Recipe.TheVariants.{Make}
use Rattle.inline_value.specs.WrapSplit.Breaks.{if_hidden_own, up_step, top_hidden, last_break_before, break_at_end, breaks_before, breaks_at_end, breaks_from}
use Rattle.inline_value.specs.WrapSplit.Target.{beside, blank_of, made_of, made_by, target}
use Rattle.inline_value.specs.WrapSplit.Walks.{turn_bound, followed, walk, is_invisible}
use Rattle.inline_value.specs.WrapSplit.Wrap.{append_break, prepend_break, separate_with_br, append_all, parted_front, prepend_all, moved_in, grow_at, insert_if_loose, drop_empty, drop_parent, merged, merge_next, filled_from, filled, into_target, wrap_ends, wrap_list, all_hidden, widened, wrap_members, wrap}
use Rattle.caret_laws.specs.Sparing.{Spares, SparesOn}
use Rattle.caret_laws.specs.TailLaws.{is_thing_at}
use Rattle.caret_laws.proofs.Canonical.{Ends, ends_answer, ends_look, ends_bind, ends_perform}
use Rattle.caret_laws.proofs.InsideRuns.{Began}
use Rattle.caret_laws.proofs.NearTrees.{Inner, Onway, onway_final, gone_inner, held_inner, inner_shown}
use Rattle.caret_laws.proofs.OwnLines.{name_kinds}
use Rattle.caret_laws.proofs.PutImages.{break_bare}
use Rattle.caret_laws.proofs.SparingRuns.{spares_both}
use Rattle.caret_laws.proofs.StillRuns.{parent_kind}
use Rattle.caret_laws.proofs.TidyRuns.{MayHold, hold_named, Tidy, tidy_same, tidy_leaf, Packed, Packs, packed_by, packed_final, packs_answer, packs_bind, packs_look, packs_if, packs_given, packs_each, packs_edit, packs_make}
use Rattle.caret_laws.proofs.Trees.{root_seen}
use Rattle.caret_laws.proofs.Unseen.{Appears, unseen_bare}
use Rattle.caret_laws.proofs.WrappedCarets.{IsFilling, Filling, Clear, Fills, fills_insert_if_loose, fills_moved_in, never_fits, New, is_new, named_new, low_new, target_is, target_value}

-- ---- what is made

break_appears : Appears (Some (element_content (codes "br") []))
unfolding own_display declared attribute defaulted default_of default_display value_of display_rows display_of is_block_content own_or_inline
break_appears = record { box = refl; rule = λ e. absurd (true≢false (sym e)) }

container_appears : (v : Bool) → Appears (Some (element_content (container_name v) []))
unfolding own_display declared attribute defaulted default_of default_display value_of display_rows display_of is_block_content own_or_inline
container_appears true = record { box = refl; rule = λ e. absurd (true≢false (sym e)) }
container_appears false = record { box = refl; rule = λ e. absurd (true≢false (sym e)) }

-- ---- runs that take out nothing that is kept

abbrev Spared : {T : Type 0} → Run T → State → Type 0
Spared m s = SparesOn (m.by_actions s)

spared_answer : {A : Type 0} (a : A) (s : State) → Spared (answer a) s
unfolding answer
spared_answer a s = tt

pub spared_look : {T : Type 0} (k : State → Run T) (s : State) → Spared (k s) s → Spared (look k) s
unfolding look
spared_look k s h = h

spared_bind : {A B : Type 0} (m : Run A) (k : A → Run B) (s : State) → Spared m s → Spared (k (value m s)) (final m s) → Spared (m >>= k) s
unfolding ◌>>=◌ final value
spared_bind m k s h g = spares_both (m.by_actions s) ((k (m.run s).1).by_actions (m.run s).0) h g

spared_given : {A B : Type 0} (o : Option A) (n : Run B) (f : A → Run B) (s : State) → Spared n s → ((a : A) → o ≡ Some a → Spared (f a) s) → Spared (given o n f) s
spared_given None n f s h g = h
spared_given (Some a) n f s h g = g a refl

spared_if : {A : Type 0} (v : Bool) (m n : Run A) (s : State) → (v ≡ true → Spared m s) → Spared n s → Spared (if v then m else n) s
spared_if true m n s h g = h refl
spared_if false m n s h g = g

spared_remove : (n : ℕ) (s : State) → Spares (action.Change (Remove n)) s → Spared (remove n) s
unfolding edit act
spared_remove n s h = (tt, h)

spared_make : (name : List ℕ) (s : State) → Spared (make_element name []) s
unfolding make_element act
spared_make name s = (tt, tt)

-- filling a container takes out nothing
filling_spares : (x : ℕ) (a : Action) (s : State) → IsFilling x a → Spares a s
filling_spares x (action.Change (Insert p b n)) s h = tt
filling_spares x (action.Change (Remove n)) s h = absurd h
filling_spares x (action.Change (Move n p b)) s h = tt
filling_spares x (action.Change (Replace n at count put)) s h = tt
filling_spares x (action.Change (Set n name v)) s h = tt
filling_spares x (action.Change (Unset n name)) s h = tt
filling_spares x (action.MakeElement name attributes) s h = tt
filling_spares x (action.MakeWords chars) s h = tt
filling_spares x (action.Select anchor focus) s h = tt
filling_spares x (action.Extend focus) s h = tt
filling_spares x action.Unselect s h = tt
filling_spares x (action.Grow at) s h = tt
filling_spares x (action.Send node at tail) s h = tt
filling_spares x (action.Scratch pair) s h = tt
filling_spares x (action.Override command setting) s h = tt
filling_spares x (action.Flag flags) s h = tt
filling_spares x (action.Extract from end target) s h = tt

filling_on : (x : ℕ) {s t : State} (r : Reaches s t) → EachOn (Filling x) r → SparesOn r
filling_on x here h = tt
filling_on x (onward {t = t} q a) h = (filling_on x q h.0, filling_spares x a t h.1)

spared_fills : (x : ℕ) {T : Type 0} (m : Run T) (s : State) → IsValid s → Fills x m → Spared m s
spared_fills x m s is h = filling_on x (m.by_actions s) (h.each.on s is)

module _ (s0 : State) (h : ℕ) (b : Began s0 h) (shown : is_hidden s0.trees h ≡ false) where
  abbrev D : ℕ → Type 0
  D l = Inner s0 h b l

  -- ---- what may go

  -- a line break has no children
  childless : (f : Forest Content) → IsDistinct f → Tidy D f → (l : ℕ) → D l → is_break f l ≡ true → children_of f l ≡ []
  childless f once k l d br = by (children_of f l) refl
    where
      neither : (a b : Bool) → b ≡ true → (a || b) ≡ false → ⊥
      neither true b t h = true≢false h
      neither false b t h = true≢false (sym t ∙ h)

      by : (xs : List ℕ) → children_of f l ≡ xs → xs ≡ []
      by [] e = refl
      by (j ∷ xs) e = absurd (neither (is_thing_at f l) (is_break f l) br (k.holders j l (parent_of-first f once l j (ap first_in e)) d))

  there : (s : State) (n : ℕ) → IsValid s → may_remove s n ≡ true → 0 < count_of s.trees n
  there s n is may = (let t = removes s n may in (parent_count s.trees n t.from is.forest.distinct t.child).0)

  spares_break : (s : State) → Onway s0 h b s → IsValid s → Tidy D s.trees → (r : ℕ) → is_break s.trees r ≡ true → Spares (action.Change (Remove r)) s
  spares_break s way is k r br = λ may. break_bare s r is (there s r is may) br (childless s.trees is.forest.distinct k r (gone_inner s0 h b s way r may) br)

  spares_unseen : (s : State) → Onway s0 h b s → IsValid s → Tidy D s.trees → (r : ℕ) → is_invisible s r ≡ true → Spares (action.Change (Remove r)) s
  spares_unseen s way is k r hidden = λ may.
      unseen_bare D s.trees is.forest.distinct k.appear r (λ m i. held_inner s0 h b s way r m (gone_inner s0 h b s way r may) i)
      (inner_shown s0 h b s way k.appear shown r (gone_inner s0 h b s way r may)) (unseen (is_visible s.trees r) hidden)
    where
      unseen : (v : Bool) → not v ≡ true → v ≡ false
      unseen true h = absurd (true≢false (sym h))
      unseen false h = refl

  -- an element without children that is no image and no rule bears nothing
  spares_empty : (s : State) → Onway s0 h b s → IsValid s → (r : ℕ) → (D r → MayHold s.trees r) → is_parent_at s.trees r ≡ true → first_of s.trees r ≡ None → Spares (action.Change (Remove r)) s
  unfolding borne_by has_no_kept_leaves kept_leaves leaves
  spares_empty s way is r hold parent none = λ may. (
      let f = s.trees in
      let tree = tree_is f r (let one = is.forest.distinct r in let some = there s r is may in omega (arith, one, some)) in
      let seen = root_seen f r tree.0 tree.1 is.forest.distinct tree.2 in
      let kids : tree.1 ≡ Nil = no_first tree.1 (ap first_in (sym seen.1) ∙ none) in
      let can : may_have_children tree.0 ≡ true = ap (λ o. option_map_or may_have_children o false) (sym seen.0) ∙ parent in
      let plain : option_map_or is_thing (name_in tree.0) false ≡ false = ap (λ o. option_map_or is_thing (option_and_then name_in o) false) (sym seen.0) ∙ first_off (is_thing_at f r) (is_break f r) (hold (gone_inner s0 h b s way r may)) in
      ap has_no_kept_leaves (tree.2 ∙ ap (λ ks. Tree r tree.0 ks Nil) kids) ∙ (bears-Tree r tree.0 Nil Nil ∙ rw (borne tree.0 can plain) nothing))
    where
      no_first : (ks : Forest Content) → first_in (tops ks) ≡ None → ks ≡ Nil
      no_first Nil e = refl
      no_first (Tree m c ks rest) e = absurd (let t : Some m ≡ None = e in cc)

      first_off : (a b : Bool) → (a || b) ≡ false → a ≡ false
      first_off true b h = absurd (true≢false h)
      first_off false b h = refl

      borne : (c : Content) → may_have_children c ≡ true → option_map_or is_thing (name_in c) false ≡ false → is_empty (filter is_kept (borne_by r c)) ≡ true
      borne Document can plain = refl
      borne (Element name attributes) can plain = rw plain refl
      borne (Words chars) can plain = absurd (true≢false (sym can))
      borne (Remark chars) can plain = absurd (true≢false (sym can))

      nothing : (has_no_kept_leaves Nil && has_no_kept_leaves Nil) ≡ true
      nothing = refl

  spared_gone : (r : ℕ) (s : State) → Spares (action.Change (Remove r)) s → Spared (remove r >> done) s
  spared_gone r s h = spared_bind (remove r) (λ _. done) s (spared_remove r s h) (spared_answer tt (final (remove r) s))

  -- ---- line breaks

  extraneous_break : (f : Forest Content) (l : ℕ) → is_extraneous_break f l ≡ true → is_break f l ≡ true
  unfolding is_extraneous_break
  extraneous_break f l h = by (is_break f l) _ _ _ h
    where
      by : (a b c d : Bool) → (a && b && c && not d) ≡ true → a ≡ true
      by true b c d h = refl
      by false true true d h = absurd (true≢false (sym h))
      by false true false d h = absurd (true≢false (sym h))
      by false false true d h = absurd (true≢false (sym h))
      by false false false d h = absurd (true≢false (sym h))

  -- from a node up to one that isn't visible, or not at all
  climbs_hidden : (s : State) (n l : ℕ) → (walk (up_step s) n l ≡ l) ⊎ (is_invisible s (walk (up_step s) n l) ≡ true)
  unfolding walk up_step
  climbs_hidden s zero l = inl refl
  climbs_hidden s (suc n) l = by (λ q. climbs_hidden s n q) (parent_of s.trees l)
    where
      hidden : ((q : ℕ) → (walk (up_step s) n q ≡ q) ⊎ (is_invisible s (walk (up_step s) n q) ≡ true)) → (q : ℕ) → is_invisible s q ≡ true → is_invisible s (walk (up_step s) n q) ≡ true
      hidden more_up q h = elim (more_up q) [ inl same ↦ subst (λ k. is_invisible s k ≡ true) (sym same) h | inr more ↦ more ]

      by_test : ((q : ℕ) → (walk (up_step s) n q ≡ q) ⊎ (is_invisible s (walk (up_step s) n q) ≡ true)) → (q : ℕ) (v : Bool) → (v ≡ true → is_invisible s q ≡ true)
          → (followed (if v then Some q else None) l (walk (up_step s) n) ≡ l) ⊎ (is_invisible s (followed (if v then Some q else None) l (walk (up_step s) n)) ≡ true)
      by_test more_up q true h = inr (hidden more_up q (h refl))
      by_test more_up q false h = inl refl

      by : ((q : ℕ) → (walk (up_step s) n q ≡ q) ⊎ (is_invisible s (walk (up_step s) n q) ≡ true)) → (o : Option ℕ)
          → (followed (if_hidden_own s o) l (walk (up_step s) n) ≡ l) ⊎ (is_invisible s (followed (if_hidden_own s o) l (walk (up_step s) n)) ≡ true)
      by more_up None = inl refl
      by more_up (Some q) = by_test more_up q (is_editable_for s q && is_invisible s q) (λ t. (and_parts (is_editable_for s q) (is_invisible s q) t).1)

  spares_top : (s : State) → Onway s0 h b s → IsValid s → Tidy D s.trees → (o : ℕ) → is_break s.trees o ≡ true → Spares (action.Change (Remove (top_hidden s o))) s
  unfolding top_hidden
  spares_top s way is k o br = elim (climbs_hidden s (turn_bound s) o) [
    | inl same ↦ subst (λ r. Spares (action.Change (Remove r)) s) (sym same) (spares_break s way is k o br)
    | inr hidden ↦ spares_unseen s way is k (walk (up_step s) (turn_bound s) o) hidden
  ]

  spared_before : (n : ℕ) (s : State) → Onway s0 h b s → IsValid s → Tidy D s.trees → Spared (breaks_before n) s
  unfolding breaks_before
  spared_before n s way is k =
      spared_look _ s (spared_given (prev_of s.trees n) done _ s (spared_answer tt s) (λ p _. (
      let r = last_break_before s n p in
      spared_if (is_editable_for s r && is_extraneous_break s.trees r) (remove r >> done) done s
      (λ t. spared_gone r s (spares_break s way is k r (extraneous_break s.trees r (and_parts (is_editable_for s r) (is_extraneous_break s.trees r) t).1)))
      (spared_answer tt s))))

  spared_at_end : (n : ℕ) (s : State) → Onway s0 h b s → IsValid s → Tidy D s.trees → Spared (breaks_at_end n) s
  unfolding breaks_at_end
  spared_at_end n s way is k =
      let o = break_at_end s n in
      spared_look _ s (spared_if (is_editable_for s o && is_extraneous_break s.trees o) (remove (top_hidden s o) >> done) done s
      (λ t. spared_gone (top_hidden s o) s (spares_top s way is k o (extraneous_break s.trees o (and_parts (is_editable_for s o) (is_extraneous_break s.trees o) t).1)))
      (spared_answer tt s))

  -- ---- the container is filled

  module _ (x : ℕ) where
    packs_break : Packs D x make_break
    unfolding make_break
    packs_break = packs_make D x (codes "br") [] break_appears

    packs_gone : (r : ℕ) → Packs D x (remove r >> done)
    packs_gone r = packs_bind D x (remove r) (λ _. done) (packs_edit D x (Remove r) tt) (λ _. packs_answer D x tt)

    packs_all_first : (list : List ℕ) → Packs D x (move_all_first list x)
    unfolding move_all_first move_first
    packs_all_first list = packs_each D x _ _ (λ n. packs_look D x _ (λ s. packs_bind D x _ _ (packs_edit D x _ refl) (λ _. packs_answer D x tt)))

    packs_each_last : (list : List ℕ) → Packs D x (move_each_last list x)
    unfolding move_each_last
    packs_each_last list = packs_each D x _ _ (λ n. packs_bind D x _ _ (packs_edit D x _ refl) (λ _. packs_answer D x tt))

    packs_append_break : Packs D x (append_break x)
    unfolding append_break
    packs_append_break = packs_bind D x _ _ packs_break (λ n. packs_bind D x _ _ (packs_edit D x _ refl) (λ _. packs_answer D x tt))

    packs_prepend_break : Packs D x (prepend_break x)
    unfolding prepend_break
    packs_prepend_break = packs_bind D x _ _ packs_break (λ n. packs_look D x _ (λ s. packs_bind D x _ _ (packs_edit D x _ refl) (λ _. packs_answer D x tt)))

    packs_separate : (before after : Option ℕ) → Packs D x (separate_with_br x before after)
    unfolding separate_with_br
    packs_separate before after = packs_look D x _ (λ s. packs_if D x _ _ _ packs_append_break (packs_answer D x tt))

    packs_moved_in : (list : List ℕ) (a : ℕ) → Packs D x (moved_in x list a)
    unfolding moved_in append_all prepend_all parted_front
    packs_moved_in list a = packs_look D x _ (λ s. packs_if D x _ _ _
        (packs_look D x _ (λ t. packs_bind D x _ _ (packs_separate _ _) (λ _. packs_each_last list)))
        (packs_bind D x _ _ (packs_look D x _ (λ t. packs_if D x _ _ _ packs_prepend_break (packs_answer D x tt))) (λ _. packs_all_first list)))

    packs_drop : (o : Option ℕ) → Packs D x (drop_parent o)
    unfolding drop_parent drop_empty
    packs_drop o = packs_given D x o _ _ (packs_answer D x tt) (λ q. packs_look D x _ (λ s. packs_if D x _ _ _ (packs_gone q) (packs_answer D x tt)))

    packs_merge : Packs D x (merge_next Never x)
    unfolding merge_next
    packs_merge = packs_look D x _ (λ s. subst (λ o. Packs D x (given o done (merged x))) (sym (never_fits s (next_of s.trees x))) (packs_answer D x tt))

    spared_merge : (s : State) → Spared (merge_next Never x) s
    unfolding merge_next
    spared_merge s = spared_look _ s (subst (λ o. Spared (given o done (merged x)) s) (sym (never_fits s (next_of s.trees x))) (spared_answer tt s))

    packs_before : Packs D x (breaks_before x)
    unfolding breaks_before
    packs_before = packs_look D x _ (λ s. packs_given D x (prev_of s.trees x) done _ (packs_answer D x tt) (λ p. packs_if D x (is_editable_for s (last_break_before s x p) && is_extraneous_break s.trees (last_break_before s x p)) (remove (last_break_before s x p) >> done) done (packs_gone (last_break_before s x p)) (packs_answer D x tt)))

    spared_from : (s : State) → Onway s0 h b s → IsValid s → Packed D x s → Spared (breaks_from x) s
    unfolding breaks_from
    spared_from s way is k =
        spared_bind (breaks_before x) (λ _. breaks_at_end x) s (spared_before x s way is k.tidy)
        (spared_at_end x (final (breaks_before x) s) (onway_final s0 h b (breaks_before x) s way) (final_valid (breaks_before x) s is) (packed_final D x (breaks_before x) s packs_before is k).tidy)

    -- the container is put before a
    loose_tidy : (a : ℕ) (u : State) → IsValid u → Tidy D u.trees → Tidy D (final (insert_if_loose x a) u).trees
    unfolding insert_if_loose insert_before grow_at acted
    loose_tidy a u is k = ends_look (λ s. if is_none (parent_of s.trees x) then (insert_before a x >> grow_at x) else done) u (λ s _. Tidy D s.trees) (by (is_none (parent_of u.trees x)))
      where
        put : Ends (insert_before a x) u (λ s _. Tidy D s.trees)
        put = ends_look (λ s. given (parent_of s.trees a) done λ p. insert p (Some a) x >> done) u (λ s _. Tidy D s.trees) (at (parent_of u.trees a) refl)
          where
            at : (o : Option ℕ) → parent_of u.trees a ≡ o → Ends (given o done λ p. insert p (Some a) x >> done) u (λ s _. Tidy D s.trees)
            at None e = ends_answer tt u (λ s _. Tidy D s.trees) k
            at (Some p) e =
                let low = is.forest.below p (parent_count u.trees a p is.forest.distinct e).1 in
                let m : Run (Unit {0}) = insert p (Some a) x >> done in
                (packed_final D p m u (packs_bind D p _ _ (packs_edit D p _ refl) (λ _. packs_answer D p tt)) is (record { tidy = k; holds = k.holders a p e; low = low })).tidy

        by : (v : Bool) → Ends (if v then (insert_before a x >> grow_at x) else done) u (λ s _. Tidy D s.trees)
        by false = ends_answer tt u (λ s _. Tidy D s.trees) k
        by true = ends_bind (insert_before a x) (λ _. grow_at x) u (λ s _. Tidy D s.trees) (grows (final (insert_before a x) u) put)
          where
            grows : (s : State) → Tidy D s.trees → Ends (grow_at x) s (λ s _. Tidy D s.trees)
            grows s t = ends_look (λ s. given (parent_of s.trees x) done λ q. grow (record { label = q; offset = index_of s.trees x })) s (λ s _. Tidy D s.trees) (at (parent_of s.trees x))
              where
                at : (o : Option ℕ) → Ends (given o done λ q. grow (record { label = q; offset = index_of s.trees x })) s (λ s _. Tidy D s.trees)
                at None = ends_answer tt s (λ s _. Tidy D s.trees) t
                at (Some q) = ends_perform (action.Grow (record { label = q; offset = index_of s.trees x })) s (λ s _. Tidy D s.trees) (tidy_same D s.trees _ (trees-grown (record { label = q; offset = index_of s.trees x }) s) t)

    module _ (list : List ℕ) (a : ℕ) (u : State) (way : Onway s0 h b u) (is : IsValid u) (k : Packed D x u) where
      abbrev u1 : State
      u1 = final (insert_if_loose x a) u

      is1 : IsValid u1
      is1 = final_valid (insert_if_loose x a) u is

      k1 : Packed D x u1
      k1 = packed_by D x (insert_if_loose x a) u is (loose_tidy a u is k.tidy) k

      abbrev u2 : State
      u2 = final (moved_in x list a) u1

      is2 : IsValid u2
      is2 = final_valid (moved_in x list a) u1 is1

      k2 : Packed D x u2
      k2 = packed_final D x (moved_in x list a) u1 (packs_moved_in list a) is1 k1

      way2 : Onway s0 h b u2
      way2 = onway_final s0 h b (moved_in x list a) u1 (onway_final s0 h b (insert_if_loose x a) u way)

      -- the former parent of a
      left_bare : (q : ℕ) → parent_of u1.trees a ≡ Some q → first_of u2.trees q ≡ None → Spares (action.Change (Remove q)) u2
      unfolding final
      left_bare q e none =
          let low = is1.forest.below q (parent_count u1.trees a q is1.forest.distinct e).1 in
          let kinds = kind_along q ((moved_in x list a).by_actions u1) is1 low in
          spares_empty u2 way2 is2 q (λ d. hold_named u1.trees u2.trees q (name_kinds u1.trees u2.trees q kinds) (k1.tidy.holders a q e d))
          (parent_kind u1.trees u2.trees q kinds (has_children u1.trees u1.next is1.forest q a e)) none

      spared_drop : Spared (drop_parent (parent_of u1.trees a)) u2
      unfolding drop_parent drop_empty
      spared_drop =
          spared_given (parent_of u1.trees a) done drop_empty u2 (spared_answer tt u2) (λ q e.
          spared_look _ u2 (spared_if (is_editable_for u2 q && is_none (first_of u2.trees q)) (remove q >> done) done u2
          (λ t. spared_gone q u2 (left_bare q e (none_is (first_of u2.trees q) (and_parts (is_editable_for u2 q) (is_none (first_of u2.trees q)) t).1)))
          (spared_answer tt u2)))

      abbrev u3 : State
      u3 = final (drop_parent (parent_of u1.trees a)) u2

      is3 : IsValid u3
      is3 = final_valid (drop_parent (parent_of u1.trees a)) u2 is2

      k3 : Packed D x u3
      k3 = packed_final D x (drop_parent (parent_of u1.trees a)) u2 (packs_drop (parent_of u1.trees a)) is2 k2

      abbrev u4 : State
      u4 = final (merge_next Never x) u3

      is4 : IsValid u4
      is4 = final_valid (merge_next Never x) u3 is3

      k4 : Packed D x u4
      k4 = packed_final D x (merge_next Never x) u3 packs_merge is3 k3

      way4 : Onway s0 h b u4
      way4 = onway_final s0 h b (merge_next Never x) u3 (onway_final s0 h b (drop_parent (parent_of u1.trees a)) u2 way2)

      spared_filled : Spared (filled Never x list a) u
      unfolding filled filled_from
      spared_filled =
          spared_bind (insert_if_loose x a) _ u (spared_fills x (insert_if_loose x a) u is (fills_insert_if_loose x x a))
          (spared_look _ u1
          (spared_bind (moved_in x list a) _ u1 (spared_fills x (moved_in x list a) u1 is1 (fills_moved_in x list a))
          (spared_bind (drop_parent (parent_of u1.trees a)) _ u2 spared_drop
          (spared_bind (merge_next Never x) _ u3 (spared_merge u3)
          (spared_bind (breaks_from x) _ u4 (spared_from u4 way4 is4 k4)
          (spared_answer (Some x) (final (breaks_from x) u4)))))))

  -- ---- the whole

  module _ (s : State) (way : Onway s0 h b s) (is : IsValid s) (v : Bool) (clear : Clear s.next s) (k : Tidy D s.trees) where
    bare : is_thing (container_name v) ≡ false
    bare = by v
      where
        by : (v : Bool) → is_thing (container_name v) ≡ false
        by true = refl
        by false = refl

    packed_new : Packed D s.next (New s is (container_name v) bare clear)
    unfolding made
    packed_new = record {
      tidy = tidy_leaf D s.trees s.next (element_content (container_name v) []) is.forest.distinct (fresh s.trees s.next is.forest) (container_appears v) k;
      holds = λ _. ap (λ (o : Option (List ℕ)). option_map_or is_thing o false || option_map_or (λ own. bytes_eq own (codes "br")) o false) (named_new s is (container_name v) bare clear) ∙ by v;
      low = low_new s is (container_name v) bare clear;
    }
      where
        by : (v : Bool) → (is_thing (container_name v) || bytes_eq (container_name v) (codes "br")) ≡ false
        by true = refl
        by false = refl

    way_new : Onway s0 h b (New s is (container_name v) bare clear)
    way_new = subst (λ u. Onway s0 h b u) (final-make_element (container_name v) [] s) (onway_final s0 h b (make_element (container_name v) []) s way)

    abbrev Container : Recipe
    Container = Make (record { name = container_name v; attributes = [] })

    spared_target : (a z : ℕ) → Spared (target Never Container a z) s
    unfolding target made_by blank_of made_of
    spared_target a z =
        spared_look _ s (spared_given (beside Never a z s) (made_by Container) _ s
        (spared_bind (make_element (container_name v) []) _ s (spared_make (container_name v) s) (spared_answer _ _))
        (λ p _. spared_answer (Some p) s))

    spared_ends : (list : List ℕ) (a z : ℕ) → Spared (wrap_ends Never Container list a z) s
    unfolding wrap_ends into_target
    spared_ends list a z =
        spared_bind (target Never Container a z) (into_target Never list a) s (spared_target a z)
        (subst (λ o. Spared (into_target Never list a o) (final (target Never Container a z) s)) (sym (target_value s is (container_name v) bare clear a z))
        (subst (λ u. Spared (filled Never s.next list a) u) (sym (target_is s is (container_name v) bare clear a z))
        (spared_filled s.next list a (New s is (container_name v) bare clear) way_new (is_new s is (container_name v) bare clear) packed_new)))

    pub spared_wrap : (list : List ℕ) → Spared (wrap Never Container list) s
    unfolding wrap wrap_members wrap_list
    spared_wrap list =
        spared_look _ s (spared_given (first_parent s list) (answer None) _ s (spared_answer None s) (λ o _.
        spared_look _ s (spared_given (first_in (members s o list)) (answer None) _ s (spared_answer None s) (λ a _.
        spared_given (last_in (members s o list)) (answer None) _ s (spared_answer None s) (λ z _.
        by (all_hidden s (members s o list)) (widened s (members s o list) a z))))))
      where
        by : (w : Bool) (list : List ℕ) → Spared (if w then answer None else wrap_list Never Container list) s
        by true list = spared_answer None s
        by false list =
            spared_given (first_in list) (answer None) _ s (spared_answer None s) (λ a _.
            spared_given (last_in list) (answer None) _ s (spared_answer None s) (λ z _. spared_ends list a z))
