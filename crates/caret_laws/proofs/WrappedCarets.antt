-- Where a line is wrapped in a new container, no image and no rule comes to stand between the container and the ends of the
-- selection: nodes move into the container alone, and then some go.
use Rattle.std.proofs.Common.{◌≡◌, ◌≢◌, ℕ, ◌+◌, ◌<◌, Bool, true, false, ◌&&◌, if◌then◌else◌, cond, eqb, List, [], Option, Some, None, IfSome, refl, sym, ap, subst, ◌∙◌, inl, inr, arith}
use Rattle.std.specs.Option.{option_map, option_map_or, option_and_then}
use Rattle.std.specs.Prelude.{nat_lt}
use Rattle.std.proofs.lemmas.Bool.{cases_Bool, ne_eqb, ltb-true}
use Rattle.edit_model.specs.DomModel.declared.Content.{Content}
use Rattle.edit_model.specs.DomModel.declared.attributes.Attribute.{Attribute}
use Rattle.edit_model.specs.DomModel.Contents.{name_in, name_of}
use Rattle.edit_model.specs.DomModel.Forest.{Forest, preorder, count_of, tree_of, parent_of, prev_of, next_of, first_in, last_in, content_of, link, unlink, IsDistinct, IsWithin, CanPut}
use Rattle.edit_model.specs.DomModel.Places.{index_of}
use Rattle.edit_model.proofs.DomModel.Kept.{content_of-link, content_of-unlink, content_of-with_leaf_new, content_of-with_leaf_other}
use Rattle.edit_model.proofs.DomModel.Links.{IsDistinct-unlink}
use Rattle.edit_model.proofs.DomModel.Move.{tree_of-unlink}
use Rattle.edit_model.proofs.DomModel.Totals.{total-without, put_under_nowhere}
use Rattle.edit_model.proofs.DomModel.Within.{within_child, within_root}
use Rattle.edit_model.specs.LiveRange.declared.places.Point.{Point}
use Rattle.edit_model.specs.LiveRange.declared.places.Pair.{Pair}
use Rattle.edit_model.specs.LiveRange.LivePoints.{mapped}
use Rattle.edit_model.specs.LiveRange.PointsEdit as range
use Rattle.edit_model.specs.LiveRange.PointsEdit.{adjusted, adjusted_pair, with_offset, after_insert, after_removal, after_loss, has_label}
use Rattle.edit_model.specs.State.{State}
use Rattle.edit_model.specs.Confined.{is_editable_for, may_grow}
use Rattle.edit_model.specs.Edit.{Edit, Insert, Remove, Move, Replace, Set, Unset, is_made_edit, trees_after, points_after, index_before, parent_or_0, changed, edited}
use Rattle.edit_model.specs.Kept.{is_thing}
use Rattle.edit_model.specs.Action as action
use Rattle.edit_model.specs.Action.{Action, made, element_content, grown, acted}
use Rattle.edit_model.specs.Moves.{insert_before, move_first, move_all_first, move_each_last, make_break}
use Rattle.edit_model.specs.Run.{Reaches, here, onward, Run, ◌>>=◌, final, value, answer, done, look, given, for_each, edit, remove, make_element, grow}
use Rattle.edit_model.specs.Valid.{IsForest, IsValid, IsPlacedPair}
use Rattle.edit_model.proofs.Documents.{put_under_more}
use Rattle.edit_model.proofs.Each.{Each, EachOn, each_bind, each_answer, each_look, each_if, each_given, each_for_each, each_edit, each_make_element, each_perform}
use Rattle.edit_model.proofs.Forests.{fresh, can_go}
use Rattle.edit_model.proofs.IslandRuns.{trees_made}
use Rattle.edit_model.proofs.Islands.{link_elsewhere}
use Rattle.edit_model.proofs.Made.{parent_is}
use Rattle.edit_model.proofs.OwnRoots.{holder_inside}
use Rattle.edit_model.proofs.Points.{placed_is, has_label-preorder}
use Rattle.edit_model.proofs.Steps.{final-bind, value-bind, final-look, value-look, final-answer, value-answer, final-make_element, value-make_element}
use Rattle.edit_model.proofs.TailForests.{away-link, away-with_leaf, stays-unlink}
use Rattle.edit_model.proofs.Tests.{inserts, Removes, removes, goes, parent_there}
use Rattle.edit_model.proofs.Trees.{none_or_some, within_trans, tree_of-with_leaf_other}
use Rattle.edit_model.proofs.ValidRuns.{valid_along, final_valid}
use Rattle.inline_value.specs.EditActions.Siblings.{first_parent, members}
use Rattle.inline_value.specs.WrapSplit.declared.rule.Criterion.TheVariants.{Never}
use Rattle.inline_value.specs.WrapSplit.declared.rule.Recipe.{Recipe}
use Rattle.inline_value.specs.WrapSplit.declared.rule.Recipe.TheVariants.{Make}
use Rattle.inline_value.specs.WrapSplit.Breaks.{breaks_before, breaks_at_end, breaks_from}
use Rattle.inline_value.specs.WrapSplit.Target.{meets, if_fits, beside, blank_of, made_of, made_by, target}
use Rattle.inline_value.specs.WrapSplit.Wrap.{append_break, prepend_break, separate_with_br, append_all, parted_front, prepend_all, moved_in, grow_at, insert_if_loose, drop_empty, drop_parent, merged, merge_next, filled_from, filled, into_target, wrap_ends, wrap_list, all_hidden, widened, wrap_members, wrap}
use Rattle.caret_laws.specs.TailLaws.{is_thing_at, AmidNoThing}
use Rattle.caret_laws.proofs.Blanks.{points_made, edit_left}
use Rattle.caret_laws.proofs.Canonical.{Ends, ends_answer, ends_look, ends_bind}
use Rattle.caret_laws.proofs.InsideRuns.{top_known}
use Rattle.caret_laws.proofs.OwnLines.{names_run}
use Rattle.caret_laws.proofs.Trees.{same_inside, within_both}
use Rattle.caret_laws.proofs.TreesBeside.{tree_of-unlinked, tree_of-linked}

-- ---- trees

-- what a node held it holds where another tree is put in
grows-link : (f : Forest Content) (p : ℕ) (b : Option ℕ) (n l z : ℕ) → IsDistinct f → CanPut f p b n → IsWithin f l z → IsWithin (link f p b n) l z
grows-link f p b n l z once can held = elim (none_or_some (count_of (tree_of f n) l)) [
  | inl none ↦ (
      let same = tree_of-linked f p b n l once can none in
      omega (arith, held, put_under_more (λ m _. cond (eqb m z) 1 0) (tree_of f l) p b (tree_of f n), ap (λ g. count_of g z) same))
  | inr some ↦ (
      let out : count_of (tree_of f l) p ≡ 0 = elim (none_or_some (count_of (tree_of f l) p)) [
        | inl none ↦ none
        | inr more ↦ absurd (let whole = within_trans f n l p once some more in omega (arith, whole, can.apart))
      ] in
      let known : 0 < count_of f l = omega (arith, some, total-without (λ m _. cond (eqb m l) 1 0) f n) in
      subst (λ g. 0 < count_of g z) (sym (link_elsewhere f p b n l once can known out)) held)
]

-- what a node holds when a tree is out it held before
back-unlink : (f : Forest Content) (o n l z : ℕ) → IsDistinct f → parent_of f n ≡ Some o → IsWithin (unlink f n) l z → IsWithin f l z
back-unlink f o n l z once child held = elim (none_or_some (count_of (tree_of f n) l)) [
  | inl none ↦ (
      let same = tree_of-unlinked f o n l once child none in
      omega (arith, held, ap (λ g. count_of g z) same, total-without (λ m _. cond (eqb m z) 1 0) (tree_of f l) n))
  | inr some ↦ subst (λ g. 0 < count_of g z) (same_inside f (unlink f n) n l once (IsDistinct-unlink f o n once child) (tree_of-unlink f o n once child) some) held
]

-- the same for a tree that moves into x, but for what holds x
module _ (f : Forest Content) (o n x : ℕ) (b : Option ℕ) (once : IsDistinct f) (child : parent_of f n ≡ Some o) (can : CanPut (unlink f n) x b n) (apart : count_of (tree_of f n) x ≡ 0) where
  once' : IsDistinct (unlink f n)
  once' = IsDistinct-unlink f o n once child

  same_n : tree_of (unlink f n) n ≡ tree_of f n
  same_n = tree_of-unlink f o n once child

  back-moved : (l y : ℕ) → IsWithin (link (unlink f n) x b n) l y → (IsWithin (link (unlink f n) x b n) l x → ⊥) → IsWithin f l y × (IsWithin f l x → ⊥)
  back-moved l y held off = elim (none_or_some (count_of (tree_of f n) l)) [
    | inr some ↦ (
        let same : tree_of (unlink f n) l ≡ tree_of f l = same_inside f (unlink f n) n l once once' same_n some in
        let out_f : IsWithin f l x → ⊥ = λ h. (let whole = within_trans f n l x once some h in omega (arith, whole, apart)) in
        let out : count_of (tree_of (unlink f n) l) x ≡ 0 = elim (none_or_some (count_of (tree_of (unlink f n) l) x)) [
          | inl none ↦ none
          | inr more ↦ absurd (out_f (subst (λ g. 0 < count_of g x) same more))
        ] in
        let known : 0 < count_of (unlink f n) l = omega (arith, some, ap (λ g. count_of g l) same_n, total-without (λ m _. cond (eqb m l) 1 0) (unlink f n) n) in
        (subst (λ g. 0 < count_of g y) (link_elsewhere (unlink f n) x b n l once' can known out ∙ same) held, out_f))
    | inl none ↦ (
        let none' : count_of (tree_of (unlink f n) n) l ≡ 0 = ap (λ g. count_of g l) same_n ∙ none in
        let linked = tree_of-linked (unlink f n) x b n l once' can none' in
        let out : count_of (tree_of (unlink f n) l) x ≡ 0 = elim (none_or_some (count_of (tree_of (unlink f n) l) x)) [
          | inl out ↦ out
          | inr more ↦ absurd (off (omega (arith, more, put_under_more (λ m _. cond (eqb m x) 1 0) (tree_of (unlink f n) l) x b (tree_of (unlink f n) n), ap (λ g. count_of g x) linked)))
        ] in
        let same = linked ∙ put_under_nowhere (tree_of (unlink f n) l) x b (tree_of (unlink f n) n) out in (
          back-unlink f o n l y once child (subst (λ g. 0 < count_of g y) same held),
          (λ h. (let stays = stays-unlink f o n l x once child none apart h in omega (arith, stays, out))),
        ))
  ]

-- a tree of its own holds nothing of the document
loose_apart : (f : Forest Content) (next : ℕ) → IsForest f next → (n y : ℕ) → 0 < n → parent_of f n ≡ None → IsWithin f 0 y → count_of (tree_of f n) y ≡ 0
loose_apart f next is n y inner loose inside = elim (none_or_some (count_of (tree_of f n) y)) [
  | inl none ↦ none
  | inr some ↦ absurd (within_root f 0 is.distinct is.document n (λ e. omega (arith, inner, e)) loose (holder_inside f next n y is some inside))
]

thing_same : (f g : Forest Content) (l : ℕ) → content_of g l ≡ content_of f l → is_thing_at g l ≡ is_thing_at f l
thing_same f g l same = ap (λ (o : Option Content). option_map_or is_thing (option_and_then name_in o) false) same

-- ---- what a wrap answers

pub never_fits : (s : State) (o : Option ℕ) → if_fits Never s o ≡ None
unfolding meets
never_fits s None = refl
never_fits s (Some n) = by (is_editable_for s n)
  where
    by : (v : Bool) → (if v && false then Some n else None) ≡ None
    by true = refl
    by false = refl

value_filled : (p : ℕ) (list : List ℕ) (a : ℕ) (s : State) → value (filled Never p list a) s ≡ Some p
unfolding filled filled_from
value_filled p list a s = rw (value-bind, value-look, value-bind, value-bind, value-bind, value-bind, value-answer) refl

module _ (x : ℕ) where
  -- ---- what holds an end of the selection and not the container is no image and no rule

  abbrev pub Free : Forest Content → ℕ → Type 0
  Free f y = (l : ℕ) → IsWithin f l y → (IsWithin f l x → ⊥) → is_thing_at f l ≡ false

  free_put : (f : Forest Content) (next : ℕ) → IsForest f next → (p : ℕ) (b : Option ℕ) (n y : ℕ) → CanPut f p b n → IsWithin f 0 y → Free f y → Free (link f p b n) y
  free_put f next is p b n y can inside free l held off =
      let once = is.distinct in
      let out = loose_apart f next is n y can.inner can.loose inside in
      let before : IsWithin f l y = elim (none_or_some (count_of (tree_of f l) y)) [
        | inr some ↦ some
        | inl none ↦ absurd (let none' = away-link f p b n l y once out none in omega (arith, none', held))
      ] in
      thing_same f (link f p b n) l (content_of-link f p b n l once can) ∙ free l before (λ h. off (grows-link f p b n l x once can h))

  free_moved : (f : Forest Content) (o n y : ℕ) (b : Option ℕ) → IsDistinct f → parent_of f n ≡ Some o → CanPut (unlink f n) x b n → count_of (tree_of f n) x ≡ 0 → Free f y → Free (link (unlink f n) x b n) y
  free_moved f o n y b once child can apart free l held off =
      let before = back-moved f o n x b once child can apart l y held off in
      thing_same f (link (unlink f n) x b n) l (content_of-link (unlink f n) x b n l (IsDistinct-unlink f o n once child) can ∙ content_of-unlink f o n l once child) ∙ free l before.0 before.1

  -- the container itself
  free_self : (f : Forest Content) → Free f x
  free_self f l held off = absurd (off held)

  free_made : (u : State) (c : Content) (y : ℕ) → IsValid u → IsWithin u.trees 0 y → Free u.trees y → Free (made c u).trees y
  unfolding made
  free_made u c y is inside free l held off =
      let f = u.trees in
      let low = is.forest.below y (omega (arith, inside, total-without (λ m _. cond (eqb m y) 1 0) f 0)) in
      let apart : eqb u.next y ≡ false = ne_eqb u.next y (λ e. omega (arith, low, e)) in
      let before : IsWithin f l y = elim (none_or_some (count_of (tree_of f l) y)) [
        | inr some ↦ some
        | inl none ↦ absurd (let none' = away-with_leaf f u.next c l y apart none in omega (arith, none', held))
      ] in
      let old : u.next ≢ l = λ e. (
      let empty : count_of (tree_of f u.next) y ≡ 0 = elim (none_or_some (count_of (tree_of f u.next) y)) [
        | inl none ↦ none
        | inr some ↦ absurd (
            let new = fresh f u.next is.forest in
            omega (arith, some, new, top_known f u.next y some))
      ] in
      omega (arith, empty, ap (λ k. count_of (tree_of f k) y) e, before)) in
      let same : tree_of (made c u).trees l ≡ tree_of f l = tree_of-with_leaf_other f u.next l c old in
      thing_same f (made c u).trees l (content_of-with_leaf_other f u.next c l (fresh f u.next is.forest) old)
      ∙ free l before (λ h. off (subst (λ g. 0 < count_of g x) (sym same) h))

  -- ---- actions that put nodes into the container

  abbrev pub IsFilling : Action → Type 0
  IsFilling (action.Change (Insert p b n)) = Unit {0}
  IsFilling (action.Change (Move n p b)) = p ≡ x
  IsFilling (action.MakeElement name attributes) = Unit {0}
  IsFilling (action.Grow at) = Unit {0}
  IsFilling _ = ⊥

  abbrev pub Filling : Action → State → Type 0
  Filling a s = IsFilling a

  abbrev FreePair : Forest Content → Pair → Type 0
  FreePair f pair = Free f pair.anchor.label × Free f pair.focus.label

  pub record Clear (u : State) : Type 0 where
    pub points : IfSome u.points.selection (FreePair u.trees)

  -- an adjustment of points
  abbrev Clears : range.PointsEdit → Forest Content → Forest Content → Type 0
  Clears e f g = (y : Point) → IsWithin f 0 y.label → Free f y.label → Free g (adjusted e y).label

  clears_pair : (e : range.PointsEdit) (f g : Forest Content) → Clears e f g → (o : Option Pair) → IfSome o (IsPlacedPair f) → IfSome o (FreePair f) → IfSome (option_map (adjusted_pair e) o) (FreePair g)
  clears_pair e f g clears None placed free = tt
  clears_pair e f g clears (Some pair) placed free =
      (clears pair.anchor (placed_is f pair.anchor placed.anchor).inside free.0, clears pair.focus (placed_is f pair.focus placed.focus).inside free.1)

  clears_insert : (parent index : ℕ) (f g : Forest Content) → ((y : ℕ) → IsWithin f 0 y → Free f y → Free g y) → Clears (range.Insert parent index) f g
  clears_insert parent index f g h y inside free = by (eqb y.label parent)
    where
      by : (v : Bool) → Free g (if v then with_offset y (after_insert index y.offset) else y).label
      by true = h y.label inside free
      by false = h y.label inside free

  clears_move : (from to : Point) (f g : Forest Content) → to.label ≡ x → ((y : ℕ) → Free f y → Free g y) → Clears (range.Move from to) f g
  clears_move from to f g at h y inside free = by (eqb from.label to.label) (eqb y.label from.label) (eqb y.label to.label)
    where
      arrived : Free g to.label
      arrived = subst (λ k. Free g k) (sym at) (free_self g)

      lost : (v w : Bool) → Free g (if v then to else (if w then with_offset to (to.offset + 1) else with_offset y (after_removal from.offset y.offset))).label
      lost true w = arrived
      lost false true = arrived
      lost false false = h y.label free

      by : (v w z : Bool) → Free g (if v
          then (if w then with_offset y (after_insert to.offset (after_removal from.offset y.offset)) else y)
          else (if w then after_loss from to y
          else (if z then with_offset y (after_insert to.offset y.offset) else y))).label
      by true true z = h y.label free
      by true false z = h y.label free
      by false true z = lost (eqb y.offset from.offset) (eqb y.offset (from.offset + 1))
      by false false true = h y.label free
      by false false false = h y.label free

  clear_edit : (e : Edit) (u : State) → IsValid u → IsFilling (action.Change e) → is_made_edit e u ≡ true → Clear u → IfSome (points_after e u.trees u.points).selection (FreePair (trees_after e u.trees))
  unfolding is_made_edit points_after trees_after
  clear_edit (Insert p b n) u is fills may k =
      clears_pair (range.Insert p (index_before u.trees p b)) u.trees (link u.trees p b n)
      (clears_insert p (index_before u.trees p b) u.trees (link u.trees p b n) (λ y inside free. free_put u.trees u.next is.forest p b n y (inserts u p b n may).can inside free))
      u.points.selection is.placed.selection k.points
  clear_edit (Move n p b) u is fills may k =
      let f = u.trees in
      let t = goes u n p b may in
      let can = can_go f u.next is.forest t.from n p b t.child t.apart t.parent (parent_there f p t.parent) t.before in
      let can_x : CanPut (unlink f n) x b n = subst (λ q. CanPut (unlink f n) q b n) fills can in
      let apart_x : count_of (tree_of f n) x ≡ 0 = subst (λ q. count_of (tree_of f n) q ≡ 0) fills t.apart in
      let from : Point = record { label = parent_or_0 f n; offset = index_of f n } in
      let to : Point = record { label = p; offset = index_before (unlink f n) p b } in
      clears_pair (range.Move from to) f (link (unlink f n) p b n)
      (clears_move from to f (link (unlink f n) p b n) fills (λ y free. subst (λ q. Free (link (unlink f n) q b n) y) (sym fills) (free_moved f t.from n y b is.forest.distinct t.child can_x apart_x free)))
      u.points.selection is.placed.selection k.points
  clear_edit (Remove n) u is fills may k = absurd fills
  clear_edit (Replace n at count put) u is fills may k = absurd fills
  clear_edit (Set n name value) u is fills may k = absurd fills
  clear_edit (Unset n name) u is fills may k = absurd fills

  clear_same : (u t : State) → t.trees ≡ u.trees → t.points.selection ≡ u.points.selection → Clear u → Clear t
  clear_same u t trees points k = record {
    points = subst (λ f. IfSome t.points.selection (FreePair f)) (sym trees) (subst (λ o. IfSome o (FreePair u.trees)) (sym points) k.points);
  }

  pub clear_made : (u : State) (c : Content) → IsValid u → Clear u → Clear (made c u)
  unfolding made
  clear_made u c is k = record { points = by u.points.selection is.placed.selection k.points }
    where
      by : (o : Option Pair) → IfSome o (IsPlacedPair u.trees) → IfSome o (FreePair u.trees) → IfSome o (FreePair (made c u).trees)
      by None placed free = tt
      by (Some pair) placed free = (
        free_made u c pair.anchor.label is (placed_is u.trees pair.anchor placed.anchor).inside free.0,
        free_made u c pair.focus.label is (placed_is u.trees pair.focus placed.focus).inside free.1,
      )

  clear_grown : (at : Point) (u : State) → IsValid u → Clear u → Clear (grown at u)
  unfolding grown changed
  clear_grown at u is k = by (may_grow u at)
    where
      label_stays : (y : Point) (v : Bool) → Free u.trees y.label → Free u.trees (if v then with_offset y (y.offset + 1) else y).label
      label_stays y true free = free
      label_stays y false free = free

      moved : IfSome (option_map (adjusted_pair (range.Grown at)) u.points.selection) (FreePair u.trees)
      moved =
          clears_pair (range.Grown at) u.trees u.trees (λ y _ free. label_stays y (eqb y.label at.label && eqb y.offset at.offset) free) u.points.selection is.placed.selection k.points

      by : (v : Bool) → Clear (if v then changed u u.trees (mapped (range.Grown at) u.points) else u)
      by true = record { points = moved }
      by false = k

  clear_acted : (a : Action) (u : State) → IsValid u → IsFilling a → Clear u → Clear (acted a u)
  unfolding acted
  clear_acted (action.Change e) u is fills k = elim (cases_Bool (is_made_edit e u)) [
    | inr off ↦ subst Clear (sym (edit_left e u off)) k
    | inl may ↦ record {
      points = subst (λ f. IfSome (edited e u).points.selection (FreePair f)) (sym (trees_made e u may))
          (subst (λ q. IfSome q.selection (FreePair (trees_after e u.trees))) (sym (points_made e u may)) (clear_edit e u is fills may k));
    }
  ]
  clear_acted (action.MakeElement name attributes) u is fills k = clear_made u (element_content name attributes) is k
  clear_acted (action.Grow at) u is fills k = clear_grown at u is k
  clear_acted (action.MakeWords chars) u is fills k = absurd fills
  clear_acted (action.Select anchor focus) u is fills k = absurd fills
  clear_acted (action.Extend focus) u is fills k = absurd fills
  clear_acted action.Unselect u is fills k = absurd fills
  clear_acted (action.Send node at tail) u is fills k = absurd fills
  clear_acted (action.Scratch pair) u is fills k = absurd fills
  clear_acted (action.Override command setting) u is fills k = absurd fills
  clear_acted (action.Flag flags) u is fills k = absurd fills
  clear_acted (action.Extract from end target) u is fills k = absurd fills

  clear_along : {u t : State} (r : Reaches u t) → IsValid u → EachOn Filling r → Clear u → Clear t
  clear_along here is fills k = k
  clear_along (onward {t = t} r a) is fills k = clear_acted a t (valid_along r is) fills.1 (clear_along r is fills.0 k)

  pub record Fills {T : Type 0} (m : Run T) : Type 0 where
    pub each : Each Filling m

  pub clear_final : {T : Type 0} (m : Run T) (u : State) → Fills m → IsValid u → Clear u → Clear (final m u)
  unfolding final
  clear_final m u h is k = clear_along (m.by_actions u) is (h.each.on u is) k

  -- ---- nodes go

  abbrev IsDropping : Action → Type 0
  IsDropping (action.Change (Remove n)) = Unit {0}
  IsDropping _ = ⊥

  abbrev Dropping : Action → State → Type 0
  Dropping a s = IsDropping a

  abbrev AmidPair : State → Pair → Type 0
  AmidPair u pair = AmidNoThing u x pair.anchor.label × AmidNoThing u x pair.focus.label

  -- no image and no rule stands between the container and an end of the selection
  pub record Amid (u : State) : Type 0 where
    pub points : IfSome u.points.selection (AmidPair u)

  amid_free : (u : State) (y : ℕ) → IsValid u → Free u.trees y → AmidNoThing u x y
  amid_free u y is free l inside off held = free l held (λ h. off (within_both u.trees l x is.forest.distinct h inside))

  pub clear_amid : (u : State) → IsValid u → Clear u → Amid u
  clear_amid u is k = record { points = by u.points.selection k.points }
    where
      by : (o : Option Pair) → IfSome o (FreePair u.trees) → IfSome o (AmidPair u)
      by None free = tt
      by (Some pair) free = (amid_free u pair.anchor.label is free.0, amid_free u pair.focus.label is free.1)

  module _ (n : ℕ) (u : State) (is : IsValid u) (may : is_made_edit (Remove n) u ≡ true) where
    gone : Removes u n
    unfolding is_made_edit
    gone = removes u n may

    trees_is : (edited (Remove n) u).trees ≡ unlink u.trees n
    unfolding trees_after
    trees_is = trees_made (Remove n) u may

    -- what held the label before
    amid_out : (y : ℕ) → AmidNoThing u x y → (z : ℕ) → ((l : ℕ) → IsWithin u.trees l z → IsWithin u.trees l y) → AmidNoThing (edited (Remove n) u) x z
    amid_out y amid z up l inside off held =
        let in_x : IsWithin u.trees x l = back-unlink u.trees gone.from n x l is.forest.distinct gone.child (subst (λ f. IsWithin f x l) trees_is inside) in
        let in_l : IsWithin u.trees l z = back-unlink u.trees gone.from n l z is.forest.distinct gone.child (subst (λ f. IsWithin f l z) trees_is held) in
        thing_same u.trees (edited (Remove n) u).trees l (ap (λ f. content_of f l) trees_is ∙ content_of-unlink u.trees gone.from n l is.forest.distinct gone.child) ∙ amid l in_x off (up l in_l)

    -- what holds the parent of a node holds what stands in it
    up_from : (y : ℕ) → IsWithin u.trees n y → (l : ℕ) → IsWithin u.trees l (parent_or_0 u.trees n) → IsWithin u.trees l y
    up_from y inside l held =
        let held_p : IsWithin u.trees l gone.from = subst (λ k. IsWithin u.trees l k) (parent_is u.trees gone.from n gone.child) held in
        let known : 0 < count_of u.trees l = top_known u.trees l gone.from held_p in
        within_trans u.trees l n y is.forest.distinct (within_child u.trees l is.forest.distinct known n gone.from gone.child held_p) inside

    amid_point : (y : Point) → AmidNoThing u x y.label → AmidNoThing (edited (Remove n) u) x (adjusted (range.Remove (preorder (tree_of u.trees n)) (parent_or_0 u.trees n) (index_of u.trees n)) y).label
    amid_point y amid = by (has_label (preorder (tree_of u.trees n)) y.label) (has_label-preorder (tree_of u.trees n) y.label) (eqb y.label (parent_or_0 u.trees n))
      where
        by : (v : Bool) → v ≡ nat_lt 0 (count_of (tree_of u.trees n) y.label) → (w : Bool)
            → AmidNoThing (edited (Remove n) u) x (if v then record { label = parent_or_0 u.trees n; offset = index_of u.trees n } else (if w then with_offset y (after_removal (index_of u.trees n) y.offset) else y)).label
        by true e w = amid_out y.label amid (parent_or_0 u.trees n) (up_from y.label (ltb-true 0 (count_of (tree_of u.trees n) y.label) (sym e)))
        by false e true = amid_out y.label amid y.label (λ l h. h)
        by false e false = amid_out y.label amid y.label (λ l h. h)

    amid_removed : Amid u → Amid (edited (Remove n) u)
    unfolding points_after
    amid_removed k = record { points = subst (λ q. IfSome q.selection (AmidPair (edited (Remove n) u))) (sym (points_made (Remove n) u may)) (by u.points.selection k.points) }
      where
        by : (o : Option Pair) → IfSome o (AmidPair u) → IfSome (option_map (adjusted_pair (range.Remove (preorder (tree_of u.trees n)) (parent_or_0 u.trees n) (index_of u.trees n))) o) (AmidPair (edited (Remove n) u))
        by None amid = tt
        by (Some pair) amid = (amid_point pair.anchor amid.0, amid_point pair.focus amid.1)

  amid_acted : (a : Action) (u : State) → IsValid u → IsDropping a → Amid u → Amid (acted a u)
  unfolding acted
  amid_acted (action.Change (Remove n)) u is drops k = elim (cases_Bool (is_made_edit (Remove n) u)) [
    | inr off ↦ subst Amid (sym (edit_left (Remove n) u off)) k
    | inl may ↦ amid_removed n u is may k
  ]
  amid_acted (action.Change (Insert p b n)) u is drops k = absurd drops
  amid_acted (action.Change (Move n p b)) u is drops k = absurd drops
  amid_acted (action.Change (Replace n at count put)) u is drops k = absurd drops
  amid_acted (action.Change (Set n name value)) u is drops k = absurd drops
  amid_acted (action.Change (Unset n name)) u is drops k = absurd drops
  amid_acted (action.MakeElement name attributes) u is drops k = absurd drops
  amid_acted (action.Grow at) u is drops k = absurd drops
  amid_acted (action.MakeWords chars) u is drops k = absurd drops
  amid_acted (action.Select anchor focus) u is drops k = absurd drops
  amid_acted (action.Extend focus) u is drops k = absurd drops
  amid_acted action.Unselect u is drops k = absurd drops
  amid_acted (action.Send node at tail) u is drops k = absurd drops
  amid_acted (action.Scratch pair) u is drops k = absurd drops
  amid_acted (action.Override command setting) u is drops k = absurd drops
  amid_acted (action.Flag flags) u is drops k = absurd drops
  amid_acted (action.Extract from end target) u is drops k = absurd drops

  amid_along : {u t : State} (r : Reaches u t) → IsValid u → EachOn Dropping r → Amid u → Amid t
  amid_along here is drops k = k
  amid_along (onward {t = t} r a) is drops k = amid_acted a t (valid_along r is) drops.1 (amid_along r is drops.0 k)

  pub record Drops {T : Type 0} (m : Run T) : Type 0 where
    pub each : Each Dropping m

  pub amid_final : {T : Type 0} (m : Run T) (u : State) → Drops m → IsValid u → Amid u → Amid (final m u)
  unfolding final
  amid_final m u h is k = amid_along (m.by_actions u) is (h.each.on u is) k

  -- ---- runs by their parts

  pub fills_answer : {A : Type 0} (a : A) → Fills (answer a)
  fills_answer a = record { each = each_answer Filling a }

  pub fills_bind : {A B : Type 0} (m : Run A) (k : A → Run B) → Fills m → ((a : A) → Fills (k a)) → Fills (m >>= k)
  fills_bind m k h g = record { each = each_bind Filling m k h.each (λ a. (g a).each) }

  pub fills_look : {A : Type 0} (k : State → Run A) → ((s : State) → Fills (k s)) → Fills (look k)
  fills_look k h = record { each = each_look Filling k (λ s _. (h s).each) }

  pub fills_if : {A : Type 0} (b : Bool) (m n : Run A) → Fills m → Fills n → Fills (if b then m else n)
  fills_if b m n h g = record { each = each_if Filling b m n h.each g.each }

  pub fills_given : {A B : Type 0} (o : Option A) (n : Run B) (f : A → Run B) → Fills n → ((a : A) → Fills (f a)) → Fills (given o n f)
  fills_given o n f h g = record { each = each_given Filling o n f h.each (λ a. (g a).each) }

  pub fills_each : {A : Type 0} (xs : List A) (f : A → Run (Unit {0})) → ((a : A) → Fills (f a)) → Fills (for_each xs f)
  fills_each xs f h = record { each = each_for_each Filling xs f (λ a. (h a).each) }

  pub fills_edit : (e : Edit) → IsFilling (action.Change e) → Fills (edit e)
  fills_edit e h = record { each = each_edit Filling e (λ s is. h) }

  pub fills_make : (name : List ℕ) (attributes : List Attribute) → Fills (make_element name attributes)
  fills_make name attributes = record { each = each_make_element Filling name attributes (λ s is. tt) }

  pub fills_grow : (at : Point) → Fills (grow at)
  fills_grow at = record { each = each_perform Filling (action.Grow at) (λ s is. tt) }

  ruleset fills_parts = (fills_answer, fills_bind, fills_look, fills_if, fills_given, fills_each, fills_edit, fills_make, fills_grow)

  fills_insert_before : (o n : ℕ) → Fills (insert_before o n)
  unfolding insert_before
  fills_insert_before o n = search fills_parts

  fills_break : Fills make_break
  unfolding make_break
  fills_break = fills_make _ _

  fills_move_first : (n : ℕ) → Fills (move_first x n)
  unfolding move_first
  fills_move_first n = fills_look _ (λ s. fills_bind _ _ (fills_edit _ refl) (λ _. fills_answer tt))

  fills_all_first : (list : List ℕ) → Fills (move_all_first list x)
  unfolding move_all_first
  fills_all_first list = fills_each _ _ (λ n. fills_move_first n)

  fills_each_last : (list : List ℕ) → Fills (move_each_last list x)
  unfolding move_each_last
  fills_each_last list = fills_each _ _ (λ n. fills_bind _ _ (fills_edit _ refl) (λ _. fills_answer tt))

  fills_append_break : (p : ℕ) → Fills (append_break p)
  unfolding append_break
  fills_append_break p = search (fills_parts, fills_break)

  fills_prepend_break : (p : ℕ) → Fills (prepend_break p)
  unfolding prepend_break
  fills_prepend_break p = search (fills_parts, fills_break)

  fills_separate : (p : ℕ) (before after : Option ℕ) → Fills (separate_with_br p before after)
  unfolding separate_with_br
  fills_separate p before after = search (fills_parts, fills_append_break)

  fills_append_all : (list : List ℕ) → Fills (append_all x list)
  unfolding append_all
  fills_append_all list = fills_look _ (λ s. fills_bind _ _ (fills_separate x _ _) (λ _. fills_each_last list))

  fills_parted_front : (list : List ℕ) → Fills (parted_front x list)
  unfolding parted_front
  fills_parted_front list = search (fills_parts, fills_prepend_break)

  fills_prepend_all : (list : List ℕ) → Fills (prepend_all x list)
  unfolding prepend_all
  fills_prepend_all list = fills_bind _ _ (fills_parted_front list) (λ _. fills_all_first list)

  pub fills_moved_in : (list : List ℕ) (a : ℕ) → Fills (moved_in x list a)
  unfolding moved_in
  fills_moved_in list a = search (fills_parts, fills_append_all, fills_prepend_all)

  fills_grow_at : (p : ℕ) → Fills (grow_at p)
  unfolding grow_at
  fills_grow_at p = search fills_parts

  pub fills_insert_if_loose : (p a : ℕ) → Fills (insert_if_loose p a)
  unfolding insert_if_loose
  fills_insert_if_loose p a = search (fills_parts, fills_insert_before, fills_grow_at)

  drops_answer : {A : Type 0} (a : A) → Drops (answer a)
  drops_answer a = record { each = each_answer Dropping a }

  drops_bind : {A B : Type 0} (m : Run A) (k : A → Run B) → Drops m → ((a : A) → Drops (k a)) → Drops (m >>= k)
  drops_bind m k h g = record { each = each_bind Dropping m k h.each (λ a. (g a).each) }

  drops_look : {A : Type 0} (k : State → Run A) → ((s : State) → Drops (k s)) → Drops (look k)
  drops_look k h = record { each = each_look Dropping k (λ s _. (h s).each) }

  drops_if : {A : Type 0} (b : Bool) (m n : Run A) → Drops m → Drops n → Drops (if b then m else n)
  drops_if b m n h g = record { each = each_if Dropping b m n h.each g.each }

  drops_given : {A B : Type 0} (o : Option A) (n : Run B) (f : A → Run B) → Drops n → ((a : A) → Drops (f a)) → Drops (given o n f)
  drops_given o n f h g = record { each = each_given Dropping o n f h.each (λ a. (g a).each) }

  drops_remove : (n : ℕ) → Drops (remove n)
  drops_remove n = record { each = each_edit Dropping (Remove n) (λ s is. tt) }

  ruleset drops_parts = (drops_answer, drops_bind, drops_look, drops_if, drops_given, drops_remove)

  drops_empty : (o : ℕ) → Drops (drop_empty o)
  unfolding drop_empty
  drops_empty o = search drops_parts

  pub drops_parent : (o : Option ℕ) → Drops (drop_parent o)
  unfolding drop_parent
  drops_parent o = search (drops_parts, drops_empty)

  drops_before : (n : ℕ) → Drops (breaks_before n)
  unfolding breaks_before
  drops_before n = search drops_parts

  drops_at_end : (n : ℕ) → Drops (breaks_at_end n)
  unfolding breaks_at_end
  drops_at_end n = search drops_parts

  pub drops_from : (n : ℕ) → Drops (breaks_from n)
  unfolding breaks_from
  drops_from n = search (drops_parts, drops_before, drops_at_end)

  -- no sibling meets a criterion that none meets
  drops_merge : (p : ℕ) → Drops (merge_next Never p)
  unfolding merge_next
  drops_merge p = drops_look _ (λ s. subst (λ o. Drops (given o done (merged p))) (sym (never_fits s (next_of s.trees p))) (drops_answer tt))

  -- ---- the container is filled

  pub amid_filled : (list : List ℕ) (a : ℕ) (u : State) → IsValid u → Clear u → Amid (final (filled Never x list a) u)
  unfolding filled filled_from
  amid_filled list a u is k =
      let u1 = final (insert_if_loose x a) u in
      let is1 = final_valid (insert_if_loose x a) u is in
      let k1 = clear_final (insert_if_loose x a) u (fills_insert_if_loose x a) is k in
      let o = parent_of u1.trees a in
      let u2 = final (moved_in x list a) u1 in
      let is2 = final_valid (moved_in x list a) u1 is1 in
      let k2 = clear_amid u2 is2 (clear_final (moved_in x list a) u1 (fills_moved_in list a) is1 k1) in
      let u3 = final (drop_parent o) u2 in
      let is3 = final_valid (drop_parent o) u2 is2 in
      let k3 = amid_final (drop_parent o) u2 (drops_parent o) is2 k2 in
      let u4 = final (merge_next Never x) u3 in
      let is4 = final_valid (merge_next Never x) u3 is3 in
      let k4 = amid_final (merge_next Never x) u3 (drops_merge x) is3 k3 in
      let k5 = amid_final (breaks_from x) u4 (drops_from x) is4 k4 in
      let run : final (filled Never x list a) u ≡ final (breaks_from x) u4 =
      rw (final-bind, final-look, final-bind, final-bind, final-bind, final-bind, final-answer) refl in
      subst Amid (sym run) k5

-- ---- the whole

-- what a wrap ends in, and the container that it answers
pub record Wrapped (name : List ℕ) (u : State) (x : ℕ) : Type 0 where
  pub plain : is_thing_at u.trees x ≡ false
  pub called : name_of u.trees x ≡ Some name
  pub amid : Amid x u

module _ (s : State) (is : IsValid s) (name : List ℕ) (bare : is_thing name ≡ false) (clear : Clear s.next s) where
  abbrev pub New : State
  New = made (element_content name []) s

  abbrev Answers : State → Option ℕ → Type 0
  Answers u o = (x : ℕ) → o ≡ Some x → Wrapped name u x

  pub is_new : IsValid New
  is_new = subst IsValid (final-make_element name [] s) (final_valid (make_element name []) s is)

  pub named_new : name_of New.trees s.next ≡ Some name
  unfolding made
  named_new = ap (option_and_then name_in) (content_of-with_leaf_new s.trees s.next (element_content name []) (fresh s.trees s.next is.forest))

  pub low_new : s.next < New.next
  unfolding made
  low_new = omega arith

  filled_answers : (list : List ℕ) (a : ℕ) → Ends (filled Never s.next list a) New Answers
  filled_answers list a x e =
      let m = filled Never s.next list a in
      let same : s.next ≡ x = (let k : Some s.next ≡ Some x = sym (value_filled s.next list a New) ∙ e in cc) in
      subst (λ y. Wrapped name (final m New) y) same (record {
        called = names_final m ∙ named_new;
        plain = ap (λ (o : Option (List ℕ)). option_map_or is_thing o false) (names_final m ∙ named_new) ∙ bare;
        amid = amid_filled s.next list a New is_new (clear_made s.next s (element_content name []) is clear);
      })
    where
      names_final : (m : Run (Option ℕ)) → name_of (final m New).trees s.next ≡ name_of New.trees s.next
      names_final m = names_run m New is_new s.next low_new

  pub target_is : (a z : ℕ) → final (target Never (Make (record { name = name; attributes = [] })) a z) s ≡ New
  unfolding target beside made_by blank_of made_of
  target_is a z =
      let before = never_fits s (prev_of s.trees a) in
      let after = never_fits s (next_of s.trees z) in
      rw (final-look, before, after, final-bind, final-make_element, final-answer) refl

  pub target_value : (a z : ℕ) → value (target Never (Make (record { name = name; attributes = [] })) a z) s ≡ Some s.next
  unfolding target beside made_by blank_of made_of
  target_value a z =
      let before = never_fits s (prev_of s.trees a) in
      let after = never_fits s (next_of s.trees z) in
      rw (value-look, before, after, value-bind, value-make_element, value-answer) refl

  abbrev pub Plain : Recipe
  Plain = Make (record { name = name; attributes = [] })

  ends_answers : (list : List ℕ) (a z : ℕ) → Ends (wrap_ends Never Plain list a z) s Answers
  unfolding wrap_ends into_target
  ends_answers list a z =
      ends_bind (target Never Plain a z) (into_target Never list a) s Answers
      (subst (λ o. Ends (into_target Never list a o) (final (target Never Plain a z) s) Answers) (sym (target_value a z))
      (subst (λ u. Ends (filled Never s.next list a) u Answers) (sym (target_is a z)) (filled_answers list a)))

  no_answer : Ends (answer None) s Answers
  no_answer = ends_answer None s Answers (λ x e. absurd (let k : None ≡ Some x = e in cc))

  given_answers : (o : Option ℕ) (f : ℕ → Run (Option ℕ)) → ((q : ℕ) → Ends (f q) s Answers) → Ends (given o (answer None) f) s Answers
  given_answers None f h = no_answer
  given_answers (Some q) f h = h q

  list_answers : (list : List ℕ) → Ends (wrap_list Never Plain list) s Answers
  unfolding wrap_list
  list_answers list = given_answers (first_in list) _ (λ a. given_answers (last_in list) _ (λ z. ends_answers list a z))

  members_answers : (list : List ℕ) → Ends (wrap_members Never Plain list) s Answers
  unfolding wrap_members
  members_answers list =
      ends_look _ s Answers (given_answers (first_in list) _ (λ a. given_answers (last_in list) _ (λ z. by (all_hidden s list) a z)))
    where
      by : (v : Bool) (a z : ℕ) → Ends (if v then answer None else wrap_list Never Plain (widened s list a z)) s Answers
      by true a z = no_answer
      by false a z = list_answers (widened s list a z)

  pub wrap_answers : (list : List ℕ) → Ends (wrap Never Plain list) s Answers
  unfolding wrap
  wrap_answers list = ends_look _ s Answers (given_answers (first_parent s list) _ (λ o. members_answers (members s o list)))
