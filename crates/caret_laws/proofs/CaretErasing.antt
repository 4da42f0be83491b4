-- Deleting the selection at a caret takes out and puts in blanks alone, and leaves a caret: the last equivalent point of the caret
-- doesn't come before its first one.
use Rattle.std.proofs.Common.{◌≡◌, ◌⊎◌, ℕ, ◌+◌, Bool, true, false, ◌||◌, ◌&&◌, eqb, if◌then◌else◌, List, [], Option, Some, None, is_none, IfSome, refl, sym, ap, subst, ◌∙◌, inl, inr, arith}
use Rattle.std.specs.Option.{option_map}
use Rattle.edit_model.specs.DomModel.declared.Content.{Content}
use Rattle.edit_model.specs.DomModel.Contents.{length_of, name_of}
use Rattle.edit_model.specs.DomModel.Editing.{is_host}
use Rattle.edit_model.specs.DomModel.declared.Content.TheVariants.{Words}
use Rattle.edit_model.specs.DomModel.Forest.{Forest, tree_of, parent_of, children_of, content_of, IsWithin}
use Rattle.edit_model.specs.DomModel.Places.{index_of}
use Rattle.edit_model.specs.LiveRange.ActiveRange.{range_changed}
use Rattle.edit_model.specs.LiveRange.declared.places.Pair.{Pair}
use Rattle.edit_model.specs.LiveRange.declared.places.Point.{Point}
use Rattle.edit_model.specs.PointOrder.PointOrder.{is_before}
use Rattle.inline_value.specs.NodeStyles.Blocks.{is_block}
use Rattle.inline_value.specs.NodeStyles.TurnBound as bound
use Rattle.inline_value.specs.NodeTests.BlockPoints.{child_before, child_at}
use Rattle.edit_model.specs.State.{State}
use Rattle.edit_model.specs.Action as action
use Rattle.edit_model.specs.Action.{selected, with_selection, acted}
use Rattle.edit_model.specs.Confined.{may_select, is_there}
use Rattle.edit_model.specs.Edit.{changed, overrides_after}
use Rattle.edit_model.specs.Kept.{Leaf}
use Rattle.edit_model.specs.Overrides.{no_overrides}
use Rattle.edit_model.specs.Run.{Run, ◌>>◌, final, value, answer, done, given, for_each, collapse}
use Rattle.edit_model.specs.Valid.{IsForest, IsValid, IsPlacedPair}
use Rattle.edit_model.proofs.Documents.{within_above, within_below}
use Rattle.edit_model.proofs.OutsideRuns.{trees-selected}
use Rattle.edit_model.proofs.Points.{placed_is}
use Rattle.edit_model.proofs.ValidRuns.{valid_acted}
use Rattle.inline_value.specs.EditActions.ActiveRange.{start_of, end_of}
use Rattle.inline_value.specs.EditQuery.Formattable.{first_formattable}
use Rattle.inline_value.specs.declared.overrides.Override.{Override}
use Rattle.inline_commands.specs.RestoringStates.{set_override, restore_entry, restore_states}
use Rattle.delete_core.specs.declared.deletion.Manner.{Manner}
use Rattle.delete_core.specs.Deletion.{delete_selected, delete_range, delete_between, delete_selection}
use Rattle.delete_core.specs.Ends.{end_for, collapse_selection, canonicalize_start, canonicalize_end, out_of_start, out_of_end}
use Rattle.delete_core.specs.Equivalent.{if_enterable, into_after, into_before, out_after, out_before, next_point, previous_point, last_equivalent, first_equivalent}
use Rattle.delete_core.specs.Places.{at, start_in, end_in, before_in, after_in, before_node, after_node, comes_before}
use Rattle.delete_core.specs.Whitespace.{canonicalize}
use Rattle.text_insertion.specs.Start.{erase}
use Rattle.caret_laws.specs.SolidOrder.{solid_leaves, StandsAt, HasRoom}
use Rattle.caret_laws.proofs.Blanks.{body_at, Edges, blanked_here, blanked_trans, caret_then}
use Rattle.caret_laws.proofs.Canonical.{Ends, ends_answer, ends_look, ends_bind, ends_perform, mapped_is, same_number, child_apart, walk_keeps, Settled, canonical}
use Rattle.caret_laws.proofs.Fronts.{TextAt, Front}
use Rattle.caret_laws.proofs.Trails.{own_index, index_is, not_back, Step, into, out, Trail, on, trail_here, trail_step, trail_trans}

-- ---- equivalent points

split_if : {A : Type 0} (v : Bool) (o p : Option A) (x : A) → (if v then o else p) ≡ Some x → ((v ≡ true) × (o ≡ Some x)) ⊎ (p ≡ Some x)
split_if true o p x e = inl (refl, e)
split_if false o p x e = inr e

otherwise : {A : Type 0} (v : Bool) (o : Option A) (x : A) → (if v then None else o) ≡ Some x → o ≡ Some x
otherwise true o x e = absurd (let t : None ≡ Some x = e in cc)
otherwise false o x e = e

enterable_is : (f : Forest Content) (o : Option ℕ) (k : ℕ) → if_enterable f o ≡ Some k → o ≡ Some k
enterable_is f None k e = e
enterable_is f (Some l) k e = otherwise (is_block f l || eqb (length_of f l) 0) (Some l) k e

next_step : (f : Forest Content) (x y : Point) → next_point f x ≡ Some y → Step f x y
unfolding next_point out_after after_node into_after
next_step f x y e =
    let some = otherwise (eqb (length_of f x.label) 0) (if eqb x.offset (length_of f x.label) then (if is_block f x.label then None else after_in f x.label (parent_of f x.label)) else option_map start_in (if_enterable f (child_at f x.label x.offset))) y e in
    elim (split_if (eqb x.offset (length_of f x.label)) (if is_block f x.label then None else after_in f x.label (parent_of f x.label)) (option_map start_in (if_enterable f (child_at f x.label x.offset))) y some) [
      | inl (end, h) ↦ (
          let m = mapped_is (λ p. at p (index_of f x.label + 1)) (parent_of f x.label) y (otherwise (is_block f x.label) (after_in f x.label (parent_of f x.label)) y h) in
          out (record { parent = m.0; child = m.1; end = same_number x.offset (length_of f x.label) end; there = m.2 }))
      | inr h ↦ (
          let m = mapped_is start_in (if_enterable f (child_at f x.label x.offset)) y h in
          into (record { child = m.0; stands = enterable_is f (child_at f x.label x.offset) m.0 m.1; there = m.2 }))
    ]

module _ (f : Forest Content) (next : ℕ) (law : IsForest f next) where
  record Back (x y : Point) : Type 0 where
    step : Step f y x
    inside : IsWithin f 0 x.label → IsWithin f 0 y.label

  previous_step : (x y : Point) → previous_point f x ≡ Some y → Back x y
  unfolding previous_point out_before before_node into_before
  previous_step x y e =
      let some = otherwise (eqb (length_of f x.label) 0) (if eqb x.offset 0 then (if is_block f x.label then None else before_in f x.label (parent_of f x.label)) else option_map (end_in f) (if_enterable f (child_before f x.label x.offset))) y e in
      elim (split_if (eqb x.offset 0) (if is_block f x.label then None else before_in f x.label (parent_of f x.label)) (option_map (end_in f) (if_enterable f (child_before f x.label x.offset))) y some) [
        | inl (start, h) ↦ (
            let m = mapped_is (λ p. at p (index_of f x.label)) (parent_of f x.label) y (otherwise (is_block f x.label) (before_in f x.label (parent_of f x.label)) y h) in
            record {
              step = subst (λ v. Step f v x) (sym m.2) (into (record { child = x.label; stands = own_index f law.distinct x.label m.0 m.1; there = ap (at x.label) (same_number x.offset 0 start) }));
              inside = λ here. subst (λ v. IsWithin f 0 v.label) (sym m.2) (within_above f next law m.0 x.label m.1 here);
            })
        | inr h ↦ (
            let m = mapped_is (end_in f) (if_enterable f (child_before f x.label x.offset)) y h in
            let c = child_apart f next law x.label x.offset m.0 (enterable_is f (child_before f x.label x.offset) m.0 m.1) in
            let i = index_is f law.distinct x.label m.0 c.0 c.2 in
            record {
              step = subst (λ v. Step f v x) (sym m.2) (out (record { parent = x.label; child = i.0; end = refl; there = ap (at x.label) (c.1 ∙ ap (λ n. n + 1) (sym i.1)) }));
              inside = λ here. subst (λ v. IsWithin f 0 v.label) (sym m.2) (within_below f next law x.label m.0 i.0 here);
            })
      ]

  pub to_last : (x : Point) → Trail f x (last_equivalent f x)
  unfolding last_equivalent
  to_last x = walk_keeps (λ y. Trail f x y) (next_point f) (λ y z p e. on y p (next_step f y z e)) (bound.turn_bound f) x (trail_here f x)

  pub from_first : (x : Point) → IsWithin f 0 x.label → Trail f (first_equivalent f x) x × IsWithin f 0 (first_equivalent f x).label
  unfolding first_equivalent
  from_first x here =
      walk_keeps (λ y. Trail f y x × IsWithin f 0 y.label) (previous_point f)
      (λ y z p e. (let b = previous_step y z e in (trail_trans f z y x (trail_step f z y b.step) p.0, b.inside p.1)))
      (bound.turn_bound f) x (trail_here f x, here)

  pub last_not_first : (x : Point) → IsWithin f 0 x.label → comes_before f (last_equivalent f x) (first_equivalent f x) ≡ false
  unfolding comes_before
  last_not_first x here =
      let first = from_first x here in
      let off = not_back f next law (first_equivalent f x) (last_equivalent f x) (trail_trans f (first_equivalent f x) x (last_equivalent f x) first.0 (to_last x)) first.1 in
      rw off (both_false (is_there f (last_equivalent f x).label) (is_there f (first_equivalent f x).label))
    where
      both_false : (a b : Bool) → (a && (b && false)) ≡ false
      both_false true true = refl
      both_false true false = refl
      both_false false b = refl

-- ---- a caret

pub caret_start : (f : Forest Content) (q : Point) → start_of f (record { anchor = q; focus = q }) ≡ q
caret_start f q = by (is_before f q q)
  where
    by : (v : Bool) → (if v then q else q) ≡ q
    by true = refl
    by false = refl

pub caret_end : (f : Forest Content) (q : Point) → end_of f (record { anchor = q; focus = q }) ≡ q
caret_end f q = by (is_before f q q)
  where
    by : (v : Bool) → (if v then q else q) ≡ q
    by true = refl
    by false = refl

pub caret_inside : (u : State) (q : Point) → IsValid u → StandsAt u q → IsWithin u.trees 0 q.label
caret_inside u q is caret =
    let placed : IfSome (Some (record { anchor = q; focus = q })) (IsPlacedPair u.trees) = subst (λ o. IfSome o (IsPlacedPair u.trees)) caret is.placed.selection in
    (placed_is u.trees q placed.anchor).inside

module _ {T : Type 0} (u : State) (q : Point) (caret : StandsAt u q) (none : Run T) (k : Pair → Run T) (P : State → T → Type 0) where
  pub ends_caret : Ends (k (record { anchor = q; focus = q })) u P → Ends (given u.points.selection none k) u P
  ends_caret h = subst (λ o. Ends (given o none k) u P) (sym caret) h

-- the ends of the active range stand in the document
pub ends_inside : (u : State) (pair : Pair) → IsValid u → u.points.selection ≡ Some pair → IsWithin u.trees 0 (start_of u.trees pair).label × IsWithin u.trees 0 (end_of u.trees pair).label
ends_inside u pair is e =
    let placed : IsPlacedPair u.trees pair = subst (λ o. IfSome o (IsPlacedPair u.trees)) e is.placed.selection in
    let a = (placed_is u.trees pair.anchor placed.anchor).inside in
    let b = (placed_is u.trees pair.focus placed.focus).inside in
    by (is_before u.trees pair.focus pair.anchor) a b
  where
    by : (v : Bool) → IsWithin u.trees 0 pair.anchor.label → IsWithin u.trees 0 pair.focus.label → IsWithin u.trees 0 (if v then pair.focus else pair.anchor).label × IsWithin u.trees 0 (if v then pair.anchor else pair.focus).label
    by true a b = (b, a)
    by false a b = (a, b)

pub settled_start : (fix : Bool) (u : State) → IsValid u → HasRoom u → Ends (canonicalize_start fix) u (λ s _. Settled u s)
unfolding canonicalize_start
settled_start fix u is room =
    ends_look (λ s. given s.points.selection done λ pair. canonicalize fix (start_of s.trees pair)) u (λ s _. Settled u s) (by u.points.selection refl)
  where
    by : (o : Option Pair) → u.points.selection ≡ o → Ends (given o done λ pair. canonicalize fix (start_of u.trees pair)) u (λ s _. Settled u s)
    by None e = ends_answer tt u (λ s _. Settled u s) (record { blanked = blanked_here u is; room = room })
    by (Some pair) e = canonical fix (start_of u.trees pair) u is room (ends_inside u pair is e).0

pub settled_end : (fix : Bool) (u : State) → IsValid u → HasRoom u → Ends (canonicalize_end fix) u (λ s _. Settled u s)
unfolding canonicalize_end
settled_end fix u is room =
    ends_look (λ s. given s.points.selection done λ pair. canonicalize fix (end_of s.trees pair)) u (λ s _. Settled u s) (by u.points.selection refl)
  where
    by : (o : Option Pair) → u.points.selection ≡ o → Ends (given o done λ pair. canonicalize fix (end_of u.trees pair)) u (λ s _. Settled u s)
    by None e = ends_answer tt u (λ s _. Settled u s) (record { blanked = blanked_here u is; room = room })
    by (Some pair) e = canonical fix (end_of u.trees pair) u is room (ends_inside u pair is e).1

-- ---- collapsing to the caret

same_selected : (q : Point) (u : State) → StandsAt u q → StandsAt (selected q q u) q
unfolding selected changed
same_selected q u caret = by (may_select u q && may_select u q)
  where
    by : (v : Bool) → StandsAt (if v then with_selection (Some (record { anchor = q; focus = q })) u else u) q
    by true = refl
    by false = caret

pub settings_selected : (a z : Point) (u : State) → ((selected a z u).overrides ≡ u.overrides) ⊎ ((selected a z u).overrides ≡ no_overrides)
unfolding selected changed overrides_after
settings_selected a z u = by (may_select u a && may_select u z)
  where
    either : (v : Bool) → ((if v then no_overrides else u.overrides) ≡ u.overrides) ⊎ ((if v then no_overrides else u.overrides) ≡ no_overrides)
    either true = inr refl
    either false = inl refl

    by : (v : Bool) → ((if v then with_selection (Some (record { anchor = a; focus = z })) u else u).overrides ≡ u.overrides) ⊎ ((if v then with_selection (Some (record { anchor = a; focus = z })) u else u).overrides ≡ no_overrides)
    by true = either (range_changed (is_before u.trees) (is_before u.trees) u.points.selection (Some (record { anchor = a; focus = z })))
    by false = inl refl

-- where the trees stay, so does what stands before a place
pub front_trees : (s t : State) (p : Point) (F B : List Leaf) → t.trees ≡ s.trees → Front s p F B → Front t p F B
front_trees s t p F B same k = record {
  chars = k.chars;
  content = ap (λ f. content_of f p.label) same ∙ k.content;
  pre = k.pre;
  post = k.post;
  stands = subst (λ f. TextAt (tree_of f 0) p.label k.pre k.chars k.post) (sym same) k.stands;
  low = k.low;
  before = k.before;
  after = k.after;
}

-- where the trees stay, a point that stays is where it was
edges_trees : (s t : State) (a q : Point) → t.trees ≡ s.trees → q ≡ a → Edges s t a q
edges_trees s t a q same at_a = record {
  start = λ e. ap (λ (x : Point). x.offset) at_a ∙ e;
  end = λ e. ap (λ (x : Point). x.offset) at_a ∙ (e ∙ (ap (λ f. length_of f a.label) (sym same) ∙ ap (λ (x : Point). length_of t.trees x.label) (sym at_a)));
  rest = λ none. at_a;
  text = λ chars e. (chars, ap (λ f. content_of f a.label) (sym same) ∙ (ap (λ (x : Point). content_of t.trees x.label) (sym at_a) ∙ e));
}

abbrev Pair_same : Point → Point → Point → Type 0
Pair_same q a b = (q ≡ a) × (q ≡ b)

pair_same : (q a b : Point) (x y : Pair) → x ≡ record { anchor = q; focus = q } → y ≡ record { anchor = a; focus = b } → Some x ≡ Some y → Pair_same q a b
pair_same q a b x y left right e =
    let same : x ≡ y = (let t = e in cc) in
    (ap (λ (p : Pair). p.anchor) (sym left ∙ (same ∙ right)), ap (λ (p : Pair). p.focus) (sym left ∙ (same ∙ right)))

pub settled_select : (q : Point) (u : State) → IsValid u → HasRoom u → StandsAt u q → Settled u (selected q q u)
unfolding acted
settled_select q u is room caret =
    let same : (selected q q u).trees ≡ u.trees = trees-selected q q u in
    record {
      blanked = record {
        valid = valid_acted (action.Select q q) u is;
        order = ap (λ g. solid_leaves (tree_of g 0)) same;
        moved = λ a b e. (
            let pair_is = pair_same q a b (record { anchor = q; focus = q }) (record { anchor = a; focus = b }) refl refl (sym caret ∙ e) in
            record {
              anchor = q;
              focus = q;
              selects = same_selected q u caret;
              at_anchor = ap (λ x. x.label) pair_is.0;
              at_focus = ap (λ x. x.label) pair_is.1;
              together = λ _. refl;
              anchor_front = λ F B k. front_trees u (selected q q u) q F B same (subst (λ x. Front u x F B) (sym pair_is.0) k);
              focus_front = λ F B k. front_trees u (selected q q u) q F B same (subst (λ x. Front u x F B) (sym pair_is.1) k);
              ordered = λ _ _. omega arith;
              anchor_edges = edges_trees u (selected q q u) a q same pair_is.0;
              focus_edges = edges_trees u (selected q q u) b q same pair_is.1;
            });
        inside = λ l h. subst (λ g. IsWithin g 0 l) (sym same) h;
        hosts = λ l. ap (λ g. is_host g l) same;
        children = λ l. ap (λ g. children_of g l) same;
        parents = λ l. ap (λ g. parent_of g l) same;
        texts = λ l xs e. (xs, ap (λ g. content_of g l) same ∙ e, refl);
        names = λ l. ap (λ g. name_of g l) same;
        bodies = λ l. ap (λ g. body_at g l) same;
        longer = λ l xs e. (xs, subst (λ g. content_of g l ≡ Some (Words xs)) same e, omega arith);
        others = λ l none. ap (λ g. content_of g l) same;
        settings = settings_selected q q u;
      };
      room = λ l chars e. room l chars (subst (λ g. content_of g l ≡ Some (Words chars)) same e);
    }

settled_collapse : (backward : Bool) (q : Point) (u : State) → IsValid u → HasRoom u → StandsAt u q → Ends (collapse_selection backward) u (λ s _. Settled u s)
unfolding collapse_selection acted
settled_collapse backward q u is room caret =
    ends_look (λ s. given s.points.selection done λ pair. collapse (end_for backward s.trees pair)) u (λ s _. Settled u s)
    (ends_caret u q caret done (λ pair. collapse (end_for backward u.trees pair)) (λ s _. Settled u s)
    (subst (λ x. Ends (collapse x) u (λ s _. Settled u s)) (sym (end_is backward)) to_q))
  where
    end_is : (v : Bool) → end_for v u.trees (record { anchor = q; focus = q }) ≡ q
    end_is true = caret_end u.trees q
    end_is false = caret_start u.trees q

    to_q : Ends (collapse q) u (λ s _. Settled u s)
    to_q = ends_perform (action.Select q q) u (λ s _. Settled u s) (settled_select q u is room caret)

-- ---- deleting

pub settled_trans : (s t u : State) → Settled s t → Settled t u → Settled s u
settled_trans s t u p q = record { blanked = blanked_trans s t u p.blanked q.blanked; room = q.room }

-- an empty record restores nothing
pub nothing_restored : (u : State) (P : State → Unit {0} → Type 0) → P u tt → Ends (restore_states []) u P
unfolding restore_states for_each
nothing_restored u P k = ends_look (λ s. if is_none (first_formattable s s.host) then for_each [] set_override else for_each [] restore_entry) u P (by (is_none (first_formattable u u.host)))
  where
    by : (v : Bool) → Ends (if v then for_each [] set_override else for_each [] restore_entry) u P
    by true = ends_answer tt u P k
    by false = ends_answer tt u P k

-- collapsing leaves the trees
pub collapse_trees : (backward : Bool) (u : State) → (final (collapse_selection backward) u).trees ≡ u.trees
unfolding collapse_selection acted
collapse_trees backward u =
    ends_look (λ s. given s.points.selection done λ pair. collapse (end_for backward s.trees pair)) u (λ s _. s.trees ≡ u.trees) (by u.points.selection)
  where
    by : (o : Option Pair) → Ends (given o done λ pair. collapse (end_for backward u.trees pair)) u (λ s _. s.trees ≡ u.trees)
    by None = ends_answer tt u (λ s _. s.trees ≡ u.trees) refl
    by (Some pair) = (let q = end_for backward u.trees pair in ends_perform (action.Select q q) u (λ s _. s.trees ≡ u.trees) (trees-selected q q u))

module _ (m : Manner) where
  -- and nothing is recorded
  abbrev Nothing : State → State → List Override → Type 0
  Nothing u s list = Settled u s × (list ≡ [])

  range_at : (q : Point) (u : State) → IsValid u → HasRoom u → StandsAt u q → Ends (delete_range m (last_equivalent u.trees q) (first_equivalent u.trees q)) u (Nothing u)
  unfolding delete_range
  range_at q u is room caret =
      let a = last_equivalent u.trees q in
      let b = first_equivalent u.trees q in
      ends_look (λ s. if comes_before s.trees a b then delete_selected m (out_of_start s.trees a) (out_of_end s.trees b) else (collapse_selection m.backward >> answer [])) u (Nothing u)
      (subst (λ v. Ends (if v then delete_selected m (out_of_start u.trees a) (out_of_end u.trees b) else (collapse_selection m.backward >> answer [])) u (Nothing u)) (sym (last_not_first u.trees u.next is.forest q (caret_inside u q is caret)))
      (ends_bind (collapse_selection m.backward) (λ _. answer []) u (Nothing u)
      (ends_answer [] (final (collapse_selection m.backward) u) (Nothing u) (settled_collapse m.backward q u is room caret, refl))))

  between : (q : Point) (u : State) → IsValid u → HasRoom u → StandsAt u q → Ends (delete_between m) u (Nothing u)
  unfolding delete_between
  between q u is room caret =
      let pair : Pair = record { anchor = q; focus = q } in
      ends_look (λ s. given s.points.selection (answer []) λ pair. delete_range m (last_equivalent s.trees (start_of s.trees pair)) (first_equivalent s.trees (end_of s.trees pair))) u (Nothing u)
      (ends_caret u q caret (answer []) (λ pair. delete_range m (last_equivalent u.trees (start_of u.trees pair)) (first_equivalent u.trees (end_of u.trees pair))) (Nothing u)
      (subst (λ x. Ends (delete_range m (last_equivalent u.trees x) (first_equivalent u.trees (end_of u.trees pair))) u (Nothing u)) (sym (caret_start u.trees q))
      (subst (λ x. Ends (delete_range m (last_equivalent u.trees q) (first_equivalent u.trees x)) u (Nothing u)) (sym (caret_end u.trees q)) (range_at q u is room caret))))

  deleted : (q : Point) (u : State) → IsValid u → HasRoom u → StandsAt u q → Ends (delete_selection m) u (Nothing u)
  unfolding delete_selection
  deleted q u is room caret =
      let t1 = final (canonicalize_start true) u in
      let one : Settled u t1 = settled_start true u is room in
      let t2 = final (canonicalize_end true) t1 in
      let two : Settled t1 t2 = settled_end true t1 one.blanked.valid one.room in
      let both = settled_trans u t1 t2 one two in
      let at_caret = caret_then u t2 q both.blanked caret in
      let three = between at_caret.place t2 both.blanked.valid both.room at_caret.caret in
      let t3 = final (delete_between m) t2 in
      ends_bind (canonicalize_start true) _ u (Nothing u)
      (ends_bind (canonicalize_end true) _ t1 (Nothing u)
      (settled_trans u t2 t3 both three.0, three.1))

  pub erased : (q : Point) (u : State) → IsValid u → HasRoom u → StandsAt u q → Settled u (final (erase m) u)
  unfolding erase
  erased q u is room caret =
      let t = final (delete_selection m) u in
      let k = deleted q u is room caret in
      let here : Settled t t = record { blanked = blanked_here t k.0.blanked.valid; room = k.0.room } in
      let more : Ends (restore_states (value (delete_selection m) u)) t (λ s _. Settled t s) = subst (λ list. Ends (restore_states list) t (λ s _. Settled t s)) (sym k.1) (nothing_restored t (λ s _. Settled t s) here) in
      ends_bind (delete_selection m) restore_states u (λ s _. Settled u s)
      (settled_trans u t (final (restore_states (value (delete_selection m) u)) t) k.0 more)
