-- Where insertParagraph extracts a tail, it may be extracted, or the point stands outside the node whose tail it would begin.
use Rattle.std.proofs.Common.{◌≡◌, ◌≢◌, ℕ, zero, suc, ◌+◌, ◌<◌, Bool, true, false, ◌&&◌, not, if◌then◌else◌, cond, eqb, List, Option, Some, None, refl, sym, ap, subst, ◌∙◌, inl, inr, arith, true≢false}
use Rattle.std.specs.Option.{option_map, option_map_or, option_and_then}
use Rattle.std.proofs.lemmas.Bool.{cases_Bool, eq-eqb, ne_eqb, lt-ltb, le-ltb, le-leb}
use Rattle.edit_model.specs.DomModel.declared.Content.{Content}
use Rattle.edit_model.specs.DomModel.declared.attributes.Attribute.{Attribute}
use Rattle.edit_model.specs.DomModel.Contents.{is_parent_at, may_have_children, length_of}
use Rattle.edit_model.specs.DomModel.Editing.{editing_host, is_editable}
use Rattle.edit_model.specs.DomModel.Forest.{Forest, Seen, is_label, count_of, tree_of, parent_of, next_of, link, IsWithin, CanPut}
use Rattle.edit_model.specs.DomModel.Places.{index_of}
use Rattle.edit_model.proofs.DomModel.Kept.{content_of-link, content_of-with_leaf_new, content_of-with_leaf_other}
use Rattle.edit_model.proofs.DomModel.Links.{parent_count, parent_of-with_leaf, total-with_leaf, seek-with_leaf_new, tree_of_absent}
use Rattle.edit_model.proofs.DomModel.Move.{parent_apart}
use Rattle.edit_model.proofs.DomModel.Neighbours.{parent_of-next}
use Rattle.edit_model.proofs.DomModel.Hosts.{editing_host-root}
use Rattle.edit_model.proofs.DomModel.Totals.{total-without}
use Rattle.edit_model.proofs.DomModel.Within.{within_self, within_up}
use Rattle.edit_model.specs.LiveRange.declared.places.Point.{Point}
use Rattle.edit_model.specs.PointOrder.PointOrder.{is_within}
use Rattle.edit_model.specs.State.{State}
use Rattle.edit_model.specs.Confined.{is_editable_for, is_made, is_open, is_place, may_insert}
use Rattle.edit_model.specs.Edit.{Insert, is_made_edit, trees_after, edited}
use Rattle.edit_model.specs.Action as action
use Rattle.edit_model.specs.Action.{made, element_content, acted, may_extract}
use Rattle.edit_model.specs.Laws.{LeavesStates}
use Rattle.edit_model.specs.Moves.{insert_after}
use Rattle.edit_model.specs.Run.{onward, final}
use Rattle.edit_model.specs.Valid.{IsForest, IsValid}
use Rattle.edit_model.proofs.Documents.{within-link, within-with_leaf, within_above, has_children}
use Rattle.edit_model.proofs.Forests.{fresh}
use Rattle.edit_model.proofs.Hollow.{editable_below}
use Rattle.edit_model.proofs.IslandRuns.{trees_made, trees_left}
use Rattle.edit_model.proofs.Islands.{link_elsewhere}
use Rattle.edit_model.proofs.Steps.{final-bind, final-look, final-answer, final-edit}
use Rattle.edit_model.proofs.TailForests.{away-link, away-with_leaf, holds-link}
use Rattle.edit_model.proofs.TailPossible.{both}
use Rattle.edit_model.proofs.Tests.{inserts, label_is}
use Rattle.edit_model.proofs.Trees.{none_or_some, within_trans, tree_of-with_leaf_other}
use Rattle.edit_laws.proofs.Hosts.{parent_inside}
use Rattle.delete_core.specs.Places.{before_node, after_node, led_on, walk_points}
use Rattle.inline_value.specs.WrapSplit.Walks.{turn_bound}
use Rattle.text_insertion.specs.Halves.{leave_start, leave_end, outer_start, outer_end, parting_point}
use Rattle.inline_value.specs.Ancestors.{is_prohibited}
use Rattle.caret_laws.proofs.InsideRuns.{Began, Underway, Near, open_near, near_editable, valid_way, host_way, start_way, keeping_way}
use Rattle.caret_laws.proofs.Trees.{inside_open, editable_open}

-- ---- the point at which a container is parted stands at a node around the one that it's sought from

module _ (f : Forest Content) (next : ℕ) (is : IsForest f next) (x : ℕ) where
  -- a node of the document that can have children and is x or above it
  pub record Around (l : ℕ) : Type 0 where
    pub inside : IsWithin f 0 l
    pub holds : IsWithin f l x
    pub parent : is_parent_at f l ≡ true

  around_up : (l p : ℕ) → parent_of f l ≡ Some p → Around l → Around p
  around_up l p child a = record {
    inside = within_above f next is p l child a.inside;
    holds = within_up f is.distinct l p x child a.holds;
    parent = has_children f next is p l child;
  }

  at_parent : (l : ℕ) (at : ℕ → Point) → ((p : ℕ) → (at p).label ≡ p) → (q : Point) → option_map at (parent_of f l) ≡ Some q → Around l → Around q.label
  at_parent l at same q e a = by (parent_of f l) refl e
    where
      by : (o : Option ℕ) → parent_of f l ≡ o → option_map at o ≡ Some q → Around q.label
      by None up e = absurd (let t : None ≡ Some q = e in cc)
      by (Some p) up e =
          let here : at p ≡ q = (let t = e in cc) in
          subst (λ k. Around k) (sym (same p) ∙ ap (λ (y : Point). y.label) here) (around_up l p up a)

  around_before : (l : ℕ) (q : Point) → before_node f l ≡ Some q → Around l → Around q.label
  unfolding before_node
  around_before l q e a = at_parent l (λ p. record { label = p; offset = index_of f l }) (λ p. refl) q e a

  around_after : (l : ℕ) (q : Point) → after_node f l ≡ Some q → Around l → Around q.label
  unfolding after_node
  around_after l q e a = at_parent l (λ p. record { label = p; offset = index_of f l + 1 }) (λ p. refl) q e a

  walk_around : (step : Point → Option Point) → ((p q : Point) → step p ≡ Some q → Around p.label → Around q.label) → (n : ℕ) (p : Point) → Around p.label → Around (walk_points step n p).label
  unfolding walk_points
  walk_around step on zero p a = a
  walk_around step on (suc n) p a = by (λ q e. walk_around step on n q (on p q e a)) (step p) refl
    where
      by : ((q : Point) → step p ≡ Some q → Around (walk_points step n q).label) → (o : Option Point) → step p ≡ o → Around (led_on o p (walk_points step n)).label
      by onward_from None e = a
      by onward_from (Some q) e = onward_from q e

if_some : (v : Bool) (o : Option Point) (q : Point) → (if v then o else None) ≡ Some q → o ≡ Some q
if_some true o q e = e
if_some false o q e = absurd (let t : None ≡ Some q = e in cc)

module _ (s : State) (is : IsValid s) (x : ℕ) where
  abbrev Near_x : ℕ → Type 0
  Near_x l = Around s.trees s.next is.forest x l

  start_around : (p q : Point) → leave_start s p ≡ Some q → Near_x p.label → Near_x q.label
  unfolding leave_start
  start_around p q e a = around_before s.trees s.next is.forest x p.label q (if_some ((eqb p.offset 0) && not (is_prohibited s p.label)) (before_node s.trees p.label) q e) a

  end_around : (p q : Point) → leave_end s p ≡ Some q → Near_x p.label → Near_x q.label
  unfolding leave_end
  end_around p q e a = around_after s.trees s.next is.forest x p.label q (if_some ((eqb p.offset (length_of s.trees p.label)) && not (is_prohibited s p.label)) (after_node s.trees p.label) q e) a

  pub parting_around : (p : Point) → Near_x p.label → Near_x (parting_point s p).label
  unfolding parting_point outer_start outer_end
  parting_around p a =
      walk_around s.trees s.next is.forest x (leave_end s) end_around (turn_bound s) (walk_points (leave_start s) (turn_bound s) p)
      (walk_around s.trees s.next is.forest x (leave_start s) start_around (turn_bound s) p a)

-- ---- a new node is put after c

-- the insertion is made or left out, or there is no parent
pub after_is : (c d : ℕ) (v : State) (o : Option ℕ) → parent_of v.trees c ≡ o → final (insert_after c d) v ≡ option_map_or (λ p. edited (Insert p (next_of v.trees c) d) v) o v
unfolding insert_after
after_is c d v None e = rw (final-look, e, final-answer) refl
after_is c d v (Some p) e = rw (final-look, e, final-bind, final-edit, final-answer) refl

module _ (t : State) (is : IsValid t) (content : Content) where
  new : count_of t.trees t.next ≡ 0
  new = fresh t.trees t.next is.forest

  -- what isn't within c isn't so afterwards
  made_apart : (y l : ℕ) → t.next ≢ l → count_of (tree_of t.trees y) l ≡ 0 → count_of (tree_of (made content t).trees y) l ≡ 0
  unfolding made
  made_apart y l off none = away-with_leaf t.trees t.next content y l (ne_eqb t.next l off) none

  leaf_apart : (l : ℕ) → t.next ≢ l → count_of (tree_of (made content t).trees t.next) l ≡ 0
  leaf_apart l off = made_apart t.next l off (rw (tree_of_absent t.trees t.next new) refl)

  linked_apart : (c l p : ℕ) → t.next ≢ l → IsValid (made content t) → count_of (tree_of (made content t).trees c) l ≡ 0 → is_made_edit (Insert p (next_of (made content t).trees c) t.next) (made content t) ≡ true
      → count_of (tree_of (trees_after (Insert p (next_of (made content t).trees c) t.next) (made content t).trees) c) l ≡ 0
  unfolding is_made_edit trees_after
  linked_apart c l p off is_v before may =
      let x = inserts (made content t) p (next_of (made content t).trees c) t.next may in
      away-link (made content t).trees p (next_of (made content t).trees c) t.next c l is_v.forest.distinct (leaf_apart l off) before

  pub put_apart : (c l : ℕ) → t.next ≢ l → count_of (tree_of t.trees c) l ≡ 0 → IsValid (made content t) → count_of (tree_of (final (insert_after c t.next) (made content t)).trees c) l ≡ 0
  put_apart c l off none is_v = by (parent_of (made content t).trees c) refl
    where
      before : count_of (tree_of (made content t).trees c) l ≡ 0
      before = made_apart c l off none

      by : (o : Option ℕ) → parent_of (made content t).trees c ≡ o → count_of (tree_of (final (insert_after c t.next) (made content t)).trees c) l ≡ 0
      by None e = subst (λ w. count_of (tree_of w.trees c) l ≡ 0) (sym (after_is c t.next (made content t) None e)) before
      by (Some p) e = subst (λ w. count_of (tree_of w.trees c) l ≡ 0) (sym (after_is c t.next (made content t) (Some p) e)) (elim (cases_Bool (is_made_edit (Insert p (next_of (made content t).trees c) t.next) (made content t))) [
        | inl may ↦ subst (λ f. count_of (tree_of f c) l ≡ 0) (sym (trees_made (Insert p (next_of (made content t).trees c) t.next) (made content t) may)) (linked_apart c l p off is_v before may)
        | inr left ↦ subst (λ f. count_of (tree_of f c) l ≡ 0) (sym (trees_left (Insert p (next_of (made content t).trees c) t.next) (made content t) left)) before
      ])

module _ (s : State) (h : ℕ) (b : Began s h) (t : State) (way : Underway s h false t) (name : List ℕ) (attributes : List Attribute) (leaves : LeavesStates (action.MakeElement name attributes)) (c : ℕ) (editable : is_editable_for t c ≡ true) (inside : IsWithin t.trees 0 c) where
  is_t : IsValid t
  is_t = valid_way s h false b t way

  way_v : Underway s h false (made (element_content name attributes) t)
  unfolding acted
  way_v = record { way = onward way.way (action.MakeElement name attributes); leaves = (way.leaves, leaves) }

  is_v : IsValid (made (element_content name attributes) t)
  is_v = valid_way s h false b (made (element_content name attributes) t) way_v

  c_known : 0 < count_of t.trees c
  c_known = omega (arith, inside, total-without (λ m _. cond (eqb m c) 1 0) t.trees 0)

  -- a node that is there is not the new one
  off_old : (l : ℕ) → 0 < count_of t.trees l → t.next ≢ l
  off_old l some e = let low = is_t.forest.below l some in omega (arith, low, e)

  new_t : count_of t.trees t.next ≡ 0
  new_t = fresh t.trees t.next is_t.forest

  -- the parent of c
  root_uneditable : parent_of t.trees c ≡ None → is_editable_for t c ≡ false
  unfolding is_editable_for
  root_uneditable e = by_host t.host
    where
      by_host : (o : Option ℕ) → option_map_or (λ k. is_editable t.trees k c) o false ≡ false
      by_host None = refl
      by_host (Some k) = ap (λ o. is_label o k) (editing_host-root t.trees is_t.forest.distinct c e)

  up : (p : ℕ) × (parent_of t.trees c ≡ Some p)
  up = by (parent_of t.trees c) refl
    where
      by : (o : Option ℕ) → parent_of t.trees c ≡ o → (p : ℕ) × (parent_of t.trees c ≡ Some p)
      by None e = absurd (true≢false (sym editable ∙ root_uneditable e))
      by (Some p) e = (p, e)

  child_v : parent_of (made (element_content name attributes) t).trees c ≡ Some up.0
  unfolding made
  child_v = parent_of-with_leaf t.trees t.next (element_content name attributes) new_t c ∙ up.1

  inside_v : (l : ℕ) → IsWithin t.trees 0 l → IsWithin (made (element_content name attributes) t).trees 0 l
  unfolding made
  inside_v l i = within-with_leaf t.trees t.next is_t.forest t.next l (element_content name attributes) i

  near_c : Near s h false b c
  near_c = open_near s h false b t way c (editable_open t c editable)

  -- an editable node isn't the host
  off_host : (l : ℕ) → is_editable_for t l ≡ true → l ≢ h
  unfolding is_editable_for
  off_host l e =
      let hosted : is_editable t.trees h l ≡ true = ap (λ (o : Option ℕ). option_map_or (λ k. is_editable t.trees k l) o false) (sym (host_way s h false b t way)) ∙ e in
      (editable_below t.trees is_t.forest.distinct l h (label_is (editing_host t.trees l) h hosted)).1

  editable_v : is_editable_for (made (element_content name attributes) t) c ≡ true
  editable_v = near_editable s h false b (made (element_content name attributes) t) way_v c near_c (inside_v c inside) (off_host c editable)

  open_p : is_open (made (element_content name attributes) t) up.0 ≡ true
  open_p = inside_open (made (element_content name attributes) t) up.0 (parent_inside (made (element_content name attributes) t) is_v c up.0 child_v editable_v)

  parent_p : is_parent_at (made (element_content name attributes) t).trees up.0 ≡ true
  parent_p = has_children (made (element_content name attributes) t).trees (made (element_content name attributes) t).next is_v.forest up.0 c child_v

  p_inside : IsWithin t.trees 0 up.0
  p_inside = within_above t.trees t.next is_t.forest up.0 c up.1 inside

  p_known : 0 < count_of t.trees up.0
  p_known = (parent_count t.trees c up.0 is_t.forest.distinct up.1).1

  -- the new node has nothing below it, and no parent
  leaf_off : (l : ℕ) → t.next ≢ l → count_of (tree_of (made (element_content name attributes) t).trees t.next) l ≡ 0
  leaf_off l off = leaf_apart t is_t (element_content name attributes) l off

  leaf_there : 0 < count_of (made (element_content name attributes) t).trees t.next
  unfolding made
  leaf_there =
      let own : eqb t.next t.next ≡ true = eq-eqb t.next t.next refl in
      let all = total-with_leaf t.trees t.next (element_content name attributes) new_t (λ m _. cond (eqb m t.next) 1 0) in
      let all' = rw own at all in
      omega (arith, all')

  leaf_loose : parent_of (made (element_content name attributes) t).trees t.next ≡ None
  unfolding made
  leaf_loose = ap (option_and_then (λ (x : Seen Content). x.parent)) (seek-with_leaf_new t.trees t.next (element_content name attributes) new_t)

  -- the place is that after c
  place : is_place (made (element_content name attributes) t).trees up.0 (next_of (made (element_content name attributes) t).trees c) t.next ≡ true
  place = by (next_of (made (element_content name attributes) t).trees c) refl
    where
      by : (o : Option ℕ) → next_of (made (element_content name attributes) t).trees c ≡ o → is_place (made (element_content name attributes) t).trees up.0 o t.next ≡ true
      by None e = refl
      by (Some k) e =
          let f = (made (element_content name attributes) t).trees in
          let child = parent_of-next f is_v.forest.distinct c k up.0 child_v e in
          let off : eqb k t.next ≡ false = ne_eqb k t.next (λ q. (let n : Some up.0 ≡ None = sym child ∙ (ap (parent_of f) q ∙ leaf_loose) in cc)) in
          rw (child, eq-eqb up.0 up.0 refl, off) refl

  may : is_made_edit (Insert up.0 (next_of (made (element_content name attributes) t).trees c) t.next) (made (element_content name attributes) t) ≡ true
  unfolding is_made_edit may_insert
  may =
      let f = (made (element_content name attributes) t).trees in
      let there = lt-ltb 0 (count_of f t.next) leaf_there in
      let first = is_t.forest.below 0 is_t.forest.document in
      let inner : eqb t.next 0 ≡ false = ne_eqb t.next 0 (λ e. omega (arith, first, e)) in
      let apart : is_within f t.next up.0 ≡ false = le-ltb 0 (count_of (tree_of f t.next) up.0) (omega (arith, leaf_off up.0 (off_old up.0 p_known))) in
      rw (there, inner, leaf_loose, parent_p, apart, place, open_p) refl

  can : CanPut (made (element_content name attributes) t).trees up.0 (next_of (made (element_content name attributes) t).trees c) t.next
  unfolding is_made_edit
  can = (inserts (made (element_content name attributes) t) up.0 (next_of (made (element_content name attributes) t).trees c) t.next may).can

  -- ---- the state in which it has been put

  put_is : final (insert_after c t.next) (made (element_content name attributes) t) ≡ edited (Insert up.0 (next_of (made (element_content name attributes) t).trees c) t.next) (made (element_content name attributes) t)
  put_is = after_is c t.next (made (element_content name attributes) t) (Some up.0) child_v

  trees_put : (final (insert_after c t.next) (made (element_content name attributes) t)).trees ≡ link (made (element_content name attributes) t).trees up.0 (next_of (made (element_content name attributes) t).trees c) t.next
  unfolding trees_after
  trees_put = ap (λ (w : State). w.trees) put_is ∙ trees_made (Insert up.0 (next_of (made (element_content name attributes) t).trees c) t.next) (made (element_content name attributes) t) may

  way_edited : Underway s h false (edited (Insert up.0 (next_of (made (element_content name attributes) t).trees c) t.next) (made (element_content name attributes) t))
  unfolding acted
  way_edited = record { way = onward way_v.way (action.Change (Insert up.0 (next_of (made (element_content name attributes) t).trees c) t.next)); leaves = (way_v.leaves, tt) }

  pub way_put : Underway s h false (final (insert_after c t.next) (made (element_content name attributes) t))
  way_put = subst (λ w. Underway s h false w) (sym put_is) way_edited

  -- c keeps its tree
  same_v : tree_of (made (element_content name attributes) t).trees c ≡ tree_of t.trees c
  unfolding made
  same_v = tree_of-with_leaf_other t.trees t.next c (element_content name attributes) (off_old c c_known)

  pub same_put : tree_of (final (insert_after c t.next) (made (element_content name attributes) t)).trees c ≡ tree_of t.trees c
  same_put =
      let f = (made (element_content name attributes) t).trees in
      let once = is_v.forest.distinct in
      let known = (parent_count f c up.0 once child_v).0 in
      let out : count_of (tree_of f c) up.0 ≡ 0 = elim (none_or_some (count_of (tree_of f c) up.0)) [
        | inl none ↦ none
        | inr some ↦ absurd (parent_apart f c up.0 once child_v some)
      ] in
      ap (λ g. tree_of g c) trees_put ∙ (link_elsewhere f up.0 (next_of f c) t.next c once can known out ∙ same_v)

  pub inside_put : (l : ℕ) → IsWithin t.trees 0 l → IsWithin (final (insert_after c t.next) (made (element_content name attributes) t)).trees 0 l
  inside_put l i =
      let f = (made (element_content name attributes) t).trees in
      subst (λ g. IsWithin g 0 l) (sym trees_put) (within-link f (made (element_content name attributes) t).next is_v.forest up.0 (next_of f c) t.next l can (inside_v l i))

  pub new_inside : IsWithin (final (insert_after c t.next) (made (element_content name attributes) t)).trees 0 t.next
  new_inside =
      let f = (made (element_content name attributes) t).trees in
      let g = link f up.0 (next_of f c) t.next in
      let w = final (insert_after c t.next) (made (element_content name attributes) t) in
      let is_w = valid_way s h false b w way_put in
      let held : IsWithin g up.0 t.next = holds-link f up.0 (next_of f c) t.next t.next is_v.forest.distinct can (within_self f t.next is_v.forest.distinct leaf_there) in
      within_trans w.trees 0 up.0 t.next is_w.forest.distinct (inside_put up.0 p_inside) (subst (λ k. IsWithin k up.0 t.next) (sym trees_put) held)

  new_element : is_parent_at (made (element_content name attributes) t).trees t.next ≡ true
  unfolding made
  new_element = ap (λ (o : Option Content). option_map_or may_have_children o false) (content_of-with_leaf_new t.trees t.next (element_content name attributes) new_t)

  pub new_parent : is_parent_at (final (insert_after c t.next) (made (element_content name attributes) t)).trees t.next ≡ true
  new_parent =
      let f = (made (element_content name attributes) t).trees in
      subst (λ g. is_parent_at g t.next ≡ true) (sym trees_put) (ap (λ (o : Option Content). option_map_or may_have_children o false) (content_of-link f up.0 (next_of f c) t.next t.next is_v.forest.distinct can) ∙ new_element)

  old_element : (l : ℕ) → 0 < count_of t.trees l → is_parent_at t.trees l ≡ true → is_parent_at (made (element_content name attributes) t).trees l ≡ true
  unfolding made
  old_element l some e = ap (λ (o : Option Content). option_map_or may_have_children o false) (content_of-with_leaf_other t.trees t.next (element_content name attributes) l new_t (off_old l some)) ∙ e

  -- what could have children still can
  pub parent_put : (l : ℕ) → 0 < count_of t.trees l → is_parent_at t.trees l ≡ true → is_parent_at (final (insert_after c t.next) (made (element_content name attributes) t)).trees l ≡ true
  parent_put l some e =
      let f = (made (element_content name attributes) t).trees in
      subst (λ g. is_parent_at g l ≡ true) (sym trees_put) (ap (λ (o : Option Content). option_map_or may_have_children o false) (content_of-link f up.0 (next_of f c) t.next l is_v.forest.distinct can) ∙ old_element l some e)

  -- ---- the test of the action

  module _ (q : Point) (editable_q : is_editable_for t q.label ≡ true) (q_below : IsWithin t.trees c q.label) (q_inside : IsWithin t.trees 0 q.label) (q_parent : is_parent_at t.trees q.label ≡ true) where
    editable_put : (l : ℕ) → is_editable_for t l ≡ true → IsWithin t.trees 0 l → is_editable_for (final (insert_after c t.next) (made (element_content name attributes) t)) l ≡ true
    editable_put l e i = near_editable s h false b (final (insert_after c t.next) (made (element_content name attributes) t)) way_put l (open_near s h false b t way l (editable_open t l e)) (inside_put l i) (off_host l e)

    made_put : is_made (final (insert_after c t.next) (made (element_content name attributes) t)) t.next ≡ true
    unfolding is_made
    made_put =
        let w = final (insert_after c t.next) (made (element_content name attributes) t) in
        let same : w.start ≡ t.start = start_way s h false b w way_put ∙ sym (start_way s h false b t way) in
        le-leb w.start t.next (omega (arith, same, is_t.started))

    pub extracts : may_extract (final (insert_after c t.next) (made (element_content name attributes) t)) q c t.next ≡ true
    unfolding may_extract
    extracts =
        let w = final (insert_after c t.next) (made (element_content name attributes) t) in
        let f = w.trees in
        let keeps : w.keeping ≡ false = keeping_way s h false b w way_put in
        let end_in = lt-ltb 0 (count_of (tree_of f 0) c) (inside_put c inside) in
        let below = lt-ltb 0 (count_of (tree_of f c) q.label) (subst (λ g. 0 < count_of g q.label) (sym same_put) q_below) in
        let target_in = lt-ltb 0 (count_of (tree_of f 0) t.next) new_inside in
        let off : is_within f c t.next ≡ false = le-ltb 0 (count_of (tree_of f c) t.next) (omega (arith, ap (λ g. count_of g t.next) same_put, new_t, total-without (λ m _. cond (eqb m t.next) 1 0) t.trees c)) in
        let q_known : 0 < count_of t.trees q.label = omega (arith, q_inside, total-without (λ m _. cond (eqb m q.label) 1 0) t.trees 0) in
        both (ap not keeps)
        (both (editable_put c editable inside)
        (both end_in
        (both (editable_put q.label editable_q q_inside)
        (both (parent_put q.label q_known q_parent) (both below (both made_put (both target_in (both new_parent (ap not off)))))))))
