-- A new element is put at a caret: the text or comment that the caret stands in is split or left, which keeps the order of what the
-- document bears, and the element stays as it was made.
use Rattle.std.proofs.Common.{◌≡◌, ◌≢◌, ℕ, ◌+◌, ◌-◌, ◌<◌, Bool, true, false, ◌&&◌, ◌||◌, not, if◌then◌else◌, List, [], length, drop, Option, Some, None, refl, sym, ap, subst, ◌∙◌, inl, inr, arith, cond, eqb, true≢false}
use Rattle.std.specs.Option.{option_map, option_map_or}
use Rattle.std.proofs.lemmas.Bool.{and_parts, or_cases, cases_Bool, eq-eqb, ne_eqb}
use Rattle.edit_model.specs.DomModel.declared.Content.{Content}
use Rattle.edit_model.specs.DomModel.declared.Content.TheVariants.{Document, Element, Words, Remark}
use Rattle.edit_model.specs.DomModel.Contents.{has_chars_at, length_of}
use Rattle.edit_model.specs.DomModel.Editing.{is_host, is_true_state}
use Rattle.edit_model.specs.DomModel.Forest.{Forest, is_label, tree_of, parent_of, next_of, content_of, count_of}
use Rattle.edit_model.specs.DomModel.Forest.Forest.{Nil, Tree}
use Rattle.edit_model.specs.DomModel.Places.{index_of}
use Rattle.edit_model.proofs.DomModel.Kept.{content_of-with_leaf_other}
use Rattle.edit_model.proofs.DomModel.Links.{parent_count, total-link, total-with_leaf}
use Rattle.edit_model.proofs.DomModel.Revising.{total-revised}
use Rattle.edit_model.proofs.DomModel.Totals.{total-without}
use Rattle.edit_model.proofs.DomModel.Within.{within_self, within_child}
use Rattle.edit_model.specs.LiveRange.declared.places.Point.{Point}
use Rattle.edit_model.specs.LiveRange.declared.places.Pair.{Pair}
use Rattle.edit_model.specs.PointOrder.PointOrder.{is_before}
use Rattle.inline_value.specs.NodeTests.CollapsedWhitespace.{is_words_content, is_words}
use Rattle.edit_model.specs.State.{State}
use Rattle.edit_model.specs.Compositions.{characters_of, points_sent, split_under, split_words}
use Rattle.edit_model.specs.Confined.{is_editable_for, is_inside}
use Rattle.edit_model.specs.Edit.{Edit, Insert, Remove, Move, Replace, Set, Unset, is_made_edit, trees_after, changed, with_replaced}
use Rattle.edit_model.specs.Action as action
use Rattle.edit_model.specs.Action.{Action, made, words_content, extended, acted}
use Rattle.edit_model.specs.Run.{Reaches, here, onward, Run, ◌>>◌, final, value, answer, done, given, send, grow, collapse}
use Rattle.edit_model.specs.Valid.{IsValid}
use Rattle.edit_model.proofs.Documents.{document-with_leaf}
use Rattle.edit_model.proofs.Each.{Each, EachOn, each_bind, each_answer, each_if, each_edit, each_make_words, each_perform}
use Rattle.edit_model.proofs.Forests.{fresh}
use Rattle.edit_model.proofs.IslandRuns.{trees_made, trees_left}
use Rattle.edit_model.proofs.Islands.{link_elsewhere}
use Rattle.edit_model.proofs.OutsideRuns.{trees-extended, trees-selected, trees-grown, trees-sent, trees-scratched}
use Rattle.edit_model.proofs.Points.{Placed}
use Rattle.edit_model.proofs.Steps.{final-bind, final-answer, final-look, final-perform}
use Rattle.edit_model.proofs.Tests.{inserts, label_is}
use Rattle.edit_model.proofs.Trees.{tree_of-with_leaf_other, tree_of-revised_other}
use Rattle.edit_model.proofs.ValidRuns.{valid_along}
use Rattle.edit_laws.specs.Order.{KeepsOrder, IsKeeping}
use Rattle.edit_laws.proofs.Hosts.{host_from-join}
use Rattle.edit_laws.proofs.QuietActions.{same_trees, same_document}
use Rattle.edit_laws.proofs.Renaming.{new_tree}
use Rattle.edit_laws.proofs.Subsequences.{keeps_trans}
use Rattle.inline_value.specs.EditActions.ActiveRange.{start_of}
use Rattle.delete_core.specs.Places.{before_node, after_node}
use Rattle.text_insertion.specs.Start.{active_start, cuts_text}
use Rattle.insert_objects.specs.Putting.{collapse_before, collapse_after, leave_text, put}
use Rattle.caret_laws.proofs.BlindRuns.{kept, kept_valid, split_ordered}
use Rattle.caret_laws.proofs.SplitTexts.{start_placed}

-- ---- a node that actions spare

-- an action that puts nothing into the node n, nor changes it
abbrev pub Spares : ℕ → Action → State → Type 0
Spares n (action.Change (Insert p b m)) s = p ≢ n
Spares n (action.Change (Replace m at count put)) s = m ≢ n
Spares n (action.Change e) s = ⊥
Spares n (action.Extract from end target) s = ⊥
Spares n (action.MakeElement name attributes) s = ⊥
Spares n a s = Unit {0}

module _ (n : ℕ) (T : Forest Content) (alone : (l : ℕ) → l ≢ n → count_of T l ≡ 0) where
  -- n has this tree, in which it is alone
  abbrev pub HasIn : Forest Content → Type 0
  HasIn f = (tree_of f n ≡ T) × (0 < count_of f n)

  spared_edit : (e : Edit) (u : State) → IsValid u → Spares n (action.Change e) u → is_made_edit e u ≡ true → HasIn u.trees → HasIn (trees_after e u.trees)
  unfolding is_made_edit trees_after
  spared_edit (Insert p b m) u is off may h =
      let can = (inserts u p b m may).can in
      let out : count_of (tree_of u.trees n) p ≡ 0 = ap (λ g. count_of g p) h.0 ∙ alone p off in (
        link_elsewhere u.trees p b m n is.forest.distinct can h.1 out ∙ h.0,
        omega (arith, h.1, total-link u.trees p b m is.forest.distinct can (λ k _. cond (eqb k n) 1 0)),
      )
  spared_edit (Replace m at count put) u is off may h =
      let out : count_of (tree_of u.trees n) m ≡ 0 = ap (λ g. count_of g m) h.0 ∙ alone m off in (
        tree_of-revised_other u.trees m n (with_replaced at count put) out ∙ h.0,
        omega (arith, h.1, total-revised m (with_replaced at count put) (λ k. cond (eqb k n) 1 0) u.trees),
      )
  spared_edit (Remove m) u is off may h = absurd off
  spared_edit (Move m p b) u is off may h = absurd off
  spared_edit (Set m name value) u is off may h = absurd off
  spared_edit (Unset m name) u is off may h = absurd off

  spared_acted : (a : Action) (u : State) → IsValid u → Spares n a u → HasIn u.trees → HasIn (acted a u).trees
  unfolding acted made extended changed
  spared_acted (action.Change e) u is off h = elim (cases_Bool (is_made_edit e u)) [
    | inl may ↦ subst HasIn (sym (trees_made e u may)) (spared_edit e u is off may h)
    | inr left ↦ subst HasIn (sym (trees_left e u left)) h
  ]
  spared_acted (action.MakeElement name attributes) u is off h = absurd off
  spared_acted (action.MakeWords chars) u is off h = (
    tree_of-with_leaf_other u.trees u.next n (words_content chars) (λ e. (let low = is.forest.below n h.1 in omega (arith, low, e))) ∙ h.0,
    omega (arith, h.1, total-with_leaf u.trees u.next (words_content chars) (fresh u.trees u.next is.forest) (λ k _. cond (eqb k n) 1 0)),
  )
  spared_acted (action.Select anchor focus) u is off h = subst HasIn (sym (trees-selected anchor focus u)) h
  spared_acted (action.Extend focus) u is off h = subst HasIn (sym (trees-extended u.points.selection focus u)) h
  spared_acted action.Unselect u is off h = h
  spared_acted (action.Grow at) u is off h = subst HasIn (sym (trees-grown at u)) h
  spared_acted (action.Send node at tail) u is off h = subst HasIn (sym (trees-sent node at tail u)) h
  spared_acted (action.Scratch pair) u is off h = subst HasIn (sym (trees-scratched pair u)) h
  spared_acted (action.Override command setting) u is off h = h
  spared_acted (action.Flag flags) u is off h = h
  spared_acted (action.Extract from end target) u is off h = absurd off

  spared_along : {u t : State} (r : Reaches u t) → IsValid u → EachOn (Spares n) r → HasIn u.trees → HasIn t.trees
  spared_along here is each h = h
  spared_along (onward {t = t} q a) is each h = spared_acted a t (valid_along q is) each.1 (spared_along q is each.0 h)

each_sent : (m p i k at tail : ℕ) (inserted : Bool) → Each (Spares m) (points_sent p i k at tail inserted)
unfolding points_sent
each_sent m p i k at tail inserted =
    each_if (Spares m) inserted (send k at tail >> grow (record { label = p; offset = i + 1 })) done
    (each_bind (Spares m) (send k at tail) (λ _. grow (record { label = p; offset = i + 1 })) (each_perform (Spares m) (action.Send k at tail) (λ _ _. tt)) (λ _. each_perform (Spares m) (action.Grow (record { label = p; offset = i + 1 })) (λ _ _. tt)))
    (each_answer (Spares m) tt)

each_under : (m p : ℕ) (s : State) (k at : ℕ) → p ≢ m → k ≢ m → Each (Spares m) (split_under p s k at)
unfolding split_under
each_under m p s k at off_p off_k =
    each_bind (Spares m) _ _ (each_make_words (Spares m) (drop at (characters_of s.trees k)) (λ _ _. tt)) (λ tail.
    each_bind (Spares m) _ _ (each_edit (Spares m) (Insert p (next_of s.trees k) tail) (λ _ _. off_p)) (λ inserted.
    each_bind (Spares m) _ _ (each_sent m p (index_of s.trees k) k at tail inserted) (λ _.
    each_bind (Spares m) _ _ (each_edit (Spares m) (Replace k at (length (characters_of s.trees k) - at) []) (λ _ _. off_k)) (λ _.
    each_answer (Spares m) tail))))

-- ---- selecting steps

pub after_trees : (m : ℕ) (u : State) → (final (collapse_after m) u).trees ≡ u.trees
unfolding collapse_after acted
after_trees m u = ap (λ (t : State). t.trees) (final-look _ u) ∙ by (after_node u.trees m)
  where
    by : (o : Option Point) → (final (given o done collapse) u).trees ≡ u.trees
    by None = ap (λ (t : State). t.trees) (final-answer tt u)
    by (Some q) = ap (λ (t : State). t.trees) (final-perform (action.Select q q) u) ∙ trees-selected q q u

pub before_trees : (m : ℕ) (u : State) → (final (collapse_before m) u).trees ≡ u.trees
unfolding collapse_before acted
before_trees m u = ap (λ (t : State). t.trees) (final-look _ u) ∙ by (before_node u.trees m)
  where
    by : (o : Option Point) → (final (given o done collapse) u).trees ≡ u.trees
    by None = ap (λ (t : State). t.trees) (final-answer tt u)
    by (Some q) = ap (λ (t : State). t.trees) (final-perform (action.Select q q) u) ∙ trees-selected q q u

pub start_caret : (u : State) (p : Point) → u.points.selection ≡ Some (record { anchor = p; focus = p }) → active_start u ≡ Some p
unfolding active_start
start_caret u p sel = ap (λ (o : Option Pair). option_map (start_of u.trees) o) sel ∙ by (is_before u.trees p p)
  where
    by : (v : Bool) → Some (if v then p else p) ≡ Some p
    by true = refl
    by false = refl

-- ---- a new node

pub is_kept_state : (u : State) → IsValid u → IsKeeping (kept u)
is_kept_state u is = record { valid = kept_valid u is; keeping = refl }

pub made_tree : (c : Content) (u : State) → IsValid u → tree_of (made c u).trees u.next ≡ Tree u.next c Nil Nil
unfolding made
made_tree c u is = new_tree (kept u) (is_kept_state u is) c

pub made_order : (c : Content) (u : State) → IsValid u → KeepsOrder u (made c u)
unfolding made
made_order c u is = same_document u (made c u) (document-with_leaf u.trees u.next is.forest u.next c)

-- ---- the text that the caret stands in is split, or left

pub text_words : (o : Option Content) → option_map_or is_words_content o false ≡ true → (chars : List ℕ) × (o ≡ Some (Words chars))
text_words None h = absurd (true≢false (sym h))
text_words (Some Document) h = absurd (true≢false (sym h))
text_words (Some (Element name attributes)) h = absurd (true≢false (sym h))
text_words (Some (Words chars)) h = (chars, refl)
text_words (Some (Remark chars)) h = absurd (true≢false (sym h))

module _ (c : Content) (s : State) (is : IsValid s) (is_v : IsValid (made c s)) (p : Point) (caret : s.points.selection ≡ Some (record { anchor = p; focus = p })) (hosted : (h : ℕ) → s.host ≡ Some h → is_host s.trees h ≡ true) (inside : is_inside s p.label ≡ true) where
  pub alone : (l : ℕ) → l ≢ s.next → count_of (Tree s.next c Nil Nil) l ≡ 0
  alone l off = let t : eqb s.next l ≡ false = ne_eqb s.next l (λ e. off (sym e)) in rw t refl

  caret_v : (made c s).points.selection ≡ Some (record { anchor = p; focus = p })
  unfolding made
  caret_v = caret

  start_v : active_start (made c s) ≡ Some p
  start_v = start_caret (made c s) p caret_v

  placed_p : Placed s.trees p
  placed_p = start_placed s p is (start_caret s p caret)

  p_known : 0 < count_of s.trees p.label
  p_known = let i = placed_p.inside in omega (arith, i, total-without (λ m _. cond (eqb m p.label) 1 0) s.trees 0)

  off_p : s.next ≢ p.label
  off_p e = let low = is.forest.below p.label p_known in omega (arith, low, e)

  content_v : content_of (made c s).trees p.label ≡ content_of s.trees p.label
  unfolding made
  content_v = content_of-with_leaf_other s.trees s.next c p.label (fresh s.trees s.next is.forest) off_p

  has_v : HasIn s.next (Tree s.next c Nil Nil) alone (made c s).trees
  has_v = (
    made_tree c s is,
    (
        let own : eqb s.next s.next ≡ true = eq-eqb s.next s.next refl in
        let one : 0 < count_of (Tree s.next c Nil Nil) s.next = rw own (omega arith) in
        omega (arith, one, ap (λ g. count_of g s.next) (made_tree c s is), total-without (λ m _. cond (eqb m s.next) 1 0) (made c s).trees s.next)),
  )

  inside_parts : is_inside s p.label ≡ true → (is_label s.host p.label || is_editable_for s p.label) ≡ true
  unfolding is_inside
  inside_parts h = h

  -- a text is editable
  text_editable : (chars : List ℕ) → content_of s.trees p.label ≡ Some (Words chars) → is_editable_for s p.label ≡ true
  text_editable chars text = elim (or_cases (is_label s.host p.label) (is_editable_for s p.label) (inside_parts inside)) [
    | inr editable ↦ editable
    | inl at ↦ absurd (
        let host = hosted p.label (label_is s.host p.label at) in
        let none : is_host s.trees p.label ≡ false = ap (λ (o : Option Content). option_map_or is_true_state o false) text in
        true≢false (sym host ∙ none))
  ]

  editable_v : is_editable_for s p.label ≡ true → is_editable_for (made c s) p.label ≡ true
  unfolding made is_editable_for
  editable_v h = rw (host_from-join s.next c p.label off_p false None s.trees) h

  -- what holds after it
  pub record Fine (t : State) : Type 0 where
    pub order : KeepsOrder (made c s) t
    pub has : HasIn s.next (Tree s.next c Nil Nil) alone t.trees

  fine_same : (t : State) → t.trees ≡ (made c s).trees → Fine t
  fine_same t e = record { order = same_trees (made c s) t e; has = subst (HasIn s.next (Tree s.next c Nil Nil) alone) (sym e) has_v }

  fine_then : (t u : State) → Fine t → u.trees ≡ t.trees → Fine u
  fine_then t u h e = record { order = keeps_trans h.order (same_trees t u e); has = subst (HasIn s.next (Tree s.next c Nil Nil) alone) (sym e) h.has }

  -- the new node has no children
  no_parent : (q : ℕ) → parent_of (made c s).trees p.label ≡ Some q → q ≢ s.next
  no_parent q up e =
      let f = (made c s).trees in
      let once = is_v.forest.distinct in
      let up' : parent_of f p.label ≡ Some s.next = up ∙ ap Some e in
      let known = (parent_count f p.label s.next once up').1 in
      let held = within_child f s.next once known p.label s.next up' (within_self f s.next once known) in
      let none : count_of (tree_of f s.next) p.label ≡ 0 = ap (λ g. count_of g p.label) (made_tree c s is) ∙ alone p.label (λ q'. off_p (sym q')) in
      omega (arith, held, none)

  under_has : (q : ℕ) → q ≢ s.next → HasIn s.next (Tree s.next c Nil Nil) alone (final (split_under q (made c s) p.label p.offset) (made c s)).trees
  unfolding final
  under_has q off = spared_along s.next (Tree s.next c Nil Nil) alone ((split_under q (made c s) p.label p.offset).by_actions (made c s)) is_v ((each_under s.next q (made c s) p.label p.offset off (λ e. off_p (sym e))).on (made c s) is_v) has_v

  split_has : HasIn s.next (Tree s.next c Nil Nil) alone (final (split_words p.label p.offset) (made c s)).trees
  unfolding split_words
  split_has = subst (λ (t : State). HasIn s.next (Tree s.next c Nil Nil) alone t.trees) (sym (final-look _ (made c s))) (by (parent_of (made c s).trees p.label) refl)
    where
      by : (o : Option ℕ) → parent_of (made c s).trees p.label ≡ o → HasIn s.next (Tree s.next c Nil Nil) alone (final (given o (answer p.label) λ q. split_under q (made c s) p.label p.offset) (made c s)).trees
      by None e = subst (λ (t : State). HasIn s.next (Tree s.next c Nil Nil) alone t.trees) (sym (final-answer p.label (made c s))) has_v
      by (Some q) e = under_has q (no_parent q e)

  fine_split : (chars : List ℕ) → content_of s.trees p.label ≡ Some (Words chars) → Fine (final (split_words p.label p.offset) (made c s))
  fine_split chars text = record {
    order = split_ordered p.label p.offset chars (made c s) is_v (content_v ∙ text) (λ _. editable_v (text_editable chars text));
    has = split_has;
  }

  chars_there : cuts_text (made c s).trees p ≡ true → (chars : List ℕ) × (content_of s.trees p.label ≡ Some (Words chars))
  unfolding cuts_text is_words
  chars_there e =
      let words = (and_parts (option_map_or is_words_content (content_of (made c s).trees p.label) false) _ e).0 in
      let w = text_words (content_of (made c s).trees p.label) words in
      (w.0, sym content_v ∙ w.1)

  -- what is done at the caret
  abbrev Leaving : Run (Unit {0})
  Leaving =
      if cuts_text (made c s).trees p then (split_words p.label p.offset >> collapse_after p.label)
      else (if not (has_chars_at (made c s).trees p.label) then done
      else (if (eqb p.offset (length_of (made c s).trees p.label)) && not (eqb p.offset 0)
      then collapse_after p.label
      else collapse_before p.label))

  leaving : Fine (final Leaving (made c s))
  leaving = by (cuts_text (made c s).trees p) refl (has_chars_at (made c s).trees p.label) ((eqb p.offset (length_of (made c s).trees p.label)) && not (eqb p.offset 0))
    where
      by : (v : Bool) → cuts_text (made c s).trees p ≡ v → (w x : Bool) → Fine (final (if v then (split_words p.label p.offset >> collapse_after p.label) else (if not w then done else (if x then collapse_after p.label else collapse_before p.label))) (made c s))
      by true e w x =
          let k = chars_there e in
          subst Fine (sym (final-bind (split_words p.label p.offset) (λ _. collapse_after p.label) (made c s)))
          (fine_then (final (split_words p.label p.offset) (made c s)) (final (collapse_after p.label) (final (split_words p.label p.offset) (made c s))) (fine_split k.0 k.1) (after_trees p.label (final (split_words p.label p.offset) (made c s))))
      by false e false x = fine_same (final done (made c s)) (ap (λ (t : State). t.trees) (final-answer tt (made c s)))
      by false e true true = fine_same (final (collapse_after p.label) (made c s)) (after_trees p.label (made c s))
      by false e true false = fine_same (final (collapse_before p.label) (made c s)) (before_trees p.label (made c s))

  pub left : Fine (final leave_text (made c s))
  unfolding leave_text
  left = subst Fine (sym (final-look _ (made c s) ∙ rw start_v refl)) leaving
