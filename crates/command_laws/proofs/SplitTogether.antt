-- Splitting the parent of the first member keeps a list together: with a copy of the parent before it, and line breaks around it.
use Rattle.std.proofs.Common.{◌≡◌, ◌≢◌, ◌⊎◌, ℕ, ◌<◌, ◌≤◌, zero, suc, Bool, true, false, ◌&&◌, ◌||◌, not, cond, eqb, if◌then◌else◌, List, [], ◌∷◌, ◌++◌, Option, Some, None, is_none, refl, sym, ap, subst, ◌∙◌, inl, inr, arith, append_assoc, true≢false}
use Rattle.std.specs.Prelude.{codes}
use Rattle.std.specs.Option.{option_and_then}
use Rattle.std.proofs.lemmas.Bool.{cases_Bool, ne_eqb}
use Rattle.edit_model.specs.DomModel.declared.Content.TheVariants.{Element}
use Rattle.edit_model.specs.DomModel.Forest.{is_label, times, put_in, first_in, last_in, after_in, parent_of, prev_of, children_of, next_of}
use Rattle.edit_model.proofs.DomModel.Lists.{times-append, after_in-middle}
use Rattle.edit_model.proofs.DomModel.Links.{times-children_of, eqb_refl_true}
use Rattle.inline_value.specs.NodeTests.SolidNeighbours.{is_extraneous_break}
use Rattle.inline_value.specs.NodeTests.LineBreaks.{follows_break, precedes_break}
use Rattle.edit_model.specs.State.{State}
use Rattle.edit_model.specs.Compositions.{tag_of, attribute_list_of}
use Rattle.edit_model.specs.Confined.{is_editable_for, may_insert, may_remove, may_move}
use Rattle.edit_model.specs.Edit.{Insert, Remove, Unset, Move, is_made_edit, trees_after, edited}
use Rattle.edit_model.specs.Action.{made, element_content}
use Rattle.edit_model.specs.Valid.{IsValid}
use Rattle.edit_model.specs.Moves.{make_break, insert_before, insert_after, move_last, move_all_before, move_all_after, move_each_last}
use Rattle.edit_model.specs.Run.{Run, final, value, ◌>>=◌, ◌>>◌, answer, done, look, given, edit, remove, make_element, for_each}
use Rattle.edit_model.proofs.IslandRuns.{trees_made, trees_left}
use Rattle.edit_model.proofs.Steps.{final-answer, final-bind, final-look, final-edit, final-make_element, value-make_element, for_each-cons, for_each-nil}
use Rattle.edit_model.proofs.Tests.{label_is, inserts, removes}
use Rattle.edit_laws.proofs.Adopting.{final_insert_before, final_insert_after, after_nothing}
use Rattle.edit_laws.proofs.Around.{self_one}
use Rattle.edit_laws.proofs.Handing.{final_move_last}
use Rattle.edit_laws.proofs.Lifting.{move_stays}
use Rattle.edit_laws.proofs.Nesting.{shaped_unset}
use Rattle.edit_laws.proofs.Fronts.{child_by}
use Rattle.edit_laws.proofs.Slides.{parent_other}
use Rattle.inline_value.specs.EditActions.Siblings.{first_parent, members, until, starts_in, ends_in}
use Rattle.inline_value.specs.WrapSplit.Breaks as breaks
use Rattle.inline_value.specs.WrapSplit.Breaks.{breaks_before, breaks_at_end}
use Rattle.inline_value.specs.WrapSplit.Split.{break_before, break_after, clear_before, copied, copy_front, drop_first_break, close, tidy_after, split_end, split_rest, split_marked, is_void_thing, split_at, split_members, split_parent}
use Rattle.command_laws.proofs.Copies.{until_front}
use Rattle.command_laws.proofs.Cleared.{cleared}
use Rattle.command_laws.proofs.Splitting.{last_some}
use Rattle.command_laws.proofs.SteadySplits.{valid_final}
use Rattle.command_laws.proofs.Together.{parent-unlinked, parent-linked, members-append, members-one, members-none, members-same, Together, together_removed, together_made, together_put, next_no_member, Holding, holding, put_in-seam, next_edited, before_nothing, first_beside}
use Rattle.command_laws.proofs.Widening.{last_parted}
use Rattle.command_laws.proofs.Growing.{together_shaped, together_apart, together_moved, moved_to, child_parted}
use Rattle.command_laws.proofs.Putting.{valid_new, parent_new, new_child}
use Rattle.command_laws.proofs.SplitLists.{member_owned, member_among, not_labelled, alike, Led, led_before, led_after, led_together}

-- ---- removals leave no node another parent

fewer_removed : (k : ℕ) (s : State) → IsValid s → (l r : ℕ) → parent_of (edited (Remove k) s).trees l ≡ Some r → parent_of s.trees l ≡ Some r
unfolding is_made_edit trees_after
fewer_removed k s is l r up = elim (cases_Bool (may_remove s k)) [
  | inr off ↦ sym (ap (λ f. parent_of f l) (trees_left (Remove k) s off)) ∙ up
  | inl may ↦ (
      let g = removes s k may in
      let now = trees_made (Remove k) s may in
      by (eqb k l) (parent_of s.trees l) (sym (ap (λ f. parent_of f l) now ∙ parent-unlinked s.trees is.forest.distinct g.from k l g.child) ∙ up))
]
  where
    by : (v : Bool) (p : Option ℕ) → cond v None p ≡ Some r → p ≡ Some r
    by true p e = absurd (let k : None ≡ Some r = e in cc)
    by false p e = e

fewer_breaks : (o : ℕ) (s : State) → IsValid s → (l r : ℕ) → parent_of (final (breaks_before o) s).trees l ≡ Some r → parent_of s.trees l ≡ Some r
unfolding breaks_before
fewer_breaks o s is l r up = by_prev (prev_of s.trees o) (sym (ap (λ t. parent_of t.trees l) (final-look _ s)) ∙ up)
  where
    by_test : (k : ℕ) (v : Bool) → parent_of (final (if v then remove k >> done else done) s).trees l ≡ Some r → parent_of s.trees l ≡ Some r
    by_test k true e =
        let one : final (remove k >> done) s ≡ edited (Remove k) s = rw (final-bind, final-edit, final-answer) refl in
        fewer_removed k s is l r (sym (ap (λ t. parent_of t.trees l) one) ∙ e)
    by_test k false e = sym (ap (λ t. parent_of t.trees l) (final-answer tt s)) ∙ e

    by_prev : (p : Option ℕ) → parent_of (final (given p done (λ p. if is_editable_for s (breaks.last_break_before s o p) && is_extraneous_break s.trees (breaks.last_break_before s o p) then remove (breaks.last_break_before s o p) >> done else done)) s).trees l ≡ Some r → parent_of s.trees l ≡ Some r
    by_prev None e = sym (ap (λ t. parent_of t.trees l) (final-answer tt s)) ∙ e
    by_prev (Some p) e = by_test (breaks.last_break_before s o p) (is_editable_for s (breaks.last_break_before s o p) && is_extraneous_break s.trees (breaks.last_break_before s o p)) e

holding_breaks : (list : List ℕ) (n : ℕ) → Holding list (breaks_before n)
unfolding breaks_before
holding_breaks list n = search holding

-- a node without a parent isn't split
nothing_split : (s : State) (o : ℕ) (list : List ℕ) (a z : ℕ) → parent_of s.trees o ≡ None → final (split_at o list a z) s ≡ s
unfolding split_at
nothing_split s o list a z root = rw (final-look, root) (by (not (is_editable_for s o)))
  where
    by : (v : Bool) → final (if v || (true || is_void_thing s o) then done else (clear_before o list >> split_marked o list a z)) s ≡ s
    by true = rw final-answer refl
    by false = rw final-answer refl

-- ---- before the moves: where o and the list stand

record Ready (s : State) (o q : ℕ) (list : List ℕ) : Type 0 where
  is : IsValid s
  together : Together s list
  up : parent_of s.trees o ≡ Some q
  elsewhere : (l : ℕ) → 0 < times list l → parent_of s.trees l ≡ Some q → ⊥

-- the list and o have the parents that they had
record Unmoved (s t : State) (o : ℕ) (list : List ℕ) : Type 0 where
  own : parent_of t.trees o ≡ parent_of s.trees o
  each : (l : ℕ) → 0 < times list l → parent_of t.trees l ≡ parent_of s.trees l

unmoved : (s : State) (o : ℕ) (list : List ℕ) → Unmoved s s o list
unmoved s o list = record { own = refl; each = λ l _. refl }

unmoved_on : (s t u : State) (o : ℕ) (list : List ℕ) → Unmoved s t o list → Unmoved t u o list → Unmoved s u o list
unmoved_on s t u o list w v = record { own = v.own ∙ w.own; each = λ l h. v.each l h ∙ w.each l h }

ready_on : (s t : State) (o q : ℕ) (list : List ℕ) → Ready s o q list → Unmoved s t o list → IsValid t → Together t list → Ready t o q list
ready_on s t o q list w v is together = record {
  is = is;
  together = together;
  up = v.own ∙ w.up;
  elsewhere = λ l h up. w.elsewhere l h (sym (v.each l h) ∙ up);
}

-- nodes that are none of the list, nor o, go to the end of x
moves_ready : (nodes : List ℕ) (x o q : ℕ) (list : List ℕ) (s t : State) → Ready t o q list → Unmoved s t o list → ((k : ℕ) → 0 < times nodes k → (times list k ≡ 0) × (k ≢ o))
    → Ready (final (for_each nodes (move_last x)) t) o q list × Unmoved s (final (for_each nodes (move_last x)) t) o list
moves_ready [] x o q list s t w v apart = rw (for_each-nil, final-answer) (w, v)
moves_ready (k ∷ nodes) x o q list s t w v apart =
    let a = apart k (omega (arith, self_one k)) in
    let u : State = edited (Move k x None) t in
    let is_u : IsValid u = subst IsValid (final-edit (Move k x None) t) (valid_final (edit (Move k x None)) t w.is) in
    let one = stays_by a.0 a.1 in
    rw (for_each-cons, final-bind, final_move_last x k t)
    (moves_ready nodes x o q list s u (ready_on t u o q list w one is_u (together_moved list k x t w.is a.0 w.together)) (unmoved_on s t u o list v one) (λ l h. apart l (omega (arith, h))))
  where
    stays_by : times list k ≡ 0 → k ≢ o → Unmoved t (edited (Move k x None) t) o list
    stays_by none off = elim (cases_Bool (may_move t k x None)) [
      | inr shut ↦ subst (λ u. Unmoved t u o list) (sym (move_stays k x None t shut)) (unmoved t o list)
      | inl may ↦ (let g = moved_to k x None t w.is may in record { own = g.parent o off; each = λ l h. g.parent l (λ e. (let m = ap (times list) e in omega (arith, m, none, h))) })
    ]

module _ (s : State) (o q a : ℕ) (rest : List ℕ) (w : Ready s o q (a ∷ rest)) (own : parent_of s.trees a ≡ Some o) where
  -- the children of o before a
  front_of : (front : List ℕ) × (back : List ℕ) × (children_of s.trees o ≡ front ++ a ∷ back)
  unfolding members
  front_of =
      let k = w.together.siblings o in
      let first : members s o (a ∷ rest) ≡ a ∷ members s o rest = members-append s o (a ∷ []) rest ∙ ap (λ m. m ++ members s o rest) (members-one s o a own) in
      (k.front, members s o rest ++ k.rest, k.is ∙ ap (λ m. k.front ++ (m ++ k.rest)) first)

  front_apart : (k : ℕ) → 0 < times (until a (children_of s.trees o)) k → (times (a ∷ rest) k ≡ 0) × (k ≢ o)
  unfolding front_of
  front_apart k h =
      let f = w.together.siblings o in
      let p = front_of in
      let once = w.is.forest.distinct in
      let ca = ap (λ c. times c a) p.2 in
      let none : times p.0 a ≡ 0 = omega (arith, ca, times-append p.0 (a ∷ p.1) a, self_one a, times-children_of s.trees o a once) in
      let upto : until a (children_of s.trees o) ≡ p.0 = ap (until a) p.2 ∙ until_front p.0 p.1 a none in
      let h' : 0 < times f.front k = subst (λ l. 0 < times l k) upto h in
      let c = ap (λ m. times m k) f.is in
      let child : parent_of s.trees k ≡ Some o = child_by s w.is o k (omega (arith, c, times-append f.front (members s o (a ∷ rest) ++ f.rest) k, h')) in (
        by k h' child (times (a ∷ rest) k) refl,
        λ e. parent_other s.trees once k o child (sym e),
      )
    where
      by : (k : ℕ) → 0 < times (w.together.siblings o).front k → parent_of s.trees k ≡ Some o → (n : ℕ) → times (a ∷ rest) k ≡ n → times (a ∷ rest) k ≡ 0
      by k h child zero e = e
      by k h child (suc n) e =
          let f = w.together.siblings o in
          let m = member_among s o (a ∷ rest) k (omega (arith, e)) child in
          let c = ap (λ x. times x k) f.is in
          absurd (omega (arith, c, h, m, times-append f.front (members s o (a ∷ rest) ++ f.rest) k, times-append (members s o (a ∷ rest)) f.rest k, times-children_of s.trees o k w.is.forest.distinct))

  s1 : State
  s1 = made (element_content (tag_of s.trees o) (attribute_list_of s.trees o)) s

  s2 : State
  s2 = edited (Unset o (codes "id")) s1

  s3 : State
  s3 = edited (Insert q (Some o) s.next) s2

  new_no_member : times (a ∷ rest) s.next ≡ 0
  new_no_member = next_no_member (Element [] []) (a ∷ rest) s w.is w.together

  ready1 : Ready s1 o q (a ∷ rest) × Unmoved s s1 o (a ∷ rest)
  unfolding s1
  ready1 =
      let tag = tag_of s.trees o in
      let list = attribute_list_of s.trees o in
      let v : Unmoved s s1 o (a ∷ rest) = record { own = parent_new s w.is tag list o; each = λ l _. parent_new s w.is tag list l } in
      (ready_on s s1 o q (a ∷ rest) w v (valid_new s w.is tag list) (together_made (element_content tag list) (a ∷ rest) s w.is w.together), v)

  ready2 : Ready s2 o q (a ∷ rest) × Unmoved s s2 o (a ∷ rest)
  unfolding s2
  ready2 =
      let r = ready1 in
      let k = shaped_unset o (codes "id") s1 r.0.is in
      let v : Unmoved s1 s2 o (a ∷ rest) = record { own = k.parent o; each = λ l _. k.parent l } in
      let is2 : IsValid s2 = subst IsValid (final-edit (Unset o (codes "id")) s1) (valid_final (edit (Unset o (codes "id"))) s1 r.0.is) in
      (ready_on s1 s2 o q (a ∷ rest) r.0 v is2 (together_shaped s1 s2 (a ∷ rest) (next_edited (Unset o (codes "id")) s1) k.parent k.children r.0.together), unmoved_on s s1 s2 o (a ∷ rest) r.1 v)

  new_other : s.next ≢ o
  new_other = new_child s w.is [] [] o q w.up

  put_unmoved : Unmoved s2 s3 o (a ∷ rest)
  unfolding s3 is_made_edit trees_after
  put_unmoved = elim (cases_Bool (may_insert s2 q (Some o) s.next)) [
    | inr off ↦ (let e = trees_left (Insert q (Some o) s.next) s2 off in record { own = ap (λ f. parent_of f o) e; each = λ l _. ap (λ f. parent_of f l) e })
    | inl may ↦ (
        let r = ready2 in
        let now = trees_made (Insert q (Some o) s.next) s2 may in
        let can = (inserts s2 q (Some o) s.next may).can in
        let parents : (l : ℕ) → s.next ≢ l → parent_of s3.trees l ≡ parent_of s2.trees l = λ l off. ap (λ f. parent_of f l) now ∙ (parent-linked s2.trees r.0.is.forest.distinct q (Some o) s.next l can ∙ rw (ne_eqb s.next l off) refl) in
        record { own = parents o new_other; each = λ l h. parents l (λ e. (let m = ap (times (a ∷ rest)) e in omega (arith, m, h, new_no_member))) })
  ]

  ready3 : Ready s3 o q (a ∷ rest) × Unmoved s s3 o (a ∷ rest)
  unfolding s3
  ready3 =
      let r = ready2 in
      let none : members s2 q (a ∷ rest) ≡ [] = members-none s2 q (a ∷ rest) (λ l h. not_labelled (parent_of s2.trees l) q (r.0.elsewhere l h)) in
      let is3 : IsValid s3 = subst IsValid (final-edit (Insert q (Some o) s.next) s2) (valid_final (edit (Insert q (Some o) s.next)) s2 r.0.is) in
      (ready_on s2 s3 o q (a ∷ rest) r.0 put_unmoved is3 (together_apart (a ∷ rest) s.next q (Some o) s2 r.0.is new_no_member none r.0.together), unmoved_on s s2 s3 o (a ∷ rest) r.1 put_unmoved)

  copied_ready : Ready (final (copied o a) s) o q (a ∷ rest) × Unmoved s (final (copied o a) s) o (a ∷ rest)
  unfolding copied s1 s2 s3 move_each_last
  copied_ready =
      let r = ready3 in
      rw (final-look, final-bind, final-make_element, value-make_element, final-bind, final-edit, final-bind, final_insert_before o s.next q s2 (ready2.0.up))
      (moves_ready (until a (children_of s.trees o)) s.next o q (a ∷ rest) s s3 r.0 r.1 front_apart)

  front_ready : (list : List ℕ) → Ready (final (copy_front o list a) s) o q (a ∷ rest) × Unmoved s (final (copy_front o list a) s) o (a ∷ rest)
  unfolding copy_front
  front_ready list = rw final-look (by (starts_in s o list))
    where
      by : (v : Bool) → Ready (final (if v then done else copied o a) s) o q (a ∷ rest) × Unmoved s (final (if v then done else copied o a) s) o (a ∷ rest)
      by true = rw final-answer (w, unmoved s o (a ∷ rest))
      by false = copied_ready

-- ---- after the moves: z, the last of the members that went, stands in o or q if anywhere, and none of those after it in the list

record Tied (s : State) (o q z : ℕ) (list rest : List ℕ) : Type 0 where
  together : Together s list
  own : (r : ℕ) → parent_of s.trees z ≡ Some r → (r ≡ o) ⊎ (r ≡ q)
  apart : (l r : ℕ) → 0 < times rest l → parent_of s.trees l ≡ Some r → (r ≢ o) × (r ≢ q)

record Tying (o q z : ℕ) (list rest : List ℕ) {T : Type 0} (m : Run T) : Type 0 where
  ties : (s : State) → IsValid s → Tied s o q z list rest → Tied (final m s) o q z list rest

module _ (o q z : ℕ) (list rest : List ℕ) where
  tied_by : (s t : State) → Together t list → ((l r : ℕ) → (l ≡ z) ⊎ (0 < times rest l) → parent_of t.trees l ≡ Some r → parent_of s.trees l ≡ Some r) → Tied s o q z list rest → Tied t o q z list rest
  tied_by s t together parents w = record { together = together; own = λ r up. w.own r (parents z r (inl refl) up); apart = λ l r h up. w.apart l r h (parents l r (inr h) up) }

  tying_answer : {A : Type 0} (a : A) → Tying o q z list rest (answer a)
  tying_answer a = record { ties = λ s is w. rw (final-answer a s) w }

  tying_bind : {A B : Type 0} (m : Run A) (k : A → Run B) → Tying o q z list rest m → ((a : A) → Tying o q z list rest (k a)) → Tying o q z list rest (m >>= k)
  tying_bind m k h g = record { ties = λ s is w. rw (final-bind m k s) ((g (value m s)).ties (final m s) (valid_final m s is) (h.ties s is w)) }

  tying_look : {A : Type 0} (k : State → Run A) → ((s : State) → Tying o q z list rest (k s)) → Tying o q z list rest (look k)
  tying_look k h = record { ties = λ s is w. rw (final-look k s) ((h s).ties s is w) }

  tying_if : {A : Type 0} (v : Bool) (m k : Run A) → Tying o q z list rest m → Tying o q z list rest k → Tying o q z list rest (if v then m else k)
  tying_if true m k h g = h
  tying_if false m k h g = g

  tying_given : {A B : Type 0} (c : Option A) (m : Run B) (f : A → Run B) → Tying o q z list rest m → ((a : A) → Tying o q z list rest (f a)) → Tying o q z list rest (given c m f)
  tying_given None m f h g = h
  tying_given (Some a) m f h g = g a

  tying_remove : (k : ℕ) → Tying o q z list rest (remove k)
  tying_remove k = record {
    ties = λ s is w. (rw (final-edit (Remove k) s) (tied_by s (edited (Remove k) s) (together_removed list k s is w.together) (λ l r _ up. fewer_removed k s is l r up) w));
  }

ruleset tying = (tying_answer, tying_bind, tying_look, tying_if, tying_given, tying_remove)

-- ---- line breaks beside them

-- after the last one of those that stand where z stands
last_beside : (s : State) → IsValid s → (z x r : ℕ) (init rest front back : List ℕ) → parent_of s.trees z ≡ Some r → members s r rest ≡ [] → children_of s.trees r ≡ front ++ (members s r (init ++ z ∷ rest) ++ back)
    → (first : List ℕ) × (last : List ℕ) × (put_in (children_of s.trees r) (next_of s.trees z) x ≡ first ++ (members s r (init ++ z ∷ rest) ++ last))
last_beside s is z x r init rest front back up none kids =
    let m = members s r init in
    let all = members s r (init ++ z ∷ rest) in
    let tail : members s r (z ∷ rest) ≡ z ∷ [] = members-append s r (z ∷ []) rest ∙ (ap (λ k. k ++ members s r rest) (members-one s r z up) ∙ ap (λ k. z ∷ k) none) in
    let own : all ≡ m ++ z ∷ [] = members-append s r init (z ∷ rest) ∙ ap (λ k. m ++ k) tail in
    let shape : children_of s.trees r ≡ (front ++ m) ++ z ∷ back =
    kids ∙ (ap (λ k. front ++ (k ++ back)) own ∙ (ap (λ k. front ++ k) (append_assoc m (z ∷ []) back) ∙ sym (append_assoc front m (z ∷ back)))) in
    let k = ap (λ c. times c z) shape in
    let clear : times (front ++ m) z ≡ 0 = omega (arith, k, times-append (front ++ m) (z ∷ back) z, self_one z, times-children_of s.trees r z is.forest.distinct) in
    let next : next_of s.trees z ≡ first_in back = ap (λ o. option_and_then (λ p. after_in (children_of s.trees p) z) o) up ∙ (ap (λ c. after_in c z) shape ∙ after_in-middle (front ++ m) z back clear) in
    let parts : children_of s.trees r ≡ (front ++ all) ++ back = kids ∙ sym (append_assoc front all back) in
    let once : (n : ℕ) → times ((front ++ all) ++ back) n ≤ 1 = λ n. subst (λ c. times c n ≤ 1) parts (times-children_of s.trees r n is.forest.distinct) in
    (front, x ∷ back, ap (λ b. put_in (children_of s.trees r) b x) next ∙ (ap (λ c. put_in c (first_in back) x) parts ∙ (put_in-seam (front ++ all) back x once ∙ append_assoc front all (x ∷ back))))

module _ (o q z a : ℕ) (l init rest : List ℕ) (shape : a ∷ l ≡ init ++ z ∷ rest) where
  rest_few : (x : ℕ) → times (a ∷ l) x ≡ 0 → (times rest x ≡ 0) × (x ≢ z)
  rest_few x none =
      let k = ap (λ m. times m x) shape in
      let sum = times-append init (z ∷ rest) x in (
        omega (arith, none, k, sum),
        λ e. (let one : 0 < times (z ∷ rest) x = subst (λ m. 0 < times (m ∷ rest) x) e (omega (arith, self_one x)) in omega (arith, none, k, sum, one)),
      )

  -- a new node that is put in beside them
  tied_put : (s : State) → IsValid s → (x r : ℕ) (b : Option ℕ) → times (a ∷ l) x ≡ 0 → Tied s o q z (a ∷ l) rest
      → ((front back : List ℕ) → children_of s.trees r ≡ front ++ (members s r (a ∷ l) ++ back) → (first : List ℕ) × (last : List ℕ) × (put_in (children_of s.trees r) b x ≡ first ++ (members s r (a ∷ l) ++ last)))
      → Tied (edited (Insert r b x) s) o q z (a ∷ l) rest
  unfolding is_made_edit trees_after
  tied_put s is x r b none w beside = tied_by o q z (a ∷ l) rest s (edited (Insert r b x) s) (together_put (a ∷ l) x r b s is none w.together beside) parents w
    where
      other : (m : ℕ) → (m ≡ z) ⊎ (0 < times rest m) → x ≢ m
      other m (inl e) same = (rest_few x none).1 (same ∙ e)
      other m (inr h) same = let k = ap (times rest) same in omega (arith, k, h, (rest_few x none).0)

      parents : (m p : ℕ) → (m ≡ z) ⊎ (0 < times rest m) → parent_of (edited (Insert r b x) s).trees m ≡ Some p → parent_of s.trees m ≡ Some p
      parents m p h up = elim (cases_Bool (may_insert s r b x)) [
        | inr shut ↦ sym (ap (λ f. parent_of f m) (trees_left (Insert r b x) s shut)) ∙ up
        | inl may ↦ (
            let now = trees_made (Insert r b x) s may in
            let can = (inserts s r b x may).can in
            sym (ap (λ f. parent_of f m) now ∙ (parent-linked s.trees is.forest.distinct r b x m can ∙ rw (ne_eqb x m (other m h)) refl)) ∙ up)
      ]

  tied_made : (s : State) → IsValid s → Tied s o q z (a ∷ l) rest → Tied (made (Element (codes "br") []) s) o q z (a ∷ l) rest
  tied_made s is w = tied_by o q z (a ∷ l) rest s (made (Element (codes "br") []) s) (together_made (Element (codes "br") []) (a ∷ l) s is w.together) (λ m p _ up. sym (parent_new s is (codes "br") [] m) ∙ up) w

  tying_new : (k : ℕ → Run (Unit {0})) → ((x : ℕ) (s : State) → IsValid s → times (a ∷ l) x ≡ 0 → Tied s o q z (a ∷ l) rest → Tied (final (k x) s) o q z (a ∷ l) rest) → Tying o q z (a ∷ l) rest (make_element (codes "br") [] >>= k)
  tying_new k puts = record {
    ties = λ s is w. (
        rw (final-bind, value-make_element, final-make_element)
        (puts s.next (made (Element (codes "br") []) s) (valid_new s is (codes "br") []) (next_no_member (Element (codes "br") []) (a ∷ l) s is w.together) (tied_made s is w)));
  }

  before_first : (x : ℕ) (s : State) → IsValid s → times (a ∷ l) x ≡ 0 → Tied s o q z (a ∷ l) rest → Tied (final (insert_before a x) s) o q z (a ∷ l) rest
  before_first x s is none w = by_parent (parent_of s.trees a) refl
    where
      by_parent : (p : Option ℕ) → parent_of s.trees a ≡ p → Tied (final (insert_before a x) s) o q z (a ∷ l) rest
      by_parent None root = rw (before_nothing a x s root) w
      by_parent (Some r) up = rw (final_insert_before a x r s up) (tied_put s is x r (Some a) none w (λ front back kids. first_beside s is a x r l front back up kids))

  none_under : (s : State) (r : ℕ) → Tied s o q z (a ∷ l) rest → parent_of s.trees z ≡ Some r → members s r rest ≡ []
  none_under s r w up = members-none s r rest (λ m h. not_labelled (parent_of s.trees m) r (λ e. (let t = w.apart m r h e in elim (w.own r up) [ inl same ↦ t.0 same | inr same ↦ t.1 same ])))

  after_last : (x : ℕ) (s : State) → IsValid s → times (a ∷ l) x ≡ 0 → Tied s o q z (a ∷ l) rest → Tied (final (insert_after z x) s) o q z (a ∷ l) rest
  after_last x s is none w = by_parent (parent_of s.trees z) refl
    where
      by_parent : (p : Option ℕ) → parent_of s.trees z ≡ p → Tied (final (insert_after z x) s) o q z (a ∷ l) rest
      by_parent None root = rw (after_nothing z x s root) w
      by_parent (Some r) up =
          rw (final_insert_after z x r s up)
          (tied_put s is x r (next_of s.trees z) none w
          (λ front back kids. subst (λ k. (first : List ℕ) × (last : List ℕ) × (put_in (children_of s.trees r) (next_of s.trees z) x ≡ first ++ (members s r k ++ last))) (sym shape)
          (last_beside s is z x r init rest front back up (none_under s r w up) (kids ∙ ap (λ k. front ++ (members s r k ++ back)) shape))))

  tying_before : (wanted : Bool) → Tying o q z (a ∷ l) rest (break_before wanted a)
  unfolding break_before make_break
  tying_before wanted =
      tying_look o q z (a ∷ l) rest _
      (λ s. tying_if o q z (a ∷ l) rest (wanted && not (follows_break s.trees a)) _ _ (tying_new (insert_before a) before_first) (tying_answer o q z (a ∷ l) rest tt))

  tying_after : (wanted : Bool) → Tying o q z (a ∷ l) rest (break_after wanted z)
  unfolding break_after make_break
  tying_after wanted =
      tying_look o q z (a ∷ l) rest _
      (λ s. tying_if o q z (a ∷ l) rest (wanted && not (precedes_break s.trees z)) _ _ (tying_new (insert_after z) after_last) (tying_answer o q z (a ∷ l) rest tt))

  -- ---- what follows the moves

  tying_breaks_before : (n : ℕ) → Tying o q z (a ∷ l) rest (breaks_before n)
  unfolding breaks_before
  tying_breaks_before n = search tying

  tying_breaks_at_end : (n : ℕ) → Tying o q z (a ∷ l) rest (breaks_at_end n)
  unfolding breaks_at_end
  tying_breaks_at_end n = search tying

  tying_drop : Tying o q z (a ∷ l) rest (drop_first_break o z)
  unfolding drop_first_break
  tying_drop = search tying

  tying_close : (wanted : Bool) → Tying o q z (a ∷ l) rest (close o z wanted)
  unfolding close
  tying_close wanted = search (tying, tying_after, tying_breaks_before)

  tying_tidy : Tying o q z (a ∷ l) rest (tidy_after z)
  unfolding tidy_after
  tying_tidy = search (tying, tying_breaks_at_end)

  tying_tail : (before after : Bool) → Tying o q z (a ∷ l) rest (break_before before a >> (drop_first_break o z >> (close o z after >> tidy_after z)))
  tying_tail before after = search (tying, tying_before, tying_drop, tying_close, tying_tidy)

  tying_end : (wanted : Bool) → Tying o q z (a ∷ l) rest (break_after wanted z >> breaks_at_end o)
  tying_end wanted = search (tying, tying_after, tying_breaks_at_end)

-- ---- the whole

-- the last of the members under o, in the list
last_member : (s : State) (o : ℕ) (list : List ℕ) (z : ℕ) → last_in (members s o list) ≡ Some z → (init : List ℕ) × (rest : List ℕ) × ((list ≡ init ++ z ∷ rest) × (members s o rest ≡ []))
unfolding members
last_member s o [] z e = absurd (let k : None ≡ Some z = e in cc)
last_member s o (x ∷ xs) z e = by (is_label (parent_of s.trees x) o) (members s o xs) refl e (last_member s o xs z)
  where
    by : (v : Bool) (m : List ℕ) → members s o xs ≡ m → last_in (if v then x ∷ m else m) ≡ Some z → (last_in (members s o xs) ≡ Some z → (init : List ℕ) × (rest : List ℕ) × ((xs ≡ init ++ z ∷ rest) × (members s o rest ≡ [])))
        → (init : List ℕ) × (rest : List ℕ) × ((x ∷ xs ≡ init ++ z ∷ rest) × (members s o rest ≡ []))
    by true [] own e more = let same : x ≡ z = (let k = e in cc) in ([], xs, (ap (λ k. k ∷ xs) same, own))
    by false [] own e more = absurd (let k : None ≡ Some z = e in cc)
    by true (y ∷ m) own e more = let r = more (ap last_in own ∙ e) in (x ∷ r.0, r.1, (ap (λ k. x ∷ k) r.2.0, r.2.1))
    by false (y ∷ m) own e more = let r = more (ap last_in own ∙ e) in (x ∷ r.0, r.1, (ap (λ k. x ∷ k) r.2.0, r.2.1))

module _ (o q a z : ℕ) (l init rest : List ℕ) (shape : a ∷ l ≡ init ++ z ∷ rest) where
  z_inside : 0 < times (a ∷ l) z
  z_inside = let k = ap (λ m. times m z) shape in omega (arith, k, times-append init (z ∷ rest) z, self_one z)

  rest_inside : (m : ℕ) → 0 < times rest m → 0 < times (a ∷ l) m
  rest_inside m h = let k = ap (λ x. times x m) shape in omega (arith, k, h, times-append init (z ∷ rest) m)

  tied_led : (s t : State) → Ready s o q (a ∷ l) → parent_of s.trees z ≡ Some o → members s o rest ≡ [] → Led s t o q (a ∷ l) → Tied t o q z (a ∷ l) rest
  tied_led s t w own none led = record {
    together = led_together s w.is o q w.up (a ∷ l) w.together w.elsewhere t led;
    own = λ r up. elim (led.from z (member_among s o (a ∷ l) z z_inside own)) [
      | inl e ↦ inl (sym (let k : Some o ≡ Some r = sym e ∙ up in let k' = k in cc))
      | inr e ↦ inr (sym (let k : Some q ≡ Some r = sym e ∙ up in let k' = k in cc))
    ];
    apart = λ m r h up. (
        let out : parent_of s.trees m ≡ Some o → ⊥ = λ e. (let k = member_among s o rest m h e in let c = ap (λ x. times x m) none in omega (arith, k, c)) in
        let same : parent_of t.trees m ≡ parent_of s.trees m = led.since.same m (not_there m out (times (members s o (a ∷ l)) m) refl) in
        let before : parent_of s.trees m ≡ Some r = sym same ∙ up in
        (λ e. out (before ∙ ap Some e), λ e. w.elsewhere m (rest_inside m h) (before ∙ ap Some e)));
  }
    where
      not_there : (m : ℕ) → (parent_of s.trees m ≡ Some o → ⊥) → (k : ℕ) → times (members s o (a ∷ l)) m ≡ k → times (members s o (a ∷ l)) m ≡ 0
      not_there m out zero e = e
      not_there m out (suc k) e = absurd (out (member_owned s o (a ∷ l) m (omega (arith, e))))

  module _ (s : State) (w : Ready s o q (a ∷ l)) (own_a : parent_of s.trees a ≡ Some o) (own_z : parent_of s.trees z ≡ Some o) (none : members s o rest ≡ []) where
    rest_together : (before after : Bool) → Together (final (split_rest o (members s o (a ∷ l)) a z before after) s) (a ∷ l)
    unfolding split_rest
    rest_together before after =
        let m = members s o (a ∷ l) in
        let r = front_ready s o q a l w own_a m in
        let t : State = final (copy_front o m a) s in
        let same : members t o (a ∷ l) ≡ m = members-same s t o (a ∷ l) (λ k h. r.1.each k h) in
        let none_t : members t o rest ≡ [] = members-same s t o rest (λ k h. r.1.each k (rest_inside k h)) ∙ none in
        let led = led_before t r.0.is o q r.0.up (a ∷ l) r.0.together r.0.elsewhere in
        let tied = tied_led t (final (move_all_before (members t o (a ∷ l)) o) t) r.0 (r.1.each z z_inside ∙ own_z) none_t led in
        let tied' : Tied (final (move_all_before m o) t) o q z (a ∷ l) rest = subst (λ k. Tied (final (move_all_before k o) t) o q z (a ∷ l) rest) same tied in
        rw (final-bind, final-bind)
        ((tying_tail o q z a l init rest shape before after).ties (final (move_all_before m o) t) (valid_final (move_all_before m o) t r.0.is) tied').together

    end_together : (wanted : Bool) → Together (final (split_end o (members s o (a ∷ l)) z wanted) s) (a ∷ l)
    unfolding split_end
    end_together wanted =
        let m = members s o (a ∷ l) in
        let led = led_after s w.is o q w.up (a ∷ l) w.together w.elsewhere in
        let tied = tied_led s (final (move_all_after m o) s) w own_z none led in
        rw final-bind ((tying_end o q z a l init rest shape wanted).ties (final (move_all_after m o) s) (valid_final (move_all_after m o) s w.is) tied).together

    marked_together : Together (final (split_marked o (members s o (a ∷ l)) a z) s) (a ∷ l)
    unfolding split_marked
    marked_together = rw final-look (by (not (starts_in s o (members s o (a ∷ l))) && ends_in s o (members s o (a ∷ l))) (starts_in s o (members s o (a ∷ l)) && follows_break s.trees o) (ends_in s o (members s o (a ∷ l)) && precedes_break s.trees o))
      where
        by : (v before after : Bool) → Together (final (if v then split_end o (members s o (a ∷ l)) z after else split_rest o (members s o (a ∷ l)) a z before after) s) (a ∷ l)
        by true before after = end_together after
        by false before after = rest_together before after

  -- ---- the line breaks before o may go first

  module _ (s : State) (w : Ready s o q (a ∷ l)) (own_a : parent_of s.trees a ≡ Some o) (own_z : parent_of s.trees z ≡ Some o) (none : members s o rest ≡ []) where
    stays_under : (m : ℕ) → parent_of s.trees m ≡ Some o → parent_of (final (breaks_before o) s).trees m ≡ Some o
    stays_under m up =
        let t : State = final (breaks_before o) s in
        let p = child_parted s w.is m o up in
        let kids : children_of t.trees o ≡ p.0 ++ m ∷ p.1 = (cleared o s w.is).children ∙ p.2 in
        child_by t (valid_final (breaks_before o) s w.is) o m (let k = ap (λ c. times c m) kids in omega (arith, k, times-append p.0 (m ∷ p.1) m, self_one m))

    label_same : (m : ℕ) → is_label (parent_of (final (breaks_before o) s).trees m) o ≡ is_label (parent_of s.trees m) o
    label_same m = by (is_label (parent_of s.trees m) o) refl
      where
        by : (v : Bool) → is_label (parent_of s.trees m) o ≡ v → is_label (parent_of (final (breaks_before o) s).trees m) o ≡ is_label (parent_of s.trees m) o
        by true e = ap (λ p. is_label p o) (stays_under m (label_is (parent_of s.trees m) o e)) ∙ (eqb_refl_true o ∙ sym e)
        by false e =
            not_labelled (parent_of (final (breaks_before o) s).trees m) o
            (λ up. true≢false (sym (ap (λ p. is_label p o) (fewer_breaks o s w.is m o up) ∙ eqb_refl_true o) ∙ e))
            ∙ sym e

    cleared_together : Together (final (split_marked o (members s o (a ∷ l)) a z) (final (breaks_before o) s)) (a ∷ l)
    cleared_together =
        let t : State = final (breaks_before o) s in
        let u = cleared o s w.is in
        let ready : Ready t o q (a ∷ l) = record {
          is = valid_final (breaks_before o) s w.is;
          together = (holding_breaks (a ∷ l) o).holds s w.is w.together;
          up = u.parent q w.up;
          elsewhere = λ m h up. w.elsewhere m h (fewer_breaks o s w.is m q up);
        } in
        let same : members t o (a ∷ l) ≡ members s o (a ∷ l) = alike s t o (a ∷ l) (λ m _. label_same m) in
        let none_t : members t o rest ≡ [] = alike s t o rest (λ m _. label_same m) ∙ none in
        subst (λ k. Together (final (split_marked o k a z) t) (a ∷ l)) same (marked_together t ready (stays_under a own_a) (stays_under z own_z) none_t)

    at_together : Together (final (split_at o (members s o (a ∷ l)) a z) s) (a ∷ l)
    unfolding split_at clear_before
    at_together = rw final-look (by (not (is_editable_for s o) || (is_none (parent_of s.trees o) || is_void_thing s o)))
      where
        by_start : (v : Bool) → Together (final (split_marked o (members s o (a ∷ l)) a z) (final (if v then breaks_before o else done) s)) (a ∷ l)
        by_start true = cleared_together
        by_start false = rw final-answer (marked_together s w own_a own_z none)

        by : (v : Bool) → Together (final (if v then done else (look (λ t. if starts_in t o (members s o (a ∷ l)) then breaks_before o else done) >> split_marked o (members s o (a ∷ l)) a z)) s) (a ∷ l)
        by true = rw final-answer w.together
        by false = rw (final-bind, final-look) (by_start (starts_in s o (members s o (a ∷ l))))

-- the parent of the first member, which has no other of the list beside it
pub split_list_together : (s : State) → IsValid s → (a o : ℕ) (l : List ℕ) → Together s (a ∷ l) → parent_of s.trees a ≡ Some o → ((q m : ℕ) → parent_of s.trees o ≡ Some q → 0 < times (a ∷ l) m → parent_of s.trees m ≡ Some q → ⊥)
    → Together (final (split_parent (a ∷ l)) s) (a ∷ l)
unfolding split_parent first_parent split_members
split_list_together s is a o l w own elsewhere =
    let z = last_some None a (members s o l) in
    let first : members s o (a ∷ l) ≡ a ∷ members s o l = members-append s o (a ∷ []) l ∙ ap (λ m. m ++ members s o l) (members-one s o a own) in
    let last : last_in (members s o (a ∷ l)) ≡ Some z.0 = ap last_in first ∙ z.1 in
    let r = last_member s o (a ∷ l) z.0 last in
    rw (final-look, own) (by_ends (first_in (members s o (a ∷ l))) (last_in (members s o (a ∷ l))) (ap first_in first) last (by_parent (parent_of s.trees o) refl z.0 last r))
  where
    by_parent : (p : Option ℕ) → parent_of s.trees o ≡ p → (z : ℕ) → last_in (members s o (a ∷ l)) ≡ Some z → ((init : List ℕ) × (rest : List ℕ) × ((a ∷ l ≡ init ++ z ∷ rest) × (members s o rest ≡ []))) → Together (final (split_at o (members s o (a ∷ l)) a z) s) (a ∷ l)
    by_parent None root z last r = rootless z root
      where
        rootless : (z : ℕ) → parent_of s.trees o ≡ None → Together (final (split_at o (members s o (a ∷ l)) a z) s) (a ∷ l)
        rootless z root = subst (λ t. Together t (a ∷ l)) (sym (nothing_split s o (members s o (a ∷ l)) a z root)) w
    by_parent (Some q) up z last r =
        let own_z : parent_of s.trees z ≡ Some o = member_owned s o (a ∷ l) z (let i = last_parted (members s o (a ∷ l)) z last in let k = ap (λ m. times m z) i.1 in omega (arith, k, times-append i.0 (z ∷ []) z, self_one z)) in
        at_together o q a z l r.0 r.1 r.2.0 s (record { is = is; together = w; up = up; elsewhere = λ m h e. elsewhere q m up h e }) own own_z r.2.1

    by_ends : (f e : Option ℕ) → f ≡ Some a → {z : ℕ} → e ≡ Some z → Together (final (split_at o (members s o (a ∷ l)) a z) s) (a ∷ l) → Together (final (given f done (λ a'. given e done (λ z'. split_at o (members s o (a ∷ l)) a' z'))) s) (a ∷ l)
    by_ends None e same last more = absurd (let k : None ≡ Some a = same in cc)
    by_ends (Some b) None same last more = absurd (let k : None ≡ Some _ = last in cc)
    by_ends (Some b) (Some y) same {z} last more =
        let here : a ≡ b = sym (let k : Some b ≡ Some a = same in let k' = k in cc) in
        let there : z ≡ y = sym (let k : Some y ≡ Some z = last in let k' = k in cc) in
        subst (λ c. Together (final (split_at o (members s o (a ∷ l)) c y) s) (a ∷ l)) here (subst (λ c. Together (final (split_at o (members s o (a ∷ l)) a c) s) (a ∷ l)) there more)
