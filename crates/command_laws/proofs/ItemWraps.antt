-- A turn of collecting items: a line is wrapped in a new item, and the items stay together with it.
use Rattle.std.proofs.Common.{◌≡◌, ◌≢◌, ℕ, ◌<◌, zero, suc, Bool, true, false, ◌&&◌, ◌||◌, if◌then◌else◌, List, [], ◌∷◌, ◌++◌, reverse, Option, Some, None, refl, sym, ap, subst, ◌∙◌, inl, inr, arith, append_assoc}
use Rattle.std.specs.Option.{option_map_or}
use Rattle.std.specs.Prelude.{codes}
use Rattle.std.proofs.lemmas.Bool.{cases_Bool}
use Rattle.std.proofs.lemmas.List.{append-nil}
use Rattle.edit_model.specs.DomModel.declared.Content.{Content}
use Rattle.edit_model.specs.DomModel.declared.Content.TheVariants.{Element}
use Rattle.edit_model.specs.DomModel.Contents.{is_parent_at, may_have_children}
use Rattle.edit_model.specs.DomModel.Forest.{times, either, first_in, last_in, parent_of, prev_of, next_of, children_of, content_of}
use Rattle.edit_model.proofs.DomModel.Lists.{times-append}
use Rattle.edit_model.proofs.DomModel.Links.{times-children_of}
use Rattle.inline_value.specs.NodeStyles.Blocks.{is_block}
use Rattle.edit_model.specs.PointOrder.PointOrder.{is_earlier}
use Rattle.edit_model.specs.State.{State}
use Rattle.edit_model.specs.Confined.{is_editable_for, is_inside, is_made, is_open, may_move}
use Rattle.edit_model.specs.Edit.{Insert, Move, edited}
use Rattle.edit_model.specs.Action.{made}
use Rattle.edit_model.specs.Valid.{IsValid}
use Rattle.edit_model.specs.Moves.{move_first, move_last, move_all_first, move_each_last}
use Rattle.edit_model.specs.Run.{Run, final, value, ◌>>◌, answer, done, given, for_each}
use Rattle.edit_model.proofs.CommandParts.{SameCommand, final_command}
use Rattle.edit_model.proofs.Steps.{final-bind, final-answer, final-look, final-edit, final-make_element, value-bind, value-answer, value-look, value-make_element, final_next}
use Rattle.edit_laws.proofs.Adopting.{final_insert_before}
use Rattle.edit_laws.proofs.Around.{self_one}
use Rattle.edit_laws.proofs.Handing.{final_move_last}
use Rattle.edit_laws.proofs.Lifting.{move_stays}
use Rattle.edit_laws.proofs.Fronts.{child_by}
use Rattle.edit_laws.proofs.Slides.{each_stays}
use Rattle.inline_value.specs.EditActions.Siblings.{first_parent, members}
use Rattle.inline_value.specs.WrapSplit.declared.rule.Criterion.TheVariants.{Never}
use Rattle.inline_value.specs.WrapSplit.declared.rule.Recipe.TheVariants.{Make}
use Rattle.inline_value.specs.WrapSplit.Breaks.{breaks_before, breaks_at_end, breaks_from}
use Rattle.inline_value.specs.WrapSplit.Target.{meets, if_fits, beside, blank_of, made_of, made_by, target}
use Rattle.inline_value.specs.WrapSplit.Walks.{turn_bound}
use Rattle.inline_value.specs.WrapSplit.Wrap.{all_hidden, if_hidden, list_on, extended_front, hidden_after, one_of, break_next, with_break, extended, extended_back, widened, first_visible, last_visible, append_break, prepend_break, needs_br, joins_front, separate_with_br, append_all, parted_front, prepend_all, moved_in, grow_at, insert_if_loose, drop_empty, drop_parent, merged, merge_next, filled_from, filled, into_target, wrap_ends, wrap_list, wrap_members, wrap}
use Rattle.inline_value.specs.Wrappers.{bare}
use Rattle.command_laws.proofs.Sides.{before_list}
use Rattle.command_laws.proofs.Splitting.{last_some, all_members}
use Rattle.command_laws.proofs.SteadySplits.{valid_final}
use Rattle.command_laws.proofs.Widening.{Siblings, first_parted, member, widened_siblings}
use Rattle.command_laws.proofs.Gone.{gone_all}
use Rattle.command_laws.proofs.Growing.{Grown, Growing, growing, growing_answer, growing_look}
use Rattle.command_laws.proofs.ItemTurns.{Turn, Place, place_of, not_above, item_name}
use Rattle.command_laws.proofs.Putting.{valid_new, next_new, parent_new, children_new, root_new, empty_new, content_old, open_new, new_child, new_parent, shut_put, put_new}
use Rattle.command_laws.proofs.SplitLists.{times-reverse}
use Rattle.command_laws.proofs.Swallowing.{before_same, taken_grown, loose_grown}
use Rattle.command_laws.proofs.Wrapping.{grown_trees}

-- ---- what a list is widened by

module _ (s : State) where
  front_parts : (n a : ℕ) (list : List ℕ) → (ahead : List ℕ) × (extended_front s n a list ≡ ahead ++ list)
  unfolding extended_front
  front_parts zero a list = ([], refl)
  front_parts (suc n) a list = by_prev (prev_of s.trees a) (λ q. front_parts n q (q ∷ list))
    where
      grown : (q : ℕ) → (ahead : List ℕ) × (extended_front s n q (q ∷ list) ≡ ahead ++ (q ∷ list)) → (ahead : List ℕ) × (extended_front s n q (q ∷ list) ≡ ahead ++ list)
      grown q r = (r.0 ++ q ∷ [], r.1 ∙ sym (append_assoc r.0 (q ∷ []) list))

      by_test : (q : ℕ) (v : Bool) → (ahead : List ℕ) × (extended_front s n q (q ∷ list) ≡ ahead ++ (q ∷ list)) → (ahead : List ℕ) × (list_on (if v then Some q else None) list (λ q. extended_front s n q (q ∷ list)) ≡ ahead ++ list)
      by_test q true r = grown q r
      by_test q false r = ([], refl)

      by_prev : (o : Option ℕ) → ((q : ℕ) → (ahead : List ℕ) × (extended_front s n q (q ∷ list) ≡ ahead ++ (q ∷ list))) → (ahead : List ℕ) × (list_on (if_hidden s o) list (λ q. extended_front s n q (q ∷ list)) ≡ ahead ++ list)
      by_prev None more = ([], refl)
      by_prev (Some q) more = by_test q _ (more q)

  back_parts : (list : List ℕ) → (behind : List ℕ) × (extended_back s list ≡ list ++ behind)
  unfolding extended_back
  back_parts list = by_last (last_in list)
    where
      by_last : (o : Option ℕ) → (behind : List ℕ) × (list_on o list (λ z. list ++ hidden_after s (turn_bound s) z) ≡ list ++ behind)
      by_last None = ([], sym (append-nil list))
      by_last (Some z) = (hidden_after s (turn_bound s) z, refl)

  widened_parts : (list : List ℕ) (a z : ℕ) → (ahead : List ℕ) × (behind : List ℕ) × (widened s list a z ≡ ahead ++ (list ++ behind))
  unfolding widened with_break extended
  widened_parts list a z =
      let more = one_of (break_next s z) in
      let f = front_parts (turn_bound s) a (list ++ more) in
      let b = back_parts (extended_front s (turn_bound s) a (list ++ more)) in
      (f.0, more ++ b.0, b.1 ∙ (ap (λ m. m ++ b.0) f.1 ∙ (append_assoc f.0 (list ++ more) b.0 ∙ ap (λ m. f.0 ++ m) (append_assoc list more b.0))))

-- ---- nothing meets the criterion, and a new item has nothing that could join

never_fits : (s : State) (o : Option ℕ) → if_fits Never s o ≡ None
unfolding meets
never_fits s None = refl
never_fits s (Some p) = by (is_editable_for s p)
  where
    by : (v : Bool) → (if v && false then Some p else None) ≡ None
    by true = refl
    by false = refl

none_parted : (p : ℕ) (after : Option ℕ) (s : State) → final (separate_with_br p (last_visible s []) after) s ≡ s
unfolding separate_with_br needs_br last_visible
none_parted p after s = rw final-look (by (is_block s.trees p))
  where
    by : (v : Bool) → final (if v && false then append_break p else done) s ≡ s
    by true = rw final-answer refl
    by false = rw final-answer refl

none_before : (p : ℕ) (list : List ℕ) (s : State) → children_of s.trees p ≡ [] → final (parted_front p list) s ≡ s
unfolding parted_front joins_front first_visible
none_before p list s empty = rw (final-look, empty) (by (is_block s.trees p))
  where
    by : (v : Bool) → final (if v && false then prepend_break p else done) s ≡ s
    by true = rw final-answer refl
    by false = rw final-answer refl

open_alike : (s t : State) (l : ℕ) → SameCommand s t → t.trees ≡ s.trees → is_open t l ≡ is_open s l
unfolding is_open is_inside is_editable_for is_made
open_alike s t l command same = rw (command.host, command.start, same) refl

made_open : (s : State) (l : ℕ) → is_made s l ≡ true → is_open s l ≡ true
unfolding is_open
made_open s l h = rw h (by (is_inside s l))
  where
    by : (v : Bool) → (v || true) ≡ true
    by true = refl
    by false = refl

-- ---- the wrap

module _ (s : State) (items : List ℕ) (x q n : ℕ) (w : Turn s items x q n) where
  p : ℕ
  p = s.next

  s1 : State
  s1 = made (Element (codes "li") []) s

  -- what follows the moves
  rest_run : (o : Option ℕ) → Run (Option ℕ)
  rest_run o = drop_parent o >> (merge_next Never s.next >> (breaks_from s.next >> answer (Some s.next)))

  growing_drop : (o : Option ℕ) → Growing (items ++ s.next ∷ []) q n (drop_parent o)
  unfolding drop_parent drop_empty
  growing_drop o = search growing

  growing_merge : Growing (items ++ s.next ∷ []) q n (merge_next Never s.next)
  unfolding merge_next
  growing_merge =
      growing_look (items ++ s.next ∷ []) q n _
      (λ t. subst (λ o. Growing (items ++ s.next ∷ []) q n (given o done (merged s.next))) (sym (never_fits t (next_of t.trees s.next))) (growing_answer (items ++ s.next ∷ []) q n tt))

  growing_breaks : Growing (items ++ s.next ∷ []) q n (breaks_from s.next)
  unfolding breaks_from breaks_before breaks_at_end
  growing_breaks = search growing depth 9

  growing_rest : (o : Option ℕ) → Growing (items ++ s.next ∷ []) q n (rest_run o)
  unfolding rest_run
  growing_rest o = search (growing, growing_drop, growing_merge, growing_breaks)

  rest_value : (o : Option ℕ) (t : State) → value (rest_run o) t ≡ Some s.next
  unfolding rest_run
  rest_value o t = rw (value-bind, value-bind, value-bind, value-answer) refl

  module _ (ahead behind front rest : List ℕ) (a : ℕ) (kids : children_of s.trees q ≡ front ++ ((ahead ++ behind) ++ rest)) (first : first_in (ahead ++ behind) ≡ Some a) (place : Place s items x q) (start : place.front ++ members s q items ≡ front ++ ahead) where
    list : List ℕ
    list = ahead ++ behind

    more : List ℕ
    more = (first_parted (ahead ++ behind) a first).0

    shape : children_of s.trees q ≡ front ++ a ∷ (more ++ rest)
    unfolding more
    shape = kids ∙ ap (λ m. front ++ (m ++ rest)) (first_parted (ahead ++ behind) a first).1

    up_a : parent_of s.trees a ≡ Some q
    up_a = child_by s w.is q a (let k = ap (λ m. times m a) shape in omega (arith, k, times-append front (a ∷ (more ++ rest)) a, self_one a))

    under : (l : ℕ) → 0 < times (ahead ++ behind) l → parent_of s.trees l ≡ Some q
    under l h = member s w.is q front (ahead ++ behind) rest kids l h

    new_no_member : times (ahead ++ behind) s.next ≡ 0
    new_no_member = by (times (ahead ++ behind) s.next) refl
      where
        by : (k : ℕ) → times (ahead ++ behind) s.next ≡ k → times (ahead ++ behind) s.next ≡ 0
        by zero e = e
        by (suc k) e = absurd (new_child s w.is (codes "li") [] s.next q (under s.next (omega (arith, e))) refl)

    -- where q is open
    module _ (opened : is_open s q ≡ true) where
      s2 : State
      s2 = edited (Insert q (Some a) s.next) s1

      s3 : State
      s3 = final (grow_at s.next) s2

      stands : final (insert_if_loose s.next a) s1 ≡ s3
      unfolding insert_if_loose s1 s2 s3
      stands = rw (final-look, root_new s w.is (codes "li") [], final-bind, final_insert_before a s.next q s1 (parent_new s w.is (codes "li") [] a ∙ up_a)) refl

      trees3 : s3.trees ≡ s2.trees
      unfolding s3
      trees3 = grown_trees s.next s2

      goes_in : Grown (final (moved_in s.next (ahead ++ behind) a) s3) (items ++ s.next ∷ []) q n
      unfolding moved_in append_all move_each_last s1 s2 s3 more
      goes_in =
          let put = put_new s w.is (codes "li") [] a q front (more ++ rest) up_a shape opened in
          let is3 : IsValid s3 = valid_final (grow_at s.next) s2 put.valid in
          let command : SameCommand s2 s3 = final_command (grow_at s.next) s2 in
          let inner : children_of s3.trees s.next ≡ [] = ap (λ f. children_of f s.next) trees3 ∙ put.inner in
          let above : children_of s3.trees q ≡ front ++ s.next ∷ ((ahead ++ behind) ++ rest) =
          ap (λ f. children_of f q) trees3 ∙ (put.above ∙ ap (λ m. front ++ s.next ∷ (m ++ rest)) (sym (first_parted (ahead ++ behind) a first).1)) in
          let own : parent_of s3.trees s.next ≡ Some q = ap (λ f. parent_of f s.next) trees3 ∙ put.own in
          let open_q : is_open s3 q ≡ true = open_alike s2 s3 q command trees3 ∙ put.opened in
          let open_p : is_open s3 s.next ≡ true = open_alike s2 s3 s.next command trees3 ∙ made_open s2 s.next put.mine in
          let kind : is_parent_at s3.trees s.next ≡ true = ap (λ (c : Option Content). option_map_or may_have_children c false) (ap (λ f. content_of f s.next) trees3 ∙ put.named) in
          let among : 0 < times ((ahead ++ behind) ++ rest) a = (let k = ap (λ m. times m a) (first_parted (ahead ++ behind) a first).1 in omega (arith, k, self_one a, times-append (ahead ++ behind) rest a)) in
          let earlier = before_list s3 is3 s.next a q front ((ahead ++ behind) ++ rest) above among in
          let gone = gone_all (ahead ++ behind) (front ++ s.next ∷ []) rest q s.next s3 is3 own open_q open_p kind (above ∙ sym (append_assoc front (s.next ∷ []) ((ahead ++ behind) ++ rest))) new_no_member in
          let u : State = final (for_each (ahead ++ behind) (move_last s.next)) s3 in
          let parents3 : (l : ℕ) → s.next ≢ l → parent_of s3.trees l ≡ parent_of s.trees l = λ l off. ap (λ f. parent_of f l) trees3 ∙ put.parent l off in
          rw (final-look, earlier, final-look, final-bind, inner)
          (rw (none_parted s.next (first_visible s3 (ahead ++ behind)) s3)
          (taken_grown s w.is items q n w.grown (new_child s w.is (codes "li") []) (new_parent s w.is (codes "li") []) (not_above s items x q n w) u ahead behind front rest kids place.piece
          (ap (λ l. l ++ members s q items) place.first ∙ start)
          (record {
            own = gone.stays s.next new_no_member ∙ own;
            moved = gone.moved;
            stays = λ l none off. gone.stays l none ∙ parents3 l off;
            above = gone.above ∙ append_assoc front (s.next ∷ []) rest;
            inner = gone.inner ∙ ap (λ m. m ++ (ahead ++ behind)) inner;
            others = λ o no_q no_p. gone.others o no_q no_p ∙ (ap (λ f. children_of f o) trees3 ∙ put.others o no_q);
            content = λ l off. gone.content l ∙ (ap (λ f. content_of f l) trees3 ∙ put.content l off);
            named = item_name u s.next [] (gone.content s.next ∙ (ap (λ f. content_of f s.next) trees3 ∙ put.named));
            more = later put.more;
          })))
        where
          later : s.next < s2.next → s.next < (final (for_each (ahead ++ behind) (move_last s.next)) s3).next
          later h = omega (arith, h, final_next (grow_at s.next) s2, final_next (for_each (ahead ++ behind) (move_last s.next)) s3)

    -- where it isn't
    module _ (shut : is_open s q ≡ false) where
      shut1 : is_open s1 q ≡ false
      unfolding s1
      shut1 = open_new s w.is (codes "li") [] q (new_parent s w.is (codes "li") [] a q up_a) ∙ shut

      up1 : (l : ℕ) → 0 < times (ahead ++ behind) l → parent_of s1.trees l ≡ Some q
      unfolding s1
      up1 l h = parent_new s w.is (codes "li") [] l ∙ under l h

      stays_loose : final (insert_if_loose s.next a) s1 ≡ s1
      unfolding insert_if_loose s1 grow_at
      stays_loose =
          rw (final-look, root_new s w.is (codes "li") [], final-bind, final_insert_before a s.next q (made (Element (codes "li") []) s) (parent_new s w.is (codes "li") [] a ∙ up_a), shut_put s w.is (codes "li") [] a q up_a shut)
          (rw (final-look, root_new s w.is (codes "li") [], final-answer) refl)

      no_move : (l : ℕ) (b : Option ℕ) → 0 < times (ahead ++ behind) l → edited (Move l s.next b) s1 ≡ s1
      unfolding may_move
      no_move l b h = move_stays l s.next b s1 (rw (up1 l h, shut1) refl)

      one_first : (l : ℕ) → 0 < times (reverse (ahead ++ behind)) l → final (move_first s.next l) s1 ≡ s1
      unfolding move_first
      one_first l h = rw (final-look, final-bind, final-edit, final-answer) (no_move l _ (omega (arith, h, times-reverse (ahead ++ behind) l)))

      empty1 : children_of s1.trees s.next ≡ []
      unfolding s1
      empty1 = empty_new s w.is (codes "li") []

      nothing_goes : final (moved_in s.next (ahead ++ behind) a) s1 ≡ s1
      unfolding moved_in append_all prepend_all move_each_last move_all_first
      nothing_goes = rw final-look (by_side (is_earlier s1.trees s.next a))
        where
          by_side : (v : Bool) → final (if v then append_all s.next (ahead ++ behind) else prepend_all s.next (ahead ++ behind)) s1 ≡ s1
          by_side true =
              rw (final-look, final-bind, empty1, none_parted s.next (first_visible s1 (ahead ++ behind)) s1)
              (each_stays (ahead ++ behind) (move_last s.next) s1 (λ l h. final_move_last s.next l s1 ∙ no_move l None h))
          by_side false =
              rw (final-bind, none_before s.next (ahead ++ behind) s1 empty1)
              (each_stays (reverse (ahead ++ behind)) (move_first s.next) s1 one_first)

      loose_item : Grown s1 (items ++ s.next ∷ []) q n
      unfolding s1
      loose_item =
          loose_grown s w.is items q n w.grown (new_child s w.is (codes "li") []) (new_parent s w.is (codes "li") []) (not_above s items x q n w) (made (Element (codes "li") []) s)
          (parent_new s w.is (codes "li") []) (children_new s w.is (codes "li") []) (content_old s w.is (codes "li") []) (root_new s w.is (codes "li") []) (next_new s w.is (codes "li") [])

    -- what the run leaves, with what it answers
    Fits : Run (Option ℕ) → State → Type 0
    Fits m t = Grown (final m t) (items ++ one_of (value m t)) q n

    after_moves : (t : State) → IsValid t → (o : Option ℕ) → Grown (final (moved_in s.next (ahead ++ behind) a) t) (items ++ s.next ∷ []) q n → Fits (moved_in s.next (ahead ++ behind) a >> rest_run o) t
    unfolding Fits
    after_moves t is_t o g =
        let u : State = final (moved_in s.next (ahead ++ behind) a) t in
        rw (final-bind, value-bind, rest_value o u) ((growing_rest o).grows u (valid_final (moved_in s.next (ahead ++ behind) a) t is_t) g)

    from_insert_if_loose : (t : State) → IsValid t → Grown (final (moved_in s.next (ahead ++ behind) a) t) (items ++ s.next ∷ []) q n → Fits (filled_from Never s.next (ahead ++ behind) a (parent_of t.trees a)) t
    unfolding filled_from rest_run
    from_insert_if_loose t is_t g = after_moves t is_t (parent_of t.trees a) g

    valid_one : IsValid s1
    unfolding s1
    valid_one = valid_new s w.is (codes "li") []

    valid_three : (opened : is_open s q ≡ true) → IsValid (s3 opened)
    unfolding s3 s2 s1
    valid_three opened = valid_final (grow_at s.next) (edited (Insert q (Some a) s.next) (made (Element (codes "li") []) s)) (put_new s w.is (codes "li") [] a q front (more ++ rest) up_a shape opened).valid

    filled_grown : Fits (filled Never s.next (ahead ++ behind) a) s1
    unfolding filled Fits
    filled_grown =
        let is1 : IsValid s1 = valid_one in
        rw (final-bind, value-bind, final-look, value-look)
        (elim (cases_Bool (is_open s q)) [
          | inl opened ↦ rw (stands opened) (from_insert_if_loose (s3 opened) (valid_three opened) (goes_in opened))
          | inr shut ↦ rw (stays_loose shut) (from_insert_if_loose s1 is1 (rw (nothing_goes shut) (loose_item shut)))
        ])

    -- what follows the choice
    Goes : Run (Option ℕ) → Type 0
    Goes m = Fits (into_target Never (ahead ++ behind) a (value m s)) (final m s)

    with_new : Fits (into_target Never (ahead ++ behind) a (Some s.next)) (made (Element (codes "li") []) s)
    unfolding into_target s1
    with_new = filled_grown

    by_recipe : Goes (made_by (Make (bare (codes "li"))))
    unfolding Goes made_by blank_of made_of
    by_recipe = rw (value-bind, value-answer, value-make_element, final-bind, final-answer, final-make_element) with_new

    ends_grown : (z : ℕ) → Fits (wrap_ends Never (Make (bare (codes "li"))) (ahead ++ behind) a z) s
    unfolding wrap_ends target beside Fits Goes
    ends_grown z = rw (final-bind, value-bind, final-look, value-look) (by_fits (if_fits Never s (prev_of s.trees a)) (if_fits Never s (next_of s.trees z)) (never_fits s (prev_of s.trees a)) (never_fits s (next_of s.trees z)))
      where
        by_fits : (m k : Option ℕ) → m ≡ None → k ≡ None → Goes (given (either m k) (made_by (Make (bare (codes "li")))) (λ p. answer (Some p)))
        by_fits None None e h = by_recipe
        by_fits None (Some y) e h = absurd (let k : None ≡ Some y = sym h in cc)
        by_fits (Some y) k e h = absurd (let k : None ≡ Some y = sym e in cc)

  Made : Run (Option ℕ) → Type 0
  Made m = Grown (final m s) (items ++ one_of (value m s)) q n

  none_made : Made (answer None)
  unfolding Made
  none_made = rw (final-answer, value-answer) (subst (λ l. Grown s l q n) (sym (append-nil items)) w.grown)

  list_grown : (ahead behind front rest : List ℕ) → children_of s.trees q ≡ front ++ ((ahead ++ behind) ++ rest) → (place : Place s items x q) → place.front ++ members s q items ≡ front ++ ahead → Made (wrap_list Never (Make (bare (codes "li"))) (ahead ++ behind))
  unfolding wrap_list Made Fits
  list_grown ahead behind front rest kids place start = by_ends (first_in (ahead ++ behind)) (last_in (ahead ++ behind)) refl
    where
      by_ends : (f l : Option ℕ) → first_in (ahead ++ behind) ≡ f → Made (given f (answer None) (λ a. given l (answer None) (λ z. wrap_ends Never (Make (bare (codes "li"))) (ahead ++ behind) a z)))
      by_ends None l e = none_made
      by_ends (Some a) None e = none_made
      by_ends (Some a) (Some z) e = ends_grown ahead behind front rest a kids e place start z

  module _ (line : List ℕ) (series : Siblings s q (x ∷ line)) where
    wide_grown : (z : ℕ) → last_in (x ∷ line) ≡ Some z → Made (wrap_list Never (Make (bare (codes "li"))) (widened s (x ∷ line) x z))
    wide_grown z last =
        let wide = widened_siblings s w.is q (x ∷ line) x z series refl last in
        let parts = widened_parts s (x ∷ line) x z in
        let behind = (x ∷ line) ++ parts.1 in
        let kids : children_of s.trees q ≡ wide.front ++ ((parts.0 ++ behind) ++ wide.rest) = wide.is ∙ ap (λ m. wide.front ++ (m ++ wide.rest)) parts.2 in
        let place = place_of s items x q n w in
        let other : children_of s.trees q ≡ (wide.front ++ parts.0) ++ x ∷ ((line ++ parts.1) ++ wide.rest) =
        kids ∙ (ap (λ m. wide.front ++ m) (append_assoc parts.0 behind wide.rest) ∙ sym (append_assoc wide.front parts.0 (x ∷ ((line ++ parts.1) ++ wide.rest)))) in
        let once = times-children_of s.trees q x w.is.forest.distinct in
        let c = ap (λ m. times m x) place.is in
        let d = ap (λ m. times m x) other in
        let none : times (place.front ++ members s q items) x ≡ 0 = omega (arith, c, once, times-append (place.front ++ members s q items) (x ∷ place.rest) x, self_one x) in
        let none' : times (wide.front ++ parts.0) x ≡ 0 = omega (arith, d, once, times-append (wide.front ++ parts.0) (x ∷ ((line ++ parts.1) ++ wide.rest)) x, self_one x) in
        let start = before_same (place.front ++ members s q items) place.rest (wide.front ++ parts.0) ((line ++ parts.1) ++ wide.rest) x none none' (sym place.is ∙ other) in
        subst (λ m. Made (wrap_list Never (Make (bare (codes "li"))) m)) (sym parts.2) (list_grown parts.0 behind wide.front wide.rest kids place start)

    members_grown : Made (wrap_members Never (Make (bare (codes "li"))) (x ∷ line))
    unfolding wrap_members Made
    members_grown =
        let z = last_some None x line in
        rw (final-look, value-look, z.1) (by_hidden z.0 z.1 (all_hidden s (x ∷ line)))
      where
        by_hidden : (z : ℕ) → last_in (x ∷ line) ≡ Some z → (v : Bool) → Made (if v then answer None else wrap_list Never (Make (bare (codes "li"))) (widened s (x ∷ line) x z))
        by_hidden z e true = none_made
        by_hidden z e false = wide_grown z e

    pub wrapped_grown : Grown (final (wrap Never (Make (bare (codes "li"))) (x ∷ line)) s) (items ++ one_of (value (wrap Never (Make (bare (codes "li"))) (x ∷ line)) s)) q n
    unfolding wrap first_parent Made
    wrapped_grown =
        let owned : (l : ℕ) → 0 < times (x ∷ line) l → parent_of s.trees l ≡ Some q = λ l h. member s w.is q series.front (x ∷ line) series.rest series.is l h in
        rw (final-look, value-look, w.up) (subst (λ m. Made (wrap_members Never (Make (bare (codes "li"))) m)) (sym (all_members s q (x ∷ line) owned)) members_grown)
