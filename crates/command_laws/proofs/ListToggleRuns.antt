-- Toggling lists keeps the order, and leaves the states of contenteditable.
use Rattle.std.proofs.Common.{◌≡◌, ℕ, ◌<◌, ◌≤◌, zero, suc, Bool, true, false, not, ◌&&◌, ◌||◌, if◌then◌else◌, List, [], ◌∷◌, ◌++◌, filter, Option, Some, None, refl, sym, ap, subst, ◌∙◌, inl, inr, arith, true≢false}
use Rattle.std.specs.Prelude.{codes, bytes_eq}
use Rattle.std.specs.List.{AllByRecursion, list_any, list_all}
use Rattle.std.specs.Option.{option_map_or}
use Rattle.std.proofs.lemmas.Bool.Decides.{eqb_tells}
use Rattle.std.proofs.lemmas.List.{append-nil}
use Rattle.edit_model.specs.DomModel.declared.Content.{Content}
use Rattle.edit_model.specs.DomModel.Contents.{has_name, name_of, is_element_at}
use Rattle.edit_model.specs.DomModel.Editing.{editing_host, is_editable}
use Rattle.edit_model.specs.DomModel.Forest.{Forest, times, either, first_in, parent_of, children_of}
use Rattle.edit_model.proofs.DomModel.Hosts.{editing_host-root}
use Rattle.edit_model.proofs.DomModel.Links.{parent_count}
use Rattle.edit_model.specs.LiveRange.declared.places.Pair.{Pair}
use Rattle.edit_model.specs.LiveRange.declared.places.Point.{Point}
use Rattle.inline_value.specs.NodeTests.Ranges.{contained_nodes}
use Rattle.edit_model.specs.PointOrder.PointOrder.{is_ancestor}
use Rattle.edit_model.specs.State.{State}
use Rattle.edit_model.specs.Action.{Scratch}
use Rattle.edit_model.specs.Compositions.{set_tag_name}
use Rattle.edit_model.specs.Confined.{is_editable_for}
use Rattle.edit_model.specs.Kept.{is_thing}
use Rattle.edit_model.specs.Valid.{IsValid}
use Rattle.edit_model.specs.Run.{Run, final, ◌>>=◌, ◌>>◌, answer, done, look, given, while_at_most, for_each, set_scratch}
use Rattle.edit_model.proofs.Steps.{final-bind, final-answer, final-look, value-bind, value-answer, for_each-cons, for_each-nil, final_next}
use Rattle.edit_model.proofs.Tests.{label_is}
use Rattle.edit_laws.specs.MoveLaws.{IsBare}
use Rattle.edit_laws.specs.Order.{KeepsOrder, IsKeeping}
use Rattle.edit_laws.specs.Steady.{Steady}
use Rattle.edit_laws.specs.OrderPreserving.{OrderPreserving}
use Rattle.edit_laws.proofs.Around.{self_one}
use Rattle.edit_laws.proofs.QuietActions.{keeping_final}
use Rattle.edit_laws.proofs.Renaming.{tag_name_keeps}
use Rattle.edit_laws.proofs.Slides.{parent_other}
use Rattle.edit_laws.proofs.SteadyRuns.{steady_parts, steady_perform}
use Rattle.edit_laws.proofs.Subsequences.{keeps_refl, keeps_trans}
use Rattle.edit_laws.proofs.OrderPreserving.{order_preserving_answer, order_preserving_perform}
use Rattle.inline_value.specs.EditActions.Siblings.{first_parent, members}
use Rattle.inline_value.specs.BlockExtend.Gather.{gather, gather_on, gathered}
use Rattle.inline_value.specs.BlockExtend.Series.{is_next}
use Rattle.block_commands.specs.Series.{has_members, in_turns}
use Rattle.inline_value.specs.WrapSplit.declared.rule.Recipe.TheVariants.{Nothing}
use Rattle.inline_value.specs.WrapSplit.Split.{split_parent, split_members}
use Rattle.inline_value.specs.WrapSplit.Walks.{turn_bound}
use Rattle.inline_value.specs.WrapSplit.Wrap.{wrap}
use Rattle.list_indent.specs.Commands.{split_items}
use Rattle.list_indent.specs.Indenting.{fixed}
use Rattle.list_indent.specs.Outdenting.{outdent_node}
use Rattle.list_indent.specs.Sublists.{is_list}
use Rattle.list_toggle.specs.Collecting.{Collected, collect_items}
use Rattle.list_toggle.specs.Converting.{of_kind, is_beside_fit, move_items, convert_list, convert_each, convert_lists}
use Rattle.inline_value.specs.EditQuery.ListStates.{list_name, is_list_of, is_child_of, is_member, members_in}
use Rattle.list_toggle.specs.Ranges.{RangeEnds, extended_range, keep_range, kept_range, is_other_list, other_lists, range_members, is_line, range_lines}
use Rattle.list_toggle.specs.declared.toggling.ListKind.{ListKind}
use Rattle.list_toggle.specs.Toggle.{goes_on_out, release_series, release_all, new_list, place_items, enlist_next, toggle_off, toggle_on, toggle_lists}
use Rattle.command_laws.proofs.Criteria.{first_part, second_part, named_bare}
use Rattle.command_laws.proofs.ListWalks.{FitAt, at_once, looking, Consecutive, fit_series}
use Rattle.command_laws.proofs.PushingRuns.{steady_record_values, steady_restore_values, order_preserving_restore_values}
use Rattle.command_laws.proofs.IndentRuns.{fit_outdent_node, recorded_same, fit_range, fit_fixed, split_items_fits}
use Rattle.command_laws.proofs.Splitting.{then_order_preserving, then_order_preserving_on, all_members, split_keeps}
use Rattle.command_laws.proofs.SteadySplits.{steady_split}
use Rattle.command_laws.proofs.SteadyWraps.{steady_wrap, steady_wrap_found}
use Rattle.command_laws.proofs.SublistRuns.{Ends, ends_answer, ends_look, ends_bind}
use Rattle.command_laws.proofs.Together.{Together}
use Rattle.command_laws.proofs.Fits.{Fit, fit, fits, fit_answer, fit_bind}
use Rattle.command_laws.proofs.Widening.{member}
use Rattle.command_laws.proofs.Wrapping.{together_keeps}
use Rattle.command_laws.proofs.CollectRuns.{Items, collect_ends, steady_collect}
use Rattle.command_laws.proofs.Growing.{Grown, together_none}
use Rattle.command_laws.proofs.KeptNames.{name_stays}
use Rattle.command_laws.proofs.SplitTogether.{split_list_together}
use Rattle.command_laws.proofs.ItemTurns.{either_name}
use Rattle.command_laws.proofs.Unwrapped.{split_children_together}

-- ---- lists of a kind

list_thing : (ordered : Bool) → is_thing (list_name ordered) ≡ false
list_thing true = refl
list_thing false = refl

list_of_bare : (ordered : Bool) (s : State) (l : ℕ) → has_name s.trees l (list_name ordered) ≡ true → IsBare s l
list_of_bare ordered s l h = named_bare s l (list_name ordered) (list_thing ordered) h

-- ---- step 3: the range that is kept

fit_scratch : (pair : Pair) → Fit (set_scratch pair)
fit_scratch pair = fit (order_preserving_perform (Scratch pair) tt) (steady_perform (Scratch pair) tt)

fit_keep_range : (range : RangeEnds) → Fit (keep_range range)
unfolding keep_range
fit_keep_range range = search (fits, fit_scratch)

steady_keep_range : (range : RangeEnds) → Steady (keep_range range)
steady_keep_range range = (fit_keep_range range).states

fit_kept_range : Fit (look (λ s. answer (kept_range s)))
fit_kept_range = search fits

-- ---- step 3: the children of a list go into one beside it

-- what stays together when its parent is split is wrapped in order
joined_keeps : (ordered : Bool) (l : ℕ) (children : List ℕ) (s : State) → IsKeeping s → children_of s.trees l ≡ children → KeepsOrder s (final (move_items (of_kind ordered) Nothing children) s)
unfolding move_items
joined_keeps ordered l children s is kids =
    let whole : children_of s.trees l ≡ [] ++ (children ++ []) = kids ∙ sym (append-nil children) in
    let t : State = final (split_parent children) s in
    let is_t = keeping_final (split_parent children) s is in
    let wrapped = together_keeps (of_kind ordered) Nothing (list_thing ordered) tt t is_t children (by_children children kids).siblings in
    rw (final-bind, recorded_same children s, final-bind)
    (keeps_trans (split_keeps [] children [] l s is whole) (then_order_preserving (wrap (of_kind ordered) Nothing children) _ t is_t wrapped (order_preserving_restore_values _)))
  where
    by_children : (list : List ℕ) → children_of s.trees l ≡ list → Together (final (split_parent list) s) list
    by_children [] e = together_none _
    by_children (a ∷ rest) e = split_children_together s is.valid l a rest e

convert_keeps : (ordered : Bool) (l : ℕ) (s : State) → IsKeeping s → IsBare s l → KeepsOrder s (final (convert_list ordered l) s)
unfolding convert_list
convert_keeps ordered l s is plain = rw final-look (by (is_beside_fit ordered s l) (is_element_at s.trees l))
  where
    by : (v w : Bool) → KeepsOrder s (final (if v then move_items (of_kind ordered) Nothing (children_of s.trees l) else (if w then (set_tag_name l (list_name ordered) >> done) else done)) s)
    by true w = joined_keeps ordered l (children_of s.trees l) s is refl
    by false true = then_order_preserving (set_tag_name l (list_name ordered)) done s is (tag_name_keeps l (list_name ordered) s is plain (list_thing ordered)) (order_preserving_answer tt)
    by false false = rw final-answer (keeps_refl _)

steady_join : (ordered : Bool) (children : List ℕ) → Steady (move_items (of_kind ordered) Nothing children)
unfolding move_items
steady_join ordered children = search (steady_parts, steady_record_values, steady_split, steady_wrap_found, steady_restore_values)

steady_convert : (ordered : Bool) (l : ℕ) → Steady (convert_list ordered l)
unfolding convert_list
steady_convert ordered l = search (steady_parts, steady_join) depth 8

-- one after the other: what was a list of the other kind when they were listed is one when its turn comes
AllLists : Bool → State → List ℕ → Type 0
AllLists ordered s list = AllByRecursion (λ l. has_name s.trees l (list_name ordered) ≡ true) list

lists_stay : (ordered : Bool) {T : Type 0} (m : Run T) (s : State) → IsKeeping s → (list : List ℕ) → AllLists ordered s list → AllLists ordered (final m s) list
unfolding AllLists
lists_stay ordered m s is [] all = tt
lists_stay ordered m s is (l ∷ list) all = (name_stays m s is l (list_name ordered) all.0, lists_stay ordered m s is list all.1)

convert_in_turn : (ordered : Bool) (list : List ℕ) (s : State) → IsKeeping s → AllLists (not ordered) s list → KeepsOrder s (final (for_each list (convert_list ordered)) s)
unfolding AllLists
convert_in_turn ordered [] s is all = rw (for_each-nil, final-answer) (keeps_refl _)
convert_in_turn ordered (l ∷ list) s is all =
    let m = convert_list ordered l in
    rw (for_each-cons, final-bind)
    (keeps_trans (convert_keeps ordered l s is (list_of_bare (not ordered) s l all.0)) (convert_in_turn ordered list (final m s) (keeping_final m s is) (lists_stay (not ordered) m s is list all.1)))

filtered_lists : (ordered : Bool) (s : State) (list : List ℕ) → AllLists (not ordered) s (filter (is_other_list ordered s) list)
unfolding AllLists is_other_list
filtered_lists ordered s [] = tt
filtered_lists ordered s (l ∷ list) = by (is_editable_for s l && is_list_of (not ordered) s.trees l) refl (filtered_lists ordered s list)
  where
    by : (v : Bool) → (is_editable_for s l && is_list_of (not ordered) s.trees l) ≡ v → AllLists (not ordered) s (filter (is_other_list ordered s) list)
        → AllLists (not ordered) s (if v then l ∷ filter (is_other_list ordered s) list else filter (is_other_list ordered s) list)
    by true e more = (second_part (is_editable_for s l) (is_list_of (not ordered) s.trees l) e, more)
    by false e more = more

all_other : (ordered : Bool) (s : State) (range : RangeEnds) → AllLists (not ordered) s (other_lists ordered s range)
unfolding other_lists AllLists
all_other ordered s None = tt
all_other ordered s (Some ends) = filtered_lists ordered s _

-- the range is kept before and told after
convert_each_keeps : (ordered : Bool) (range : RangeEnds) (lists : List ℕ) (s : State) → IsKeeping s → AllLists (not ordered) s lists → KeepsOrder s (final (convert_each ordered range lists) s)
unfolding convert_each
convert_each_keeps ordered range [] s is all = rw final-answer (keeps_refl _)
convert_each_keeps ordered range (l ∷ lists) s is all =
    let m = keep_range range in
    let t : State = final m s in
    let is_t = keeping_final m s is in
    let each = convert_in_turn ordered (l ∷ lists) t is_t (lists_stay (not ordered) m s is (l ∷ lists) all) in
    rw (final-bind m _ s) (keeps_trans ((fit_keep_range range).order.keeps s is) (then_order_preserving (for_each (l ∷ lists) (convert_list ordered)) (look (λ u. answer (kept_range u))) t is_t each fit_kept_range.order))

steady_convert_each : (ordered : Bool) (range : RangeEnds) (lists : List ℕ) → Steady (convert_each ordered range lists)
unfolding convert_each
steady_convert_each ordered range lists = search (steady_parts, steady_keep_range, steady_convert) depth 8

fit_convert_lists : (ordered : Bool) → Fit (convert_lists ordered)
unfolding convert_lists
fit_convert_lists ordered = fit
    (record { keeps = λ s is. rw final-look (convert_each_keeps ordered (extended_range s) (other_lists ordered s (extended_range s)) s is (all_other ordered s (extended_range s))) })
    (search (steady_parts, steady_convert_each))

-- ---- step 5

release_series_fits : (ordered : Bool) (s : State) (list : List ℕ) → IsValid s → Consecutive s list → FitAt s (release_series ordered list)
unfolding release_series
release_series_fits ordered s list is k = by (first_in list)
  where
    by_kind : (x : ℕ) (v : Bool) → FitAt s (if v then outdent_node x else split_items list)
    by_kind x true = at_once _ s is (fit_outdent_node x)
    by_kind x false = split_items_fits s list is k

    by : (o : Option ℕ) → FitAt s (given o done (λ x. look (λ t. if is_list_of ordered t.trees x then outdent_node x else split_items list)))
    by None = at_once done s is (fit_answer tt)
    by (Some x) = looking _ s (by_kind x (is_list_of ordered s.trees x))

fit_release_all : (ordered : Bool) (list : List ℕ) → Fit (release_all ordered list)
unfolding release_all goes_on_out
fit_release_all ordered list = fit_series (goes_on_out ordered) (release_series ordered) (λ s x y h. first_part (is_next s.trees x y) _ h) (λ s l is k. release_series_fits ordered s l is k) list

fit_toggle_off : (ordered : Bool) → Fit (toggle_off ordered)
unfolding toggle_off
fit_toggle_off ordered = search (fits, fit_release_all)

-- ---- step 6, b to d

steady_wrap_list : (ordered : Bool) (items : List ℕ) → Steady (wrap (of_kind ordered) (new_list ordered) items)
steady_wrap_list true items = steady_wrap (of_kind true) (new_list true) refl items
steady_wrap_list false items = steady_wrap (of_kind false) (new_list false) refl items

steady_move_list : (ordered : Bool) (items : List ℕ) → Steady (move_items (of_kind ordered) (new_list ordered) items)
unfolding move_items
steady_move_list ordered items = search (steady_parts, steady_record_values, steady_split, steady_wrap_list, steady_restore_values)

steady_fixed : (o : Option ℕ) → Steady (fixed o)
steady_fixed o = (fit_fixed o).states

steady_place_items : (ordered : Bool) (items : List ℕ) → Steady (place_items ordered items)
unfolding place_items
steady_place_items ordered items = search (steady_parts, steady_move_list, steady_wrap_list, steady_fixed) depth 8

steady_enlist_next : (ordered : Bool) (list : List ℕ) → Steady (enlist_next ordered list)
unfolding enlist_next
steady_enlist_next ordered list = search (steady_parts, steady_collect, steady_place_items)

-- of a list that is together the taken ones are split off
same_split : (s : State) (o : ℕ) (m : List ℕ) → first_parent s m ≡ Some o → members s o m ≡ m → final (split_parent m) s ≡ final (split_members o m) s
unfolding split_parent
same_split s o m first own = rw (final-look, first, own) refl

first_up : (s : State) (a o : ℕ) (l : List ℕ) → parent_of s.trees a ≡ Some o → first_parent s (a ∷ l) ≡ Some o
unfolding first_parent
first_up s a o l up = ap (λ p. either p (first_parent s l)) up

taken_split : (s : State) (o : ℕ) (m : List ℕ) → ((l : ℕ) → 0 < times m l → parent_of s.trees l ≡ Some o) → KeepsOrder s (final (split_parent m) s) → KeepsOrder s (final (split_members o m) s)
unfolding split_members
taken_split s o [] owned h = rw final-answer (keeps_refl _)
taken_split s o (a ∷ l) owned h = subst (λ t. KeepsOrder s t) (same_split s o (a ∷ l) (first_up s a o l (owned a (omega (arith, self_one a)))) (all_members s o (a ∷ l) owned)) h

split_taken : (s : State) → IsKeeping s → (list : List ℕ) (o : ℕ) → first_parent s list ≡ Some o → Together s list → KeepsOrder s (final (split_parent list) s)
unfolding split_parent
split_taken s is list o first w =
    let k = w.siblings o in
    rw (final-look, first) (by_members (members s o list) (λ l h. member s is.valid o k.front (members s o list) k.rest k.is l h) (split_keeps k.front (members s o list) k.rest o s is k.is))
  where
    by_members : (m : List ℕ) → ((l : ℕ) → 0 < times m l → parent_of s.trees l ≡ Some o) → KeepsOrder s (final (split_parent m) s) → KeepsOrder s (final (split_members o m) s)
    by_members m owned h = taken_split s o m owned h

module _ (ordered : Bool) (s : State) (is : IsKeeping s) where
  wrap_list_keeps : (items : List ℕ) → Together s items → KeepsOrder s (final (wrap (of_kind ordered) (new_list ordered) items) s)
  wrap_list_keeps items w = together_keeps (of_kind ordered) (new_list ordered) (list_thing ordered) (list_thing ordered) s is items w.siblings

  enlist_keeps : (items : List ℕ) → Together s items → KeepsOrder s (final (wrap (of_kind ordered) (new_list ordered) items >>= fixed) s)
  enlist_keeps items w = then_order_preserving_on (wrap (of_kind ordered) (new_list ordered) items) fixed s is (wrap_list_keeps items w) (λ o. (fit_fixed o).order)

-- a list is no li
no_item_list : (ordered : Bool) (o : Option (List ℕ)) → option_map_or (λ own. bytes_eq own (list_name ordered)) o false ≡ true → option_map_or (λ own. bytes_eq own (codes "li")) o false ≡ true → ⊥
no_item_list true o h k = true≢false (sym (either_name o (codes "ol") (codes "li") h k))
no_item_list false o h k = true≢false (sym (either_name o (codes "ul") (codes "li") h k))

-- items that stand in a list of the other kind
module _ (ordered : Bool) (s : State) (is : IsKeeping s) (a : ℕ) (l : List ℕ) (q n : ℕ) (g : Grown s (a ∷ l) q n) (o : ℕ) (up : parent_of s.trees a ≡ Some o) (listed : has_name s.trees o (list_name (not ordered)) ≡ true) where
  own_list : o ≡ q
  own_list = elim (g.apart a o (omega (arith, self_one a)) up) [ inl same ↦ same | inr made ↦ absurd (no_item_list (not ordered) (name_of s.trees o) listed made.1) ]

  elsewhere : (r m : ℕ) → parent_of s.trees o ≡ Some r → 0 < times (a ∷ l) m → parent_of s.trees m ≡ Some r → ⊥
  elsewhere r m above h own = elim (g.apart m r h own) [
    | inl same ↦ parent_other s.trees is.valid.forest.distinct o r above (same ∙ sym own_list)
    | inr made ↦ (
        let low = g.above r (subst (λ k. parent_of s.trees k ≡ Some r) own_list above) in
        absurd (omega (arith, low, made.0)))
  ]

  move_keeps : KeepsOrder s (final (move_items (of_kind ordered) (new_list ordered) (a ∷ l)) s)
  unfolding move_items
  move_keeps =
      let t : State = final (split_parent (a ∷ l)) s in
      let is_t = keeping_final (split_parent (a ∷ l)) s is in
      let together = split_list_together s is.valid a o l g.together up elsewhere in
      rw (final-bind, recorded_same (a ∷ l) s, final-bind)
      (keeps_trans (split_taken s is (a ∷ l) o (first_up s a o l up) g.together) (then_order_preserving (wrap (of_kind ordered) (new_list ordered) (a ∷ l)) _ t is_t (wrap_list_keeps ordered t is_t (a ∷ l) together) (order_preserving_restore_values _)))

place_keeps : (ordered : Bool) (s : State) → IsKeeping s → (items : List ℕ) (q n : ℕ) → Grown s items q n → KeepsOrder s (final (place_items ordered items) s)
unfolding place_items is_child_of
place_keeps ordered s is [] q n g = rw final-answer (keeps_refl _)
place_keeps ordered s is (a ∷ l) q n g = rw final-look (by_stays (option_map_or (is_list_of ordered s.trees) (parent_of s.trees a) false || list_all (is_list s) (a ∷ l)))
  where
    by_parent : (p : Option ℕ) → parent_of s.trees a ≡ p → (v : Bool) → option_map_or (is_list_of (not ordered) s.trees) p false ≡ v → KeepsOrder s (final (if v then move_items (of_kind ordered) (new_list ordered) (a ∷ l) else (wrap (of_kind ordered) (new_list ordered) (a ∷ l) >>= fixed)) s)
    by_parent p up false e = enlist_keeps ordered s is (a ∷ l) g.together
    by_parent None up true e = absurd (true≢false (sym e))
    by_parent (Some o) up true e = move_keeps ordered s is a l q n g o up e

    by_stays : (v : Bool) → KeepsOrder s (final (if v then done else (if option_map_or (is_list_of (not ordered) s.trees) (parent_of s.trees a) false then move_items (of_kind ordered) (new_list ordered) (a ∷ l) else (wrap (of_kind ordered) (new_list ordered) (a ∷ l) >>= fixed))) s)
    by_stays true = rw final-answer (keeps_refl _)
    by_stays false = by_parent (parent_of s.trees a) refl (option_map_or (is_list_of (not ordered) s.trees) (parent_of s.trees a) false) refl

-- ---- the loop

-- what is left of the list are nodes that are there
Known : State → List ℕ → Type 0
Known t list = (l : ℕ) → 0 < times list l → l < t.next

placed_ends : (ordered : Bool) (s : State) → IsKeeping s → (c : Collected) → Items s c → Ends s Known (place_items ordered c.0 >> answer c.1)
unfolding Known
placed_ends ordered s is c w = record {
  order = then_order_preserving (place_items ordered c.0) (answer c.1) s is (place_keeps ordered s is c.0 w.q w.n w.grown) (order_preserving_answer c.1);
  holds = rw (final-bind, final-answer, value-bind, value-answer) (λ l h. omega (arith, w.known l h, final_next (place_items ordered c.0) s));
}

enlist_ends : (ordered : Bool) (s : State) → IsKeeping s → (list : List ℕ) → Known s list → Ends s Known (enlist_next ordered list)
unfolding enlist_next Known
enlist_ends ordered s is list known =
    ends_bind Items Known (collect_items list) (λ c. place_items ordered c.0 >> answer c.1) s is (collect_ends s is list known) (λ t is_t c w. placed_ends ordered t is_t c w)

enlist_turns : (ordered : Bool) (bound : ℕ) (s : State) → IsKeeping s → (list : List ℕ) → Known s list → Ends s Known (while_at_most bound has_members (enlist_next ordered) list)
unfolding while_at_most
enlist_turns ordered zero s is list known = ends_answer Known list s known
enlist_turns ordered (suc bound) s is list known = ends_look Known _ s (by_test (has_members s list) (λ t is_t more h. enlist_turns ordered bound t is_t more h))
  where
    by_test : (v : Bool) → ((t : State) → IsKeeping t → (more : List ℕ) → Known t more → Ends t Known (while_at_most bound has_members (enlist_next ordered) more))
        → Ends s Known (if v then (enlist_next ordered list >>= while_at_most bound has_members (enlist_next ordered)) else answer list)
    by_test true more = ends_bind Known Known (enlist_next ordered list) (while_at_most bound has_members (enlist_next ordered)) s is (enlist_ends ordered s is list known) more
    by_test false more = ends_answer Known list s known

enlist_all_keeps : (ordered : Bool) (s : State) → IsKeeping s → (list : List ℕ) → Known s list → KeepsOrder s (final (in_turns (enlist_next ordered) list) s)
enlist_all_keeps ordered s is list known =
    rw final-look (then_order_preserving (while_at_most (turn_bound s) has_members (enlist_next ordered) list) done s is (enlist_turns ordered (turn_bound s) s is list known).order (order_preserving_answer tt))

filter_few : (test : ℕ → Bool) (xs : List ℕ) (l : ℕ) → times (filter test xs) l ≤ times xs l
filter_few test [] l = omega arith
filter_few test (x ∷ xs) l = by (test x) (filter_few test xs l)
  where
    by : (v : Bool) → times (filter test xs) l ≤ times xs l → times (if v then x ∷ filter test xs else filter test xs) l ≤ times (x ∷ xs) l
    by true few = omega (arith, few)
    by false few = omega (arith, few)

filter_passes : (test : ℕ → Bool) (xs : List ℕ) (l : ℕ) → 0 < times (filter test xs) l → test l ≡ true
filter_passes test [] l h = absurd (omega (arith, h))
filter_passes test (x ∷ xs) l h = by (test x) refl h (filter_passes test xs l)
  where
    by : (v : Bool) → test x ≡ v → 0 < times (if v then x ∷ filter test xs else filter test xs) l → (0 < times (filter test xs) l → test l ≡ true) → test l ≡ true
    by false e h more = more h
    by true e h more = elim (eqb_tells x l) [
      | inl (_, same) ↦ subst (λ m. test m ≡ true) same e
      | inr (t, _) ↦ (let h' = rw t at h in more (omega (arith, h')))
    ]

gather_few : (f : Forest Content) (taken xs : List ℕ) (l : ℕ) → times (gather_on f taken xs) l ≤ times xs l
gather_few f taken [] l = omega arith
gather_few f taken (x ∷ xs) l = by (list_any (λ t. is_ancestor f t x) taken) (gather_few f taken xs l) (gather_few f (x ∷ taken) xs l)
  where
    by : (v : Bool) → times (gather_on f taken xs) l ≤ times xs l → times (gather_on f (x ∷ taken) xs) l ≤ times xs l → times (if v then gather_on f taken xs else x ∷ gather_on f (x ∷ taken) xs) l ≤ times (x ∷ xs) l
    by true few more = omega (arith, few)
    by false few more = omega (arith, more)

gathered_passes : (test : ℕ → Bool) (f : Forest Content) (p q : Point) (l : ℕ) → 0 < times (gathered test f p q) l → test l ≡ true
unfolding gathered gather
gathered_passes test f p q l h = filter_passes test (contained_nodes f p q) l (omega (arith, h, gather_few f [] (filter test (contained_nodes f p q)) l))

-- an editable node has a parent, so it is there
member_known : (s : State) → IsValid s → (l : ℕ) → ((h : ℕ) × (is_member s.trees h l ≡ true)) → l < s.next
unfolding is_member
member_known s is l r = by (parent_of s.trees l) refl
  where
    by : (o : Option ℕ) → parent_of s.trees l ≡ o → l < s.next
    by (Some p) up = is.forest.below l (parent_count s.trees l p is.forest.distinct up).0
    by None root = absurd (
        let hosted = label_is (editing_host s.trees l) r.0 (first_part (is_editable s.trees r.0 l) _ r.1) in
        let k : None ≡ Some r.0 = sym (editing_host-root s.trees is.forest.distinct l root) ∙ hosted in
        cc)

-- the lines of a range are there
range_known : (s : State) → IsValid s → (range : RangeEnds) → Known s (range_lines s range)
unfolding range_lines range_members Known
range_known s is range l h = member_known s is l (by range (filter_few (is_line s) (range_members s range) l) h)
  where
    by_host : (ends : Point × Point) (o : Option ℕ) → 0 < times (members_in s.trees o ends) l → (h : ℕ) × (is_member s.trees h l ≡ true)
    by_host ends None k = absurd (omega (arith, k))
    by_host ends (Some h) k = (h, gathered_passes (is_member s.trees h) s.trees _ _ l k)

    by : (o : RangeEnds) → times (filter (is_line s) (range_members s o)) l ≤ times (range_members s o) l → 0 < times (filter (is_line s) (range_members s o)) l → (h : ℕ) × (is_member s.trees h l ≡ true)
    by None few k = absurd (omega (arith, k))
    by (Some ends) few k = by_host ends s.host (omega (arith, few, k))

-- from the lines of the range on
fit_enlist : (ordered : Bool) (range : RangeEnds) → Fit (look (λ s. in_turns (enlist_next ordered) (range_lines s range)))
fit_enlist ordered range = fit
    (record { keeps = λ s is. rw final-look (enlist_all_keeps ordered s is (range_lines s range) (range_known s is.valid range)) })
    (search (steady_parts, steady_enlist_next) depth 8)

-- ---- the whole

fit_toggle_on : (ordered : Bool) → Fit (toggle_on ordered)
unfolding toggle_on
fit_toggle_on ordered = fit_bind (convert_lists ordered) _ (fit_convert_lists ordered) (λ range. fit_enlist ordered range)

fit_toggle : (kind : ListKind) → Fit (toggle_lists kind)
unfolding toggle_lists
fit_toggle kind = search (fits, fit_range, fit_toggle_off, fit_toggle_on) depth 8

-- ---- the certificates

pub order_preserving_toggle_lists : (kind : ListKind) → OrderPreserving (toggle_lists kind)
order_preserving_toggle_lists kind = (fit_toggle kind).order

pub steady_toggle_lists : (kind : ListKind) → Steady (toggle_lists kind)
steady_toggle_lists kind = (fit_toggle kind).states
