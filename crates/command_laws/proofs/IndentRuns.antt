-- Indent and outdent keep the order, and leave the states of contenteditable.
use Rattle.std.proofs.Common.{◌≡◌, ℕ, Bool, true, false, ◌==◌, ◌||◌, ◌&&◌, not, if◌then◌else◌, List, [], ◌∷◌, ◌++◌, reverse, Option, Some, None, refl, sym, ap, subst, ◌∙◌}
use Rattle.std.specs.Prelude.{codes}
use Rattle.std.specs.Option.{option_map_or}
use Rattle.std.proofs.lemmas.List.{append-nil}
use Rattle.edit_model.specs.DomModel.Contents.{has_name, is_element_at}
use Rattle.edit_model.specs.DomModel.Forest.{first_in, parent_of, children_of}
use Rattle.edit_model.specs.HtmlNames.BoxNames.{box_names}
use Rattle.inline_value.specs.NodeStyles.NameClasses.{is_indentation, is_simple_indentation}
use Rattle.edit_model.specs.State.{State}
use Rattle.edit_model.specs.Compositions.{tag_of, set_tag_name}
use Rattle.edit_model.specs.Valid.{IsValid}
use Rattle.edit_model.specs.Run.{Run, final, value, ◌>>◌, done, look, given, for_each, remove, unset_attribute}
use Rattle.edit_model.proofs.Steps.{final-answer, final-look}
use Rattle.edit_laws.specs.MoveLaws.{IsBare}
use Rattle.edit_laws.specs.Steady.{Steady}
use Rattle.edit_laws.specs.OrderPreserving.{OrderPreserving}
use Rattle.edit_laws.proofs.Renaming.{tag_name_keeps}
use Rattle.edit_laws.proofs.SteadyRuns.{steady_tag_name}
use Rattle.inline_value.specs.EditActions.Siblings.{until}
use Rattle.inline_value.specs.WrapSplit.declared.rule.Criterion.TheVariants.{Named, SimpleIndentation}
use Rattle.inline_value.specs.WrapSplit.declared.rule.Recipe.TheVariants.{Make}
use Rattle.inline_value.specs.WrapSplit.Split.{split_parent, remove_keeping_children}
use Rattle.inline_value.specs.WrapSplit.Target.{is_without_attributes}
use Rattle.inline_value.specs.WrapSplit.Wrap.{wrap, break_next}
use Rattle.inline_value.specs.Ancestors.{fix_ancestors}
use Rattle.inline_value.specs.Recording.{Recorded, record_values, restore_values}
use Rattle.inline_value.specs.Styling.{unset_style}
use Rattle.inline_value.specs.BlockExtend.Series.{is_next}
use Rattle.inline_value.specs.Wrappers.{bare}
use Rattle.list_indent.specs.Sublists.{is_list, is_in_list}
use Rattle.list_indent.specs.Indenting.{if_list, nested, fixed, quoted, indent_list}
use Rattle.list_indent.specs.Outdenting.{to_div, unboxed, unindented, if_indents, unwrapped, released, outdent_list, rest_after, siblings_after, part_around, part_level, part_levels, outdent_through, outdent_along, outdent_node}
use Rattle.list_indent.specs.Commands.{normalize_range, normalize_before, goes_on, indent_nodes, indent, is_lone, goes_on_items, split_items, outdent_series, outdent_nodes, outdent}
use Rattle.command_laws.proofs.Copies.{plain_tag}
use Rattle.command_laws.proofs.Criteria.{first_part, named_bare, indentation_bare}
use Rattle.command_laws.proofs.ListWalks.{FitAt, at_once, looking, onwards, then_fit, fit_seen, Consecutive, among, wrap_fits, split_fits, fit_series}
use Rattle.command_laws.proofs.SteadySplits.{valid_final}
use Rattle.command_laws.proofs.StylingRuns.{Shaping, shaping, shaping_unset_style}
use Rattle.command_laws.proofs.SublistRuns.{fit_normalize}
use Rattle.command_laws.proofs.Fits.{Fit, fits, fit_answer, fit_bind}
use Rattle.command_laws.proofs.PushingRuns.{fit_record_values, fit_restore_values}
use Rattle.command_laws.proofs.Walks.{fit_unwrap, fit_fix, fit_unset_style}

-- ---- indenting a list of siblings

list_bare : (s : State) (n : ℕ) → is_list s n ≡ true → IsBare s n
unfolding is_list
list_bare s n h = by_name (has_name s.trees n (codes "ol")) refl h
  where
    by_name : (v : Bool) → has_name s.trees n (codes "ol") ≡ v → (v || has_name s.trees n (codes "ul")) ≡ true → IsBare s n
    by_name true e k = named_bare s n (codes "ol") refl e
    by_name false e k = named_bare s n (codes "ul") refl k

pub fit_fixed : (o : Option ℕ) → Fit (fixed o)
fit_fixed o = search (fits, fit_fix)

quoted_fits : (s : State) (list : List ℕ) → IsValid s → Consecutive s list → FitAt s (quoted list)
unfolding quoted
quoted_fits s list is k =
    then_fit (wrap SimpleIndentation (Make (bare (codes "blockquote"))) list) fixed s is (wrap_fits SimpleIndentation (Make (bare (codes "blockquote"))) tt refl refl s list is k) fit_fixed

nested_fits : (s : State) (list : List ℕ) (p : ℕ) → is_list s p ≡ true → IsValid s → Consecutive s list → FitAt s (nested list p)
unfolding nested
nested_fits s list p h is k =
    let plain = plain_tag s p (list_bare s p h) in
    looking _ s (then_fit _ (λ _. done) s is (wrap_fits (Named (tag_of s.trees p) false) (Make (bare (tag_of s.trees p))) plain plain refl s list is k) (λ _. fit_answer tt))

indent_list_fits : (s : State) (list : List ℕ) → IsValid s → Consecutive s list → FitAt s (indent_list list)
unfolding indent_list
indent_list_fits s list is k = by_first (first_in list)
  where
    by_test : (p : ℕ) (v : Bool) → is_list s p ≡ v → FitAt s (given (if v then Some p else None) (quoted list) (nested list))
    by_test p true e = nested_fits s list p e is k
    by_test p false e = quoted_fits s list is k

    by_parent : (o : Option ℕ) → FitAt s (given (if_list s o) (quoted list) (nested list))
    by_parent None = quoted_fits s list is k
    by_parent (Some p) = by_test p (is_list s p) refl

    by_first : (o : Option ℕ) → FitAt s (given o done (λ a. look (λ t. given (if_list t (parent_of t.trees a)) (quoted list) (nested list))))
    by_first None = at_once done s is (fit_answer tt)
    by_first (Some a) = looking _ s (by_parent (parent_of s.trees a))

-- ---- indent

pub fit_range : Fit normalize_range
unfolding normalize_range
fit_range = search (fits, fit_normalize)

fit_before : (list : List ℕ) → Fit (normalize_before list)
unfolding normalize_before
fit_before list = search (fits, fit_normalize) depth 8

fit_indent_nodes : (list : List ℕ) → Fit (indent_nodes list)
unfolding indent_nodes
fit_indent_nodes list = fit_bind _ _ (fit_before list) (λ _. fit_series goes_on indent_list (λ s x y h. h) (λ s l is k. indent_list_fits s l is k) list)

fit_indent : Fit indent
unfolding indent
fit_indent = search (fits, fit_range, fit_indent_nodes)

-- ---- outdenting a node: an indentation element

to_div_fits : (s : State) (n : ℕ) → IsValid s → IsBare s n → FitAt s (to_div n)
unfolding to_div
to_div_fits s n is plain = looking _ s (by_test (is_element_at s.trees n))
  where
    by_test : (v : Bool) → FitAt s (if v then (set_tag_name n (codes "div") >> done) else done)
    by_test false = at_once done s is (fit_answer tt)
    by_test true =
        then_fit (set_tag_name n (codes "div")) (λ _. done) s is
        (record { order = λ k. tag_name_keeps n (codes "div") s k plain refl; states = (steady_tag_name n (codes "div")).leaves s is })
        (λ _. fit_answer tt)

-- a node is bare after attributes were set
still_bare : {T : Type 0} (m : Run T) (s : State) (n : ℕ) → IsValid s → Shaping m → IsBare s n → IsBare (final m s) n
still_bare m s n is shapes plain = (shapes.shapes s is).bare n plain

-- what leaves the shape of the trees, and then what is fit where the node is bare
shaped_first : {T : Type 0} (m : Run T) (k : Run (Unit {0})) (s : State) (n : ℕ) → IsValid s → IsBare s n → Fit m → Shaping m → ((t : State) → IsValid t → IsBare t n → FitAt t k) → FitAt s (m >> k)
shaped_first m k s n is plain h shapes more =
    onwards m (λ _. k) s (at_once m s is h) (more (final m s) (valid_final m s is) (still_bare m s n is shapes plain))

fit_dir : (n : ℕ) → Fit (unset_attribute n (codes "dir"))
fit_dir n = search fits

fit_boxes : (n : ℕ) → Fit (for_each box_names (unset_style n))
fit_boxes n = search (fits, fit_unset_style)

shaping_boxes : (n : ℕ) → Shaping (for_each box_names (unset_style n))
shaping_boxes n = search (shaping, shaping_unset_style)

unboxed_fits : (s : State) (n : ℕ) → IsValid s → IsBare s n → FitAt s (unboxed n)
unfolding unboxed
unboxed_fits s n is plain =
    shaped_first (unset_attribute n (codes "dir")) (for_each box_names (unset_style n) >> to_div n) s n is plain (fit_dir n) (search shaping)
    (λ t is_t plain_t. shaped_first (for_each box_names (unset_style n)) (to_div n) t n is_t plain_t (fit_boxes n) (shaping_boxes n) (λ u is_u plain_u. to_div_fits u n is_u plain_u))

fit_unindented : (n : ℕ) → Fit (unindented n)
unfolding unindented
fit_unindented n = fit_seen _ (λ s is. by_test s is (is_simple_indentation s.trees n) (is_indentation s.trees n) refl)
  where
    by_test : (s : State) → IsValid s → (v w : Bool) → is_indentation s.trees n ≡ w → FitAt s (if v then remove_keeping_children n else (if w then unboxed n else done))
    by_test s is true w e = at_once _ s is (fit_unwrap n)
    by_test s is false true e = unboxed_fits s n is (indentation_bare s n e)
    by_test s is false false e = at_once done s is (fit_answer tt)

-- ---- outdenting a node: a list

fit_unwrapped : (n : ℕ) (children : List ℕ) → Fit (unwrapped n children)
unfolding unwrapped
fit_unwrapped n children = search (fits, fit_record_values, fit_unwrap, fit_restore_values)

released_fits : (children : List ℕ) (s : State) (n : ℕ) → IsValid s → IsBare s n → FitAt s (released n children)
unfolding released
released_fits children s n is plain = looking _ s (by_test (not (is_without_attributes s.trees n) && not (is_in_list s n)))
  where
    by_test : (v : Bool) → FitAt s (if v then to_div n else unwrapped n children)
    by_test true = to_div_fits s n is plain
    by_test false = at_once _ s is (fit_unwrapped n children)

fit_each_fixed : (list : List ℕ) → Fit (for_each list fix_ancestors)
fit_each_fixed list = search (fits, fit_fix)

abbrev dissolve : ℕ → Run (Unit {0})
dissolve n = look (λ s. released n (children_of s.trees n) >> for_each (children_of s.trees n) fix_ancestors)

dissolve_fits : (s : State) (n : ℕ) → IsValid s → IsBare s n → FitAt s (dissolve n)
dissolve_fits s n is plain =
    let children = children_of s.trees n in
    looking _ s (then_fit (released n children) (λ _. for_each children fix_ancestors) s is (released_fits children s n is plain) (λ _. fit_each_fixed children))

fit_reversed : (n : ℕ) → Fit (unset_attribute n (codes "reversed"))
fit_reversed n = search fits

fit_start : (n : ℕ) → Fit (unset_attribute n (codes "start"))
fit_start n = search fits

fit_type : (n : ℕ) → Fit (unset_attribute n (codes "type"))
fit_type n = search fits

outdent_list_fits : (s : State) (n : ℕ) → IsValid s → IsBare s n → FitAt s (outdent_list n)
unfolding outdent_list
outdent_list_fits s n is plain =
    shaped_first (unset_attribute n (codes "reversed")) (unset_attribute n (codes "start") >> (unset_attribute n (codes "type") >> dissolve n)) s n is plain (fit_reversed n) (search shaping)
    (λ t is_t plain_t. shaped_first (unset_attribute n (codes "start")) (unset_attribute n (codes "type") >> dissolve n) t n is_t plain_t (fit_start n) (search shaping)
    (λ u is_u plain_u. shaped_first (unset_attribute n (codes "type")) (dissolve n) u n is_u plain_u (fit_type n) (search shaping) (λ v is_v plain_v. dissolve_fits v n is_v plain_v)))

-- ---- outdenting a node: the siblings along the way

fit_drop_break : (t : ℕ) → Fit (look (λ s. given (break_next s t) done (λ b. remove b >> done)))
fit_drop_break t = search fits

until_parted : (t : ℕ) (xs : List ℕ) → (rest : List ℕ) × (xs ≡ until t xs ++ rest)
unfolding until
until_parted t [] = ([], refl)
until_parted t (x ∷ xs) = by_test (x == t) (until_parted t xs)
  where
    by_test : (v : Bool) → ((rest : List ℕ) × (xs ≡ until t xs ++ rest)) → (rest : List ℕ) × (x ∷ xs ≡ (if v then [] else x ∷ until t xs) ++ rest)
    by_test true r = (x ∷ xs, refl)
    by_test false r = (r.0, ap (λ k. x ∷ k) r.1)

rest_parted : (t : ℕ) (xs : List ℕ) → (front : List ℕ) × (xs ≡ front ++ rest_after t xs)
rest_parted t [] = ([], refl)
rest_parted t (x ∷ xs) = by_test (x == t) (rest_parted t xs)
  where
    by_test : (v : Bool) → ((front : List ℕ) × (xs ≡ front ++ rest_after t xs)) → (front : List ℕ) × (x ∷ xs ≡ front ++ (if v then xs else rest_after t xs))
    by_test true r = (x ∷ [], refl)
    by_test false r = (x ∷ r.0, ap (λ k. x ∷ k) r.1)

fit_indent_before : (e t : ℕ) → Fit (look (λ s. indent_list (until t (children_of s.trees e))))
fit_indent_before e t = fit_seen _ (λ s is. (
    let r = until_parted t (children_of s.trees e) in
    indent_list_fits s (until t (children_of s.trees e)) is (among e (record { front = []; rest = r.0; is = r.1 }))))

siblings_consecutive : (s : State) (t : ℕ) → Consecutive s (siblings_after s t)
unfolding siblings_after
siblings_consecutive s t = by_parent (parent_of s.trees t)
  where
    by_parent : (o : Option ℕ) → Consecutive s (option_map_or (λ p. rest_after t (children_of s.trees p)) o [])
    by_parent None = among 0 (record { front = []; rest = children_of s.trees 0; is = refl })
    by_parent (Some p) =
        let r = rest_parted t (children_of s.trees p) in
        among p (record { front = r.0; rest = []; is = r.1 ∙ ap (λ k. r.0 ++ k) (sym (append-nil (rest_after t (children_of s.trees p)))) })

fit_indent_after : (t : ℕ) → Fit (look (λ s. indent_list (siblings_after s t)))
fit_indent_after t = fit_seen _ (λ s is. indent_list_fits s (siblings_after s t) is (siblings_consecutive s t))

fit_part_around : (e t : ℕ) → Fit (part_around e t)
unfolding part_around
fit_part_around e t = fit_bind _ _ (fit_drop_break t) (λ _. fit_bind _ _ (fit_indent_before e t) (λ _. fit_indent_after t))

fit_part_level : (n : ℕ) (below : Option ℕ) (e : ℕ) → Fit (part_level n below e)
unfolding part_level
fit_part_level n below e = search (fits, fit_part_around)

fit_part_levels : (n : ℕ) (list : List ℕ) → Fit (part_levels n list)
unfolding part_levels
fit_part_levels n [] = fit_answer tt
fit_part_levels n (e ∷ list) = fit_bind (part_level n (first_in list) e) (λ _. part_levels n list) (fit_part_level n (first_in list) e) (λ _. fit_part_levels n list)

-- ---- outdenting a node: the whole

fit_through : (n : ℕ) (way : List ℕ) (c : ℕ) → Fit (outdent_through n way c)
unfolding outdent_through
fit_through n way c = fit_bind (part_levels n (c ∷ reverse way)) (λ _. unindented c) (fit_part_levels n (c ∷ reverse way)) (λ _. fit_unindented c)

fit_along : (n : ℕ) (way : List ℕ × Option ℕ) → Fit (outdent_along n way)
unfolding outdent_along
fit_along n way = fit_seen _ (λ s is. by_end s is (if_indents false s way.1))
  where
    alone : (s : State) → IsValid s → (v : Bool) → is_list s n ≡ v → FitAt s (if v then outdent_list n else done)
    alone s is true e = outdent_list_fits s n is (list_bare s n e)
    alone s is false e = at_once done s is (fit_answer tt)

    by_end : (s : State) → IsValid s → (o : Option ℕ) → FitAt s (given o (if is_list s n then outdent_list n else done) (outdent_through n way.0))
    by_end s is None = alone s is (is_list s n) refl
    by_end s is (Some c) = at_once _ s is (fit_through n way.0 c)

pub fit_outdent_node : (n : ℕ) → Fit (outdent_node n)
unfolding outdent_node
fit_outdent_node n = search (fits, fit_unindented, fit_along)

-- ---- outdent

pub recorded_same : (list : List ℕ) (s : State) → final (record_values list) s ≡ s
unfolding record_values
recorded_same list s = rw (final-look, final-answer) refl

fit_after_split : (list : List ℕ) (values : List Recorded) → Fit (for_each list fix_ancestors >> restore_values values)
fit_after_split list values = search (fits, fit_fix, fit_restore_values)

pub split_items_fits : (s : State) (list : List ℕ) → IsValid s → Consecutive s list → FitAt s (split_items list)
unfolding split_items
split_items_fits s list is k =
    onwards (record_values list) (λ values. split_parent list >> (for_each list fix_ancestors >> restore_values values)) s
    (at_once (record_values list) s is (fit_record_values list))
    (subst (λ t. FitAt t (split_parent list >> (for_each list fix_ancestors >> restore_values (value (record_values list) s)))) (sym (recorded_same list s))
    (then_fit (split_parent list) (λ _. for_each list fix_ancestors >> restore_values (value (record_values list) s)) s is (split_fits s list is k) (λ _. fit_after_split list (value (record_values list) s))))

outdent_series_fits : (s : State) (list : List ℕ) → IsValid s → Consecutive s list → FitAt s (outdent_series list)
unfolding outdent_series
outdent_series_fits s list is k = by_first (first_in list)
  where
    by_test : (x : ℕ) (v : Bool) → FitAt s (if v then outdent_node x else split_items list)
    by_test x true = at_once _ s is (fit_outdent_node x)
    by_test x false = split_items_fits s list is k

    by_first : (o : Option ℕ) → FitAt s (given o done (λ x. look (λ t. if is_lone t x then outdent_node x else split_items list)))
    by_first None = at_once done s is (fit_answer tt)
    by_first (Some x) = looking _ s (by_test x (is_lone s x))

fit_outdent_nodes : (list : List ℕ) → Fit (outdent_nodes list)
unfolding outdent_nodes goes_on_items
fit_outdent_nodes list = fit_series goes_on_items outdent_series (λ s x y h. first_part (is_next s.trees x y) _ h) (λ s l is k. outdent_series_fits s l is k) list

fit_outdent : Fit outdent
unfolding outdent
fit_outdent = search (fits, fit_range, fit_outdent_nodes)

-- ---- the certificates

pub order_preserving_indent : OrderPreserving indent
order_preserving_indent = fit_indent.order

pub steady_indent : Steady indent
steady_indent = fit_indent.states

pub order_preserving_outdent : OrderPreserving outdent
order_preserving_outdent = fit_outdent.order

pub steady_outdent : Steady outdent
steady_outdent = fit_outdent.states
