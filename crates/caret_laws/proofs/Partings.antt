-- Parting a container in two keeps the order of what the document bears, where no image and no rule stands between it and the
-- point: a second container is put after it, takes in its tail, and each gets a br where nothing of it is visible.
use Rattle.std.proofs.Common.{◌≡◌, ◌≢◌, ℕ, ◌+◌, ◌<◌, ◌≤◌, Bool, true, false, if◌then◌else◌, cond, eqb, List, [], ◌∷◌, Option, Some, None, refl, sym, ap, subst, ◌∙◌, inl, inr, arith}
use Rattle.std.specs.Prelude.{codes, unwrap_or}
use Rattle.std.specs.Option.{option_map_or, option_and_then}
use Rattle.std.proofs.lemmas.Bool.{cases_Bool, ne_eqb}
use Rattle.std.proofs.lemmas.Bool.Decides.{eqb_tells}
use Rattle.edit_model.specs.DomModel.AttributeList.{unset_in}
use Rattle.edit_model.specs.DomModel.declared.Content.{Content}
use Rattle.edit_model.specs.DomModel.declared.attributes.Attribute.{Attribute}
use Rattle.edit_model.specs.DomModel.Contents.{is_parent_at, has_name, name_in, name_of}
use Rattle.edit_model.specs.DomModel.Forest.{Forest, Seen, is_label, times, first_in, after_in, prior_from, prior_in, count_of, tree_of, parent_of, children_of, next_of, content_of, link, IsDistinct, IsWithin, CanPut}
use Rattle.edit_model.specs.DomModel.Forest.Forest.{Nil, Tree}
use Rattle.edit_model.proofs.DomModel.Kept.{content_of-link, content_of-with_leaf_other}
use Rattle.edit_model.proofs.DomModel.Links.{seen, eqb_refl_true, parent_count, child_of_parent, times-children_of, next_of-link}
use Rattle.edit_model.proofs.DomModel.Lists.{is_label_after}
use Rattle.edit_model.proofs.DomModel.Move.{parent_apart}
use Rattle.edit_model.proofs.DomModel.Totals.{total-without}
use Rattle.edit_model.proofs.DomModel.Within.{within_self}
use Rattle.edit_model.specs.LiveRange.declared.places.Point.{Point}
use Rattle.edit_model.specs.State.{State}
use Rattle.edit_model.specs.Compositions.{tag_of, attribute_list_of}
use Rattle.edit_model.specs.Edit.{Insert, is_made_edit, trees_after, edited}
use Rattle.edit_model.specs.Kept.{leaves, is_thing}
use Rattle.edit_model.specs.Action as action
use Rattle.edit_model.specs.Action.{made, element_content, selected, stepped_all, tail_of, may_extract, extracted, acted}
use Rattle.edit_model.specs.Moves.{make_break, insert_after}
use Rattle.edit_model.specs.Run.{◌>>=◌, ◌>>◌, final, value, done, make_element, insert, collapse}
use Rattle.edit_model.specs.Valid.{IsValid}
use Rattle.edit_model.proofs.Forests.{fresh}
use Rattle.edit_model.proofs.IslandRuns.{trees_made, trees_left}
use Rattle.edit_model.proofs.Islands.{link_elsewhere}
use Rattle.edit_model.proofs.OutsideRuns.{trees-selected}
use Rattle.edit_model.proofs.Points.{Placed}
use Rattle.edit_model.proofs.Steps.{final-bind, final-look, value-look, final-answer, final-edit, final-perform, final-make_element, value-make_element}
use Rattle.edit_model.proofs.TailSteps.{either_extracted, extract_tests}
use Rattle.edit_model.proofs.Tests.{inserts, parent_there}
use Rattle.edit_model.proofs.Trees.{none_or_some, within_trans, tree_of-with_leaf_other}
use Rattle.edit_model.proofs.ValidRuns.{valid_acted, final_valid}
use Rattle.edit_laws.specs.Order.{KeepsOrder}
use Rattle.edit_laws.proofs.NewElements.{new_bare}
use Rattle.edit_laws.proofs.QuietActions.{same_trees}
use Rattle.edit_laws.proofs.Renaming.{new_loose}
use Rattle.edit_laws.proofs.Subsequences.{keeps_same, keeps_refl, keeps_trans}
use Rattle.inline_value.specs.WrapSplit.Breaks.{last_below}
use Rattle.inline_value.specs.WrapSplit.Wrap.{append_break}
use Rattle.delete_core.specs.Erasing.{shows_child}
use Rattle.delete_core.specs.Places.{at, start_in}
use Rattle.inline_value.specs.EditQuery.Rows.{container_name}
use Rattle.text_insertion.specs.Halves.{parting_point, ends_line, is_heading_at, name_after, second_name, make_second, deepest_last, fill_hidden, close_both, part_at}
use Rattle.text_insertion.specs.Paragraph.{break_line}
use Rattle.text_insertion.specs.Start.{insert_at_start}
use Rattle.caret_laws.specs.TailLaws.{is_thing_at, AmidNoThing}
use Rattle.caret_laws.proofs.BlindRuns.{kept}
use Rattle.caret_laws.proofs.Canonical.{Ends, ends_answer, ends_look, ends_bind}
use Rattle.caret_laws.proofs.LineBreaks.{bare_insert, start_keeps, Br, br_bare, br_valid, another_keeps}
use Rattle.caret_laws.proofs.ParagraphCalls.{Around, parting_around, after_is}
use Rattle.caret_laws.proofs.PutElements.{is_kept_state, made_tree, made_order}
use Rattle.caret_laws.proofs.TailOrder.{tails_ordered}
use Rattle.caret_laws.proofs.Trees.{root_seen, same_inside}

-- ---- what is put before the node after another one comes right after that

before_first : (o : Option ℕ) (x : ℕ) (ys : List ℕ) → ((k : ℕ) → times (x ∷ ys) k ≤ 1) → prior_from o (x ∷ ys) (first_in ys) ≡ Some x
before_first o x [] once = refl
before_first o x (y ∷ zs) once = elim (eqb_tells x y) [
  | inl (t, _) ↦ absurd (let two = once y in let two' = rw (t, eqb_refl_true y) at two in omega (arith, two'))
  | inr (t, _) ↦ rw (t, eqb_refl_true y) refl
]

prior_after : (o : Option ℕ) (xs : List ℕ) (c : ℕ) → ((k : ℕ) → times xs k ≤ 1) → 0 < times xs c → prior_from o xs (after_in xs c) ≡ Some c
prior_after o [] c once some = absurd (omega arith)
prior_after o (x ∷ xs) c once some = elim (eqb_tells x c) [
  | inl (t, e) ↦ rw t (before_first o x xs once ∙ ap Some e)
  | inr (t, _) ↦ (
      let some' = rw t at some in
      let later = prior_after (Some x) xs c (λ k. omega (arith, once k)) (omega (arith, some')) in
      rw t (by_after (after_in xs c) refl later))
]
  where
    by_after : (w : Option ℕ) → after_in xs c ≡ w → prior_from (Some x) xs w ≡ Some c → prior_from o (x ∷ xs) w ≡ Some c
    by_after None e h = h
    by_after (Some m) e h = elim (eqb_tells x m) [
      | inr (u, _) ↦ rw u h
      | inl (u, same) ↦ absurd (elim (none_or_some (times xs m)) [
        | inr among ↦ (let two = once m in let two' = rw u at two in omega (arith, two', among))
        | inl none ↦ (let off = is_label_after xs c m none in let off' = rw (e, eqb_refl_true m) at off in cc)
      ])
    ]

next_put : (f : Forest Content) (p n c : ℕ) → IsDistinct f → CanPut f p (next_of f c) n → parent_of f c ≡ Some p → n ≢ c → next_of (link f p (next_of f c) n) c ≡ Some n
next_put f p n c once can child off =
    let w = seen f c once (parent_count f c p once child).0 in
    let r = child_of_parent f c p once child in
    let kids : children_of f p ≡ r.0.children = ap (λ (o : Option (Seen Content)). option_map_or (λ (s : Seen Content). s.children) o []) r.2 in
    let own : next_of f c ≡ after_in (children_of f p) c = ap (option_and_then (λ k. after_in (children_of f k) c)) child in
    let prior : prior_in (children_of f p) (next_of f c) ≡ Some c =
    ap (prior_in (children_of f p)) own ∙ prior_after None (children_of f p) c (λ k. times-children_of f p k once) (subst (λ l. 0 < times l c) (sym kids) r.3) in
    next_of-link f p (next_of f c) n once can c w.0 w.2 ∙ chosen (prior_in (children_of f p) (next_of f c)) prior (next_of f c)
  where
    chosen : (o : Option ℕ) → o ≡ Some c → (b : Option ℕ) → cond (eqb n c) b (cond (is_label o c) (Some n) b) ≡ Some n
    chosen o e b = let t : eqb n c ≡ false = ne_eqb n c off in rw (t, e, eqb_refl_true c) refl

-- ---- a br

pub append_keeps : (p : ℕ) (u : State) → IsValid u → KeepsOrder u (final (append_break p) u)
unfolding append_break make_break
append_keeps p u is =
    let run : final (make_element (codes "br") [] >>= λ x. insert p None x >> done) u ≡ edited (Insert p None u.next) (made Br u) =
    rw (final-bind, final-make_element, value-make_element, final-bind, final-edit, final-answer) refl in
    subst (λ t. KeepsOrder u t) (sym run) (keeps_trans (made_order Br u is) (bare_insert p None u.next (made Br u) (br_valid u is) (br_bare u is)))

fill_keeps : (c : ℕ) (u : State) → IsValid u → KeepsOrder u (final (fill_hidden c) u)
unfolding fill_hidden
fill_keeps c u is = ends_look (λ s. if shows_child s.trees c then done else append_break c) u (λ s _. KeepsOrder u s) (by (shows_child u.trees c))
  where
    by : (v : Bool) → Ends (if v then done else append_break c) u (λ s _. KeepsOrder u s)
    by true = ends_answer tt u (λ s _. KeepsOrder u s) (keeps_refl (tree_of u.trees 0))
    by false = append_keeps c u is

pub collapse_keeps : (q : Point) (u : State) → KeepsOrder u (final (collapse q) u)
unfolding acted
collapse_keeps q u = subst (λ t. KeepsOrder u t) (sym (final-perform (action.Select q q) u)) (same_trees u (selected q q u) (trees-selected q q u))

close_keeps : (c d : ℕ) (u : State) → IsValid u → KeepsOrder u (final (close_both c d) u)
unfolding close_both
close_keeps c d u is =
    let first = fill_hidden (deepest_last u c) in
    let second = fill_hidden (deepest_last u d) in
    let last = collapse (start_in (deepest_last u d)) in
    let u1 = final first u in
    let u2 = final second u1 in
    let is_1 = final_valid first u is in
    ends_look (λ s. fill_hidden (deepest_last s c) >> (fill_hidden (deepest_last s d) >> collapse (start_in (deepest_last s d)))) u (λ s _. KeepsOrder u s)
    (ends_bind first (λ _. second >> last) u (λ s _. KeepsOrder u s)
    (ends_bind second (λ _. last) u1 (λ s _. KeepsOrder u s)
    (keeps_trans (fill_keeps (deepest_last u c) u is) (keeps_trans (fill_keeps (deepest_last u d) u1 is_1) (collapse_keeps (start_in (deepest_last u d)) u2)))))

-- a line gets a br, and another one at the end of a container
pub break_keeps : (p : Point) (c : ℕ) (u : State) → IsValid u → KeepsOrder u (final (break_line p c) u)
unfolding break_line make_break
break_keeps p c u is =
    let v = made Br u in
    let is_v = br_valid u is in
    let w = final (insert_at_start u.next) v in
    let is_w = final_valid (insert_at_start u.next) v is_v in
    let q = at p.label (p.offset + 1) in
    let x = final (collapse q) w in
    let is_x = final_valid (collapse q) w is_w in
    let run : final (break_line p c) u ≡ final (if eqb (last_below x c) u.next then (make_element (codes "br") [] >>= insert_at_start) else done) x =
    rw (final-bind, final-make_element, value-make_element, final-bind, final-bind, final-look) refl in
    subst (λ t. KeepsOrder u t) (sym run)
    (keeps_trans (made_order Br u is) (keeps_trans (start_keeps u.next v is_v (br_bare u is)) (keeps_trans (collapse_keeps q w) (by x is_x (eqb (last_below x c) u.next)))))
  where
    by : (x : State) → IsValid x → (b : Bool) → KeepsOrder x (final (if b then (make_element (codes "br") [] >>= insert_at_start) else done) x)
    by x is_x true = another_keeps x is_x
    by x is_x false = subst (λ t. KeepsOrder x t) (sym (final-answer tt x)) (keeps_refl (tree_of x.trees 0))

-- ---- a second container

module _ (t : State) (is : IsValid t) (name : List ℕ) (attributes : List Attribute) (plain : is_thing name ≡ false) (c : ℕ) where
  abbrev V : State
  V = made (element_content name attributes) t

  abbrev Put : State
  Put = final (insert_after c t.next) (made (element_content name attributes) t)

  is_v : IsValid V
  is_v = subst IsValid (final-make_element name attributes t) (final_valid (make_element name attributes) t is)

  valid_put : IsValid Put
  valid_put = final_valid (insert_after c t.next) V is_v

  bare_v : leaves (tree_of V.trees t.next) ≡ []
  unfolding made
  bare_v = new_bare name attributes (kept t) (is_kept_state t is) plain

  loose_v : IsWithin V.trees 0 t.next → ⊥
  unfolding made
  loose_v = new_loose (kept t) (is_kept_state t is) (element_content name attributes)

  put_keeps : KeepsOrder V Put
  put_keeps = by (parent_of V.trees c) refl
    where
      by : (o : Option ℕ) → parent_of V.trees c ≡ o → KeepsOrder V Put
      by None e = subst (λ w. KeepsOrder V w) (sym (after_is c t.next V None e)) (keeps_refl (tree_of V.trees 0))
      by (Some p) e = subst (λ w. KeepsOrder V w) (sym (after_is c t.next V (Some p) e)) (bare_insert p (next_of V.trees c) t.next V is_v bare_v)

  -- where it stands in the document, it has been put after c
  record Stood : Type 0 where
    above : ℕ
    child : parent_of V.trees c ≡ Some above
    may : is_made_edit (Insert above (next_of V.trees c) t.next) V ≡ true

  stood : IsWithin Put.trees 0 t.next → Stood
  stood inside = by (parent_of V.trees c) refl
    where
      by : (o : Option ℕ) → parent_of V.trees c ≡ o → Stood
      by None e = absurd (loose_v (subst (λ (w : State). IsWithin w.trees 0 t.next) (after_is c t.next V None e) inside))
      by (Some p) e = elim (cases_Bool (is_made_edit (Insert p (next_of V.trees c) t.next) V)) [
        | inl may ↦ record { above = p; child = e; may = may }
        | inr left ↦ absurd (loose_v (
            subst (λ f. IsWithin f 0 t.next) (trees_left (Insert p (next_of V.trees c) t.next) V left)
            (subst (λ (w : State). IsWithin w.trees 0 t.next) (after_is c t.next V (Some p) e) inside)))
      ]

  module _ (put : Stood) where
    once_v : IsDistinct V.trees
    once_v = is_v.forest.distinct

    can : CanPut V.trees put.above (next_of V.trees c) t.next
    unfolding is_made_edit
    can = (inserts V put.above (next_of V.trees c) t.next put.may).can

    trees_put : Put.trees ≡ link V.trees put.above (next_of V.trees c) t.next
    unfolding trees_after
    trees_put = ap (λ (w : State). w.trees) (after_is c t.next V (Some put.above) put.child) ∙ trees_made (Insert put.above (next_of V.trees c) t.next) V put.may

    off_c : t.next ≢ c
    off_c e = let u : Some put.above ≡ None = sym put.child ∙ (ap (parent_of V.trees) (sym e) ∙ can.loose) in cc

    -- c keeps its tree
    same_put : tree_of Put.trees c ≡ tree_of t.trees c
    unfolding made
    same_put =
        let known = (parent_count V.trees c put.above once_v put.child).0 in
        let out : count_of (tree_of V.trees c) put.above ≡ 0 = elim (none_or_some (count_of (tree_of V.trees c) put.above)) [
          | inl none ↦ none
          | inr some ↦ absurd (parent_apart V.trees c put.above once_v put.child some)
        ] in
        ap (λ g. tree_of g c) trees_put
        ∙ (link_elsewhere V.trees put.above (next_of V.trees c) t.next c once_v can known out
        ∙ tree_of-with_leaf_other t.trees t.next c (element_content name attributes) off_c)

    new_put : tree_of Put.trees t.next ≡ Tree t.next (element_content name attributes) Nil Nil
    new_put =
        ap (λ g. tree_of g t.next) trees_put
        ∙ (link_elsewhere V.trees put.above (next_of V.trees c) t.next t.next once_v can can.node can.apart ∙ made_tree (element_content name attributes) t is)

    empty_put : children_of Put.trees t.next ≡ []
    empty_put = (root_seen Put.trees t.next (element_content name attributes) Nil valid_put.forest.distinct new_put).1

    bare_put : leaves (tree_of Put.trees t.next) ≡ []
    bare_put = ap leaves (new_put ∙ sym (made_tree (element_content name attributes) t is)) ∙ bare_v

    next_is : next_of Put.trees c ≡ Some t.next
    next_is = ap (λ g. next_of g c) trees_put ∙ next_put V.trees put.above t.next c once_v can put.child off_c

    content_put : (l : ℕ) → t.next ≢ l → content_of Put.trees l ≡ content_of t.trees l
    unfolding made
    content_put l off =
        ap (λ g. content_of g l) trees_put
        ∙ (content_of-link V.trees put.above (next_of V.trees c) t.next l once_v can ∙ content_of-with_leaf_other t.trees t.next (element_content name attributes) l (fresh t.trees t.next is.forest) off)

    amid_put : (x : ℕ) → AmidNoThing t c x → AmidNoThing Put c x
    amid_put x h l held off holds =
        let held_t : IsWithin t.trees c l = subst (λ g. 0 < count_of g l) same_put held in
        let same = same_inside t.trees Put.trees c l is.forest.distinct valid_put.forest.distinct same_put held_t in
        let holds_t : IsWithin t.trees l x = subst (λ g. 0 < count_of g x) same holds in
        let old : t.next ≢ l = λ e. (
        let low = is.forest.below l (omega (arith, held_t, total-without (λ m _. cond (eqb m l) 1 0) t.trees c)) in
        omega (arith, low, e)) in
        ap (λ (o : Option Content). option_map_or is_thing (option_and_then name_in o) false) (content_put l old) ∙ h l held_t off holds_t

  -- ---- it takes in the tail

  all_made : (q : Point) → may_extract Put q c t.next ≡ true → extracted q c t.next Put ≡ stepped_all (tail_of Put q c t.next) Put
  unfolding extracted
  all_made q may = rw may refl

  extract_keeps : (q : Point) → AmidNoThing t c q.label → KeepsOrder Put (extracted q c t.next Put)
  extract_keeps q amid =
      either_extracted (λ w. KeepsOrder Put w) q c t.next Put (λ may. (
      let put = stood (extract_tests Put q c t.next may).inside in
      subst (λ w. KeepsOrder Put w) (all_made q may)
      (keeps_same (tree_of Put.trees 0) (tree_of (extracted q c t.next Put).trees 0)
      (tails_ordered Put q c t.next valid_put may (next_is put) (empty_put put) (bare_put put) (amid_put put q.label amid)))))
      (keeps_refl (tree_of Put.trees 0))

  valid_extracted : (q : Point) → IsValid (extracted q c t.next Put)
  unfolding acted
  valid_extracted q = valid_acted (action.Extract q c t.next) Put valid_put

  parts_in_order : (q : Point) → AmidNoThing t c q.label → KeepsOrder t (final (close_both c t.next) (extracted q c t.next Put))
  parts_in_order q amid =
      keeps_trans (made_order (element_content name attributes) t is)
      (keeps_trans put_keeps (keeps_trans (extract_keeps q amid) (close_keeps c t.next (extracted q c t.next Put) (valid_extracted q))))

-- ---- a container is parted

-- the name of the second container is neither img nor hr where that of the first one isn't
second_plain : (t : State) (q : Point) (c : ℕ) → is_thing_at t.trees c ≡ false → is_thing (second_name t q c) ≡ false
unfolding second_name name_after
second_plain t q c plain = by (ends_line t q c) (is_heading_at t c) (has_name t.trees c (codes "dt")) (has_name t.trees c (codes "dd"))
  where
    own : (o : Option (List ℕ)) → option_map_or is_thing o false ≡ false → is_thing (unwrap_or o []) ≡ false
    own None e = refl
    own (Some name) e = e

    plain_name : (v : Bool) → is_thing (container_name v) ≡ false
    plain_name true = refl
    plain_name false = refl

    by : (ends heading dt dd : Bool)
        → is_thing (if ends then (if heading then container_name t.flags.paragraphs else (if dt then codes "dd" else (if dd then codes "dt" else tag_of t.trees c))) else tag_of t.trees c) ≡ false
    by false heading dt dd = own (name_of t.trees c) plain
    by true true dt dd = plain_name t.flags.paragraphs
    by true false true dd = refl
    by true false false true = refl
    by true false false false = own (name_of t.trees c) plain

module _ (t : State) (is : IsValid t) (c : ℕ) (plain : is_thing_at t.trees c ≡ false) (p : Point) (placed : Placed t.trees p) (parent : is_parent_at t.trees p.label ≡ true) (amid : AmidNoThing t c p.label) where
  abbrev Q : Point
  Q = parting_point t p

  abbrev Name : List ℕ
  Name = second_name t (parting_point t p) c

  abbrev Attributes : List Attribute
  Attributes = unset_in (attribute_list_of t.trees c) (codes "id")

  around : Around t.trees t.next is.forest p.label (parting_point t p).label
  around = parting_around t is p.label p (record { inside = placed.inside; holds = within_self t.trees p.label is.forest.distinct (parent_there t.trees p.label parent); parent = parent })

  -- what holds the point at which c is parted holds p
  amid_q : AmidNoThing t c Q.label
  amid_q l held off holds = amid l held off (within_trans t.trees l Q.label p.label is.forest.distinct holds around.holds)

  second_is : final (make_second Q c) t ≡ made (element_content Name Attributes) t
  unfolding make_second
  second_is = final-look _ t ∙ final-make_element Name Attributes t

  label_is_next : value (make_second Q c) t ≡ t.next
  unfolding make_second
  label_is_next = value-look _ t ∙ value-make_element Name Attributes t

  -- what is done with a second container
  abbrev With : ℕ → State → State
  With d u = final (close_both c d) (extracted Q c d (final (insert_after c d) u))

  part_is : final (part_at Q c) t ≡ With (value (make_second Q c) t) (final (make_second Q c) t)
  unfolding part_at acted
  part_is = rw (final-bind, final-bind, final-bind, final-perform) refl

  pub part_keeps : KeepsOrder t (final (part_at Q c) t)
  part_keeps =
      subst (λ u. KeepsOrder t u) (sym (part_is ∙ (ap (λ d. With d (final (make_second Q c) t)) label_is_next ∙ ap (λ u. With t.next u) second_is)))
      (parts_in_order t is Name Attributes (second_plain t Q c plain) c Q amid_q)
