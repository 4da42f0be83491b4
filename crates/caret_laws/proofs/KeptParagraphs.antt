-- Inserting a paragraph at a caret keeps the order of what the document bears, where it takes out nothing that is kept.
use Rattle.std.proofs.Common.{◌≡◌, ◌≢◌, ℕ, zero, suc, ◌+◌, Bool, true, false, ◌||◌, ◌&&◌, not, if◌then◌else◌, cond, eqb, List, [], ◌∷◌, ◌++◌, Option, Some, None, IfSome, is_none, refl, sym, ap, subst, ◌∙◌, inl, inr, arith, append_assoc, true≢false}
use Rattle.std.specs.Prelude.{codes, bytes_eq}
use Rattle.std.specs.Option.{option_map_or, option_and_then}
use Rattle.std.proofs.lemmas.Bool.{and_parts, or_cases, cases_Bool, ne_eqb}
use Rattle.std.proofs.lemmas.Slice.Eq.{bytes_eq-Decides}
use Rattle.edit_model.specs.DomModel.declared.Content.{Content}
use Rattle.edit_model.specs.DomModel.declared.Content.TheVariants.{Document, Element, Words, Remark}
use Rattle.edit_model.specs.DomModel.Contents.{is_parent_at, name_in, name_of}
use Rattle.edit_model.specs.DomModel.Forest.{Seen, last_in, after_in, count_of, tree_of, parent_of, children_of, first_of, next_of, IsWithin}
use Rattle.edit_model.proofs.DomModel.Links.{child_of_parent}
use Rattle.edit_model.specs.LiveRange.declared.places.Pair.{Pair}
use Rattle.edit_model.specs.LiveRange.declared.places.Point.{Point}
use Rattle.edit_model.specs.State.{State}
use Rattle.edit_model.specs.Compositions.{set_tag_name}
use Rattle.edit_model.specs.Confined.{is_inside}
use Rattle.edit_model.specs.Edit.{Insert, is_made_edit, trees_after, edited}
use Rattle.edit_model.specs.Kept.{borne_by, leaves, is_thing}
use Rattle.edit_model.specs.Action.{made, element_content}
use Rattle.edit_model.specs.History.{begun}
use Rattle.edit_model.specs.Moves.{make_break}
use Rattle.edit_model.specs.Run.{Run, ◌>>=◌, ◌>>◌, final, value, answer, done, given, make_element, insert, collapse}
use Rattle.edit_model.specs.Valid.{IsValid}
use Rattle.edit_model.proofs.IslandRuns.{trees_made, trees_left}
use Rattle.edit_model.proofs.Steps.{final-bind, value-bind, final-look, value-look, final-answer, value-answer, final-edit, final-make_element, value-make_element}
use Rattle.edit_model.proofs.Tests.{inserts}
use Rattle.edit_model.proofs.Trees.{tree_of-with_leaf_other}
use Rattle.edit_model.proofs.ValidRuns.{final_valid}
use Rattle.edit_laws.specs.MoveLaws.{IsBare}
use Rattle.edit_laws.specs.Order.{KeepsOrder, IsKeeping}
use Rattle.edit_laws.proofs.Leaves.{leaves-put_under}
use Rattle.edit_laws.proofs.NewElements.{new_bare}
use Rattle.edit_laws.proofs.Renaming.{tag_name_keeps}
use Rattle.edit_laws.proofs.Subsequences.{keeps_refl, keeps_trans}
use Rattle.command_laws.proofs.AncestorRuns.{order_preserving_fix_ancestors}
use Rattle.command_laws.proofs.ListWalks.{Consecutive, alone, among, consecutive_keeps}
use Rattle.command_laws.proofs.Splitting.{parted, order_preserving_split_one}
use Rattle.command_laws.proofs.Widening.{Siblings, pushed-last, one_after, same_list}
use Rattle.inline_value.specs.NodeStyles.Allowed.{allowed_in_name}
use Rattle.inline_value.specs.EditQuery.Rows.{container_name}
use Rattle.inline_value.specs.Ancestors.{is_description, has_place, fix_ancestors}
use Rattle.inline_value.specs.WrapSplit.declared.rule.Criterion.TheVariants.{Never}
use Rattle.inline_value.specs.WrapSplit.declared.rule.Recipe.TheVariants.{Make}
use Rattle.inline_value.specs.WrapSplit.Split.{split_parent}
use Rattle.inline_value.specs.WrapSplit.Walks.{turn_bound}
use Rattle.inline_value.specs.WrapSplit.Wrap.{list_on, append_break, wrap}
use Rattle.delete_core.specs.declared.deletion.TheConstants.Manner.{DEFAULT}
use Rattle.delete_core.specs.Merging.{fill_empty}
use Rattle.delete_core.specs.Places.{start_in}
use Rattle.text_insertion.specs.Containers.{container_of, is_own_container, own_container, make_line, first_content, add_container, takes_container, make_container, insert_container, wrap_line, plain_container, contents_from, contents_after, if_paragraph_child}
use Rattle.text_insertion.specs.Entries.{is_entry, is_stray, rename_stray, has_sole_break, is_empty_entry, leave_list}
use Rattle.text_insertion.specs.Halves.{part_container}
use Rattle.text_insertion.specs.Paragraph.{split_text, holds_lines, break_line, part_line, part_line_if, part_paragraph, insert_paragraph_inside, insert_paragraph}
use Rattle.text_insertion.specs.Start.{active_start, start_inside, insert_at_start, erase}
use Rattle.caret_laws.specs.ParagraphOrder.{StandsInNoThing}
use Rattle.caret_laws.specs.SolidOrder.{KeepsOrderUpToBlanks, StandsAt, HasRoom}
use Rattle.caret_laws.specs.TailLaws.{is_thing_at, AmidNoThing}
use Rattle.caret_laws.proofs.AlikeAncestors.{alike_fix_ancestors}
use Rattle.caret_laws.proofs.AlikeParagraphs.{alike_rename_stray, alike_wrap_line}
use Rattle.caret_laws.proofs.AlikeSplits.{alike_split_parent}
use Rattle.caret_laws.proofs.BlindRuns.{kept}
use Rattle.caret_laws.proofs.Canonical.{Ends, ends_answer, ends_look}
use Rattle.caret_laws.proofs.InsideRuns.{Began, Underway, valid_way}
use Rattle.caret_laws.proofs.PutImages.{caret_begun, room_begun}
use Rattle.caret_laws.proofs.LineBreaks.{start_keeps, Br, br_bare, br_valid}
use Rattle.caret_laws.proofs.ParagraphRuns.{contained}
use Rattle.caret_laws.proofs.PartedLines.{own_plain, container_keeps, split_value, Left, X, start_t, left_stays, left_order, left_caret, paragraph_is, Erased, way_erased, place, still_nothing, whole_order, begun_way, order_begun, thing_begun}
use Rattle.caret_laws.proofs.Partings.{append_keeps, collapse_keeps, break_keeps}
use Rattle.caret_laws.proofs.PutElements.{start_caret, is_kept_state, made_tree, made_order}
use Rattle.caret_laws.proofs.SparingRuns.{Spared, spared_look, spared_front, spared_back, sparing_keeps, sparing_ordered}
use Rattle.caret_laws.proofs.SplitTexts.{start_among}
use Rattle.caret_laws.proofs.StillRuns.{Good, Stays}
use Rattle.caret_laws.proofs.TreesBeside.{tree_of-linked}
use Rattle.caret_laws.proofs.WrappedCarets.{Clear, Wrapped, wrap_answers}

-- ---- an entry leaves its list

-- a dt or dd is neither an image nor a rule
description_bare : (s : State) (n : ℕ) → is_description s n ≡ true → IsBare s n
unfolding is_description borne_by
description_bare s n h Document e = refl
description_bare s n h (Remark chars) e = refl
description_bare s n h (Words chars) e = absurd (true≢false (sym h ∙ ap (λ (o : Option Content). named (option_and_then name_in o)) e))
  where
    named : Option (List ℕ) → Bool
    named o = option_map_or (λ own. bytes_eq own (codes "dd")) o false || option_map_or (λ own. bytes_eq own (codes "dt")) o false
description_bare s n h (Element name attributes) e = elim (or_cases (bytes_eq name (codes "dd")) (bytes_eq name (codes "dt")) (sym (ap (λ (o : Option Content). named (option_and_then name_in o)) e) ∙ h)) [
  | inl at ↦ subst (λ w. borne_by n (Element w attributes) ≡ []) (sym ((bytes_eq-Decides name (codes "dd")).0 at)) refl
  | inr at ↦ subst (λ w. borne_by n (Element w attributes) ≡ []) (sym ((bytes_eq-Decides name (codes "dt")).0 at)) refl
]
  where
    named : Option (List ℕ) → Bool
    named o = option_map_or (λ own. bytes_eq own (codes "dd")) o false || option_map_or (λ own. bytes_eq own (codes "dt")) o false

container_plain : (v : Bool) → is_thing (container_name v) ≡ false
container_plain true = refl
container_plain false = refl

rename_keeping : (n : ℕ) (s : State) → IsKeeping s → KeepsOrder s (final (rename_stray n) s)
unfolding rename_stray is_stray
rename_keeping n s is = ends_look (λ u. if is_description u n && not (has_place u n) then set_tag_name n (container_name u.flags.paragraphs) else answer n) s (λ u _. KeepsOrder s u) (by (is_description s n && not (has_place s n)) refl)
  where
    by : (v : Bool) → (is_description s n && not (has_place s n)) ≡ v → Ends (if v then set_tag_name n (container_name s.flags.paragraphs) else answer n) s (λ u _. KeepsOrder s u)
    by false e = ends_answer n s (λ u _. KeepsOrder s u) (keeps_refl (tree_of s.trees 0))
    by true e = tag_name_keeps n (container_name s.flags.paragraphs) s is (description_bare s n (and_parts (is_description s n) (not (has_place s n)) e).0) (container_plain s.flags.paragraphs)

fill_empty_keeps : (b : ℕ) (u : State) → IsValid u → KeepsOrder u (final (fill_empty b) u)
unfolding fill_empty
fill_empty_keeps b u is = ends_look (λ s. if is_none (first_of s.trees b) then append_break b else done) u (λ s _. KeepsOrder u s) (by (is_none (first_of u.trees b)))
  where
    by : (v : Bool) → Ends (if v then append_break b else done) u (λ s _. KeepsOrder u s)
    by true = append_keeps b u is
    by false = ends_answer tt u (λ s _. KeepsOrder u s) (keeps_refl (tree_of u.trees 0))

leave_keeps : (c : ℕ) (s : State) → IsValid s → Spared (leave_list c) s → KeepsOrder s (final (leave_list c) s)
unfolding leave_list
leave_keeps c s is spares =
    let m1 = split_parent (c ∷ []) in
    let m2 = fill_empty c in
    let m3 = rename_stray c in
    let s1 = final m1 s in
    let is1 = final_valid m1 s is in
    let s2 = final m2 s1 in
    let is2 = final_valid m2 s1 is1 in
    let s3 = final m3 s2 in
    let is3 = final_valid m3 s2 is2 in
    let n = value m3 s2 in
    let r1 = spared_front m1 (λ _. m2 >> (m3 >>= fix_ancestors)) s spares in
    let r2 = spared_back m2 (λ _. m3 >>= fix_ancestors) s1 (spared_back m1 (λ _. m2 >> (m3 >>= fix_ancestors)) s spares) in
    let r3 = spared_front m3 fix_ancestors s2 r2 in
    let r4 = spared_back m3 fix_ancestors s2 r2 in
    let run : final (m1 >> (m2 >> (m3 >>= fix_ancestors))) s ≡ final (fix_ancestors n) s3 = rw (final-bind, final-bind, final-bind) refl in
    subst (λ u. KeepsOrder s u) (sym run)
    (keeps_trans (sparing_ordered m1 s (alike_split_parent (c ∷ [])) (order_preserving_split_one c) is r1)
    (keeps_trans (fill_empty_keeps c s1 is1)
    (keeps_trans (sparing_keeps m3 s2 (alike_rename_stray c) is2 r3 (rename_keeping c (kept s2) (is_kept_state s2 is2)))
    (sparing_ordered (fix_ancestors n) s3 (alike_fix_ancestors n) (order_preserving_fix_ancestors n) is3 r4))))

-- ---- a line is wrapped

module _ (s : State) (is : IsValid s) (o : ℕ) where
  line_siblings : (n z : ℕ) (list : List ℕ) → Siblings s o list → last_in list ≡ Some z → Siblings s o (list ++ contents_after s n z)
  unfolding contents_after
  line_siblings zero z list w last = same_list s is o list w
  line_siblings (suc n) z list w last =
      by_next (next_of s.trees z) refl
      (λ q e. subst (Siblings s o) (append_assoc list (q ∷ []) (contents_after s n q)) (line_siblings n q (list ++ q ∷ []) (one_after s is o list z q w last e) (pushed-last None list q)))
    where
      by_test : (q : ℕ) (v : Bool) → Siblings s o (list ++ q ∷ contents_after s n q) → Siblings s o (list ++ list_on (if v then Some q else None) [] (λ q. q ∷ contents_after s n q))
      by_test q true more = more
      by_test q false more = same_list s is o list w

      by_next : (p : Option ℕ) → next_of s.trees z ≡ p → ((q : ℕ) → next_of s.trees z ≡ Some q → Siblings s o (list ++ q ∷ contents_after s n q)) → Siblings s o (list ++ list_on (if_paragraph_child s p) [] (λ q. q ∷ contents_after s n q))
      by_next None e more = same_list s is o list w
      by_next (Some q) e more = by_test q (allowed_in_name s.trees q (codes "p")) (more q e)

line_ended : (s : State) (k : ℕ) → parent_of s.trees k ≡ None → (n : ℕ) → contents_after s n k ≡ []
unfolding contents_after
line_ended s k root zero = refl
line_ended s k root (suc n) =
    let none : next_of s.trees k ≡ None = ap (option_and_then (λ p. after_in (children_of s.trees p) k)) root in
    rw none refl

line_consecutive : (s : State) → IsValid s → (k : ℕ) → Consecutive s (contents_from s k)
unfolding contents_from
line_consecutive s is k = by (parent_of s.trees k) refl
  where
    by : (p : Option ℕ) → parent_of s.trees k ≡ p → Consecutive s (k ∷ contents_after s (turn_bound s) k)
    by None root = alone k (ap (λ xs. k ∷ xs) (line_ended s k root (turn_bound s)))
    by (Some o) up =
        let w = child_of_parent s.trees k o is.forest.distinct up in
        let own : children_of s.trees o ≡ w.0.children = ap (λ (x : Option (Seen Content)). option_map_or (λ (y : Seen Content). y.children) x []) w.2 in
        let p = parted w.0.children k w.3 in
        among o (line_siblings s is o (turn_bound s) k (k ∷ []) (record { front = p.0; rest = p.1; is = own ∙ p.2 }) refl)

wrap_keeping : (k : ℕ) (s : State) → IsKeeping s → KeepsOrder s (final (wrap_line k) s)
unfolding wrap_line
wrap_keeping k s is =
    subst (λ u. KeepsOrder s u) (sym (final-look _ s))
    (consecutive_keeps Never (Make (plain_container s)) tt (container_plain s.flags.paragraphs) s is (contents_from s k) (line_consecutive s is.valid k))

wrap_line_keeps : (k : ℕ) (s : State) → IsValid s → Spared (wrap_line k) s → KeepsOrder s (final (wrap_line k) s)
wrap_line_keeps k s is spares = sparing_keeps (wrap_line k) s (alike_wrap_line k) is spares (wrap_keeping k (kept s) (is_kept_state s is))

-- ---- an empty container is put in

-- a new element with a br bears nothing
module _ (name : List ℕ) (plain : is_thing name ≡ false) (u : State) (is : IsValid u) where
  abbrev E : State
  E = made (element_content name []) u

  abbrev F : State
  F = made Br (made (element_content name []) u)

  is_e : IsValid E
  is_e = subst IsValid (final-make_element name [] u) (final_valid (make_element name []) u is)

  is_f : IsValid F
  is_f = br_valid E is_e

  bare_e : leaves (tree_of E.trees u.next) ≡ []
  unfolding made
  bare_e = new_bare name [] (kept u) (is_kept_state u is) plain

  apart_br : E.next ≢ u.next
  unfolding made
  apart_br e = omega (arith, e)

  bare_f : leaves (tree_of F.trees u.next) ≡ []
  unfolding made
  bare_f = ap leaves (tree_of-with_leaf_other E.trees E.next u.next Br apart_br) ∙ bare_e

  -- the br holds no other node
  br_apart : count_of (tree_of F.trees E.next) u.next ≡ 0
  br_apart = ap (λ g. count_of g u.next) (made_tree Br E is_e) ∙ alone (eqb E.next u.next) (ne_eqb E.next u.next apart_br)
    where
      alone : (v : Bool) → v ≡ false → cond v 1 0 + (0 + 0) ≡ 0
      alone true e = absurd (true≢false e)
      alone false e = refl

  bare_edited : leaves (tree_of (edited (Insert u.next None E.next) F).trees u.next) ≡ []
  unfolding is_made_edit trees_after
  bare_edited = elim (cases_Bool (is_made_edit (Insert u.next None E.next) F)) [
    | inr left ↦ ap (λ f. leaves (tree_of f u.next)) (trees_left (Insert u.next None E.next) F left) ∙ bare_f
    | inl may ↦ (
        let can = (inserts F u.next None E.next may).can in
        ap (λ f. leaves (tree_of f u.next)) (trees_made (Insert u.next None E.next) F may)
        ∙ (ap leaves (tree_of-linked F.trees u.next None E.next u.next is_f.forest.distinct can br_apart)
        ∙ (leaves-put_under (tree_of F.trees u.next) u.next None (tree_of F.trees E.next) (br_bare E is_e) ∙ bare_f)))
  ]

  abbrev G : State
  G = final (append_break u.next) (made (element_content name []) u)

  bare_g : leaves (tree_of G.trees u.next) ≡ []
  unfolding append_break make_break
  bare_g =
      let run : final (make_element (codes "br") [] >>= λ x. insert u.next None x >> done) E ≡ edited (Insert u.next None E.next) F =
      rw (final-bind, final-make_element, value-make_element, final-bind, final-edit, final-answer) refl in
      ap (λ (w : State). leaves (tree_of w.trees u.next)) run ∙ bare_edited

  put_order : KeepsOrder u (final (insert_at_start u.next) G)
  put_order =
      let is_g = final_valid (append_break u.next) E is_e in
      keeps_trans (made_order (element_content name []) u is) (keeps_trans (append_keeps u.next E is_e) (start_keeps u.next G is_g bare_g))

container_final : (u : State) → final make_container u ≡ final (append_break u.next) (made (element_content (container_name u.flags.paragraphs) []) u)
unfolding make_container
container_final u = rw (final-look, final-bind, final-make_element, value-make_element, final-bind, final-answer) refl

container_value : (u : State) → value make_container u ≡ u.next
unfolding make_container
container_value u = rw (value-look, value-bind, value-make_element, value-bind, value-answer) refl

insert_container_keeps : (u : State) → IsValid u → KeepsOrder u (final insert_container u)
unfolding insert_container
insert_container_keeps u is =
    let put : ℕ → Run (Unit {0}) = λ c. insert_at_start c >> collapse (start_in c) in
    let g = final (append_break u.next) (made (element_content (container_name u.flags.paragraphs) []) u) in
    let v = final (insert_at_start u.next) g in
    let run : final (make_container >>= put) u ≡ final (collapse (start_in u.next)) v =
    final-bind make_container put u
    ∙ (ap (λ c. final (put c) (final make_container u)) (container_value u)
    ∙ (ap (λ w. final (put u.next) w) (container_final u) ∙ final-bind (insert_at_start u.next) (λ _. collapse (start_in u.next)) g)) in
    subst (λ t. KeepsOrder u t) (sym run) (keeps_trans (put_order (container_name u.flags.paragraphs) (container_plain u.flags.paragraphs) u is) (collapse_keeps (start_in u.next) v))

add_keeps : (u : State) → IsValid u → KeepsOrder u (final add_container u)
unfolding add_container
add_keeps u is = ends_look (λ s. if takes_container s then (insert_container >> answer None) else answer None) u (λ s _. KeepsOrder u s) (by (takes_container u))
  where
    by : (v : Bool) → Ends {T = Option ℕ} (if v then (insert_container >> answer None) else answer None) u (λ s _. KeepsOrder u s)
    by true = subst (λ t. KeepsOrder u t) (sym (final-bind insert_container (λ _. answer None) u ∙ final-answer None (final insert_container u))) (insert_container_keeps u is)
    by false = ends_answer None u (λ s _. KeepsOrder u s) (keeps_refl (tree_of u.trees 0))

-- ---- the line

add_answers : (t : State) → value add_container t ≡ None
unfolding add_container
add_answers t = value-look _ t ∙ by (takes_container t)
  where
    by : (v : Bool) → value {T = Option ℕ} (if v then (insert_container >> answer None) else answer None) t ≡ None
    by true = value-bind insert_container (λ _. answer None) t ∙ value-answer None (final insert_container t)
    by false = value-answer None t

-- what own_container ends in: the order is kept, and where it answers a container, no image and no rule stands between that and
-- the start of the active range
pub record Lined (t u : State) (o : Option ℕ) : Type 0 where
  pub order : KeepsOrder t u
  pub plain : (x : ℕ) → o ≡ Some x → is_thing_at u.trees x ≡ false
  pub amid : (x : ℕ) → o ≡ Some x → (p : Point) → active_start u ≡ Some p → AmidNoThing u x p.label

wrapped_amid : (name : List ℕ) (u : State) (x : ℕ) → Wrapped name u x → (p : Point) → active_start u ≡ Some p → AmidNoThing u x p.label
wrapped_amid name u x w p e =
    start_among u p (λ y. AmidNoThing u x y.label)
    (λ pair at. subst (λ o. IfSome o (λ (y : Pair). AmidNoThing u x y.anchor.label × AmidNoThing u x y.focus.label)) at w.amid.points) e

-- a plain container is no entry
plain_unlisted : (v : Bool) (u : State) (x : ℕ) → name_of u.trees x ≡ Some (container_name v) → is_empty_entry u x ≡ false
unfolding is_empty_entry is_entry is_description
plain_unlisted v u x e =
    ap (λ o. ((named o (codes "li") || (named o (codes "dd") || named o (codes "dt"))) && (is_none (first_of u.trees x) || has_sole_break u x))) e ∙ by v
  where
    named : Option (List ℕ) → List ℕ → Bool
    named o name = option_map_or (λ own. bytes_eq own name) o false

    by : (v : Bool) → ((bytes_eq (container_name v) (codes "li") || (bytes_eq (container_name v) (codes "dd") || bytes_eq (container_name v) (codes "dt"))) && (is_none (first_of u.trees x) || has_sole_break u x)) ≡ false
    by true = refl
    by false = refl

-- at a caret that stands in no image and no rule
pub clear_caret : (t : State) (y : Point) (x : ℕ) → StandsAt t y → StandsInNoThing t y.label → Clear x t
clear_caret t y x caret none = record { points = subst (λ o. IfSome o (λ (pair : Pair). Frees pair)) (sym caret) ((λ l held _. none l held), (λ l held _. none l held)) }
  where
    Frees : Pair → Type 0
    Frees pair = ((l : ℕ) → IsWithin t.trees l pair.anchor.label → (IsWithin t.trees l x → ⊥) → is_thing_at t.trees l ≡ false)
        × ((l : ℕ) → IsWithin t.trees l pair.focus.label → (IsWithin t.trees l x → ⊥) → is_thing_at t.trees l ≡ false)

module _ (t : State) (is : IsValid t) (y : Point) (caret : StandsAt t y) (none : StandsInNoThing t y.label) where
  abbrev Lines : State → Option ℕ → Type 0
  Lines u o = Lined t u o

  lined_own : (c : ℕ) → is_own_container t c ≡ true → Lines t (Some c)
  lined_own c own = record {
    order = keeps_refl (tree_of t.trees 0);
    plain = λ x e. subst (λ k. is_thing_at t.trees k ≡ false) (let k : Some c ≡ Some x = e in cc) (own_plain t c own);
    amid = λ x e p start l _ _ held. (
        let same : y ≡ p = (let k : Some y ≡ Some p = sym (start_caret t y caret) ∙ start in cc) in
        none l (subst (λ (q : Point). IsWithin t.trees l q.label) (sym same) held));
  }

  lined_none : (u : State) → KeepsOrder t u → Lines u None
  lined_none u order = record {
    order = order;
    plain = λ x e. absurd (let k : None ≡ Some x = e in cc);
    amid = λ x e. absurd (let k : None ≡ Some x = e in cc);
  }

  wrapped : (k : ℕ) → Ends (wrap_line k) t (λ u o. (x : ℕ) → o ≡ Some x → Wrapped (container_name t.flags.paragraphs) u x)
  unfolding wrap_line
  wrapped k = ends_look (λ s. wrap Never (Make (plain_container s)) (contents_from s k)) t (λ u o. (x : ℕ) → o ≡ Some x → Wrapped (container_name t.flags.paragraphs) u x)
      (wrap_answers t is (container_name t.flags.paragraphs) (container_plain t.flags.paragraphs) (clear_caret t y t.next caret none) (contents_from t k))

  lined_wrap : (k : ℕ) → Spared (wrap_line k) t → Ends (wrap_line k) t Lines
  lined_wrap k spares = record {
    order = wrap_line_keeps k t is spares;
    plain = λ x e. (wrapped k x e).plain;
    amid = λ x e. wrapped_amid (container_name t.flags.paragraphs) (final (wrap_line k) t) x (wrapped k x e);
  }

  lined_add : Ends add_container t Lines
  lined_add = subst (λ o. Lines (final add_container t) o) (sym (add_answers t)) (lined_none (final add_container t) (add_keeps t is))

  lined_made : Spared make_line t → Ends make_line t Lines
  unfolding make_line
  lined_made spares = ends_look (λ s. given (first_content s) add_container wrap_line) t Lines (by (first_content t) (spared_look (λ s. given (first_content s) add_container wrap_line) t spares))
    where
      by : (o : Option ℕ) → Spared (given o add_container wrap_line) t → Ends (given o add_container wrap_line) t Lines
      by None r = lined_add
      by (Some k) r = lined_wrap k r

  lined : (c : ℕ) → Spared (own_container c) t → Ends (own_container c) t Lines
  unfolding own_container
  lined c spares =
      ends_look (λ s. if is_own_container s c then answer (Some c) else make_line) t Lines
      (by (is_own_container t c) refl (spared_look (λ s. if is_own_container s c then answer (Some c) else make_line) t spares))
    where
      by : (v : Bool) → is_own_container t c ≡ v → Spared (if v then answer (Some c) else make_line) t → Ends (if v then answer (Some c) else make_line) t Lines
      by true own r = ends_answer (Some c) t Lines (lined_own c own)
      by false own r = lined_made r

  -- where each line may be wrapped
  pub lined_by : (c : ℕ) → ((k : ℕ) → Spared (wrap_line k) t) → Ends (own_container c) t Lines
  unfolding own_container make_line
  lined_by c spares = ends_look (λ s. if is_own_container s c then answer (Some c) else make_line) t Lines (by (is_own_container t c) refl)
    where
      from : (o : Option ℕ) → Ends (given o add_container wrap_line) t Lines
      from None = lined_add
      from (Some k) = lined_wrap k (spares k)

      by : (v : Bool) → is_own_container t c ≡ v → Ends (if v then answer (Some c) else make_line) t Lines
      by true own = ends_answer (Some c) t Lines (lined_own c own)
      by false own = ends_look (λ s. given (first_content s) add_container wrap_line) t Lines (from (first_content t))

  -- and the container is no empty entry
  abbrev Unlisted : State → Option ℕ → Type 0
  Unlisted u o = (x : ℕ) → o ≡ Some x → is_empty_entry u x ≡ false

  pub unlisted : (c : ℕ) → is_empty_entry t c ≡ false → Ends (own_container c) t Unlisted
  unfolding own_container make_line
  unlisted c filled = ends_look (λ s. if is_own_container s c then answer (Some c) else make_line) t Unlisted (by (is_own_container t c))
    where
      added : Unlisted (final add_container t) (value add_container t)
      added x e = absurd (let k : None ≡ Some x = sym (add_answers t) ∙ e in cc)

      from : (o : Option ℕ) → Ends (given o add_container wrap_line) t Unlisted
      from None = added
      from (Some k) = λ x e. plain_unlisted t.flags.paragraphs (final (wrap_line k) t) x (wrapped k x e).called

      by : (v : Bool) → Ends (if v then answer (Some c) else make_line) t Unlisted
      by true = ends_answer (Some c) t Unlisted (λ x e. (let same : c ≡ x = (let k : Some c ≡ Some x = e in cc) in subst (λ l. is_empty_entry t l ≡ false) same filled))
      by false = ends_look (λ s. given (first_content s) add_container wrap_line) t Unlisted (from (first_content t))

-- from there on
line_keeps : (x : Point) (c : ℕ) (u : State) → IsValid u → is_thing_at u.trees c ≡ false → ((p : Point) → active_start u ≡ Some p → is_parent_at u.trees p.label ≡ true × AmidNoThing u c p.label)
    → Spared (part_line x c) u → KeepsOrder u (final (part_line x c) u)
unfolding part_line
line_keeps x c u is plain at_start spares =
    ends_look (λ s. if holds_lines s c then break_line x c else (if is_empty_entry s c then leave_list c else part_container c)) u (λ s _. KeepsOrder u s)
    (by (holds_lines u c) (is_empty_entry u c) (spared_look (λ s. if holds_lines s c then break_line x c else (if is_empty_entry s c then leave_list c else part_container c)) u spares))
  where
    by : (v w : Bool) → Spared (if v then break_line x c else (if w then leave_list c else part_container c)) u → Ends (if v then break_line x c else (if w then leave_list c else part_container c)) u (λ s _. KeepsOrder u s)
    by true w r = break_keeps x c u is
    by false true r = leave_keeps c u is r
    by false false r = container_keeps u c is plain at_start

module _ (s : State) (h : ℕ) (b : Began s h) where
  -- steps 3 to 9
  module _ (t : State) (stays : Stays s h false b t) (y : Point) (caret : StandsAt t y) (none : StandsInNoThing t y.label) where
    pub is_t : IsValid t
    is_t = valid_way s h false b t stays.way

    pub parent_start : (u : State) → Stays s h false b u → (p : Point) → active_start u ≡ Some p → is_parent_at u.trees p.label ≡ true
    parent_start u k p e =
        start_among u p (λ x. is_parent_at u.trees x.label ≡ true)
        (λ pair at. (
        let both : IfSome (Some pair) (λ (x : Pair). Good s h false b u x.anchor.label × Good s h false b u x.focus.label) =
        subst (λ o. IfSome o (λ (x : Pair). Good s h false b u x.anchor.label × Good s h false b u x.focus.label)) at k.selects.points in
        (both.0.parent, both.1.parent)))
        e

    from_container : (c : ℕ) → Spared (own_container c >>= part_line_if y) t → KeepsOrder t (final (own_container c >>= part_line_if y) t)
    from_container c spares =
        let m = own_container c in
        let k = lined t is_t y caret none c (spared_front m (part_line_if y) t spares) in
        subst (λ u. KeepsOrder t u) (sym (final-bind m (part_line_if y) t))
        (keeps_trans k.order (by (value m t) refl k.plain k.amid (spared_back m (part_line_if y) t spares)))
      where
        by : (o : Option ℕ) → value (own_container c) t ≡ o → ((x : ℕ) → o ≡ Some x → is_thing_at (final (own_container c) t).trees x ≡ false)
            → ((x : ℕ) → o ≡ Some x → (p : Point) → active_start (final (own_container c) t) ≡ Some p → AmidNoThing (final (own_container c) t) x p.label)
            → Spared (part_line_if y o) (final (own_container c) t) → KeepsOrder (final (own_container c) t) (final (part_line_if y o) (final (own_container c) t))
        by None e plain amid r = subst (λ u. KeepsOrder (final (own_container c) t) u) (sym (final-answer tt (final (own_container c) t))) (keeps_refl (tree_of (final (own_container c) t).trees 0))
        by (Some x) e plain amid r =
            let u = final (own_container c) t in
            let held = contained s h b t stays c x e in
            line_keeps y x u (valid_way s h false b u held.stays.way) (plain x refl) (λ p start. (parent_start u held.stays p start, amid x refl p start)) r

    pub paragraph_keeps : Spared (part_paragraph y) t → KeepsOrder t (final (part_paragraph y) t)
    unfolding part_paragraph
    paragraph_keeps spares =
        let k : State → Run (Unit {0}) = λ u. own_container (container_of u y.label) >>= part_line_if y in
        subst (λ u. KeepsOrder t u) (sym (final-look k t)) (from_container (container_of t y.label) (spared_look k t spares))

  -- ---- the whole

  module _ (a : State) (way_a : Underway s h false a) (p : Point) (room : HasRoom a) (caret : StandsAt a p) (none : StandsInNoThing a p.label) where
    abbrev pub Spares_inside : Type 0
    Spares_inside = Spared insert_paragraph_inside (final (erase DEFAULT) a)

    kept_inside : Spares_inside → (held : is_inside (Erased s h b a way_a p room caret) (place s h b a way_a p room caret).place.label ≡ true) → KeepsOrder (Erased s h b a way_a p room caret) (final insert_paragraph_inside (Erased s h b a way_a p room caret))
    unfolding insert_paragraph_inside
    kept_inside spares held =
        let t = Erased s h b a way_a p room caret in
        let way = way_erased s h b a way_a p room caret in
        let q = (place s h b a way_a p room caret).place in
        let at_q = (place s h b a way_a p room caret).caret in
        let u = Left s h b t way q at_q held in
        let x = X s h b t way q at_q held in
        let k : State → Run (Unit {0}) = λ w. given (start_inside w) done λ z. split_text z >>= part_paragraph in
        let looked : Spared (given (start_inside t) done λ z. split_text z >>= part_paragraph) t = spared_look k t spares in
        let from_q : Spared (split_text q >>= part_paragraph) t = subst (λ o. Spared (given o done λ z. split_text z >>= part_paragraph) t) (start_t s h b t way q at_q held) looked in
        let rest : Spared (part_paragraph x) u = subst (λ z. Spared (part_paragraph z) u) (split_value q t) (spared_back (split_text q) part_paragraph t from_q) in
        subst (λ w. KeepsOrder t w) (sym (paragraph_is s h b t way q at_q held))
        (keeps_trans (left_order s h b t way q at_q held)
        (paragraph_keeps u (left_stays s h b t way q at_q held) x (left_caret s h b t way q at_q held) (still_nothing s h b a way_a p room caret held none) rest))

    pub line_parted : Spares_inside → KeepsOrderUpToBlanks a (final insert_paragraph a)
    line_parted spares = whole_order s h b a way_a p room caret (λ held. kept_inside spares held)

  pub kept_keeps : (p : Point) → HasRoom s → StandsAt s p → StandsInNoThing s p.label → Spared insert_paragraph_inside (final (erase DEFAULT) (begun (Some h) false s))
      → KeepsOrderUpToBlanks s (final insert_paragraph (begun (Some h) false s))
  kept_keeps p room caret none spares =
      let a = begun (Some h) false s in
      order_begun s h b (final insert_paragraph a)
      (line_parted a (begun_way s h b) p (room_begun s h b room) (caret_begun s h b p caret) (thing_begun s h b p.label none) spares)
