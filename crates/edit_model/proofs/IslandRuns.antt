-- Every run leaves the trees of the islands as they were.
use Rattle.std.proofs.Common.{◌≡◌, ◌≢◌, ◌⊎◌, ℕ, ◌<◌, Bool, true, false, ◌||◌, not, cond, eqb, Option, Some, None, refl, sym, ap, subst, ◌∙◌, inl, inr, arith, true≢false}
use Rattle.std.specs.Prelude.{bytes_eq, codes}
use Rattle.std.specs.Option.{option_map, option_map_or, option_and_then}
use Rattle.std.proofs.lemmas.Bool.{and_parts, or_cases, cases_Bool, eq-eqb, leb-true, not-true, eqb-true}
use Rattle.point_order.specs.DomModel.declared.Content.{Content}
use Rattle.point_order.specs.DomModel.declared.Content.TheVariants.{Document, Element, Words, Remark}
use Rattle.point_order.specs.DomModel.Contents.{is_element, name_in, may_have_children, is_break}
use Rattle.point_order.specs.DomModel.Editing.{is_true_state, is_false_state, editing_host, is_host, is_editable}
use Rattle.point_order.specs.DomModel.Forest.{Forest, Seen, is_label, tops, count_of, tree_of, parent_of, content_of, unlink, IsDistinct, IsWithin}
use Rattle.point_order.specs.DomModel.Forest.Forest.{Nil, Tree}
use Rattle.point_order.proofs.DomModel.Totals.{total-without, total-unlink}
use Rattle.point_order.proofs.DomModel.Stands.{Stands, Stands-tree_of, seek_Stands}
use Rattle.point_order.proofs.DomModel.Links.{seen, parent_count, tree_is}
use Rattle.point_order.proofs.DomModel.Move.{parent_apart}
use Rattle.point_order.proofs.DomModel.Within.{within_self}
use Rattle.point_order.proofs.DomModel.Hosts.{editing_host-child, editing_host-root}
use Rattle.edit_model.specs.State.{State}
use Rattle.edit_model.specs.Confined.{is_editable_for, is_inside, is_made, is_open, is_own}
use Rattle.edit_model.specs.Edit.{Edit, Insert, Remove, Move, Replace, Set, Unset, is_made_edit, trees_after, changed, with_change, edited, with_replaced, with_set, with_unset}
use Rattle.edit_model.specs.Action as action
use Rattle.edit_model.specs.Action.{Action, made, words_content, element_content, with_selection, selected, extended_from, extended, grown, sent, scratched, acted}
use Rattle.edit_model.specs.Run.{Reaches, here, onward}
use Rattle.edit_model.specs.History.{begun}
use Rattle.edit_model.specs.Valid.{IsForest, IsValid}
use Rattle.edit_model.specs.Laws.{TakesOut, TakesOutOn}
use Rattle.edit_model.specs.Outside.{hollowed, is_within_host, is_island}
use Rattle.edit_model.proofs.CommandParts.{command_along}
use Rattle.edit_model.proofs.Tests.{label_is, inserts, removes, goes, replaces, set_own, unset_own, parent_there}
use Rattle.edit_model.proofs.Forests.{forest-unlink, can_go, inner_child}
use Rattle.edit_model.proofs.Documents.{has_children, within-link, within-unlink, within-with_leaf, within-revised, within-move}
use Rattle.edit_model.proofs.Made.{inside_goes}
use Rattle.edit_model.proofs.ValidRuns.{chosen, valid_along}
use Rattle.edit_model.proofs.Trees.{none_or_some, tree_of-revised_other, tree_of-with_leaf_other, within_trans}
use Rattle.edit_model.proofs.Hollow.{editable_below, child_below, below_left_out, hollowed_split, inside_part}
use Rattle.edit_model.proofs.Islands.{link_elsewhere, unlink_elsewhere, host_within}
use Rattle.edit_model.proofs.OutsideRuns.{trees-extended, trees-selected, trees-grown, trees-sent, trees-scratched}
use Rattle.edit_model.proofs.Commands.{valid_begun, command_confined}
use Rattle.edit_model.proofs.TailSteps.{extract_tests, either_extracted}
use Rattle.edit_model.proofs.TailIslands.{tree_extracted}
use Rattle.edit_model.proofs.TailDocument.{document_extracted}

-- a tree whose root has the true or the false state, made before the command began, without the host
pub record Locked (T : Forest Content) (l start h : ℕ) : Type 0 where
  pub content : Content
  pub kids : Forest Content
  pub top : T ≡ Tree l content kids Nil
  pub stated : (is_true_state content || is_false_state content) ≡ true
  pub early : (k : ℕ) → 0 < count_of T k → k < start
  pub apart : count_of T h ≡ 0

-- the content of the root of a tree
pub root_content : (f : Forest Content) (l : ℕ) (c : Content) (ks : Forest Content) → IsDistinct f → tree_of f l ≡ Tree l c ks Nil → content_of f l ≡ Some c
root_content f l c ks once is =
    let s : Seen Content = record { parent = None; content = c; children = tops ks } in
    let st : Stands None (tree_of f l) l s = subst (λ g. Stands None g l s) (sym is) (inl (refl, refl)) in
    elim (Stands-tree_of None None f l l s (once l) st) [
      | inl (_, o, k, e) ↦ ap (option_map (λ (x : Seen Content). x.content)) (seek_Stands None f l o (once l) k) ∙ ap (λ (x : Seen Content). Some x.content) (sym e)
      | inr (off, _) ↦ absurd (off refl)
    ]

module _ (T : Forest Content) (l h : ℕ) (s : State) (is : IsValid s) (host : s.host ≡ Some h) (locked : Locked T l s.start h) (same : tree_of s.trees l ≡ T) where
  there : 0 < count_of s.trees l
  there =
      let t : eqb l l ≡ true = eq-eqb l l refl in
      let own : 0 < count_of (Tree l locked.content locked.kids Nil) l = rw t (omega arith) in
      let own' : 0 < count_of (tree_of s.trees l) l = subst (λ g. 0 < count_of g l) (sym (same ∙ locked.top)) own in
      omega (arith, own', total-without (λ m _. cond (eqb m l) 1 0) s.trees l)

  -- a label has no place in the tree where there would be a contradiction
  left_out : (p : ℕ) → (0 < count_of (tree_of s.trees l) p → ⊥) → count_of (tree_of s.trees l) p ≡ 0
  left_out p never = elim (none_or_some (count_of (tree_of s.trees l) p)) [ inl none ↦ none | inr some ↦ absurd (never some) ]

  editable_closed : (p : ℕ) → is_editable_for s p ≡ true → count_of (tree_of s.trees l) p ≡ 0
  unfolding is_editable_for
  editable_closed p editable = left_out p (λ some. (
      let hosted : is_label (editing_host s.trees p) h ≡ true = ap (λ (o : Option ℕ). option_map_or (λ k. is_editable s.trees k p) o false) (sym host) ∙ editable in
      let content = root_content s.trees l locked.content locked.kids is.forest.distinct (same ∙ locked.top) in
      let inside = host_within s.trees is.forest.distinct l there locked.content content locked.stated p h some (label_is (editing_host s.trees p) h hosted) in
      omega (arith, inside, ap (λ g. count_of g h) same, locked.apart)))

  made_closed : (p : ℕ) → is_made s p ≡ true → count_of (tree_of s.trees l) p ≡ 0
  unfolding is_made
  made_closed p own = left_out p (λ some. (let before = locked.early p (omega (arith, some, ap (λ g. count_of g p) same)) in omega (arith, before, leb-true s.start p own)))

  open_closed : (p : ℕ) → is_open s p ≡ true → count_of (tree_of s.trees l) p ≡ 0
  unfolding is_open is_inside
  open_closed p allowed = elim (or_cases (is_inside s p) (is_made s p) allowed) [
    | inl inside ↦ elim (or_cases (is_label s.host p) (is_editable_for s p) inside) [
      | inl at ↦ (
          let e : Some h ≡ Some p = sym host ∙ label_is s.host p at in
          let h_is : h ≡ p = (let e' = e in cc) in
          subst (λ k. count_of (tree_of s.trees l) k ≡ 0) h_is (ap (λ g. count_of g h) same ∙ locked.apart))
      | inr editable ↦ editable_closed p editable
    ]
    | inr own ↦ made_closed p own
  ]

  own_closed : (n : ℕ) → is_own s n ≡ true → count_of (tree_of s.trees l) n ≡ 0
  unfolding is_own
  own_closed n own = elim (or_cases (is_editable_for s n) (is_made s n) own) [
    | inl editable ↦ editable_closed n editable
    | inr made ↦ made_closed n made
  ]

  -- ---- each edit that is made

  tree_after : (e : Edit) → is_made_edit e s ≡ true → tree_of (trees_after e s.trees) l ≡ T
  unfolding is_made_edit trees_after
  tree_after (Insert p b n) may =
      let t = inserts s p b n may in
      link_elsewhere s.trees p b n l is.forest.distinct t.can there (open_closed p t.allowed) ∙ same
  tree_after (Remove n) may =
      let t = removes s n may in
      unlink_elsewhere s.trees t.from n l is.forest.distinct t.child there (open_closed t.from t.allowed) ∙ same
  tree_after (Move n p b) may =
      let t = goes s n p b may in
      let f = s.trees in
      let loose = forest-unlink f s.next is.forest t.from n t.child in
      let can = can_go f s.next is.forest t.from n p b t.child t.apart t.parent (parent_there f p t.parent) t.before in
      let first = unlink_elsewhere f t.from n l is.forest.distinct t.child there (open_closed t.from t.allowed_from) in
      let still : 0 < count_of (unlink f n) l = omega (arith, there, total-unlink (λ m _. cond (eqb m l) 1 0) f n) in
      link_elsewhere (unlink f n) p b n l loose.distinct can still (ap (λ g. count_of g p) first ∙ open_closed p t.allowed_to) ∙ (first ∙ same)
  tree_after (Replace n at count put) may =
      tree_of-revised_other s.trees n l (with_replaced at count put) (own_closed n (replaces s n at count put may).own) ∙ same
  tree_after (Set n name value) may =
      tree_of-revised_other s.trees n l (with_set name value) (own_closed n (set_own s n name value may)) ∙ same
  tree_after (Unset n name) may =
      tree_of-revised_other s.trees n l (with_unset name) (own_closed n (unset_own s n name may)) ∙ same

  tree_edited : (e : Edit) → tree_of (edited e s).trees l ≡ T
  unfolding edited changed with_change
  tree_edited e = let P : State → Type 0 = λ t. tree_of t.trees l ≡ T in chosen P (is_made_edit e s) (λ may. tree_after e may) same

  tree_made : (c : Content) → tree_of (made c s).trees l ≡ T
  unfolding made
  tree_made c = tree_of-with_leaf_other s.trees s.next l c (λ e. (let b = is.forest.below l there in omega (arith, b, e))) ∙ same

  tree_acted : (a : Action) → tree_of (acted a s).trees l ≡ T
  unfolding acted extended changed
  tree_acted (action.Change e) = tree_edited e
  tree_acted (action.MakeElement name attributes) = tree_made (element_content name attributes)
  tree_acted (action.MakeWords chars) = tree_made (words_content chars)
  tree_acted (action.Select anchor focus) = ap (λ f. tree_of f l) (trees-selected anchor focus s) ∙ same
  tree_acted (action.Extend focus) = ap (λ f. tree_of f l) (trees-extended s.points.selection focus s) ∙ same
  tree_acted action.Unselect = same
  tree_acted (action.Grow at) = ap (λ f. tree_of f l) (trees-grown at s) ∙ same
  tree_acted (action.Send node at tail) = ap (λ f. tree_of f l) (trees-sent node at tail s) ∙ same
  tree_acted (action.Scratch pair) = ap (λ f. tree_of f l) (trees-scratched pair s) ∙ same
  tree_acted (action.Override command setting) = same
  tree_acted (action.Flag flags) = same
  tree_acted (action.Extract from end target) =
      either_extracted (λ u. tree_of u.trees l ≡ T) from end target s
      (λ may. (
      let t = extract_tests s from end target may in
      tree_extracted T l s is from end target may same there (ap (λ g. count_of g from.label) (sym same) ∙ editable_closed from.label t.from_editable) (ap (λ g. count_of g target) (sym same) ∙ made_closed target t.made)))
      same

pub locked_along : (l h : ℕ) {s t : State} → IsValid s → s.host ≡ Some h → Locked (tree_of s.trees l) l s.start h → (r : Reaches s t) → tree_of t.trees l ≡ tree_of s.trees l
locked_along l h is host locked here = refl
locked_along l h {s = s} is host locked (onward {t = t} q a) =
    let k = command_along q in
    tree_acted (tree_of s.trees l) l h t (valid_along q is) (k.host ∙ host) (subst (λ n. Locked (tree_of s.trees l) l n h) (sym k.start) locked) (locked_along l h is host locked q) a

-- ---- an island as the command begins

element_above : (f : Forest Content) (next p n : ℕ) → IsForest f next → parent_of f n ≡ Some p → (d : Content) → content_of f p ≡ Some d → 0 < p → is_element d ≡ true
element_above f next p n is child d content inner =
    by_content d content (sym (ap (λ (o : Option Content). option_map_or may_have_children o false) content) ∙ has_children f next is p n child)
  where
    by_content : (d : Content) → content_of f p ≡ Some d → may_have_children d ≡ true → is_element d ≡ true
    by_content Document e h = absurd (
        let x = seen f p is.distinct (parent_count f n p is.distinct child).1 in
        let same : x.0.content ≡ Document = (let t : Some x.0.content ≡ Some Document = ap (option_map (λ (y : Seen Content). y.content)) (sym x.2) ∙ e in cc) in
        let zero_is = (is.nodes p x.0 x.2).document.0 same in
        omega (arith, zero_is, inner))
    by_content (Element name attributes) e h = refl
    by_content (Words chars) e h = absurd (true≢false (sym h))
    by_content (Remark chars) e h = absurd (true≢false (sym h))

-- a node that is the host or editable, with what it offers its children
pub record Offers (f : Forest Content) (h p : ℕ) : Type 0 where
  pub content : Content
  pub content_is : content_of f p ≡ Some content
  pub element : is_element content ≡ true
  pub offer : cond (is_true_state content) (Some p) (editing_host f p) ≡ Some h
  pub below : IsWithin f h p

state_element : (d : Content) → is_true_state d ≡ true → is_element d ≡ true
state_element Document h = absurd (true≢false (sym h))
state_element (Element name attributes) h = refl
state_element (Words chars) h = absurd (true≢false (sym h))
state_element (Remark chars) h = absurd (true≢false (sym h))

pub content_at : (f : Forest Content) → IsDistinct f → (k : ℕ) → 0 < count_of f k → (d : Content) × (content_of f k ≡ Some d)
content_at f once k h = let x = seen f k once h in (x.0.content, ap (option_map (λ (y : Seen Content). y.content)) x.2)

pub host_offers : (f : Forest Content) (h : ℕ) → IsDistinct f → 0 < count_of f h → is_host f h ≡ true → Offers f h h
host_offers f h once known hosted =
    let d = content_at f once h known in
    let stated : is_true_state d.0 ≡ true = sym (ap (λ (o : Option Content). option_map_or is_true_state o false) d.1) ∙ hosted in
    record {
      content = d.0;
      content_is = d.1;
      element = state_element d.0 stated;
      offer = rw stated refl;
      below = within_self f h once known;
    }

unstated : (a b c : Bool) (above : Option ℕ) (h : ℕ) → cond (a || b) None (cond c above None) ≡ Some h → a ≡ false
unstated true b c above h e = absurd (let t : None ≡ Some h = e in cc)
unstated false b c above h e = refl

pub editable_offers : (f : Forest Content) (next h p n : ℕ) → IsForest f next → parent_of f n ≡ Some p → editing_host f p ≡ Some h → Offers f h p
editable_offers f next h p n is child e = by_parent (parent_of f p) refl
  where
    by_parent : (o : Option ℕ) → parent_of f p ≡ o → Offers f h p
    by_parent None up = absurd (let t : None ≡ Some h = sym (editing_host-root f is.distinct p up) ∙ e in cc)
    by_parent (Some q) up =
        let counts = parent_count f p q is.distinct up in
        let d = content_at f is.distinct p counts.0 in
        let dq = content_at f is.distinct q counts.1 in
        let inner : 0 < p = inner_child f next is q p up in
        let own = unstated (is_true_state d.0) (is_false_state d.0) (is_element d.0 || is_element dq.0) (cond (is_true_state dq.0) (Some q) (editing_host f q)) h (sym (editing_host-child f is.distinct p q d.0 dq.0 up d.1 dq.1) ∙ e) in
        record {
          content = d.0;
          content_is = d.1;
          element = element_above f next p n is child d.0 d.1 inner;
          offer = rw own e;
          below = (editable_below f is.distinct p h e).0;
        }

-- where the parent offers the host, only a state of its own makes a node uneditable
stated_by : (a b c : Bool) (h : ℕ) (above : Option ℕ) → c ≡ true → above ≡ Some h → (cond a None (cond (b || c) above None) ≡ Some h → ⊥) → a ≡ true
stated_by true b c h above element up never = refl
stated_by false true c h above element up never = absurd (never up)
stated_by false false c h above element up never = absurd (never (rw element up))

label_self : (f : Forest Content) (h l : ℕ) → editing_host f l ≡ Some h → is_editable f h l ≡ true
label_self f h l e = ap (λ o. is_label o h) e ∙ eq-eqb h h refl

pub locked_under : (f : Forest Content) (next h l p : ℕ) → IsForest f next → parent_of f l ≡ Some p → is_editable f h l ≡ false → Offers f h p → Locked (tree_of f l) l next h × (IsWithin f h l × (l ≢ h))
locked_under f next h l p is child uneditable offers =
    let known = (parent_count f l p is.distinct child).0 in
    let t = tree_is f l (omega (arith, is.distinct l, known)) in
    let content = root_content f l t.0 t.1 is.distinct t.2 in
    let hosted = editing_host-child f is.distinct l p t.0 offers.content child content offers.content_is in
    let stated : (is_true_state t.0 || is_false_state t.0) ≡ true =
    stated_by (is_true_state t.0 || is_false_state t.0) (is_element t.0) (is_element offers.content) h (cond (is_true_state offers.content) (Some p) (editing_host f p)) offers.element offers.offer
    (λ e. true≢false (sym (label_self f h l (hosted ∙ e)) ∙ uneditable)) in
    let apart : count_of (tree_of f l) h ≡ 0 = elim (none_or_some (count_of (tree_of f l) h)) [
      | inl none ↦ none
      | inr some ↦ absurd (parent_apart f l p is.distinct child (within_trans f l h p is.distinct some offers.below))
    ] in (
      record {
        content = t.0;
        kids = t.1;
        top = t.2;
        stated = stated;
        early = λ k some. is.below k (omega (arith, some, total-without (λ m _. cond (eqb m k) 1 0) f l));
        apart = apart;
      },
      child_below f is.distinct h p l child offers.below,
    )

pub island_locked : (s : State) (h l : ℕ) (keeping : Bool) → IsValid s → is_host s.trees h ≡ true → is_island s.trees h l ≡ true → Locked (tree_of s.trees l) l s.next h × (IsWithin s.trees h l × (l ≢ h))
unfolding is_island is_within_host
island_locked s h l keeping is hosted island = by_parent (parent_of s.trees l) refl ((and_parts (not (is_break s.trees l)) _ (and_parts (not (is_editable s.trees h l)) _ island).1).1)
  where
    uneditable : is_editable s.trees h l ≡ false
    uneditable = not-true (is_editable s.trees h l) (and_parts (not (is_editable s.trees h l)) _ island).0

    by_parent : (o : Option ℕ) → parent_of s.trees l ≡ o → option_map_or (is_within_host s.trees h) o false ≡ true → Locked (tree_of s.trees l) l s.next h × (IsWithin s.trees h l × (l ≢ h))
    by_parent None e inside = absurd (true≢false (sym inside))
    by_parent (Some p) e inside = elim (or_cases (eqb h p) (is_editable s.trees h p) inside) [
      | inl at ↦ (
          let same : h ≡ p = eqb-true h p at in
          let known : 0 < count_of s.trees h = subst (λ k. 0 < count_of s.trees k) (sym same) (parent_count s.trees l p is.forest.distinct e).1 in
          locked_under s.trees s.next h l p is.forest e uneditable (subst (λ k. Offers s.trees h k) same (host_offers s.trees h is.forest.distinct known hosted)))
      | inr editable ↦ locked_under s.trees s.next h l p is.forest e uneditable (editable_offers s.trees s.next h p l is.forest e (label_is (editing_host s.trees p) h editable))
    ]

-- ---- where an island goes

-- the root of a locked tree is neither own nor, as it isn't one at first, a br
pub root_closed : (T : Forest Content) (l h : ℕ) (s : State) → IsValid s → s.host ≡ Some h → Locked T l s.start h → tree_of s.trees l ≡ T → (f : Forest Content) → IsDistinct f → tree_of f l ≡ T → is_break f l ≡ false → (is_own s l || is_break s.trees l) ≡ true → ⊥
root_closed T l h s is host locked same f once was no_break e = elim (or_cases (is_own s l) (is_break s.trees l) e) [
  | inl own ↦ (
      let none = own_closed T l h s is host locked same l own in
      let some = within_self s.trees l is.forest.distinct (there T l h s is host locked same) in
      omega (arith, none, some))
  | inr br ↦ (
      let now = root_content s.trees l locked.content locked.kids is.forest.distinct (same ∙ locked.top) in
      let before = root_content f l locked.content locked.kids once (was ∙ locked.top) in
      let equal : is_break s.trees l ≡ is_break f l = ap (λ (o : Option Content). option_map_or (λ own. bytes_eq own (codes "br")) (option_and_then name_in o) false) (now ∙ sym before) in
      true≢false (sym br ∙ (equal ∙ no_break)))
]

pub trees_made : (e : Edit) (s : State) → is_made_edit e s ≡ true → (edited e s).trees ≡ trees_after e s.trees
unfolding edited changed with_change
trees_made e s may = rw may refl

pub trees_left : (e : Edit) (s : State) → is_made_edit e s ≡ false → (edited e s).trees ≡ s.trees
unfolding edited changed with_change
trees_left e s off = rw off refl

edit_out : (e : Edit) (s : State) (l : ℕ) → IsValid s → ((is_own s l || is_break s.trees l) ≡ true → ⊥) → IsWithin s.trees 0 l → is_made_edit e s ≡ true → IsWithin (trees_after e s.trees) 0 l ⊎ TakesOut (action.Change e) s l
unfolding is_made_edit trees_after
edit_out (Insert p b n) s l is never inside may = inl (within-link s.trees s.next is.forest p b n l (inserts s p b n may).can inside)
edit_out (Remove n) s l is never inside may =
    let t = removes s n may in
    elim (none_or_some (count_of (tree_of s.trees n) l)) [
      | inl off ↦ inl (within-unlink s.trees s.next is.forest t.from n l t.child off inside)
      | inr within ↦ inr (may, (within, ((λ e. never (subst (λ k. (is_own s k || is_break s.trees k) ≡ true) e t.own)), t.own)))
    ]
edit_out (Move n p b) s l is never inside may =
    let t = goes s n p b may in
    let f = s.trees in
    let can = can_go f s.next is.forest t.from n p b t.child t.apart t.parent (parent_there f p t.parent) t.before in
    inl (within-move f s.next is.forest t.from n p b l t.child can t.apart (inside_goes s n p b t) inside)
edit_out (Replace n at count put) s l is never inside may = inl (within-revised s.trees s.next is.forest n l (with_replaced at count put) inside)
edit_out (Set n name value) s l is never inside may = inl (within-revised s.trees s.next is.forest n l (with_set name value) inside)
edit_out (Unset n name) s l is never inside may = inl (within-revised s.trees s.next is.forest n l (with_unset name) inside)

-- a node of the document stays in it, or a tree that holds it is removed
pub goes_out : (a : Action) (s : State) (l : ℕ) → IsValid s → ((is_own s l || is_break s.trees l) ≡ true → ⊥) → IsWithin s.trees 0 l → IsWithin (acted a s).trees 0 l ⊎ TakesOut a s l
unfolding acted made extended changed
goes_out (action.Change e) s l is never inside = elim (cases_Bool (is_made_edit e s)) [
  | inl may ↦ elim (edit_out e s l is never inside may) [
    | inl still ↦ inl (subst (λ f. IsWithin f 0 l) (sym (trees_made e s may)) still)
    | inr taken ↦ inr taken
  ]
  | inr off ↦ inl (subst (λ f. IsWithin f 0 l) (sym (trees_left e s off)) inside)
]
goes_out (action.MakeElement name attributes) s l is never inside = inl (within-with_leaf s.trees s.next is.forest s.next l (element_content name attributes) inside)
goes_out (action.MakeWords chars) s l is never inside = inl (within-with_leaf s.trees s.next is.forest s.next l (words_content chars) inside)
goes_out (action.Select anchor focus) s l is never inside = inl (subst (λ f. IsWithin f 0 l) (sym (trees-selected anchor focus s)) inside)
goes_out (action.Extend focus) s l is never inside = inl (subst (λ f. IsWithin f 0 l) (sym (trees-extended s.points.selection focus s)) inside)
goes_out action.Unselect s l is never inside = inl inside
goes_out (action.Grow at) s l is never inside = inl (subst (λ f. IsWithin f 0 l) (sym (trees-grown at s)) inside)
goes_out (action.Send node at tail) s l is never inside = inl (subst (λ f. IsWithin f 0 l) (sym (trees-sent node at tail s)) inside)
goes_out (action.Scratch pair) s l is never inside = inl (subst (λ f. IsWithin f 0 l) (sym (trees-scratched pair s)) inside)
goes_out (action.Override command setting) s l is never inside = inl inside
goes_out (action.Flag flags) s l is never inside = inl inside
goes_out (action.Extract from end target) s l is never inside = inl (document_extracted from end target s l is inside)

goes_out_on : (l h : ℕ) {s t : State} → IsValid s → s.host ≡ Some h → Locked (tree_of s.trees l) l s.start h → is_break s.trees l ≡ false → (r : Reaches s t) → IsWithin s.trees 0 l → IsWithin t.trees 0 l ⊎ TakesOutOn r l
goes_out_on l h is host locked no_break here inside = inl inside
goes_out_on l h {s = s} is host locked no_break (onward {t = t} q a) inside =
    let k = command_along q in
    elim (goes_out_on l h is host locked no_break q inside) [
      | inr taken ↦ inr (inl taken)
      | inl still ↦ elim (goes_out a t l (valid_along q is)
          (root_closed (tree_of s.trees l) l h t (valid_along q is) (k.host ∙ host) (subst (λ n. Locked (tree_of s.trees l) l n h) (sym k.start) locked) (locked_along l h is host locked q) s.trees is.forest.distinct refl no_break) still) [
            | inl yes_inside ↦ inl yes_inside
            | inr out ↦ inr (inr out)
          ]
    ]

pub islands_stay : (s t : State) (h : ℕ) (keeping : Bool) → IsValid s → is_host s.trees h ≡ true → (r : Reaches (begun (Some h) keeping s) t) → (l : ℕ) → is_island s.trees h l ≡ true → (tree_of t.trees l ≡ tree_of s.trees l) × ((IsWithin t.trees 0 l → IsWithin t.trees h l) × (IsWithin s.trees 0 l → IsWithin t.trees 0 l ⊎ TakesOutOn r l))
unfolding begun is_island
islands_stay s t h keeping is hosted r l island =
    let k = island_locked s h l keeping is hosted island in
    let valid = valid_along r (valid_begun (Some h) keeping s is) in
    let outside_same = command_confined (Some h) keeping s t is r in
    let out : count_of (hollowed (tree_of t.trees 0) h) l ≡ 0 = ap (λ g. count_of g l) outside_same ∙ below_left_out s.trees s.next is.forest h l k.1.0 k.1.1 in
    let once : IsDistinct (tree_of t.trees 0) = λ m. omega (arith, valid.forest.distinct m, total-without (λ j _. cond (eqb j m) 1 0) t.trees 0) in
    let tests = and_parts (not (is_editable s.trees h l)) _ island in
    let no_break : is_break s.trees l ≡ false = not-true (is_break s.trees l) (and_parts (not (is_break s.trees l)) _ tests.1).0 in (
      locked_along l h (valid_begun (Some h) keeping s is) refl k.0 r,
      (
        (λ inside. omega (arith, inside, out, hollowed_split (tree_of t.trees 0) h l once k.1.1, inside_part t.trees t.next valid.forest h l)),
        λ inside. goes_out_on l h (valid_begun (Some h) keeping s is) refl k.0 no_break r inside,
      ),
    )
