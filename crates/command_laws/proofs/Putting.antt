-- A new element is put in just before a node: where its parent is open it comes to stand there, and else it stays loose.
use Rattle.std.proofs.Common.{◌≡◌, ◌≢◌, ℕ, ◌<◌, ◌≤◌, Bool, true, false, not, cond, eqb, List, [], ◌∷◌, ◌++◌, Option, Some, None, is_none, refl, sym, ap, subst, ◌∙◌, arith, nat_lt, nat_le}
use Rattle.std.specs.Option.{option_map_or, option_and_then}
use Rattle.std.proofs.lemmas.Bool.{ne_eqb, lt-ltb, le-leb}
use Rattle.edit_model.specs.DomModel.declared.Content.{Content}
use Rattle.edit_model.specs.DomModel.declared.attributes.Attribute.{Attribute}
use Rattle.edit_model.specs.DomModel.Contents.{is_parent_at, may_have_children}
use Rattle.edit_model.specs.DomModel.Editing.{editing_host}
use Rattle.edit_model.specs.DomModel.Forest.{Seen, times, put_in, count_of, parent_of, children_of, content_of, tree_of, link}
use Rattle.edit_model.specs.DomModel.Forest.Forest.{Nil, Tree}
use Rattle.edit_model.proofs.DomModel.Totals.{total-without}
use Rattle.edit_model.proofs.DomModel.Lists.{times-append}
use Rattle.edit_model.proofs.DomModel.Stands.{seek_absent}
use Rattle.edit_model.proofs.DomModel.Links.{parent_count, times-children_of, parent_of-with_leaf, children_of-with_leaf, children_of-link, eqb_refl_true}
use Rattle.edit_model.proofs.DomModel.Kept.{content_of-link, content_of-with_leaf_other, content_of-with_leaf_new}
use Rattle.edit_model.specs.State.{State}
use Rattle.edit_model.specs.Confined.{is_editable_for, is_inside, is_made, is_open, may_insert}
use Rattle.edit_model.specs.Edit.{Insert, is_made_edit, trees_after, edited}
use Rattle.edit_model.specs.Action.{made, element_content}
use Rattle.edit_model.specs.Valid.{IsValid}
use Rattle.edit_model.specs.Run.{insert, make_element}
use Rattle.edit_model.proofs.CommandParts.{SameCommand, final_command}
use Rattle.edit_model.proofs.Documents.{has_children}
use Rattle.edit_model.proofs.Forests.{fresh}
use Rattle.edit_model.proofs.Giving.{edited-left}
use Rattle.edit_model.proofs.IslandRuns.{trees_made}
use Rattle.edit_model.proofs.Steps.{final-edit, final-make_element, final_next}
use Rattle.edit_model.proofs.Tests.{inserts}
use Rattle.edit_laws.proofs.Around.{self_one}
use Rattle.edit_laws.proofs.Hosts.{host_from-join}
use Rattle.edit_laws.proofs.Patterns.{tree_of-join}
use Rattle.edit_laws.proofs.Renaming.{made_trees}
use Rattle.command_laws.proofs.SteadySplits.{valid_final}
use Rattle.command_laws.proofs.Together.{parent-linked}
use Rattle.command_laws.proofs.Wrapping.{put_in-middle}
use Rattle.command_laws.proofs.Openness.{open_same}
use Rattle.command_laws.proofs.Copies.{all_seven}

-- ---- the new element, before it is put in

module _ (s : State) (is : IsValid s) (name : List ℕ) (attributes : List Attribute) where
  new_absent : count_of s.trees s.next ≡ 0
  new_absent = fresh s.trees s.next is.forest

  pub valid_new : IsValid (made (element_content name attributes) s)
  valid_new = subst IsValid (final-make_element name attributes s) (valid_final (make_element name attributes) s is)

  pub next_new : s.next < (made (element_content name attributes) s).next
  unfolding made
  next_new = omega arith

  pub parent_new : (l : ℕ) → parent_of (made (element_content name attributes) s).trees l ≡ parent_of s.trees l
  parent_new l = ap (λ f. parent_of f l) (made_trees (element_content name attributes) s) ∙ parent_of-with_leaf s.trees s.next (element_content name attributes) new_absent l

  pub children_new : (l : ℕ) → children_of (made (element_content name attributes) s).trees l ≡ children_of s.trees l
  children_new l = ap (λ f. children_of f l) (made_trees (element_content name attributes) s) ∙ children_of-with_leaf s.trees s.next (element_content name attributes) new_absent l

  pub root_new : parent_of (made (element_content name attributes) s).trees s.next ≡ None
  root_new = parent_new s.next ∙ ap (option_and_then (λ (y : Seen Content). y.parent)) (seek_absent None s.trees s.next new_absent)

  pub empty_new : children_of (made (element_content name attributes) s).trees s.next ≡ []
  empty_new = children_new s.next ∙ ap (λ (k : Option (Seen Content)). option_map_or (λ (y : Seen Content). y.children) k []) (seek_absent None s.trees s.next new_absent)

  pub content_new : content_of (made (element_content name attributes) s).trees s.next ≡ Some (element_content name attributes)
  content_new = ap (λ f. content_of f s.next) (made_trees (element_content name attributes) s) ∙ content_of-with_leaf_new s.trees s.next (element_content name attributes) new_absent

  pub content_old : (l : ℕ) → s.next ≢ l → content_of (made (element_content name attributes) s).trees l ≡ content_of s.trees l
  content_old l off = ap (λ f. content_of f l) (made_trees (element_content name attributes) s) ∙ content_of-with_leaf_other s.trees s.next (element_content name attributes) l new_absent off

  -- it isn't a node that has a parent, nor a parent
  pub new_child : (l p : ℕ) → parent_of s.trees l ≡ Some p → s.next ≢ l
  new_child l p up e = let k = ap (count_of s.trees) e in omega (arith, k, new_absent, (parent_count s.trees l p is.forest.distinct up).0)

  pub new_parent : (l p : ℕ) → parent_of s.trees l ≡ Some p → s.next ≢ p
  new_parent l p up e = let k = ap (count_of s.trees) e in omega (arith, k, new_absent, (parent_count s.trees l p is.forest.distinct up).1)

  pub open_new : (l : ℕ) → s.next ≢ l → is_open (made (element_content name attributes) s) l ≡ is_open s l
  unfolding is_open is_inside is_editable_for is_made
  open_new l off =
      let t : State = made (element_content name attributes) s in
      let c = final_command (make_element name attributes) s in
      let host : t.host ≡ s.host = ap (λ u. u.host) (sym (final-make_element name attributes s)) ∙ c.host in
      let start : t.start ≡ s.start = ap (λ u. u.start) (sym (final-make_element name attributes s)) ∙ c.start in
      let hosts : editing_host t.trees l ≡ editing_host s.trees l =
      ap (λ f. editing_host f l) (made_trees (element_content name attributes) s) ∙ host_from-join s.next (element_content name attributes) l off false None s.trees in
      rw (host, start, hosts) refl

  tree_new : tree_of (made (element_content name attributes) s).trees s.next ≡ Tree s.next (element_content name attributes) Nil Nil
  tree_new = ap (λ f. tree_of f s.next) (made_trees (element_content name attributes) s) ∙ (tree_of-join s.trees (Tree s.next (element_content name attributes) Nil Nil) s.next new_absent ∙ rw (eqb_refl_true s.next) refl)

  -- ---- put in before a, a child of q

  module _ (a q : ℕ) (up : parent_of s.trees a ≡ Some q) where
    kind : is_parent_at (made (element_content name attributes) s).trees q ≡ true
    kind = ap (λ (k : Option Content). option_map_or may_have_children k false) (content_old q (new_parent a q up)) ∙ has_children s.trees s.next is.forest q a up

    not_zero : s.next ≢ 0
    not_zero e = let k = is.forest.below 0 is.forest.document in omega (arith, k, e)

    leaf_out : nat_lt 0 (count_of (Tree s.next (element_content name attributes) Nil Nil) q) ≡ false
    leaf_out = rw (ne_eqb s.next q (new_parent a q up)) refl

    here : 0 < count_of (made (element_content name attributes) s).trees s.next
    here = let k = ap (λ t. count_of t s.next) tree_new in omega (arith, k, self_one s.next, total-without (λ m _. cond (eqb m s.next) 1 0) (made (element_content name attributes) s).trees s.next)

    pub may_put : is_open s q ≡ true → may_insert (made (element_content name attributes) s) q (Some a) s.next ≡ true
    unfolding may_insert
    may_put opened =
        all_seven
        (lt-ltb 0 (count_of (made (element_content name attributes) s).trees s.next) here)
        (ap not (ne_eqb s.next 0 not_zero))
        (ap is_none root_new)
        kind
        (ap not (ap (λ t. nat_lt 0 (count_of t q)) tree_new ∙ leaf_out))
        (rw (parent_new a ∙ up, eqb_refl_true q, ne_eqb a s.next (λ e. new_child a q up (sym e))) refl)
        (open_new q (new_parent a q up) ∙ opened)

    pub shut_put : is_open s q ≡ false → edited (Insert q (Some a) s.next) (made (element_content name attributes) s) ≡ made (element_content name attributes) s
    unfolding is_made_edit
    shut_put shut = edited-left (Insert q (Some a) s.next) (made (element_content name attributes) s) (by (may_insert (made (element_content name attributes) s) q (Some a) s.next) refl)
      where
        by : (v : Bool) → may_insert (made (element_content name attributes) s) q (Some a) s.next ≡ v → may_insert (made (element_content name attributes) s) q (Some a) s.next ≡ false
        by false e = e
        by true e = absurd (let k : true ≡ false = sym (inserts (made (element_content name attributes) s) q (Some a) s.next e).allowed ∙ (open_new q (new_parent a q up) ∙ shut) in cc)

-- what look-ups tell where it stands
pub record PutIn (s t : State) (name : List ℕ) (attributes : List Attribute) (q : ℕ) (front rest : List ℕ) : Type 0 where
  pub parent : (l : ℕ) → s.next ≢ l → parent_of t.trees l ≡ parent_of s.trees l
  pub own : parent_of t.trees s.next ≡ Some q
  pub above : children_of t.trees q ≡ front ++ s.next ∷ rest
  pub inner : children_of t.trees s.next ≡ []
  pub others : (o : ℕ) → q ≢ o → children_of t.trees o ≡ children_of s.trees o
  pub content : (l : ℕ) → s.next ≢ l → content_of t.trees l ≡ content_of s.trees l
  pub named : content_of t.trees s.next ≡ Some (element_content name attributes)
  pub valid : IsValid t
  pub more : s.next < t.next
  pub mine : is_made t s.next ≡ true
  pub opened : is_open t q ≡ true

pub put_new : (s : State) → IsValid s → (name : List ℕ) (attributes : List Attribute) (a q : ℕ) (front rest : List ℕ) → parent_of s.trees a ≡ Some q → children_of s.trees q ≡ front ++ a ∷ rest → is_open s q ≡ true
    → PutIn s (edited (Insert q (Some a) s.next) (made (element_content name attributes) s)) name attributes q front (a ∷ rest)
unfolding is_made_edit trees_after is_made
put_new s is name attributes a q front rest up kids opened =
    let s1 : State = made (element_content name attributes) s in
    let t : State = edited (Insert q (Some a) s.next) s1 in
    let is1 = valid_new s is name attributes in
    let may = may_put s is name attributes a q up opened in
    let can = (inserts s1 q (Some a) s.next may).can in
    let once = is1.forest.distinct in
    let now : t.trees ≡ link s1.trees q (Some a) s.next = trees_made (Insert q (Some a) s.next) s1 may in
    let parents : (l : ℕ) → parent_of t.trees l ≡ cond (eqb s.next l) (Some q) (parent_of s1.trees l) = λ l. ap (λ f. parent_of f l) now ∙ parent-linked s1.trees once q (Some a) s.next l can in
    let children : (o : ℕ) → children_of t.trees o ≡ cond (eqb q o) (put_in (children_of s1.trees o) (Some a) s.next) (children_of s1.trees o) = λ o. ap (λ f. children_of f o) now ∙ children_of-link s1.trees q (Some a) s.next once can o in
    let contents : (l : ℕ) → content_of t.trees l ≡ content_of s1.trees l = λ l. ap (λ f. content_of f l) now ∙ content_of-link s1.trees q (Some a) s.next l once can in
    let shape : children_of s1.trees q ≡ front ++ a ∷ rest = children_new s is name attributes q ∙ kids in
    let k = ap (λ c. times c a) shape in
    let none : times front a ≡ 0 = omega (arith, k, times-append front (a ∷ rest) a, self_one a, times-children_of s1.trees q a once) in
    let apart : q ≢ s.next = λ e. new_parent s is name attributes a q up (sym e) in
    let command : SameCommand s1 t = subst (SameCommand s1) (final-edit (Insert q (Some a) s.next) s1) (final_command (insert q (Some a) s.next) s1) in
    let first : SameCommand s s1 = subst (SameCommand s) (final-make_element name attributes s) (final_command (make_element name attributes) s) in
    let made_new : is_made t s.next ≡ true = ap (λ n. nat_le n s.next) (command.start ∙ first.start) ∙ le-leb s.start s.next is.started in
    let valid_t : IsValid t = subst IsValid (final-edit (Insert q (Some a) s.next) s1) (valid_final (insert q (Some a) s.next) s1 is1) in
    record {
      parent = λ l off. parents l ∙ (rw (ne_eqb s.next l off) (parent_new s is name attributes l));
      own = parents s.next ∙ rw (eqb_refl_true s.next) refl;
      above = children q ∙ rw (eqb_refl_true q) (ap (λ c. put_in c (Some a) s.next) shape ∙ put_in-middle front rest a s.next none);
      inner = children s.next ∙ rw (ne_eqb q s.next apart) (empty_new s is name attributes);
      others = λ o off. children o ∙ rw (ne_eqb q o off) (children_new s is name attributes o);
      content = λ l off. contents l ∙ content_old s is name attributes l off;
      named = contents s.next ∙ content_new s is name attributes;
      valid = valid_t;
      more = omega (arith, next_new s is name attributes, subst (λ u. s1.next ≤ u.next) (final-edit (Insert q (Some a) s.next) s1) (final_next (insert q (Some a) s.next) s1));
      mine = made_new;
      opened =
          open_same s1 t is1 valid_t command s.next can.node (λ l off. parents l ∙ rw (ne_eqb s.next l off) refl) contents q
          (λ h. omega (arith, h, can.apart))
          ∙ (open_new s is name attributes q (λ e. apart (sym e)) ∙ opened);
    }
