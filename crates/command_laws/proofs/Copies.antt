-- The children before a member go to a copy of their parent before it, and the members go to just before the parent.
use Rattle.std.proofs.Common.{◌≡◌, ◌≢◌, ℕ, ◌+◌, ◌<◌, Bool, true, false, ◌&&◌, not, cond, eqb, if◌then◌else◌, List, [], ◌∷◌, ◌++◌, Option, Some, None, is_none, refl, sym, ap, subst, ◌∙◌, inl, inr, arith, true≢false, nat_lt, nat_le}
use Rattle.std.specs.Option.{option_map, option_map_or, option_and_then}
use Rattle.std.specs.Prelude.{codes, unwrap_or}
use Rattle.std.proofs.lemmas.Bool.{cases_Bool, ne_eqb, lt-ltb, le-leb, eq-eqb}
use Rattle.edit_model.specs.DomModel.declared.Content.{Content}
use Rattle.edit_model.specs.DomModel.declared.Content.TheVariants.{Document, Element, Words, Remark}
use Rattle.edit_model.specs.DomModel.Contents.{is_parent_at, may_have_children, name_in}
use Rattle.edit_model.specs.DomModel.Forest.{Seen, times, count_of, IsWithin, seek, parent_of, children_of, next_of, content_of, tree_of, link}
use Rattle.edit_model.specs.DomModel.Forest.Forest.{Nil, Tree}
use Rattle.edit_model.proofs.DomModel.Lists.{times-append}
use Rattle.edit_model.proofs.DomModel.Totals.{total-without}
use Rattle.edit_model.proofs.DomModel.Stands.{Stands, seek_absent}
use Rattle.edit_model.proofs.DomModel.Links.{seen, parent_count, child_of_parent, times-children_of, parent_of-with_leaf, children_of-with_leaf, next_of-link, children_of-link, eqb_refl_true}
use Rattle.edit_model.proofs.DomModel.Kept.{content_of-link, content_of-with_leaf_other, content_of-with_leaf_new}
use Rattle.edit_model.proofs.DomModel.Revising.{total-revised, parent_of-revised, children_of-revised, content_of-revised}
use Rattle.edit_model.specs.State.{State}
use Rattle.edit_model.specs.Kept.{Thing, borne_by, leaves, is_thing}
use Rattle.edit_model.specs.Confined.{is_made, is_open, may_insert, may_unset}
use Rattle.edit_model.specs.Edit.{Insert, Unset, is_made_edit, trees_after, with_unset, edited}
use Rattle.edit_model.specs.Action as action
use Rattle.edit_model.specs.Action.{made, element_content, acted}
use Rattle.edit_model.specs.Compositions.{tag_of, attribute_list_of}
use Rattle.edit_model.specs.Moves.{move_each_last, move_all_before}
use Rattle.edit_model.specs.Run.{final, ◌>>◌}
use Rattle.edit_model.proofs.CommandParts.{command_acted}
use Rattle.edit_model.proofs.Giving.{edited-left}
use Rattle.edit_model.proofs.IslandRuns.{trees_made, trees_left}
use Rattle.edit_model.proofs.Steps.{final-bind, final-look, final-edit, final-make_element, value-make_element}
use Rattle.edit_model.proofs.Tests.{inserts}
use Rattle.edit_model.proofs.Trees.{tree_of-revised_other}
use Rattle.edit_laws.specs.Order.{KeepsOrder, IsKeeping}
use Rattle.edit_laws.specs.MoveLaws.{IsBare}
use Rattle.edit_laws.proofs.Subsequences.{keeps_trans}
use Rattle.edit_laws.proofs.QuietActions.{keeping_edited, quiet_keeps, bare_insert_keeps}
use Rattle.edit_laws.proofs.Renaming.{made_trees, new_absent, new_tree, new_loose, new_other, keeping_made, keeps_made}
use Rattle.edit_laws.proofs.NewElements.{new_bare}
use Rattle.edit_laws.proofs.Adopting.{final_insert_before}
use Rattle.edit_laws.proofs.Around.{self_one}
use Rattle.edit_model.proofs.Documents.{document-revised}
use Rattle.edit_laws.proofs.Slides.{parent_other}
use Rattle.edit_laws.proofs.Fronts.{part, part_shut}
use Rattle.inline_value.specs.EditActions.Siblings.{until}
use Rattle.inline_value.specs.WrapSplit.Split.{copied}

-- ---- a name that bears nothing

pub plain_tag : (s : State) (o : ℕ) → IsBare s o → is_thing (tag_of s.trees o) ≡ false
unfolding borne_by
plain_tag s o bare = by_content (content_of s.trees o) refl
  where
    by_thing : (v : Bool) → (if v then Thing o ∷ [] else []) ≡ [] → v ≡ false
    by_thing true e = absurd (let e' = e in cc)
    by_thing false e = refl

    by_content : (c : Option Content) → content_of s.trees o ≡ c → is_thing (unwrap_or (option_and_then name_in c) []) ≡ false
    by_content None e = refl
    by_content (Some Document) e = refl
    by_content (Some (Element name attributes)) e = by_thing (is_thing name) (bare (Element name attributes) e)
    by_content (Some (Words chars)) e = refl
    by_content (Some (Remark chars)) e = refl

-- ---- the members before a

pub until_front : (front rest : List ℕ) (a : ℕ) → times front a ≡ 0 → until a (front ++ a ∷ rest) ≡ front
unfolding until
until_front [] rest a none = rw (eq-eqb a a refl) refl
until_front (x ∷ front) rest a none = rw (not_it (eqb x a) none, until_front front rest a (omega (arith, none))) refl
  where
    not_it : (v : Bool) → cond v 1 0 + times front a ≡ 0 → v ≡ false
    not_it true e = absurd (omega (arith, e))
    not_it false e = refl

-- ---- an attribute of o unset

-- what stays where the content of o changes
record Alike (s t : State) (o : ℕ) : Type 0 where
  parent : (l : ℕ) → parent_of t.trees l ≡ parent_of s.trees l
  children : (l : ℕ) → children_of t.trees l ≡ children_of s.trees l
  content : (l : ℕ) → o ≢ l → content_of t.trees l ≡ content_of s.trees l
  bare : IsBare s o → IsBare t o
  tree : (l : ℕ) → count_of (tree_of s.trees l) o ≡ 0 → tree_of t.trees l ≡ tree_of s.trees l
  count : (l : ℕ) → count_of t.trees l ≡ count_of s.trees l

unset_borne : (l : ℕ) (name : List ℕ) (c : Content) → borne_by l (with_unset name c) ≡ borne_by l c
unfolding borne_by
unset_borne l name Document = refl
unset_borne l name (Element tag list) = refl
unset_borne l name (Words chars) = refl
unset_borne l name (Remark chars) = refl

alike_unset : (o : ℕ) (name : List ℕ) (s : State) → Alike s (edited (Unset o name) s) o
unfolding is_made_edit trees_after
alike_unset o name s = elim (cases_Bool (may_unset s o name)) [
  | inr off ↦ (
      let e = trees_left (Unset o name) s off in
      record {
        parent = λ l. ap (λ f. parent_of f l) e;
        children = λ l. ap (λ f. children_of f l) e;
        content = λ l _. ap (λ f. content_of f l) e;
        bare = λ h c k. h c (sym (ap (λ f. content_of f o) e) ∙ k);
        tree = λ l _. ap (λ f. tree_of f l) e;
        count = λ l. ap (λ f. count_of f l) e;
      })
  | inl may ↦ (
      let e = trees_made (Unset o name) s may in
      let g = with_unset name in
      record {
        parent = λ l. ap (λ f. parent_of f l) e ∙ parent_of-revised o g s.trees l;
        children = λ l. ap (λ f. children_of f l) e ∙ children_of-revised o g s.trees l;
        content = λ l off. ap (λ f. content_of f l) e ∙ (content_of-revised o g s.trees l ∙ other (ne_eqb o l off) (content_of s.trees l));
        bare = λ h c k. still_bare h c (content_of s.trees o) refl (sym (content_of-revised o g s.trees o) ∙ (sym (ap (λ f. content_of f o) e) ∙ k));
        tree = λ l out. ap (λ f. tree_of f l) e ∙ tree_of-revised_other s.trees o l g out;
        count = λ l. ap (λ f. count_of f l) e ∙ total-revised o g (λ m. cond (eqb m l) 1 0) s.trees;
      })
]
  where
    other : {v : Bool} → v ≡ false → (k : Option Content) → option_map (λ c. cond v (with_unset name c) c) k ≡ k
    other off None = refl
    other off (Some c) = rw off refl

    still_bare : IsBare s o → (c : Content) (k : Option Content) → content_of s.trees o ≡ k → option_map (λ d. cond (eqb o o) (with_unset name d) d) k ≡ Some c → borne_by o c ≡ []
    still_bare h c None e same = absurd (let same' = same in cc)
    still_bare h c (Some d) e same =
        let t = eqb_refl_true o in
        let same' = rw t at same in
        let is : with_unset name d ≡ c = (let k = same' in cc) in
        ap (borne_by o) (sym is) ∙ (unset_borne o name d ∙ h d e)

-- ---- the copy

pub all_seven : {a b c d e f g : Bool} → a ≡ true → b ≡ true → c ≡ true → d ≡ true → e ≡ true → f ≡ true → g ≡ true → (a && (b && (c && (d && (e && (f && g)))))) ≡ true
all_seven a b c d e f g = rw (a, b, c, d, e, f, g) refl

module _ (s : State) (is : IsKeeping s) (o q : ℕ) (up : parent_of s.trees o ≡ Some q) (bare : IsBare s o) where
  c : Content
  c = element_content (tag_of s.trees o) (attribute_list_of s.trees o)

  x : ℕ
  x = s.next

  s1 : State
  s1 = made c s

  s2 : State
  s2 = edited (Unset o (codes "id")) s1

  s3 : State
  s3 = edited (Insert q (Some o) x) s2

  plain : is_thing (tag_of s.trees o) ≡ false
  plain = plain_tag s o bare

  is1 : IsKeeping s1
  unfolding s1 c
  is1 = keeping_made (tag_of s.trees o) (attribute_list_of s.trees o) s is

  is2 : IsKeeping s2
  unfolding s2
  is2 = keeping_edited (Unset o (codes "id")) s1 is1

  is3 : IsKeeping s3
  unfolding s3
  is3 = keeping_edited (Insert q (Some o) x) s2 is2

  alike : Alike s1 s2 o
  unfolding s2
  alike = alike_unset o (codes "id") s1

  absent : count_of s.trees x ≡ 0
  unfolding x
  absent = new_absent s is c

  other_o : x ≢ o
  unfolding x
  other_o = new_other s is c o q up

  other_q : x ≢ q
  other_q = λ e. (let k = ap (count_of s.trees) e in omega (arith, k, absent, (parent_count s.trees o q is.valid.forest.distinct up).1))

  not_itself : o ≢ q
  not_itself = λ e. parent_other s.trees is.valid.forest.distinct o q up (sym e)

  tree1 : tree_of s1.trees x ≡ Tree x c Nil Nil
  unfolding s1 x
  tree1 = new_tree s is c

  tree2 : tree_of s2.trees x ≡ Tree x c Nil Nil
  tree2 =
      let out : count_of (Tree x c Nil Nil) o ≡ 0 = rw (ne_eqb x o other_o) refl in
      alike.tree x (ap (λ t. count_of t o) tree1 ∙ out) ∙ tree1

  parent1 : (l : ℕ) → parent_of s1.trees l ≡ parent_of s.trees l
  unfolding s1 x
  parent1 = λ l. ap (λ f. parent_of f l) (made_trees c s) ∙ parent_of-with_leaf s.trees s.next c absent l

  up2 : parent_of s2.trees o ≡ Some q
  up2 = alike.parent o ∙ (parent1 o ∙ up)

  children2 : children_of s2.trees o ≡ children_of s.trees o
  unfolding s1 x
  children2 = alike.children o ∙ (ap (λ f. children_of f o) (made_trees c s) ∙ children_of-with_leaf s.trees s.next c absent o)

  content1 : (l : ℕ) → x ≢ l → content_of s1.trees l ≡ content_of s.trees l
  unfolding s1 x
  content1 = λ l off. ap (λ f. content_of f l) (made_trees c s) ∙ content_of-with_leaf_other s.trees s.next c l absent off

  bare2 : IsBare s2 o
  bare2 = alike.bare (λ d h. bare d (sym (content1 o other_o) ∙ h))

  content2 : content_of s2.trees x ≡ Some c
  unfolding s1 x
  content2 = alike.content x (λ e. other_o (sym e)) ∙ (ap (λ f. content_of f x) (made_trees c s) ∙ content_of-with_leaf_new s.trees s.next c absent)

  loose2 : IsWithin s2.trees 0 x → ⊥
  unfolding s1 s2 x is_made_edit trees_after
  loose2 = λ h. elim (cases_Bool (may_unset s1 o (codes "id"))) [
    | inr off ↦ new_loose s is c (subst (λ f. IsWithin f 0 x) (trees_left (Unset o (codes "id")) s1 off) h)
    | inl may ↦ (
        let e = ap (λ f. tree_of f 0) (trees_made (Unset o (codes "id")) s1 may) ∙ document-revised s1.trees s1.next is1.valid.forest o (with_unset (codes "id")) in
        let k = ap (λ f. count_of f x) e in
        let same = total-revised o (with_unset (codes "id")) (λ m. cond (eqb m x) 1 0) (tree_of s1.trees 0) in
        new_loose s is c (omega (arith, h, k, same)))
  ]

  -- q has a child, so it may have children
  parent_may : is_parent_at s.trees q ≡ true
  parent_may = by (may_have_children above.0.content) refl
    where
      above : (r : Seen Content) × Stands None s.trees q r × (seek None s.trees q ≡ Some r) × (0 < times r.children o)
      above = child_of_parent s.trees o q is.valid.forest.distinct up

      by : (v : Bool) → may_have_children above.0.content ≡ v → is_parent_at s.trees q ≡ true
      by true e = ap (λ (k : Option (Seen Content)). option_map_or may_have_children (option_map (λ (y : Seen Content). y.content) k) false) above.2 ∙ e
      by false e = absurd (let k = ap (λ l. times l o) ((is.valid.forest.nodes q above.0 above.2).leaf e) in omega (arith, k, above.3))

  not_zero : x ≢ 0
  unfolding x
  not_zero = λ e. (let k = is.valid.forest.below 0 is.valid.forest.document in omega (arith, k, e))

  leaf_out : nat_lt 0 (count_of (Tree x c Nil Nil) q) ≡ false
  leaf_out = rw (ne_eqb x q other_q) refl

  known : 0 < count_of s2.trees x
  known = (let k = ap (λ t. count_of t x) tree1 in omega (arith, alike.count x, k, self_one x, total-without (λ m _. cond (eqb m x) 1 0) s1.trees x))

  may_put : is_open s2 q ≡ true → may_insert s2 q (Some o) x ≡ true
  unfolding may_insert
  may_put = λ opened.
      all_seven
      (lt-ltb 0 (count_of s2.trees x) known)
      (ap not (ne_eqb x 0 not_zero))
      (ap is_none (alike.parent x ∙ (parent1 x ∙ ap (option_and_then (λ (y : Seen Content). y.parent)) (seek_absent None s.trees x absent))))
      (ap (λ (k : Option Content). option_map_or may_have_children k false) (alike.content q not_itself ∙ content1 q other_q) ∙ parent_may)
      (ap not (ap (λ t. nat_lt 0 (count_of t q)) tree2 ∙ leaf_out))
      (rw (up2, eqb_refl_true q, ne_eqb o x (λ e. other_o (sym e))) refl)
      opened

  not_put : is_open s2 q ≡ false → may_insert s2 q (Some o) x ≡ false
  not_put = λ shut. by (may_insert s2 q (Some o) x) refl shut
    where
      by : (v : Bool) → may_insert s2 q (Some o) x ≡ v → is_open s2 q ≡ false → may_insert s2 q (Some o) x ≡ false
      by false e shut = e
      by true e shut = absurd (true≢false (sym (inserts s2 q (Some o) x e).allowed ∙ shut))

  element_may : option_map_or may_have_children (Some c) false ≡ true
  unfolding c
  element_may = refl

  -- ---- after it is put in, or left out

  keeps1 : KeepsOrder s s1
  unfolding s1 c
  keeps1 = keeps_made (tag_of s.trees o) (attribute_list_of s.trees o) s is

  keeps2 : KeepsOrder s1 s2
  unfolding s2 acted
  keeps2 = quiet_keeps (action.Change (Unset o (codes "id"))) tt s1 is1

  keeps3 : KeepsOrder s2 s3
  unfolding s3 x c s1
  keeps3 = bare_insert_keeps q (Some o) x s2 is2 (ap leaves (tree2 ∙ sym tree1) ∙ new_bare (tag_of s.trees o) (attribute_list_of s.trees o) s is plain)

  made3 : is_made s3 x ≡ true
  unfolding s1 s2 s3 x c acted is_made
  made3 =
      ap (λ n. nat_le n s.next)
      ((command_acted (action.Change (Insert q (Some o) s.next)) s2).start
      ∙ ((command_acted (action.Change (Unset o (codes "id"))) s1).start ∙ (command_acted (action.MakeElement (tag_of s.trees o) (attribute_list_of s.trees o)) s).start))
      ∙ le-leb s.start s.next is.valid.started

  module _ (front list rest : List ℕ) (kids : children_of s.trees o ≡ front ++ (list ++ rest)) where
    where_made : may_insert s2 q (Some o) x ≡ true → KeepsOrder s3 (final (move_each_last front x >> move_all_before list o) s3)
    unfolding s3 is_made_edit trees_after
    where_made = λ may. (
        let now : s3.trees ≡ link s2.trees q (Some o) x = trees_made (Insert q (Some o) x) s2 may in
        let can = (inserts s2 q (Some o) x may).can in
        let once = is2.valid.forest.distinct in
        let w = seen s2.trees x once known in
        let next : next_of s3.trees x ≡ Some o = ap (λ f. next_of f x) now ∙ (next_of-link s2.trees q (Some o) x once can x w.0 w.2 ∙ rw (eqb_refl_true x) refl) in
        let off : eqb q o ≡ false = ne_eqb q o (λ e. not_itself (sym e)) in
        let below : children_of s3.trees o ≡ front ++ (list ++ rest) = ap (λ f. children_of f o) now ∙ (children_of-link s2.trees q (Some o) x once can o ∙ (rw off (children2 ∙ kids))) in
        let content : content_of s3.trees o ≡ content_of s2.trees o = ap (λ f. content_of f o) now ∙ content_of-link s2.trees q (Some o) x o once can in
        let kind : is_parent_at s3.trees x ≡ true = ap (λ (k : Option Content). option_map_or may_have_children k false) (ap (λ f. content_of f x) now ∙ (content_of-link s2.trees q (Some o) x x once can ∙ content2)) ∙ element_may in
        part s3 is3 front list rest o x next made3 kind below (λ d h. bare2 d (sym content ∙ h)))

    where_left : is_open s2 q ≡ false → KeepsOrder s3 (final (move_each_last front x >> move_all_before list o) s3)
    unfolding s3 is_made_edit
    where_left = λ shut. (
        let off : may_insert s2 q (Some o) x ≡ false = not_put shut in
        let stays : s3 ≡ s2 = edited-left (Insert q (Some o) x) s2 off in
        subst (λ t. KeepsOrder t (final (move_each_last front x >> move_all_before list o) t)) (sym stays)
        (part_shut s2 is2 front list rest o x q up2 shut loose2 (children2 ∙ kids)))

    copy_keeps : KeepsOrder s (final (move_all_before list o) (final (move_each_last front x) s3))
    copy_keeps =
        let both = elim (cases_Bool (is_open s2 q)) as (λ _. KeepsOrder s3 (final (move_each_last front x >> move_all_before list o) s3)) [
          | inl opened ↦ where_made (may_put opened)
          | inr shut ↦ where_left shut
        ] in
        keeps_trans keeps1 (keeps_trans keeps2 (keeps_trans keeps3 (rw final-bind at both)))

  pub copied_keeps : (front l rest : List ℕ) (a : ℕ) → children_of s.trees o ≡ front ++ (a ∷ (l ++ rest)) → KeepsOrder s (final (move_all_before (a ∷ l) o) (final (copied o a) s))
  unfolding copied s1 s2 s3 x c
  copied_keeps front l rest a kids =
      let count = ap (λ k. times k a) kids in
      let none : times front a ≡ 0 = omega (arith, count, times-append front (a ∷ (l ++ rest)) a, self_one a, times-children_of s.trees o a is.valid.forest.distinct) in
      let upto : until a (children_of s.trees o) ≡ front = ap (until a) kids ∙ until_front front (l ++ rest) a none in
      rw (final-look, final-bind, final-make_element, value-make_element, final-bind, final-edit, final-bind, final_insert_before o s.next q s2 up2, upto)
      (copy_keeps front (a ∷ l) rest kids)
