-- Setting a tag name keeps the order.
use Rattle.std.proofs.Common.{◌≡◌, ◌≢◌, ℕ, Bool, true, false, ◌||◌, not, cond, eqb, if◌then◌else◌, List, [], ◌++◌, Option, Some, None, refl, sym, ap, subst, ◌∙◌, inl, inr, arith}
use Rattle.std.proofs.lemmas.Bool.{cases_Bool, ne_eqb}
use Rattle.std.proofs.lemmas.List.{append-nil}
use Rattle.edit_model.specs.DomModel.declared.Content.{Content}
use Rattle.edit_model.specs.DomModel.declared.Content.TheVariants.{Element}
use Rattle.edit_model.specs.DomModel.declared.attributes.Attribute.{Attribute}
use Rattle.edit_model.specs.DomModel.AttributeList.{are_distinct}
use Rattle.edit_model.specs.DomModel.Forest.{seek, count_of, IsWithin, parent_of, children_of, next_of, content_of, tree_of, link, with_leaf}
use Rattle.edit_model.specs.DomModel.Forest.Forest.{Nil, Tree}
use Rattle.edit_model.proofs.DomModel.Totals.{total-without}
use Rattle.edit_model.proofs.DomModel.Links.{parent_count, children_of-link, children_of-with_leaf, next_of-link, seek-with_leaf_new, eqb_refl_true}
use Rattle.edit_model.proofs.DomModel.Kept.{content_of-link, content_of-with_leaf_other}
use Rattle.edit_model.specs.State.{State}
use Rattle.edit_model.specs.Kept.{borne_by, leaves, is_thing}
use Rattle.edit_model.specs.Confined.{is_editable_for, may_insert}
use Rattle.edit_model.specs.DomModel.Contents.{has_name}
use Rattle.edit_model.specs.Edit.{Insert, is_made_edit, trees_after, edited}
use Rattle.edit_model.specs.Action.{MakeElement, element_content, made, acted}
use Rattle.edit_model.specs.History.{document_of}
use Rattle.edit_model.specs.Run.{here, onward, final, ◌>>=◌, answer, given, remove}
use Rattle.edit_model.specs.Compositions.{attribute_list_of, renamed, set_tag_name}
use Rattle.edit_model.specs.Moves.{move_each_last}
use Rattle.edit_model.proofs.Documents.{document-with_leaf}
use Rattle.edit_model.proofs.Forests.{fresh}
use Rattle.edit_model.proofs.IslandRuns.{trees_made, trees_left}
use Rattle.edit_model.proofs.Steps.{final-bind, final-answer, final-look, final-edit, final-make_element, value-make_element}
use Rattle.edit_model.proofs.Tests.{inserts}
use Rattle.edit_laws.specs.Order.{KeepsOrder, IsKeeping}
use Rattle.edit_laws.specs.MoveLaws.{IsBare}
use Rattle.edit_laws.specs.OrderPreserving.{OrderPreserving}
use Rattle.edit_laws.proofs.Subsequences.{keeps_refl, keeps_trans}
use Rattle.edit_laws.proofs.Leaves.{leaves-Nil, leaves-Tree}
use Rattle.edit_laws.proofs.QuietActions.{keeping_along, keeping_edited, keeping_final, quiet_keeps, bare_insert_keeps}
use Rattle.edit_laws.proofs.OrderPreserving.{order_preserving_answer, order_preserving_bind, order_preserving_remove}
use Rattle.edit_laws.proofs.Patterns.{tree_of-join}
use Rattle.edit_laws.proofs.Slides.{parent_other}
use Rattle.edit_laws.proofs.MoveLaws.{go_over, go_nowhere}

pub plain_borne : (l : ℕ) (name : List ℕ) (attributes : List Attribute) → is_thing name ≡ false → borne_by l (Element name attributes) ≡ []
unfolding borne_by
plain_borne l name attributes plain = rw plain refl

pub new_borne : (l : ℕ) (name : List ℕ) (attributes : List Attribute) → is_thing name ≡ false → borne_by l (element_content name attributes) ≡ []
new_borne l name attributes plain = plain_borne l name (if are_distinct attributes then attributes else []) plain

pub made_trees : (c : Content) (s : State) → (made c s).trees ≡ with_leaf s.trees s.next c
unfolding made
made_trees c s = refl

pub keeping_made : (name : List ℕ) (attributes : List Attribute) (s : State) → IsKeeping s → IsKeeping (made (element_content name attributes) s)
unfolding acted
keeping_made name attributes s is = keeping_along (onward here (MakeElement name attributes)) is

pub keeps_made : (name : List ℕ) (attributes : List Attribute) (s : State) → IsKeeping s → KeepsOrder s (made (element_content name attributes) s)
unfolding acted
keeps_made name attributes s is = quiet_keeps (MakeElement name attributes) tt s is

-- the new node, before it is put in
module _ (s : State) (is : IsKeeping s) (c : Content) where
  pub new_absent : count_of s.trees s.next ≡ 0
  new_absent = fresh s.trees s.next is.valid.forest

  pub new_tree : tree_of (made c s).trees s.next ≡ Tree s.next c Nil Nil
  new_tree = ap (λ f. tree_of f s.next) (made_trees c s) ∙ (tree_of-join s.trees (Tree s.next c Nil Nil) s.next new_absent ∙ rw (eqb_refl_true s.next) refl)

  pub new_loose : IsWithin (made c s).trees 0 s.next → ⊥
  new_loose h =
      let e = ap (λ f. count_of (tree_of f 0) s.next) (made_trees c s) in
      let same = ap (λ g. count_of g s.next) (document-with_leaf s.trees s.next is.valid.forest s.next c) in
      omega (arith, h, e, same, new_absent, total-without (λ m _. cond (eqb m s.next) 1 0) s.trees 0)

  pub new_other : (l p : ℕ) → parent_of s.trees l ≡ Some p → s.next ≢ l
  new_other l p child e = let k = ap (count_of s.trees) e in omega (arith, k, new_absent, (parent_count s.trees l p is.valid.forest.distinct child).0)

module _ (s : State) (is : IsKeeping s) (p e : ℕ) (name : List ℕ) (up : parent_of s.trees e ≡ Some p) (bare : IsBare s e) (plain : is_thing name ≡ false) where
  c : Content
  c = element_content name (attribute_list_of s.trees e)

  x : ℕ
  x = s.next

  s1 : State
  s1 = made c s

  s2 : State
  s2 = edited (Insert p (Some e) x) s1

  is1 : IsKeeping s1
  unfolding s1 c
  is1 = keeping_made name (attribute_list_of s.trees e) s is

  is2 : IsKeeping s2
  unfolding s2
  is2 = keeping_edited (Insert p (Some e) x) s1 is1

  put_in_keeps : KeepsOrder s1 s2
  unfolding s1 s2 x c
  put_in_keeps =
      bare_insert_keeps p (Some e) x s1 is1
      (ap leaves (new_tree s is c) ∙ (leaves-Tree x c Nil Nil ∙ (ap (λ l. l ++ (leaves Nil ++ leaves Nil)) (new_borne x name (attribute_list_of s.trees e) plain) ∙ rw leaves-Nil refl)))

  children_go : KeepsOrder s2 (final (move_each_last (children_of s.trees e) x) s2)
  unfolding s1 s2 x is_made_edit trees_after
  children_go = elim (cases_Bool (may_insert s1 p (Some e) x)) [
    | inr off ↦ (
        let stays : s2.trees ≡ s1.trees = trees_left (Insert p (Some e) x) s1 off in
        go_nowhere s2 is2 (children_of s.trees e) x (λ h. new_loose s is c (subst (λ f. IsWithin f 0 x) stays h)))
    | inl may ↦ (
        let now : s2.trees ≡ link s1.trees p (Some e) x = trees_made (Insert p (Some e) x) s1 may in
        let can = (inserts s1 p (Some e) x may).can in
        let once = is1.valid.forest.distinct in
        let absent = fresh s.trees s.next is.valid.forest in
        let next : next_of s2.trees x ≡ Some e =
        ap (λ f. next_of f x) now
        ∙ (next_of-link s1.trees p (Some e) x once can x _ (ap (λ f. seek None f x) (made_trees c s) ∙ seek-with_leaf_new s.trees x c absent) ∙ rw (eqb_refl_true x) refl) in
        let off : eqb p e ≡ false = ne_eqb p e (parent_other s.trees is.valid.forest.distinct e p up) in
        let kids : children_of s2.trees e ≡ children_of s.trees e ++ [] =
        ap (λ f. children_of f e) now
        ∙ (children_of-link s1.trees p (Some e) x once can e
        ∙ (rw off (ap (λ f. children_of f e) (made_trees c s) ∙ children_of-with_leaf s.trees x c absent e)
        ∙ sym (append-nil (children_of s.trees e)))) in
        let content : content_of s2.trees e ≡ content_of s.trees e =
        ap (λ f. content_of f e) now
        ∙ (content_of-link s1.trees p (Some e) x e once can
        ∙ (ap (λ f. content_of f e) (made_trees c s) ∙ content_of-with_leaf_other s.trees x c e absent (new_other s is c e p up))) in
        go_over s2 is2 (children_of s.trees e) [] e x next kids (λ d h. bare d (sym content ∙ h)))
  ]

  pub renamed_keeps : KeepsOrder s (final (renamed p s e name) s)
  unfolding renamed s1 s2 x c
  renamed_keeps =
      let last : OrderPreserving (remove e >>= (λ _. answer x)) = order_preserving_bind (remove e) (λ _. answer x) (order_preserving_remove e) (λ _. order_preserving_answer x) in
      let s3 : State = final (move_each_last (children_of s.trees e) x) s2 in
      rw (final-bind, final-make_element, value-make_element, final-bind, final-edit, final-bind)
      (keeps_trans (keeps_made name (attribute_list_of s.trees e) s is)
      (keeps_trans put_in_keeps
      (keeps_trans children_go (last.keeps s3 (keeping_final (move_each_last (children_of s.trees e) x) s2 is2)))))

pub tag_name_keeps : (e : ℕ) (name : List ℕ) (s : State) → IsKeeping s → IsBare s e → is_thing name ≡ false → KeepsOrder s (final (set_tag_name e name) s)
unfolding set_tag_name
tag_name_keeps e name s is bare plain = rw final-look (by_parent (parent_of s.trees e) refl)
  where
    by_test : (p : ℕ) → parent_of s.trees e ≡ Some p → (v : Bool) → KeepsOrder s (final (if v then answer e else renamed p s e name) s)
    by_test p up true = rw final-answer (keeps_refl (document_of s.trees))
    by_test p up false = renamed_keeps s is p e name up bare plain

    by_parent : (o : Option ℕ) → parent_of s.trees e ≡ o → KeepsOrder s (final (given o (answer e) (λ p. if has_name s.trees e name || not (is_editable_for s e) then answer e else renamed p s e name)) s)
    by_parent None root = rw final-answer (keeps_refl (document_of s.trees))
    by_parent (Some p) up = by_test p up (has_name s.trees e name || not (is_editable_for s e))
