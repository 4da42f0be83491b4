-- A keeping command loses no image and no rule of the document.
use Rattle.std.proofs.Common.{◌≡◌, ◌≢◌, ℕ, Bool, true, false, cond, eqb, List, Option, Some, None, refl, sym, ap, subst, ◌∙◌, inl, inr, arith, true≢false}
use Rattle.std.specs.List.{filter}
use Rattle.std.specs.Option.{option_map, option_and_then}
use Rattle.std.proofs.lemmas.Bool.{cases_Bool}
use Rattle.point_order.specs.DomModel.declared.Content.{Content}
use Rattle.point_order.specs.DomModel.declared.Content.TheVariants.{Document, Element, Words, Remark}
use Rattle.point_order.specs.DomModel.Contents.{name_in, name_of}
use Rattle.point_order.specs.DomModel.Forest.{Forest, Seen, count_of, tree_of, content_of, unlink, with_leaf, IsDistinct, IsWithin}
use Rattle.point_order.specs.DomModel.Revised.{revised}
use Rattle.point_order.proofs.DomModel.Totals.{total-without}
use Rattle.point_order.proofs.DomModel.Stands.{Stands-count, Stands-tree_of, seek_Stands}
use Rattle.point_order.proofs.DomModel.Kept.{content_of-link, content_of-unlink, content_of-with_leaf_other}
use Rattle.point_order.proofs.DomModel.Revising.{content_of-revised}
use Rattle.edit_model.specs.State.{State}
use Rattle.edit_model.specs.Kept.{is_thing, borne_by, is_kept, is_empty, has_no_kept_leaves}
use Rattle.edit_model.specs.Edit.{Edit, Insert, Remove, Move, Replace, Set, Unset, is_made_edit, trees_after, changed, with_replaced, with_set, with_unset}
use Rattle.edit_model.specs.Action as action
use Rattle.edit_model.specs.Action.{Action, made, words_content, element_content, extended, acted}
use Rattle.edit_model.specs.Run.{Reaches, here, onward}
use Rattle.edit_model.specs.Valid.{IsValid}
use Rattle.edit_model.proofs.CommandParts.{command_along}
use Rattle.edit_model.proofs.Tests.{inserts, removes, goes, parent_there}
use Rattle.edit_model.proofs.Forests.{forest-unlink, can_go, fresh}
use Rattle.edit_model.proofs.Documents.{within-link, within-unlink, within-with_leaf, within-revised, within-move}
use Rattle.edit_model.proofs.Made.{inside_goes}
use Rattle.edit_model.proofs.ValidRuns.{valid_along}
use Rattle.edit_model.proofs.Trees.{none_or_some}
use Rattle.edit_model.proofs.Commands.{nothing_kept}
use Rattle.edit_model.proofs.OutsideRuns.{trees-extended, trees-selected, trees-grown, trees-sent, trees-scratched}
use Rattle.edit_model.proofs.IslandRuns.{trees_made, trees_left}
use Rattle.edit_model.proofs.Bearing.{bears_each}
use Rattle.edit_model.proofs.TailSteps.{extracted_off}

-- ---- names

pub name-replaced : (at count : ℕ) (put : List ℕ) (c : Content) → name_in (with_replaced at count put c) ≡ name_in c
name-replaced at count put Document = refl
name-replaced at count put (Element name attributes) = refl
name-replaced at count put (Words chars) = refl
name-replaced at count put (Remark chars) = refl

pub name-set : (name value : List ℕ) (c : Content) → name_in (with_set name value c) ≡ name_in c
name-set name value Document = refl
name-set name value (Element tag list) = refl
name-set name value (Words chars) = refl
name-set name value (Remark chars) = refl

pub name-unset : (name : List ℕ) (c : Content) → name_in (with_unset name c) ≡ name_in c
name-unset name Document = refl
name-unset name (Element tag list) = refl
name-unset name (Words chars) = refl
name-unset name (Remark chars) = refl

pub name_of-revised : (f : Forest Content) (n l : ℕ) (g : Content → Content) → ((c : Content) → name_in (g c) ≡ name_in c) → name_of (revised f n g) l ≡ name_of f l
name_of-revised f n l g same = ap (option_and_then name_in) (content_of-revised n g f l) ∙ each (eqb n l) (content_of f l)
  where
    each : (v : Bool) (o : Option Content) → option_and_then name_in (option_map (λ c. cond v (g c) c) o) ≡ option_and_then name_in o
    each v None = refl
    each true (Some c) = same c
    each false (Some c) = refl

-- ---- an image or a rule in a tree that bears nothing

element_borne : (l : ℕ) (name : List ℕ) (c : Content) → name_in c ≡ Some name → is_thing name ≡ true → is_empty (filter is_kept (borne_by l c)) ≡ true → ⊥
unfolding borne_by
element_borne l name Document e thing none = absurd (let t : None ≡ Some name = e in cc)
element_borne l name (Words chars) e thing none = absurd (let t : None ≡ Some name = e in cc)
element_borne l name (Remark chars) e thing none = absurd (let t : None ≡ Some name = e in cc)
element_borne l name (Element own attributes) e thing none =
    let same : own ≡ name = (let t = e in cc) in
    let thing' : is_thing own ≡ true = ap is_thing same ∙ thing in
    let none' = rw thing' at none in
    true≢false (sym none')

thing_in_tree : (f : Forest Content) (n l : ℕ) (name : List ℕ) → IsDistinct f → IsWithin f n l → name_of f l ≡ Some name → is_thing name ≡ true → has_no_kept_leaves (tree_of f n) ≡ true → ⊥
thing_in_tree f n l name once within named thing nothing =
    let t = Stands-count None (tree_of f n) l within in
    let none = bears_each None (tree_of f n) l t.0 nothing t.1 in
    let content : content_of f l ≡ Some t.0.content = elim (Stands-tree_of None None f n l t.0 (once n) t.1) [
      | inl (_, o, k, e) ↦ ap (option_map (λ (x : Seen Content). x.content)) (seek_Stands None f l o (once l) k) ∙ ap (λ (x : Seen Content). Some x.content) (sym e)
      | inr (_, k) ↦ ap (option_map (λ (x : Seen Content). x.content)) (seek_Stands None f l t.0 (once l) k)
    ] in
    element_borne l name t.0.content (sym (ap (option_and_then name_in) content) ∙ named) thing none

module _ (l : ℕ) (name : List ℕ) (thing : is_thing name ≡ true) where
  -- the thing stands in the document under its name
  abbrev IsThere : Forest Content → Type 0
  IsThere f = IsWithin f 0 l × (name_of f l ≡ Some name)

  there_after : (e : Edit) (s : State) → IsValid s → s.keeping ≡ true → is_made_edit e s ≡ true → IsThere s.trees → IsThere (trees_after e s.trees)
  unfolding is_made_edit trees_after
  there_after (Insert p b n) s is keeps may h =
      let t = inserts s p b n may in
      (within-link s.trees s.next is.forest p b n l t.can h.0, ap (option_and_then name_in) (content_of-link s.trees p b n l is.forest.distinct t.can) ∙ h.1)
  there_after (Remove n) s is keeps may h =
      let t = removes s n may in
      elim (none_or_some (count_of (tree_of s.trees n) l)) [
        | inl off ↦ (within-unlink s.trees s.next is.forest t.from n l t.child off h.0, ap (option_and_then name_in) (content_of-unlink s.trees t.from n l is.forest.distinct t.child) ∙ h.1)
        | inr within ↦ absurd (thing_in_tree s.trees n l name is.forest.distinct within h.1 thing (nothing_kept s.keeping (has_no_kept_leaves (tree_of s.trees n)) t.nothing keeps))
      ]
  there_after (Move n p b) s is keeps may h =
      let t = goes s n p b may in
      let f = s.trees in
      let loose = forest-unlink f s.next is.forest t.from n t.child in
      let can = can_go f s.next is.forest t.from n p b t.child t.apart t.parent (parent_there f p t.parent) t.before in (
        within-move f s.next is.forest t.from n p b l t.child can t.apart (inside_goes s n p b t) h.0,
        ap (option_and_then name_in) (content_of-link (unlink f n) p b n l loose.distinct can ∙ content_of-unlink f t.from n l is.forest.distinct t.child) ∙ h.1,
      )
  there_after (Replace n at count put) s is keeps may h = (within-revised s.trees s.next is.forest n l (with_replaced at count put) h.0, name_of-revised s.trees n l (with_replaced at count put) (name-replaced at count put) ∙ h.1)
  there_after (Set n own value) s is keeps may h = (within-revised s.trees s.next is.forest n l (with_set own value) h.0, name_of-revised s.trees n l (with_set own value) (name-set own value) ∙ h.1)
  there_after (Unset n own) s is keeps may h = (within-revised s.trees s.next is.forest n l (with_unset own) h.0, name_of-revised s.trees n l (with_unset own) (name-unset own) ∙ h.1)

  there_made : (c : Content) (s : State) → IsValid s → IsThere s.trees → IsThere (with_leaf s.trees s.next c)
  there_made c s is h =
      let off : s.next ≢ l = λ e. (let b = is.forest.below l (omega (arith, h.0, total-without (λ m _. cond (eqb m l) 1 0) s.trees 0)) in omega (arith, b, e)) in
      (within-with_leaf s.trees s.next is.forest s.next l c h.0, ap (option_and_then name_in) (content_of-with_leaf_other s.trees s.next c l (fresh s.trees s.next is.forest) off) ∙ h.1)

  there_acted : (a : Action) (s : State) → IsValid s → s.keeping ≡ true → IsThere s.trees → IsThere (acted a s).trees
  unfolding acted made extended changed
  there_acted (action.Change e) s is keeps h = elim (cases_Bool (is_made_edit e s)) [
    | inl may ↦ subst IsThere (sym (trees_made e s may)) (there_after e s is keeps may h)
    | inr off ↦ subst IsThere (sym (trees_left e s off)) h
  ]
  there_acted (action.MakeElement own attributes) s is keeps h = there_made (element_content own attributes) s is h
  there_acted (action.MakeWords chars) s is keeps h = there_made (words_content chars) s is h
  there_acted (action.Select anchor focus) s is keeps h = subst IsThere (sym (trees-selected anchor focus s)) h
  there_acted (action.Extend focus) s is keeps h = subst IsThere (sym (trees-extended s.points.selection focus s)) h
  there_acted action.Unselect s is keeps h = h
  there_acted (action.Grow at) s is keeps h = subst IsThere (sym (trees-grown at s)) h
  there_acted (action.Send node at tail) s is keeps h = subst IsThere (sym (trees-sent node at tail s)) h
  there_acted (action.Scratch pair) s is keeps h = subst IsThere (sym (trees-scratched pair s)) h
  there_acted (action.Override command setting) s is keeps h = h
  there_acted (action.Flag flags) s is keeps h = h
  there_acted (action.Extract from end target) s is keeps h = subst (λ t. IsThere t.trees) (sym (extracted_off from end target s keeps)) h

  pub things_stay : {s t : State} → Reaches s t → IsValid s → s.keeping ≡ true → IsWithin s.trees 0 l → name_of s.trees l ≡ Some name → IsWithin t.trees 0 l × (name_of t.trees l ≡ Some name)
  things_stay here is keeps inside named = (inside, named)
  things_stay (onward {t = t} q a) is keeps inside named = there_acted a t (valid_along q is) ((command_along q).keeping ∙ keeps) (things_stay q is keeps inside named)
