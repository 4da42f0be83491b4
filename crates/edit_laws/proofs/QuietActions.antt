-- The actions that keep the order from each state in which a command keeps contents.
use Rattle.std.proofs.Common.{◌≡◌, ℕ, ◌<◌, true, false, eqb, List, [], Option, refl, sym, ap, subst, ◌∙◌, inl, inr, arith}
use Rattle.std.proofs.lemmas.Bool.{and_parts, cases_Bool, ne_eqb}
use Rattle.edit_model.specs.DomModel.declared.Content.{Content}
use Rattle.edit_model.specs.DomModel.declared.Content.TheVariants.{Document, Element, Words, Remark}
use Rattle.edit_model.specs.DomModel.Forest.{Forest, tree_of}
use Rattle.edit_model.specs.DomModel.Forest.Forest.{Tree}
use Rattle.edit_model.proofs.DomModel.Links.{join-Nil}
use Rattle.edit_model.specs.State.{State}
use Rattle.edit_model.specs.Kept.{borne_by, leaves, has_no_kept_leaves}
use Rattle.edit_model.specs.Edit.{Edit, Insert, Remove, Move, Replace, Set, Unset, is_made_edit, trees_after, with_set, with_unset, changed, edited}
use Rattle.edit_model.specs.Action as action
use Rattle.edit_model.specs.Action.{Action, made, words_content, element_content, extended, extracted, acted}
use Rattle.edit_model.specs.Run.{Reaches, here, onward, Run, final}
use Rattle.edit_model.specs.History.{document_of}
use Rattle.edit_model.specs.Valid.{IsForest}
use Rattle.edit_model.proofs.CommandParts.{command_along}
use Rattle.edit_model.proofs.Commands.{nothing_kept}
use Rattle.edit_model.proofs.Documents.{document_shape, document-link, document-unlink, document-with_leaf, document-revised}
use Rattle.edit_model.proofs.Forests.{inner_child}
use Rattle.edit_model.proofs.IslandRuns.{trees_made, trees_left}
use Rattle.edit_model.proofs.ValidRuns.{valid_along}
use Rattle.edit_model.proofs.OutsideRuns.{trees-extended, trees-selected, trees-grown, trees-sent, trees-scratched}
use Rattle.edit_model.proofs.TailSteps.{extracted_off}
use Rattle.edit_model.proofs.Tests.{inserts, removes}
use Rattle.edit_laws.specs.Order.{KeepsLeaves, KeepsOrder, IsKeeping}
use Rattle.edit_laws.specs.OrderPreserving.{IsQuiet}
use Rattle.edit_laws.proofs.Subsequences.{keeps_same, keeps_refl}
use Rattle.edit_laws.proofs.Leaves.{ordered-without, kept-without, bears-join, leaves-put_under, leaves-revised}

-- ---- states

pub keeping_along : {s t : State} → Reaches s t → IsKeeping s → IsKeeping t
keeping_along r is = record { valid = valid_along r is.valid; keeping = (command_along r).keeping ∙ is.keeping }

pub keeping_final : {T : Type 0} (m : Run T) (s : State) → IsKeeping s → IsKeeping (final m s)
unfolding final
keeping_final m s is = keeping_along (m.by_actions s) is

-- where the trees stay, the order does
pub same_trees : (s t : State) → t.trees ≡ s.trees → KeepsOrder s t
same_trees s t e = subst (λ g. KeepsLeaves (tree_of s.trees 0) (tree_of g 0)) (sym e) (keeps_refl (tree_of s.trees 0))

pub same_forest : (f g : Forest Content) → g ≡ f → KeepsLeaves (document_of f) (document_of g)
same_forest f g e = subst (λ h. KeepsLeaves (tree_of f 0) (tree_of h 0)) (sym e) (keeps_refl (tree_of f 0))

-- where the document stays
pub same_document : (s t : State) → tree_of t.trees 0 ≡ tree_of s.trees 0 → KeepsOrder s t
same_document s t e = subst (λ g. KeepsLeaves (tree_of s.trees 0) g) (sym e) (keeps_refl (tree_of s.trees 0))

-- ---- edits

-- what the document has of a tree bears nothing where the tree doesn't
part_has_no_kept_leaves : (f : Forest Content) (next n : ℕ) → IsForest f next → 0 < n → has_no_kept_leaves (tree_of f n) ≡ true → has_no_kept_leaves (tree_of (tree_of f 0) n) ≡ true
part_has_no_kept_leaves f next n is inner h =
    let d = document_shape f next is in
    subst (λ g. has_no_kept_leaves (tree_of g n) ≡ true → has_no_kept_leaves (tree_of (tree_of g 0) n) ≡ true) (sym d.3) (at_tree d.0 d.1 d.2) h
  where
    at_tree : (c : Content) (ks rest : Forest Content) → has_no_kept_leaves (tree_of (Tree 0 c ks rest) n) ≡ true → has_no_kept_leaves (tree_of (tree_of (Tree 0 c ks rest) 0) n) ≡ true
    at_tree c ks rest k =
        let off : eqb 0 n ≡ false = ne_eqb 0 n (λ e. omega (arith, inner, e)) in
        let k' = rw off at k in
        rw (off, join-Nil (tree_of ks n)) (and_parts (has_no_kept_leaves (tree_of ks n)) (has_no_kept_leaves (tree_of rest n)) (sym (bears-join (tree_of ks n) (tree_of rest n)) ∙ k')).0

pub bears-set : (name value : List ℕ) (l : ℕ) (c : Content) → borne_by l (with_set name value c) ≡ borne_by l c
unfolding borne_by
bears-set name value l Document = refl
bears-set name value l (Element tag list) = refl
bears-set name value l (Words chars) = refl
bears-set name value l (Remark chars) = refl

pub bears-unset : (name : List ℕ) (l : ℕ) (c : Content) → borne_by l (with_unset name c) ≡ borne_by l c
unfolding borne_by
bears-unset name l Document = refl
bears-unset name l (Element tag list) = refl
bears-unset name l (Words chars) = refl
bears-unset name l (Remark chars) = refl

-- an edit keeps the order where it does so if it is made
pub by_made : (e : Edit) (s : State) → (is_made_edit e s ≡ true → KeepsLeaves (tree_of s.trees 0) (tree_of (trees_after e s.trees) 0)) → KeepsOrder s (edited e s)
by_made e s k = elim (cases_Bool (is_made_edit e s)) [
  | inl may ↦ subst (λ g. KeepsLeaves (tree_of s.trees 0) (tree_of g 0)) (sym (trees_made e s may)) (k may)
  | inr off ↦ same_trees s (edited e s) (trees_left e s off)
]

pub remove_keeps : (n : ℕ) (s : State) → IsKeeping s → KeepsOrder s (edited (Remove n) s)
unfolding is_made_edit trees_after
remove_keeps n s is = by_made (Remove n) s (λ may. (
    let t = removes s n may in
    let nothing = nothing_kept s.keeping (has_no_kept_leaves (tree_of s.trees n)) t.nothing is.keeping in
    let inner = inner_child s.trees s.next is.valid.forest t.from n t.child in
    let e = document-unlink s.trees s.next is.valid.forest t.from n t.child in
    subst (KeepsLeaves (tree_of s.trees 0)) (sym e) (record {
      in_order = ordered-without (tree_of s.trees 0) n;
      whole = kept-without (tree_of s.trees 0) n (part_has_no_kept_leaves s.trees s.next n is.valid.forest inner nothing);
    })))

set_keeps : (n : ℕ) (name value : List ℕ) (s : State) → IsKeeping s → KeepsOrder s (edited (Set n name value) s)
unfolding is_made_edit trees_after
set_keeps n name value s is = by_made (Set n name value) s (λ may.
    keeps_same (tree_of s.trees 0) _ (ap leaves (document-revised s.trees s.next is.valid.forest n (with_set name value)) ∙ leaves-revised (tree_of s.trees 0) n (with_set name value) (bears-set name value)))

unset_keeps : (n : ℕ) (name : List ℕ) (s : State) → IsKeeping s → KeepsOrder s (edited (Unset n name) s)
unfolding is_made_edit trees_after
unset_keeps n name s is = by_made (Unset n name) s (λ may.
    keeps_same (tree_of s.trees 0) _ (ap leaves (document-revised s.trees s.next is.valid.forest n (with_unset name)) ∙ leaves-revised (tree_of s.trees 0) n (with_unset name) (bears-unset name)))

pub bare_insert_keeps : (p : ℕ) (b : Option ℕ) (n : ℕ) (s : State) → IsKeeping s → leaves (tree_of s.trees n) ≡ [] → KeepsOrder s (edited (Insert p b n) s)
unfolding is_made_edit trees_after
bare_insert_keeps p b n s is bare = by_made (Insert p b n) s (λ may. (
    let t = inserts s p b n may in
    keeps_same (tree_of s.trees 0) _ (ap leaves (document-link s.trees s.next is.valid.forest p b n t.can) ∙ leaves-put_under (tree_of s.trees 0) p b (tree_of s.trees n) bare)))

-- ---- actions

made_keeps : (c : Content) (s : State) → IsKeeping s → KeepsOrder s (made c s)
unfolding made
made_keeps c s is = same_document s (made c s) (document-with_leaf s.trees s.next is.valid.forest s.next c)

unselect_keeps : (s : State) → KeepsOrder s (acted action.Unselect s)
unfolding acted changed
unselect_keeps s = keeps_refl (tree_of s.trees 0)

pub quiet_keeps : (a : Action) → IsQuiet a → (s : State) → IsKeeping s → KeepsOrder s (acted a s)
unfolding acted extended
quiet_keeps (action.Change (Insert p b n)) quiet s is = absurd quiet
quiet_keeps (action.Change (Remove n)) quiet s is = remove_keeps n s is
quiet_keeps (action.Change (Move n p b)) quiet s is = absurd quiet
quiet_keeps (action.Change (Replace n at count put)) quiet s is = absurd quiet
quiet_keeps (action.Change (Set n name value)) quiet s is = set_keeps n name value s is
quiet_keeps (action.Change (Unset n name)) quiet s is = unset_keeps n name s is
quiet_keeps (action.MakeElement name attributes) quiet s is = made_keeps (element_content name attributes) s is
quiet_keeps (action.MakeWords chars) quiet s is = made_keeps (words_content chars) s is
quiet_keeps (action.Select anchor focus) quiet s is = same_forest s.trees _ (trees-selected anchor focus s)
quiet_keeps (action.Extend focus) quiet s is = same_forest s.trees _ (trees-extended s.points.selection focus s)
quiet_keeps action.Unselect quiet s is = unselect_keeps s
quiet_keeps (action.Grow at) quiet s is = same_forest s.trees _ (trees-grown at s)
quiet_keeps (action.Send node at tail) quiet s is = same_forest s.trees _ (trees-sent node at tail s)
quiet_keeps (action.Scratch pair) quiet s is = same_forest s.trees _ (trees-scratched pair s)
quiet_keeps (action.Override command setting) quiet s is = keeps_refl (tree_of s.trees 0)
quiet_keeps (action.Flag flags) quiet s is = keeps_refl (tree_of s.trees 0)
quiet_keeps (action.Extract from end target) quiet s is = same_trees s (extracted from end target s) (ap (λ t. t.trees) (extracted_off from end target s is.keeping))

pub bare_insert_acted : (p : ℕ) (b : Option ℕ) (n : ℕ) (s : State) → IsKeeping s → leaves (tree_of s.trees n) ≡ [] → KeepsOrder s (acted (action.Change (Insert p b n)) s)
unfolding acted
bare_insert_acted p b n s is bare = bare_insert_keeps p b n s is bare

pub keeping_edited : (e : Edit) (s : State) → IsKeeping s → IsKeeping (edited e s)
unfolding acted
keeping_edited e s is = keeping_along (onward here (action.Change e)) is
