-- A document is no deeper after a run than it was or than its insertions and moves reach, whatever the run.
use Rattle.std.proofs.Common.{◌≡◌, ℕ, ◌<◌, ◌≤◌, max, zero, suc, true, false, Bool, if◌then◌else◌, List, [], ◌∷◌, Option, Some, None, refl, sym, ap, subst, ◌∙◌, arith}
use Rattle.std.proofs.lemmas.Bool.{and_parts}
use Rattle.point_order.specs.DomModel.declared.Content.{Content}
use Rattle.point_order.specs.DomModel.Document.{page_depth}
use Rattle.point_order.specs.DomModel.Forest.{Forest, parent_of}
use Rattle.point_order.specs.DomModel.Forest.Forest.{Tree}
use Rattle.point_order.proofs.DomModel.Heights.{page_depth-link, page_depth-unlink, page_depth-move, page_depth-with_leaf, page_depth-revised}
use Rattle.point_order.proofs.DomModel.Walks.{document_first}
use Rattle.point_order.specs.LiveRange.declared.places.Pair.{Pair}
use Rattle.point_order.specs.LiveRange.declared.places.Point.{Point}
use Rattle.edit_model.specs.State.{State}
use Rattle.edit_model.specs.Edit.{Edit, Insert, Remove, Move, Replace, Set, Unset, is_made_edit, trees_after, edited, changed, with_change, with_replaced, with_set, with_unset}
use Rattle.edit_model.specs.Action as action
use Rattle.edit_model.specs.Tail.{Step, Copy, Do}
use Rattle.edit_model.specs.Action.{Action, made, applied, stepped, stepped_all, tail_of, may_extract, extracted, words_content, element_content, with_selection, with_scratch, selected, extended_from, extended, grown, sent, scratched, acted}
use Rattle.edit_model.specs.Possible.{freed, are_possible}
use Rattle.edit_model.specs.Valid.{IsValid}
use Rattle.edit_model.specs.Run.{Reaches, here, onward, Run, final}
use Rattle.edit_model.specs.Heights.{edit_reach, steps_reach, reach, deepest_on, deepest_reach}
use Rattle.edit_model.proofs.ValidRuns.{chosen, valid_acted}
use Rattle.edit_model.proofs.Steps.{either_way}
use Rattle.edit_model.proofs.Tests.{inserts, removes, goes}
use Rattle.edit_model.proofs.ValidParts.{valid_freed, valid_applied, valid_copied, plain_tail}
use Rattle.edit_model.proofs.TailPossible.{tail_possible}
use Rattle.edit_model.proofs.TailPlan.{AllOf, Fits, IsCopy}

-- a node with a parent isn't the document
inner : (s : State) (n o : ℕ) → IsValid s → parent_of s.trees n ≡ Some o → 0 < n
inner s zero o is child = absurd (let t : None ≡ Some o = sym is.forest.root ∙ child in cc)
inner s (suc n) o is child = omega arith

no_higher : (i k : ℕ) → i ≤ max i k
no_higher i k = grind arith

less : (i j k : ℕ) → i ≤ j → i ≤ max j k
less i j k h = grind arith

same : (i j k : ℕ) → i ≡ j → i ≤ max j k
same i j k h = grind arith

depth_trees : (e : Edit) (s : State) → IsValid s → is_made_edit e s ≡ true → page_depth (trees_after e s.trees) ≤ max (page_depth s.trees) (edit_reach e s.trees)
unfolding is_made_edit trees_after
depth_trees e s is may = by_first (document_first s.trees is.forest.distinct is.forest.rising is.forest.document is.forest.root) e may
  where
    by_first : (c : Content) × (ks : Forest Content) × (rest : Forest Content) × (s.trees ≡ Tree 0 c ks rest) → (e : Edit) → is_made_edit e s ≡ true → page_depth (trees_after e s.trees) ≤ max (page_depth s.trees) (edit_reach e s.trees)
    by_first d (Insert p b n) may = let t = inserts s p b n may in page_depth-link s.trees d.0 d.1 d.2 p b n d.3 t.can.inner is.forest.distinct
    by_first d (Remove n) may =
        let t = removes s n may in
        let low = page_depth-unlink s.trees d.0 d.1 d.2 n d.3 (inner s n t.from is t.child) in
        less (page_depth (trees_after (Remove n) s.trees)) (page_depth s.trees) 0 low
    by_first d (Move n p b) may = let t = goes s n p b may in page_depth-move s.trees d.0 d.1 d.2 t.from p b n d.3 (inner s n t.from is t.child) is.forest.distinct t.child
    by_first d (Replace n at count put) may = same (page_depth (trees_after (Replace n at count put) s.trees)) (page_depth s.trees) 0 (page_depth-revised s.trees d.0 d.1 d.2 n (with_replaced at count put) d.3)
    by_first d (Set n name value) may = same (page_depth (trees_after (Set n name value) s.trees)) (page_depth s.trees) 0 (page_depth-revised s.trees d.0 d.1 d.2 n (with_set name value) d.3)
    by_first d (Unset n name) may = same (page_depth (trees_after (Unset n name) s.trees)) (page_depth s.trees) 0 (page_depth-revised s.trees d.0 d.1 d.2 n (with_unset name) d.3)

pub depth_edited : (e : Edit) (s : State) → IsValid s → page_depth (edited e s).trees ≤ max (page_depth s.trees) (edit_reach e s.trees)
unfolding edited with_change changed
depth_edited e s is =
    let P : State → Type 0 = λ t. page_depth t.trees ≤ max (page_depth s.trees) (edit_reach e s.trees) in
    chosen P (is_made_edit e s) (depth_trees e s is) (no_higher (page_depth s.trees) (edit_reach e s.trees))

depth_made : (c : Content) (s : State) → IsValid s → page_depth (made c s).trees ≡ page_depth s.trees
unfolding made
depth_made c s is =
    let d = document_first s.trees is.forest.distinct is.forest.rising is.forest.document is.forest.root in
    page_depth-with_leaf s.trees d.0 d.1 d.2 s.next c d.3

extended_trees : (o : Option Pair) (at : Point) (s : State) → (extended_from o at s).trees ≡ s.trees
unfolding changed
extended_trees None at s = refl
extended_trees (Some pair) at s = let P : State → Type 0 = λ t. t.trees ≡ s.trees in either_way P _ refl refl

at_most : (f g : Forest Content) (k : ℕ) → page_depth f ≡ page_depth g → page_depth f ≤ max (page_depth g) k
at_most f g k is = let h = no_higher (page_depth g) k in omega (arith, is, h)

stays : (f g : Forest Content) (k : ℕ) → f ≡ g → page_depth f ≤ max (page_depth g) k
stays f g k is = at_most f g k (ap page_depth is)

further_on : (i j k l m : ℕ) → i ≤ max j k → j ≤ max l m → i ≤ max l (max m k)
further_on i j k l m h g = grind arith

depth_steps : (xs : List Step) (s : State) → AllOf (Fits IsCopy (λ _. Unit {0}) (λ _. Unit {0})) xs → are_possible xs s ≡ true → IsValid s → page_depth (stepped_all xs s).trees ≤ max (page_depth s.trees) (steps_reach xs s)
unfolding stepped_all stepped are_possible applied with_change changed
depth_steps [] s fit may is = no_higher (page_depth s.trees) 0
depth_steps (Copy c ∷ xs) s fit may is =
    let h = depth_steps xs (made c s) fit.1 may (valid_copied c s fit.0 is) in
    let same = depth_made c s is in
    subst (λ k. page_depth (stepped_all xs (made c s)).trees ≤ max k (steps_reach xs (made c s))) same h
depth_steps (Do e ∷ xs) s fit may is =
    let parts = and_parts (is_made_edit e (freed s)) (are_possible xs (applied e s)) may in
    let h = depth_steps xs (applied e s) fit.1 parts.1 (valid_applied e s is parts.0) in
    further_on (page_depth (stepped_all xs (applied e s)).trees) (page_depth (trees_after e s.trees)) (steps_reach xs (applied e s)) (page_depth s.trees) (edit_reach e s.trees) h (depth_trees e (freed s) (valid_freed s is) parts.0)

depth_extracted : (from : Point) (end target : ℕ) (s : State) → IsValid s → page_depth (extracted from end target s).trees ≤ max (page_depth s.trees) (reach (action.Extract from end target) s)
unfolding extracted
depth_extracted from end target s is = by (may_extract s from end target) (λ may. yes_made may)
  where
    yes_made : may_extract s from end target ≡ true → page_depth (stepped_all (tail_of s from end target) s).trees ≤ max (page_depth s.trees) (steps_reach (tail_of s from end target) s)
    yes_made may = depth_steps (tail_of s from end target) s (plain_tail s is from end target) (tail_possible s is from end target may) is

    by : (b : Bool) → (b ≡ true → page_depth (stepped_all (tail_of s from end target) s).trees ≤ max (page_depth s.trees) (steps_reach (tail_of s from end target) s)) → page_depth (if b then stepped_all (tail_of s from end target) s else s).trees ≤ max (page_depth s.trees) (if b then steps_reach (tail_of s from end target) s else 0)
    by true h = h refl
    by false h = no_higher (page_depth s.trees) 0

pub depth_acted : (a : Action) (s : State) → IsValid s → page_depth (acted a s).trees ≤ max (page_depth s.trees) (reach a s)
unfolding acted selected extended grown sent scratched changed
depth_acted (action.Change e) s is = depth_edited e s is
depth_acted (action.MakeElement name attributes) s is = at_most (made (element_content name attributes) s).trees s.trees 0 (depth_made (element_content name attributes) s is)
depth_acted (action.MakeWords chars) s is = at_most (made (words_content chars) s).trees s.trees 0 (depth_made (words_content chars) s is)
depth_acted (action.Select anchor focus) s is = stays _ s.trees 0 (let P : State → Type 0 = λ t. t.trees ≡ s.trees in either_way P _ refl refl)
depth_acted (action.Extend focus) s is = stays _ s.trees 0 (extended_trees s.points.selection focus s)
depth_acted action.Unselect s is = no_higher (page_depth s.trees) 0
depth_acted (action.Grow at) s is = stays _ s.trees 0 (let P : State → Type 0 = λ t. t.trees ≡ s.trees in either_way P _ refl refl)
depth_acted (action.Send node at tail) s is = stays _ s.trees 0 (let P : State → Type 0 = λ t. t.trees ≡ s.trees in either_way P _ refl refl)
depth_acted (action.Scratch pair) s is = stays _ s.trees 0 (let P : State → Type 0 = λ t. t.trees ≡ s.trees in either_way P _ refl refl)
depth_acted (action.Override command setting) s is = no_higher (page_depth s.trees) 0
depth_acted (action.Flag flags) s is = no_higher (page_depth s.trees) 0
depth_acted (action.Extract from end target) s is = depth_extracted from end target s is

further : (i j k l m : ℕ) → i ≤ max j k → j ≤ max l m → i ≤ max l (max m k)
further i j k l m h g = grind arith

depth_along : {s t : State} → (r : Reaches s t) → IsValid s → IsValid t × (page_depth t.trees ≤ max (page_depth s.trees) (deepest_on r))
unfolding deepest_on
depth_along {s = s} here is = (is, no_higher (page_depth s.trees) 0)
depth_along {s = s} (onward {t = t} q a) is =
    let h = depth_along q is in
    (valid_acted a t h.0, further (page_depth (acted a t).trees) (page_depth t.trees) (reach a t) (page_depth s.trees) (deepest_on q) (depth_acted a t h.0) h.1)

pub depth_run : {T : Type 0} (m : Run T) (s : State) → IsValid s → page_depth (final m s).trees ≤ max (page_depth s.trees) (deepest_reach m s)
unfolding final deepest_reach
depth_run m s is = (depth_along (m.by_actions s) is).1
