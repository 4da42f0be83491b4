-- Along a command the label of a node stays with its kind, and what is new has a label that was drawn.
use Rattle.std.proofs.Common.{◌≡◌, ◌≢◌, ℕ, ◌<◌, ◌≤◌, Bool, true, false, cond, eqb, List, Option, Some, None, refl, sym, ap, ◌∙◌, inl, inr, arith}
use Rattle.std.specs.Option.{option_map}
use Rattle.std.proofs.lemmas.Bool.{cases_Bool, cases_lt}
use Rattle.edit_model.specs.DomModel.declared.Content.{Content}
use Rattle.edit_model.specs.DomModel.declared.Content.TheVariants.{Document, Element, Words, Remark}
use Rattle.edit_model.specs.DomModel.Forest.{Forest, Seen, seek, count_of, tree_of, parent_of, content_of, link, unlink, CanPut, IsDistinct}
use Rattle.edit_model.specs.DomModel.Revised.{revised}
use Rattle.edit_model.proofs.DomModel.Kept.{content_of-link, content_of-unlink, content_of-with_leaf_other}
use Rattle.edit_model.proofs.DomModel.Links.{found_count}
use Rattle.edit_model.proofs.DomModel.Revising.{content_of-revised}
use Rattle.edit_model.proofs.DomModel.Stands.{Stands-count, Stands-tree_of, seek_Stands}
use Rattle.edit_model.proofs.DomModel.Totals.{total-without}
use Rattle.edit_model.specs.State.{State}
use Rattle.edit_model.specs.Edit.{Edit, Insert, Remove, Move, Replace, Set, Unset, is_made_edit, trees_after, changed, with_change, with_replaced, with_set, with_unset}
use Rattle.edit_model.specs.Action as action
use Rattle.edit_model.specs.Action.{Action, made, applied, tail_of, words_content, element_content, extended, acted}
use Rattle.edit_model.specs.History.{begun, rested}
use Rattle.edit_model.specs.Run.{Reaches, here, onward}
use Rattle.edit_model.specs.Valid.{IsForest, IsValid}
use Rattle.edit_model.proofs.Commands.{valid_begun}
use Rattle.edit_model.proofs.Forests.{forest-unlink, can_go, fresh}
use Rattle.edit_model.proofs.IslandRuns.{trees_made, trees_left}
use Rattle.edit_model.proofs.OutsideRuns.{trees-extended, trees-selected, trees-grown, trees-sent, trees-scratched}
use Rattle.edit_model.proofs.Steps.{next_acted}
use Rattle.edit_model.proofs.TailPlan.{IsCopy}
use Rattle.edit_model.proofs.TailPossible.{tail_possible}
use Rattle.edit_model.proofs.TailRuns.{fit_steps}
use Rattle.edit_model.proofs.TailSteps.{either_extracted}
use Rattle.edit_model.proofs.Tests.{inserts, removes, goes, parent_there}
use Rattle.edit_model.proofs.ValidParts.{plain_tail}
use Rattle.edit_model.proofs.ValidRuns.{valid_along}
use Rattle.edit_laws.specs.Kinds.{Kind, kind_in, kind_of, SameKinds, DrawsKinds}

-- ---- contents

kind-replaced : (at count : ℕ) (put : List ℕ) (c : Content) → kind_in (with_replaced at count put c) ≡ kind_in c
kind-replaced at count put Document = refl
kind-replaced at count put (Element name attributes) = refl
kind-replaced at count put (Words chars) = refl
kind-replaced at count put (Remark chars) = refl

kind-set : (name value : List ℕ) (c : Content) → kind_in (with_set name value c) ≡ kind_in c
kind-set name value Document = refl
kind-set name value (Element tag list) = refl
kind-set name value (Words chars) = refl
kind-set name value (Remark chars) = refl

kind-unset : (name : List ℕ) (c : Content) → kind_in (with_unset name c) ≡ kind_in c
kind-unset name Document = refl
kind-unset name (Element tag list) = refl
kind-unset name (Words chars) = refl
kind-unset name (Remark chars) = refl

pub kind_of-revised : (f : Forest Content) (n l : ℕ) (g : Content → Content) → ((c : Content) → kind_in (g c) ≡ kind_in c) → kind_of (revised f n g) l ≡ kind_of f l
kind_of-revised f n l g same = ap (option_map kind_in) (content_of-revised n g f l) ∙ each (eqb n l) (content_of f l)
  where
    each : (v : Bool) (o : Option Content) → option_map kind_in (option_map (λ c. cond v (g c) c) o) ≡ option_map kind_in o
    each v None = refl
    each true (Some c) = ap Some (same c)
    each false (Some c) = refl

pub kind_there : (f : Forest Content) (l : ℕ) (k : Kind) → kind_of f l ≡ Some k → 0 < count_of f l
kind_there f l k h = by_seen (seek None f l) refl h
  where
    by_seen : (o : Option (Seen Content)) → seek None f l ≡ o → option_map kind_in (option_map (λ (y : Seen Content). y.content) o) ≡ Some k → 0 < count_of f l
    by_seen None e h = absurd (let t : None ≡ Some k = h in cc)
    by_seen (Some s) e h = found_count f l s e

-- ---- along the actions of a command: a label below that of the next node that is made

module _ (l : ℕ) (o : Option Kind) where
  Has : State → Type 0
  Has s = (l < s.next) × (kind_of s.trees l ≡ o)

  has_linked : (f : Forest Content) (p : ℕ) (b : Option ℕ) (n next : ℕ) → IsForest f next → CanPut f p b n → kind_of (link f p b n) l ≡ kind_of f l
  has_linked f p b n next is can = ap (option_map kind_in) (content_of-link f p b n l is.distinct can)

  has_unlinked : (f : Forest Content) (p n next : ℕ) → IsForest f next → parent_of f n ≡ Some p → kind_of (unlink f n) l ≡ kind_of f l
  has_unlinked f p n next is child = ap (option_map kind_in) (content_of-unlink f p n l is.distinct child)

  after : (e : Edit) (s : State) → IsValid s → is_made_edit e s ≡ true → kind_of (trees_after e s.trees) l ≡ kind_of s.trees l
  unfolding is_made_edit trees_after
  after (Insert p b n) s is may = has_linked s.trees p b n s.next is.forest (inserts s p b n may).can
  after (Remove n) s is may = let t = removes s n may in has_unlinked s.trees t.from n s.next is.forest t.child
  after (Move n p b) s is may =
      let t = goes s n p b may in
      let f = s.trees in
      let loose = forest-unlink f s.next is.forest t.from n t.child in
      let can = can_go f s.next is.forest t.from n p b t.child t.apart t.parent (parent_there f p t.parent) t.before in
      has_linked (unlink f n) p b n s.next loose can ∙ has_unlinked f t.from n s.next is.forest t.child
  after (Replace n at count put) s is may = kind_of-revised s.trees n l (with_replaced at count put) (kind-replaced at count put)
  after (Set n own value) s is may = kind_of-revised s.trees n l (with_set own value) (kind-set own value)
  after (Unset n own) s is may = kind_of-revised s.trees n l (with_unset own) (kind-unset own)

  has_made : (c : Content) (s : State) → IsValid s → Has s → Has (made c s)
  unfolding Has made
  has_made c s is h =
      let off : s.next ≢ l = λ e. (let low = h.0 in omega (arith, low, e)) in
      let low = h.0 in
      (omega (arith, low), ap (option_map kind_in) (content_of-with_leaf_other s.trees s.next c l (fresh s.trees s.next is.forest) off) ∙ h.1)

  has_removed : (n p : ℕ) (s : State) → IsValid s → parent_of s.trees n ≡ Some p → Has s → Has (applied (Remove n) s)
  unfolding Has applied with_change changed trees_after
  has_removed n p s is child h = (h.0, has_unlinked s.trees p n s.next is.forest child ∙ h.1)

  has_inserted : (p : ℕ) (b : Option ℕ) (n : ℕ) (s : State) → IsValid s → CanPut s.trees p b n → Has s → Has (applied (Insert p b n) s)
  unfolding Has applied with_change changed trees_after
  has_inserted p b n s is can h = (h.0, has_linked s.trees p b n s.next is.forest can ∙ h.1)

  same_trees : (s t : State) → t.trees ≡ s.trees → s.next ≤ t.next → Has s → Has t
  unfolding Has
  same_trees s t trees next h = let low = h.0 in (omega (arith, low, next), ap (λ f. kind_of f l) trees ∙ h.1)

  has_acted : (a : Action) (s : State) → IsValid s → Has s → Has (acted a s)
  unfolding Has acted extended changed
  has_acted (action.Change e) s is h = elim (cases_Bool (is_made_edit e s)) [
    | inl may ↦ (
        let low = h.0 in
        let next = next_acted s.next (action.Change e) s (omega arith) in
        (omega (arith, low, next), ap (λ f. kind_of f l) (trees_made e s may) ∙ (after e s is may ∙ h.1)))
    | inr off ↦ same_trees s (acted (action.Change e) s) (trees_left e s off) (next_acted s.next (action.Change e) s (omega arith)) h
  ]
  has_acted (action.MakeElement own attributes) s is h = has_made (element_content own attributes) s is h
  has_acted (action.MakeWords chars) s is h = has_made (words_content chars) s is h
  has_acted (action.Select anchor focus) s is h = same_trees s (acted (action.Select anchor focus) s) (trees-selected anchor focus s) (next_acted s.next (action.Select anchor focus) s (omega arith)) h
  has_acted (action.Extend focus) s is h = same_trees s (acted (action.Extend focus) s) (trees-extended s.points.selection focus s) (next_acted s.next (action.Extend focus) s (omega arith)) h
  has_acted action.Unselect s is h = same_trees s (acted action.Unselect s) refl (omega arith) h
  has_acted (action.Grow at) s is h = same_trees s (acted (action.Grow at) s) (trees-grown at s) (next_acted s.next (action.Grow at) s (omega arith)) h
  has_acted (action.Send node at tail) s is h = same_trees s (acted (action.Send node at tail) s) (trees-sent node at tail s) (next_acted s.next (action.Send node at tail) s (omega arith)) h
  has_acted (action.Scratch pair) s is h = same_trees s (acted (action.Scratch pair) s) (trees-scratched pair s) (next_acted s.next (action.Scratch pair) s (omega arith)) h
  has_acted (action.Override command setting) s is h = same_trees s (acted (action.Override command setting) s) refl (omega arith) h
  has_acted (action.Flag flags) s is h = same_trees s (acted (action.Flag flags) s) refl (omega arith) h
  has_acted (action.Extract from end target) s is h =
      either_extracted Has from end target s
      (λ may. fit_steps IsCopy (λ _. Unit {0}) (λ _. Unit {0}) (λ c k. k) Has (λ c u is' _ k. has_made c u is' k)
      (λ n p u is' _ child k. has_removed n p u is' child k) (λ p b n u is' _ _ can k. has_inserted p b n u is' can k)
      (tail_of s from end target) s (plain_tail s is from end target) (tail_possible s is from end target may) is h)
      h

  has_along : {s t : State} → Reaches s t → IsValid s → Has s → Has t
  has_along here is h = h
  has_along (onward {t = t} q a) is h = has_acted a t (valid_along q is) (has_along q is h)

-- what is below the next label is of the kind that it was of
pub kind_along : {s t : State} (l : ℕ) → Reaches s t → IsValid s → l < s.next → kind_of t.trees l ≡ kind_of s.trees l
unfolding Has
kind_along {s = s} l r is low = (has_along l (kind_of s.trees l) r is (low, refl)).1

-- ---- once the loose trees are dropped

-- a node of a tree is of its kind in the forest
pub kind-tree : (f : Forest Content) (n l : ℕ) (k : Kind) → IsDistinct f → kind_of (tree_of f n) l ≡ Some k → kind_of f l ≡ Some k
kind-tree f n l k once e =
    let t = Stands-count None (tree_of f n) l (kind_there (tree_of f n) l k e) in
    let inner : count_of (tree_of f n) l ≤ 1 = omega (arith, once l, total-without (λ m _. cond (eqb m l) 1 0) f n) in
    let content : content_of f l ≡ Some t.0.content = elim (Stands-tree_of None None f n l t.0 (once n) t.1) [
      | inl (_, o, there, same) ↦ ap (option_map (λ (x : Seen Content). x.content)) (seek_Stands None f l o (once l) there) ∙ ap (λ (x : Seen Content). Some x.content) (sym same)
      | inr (_, there) ↦ ap (option_map (λ (x : Seen Content). x.content)) (seek_Stands None f l t.0 (once l) there)
    ] in
    let own : kind_of (tree_of f n) l ≡ Some (kind_in t.0.content) = ap (λ (o : Option (Seen Content)). option_map kind_in (option_map (λ (x : Seen Content). x.content) o)) (seek_Stands None (tree_of f n) l t.0 inner t.1) in
    ap (option_map kind_in) content ∙ (sym own ∙ e)

pub kinds_at_rest : (s t : State) (host : Option ℕ) (keeping : Bool) → IsValid s → Reaches (begun host keeping s) t → SameKinds s.trees (rested t).trees × DrawsKinds s.next (rested t).next s.trees (rested t).trees
unfolding rested begun
kinds_at_rest s t host keeping is r = (same, draws)
  where
    at_end : IsValid t
    at_end = valid_along r (valid_begun host keeping s is)

    before : (l : ℕ) (k : Kind) → l < s.next → kind_of (tree_of t.trees 0) l ≡ Some k → kind_of s.trees l ≡ Some k
    before l k low e = sym (kind_along l r (valid_begun host keeping s is) low) ∙ kind-tree t.trees 0 l k at_end.forest.distinct e

    same : SameKinds s.trees (tree_of t.trees 0)
    same l k m first last =
        let low = is.forest.below l (kind_there s.trees l k first) in
        let e : Some m ≡ Some k = sym (before l m low last) ∙ first in
        cc

    draws : DrawsKinds s.next t.next s.trees (tree_of t.trees 0)
    draws l k e = elim (cases_lt l s.next) [
      | inl low ↦ inl (before l k low e)
      | inr high ↦ inr (high, at_end.forest.below l (kind_there t.trees l k (kind-tree t.trees 0 l k at_end.forest.distinct e)))
    ]
