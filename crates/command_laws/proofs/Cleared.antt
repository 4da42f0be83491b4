-- Removing the line breaks before a node takes a node that stands before it, so that its children stay.
use Rattle.std.proofs.Common.{◌≡◌, ◌≢◌, ℕ, ◌+◌, ◌<◌, zero, suc, Bool, true, false, ◌&&◌, not, cond, eqb, if◌then◌else◌, List, [], ◌∷◌, Option, Some, None, IfSome, refl, sym, ap, subst, ◌∙◌, inl, inr, arith, true≢false}
use Rattle.std.specs.Option.{option_map_or, option_and_then}
use Rattle.std.proofs.lemmas.Bool.{cases_Bool, ne_eqb, eq-eqb}
use Rattle.edit_model.specs.DomModel.declared.Content.{Content}
use Rattle.edit_model.specs.DomModel.Forest.{Forest, Seen, count_of, IsDistinct, IsWithin, parent_of, prev_of, last_of, children_of, content_of, tree_of, is_label, last_or, times, preorder, preorder_onto, unlink}
use Rattle.edit_model.specs.DomModel.Forest.Forest.{Nil, Tree}
use Rattle.edit_model.proofs.DomModel.Lists.{is_label_last}
use Rattle.edit_model.proofs.DomModel.Links.{seen, parent_count, prev_here, children_of-unlink, parent_of-unlink}
use Rattle.edit_model.proofs.DomModel.Kept.{content_of-unlink}
use Rattle.edit_model.proofs.DomModel.Neighbours.{parent_of-last}
use Rattle.edit_model.proofs.DomModel.Within.{within_self, within_child}
use Rattle.inline_value.specs.NodeTests.SolidNeighbours.{is_extraneous_break}
use Rattle.edit_model.specs.State.{State}
use Rattle.edit_model.specs.Confined.{is_editable_for, may_remove}
use Rattle.edit_model.specs.Edit.{Remove, is_made_edit, trees_after, edited}
use Rattle.edit_model.specs.Valid.{IsValid}
use Rattle.edit_model.specs.Run.{final, ◌>>◌, done, given, remove}
use Rattle.edit_model.proofs.IslandRuns.{trees_made, trees_left}
use Rattle.edit_model.proofs.Steps.{final-bind, final-answer, final-look, final-edit}
use Rattle.edit_model.proofs.Tests.{removes}
use Rattle.inline_value.specs.WrapSplit.Walks.{turn_bound, walk, followed, last_within, preceding, is_invisible}
use Rattle.inline_value.specs.WrapSplit.Breaks.{last_below, back_step, back, last_break_before, breaks_before}
use Rattle.command_laws.proofs.Positions.{position, child_later, beside_earlier}

-- what a step keeps, a walk keeps
pub walk_keeps : (P : ℕ → Type 0) (step : ℕ → Option ℕ) → ((r m : ℕ) → P r → step r ≡ Some m → P m) → (n r : ℕ) → P r → P (walk step n r)
unfolding walk
walk_keeps P step keeps zero r h = h
walk_keeps P step keeps (suc n) r h = by_step (step r) refl (λ m k. walk_keeps P step keeps n m k)
  where
    by_step : (o : Option ℕ) → step r ≡ o → ((m : ℕ) → P m → P (walk step n m)) → P (followed o r (walk step n))
    by_step None e more = h
    by_step (Some m) e more = more m (keeps r m h e)

-- ---- the last node of a tree is in it

times_preorder : (f : Forest Content) (ls : List ℕ) (l : ℕ) → times (preorder_onto f ls) l ≡ count_of f l + times ls l
times_preorder Nil ls l = omega arith
times_preorder (Tree m c ks rest) ls l = omega (arith, times_preorder ks (preorder_onto rest ls) l, times_preorder rest ls l)

last_is_there : (o : Option ℕ) (ls : List ℕ) (m : ℕ) → last_or o ls ≡ Some m → (o ≡ Some m → ⊥) → 0 < times ls m
last_is_there o [] m e never = absurd (never e)
last_is_there o (x ∷ ls) m e never = by_count (times ls m) refl
  where
    by_count : (k : ℕ) → times ls m ≡ k → 0 < cond (eqb x m) 1 0 + times ls m
    by_count (suc k) t = omega (arith, t)
    by_count zero t = by_label (eqb x m) refl
      where
        by_label : (v : Bool) → eqb x m ≡ v → 0 < cond v 1 0 + times ls m
        by_label true u = omega arith
        by_label false u = absurd (not_there ls t e)
          where
            not_there : (ls : List ℕ) → times ls m ≡ 0 → last_or (Some x) ls ≡ Some m → ⊥
            not_there [] t e = (let same : x ≡ m = (let e' = e in cc) in true≢false (sym (eq-eqb x m same) ∙ u))
            not_there (y ∷ r) t e = absurd (true≢false (sym (ap (λ o. is_label o m) e ∙ eq-eqb m m refl) ∙ is_label_last y r m t))

pub last_inside : (f : Forest Content) (b m : ℕ) → last_within f b ≡ Some m → IsWithin f b m
last_inside f b m e = omega (arith, last_is_there None (preorder (tree_of f b)) m e (λ k. (let k' = k in cc)), times_preorder (tree_of f b) [] m)

-- ---- back in tree order

module _ (f : Forest Content) (once : IsDistinct f) where
  pub preceding_earlier : (r m : ℕ) → preceding f r ≡ Some m → position f m < position f r
  unfolding preceding
  preceding_earlier r m e = by_prev (prev_of f r) refl e
    where
      by_prev : (o : Option ℕ) → prev_of f r ≡ o → option_map_or (last_within f) o (parent_of f r) ≡ Some m → position f m < position f r
      by_prev None p k = child_later f once r m k
      by_prev (Some b) p k = beside_earlier f once r b m p (last_inside f b m k)

  pub lower_inside : (b r m : ℕ) → 0 < count_of f b → IsWithin f b r → last_of f r ≡ Some m → IsWithin f b m
  lower_inside b r m here h e = within_child f b once here m r (parent_of-last f once r m e) h

-- what is removed before o isn't a child of o
module _ (s : State) (is : IsValid s) (o p : ℕ) (prev : prev_of s.trees o ≡ Some p) (known : 0 < count_of s.trees p) where
  low_earlier : position s.trees (last_below s p) < position s.trees o
  unfolding last_below
  low_earlier =
      let once = is.forest.distinct in
      let inside : IsWithin s.trees p (walk (last_of s.trees) (turn_bound s) p) =
      walk_keeps (λ r. IsWithin s.trees p r) (last_of s.trees) (λ r m h e. lower_inside s.trees once p r m known h e) (turn_bound s) p (within_self s.trees p once known) in
      beside_earlier s.trees once o p (walk (last_of s.trees) (turn_bound s) p) prev inside

  step_earlier : (stop : Option ℕ) (r m : ℕ) → position s.trees r < position s.trees o → back_step s stop r ≡ Some m → position s.trees m < position s.trees o
  unfolding back_step
  step_earlier stop r m h e = by_test (is_invisible s r && (not (is_extraneous_break s.trees r) && not (is_label stop r))) e
    where
      by_test : (v : Bool) → (if v then preceding s.trees r else None) ≡ Some m → position s.trees m < position s.trees o
      by_test true k = omega (arith, h, preceding_earlier s.trees is.forest.distinct r m k)
      by_test false k = absurd (let k' = k in cc)

  found_earlier : position s.trees (last_break_before s o p) < position s.trees o
  unfolding back
  found_earlier =
      walk_keeps (λ r. position s.trees r < position s.trees o) (back_step s (parent_of s.trees o)) (λ r m h e. step_earlier (parent_of s.trees o) r m h e) (turn_bound s) (last_below s p) low_earlier

  pub found_no_child : parent_of s.trees (last_break_before s o p) ≡ Some o → ⊥
  found_no_child e = omega (arith, found_earlier, child_later s.trees is.forest.distinct (last_break_before s o p) o e)

  pub found_other : last_break_before s o p ≢ o
  found_other e = let k = ap (position s.trees) e in omega (arith, found_earlier, k)

-- ---- what stays of a node

-- its parent, its children and its content are those of before
pub record Undisturbed (s t : State) (o : ℕ) : Type 0 where
  pub parent : (q : ℕ) → parent_of s.trees o ≡ Some q → parent_of t.trees o ≡ Some q
  pub children : children_of t.trees o ≡ children_of s.trees o
  pub content : content_of t.trees o ≡ content_of s.trees o

pub undisturbed : (s : State) (o : ℕ) → Undisturbed s s o
undisturbed s o = record { parent = λ q up. up; children = refl; content = refl }

-- where a node goes that isn't its child
pub removed_other : (r o : ℕ) (s : State) → IsValid s → r ≢ o → (parent_of s.trees r ≡ Some o → ⊥) → Undisturbed s (edited (Remove r) s) o
unfolding is_made_edit trees_after
removed_other r o s is apart other = elim (cases_Bool (may_remove s r)) [
  | inr off ↦ (let e = trees_left (Remove r) s off in record { parent = λ q up. ap (λ f. parent_of f o) e ∙ up; children = ap (λ f. children_of f o) e; content = ap (λ f. content_of f o) e })
  | inl may ↦ (
      let t = removes s r may in
      let e : (edited (Remove r) s).trees ≡ unlink s.trees r = trees_made (Remove r) s may in
      let off : eqb t.from o ≡ false = ne_eqb t.from o (λ k. other (t.child ∙ ap Some k)) in
      record {
        parent = λ q up. (
            let w = seen s.trees o is.forest.distinct (parent_count s.trees o q is.forest.distinct up).0 in
            let own : w.0.parent ≡ Some q = ap (option_and_then (λ (y : Seen Content). y.parent)) (sym w.2) ∙ up in
            ap (λ f. parent_of f o) e ∙ (parent_of-unlink s.trees t.from r is.forest.distinct t.child o w.0 w.2 ∙ rw (ne_eqb r o apart) own));
        children = ap (λ f. children_of f o) e ∙ (children_of-unlink s.trees t.from r is.forest.distinct t.child o ∙ rw off refl);
        content = ap (λ f. content_of f o) e ∙ content_of-unlink s.trees t.from r o is.forest.distinct t.child;
      })
]

prev_known : (s : State) → IsValid s → (o p : ℕ) → prev_of s.trees o ≡ Some p → 0 < count_of s.trees p
prev_known s is o p e = subst (λ v. IfSome v (λ k. 0 < count_of s.trees k)) e (prev_here s.trees o is.forest.distinct)

pub cleared : (o : ℕ) (s : State) → IsValid s → Undisturbed s (final (breaks_before o) s) o
unfolding breaks_before
cleared o s is = rw final-look (by_prev (prev_of s.trees o) refl)
  where
    by_test : (p : ℕ) → prev_of s.trees o ≡ Some p → (v : Bool) → Undisturbed s (final (if v then remove (last_break_before s o p) >> done else done) s) o
    by_test p prev true =
        rw (final-bind, final-edit, final-answer)
        (removed_other (last_break_before s o p) o s is (found_other s is o p prev (prev_known s is o p prev)) (found_no_child s is o p prev (prev_known s is o p prev)))
    by_test p prev false = rw final-answer (undisturbed s o)

    by_prev : (v : Option ℕ) → prev_of s.trees o ≡ v → Undisturbed s (final (given v done (λ p. if is_editable_for s (last_break_before s o p) && is_extraneous_break s.trees (last_break_before s o p) then remove (last_break_before s o p) >> done else done)) s) o
    by_prev None prev = rw final-answer (undisturbed s o)
    by_prev (Some p) prev = by_test p prev (is_editable_for s (last_break_before s o p) && is_extraneous_break s.trees (last_break_before s o p))
