-- What happens among loose trees leaves the document as it is.
use Rattle.std.proofs.Common.{◌≡◌, ℕ, ◌<◌, zero, suc, List, [], ◌∷◌, Option, Some, None, refl, ap, ◌∙◌, inl, inr, arith}
use Rattle.std.proofs.lemmas.Bool.{cases_Bool, ltb-true, lt-ltb}
use Rattle.edit_model.specs.DomModel.Forest.{count_of, parent_of, next_of, first_of, tree_of, put_under}
use Rattle.edit_model.proofs.DomModel.Totals.{put_under_nowhere}
use Rattle.edit_model.proofs.DomModel.DropTree.{without_absent}
use Rattle.edit_model.specs.State.{State}
use Rattle.edit_model.specs.Confined.{may_move}
use Rattle.edit_model.specs.Edit.{Move, is_made_edit, edited}
use Rattle.edit_model.specs.History.{document_of}
use Rattle.edit_model.specs.Valid.{IsValid}
use Rattle.edit_model.specs.Run.{Run, final, for_each}
use Rattle.edit_model.proofs.Documents.{within_above, within_below}
use Rattle.edit_model.proofs.IslandRuns.{trees_made, trees_left}
use Rattle.edit_model.proofs.Steps.{final-bind, final-answer, final-look, for_each-cons, for_each-nil}
use Rattle.edit_model.proofs.Tests.{goes}
use Rattle.edit_laws.specs.Order.{IsKeeping}
use Rattle.edit_model.specs.Moves.{move_before, move_after, move_first, move_last}
use Rattle.edit_laws.proofs.QuietActions.{keeping_final}
use Rattle.edit_laws.proofs.Slides.{document_moved}
use Rattle.edit_laws.proofs.Lifting.{final_move_before}
use Rattle.edit_laws.proofs.Handing.{final_move_last}
use Rattle.edit_laws.proofs.ReversedBefore.{final_move_after, final_move_first}

-- the node isn't in the document
abbrev pub IsLoose : State → ℕ → Type 0
IsLoose s l = count_of (document_of s.trees) l ≡ 0

pub none_there : (k : ℕ) → (0 < k → ⊥) → k ≡ 0
none_there zero h = refl
none_there (suc k) h = absurd (h (omega arith))

-- what stands below a loose node is loose
pub loose_parent : (s : State) → IsValid s → (o q : ℕ) → parent_of s.trees o ≡ Some q → IsLoose s q → IsLoose s o
loose_parent s is o q up none = none_there (count_of (document_of s.trees) o) (λ h. (let k = within_above s.trees s.next is.forest q o up h in omega (arith, k, none)))

-- a move to a loose node leaves the document
pub still_move : (n p : ℕ) (b : Option ℕ) (s : State) → IsValid s → IsLoose s p → document_of (edited (Move n p b) s).trees ≡ document_of s.trees
unfolding is_made_edit
still_move n p b s is none = elim (cases_Bool (may_move s n p b)) [
  | inr off ↦ ap (λ f. tree_of f 0) (trees_left (Move n p b) s off)
  | inl may ↦ (
      let t = goes s n p b may in
      let out : count_of (tree_of s.trees 0) n ≡ 0 = none_there (count_of (tree_of s.trees 0) n) (λ h. (
      let there = ltb-true 0 (count_of (tree_of s.trees 0) p) (t.inside (lt-ltb 0 (count_of (tree_of s.trees 0) n) h)) in
      omega (arith, there, none))) in
      ap (λ f. tree_of f 0) (trees_made (Move n p b) s may)
      ∙ (document_moved s is n p b may
      ∙ (ap (λ g. put_under g p b (tree_of s.trees n)) (without_absent (tree_of s.trees 0) n out)
      ∙ put_under_nowhere (tree_of s.trees 0) p b (tree_of s.trees n) none)))
]

-- and so does a loop of runs that leave it while a node is loose
pub still_each : (o : ℕ) (turn : ℕ → Run (Unit {0})) → ((n : ℕ) (s : State) → IsKeeping s → IsLoose s o → document_of (final (turn n) s).trees ≡ document_of s.trees)
    → (list : List ℕ) (s : State) → IsKeeping s → IsLoose s o → document_of (final (for_each list turn) s).trees ≡ document_of s.trees
still_each o turn stays [] s is none = rw (for_each-nil, final-answer) refl
still_each o turn stays (n ∷ list) s is none =
    let one = stays n s is none in
    rw (for_each-cons, final-bind) (still_each o turn stays list (final (turn n) s) (keeping_final (turn n) s is) (ap (λ g. count_of g o) one ∙ none) ∙ one)

pub still_last : (x n : ℕ) (s : State) → IsKeeping s → IsLoose s x → document_of (final (move_last x n) s).trees ≡ document_of s.trees
still_last x n s is none = rw (final_move_last x n s) (still_move n x None s is.valid none)

pub still_first : (p n : ℕ) (s : State) → IsKeeping s → IsLoose s p → document_of (final (move_first p n) s).trees ≡ document_of s.trees
still_first p n s is none = rw (final_move_first p n s) (still_move n p (first_of s.trees p) s is.valid none)

-- ---- a node without a parent has no place beside it

pub before_root : (o n : ℕ) (s : State) → parent_of s.trees o ≡ None → final (move_before o n) s ≡ s
unfolding move_before
before_root o n s root = rw (final-look, root, final-answer) refl

pub after_root : (o n : ℕ) (s : State) → parent_of s.trees o ≡ None → final (move_after o n) s ≡ s
unfolding move_after
after_root o n s root = rw (final-look, root, final-answer) refl

pub loose_up : (s : State) → IsValid s → (o q : ℕ) → parent_of s.trees o ≡ Some q → IsLoose s o → IsLoose s q
loose_up s is o q up none = none_there (count_of (document_of s.trees) q) (λ h. (let k = within_below s.trees s.next is.forest q o up h in omega (arith, k, none)))

pub still_before : (o n : ℕ) (s : State) → IsKeeping s → IsLoose s o → document_of (final (move_before o n) s).trees ≡ document_of s.trees
still_before o n s is none = by_parent (parent_of s.trees o) refl
  where
    by_parent : (p : Option ℕ) → parent_of s.trees o ≡ p → document_of (final (move_before o n) s).trees ≡ document_of s.trees
    by_parent None root = rw (before_root o n s root) refl
    by_parent (Some q) up = rw (final_move_before o n q s up) (still_move n q (Some o) s is.valid (loose_up s is.valid o q up none))

pub still_after : (o n : ℕ) (s : State) → IsKeeping s → IsLoose s o → document_of (final (move_after o n) s).trees ≡ document_of s.trees
still_after o n s is none = by_parent (parent_of s.trees o) refl
  where
    by_parent : (p : Option ℕ) → parent_of s.trees o ≡ p → document_of (final (move_after o n) s).trees ≡ document_of s.trees
    by_parent None root = rw (after_root o n s root) refl
    by_parent (Some q) up = rw (final_move_after o n q s up) (still_move n q (next_of s.trees o) s is.valid (loose_up s is.valid o q up none))
