-- A loose node without children comes to just after another one, which moves into it.
use Rattle.std.proofs.Common.{◌≡◌, ℕ, ◌<◌, zero, suc, true, [], ◌++◌, Option, Some, None, refl, ap, ◌∙◌, inl, inr, arith}
use Rattle.std.proofs.lemmas.Bool.{cases_Bool}
use Rattle.edit_model.specs.DomModel.declared.Content.{Content}
use Rattle.edit_model.specs.DomModel.Forest.{tops, first_in, count_of, parent_of, next_of, tree_of, put_under, join}
use Rattle.edit_model.specs.DomModel.Forest.Forest.{Nil, Tree}
use Rattle.edit_model.proofs.DomModel.Totals.{put_under_nowhere}
use Rattle.edit_model.proofs.DomModel.Within.{within_root}
use Rattle.edit_model.specs.State.{State}
use Rattle.edit_model.specs.Kept.{borne_by, leaves}
use Rattle.edit_model.specs.Confined.{may_insert}
use Rattle.edit_model.specs.Edit.{Insert, is_made_edit, trees_after, edited}
use Rattle.edit_model.specs.History.{document_of}
use Rattle.edit_model.specs.Moves.{insert_before, insert_after, move_last}
use Rattle.edit_model.specs.Run.{final, ◌>>◌}
use Rattle.edit_model.proofs.Documents.{document-link}
use Rattle.edit_model.proofs.IslandRuns.{trees_made, trees_left}
use Rattle.edit_model.proofs.Steps.{final-bind, final-answer, final-look, final-edit}
use Rattle.edit_model.proofs.Tests.{inserts}
use Rattle.edit_laws.specs.Order.{KeepsOrder, IsKeeping}
use Rattle.edit_laws.proofs.Subsequences.{keeps_trans}
use Rattle.edit_laws.proofs.Leaves.{leaves-Nil, leaves-Tree}
use Rattle.edit_laws.proofs.QuietActions.{keeping_edited, same_document, bare_insert_keeps}
use Rattle.edit_laws.proofs.Around.{Spot, spot_other, spot_distinct, spot_put_top, fill}
use Rattle.edit_laws.proofs.Patterns.{put_after_node}
use Rattle.edit_laws.proofs.Slides.{document_distinct}
use Rattle.edit_laws.proofs.Handing.{final_move_last}
use Rattle.edit_laws.proofs.ReversedBefore.{next_is, enter}
use Rattle.edit_laws.proofs.Seats.{Seat, seat}
use Rattle.edit_laws.proofs.Loose.{IsLoose, none_there, still_last}

pub final_insert_before : (o x q : ℕ) (s : State) → parent_of s.trees o ≡ Some q → final (insert_before o x) s ≡ edited (Insert q (Some o) x) s
unfolding insert_before
final_insert_before o x q s up = rw (final-look, up, final-bind, final-edit, final-answer) refl

pub final_insert_after : (o x q : ℕ) (s : State) → parent_of s.trees o ≡ Some q → final (insert_after o x) s ≡ edited (Insert q (next_of s.trees o) x) s
unfolding insert_after
final_insert_after o x q s up = rw (final-look, up, final-bind, final-edit, final-answer) refl

pub after_nothing : (o x : ℕ) (s : State) → parent_of s.trees o ≡ None → final (insert_after o x) s ≡ s
unfolding insert_after
after_nothing o x s root = rw (final-look, root, final-answer) refl

module _ (s : State) (is : IsKeeping s) (n c : ℕ) (e : Content) (root : parent_of s.trees c ≡ None) (inner : 0 < c) (tree : tree_of s.trees c ≡ Tree c e Nil Nil) (bare : borne_by c e ≡ []) where
  empty : leaves (tree_of s.trees c) ≡ []
  empty = ap leaves tree ∙ (leaves-Tree c e Nil Nil ∙ (ap (λ l. l ++ (leaves Nil ++ leaves Nil)) bare ∙ rw leaves-Nil refl))

  outside : IsLoose s c
  outside = none_there (count_of (document_of s.trees) c) (λ h. within_root s.trees 0 is.valid.forest.distinct is.valid.forest.document c (λ z. omega (arith, inner, z)) root h)

  -- where the document stays, c is no part of it
  out : (t : State) → IsKeeping t → document_of t.trees ≡ document_of s.trees → KeepsOrder s (final (move_last c n) t)
  out t is_t same =
      same_document s (final (move_last c n) t)
      (still_last c n t is_t (ap (λ g. count_of g c) same ∙ outside) ∙ same)

  module _ (p : ℕ) (up : parent_of s.trees n ≡ Some p) where
    t : State
    t = edited (Insert p (next_of s.trees n) c) s

    is_t : IsKeeping t
    unfolding t
    is_t = keeping_edited (Insert p (next_of s.trees n) c) s is

    linked : may_insert s p (next_of s.trees n) c ≡ true → document_of t.trees ≡ put_under (document_of s.trees) p (next_of s.trees n) (tree_of s.trees c)
    unfolding t is_made_edit trees_after
    linked may =
        ap (λ f. tree_of f 0) (trees_made (Insert p (next_of s.trees n) c) s may)
        ∙ document-link s.trees s.next is.valid.forest p (next_of s.trees n) c (inserts s p (next_of s.trees n) c may).can

    seated : may_insert s p (next_of s.trees n) c ≡ true → Seat s n p → KeepsOrder s (final (move_last c n) t)
    unfolding t
    seated may w =
        let f = document_of s.trees in
        let once = document_distinct s.trees is.valid.forest.distinct in
        let kids = join w.pre (Tree n w.content w.kids w.post) in
        let others = join w.pre (Tree n w.content w.kids (Tree c e Nil w.post)) in
        let place : next_of s.trees n ≡ first_in (tops w.post) = next_is s is.valid p w.pre n w.content w.kids w.post w.spot in
        let put =
        ap (λ g. put_under g p (next_of s.trees n) (tree_of s.trees c)) w.spot.is
        ∙ (ap (λ b. put_under (fill w.spot.around (Tree p w.spot.content kids w.spot.rest)) p b (tree_of s.trees c)) place
        ∙ (ap (λ g. put_under (fill w.spot.around (Tree p w.spot.content kids w.spot.rest)) p (first_in (tops w.post)) g) tree
        ∙ (spot_put_top f once p kids w.spot kids (first_in (tops w.post)) (Tree c e Nil Nil)
        ∙ ap (λ h. fill w.spot.around (Tree p w.spot.content h w.spot.rest)) (put_after_node w.pre n w.content w.kids w.post c e Nil (spot_distinct f once p kids w.spot))))) in
        let spot : Spot (document_of t.trees) p others = spot_other f (document_of t.trees) p kids others w.spot (linked may ∙ put) in
        let none : borne_by c e ++ leaves Nil ≡ [] = rw (bare, leaves-Nil) refl in
        keeps_trans (bare_insert_keeps p (next_of s.trees n) c s is empty)
        (rw (final_move_last c n t) (enter t is_t p w.pre n w.content w.kids c e Nil w.post none spot).keeps)

    beside : KeepsOrder s (final (move_last c n) t)
    unfolding t is_made_edit
    beside = elim (cases_Bool (may_insert s p (next_of s.trees n) c)) as (λ _. KeepsOrder s (final (move_last c n) t)) [
      | inr off ↦ out t is_t (ap (λ f. tree_of f 0) (trees_left (Insert p (next_of s.trees n) c) s off))
      | inl may ↦ by_count may (count_of (document_of s.trees) p) refl
    ]
      where
        by_count : may_insert s p (next_of s.trees n) c ≡ true → (k : ℕ) → count_of (document_of s.trees) p ≡ k → KeepsOrder s (final (move_last c n) t)
        by_count may zero none = out t is_t (linked may ∙ put_under_nowhere (document_of s.trees) p (next_of s.trees n) (tree_of s.trees c) none)
        by_count may (suc k) some = seated may (seat s is.valid n p up (omega (arith, some)))

  pub taken_in : KeepsOrder s (final (insert_after n c >> move_last c n) s)
  unfolding t
  taken_in = rw final-bind (by_parent (parent_of s.trees n) refl)
    where
      by_parent : (o : Option ℕ) → parent_of s.trees n ≡ o → KeepsOrder s (final (move_last c n) (final (insert_after n c) s))
      by_parent None none = rw (after_nothing n c s none) (out s is refl)
      by_parent (Some p) up = rw (final_insert_after n c p s up) (beside p up)
