-- A list goes into the sibling before it, or into the bare sibling after it, or nowhere where the node isn't in the document.
use Rattle.std.proofs.Common.{◌≡◌, ◌≢◌, ℕ, ◌<◌, Bool, true, false, if◌then◌else◌, List, ◌∷◌, ◌++◌, reverse, Some, sym, ap, ◌∙◌, arith}
use Rattle.edit_model.specs.DomModel.Forest.{times, first_in, children_of}
use Rattle.edit_model.proofs.DomModel.Lists.{times-append}
use Rattle.edit_model.proofs.DomModel.Links.{parent_count}
use Rattle.edit_model.specs.PointOrder.PointOrder.{is_earlier}
use Rattle.edit_model.specs.State.{State}
use Rattle.edit_model.specs.Run.{final, done, for_each}
use Rattle.edit_model.specs.Moves.{move_first, move_last, move_all_first, move_each_last}
use Rattle.edit_model.proofs.Steps.{final-bind, final-look}
use Rattle.edit_laws.specs.Order.{KeepsOrder, IsKeeping}
use Rattle.edit_laws.specs.MoveLaws.{IsBare}
use Rattle.edit_laws.proofs.Around.{self_one}
use Rattle.edit_laws.proofs.Fronts.{child_by}
use Rattle.edit_laws.proofs.Loose.{IsLoose, still_each, still_last, still_first}
use Rattle.edit_laws.proofs.MoveLaws.{go_in, go_front}
use Rattle.edit_laws.proofs.QuietActions.{same_document}
use Rattle.edit_laws.proofs.Slides.{parent_other}
use Rattle.edit_laws.proofs.Subsequences.{keeps_trans}
use Rattle.inline_value.specs.WrapSplit.Wrap.{append_break, prepend_break, needs_br, joins_front, first_visible, last_visible, separate_with_br, append_all, parted_front, prepend_all, moved_in}
use Rattle.command_laws.proofs.NewBreaks.{Spared, appended, prepended}
use Rattle.command_laws.proofs.Sides.{before_list, after_list}
use Rattle.command_laws.proofs.Widening.{first_parted}

among_first : (list : List ℕ) (a : ℕ) → first_in list ≡ Some a → 0 < times list a
among_first list a first = let r = first_parted list a first in let k = ap (λ l. times l a) r.1 in omega (arith, k, self_one a)

-- what may come first, and then the moves
end_moves : (s : State) (is : IsKeeping s) (p : ℕ) (list : List ℕ) → ((t : State) → Spared s t p → KeepsOrder t (final (move_each_last list p) t)) → KeepsOrder s (final (append_all p list) s)
unfolding append_all separate_with_br
end_moves s is p list moves =
    let v = needs_br s p (last_visible s (children_of s.trees p)) (first_visible s list) in
    let u = appended s is p v in
    rw (final-look, final-bind, final-look) (keeps_trans u.keeps (moves (final (if v then append_break p else done) s) u))

front_moves : (s : State) (is : IsKeeping s) (p : ℕ) (list : List ℕ) → ((t : State) → Spared s t p → KeepsOrder t (final (move_all_first list p) t)) → KeepsOrder s (final (prepend_all p list) s)
unfolding prepend_all parted_front
front_moves s is p list moves =
    let v = joins_front s p list in
    let u = prepended s is p v in
    rw (final-bind, final-look) (keeps_trans u.keeps (moves (final (if v then prepend_break p else done) s) u))

module _ (s : State) (is : IsKeeping s) (p a o : ℕ) (front list rest : List ℕ) (first : first_in list ≡ Some a) where
  pub into_previous : children_of s.trees o ≡ front ++ p ∷ (list ++ rest) → KeepsOrder s (final (moved_in p list a) s)
  unfolding moved_in
  into_previous kids =
      let up = child_by s is.valid o p (let k = ap (λ l. times l p) kids in omega (arith, k, times-append front (p ∷ (list ++ rest)) p, self_one p)) in
      let off : p ≢ o = λ e. parent_other s.trees is.valid.forest.distinct p o up (sym e) in
      let earlier = before_list s is.valid p a o front (list ++ rest) kids (omega (arith, among_first list a first, times-append list rest a)) in
      rw (final-look, earlier) (end_moves s is p list (λ t u. go_in t u.keeping front list rest p o (u.children o off ∙ kids)))

  pub into_next : children_of s.trees o ≡ front ++ (list ++ p ∷ rest) → IsBare s p → KeepsOrder s (final (moved_in p list a) s)
  unfolding moved_in
  into_next kids bare =
      let up = child_by s is.valid o p (let k = ap (λ l. times l p) kids in omega (arith, k, times-append front (list ++ p ∷ rest) p, times-append list (p ∷ rest) p, self_one p)) in
      let here = (parent_count s.trees p o is.valid.forest.distinct up).0 in
      let off : p ≢ o = λ e. parent_other s.trees is.valid.forest.distinct p o up (sym e) in
      let l = first_parted list a first in
      let same : children_of s.trees o ≡ front ++ a ∷ (l.0 ++ p ∷ rest) = kids ∙ ap (λ k. front ++ (k ++ p ∷ rest)) l.1 in
      let later = after_list s is.valid p a o front (l.0 ++ p ∷ rest) same (omega (arith, times-append l.0 (p ∷ rest) p, self_one p)) in
      rw (final-look, later) (front_moves s is p list (λ t u. go_front t u.keeping front list rest p o (u.children o off ∙ kids) (λ c h. bare c (sym (u.content p here) ∙ h))))

pub into_loose : (s : State) → IsKeeping s → (p a : ℕ) (list : List ℕ) → IsLoose s p → KeepsOrder s (final (moved_in p list a) s)
unfolding moved_in move_each_last move_all_first
into_loose s is p a list none = rw final-look (by_side (is_earlier s.trees p a))
  where
    at_end : (t : State) → Spared s t p → KeepsOrder t (final (for_each list (move_last p)) t)
    at_end t u = same_document t (final (for_each list (move_last p)) t) (still_each p (move_last p) (still_last p) list t u.keeping (u.loose none))

    at_front : (t : State) → Spared s t p → KeepsOrder t (final (for_each (reverse list) (move_first p)) t)
    at_front t u = same_document t (final (for_each (reverse list) (move_first p)) t) (still_each p (move_first p) (still_first p) (reverse list) t u.keeping (u.loose none))

    by_side : (v : Bool) → KeepsOrder s (final (if v then append_all p list else prepend_all p list) s)
    by_side true = end_moves s is p list at_end
    by_side false = front_moves s is p list at_front
