-- Where splitting the parent of a line changes nothing, and so a loop of it ends with what it began.
use Rattle.std.proofs.Common.{◌≡◌, ℕ, zero, suc, Bool, true, false, not, ◌||◌, if◌then◌else◌, List, [], ◌∷◌, Option, Some, None, refl, sym, ap, ◌∙◌}
use Rattle.std.specs.Prelude.{is_none}
use Rattle.std.specs.Option.{option_map_or}
use Rattle.edit_model.specs.DomModel.Forest.{first_in, last_in, parent_of}
use Rattle.edit_model.specs.Confined.{is_editable_for}
use Rattle.edit_model.specs.Run.{Run, final, value, look, answer, ◌>>=◌, while_at_most}
use Rattle.edit_model.specs.State.{State}
use Rattle.edit_model.proofs.Steps.{final-look, final-answer, final-bind, value-bind, value-answer}
use Rattle.inline_value.specs.EditActions.Siblings.{first_parent, members}
use Rattle.inline_value.specs.WrapSplit.Split.{is_void_thing, split_at, split_members, split_parent}
use Rattle.delete_core.specs.Gaps.{is_stuck}
use Rattle.delete_core.specs.Merging.{split_line}

nothing_there : (k : ℕ) → None ≡ Some k → ⊥
nothing_there k e = absurd (let t = e in cc)

same_label : (x k : ℕ) → Some x ≡ Some k → x ≡ k
same_label x k e = let t = e in cc

not_so : false ≡ true → ⊥
not_so e = absurd (let t = e in cc)

module _ (s : State) (o : ℕ) (stuck : (not (is_editable_for s o) || (is_none (parent_of s.trees o) || is_void_thing s o)) ≡ true) where
  same_at : (list : List ℕ) (a z : ℕ) → final (split_at o list a z) s ≡ s
  unfolding split_at
  same_at list a z = rw (final-look, stuck, final-answer) refl

  same_members : (list : List ℕ) → final (split_members o list) s ≡ s
  unfolding split_members
  same_members list = by_ends (first_in list) (last_in list) refl refl
    where
      by_ends : (a z : Option ℕ) → first_in list ≡ a → last_in list ≡ z → final (split_members o list) s ≡ s
      by_ends None z e f = rw e (final-answer tt s)
      by_ends (Some a) None e f = rw (e, f) (final-answer tt s)
      by_ends (Some a) (Some z) e f = rw (e, f) (same_at list a z)

module _ (s : State) (list : List ℕ) (k : ℕ) (head : first_in list ≡ Some k) (stuck : is_stuck s k ≡ true) where
  heads : (xs : List ℕ) (p : ℕ) → first_in xs ≡ Some k → parent_of s.trees k ≡ Some p → first_parent s xs ≡ Some p
  unfolding first_parent
  heads [] p e up = absurd (nothing_there k e)
  heads (x ∷ xs) p e up = rw (same_label x k e, up) refl

  same_split : final (split_parent list) s ≡ s
  unfolding split_parent is_stuck
  same_split = by_parent (parent_of s.trees k) refl
    where
      by_parent : (o : Option ℕ) → parent_of s.trees k ≡ o → final (split_parent list) s ≡ s
      by_parent None e = absurd (not_so (rw e at stuck))
      by_parent (Some p) e =
          let t = rw e at stuck in
          rw (final-look, heads list p head e) (same_members s p t (members s p list))

  same_once : final (split_line list k) s ≡ s
  unfolding split_line
  same_once = rw (final-bind, same_split) (final-answer k s)

  same_answer : value (split_line list k) s ≡ k
  unfolding split_line
  same_answer = rw (value-bind, same_split) (value-answer k s)

  pub same_while : (n : ℕ) (test : State → ℕ → Bool) → final (while_at_most n test (split_line list) k) s ≡ s
  unfolding while_at_most
  same_while zero test = final-answer k s
  same_while (suc n) test = rw final-look (by_test (test s k) (same_while n test))
    where
      by_test : (b : Bool) → final (while_at_most n test (split_line list) k) s ≡ s → final (if b then (split_line list k >>= while_at_most n test (split_line list)) else answer k) s ≡ s
      by_test true rest = rw (final-bind, same_answer, same_once) rest
      by_test false rest = final-answer k s
