-- Where a node goes and its children stay, they stay together.
use Rattle.std.proofs.Common.{◌≡◌, ℕ, ◌<◌, if◌then◌else◌, List, [], ◌∷◌, ◌++◌, Some, is_none, refl, sym, ap, subst, ◌∙◌, inl, inr, arith}
use Rattle.std.proofs.lemmas.Bool.{ne_eqb}
use Rattle.std.proofs.lemmas.Bool.Decides.{eqb_tells}
use Rattle.std.proofs.lemmas.List.{append-nil}
use Rattle.edit_model.specs.DomModel.Forest.{is_label, times, first_in, parent_of, children_of}
use Rattle.edit_model.proofs.DomModel.Links.{parent_count}
use Rattle.edit_model.specs.State.{State}
use Rattle.edit_model.specs.Valid.{IsValid}
use Rattle.edit_model.specs.Run.{final, ◌>>◌, done, remove}
use Rattle.edit_model.proofs.Steps.{final-look}
use Rattle.edit_laws.proofs.Around.{self_one}
use Rattle.edit_laws.proofs.Fronts.{child_by}
use Rattle.edit_laws.proofs.Slides.{parent_other}
use Rattle.inline_value.specs.EditActions.Siblings.{members}
use Rattle.inline_value.specs.WrapSplit.Split.{split_parent, remove_keeping_children}
use Rattle.command_laws.proofs.Growing.{piece_none, siblings_as, together_none}
use Rattle.command_laws.proofs.Splitting.{all_members}
use Rattle.command_laws.proofs.SplitTogether.{split_list_together}
use Rattle.command_laws.proofs.Together.{Together, members-none}
use Rattle.command_laws.proofs.Widening.{Siblings, member}

siblings_together : (s : State) → IsValid s → (o : ℕ) (list : List ℕ) → Siblings s o list → Together s list
siblings_together s is o list w = record {
  known = λ l h. is.forest.below l (parent_count s.trees l o is.forest.distinct (owned l h)).0;
  siblings = λ r. elim (eqb_tells o r) [
    | inl (_, same) ↦ subst (λ p. Siblings s p (members s p list)) same (record { front = w.front; rest = w.rest; is = w.is ∙ ap (λ m. w.front ++ (m ++ w.rest)) (sym (all_members s o list owned)) })
    | inr (_, off) ↦
        siblings_as s r (members s r list) [] (children_of s.trees r) refl (members-none s r list (λ l h. ap (λ p. is_label p r) (owned l h) ∙ ne_eqb o r off)) (piece_none (children_of s.trees r))
  ];
}
  where
    owned : (l : ℕ) → 0 < times list l → parent_of s.trees l ≡ Some o
    owned l h = member s is o w.front list w.rest w.is l h

-- the children of a node, where it is split
pub split_children_together : (s : State) → IsValid s → (o a : ℕ) (l : List ℕ) → children_of s.trees o ≡ a ∷ l → Together (final (split_parent (a ∷ l)) s) (a ∷ l)
split_children_together s is o a l kids =
    let w : Siblings s o (a ∷ l) = record { front = []; rest = []; is = kids ∙ sym (append-nil (a ∷ l)) } in
    let owned : (m : ℕ) → 0 < times (a ∷ l) m → parent_of s.trees m ≡ Some o = λ m h. child_by s is o m (let k = ap (λ c. times c m) kids in omega (arith, k, h)) in
    split_list_together s is a o l (siblings_together s is o (a ∷ l) w) (owned a (omega (arith, self_one a)))
    (λ q m up h own. (
    let same : o ≡ q = (let k : Some o ≡ Some q = sym (owned m h) ∙ own in let k' = k in cc) in
    parent_other s.trees is.forest.distinct o q up (sym same)))

-- and of one that goes, while they stay
pub children_stay_together : (n : ℕ) (s : State) → IsValid s → Together (final (remove_keeping_children n) s) (children_of s.trees n)
unfolding remove_keeping_children
children_stay_together n s is = rw final-look (by_children (children_of s.trees n) refl)
  where
    by_children : (list : List ℕ) → children_of s.trees n ≡ list → Together (final (if is_none (first_in list) then remove n >> done else split_parent list) s) list
    by_children [] kids = together_none _
    by_children (a ∷ l) kids = split_children_together s is n a l kids
