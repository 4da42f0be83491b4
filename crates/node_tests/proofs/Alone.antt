-- A node without siblings.
use Rattle.std.proofs.Common.{◌≡◌, ℕ, ◌<◌, Bool, false, ◌&&◌, List, [], ◌∷◌, Some, None, refl, sym, ap, ◌∙◌, inl, inr, arith, is_none}
use Rattle.std.specs.Prelude.{codes}
use Rattle.std.specs.Option.{option_map_or}
use Rattle.std.proofs.lemmas.Bool.Decides.{eqb_tells}
use Rattle.node_styles.specs.DomModel.declared.Content.{Content}
use Rattle.node_styles.specs.DomModel.Forest.{Forest, IsDistinct, times, parent_of, children_of, prev_of, next_of, before_in, before_from, after_in}
use Rattle.node_styles.proofs.DomModel.Lists.{before_from_some}
use Rattle.node_styles.specs.DomModel.Contents.{has_name}
use Rattle.node_tests.specs.SolidNeighbours.{is_sole, is_sole_in_item}
use Rattle.node_tests.proofs.Around.{family, next_in, prev_in}

sole_list : (xs : List ℕ) (l : ℕ) → 0 < times xs l → is_sole xs ≡ (is_none (before_in xs l) && is_none (after_in xs l))
sole_list [] l h = absurd (omega (arith, h))
sole_list (x ∷ []) l h =
    elim (eqb_tells x l) [
      | inl (t, _) ↦ rw t refl
      | inr (t, _) ↦ absurd (let h' = rw t at h in omega (arith, h'))
    ]
sole_list (x ∷ (y ∷ zs)) l h =
    elim (eqb_tells x l) [
      | inl (t, _) ↦ rw t refl
      | inr (t, _) ↦ (let h' = rw t at h in
          let later : is_none (before_from (Some x) (y ∷ zs) l) ≡ false = before_from_some x (y ∷ zs) l (omega (arith, h')) in
          rw (t, later) refl)
    ]

module _ (f : Forest Content) (once : IsDistinct f) (l p : ℕ) (child : parent_of f l ≡ Some p) where
  sole_is : is_sole (children_of f p) ≡ (is_none (prev_of f l) && is_none (next_of f l))
  sole_is =
      let n = family f once l p child in
      let low : 0 < times (children_of f p) l = rw n.children n.among in
      sole_list (children_of f p) l low
      ∙ ap (λ o. is_none o && is_none (after_in (children_of f p) l)) (sym (prev_in f once l p child))
      ∙ ap (λ o. is_none (prev_of f l) && is_none o) (sym (next_in f once l p child))

  pub sole_item : (a b : Bool) → a ≡ has_name f p (codes "li") → b ≡ (is_none (prev_of f l) && is_none (next_of f l)) → (a && b) ≡ is_sole_in_item f l
  unfolding is_sole_in_item
  sole_item a b named alone =
      ap (λ x. x && b) named
      ∙ ap (λ x. has_name f p (codes "li") && x) (alone ∙ sym sole_is)
      ∙ sym (ap (λ o. option_map_or (λ q. has_name f q (codes "li") && is_sole (children_of f q)) o false) child)

  pub not_item : (a : Bool) → a ≡ has_name f p (codes "li") → a ≡ false → a ≡ is_sole_in_item f l
  unfolding is_sole_in_item
  not_item a named off =
      off
      ∙ sym (ap (λ x. x && is_sole (children_of f p)) (sym named ∙ off))
      ∙ sym (ap (λ o. option_map_or (λ q. has_name f q (codes "li") && is_sole (children_of f q)) o false) child)

pub root_item : (f : Forest Content) (l : ℕ) → parent_of f l ≡ None → false ≡ is_sole_in_item f l
unfolding is_sole_in_item
root_item f l root = sym (ap (λ o. option_map_or (λ q. has_name f q (codes "li") && is_sole (children_of f q)) o false) root)
