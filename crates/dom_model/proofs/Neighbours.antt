-- The parents of a first child and of a next sibling.
use Rattle.std.proofs.Common.{◌≡◌, ℕ, zero, suc, ◌<◌, false, true, List, [], Option, Some, None, refl, ap, ◌∙◌, arith}
use Rattle.std.specs.Option.{option_map_or, option_and_then}
use Rattle.dom_model.specs.Forest.{Forest, Seen, IsDistinct, seek, parent_of, children_of, first_of, last_of, prev_of, next_of, after_in, before_in, is_label, times}
use Rattle.dom_model.proofs.Links.{parent_of_child, found_stands, eqb_refl_true}
use Rattle.dom_model.proofs.Lists.{is_label_first, is_label_prior, is_label_after}

-- a label that can only be one of a list is one
among : (xs : List ℕ) (o : Option ℕ) (k : ℕ) → ((j : ℕ) → times xs j ≡ 0 → is_label o j ≡ false) → o ≡ Some k → 0 < times xs k
among xs o k off is = by_count (times xs k) refl
  where
    by_count : (c : ℕ) → times xs k ≡ c → 0 < times xs k
    by_count zero e = absurd (let t = off k e in let u : is_label o k ≡ true = ap (λ p. is_label p k) is ∙ eqb_refl_true k in cc)
    by_count (suc c) e = omega (arith, e)

module _ {C : Type 0} (f : Forest C) (once : IsDistinct f) where
  under : (l k : ℕ) (o : Option ℕ) → ((j : ℕ) → times (children_of f l) j ≡ 0 → is_label o j ≡ false) → o ≡ Some k → parent_of f k ≡ Some l
  under l k o off is = by_seen (seek None f l) refl (among (children_of f l) o k off is)
    where
      by_seen : (x : Option (Seen C)) → seek None f l ≡ x → 0 < times (option_map_or (λ (s : Seen C). s.children) x []) k → parent_of f k ≡ Some l
      by_seen None e h = absurd (omega (arith, h))
      by_seen (Some s) e h = parent_of_child f l k s once (found_stands f l s once e) h

  pub parent_of-first : (l k : ℕ) → first_of f l ≡ Some k → parent_of f k ≡ Some l
  parent_of-first l k e = under l k (first_of f l) (is_label_first (children_of f l)) e

  pub parent_of-last : (l k : ℕ) → last_of f l ≡ Some k → parent_of f k ≡ Some l
  parent_of-last l k e = under l k (last_of f l) (is_label_prior (children_of f l) None) e

  pub parent_of-next : (l k p : ℕ) → parent_of f l ≡ Some p → next_of f l ≡ Some k → parent_of f k ≡ Some p
  parent_of-next l k p child e = under p k (next_of f l) (λ j none. ap (λ o. is_label (option_and_then (λ q. after_in (children_of f q) l) o) j) child ∙ is_label_after (children_of f p) l j none) e

  pub parent_of-prev_sibling : (l k p : ℕ) → parent_of f l ≡ Some p → prev_of f l ≡ Some k → parent_of f k ≡ Some p
  parent_of-prev_sibling l k p child e = under p k (prev_of f l) (λ j none. ap (λ o. is_label (option_and_then (λ q. before_in (children_of f q) l) o) j) child ∙ is_label_prior (children_of f p) (Some l) j none) e
