-- How many children a node has, by steps from the first child.
use Rattle.std.proofs.Common.{◌≡◌, ℕ, ◌+◌, ◌-◌, ◌<◌, List, [], ◌∷◌, ◌++◌, length, true, false, Option, Some, None, refl, sym, ap, ◌∙◌, nat_le, arith}
use Rattle.std.proofs.lemmas.Bool.{le-leb, lt-leb}
use Rattle.std.proofs.lemmas.List.{append_assoc, length-append}
use Rattle.std.specs.Option.{option_and_then}
use Rattle.node_arena.specs.DomModel.declared.Content.{Content}
use Rattle.node_arena.specs.DomModel.Forest.{Forest, IsDistinct, children_of, first_of, next_of, first_in, after_in, times}
use Rattle.node_arena.proofs.DomModel.Lists.{times-append, after_in-middle}
use Rattle.node_arena.proofs.DomModel.Links.{times-children_of, eqb_refl_true}
use Rattle.point_order.proofs.Toward.{parent_among}

-- a walk over a list that has come to o, with so many of its steps left
pub record Walked (xs : List ℕ) (left steps : ℕ) (o : Option ℕ) : Type 0 where
  pub passed : List ℕ
  pub coming : List ℕ
  pub parts : xs ≡ passed ++ coming
  pub sum : length passed + left ≡ steps
  pub next : o ≡ first_in coming

middle : (xs : List ℕ) (k : ℕ) (ys : List ℕ) → times (xs ++ k ∷ ys) k ≡ times xs k + (1 + times ys k)
middle xs k ys = let one = eqb_refl_true k in times-append xs (k ∷ ys) k ∙ rw one refl

module _ (f : Forest Content) (once : IsDistinct f) (p : ℕ) where
  pub walked_none : (steps : ℕ) (o : Option ℕ) → o ≡ first_of f p → Walked (children_of f p) steps steps o
  walked_none steps o e = record { passed = []; coming = children_of f p; parts = refl; sum = omega arith; next = e }

  pub walked_on : (left steps k : ℕ) (o : Option ℕ) → 0 < left → Walked (children_of f p) left steps (Some k) → o ≡ next_of f k → Walked (children_of f p) (left - 1) steps o
  walked_on left steps k o some walk after = by_coming walk.coming walk.parts walk.next
    where
      by_coming : (ys : List ℕ) → children_of f p ≡ walk.passed ++ ys → Some k ≡ first_in ys → Walked (children_of f p) (left - 1) steps o
      by_coming [] parts at = absurd (let none : Some k ≡ None = at in cc)
      by_coming (x ∷ ys) parts at =
          let is : x ≡ k = (let u = at in cc) in
          let parts' : children_of f p ≡ walk.passed ++ k ∷ ys = parts ∙ ap (λ y. walk.passed ++ y ∷ ys) is in
          let often : times (children_of f p) k ≡ times walk.passed k + (1 + times ys k) = ap (λ xs. times xs k) parts' ∙ middle walk.passed k ys in
          let few = times-children_of f p k once in
          let none : times walk.passed k ≡ 0 = omega (arith, few, often) in
          let child = parent_among f once p k (omega (arith, often)) in
          let more : length (walk.passed ++ k ∷ []) ≡ length walk.passed + 1 = length-append walk.passed (k ∷ []) in
          record {
            passed = walk.passed ++ k ∷ [];
            coming = ys;
            parts = parts' ∙ sym (append_assoc walk.passed (k ∷ []) ys);
            sum = omega (arith, more, walk.sum, some);
            next = after ∙ ap (option_and_then (λ q. after_in (children_of f q) k)) child ∙ ap (λ xs. after_in xs k) parts' ∙ after_in-middle walk.passed k ys none;
          }

-- after its last step the list is seen to be long enough
pub enough : (xs : List ℕ) (left steps : ℕ) (o : Option ℕ) → left ≡ 0 → Walked xs left steps o → true ≡ nat_le steps (length xs)
enough xs left steps o done walk =
    let whole : length xs ≡ length walk.passed + length walk.coming = ap length walk.parts ∙ length-append walk.passed walk.coming in
    sym (le-leb steps (length xs) (omega (arith, whole, walk.sum, done)))

-- where the list ends before its last step, it is too short
pub too_few : (xs : List ℕ) (left steps : ℕ) → 0 < left → Walked xs left steps None → false ≡ nat_le steps (length xs)
too_few xs left steps some walk = sym (lt-leb steps (length xs) (by_coming walk.coming walk.parts walk.next))
  where
    by_coming : (ys : List ℕ) → xs ≡ walk.passed ++ ys → None ≡ first_in ys → length xs < steps
    by_coming [] parts end =
        let whole : length xs ≡ length walk.passed + 0 = ap length parts ∙ length-append walk.passed [] in
        omega (arith, whole, walk.sum, some)
    by_coming (x ∷ ys) parts end = absurd (let found : None ≡ Some x = end in cc)
