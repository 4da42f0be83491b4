-- The list that is wrapped has consecutive children of a node, once it is widened too.
use Rattle.std.proofs.Common.{◌≡◌, ℕ, ◌<◌, zero, suc, Bool, true, false, ◌&&◌, not, if◌then◌else◌, List, [], ◌∷◌, ◌++◌, Option, Some, None, refl, sym, ap, subst, ◌∙◌, arith, append_assoc}
use Rattle.std.specs.Option.{option_and_then}
use Rattle.std.proofs.lemmas.List.{append-nil}
use Rattle.edit_model.specs.DomModel.Forest.{times, first_in, last_in, last_or, before_from, before_in, after_in, parent_of, prev_of, next_of, children_of}
use Rattle.edit_model.proofs.DomModel.Lists.{times-append, after_in-middle}
use Rattle.edit_model.proofs.DomModel.Links.{times-children_of, eqb_refl_true}
use Rattle.inline_value.specs.NodeStyles.Blocks.{is_block}
use Rattle.edit_model.specs.State.{State}
use Rattle.edit_model.specs.DomModel.Contents.{is_break}
use Rattle.edit_model.specs.Valid.{IsValid}
use Rattle.edit_laws.proofs.Around.{self_one, off_by}
use Rattle.edit_laws.proofs.Fronts.{child_by}
use Rattle.inline_value.specs.WrapSplit.Walks.{turn_bound, is_invisible}
use Rattle.inline_value.specs.WrapSplit.Wrap.{if_break, break_next, if_hidden, list_on, extended_front, hidden_after, one_of, with_break, extended, extended_back, widened}

-- ---- lists

before-middle : (o : Option ℕ) (front rest : List ℕ) (a : ℕ) → times front a ≡ 0 → before_from o (front ++ a ∷ rest) a ≡ last_or o front
before-middle o [] rest a none = rw (eqb_refl_true a) refl
before-middle o (x ∷ front) rest a none = rw (off_by x a (omega (arith, none))) (before-middle (Some x) front rest a (omega (arith, none)))

pub last_parted : (xs : List ℕ) (z : ℕ) → last_in xs ≡ Some z → (init : List ℕ) × (xs ≡ init ++ z ∷ [])
last_parted [] z e = absurd (let e' = e in cc)
last_parted (x ∷ []) z e = let same : x ≡ z = (let e' = e in cc) in ([], ap (λ k. k ∷ []) same)
last_parted (x ∷ y ∷ xs) z e = let r = last_parted (y ∷ xs) z e in (x ∷ r.0, ap (λ k. x ∷ k) r.1)

pub first_parted : (xs : List ℕ) (a : ℕ) → first_in xs ≡ Some a → (more : List ℕ) × (xs ≡ a ∷ more)
first_parted [] a e = absurd (let e' = e in cc)
first_parted (x ∷ xs) a e = let same : x ≡ a = (let e' = e in cc) in (xs, ap (λ k. k ∷ xs) same)

first-append : (xs ys : List ℕ) (a : ℕ) → first_in xs ≡ Some a → first_in (xs ++ ys) ≡ Some a
first-append [] ys a e = absurd (let e' = e in cc)
first-append (x ∷ xs) ys a e = e

pub pushed-last : (o : Option ℕ) (xs : List ℕ) (z : ℕ) → last_or o (xs ++ z ∷ []) ≡ Some z
pushed-last o [] z = refl
pushed-last o (x ∷ xs) z = pushed-last (Some x) xs z

-- ---- consecutive children of o, in order

pub record Siblings (s : State) (o : ℕ) (list : List ℕ) : Type 0 where
  pub front : List ℕ
  pub rest : List ℕ
  pub is : children_of s.trees o ≡ front ++ (list ++ rest)

module _ (s : State) (is : IsValid s) (o : ℕ) (front list rest : List ℕ) (kids : children_of s.trees o ≡ front ++ (list ++ rest)) where
  pub member : (n : ℕ) → 0 < times list n → parent_of s.trees n ≡ Some o
  member n h = child_by s is o n (let k = ap (λ l. times l n) kids in omega (arith, k, h, times-append front (list ++ rest) n, times-append list rest n))

  -- the node before the list
  pub node_before : (a p : ℕ) → first_in list ≡ Some a → prev_of s.trees a ≡ Some p → (init : List ℕ) × (children_of s.trees o ≡ init ++ p ∷ (list ++ rest))
  node_before a p first prev =
      let l = first_parted list a first in
      let same : children_of s.trees o ≡ front ++ a ∷ (l.0 ++ rest) = kids ∙ ap (λ k. front ++ (k ++ rest)) l.1 in
      let up = member a (let k = ap (λ l. times l a) l.1 in omega (arith, k, self_one a)) in
      let k = ap (λ l. times l a) same in
      let none : times front a ≡ 0 = omega (arith, k, times-append front (a ∷ (l.0 ++ rest)) a, self_one a, times-children_of s.trees o a is.forest.distinct) in
      let last : last_in front ≡ Some p =
      sym (before-middle None front (l.0 ++ rest) a none)
      ∙ (sym (ap (λ k. before_in k a) same)
      ∙ (sym (ap (λ k. option_and_then (λ q. before_in (children_of s.trees q) a) k) up) ∙ prev)) in
      let r = last_parted front p last in
      (r.0, kids ∙ (ap (λ k. k ++ (list ++ rest)) r.1 ∙ append_assoc r.0 (p ∷ []) (list ++ rest)))

  followed : (p : ℕ) → ((more : List ℕ) × (rest ≡ p ∷ more)) → (more : List ℕ) × (children_of s.trees o ≡ front ++ (list ++ p ∷ more))
  followed p r = (r.0, kids ∙ ap (λ k. front ++ (list ++ k)) r.1)

  -- the node after it
  pub node_after : (z p : ℕ) → last_in list ≡ Some z → next_of s.trees z ≡ Some p → (more : List ℕ) × (children_of s.trees o ≡ front ++ (list ++ p ∷ more))
  node_after z p last next =
      let l = last_parted list z last in
      let shape : front ++ ((l.0 ++ z ∷ []) ++ rest) ≡ (front ++ l.0) ++ z ∷ rest = ap (λ k. front ++ k) (append_assoc l.0 (z ∷ []) rest) ∙ sym (append_assoc front l.0 (z ∷ rest)) in
      let same : children_of s.trees o ≡ (front ++ l.0) ++ z ∷ rest = kids ∙ (ap (λ k. front ++ (k ++ rest)) l.1 ∙ shape) in
      let up = member z (let k = ap (λ l. times l z) l.1 in omega (arith, k, self_one z, times-append l.0 (z ∷ []) z)) in
      let k : times (children_of s.trees o) z ≡ times ((front ++ l.0) ++ z ∷ rest) z = ap (λ l. times l z) same in
      let none : times (front ++ l.0) z ≡ 0 = omega (arith, k, times-append (front ++ l.0) (z ∷ rest) z, self_one z, times-children_of s.trees o z is.forest.distinct) in
      let first : first_in rest ≡ Some p =
      sym (after_in-middle (front ++ l.0) z rest none)
      ∙ (sym (ap (λ k. after_in k z) same)
      ∙ (sym (ap (λ k. option_and_then (λ q. after_in (children_of s.trees q) z) k) up) ∙ next)) in
      followed p (first_parted rest p first)

module _ (s : State) (is : IsValid s) (o : ℕ) where
  one_before : (list : List ℕ) (a q : ℕ) → Siblings s o list → first_in list ≡ Some a → prev_of s.trees a ≡ Some q → Siblings s o (q ∷ list)
  one_before list a q w first prev = let r = node_before s is o w.front list w.rest w.is a q first prev in record { front = r.0; rest = w.rest; is = r.1 }

  pub one_after : (list : List ℕ) (z q : ℕ) → Siblings s o list → last_in list ≡ Some z → next_of s.trees z ≡ Some q → Siblings s o (list ++ q ∷ [])
  one_after list z q w last next =
      let r = node_after s is o w.front list w.rest w.is z q last next in
      record { front = w.front; rest = r.0; is = r.1 ∙ ap (λ k. w.front ++ k) (sym (append_assoc list (q ∷ []) r.0)) }

  pub same_list : (list : List ℕ) → Siblings s o list → Siblings s o (list ++ [])
  same_list list w = subst (Siblings s o) (sym (append-nil list)) w

  front_siblings : (n a : ℕ) (list : List ℕ) → Siblings s o list → first_in list ≡ Some a → Siblings s o (extended_front s n a list)
  unfolding extended_front
  front_siblings zero a list w first = w
  front_siblings (suc n) a list w first = by_prev (prev_of s.trees a) refl (λ q e. front_siblings n q (q ∷ list) (one_before list a q w first e) refl)
    where
      by_test : (q : ℕ) (v : Bool) → Siblings s o (extended_front s n q (q ∷ list)) → Siblings s o (list_on (if v then Some q else None) list (λ q. extended_front s n q (q ∷ list)))
      by_test q true more = more
      by_test q false more = w

      by_prev : (p : Option ℕ) → prev_of s.trees a ≡ p → ((q : ℕ) → prev_of s.trees a ≡ Some q → Siblings s o (extended_front s n q (q ∷ list))) → Siblings s o (list_on (if_hidden s p) list (λ q. extended_front s n q (q ∷ list)))
      by_prev None e more = w
      by_prev (Some q) e more = by_test q (is_invisible s q) (more q e)

  back_siblings : (n z : ℕ) (list : List ℕ) → Siblings s o list → last_in list ≡ Some z → Siblings s o (list ++ hidden_after s n z)
  unfolding hidden_after
  back_siblings zero z list w last = same_list list w
  back_siblings (suc n) z list w last =
      by_next (next_of s.trees z) refl
      (λ q e. subst (Siblings s o) (append_assoc list (q ∷ []) (hidden_after s n q)) (back_siblings n q (list ++ q ∷ []) (one_after list z q w last e) (pushed-last None list q)))
    where
      by_test : (q : ℕ) (v : Bool) → Siblings s o (list ++ q ∷ hidden_after s n q) → Siblings s o (list ++ list_on (if v then Some q else None) [] (λ q. q ∷ hidden_after s n q))
      by_test q true more = more
      by_test q false more = same_list list w

      by_next : (p : Option ℕ) → next_of s.trees z ≡ p → ((q : ℕ) → next_of s.trees z ≡ Some q → Siblings s o (list ++ q ∷ hidden_after s n q)) → Siblings s o (list ++ list_on (if_hidden s p) [] (λ q. q ∷ hidden_after s n q))
      by_next None e more = same_list list w
      by_next (Some q) e more = by_test q (is_invisible s q) (more q e)

  break_siblings : (list : List ℕ) (z : ℕ) → Siblings s o list → last_in list ≡ Some z → Siblings s o (with_break s list z)
  unfolding with_break break_next
  break_siblings list z w last = by_kind (not (is_block s.trees z) && not (is_break s.trees z)) (next_of s.trees z) refl
    where
      by_test : (q : ℕ) → next_of s.trees z ≡ Some q → (v : Bool) → Siblings s o (list ++ one_of (if v then Some q else None))
      by_test q e true = one_after list z q w last e
      by_test q e false = same_list list w

      by_kind : (v : Bool) (p : Option ℕ) → next_of s.trees z ≡ p → Siblings s o (list ++ one_of (if v then if_break s p else None))
      by_kind false p e = same_list list w
      by_kind true None e = same_list list w
      by_kind true (Some q) e = by_test q e (is_break s.trees q)

  ended_siblings : (list : List ℕ) → Siblings s o list → Siblings s o (extended_back s list)
  unfolding extended_back
  ended_siblings list w = by_last (last_in list) refl
    where
      by_last : (k : Option ℕ) → last_in list ≡ k → Siblings s o (list_on k list (λ z. list ++ hidden_after s (turn_bound s) z))
      by_last None e = w
      by_last (Some z) e = back_siblings (turn_bound s) z list w e

  pub widened_siblings : (list : List ℕ) (a z : ℕ) → Siblings s o list → first_in list ≡ Some a → last_in list ≡ Some z → Siblings s o (widened s list a z)
  unfolding widened extended with_break
  widened_siblings list a z w first last =
      ended_siblings (extended_front s (turn_bound s) a (list ++ one_of (break_next s z)))
      (front_siblings (turn_bound s) a (list ++ one_of (break_next s z)) (break_siblings list z w last) (first-append list (one_of (break_next s z)) a first))
