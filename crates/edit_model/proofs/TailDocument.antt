-- Extracting a tail leaves no node of the document out of it.
use Rattle.std.proofs.Common.{◌≡◌, ◌⊎◌, ℕ, zero, suc, ◌+◌, ◌<◌, ◌≤◌, true, false, cond, eqb, List, [], ◌∷◌, ◌++◌, drop, Option, Some, None, refl, sym, ap, subst, ◌∙◌, inl, inr, arith, true≢false}
use Rattle.std.specs.Option.{option_map_or}
use Rattle.std.proofs.lemmas.Bool.{and_parts, cases_Bool, ne_eqb, lt-ltb}
use Rattle.point_order.specs.DomModel.declared.Content.{Content}
use Rattle.point_order.specs.DomModel.Forest.{Forest, count_of, tree_of, parent_of, children_of, IsDistinct, IsWithin, CanPut}
use Rattle.point_order.proofs.DomModel.Totals.{total-without}
use Rattle.point_order.proofs.DomModel.Within.{within_child, within_self}
use Rattle.point_order.proofs.DomModel.Move.{tree_of-unlink}
use Rattle.point_order.proofs.DomModel.NodesKept.{AreNodes}
use Rattle.point_order.specs.LiveRange.declared.places.Point.{Point}
use Rattle.point_order.specs.PointOrder.{child_toward}
use Rattle.edit_model.specs.State.{State}
use Rattle.edit_model.specs.Edit.{Insert, Remove, is_made_edit, trees_after, changed, with_change}
use Rattle.edit_model.specs.Tail.{Step, Copy, Do, carried, later, copy_of, tail_steps, document_size}
use Rattle.edit_model.specs.Action.{Extract, acted, made, applied, stepped, stepped_all, tail_of, may_extract, extracted}
use Rattle.edit_model.specs.Possible.{freed, are_possible}
use Rattle.edit_model.specs.Valid.{IsValid}
use Rattle.edit_model.proofs.Tests.{inserts, removes}
use Rattle.edit_model.proofs.Trees.{none_or_some, within_trans}
use Rattle.edit_model.proofs.Documents.{within-link, within-unlink, within-with_leaf}
use Rattle.edit_model.proofs.ValidParts.{valid_applied, valid_copied, valid_steps}
use Rattle.edit_model.proofs.TailPossible.{tail_possible}
use Rattle.edit_model.proofs.TailPlan.{AllOf, Fits, IsCopy, is_copy, tail_fits}
use Rattle.edit_model.proofs.TailSteps.{Extracts, extract_tests, either_extracted}
use Rattle.edit_model.proofs.TailRuns.{fit_steps}
use Rattle.edit_model.proofs.TailOutside.{root_there}
use Rattle.edit_model.proofs.TailForests.{away-unlink, away-link, away-with_leaf, stays-unlink, stays-link, holds-link}

-- ---- the target stays in the document

module _ (f : Forest Content) (target : ℕ) where
  -- a node whose tree doesn't hold the target at first
  abbrev Apart : ℕ → Type 0
  Apart y = count_of (tree_of f y) target ≡ 0

  abbrev Kept : State → Type 0
  Kept u = IsWithin u.trees 0 target × ((y : ℕ) → Apart y → count_of (tree_of u.trees y) target ≡ 0)

  kept_made : (c : Content) (u : State) → IsValid u → Kept u → Kept (made c u)
  unfolding made
  kept_made c u is h =
      let known = is.forest.below target (omega (arith, h.0, total-without (λ m _. cond (eqb m target) 1 0) u.trees 0)) in
      let other : eqb u.next target ≡ false = ne_eqb u.next target (λ e. omega (arith, known, e)) in
      (within-with_leaf u.trees u.next is.forest u.next target c h.0, λ y apart. away-with_leaf u.trees u.next c y target other (h.1 y apart))

  kept_removed : (n o : ℕ) (u : State) → IsValid u → Apart n → parent_of u.trees n ≡ Some o → Kept u → Kept (applied (Remove n) u)
  unfolding applied with_change changed trees_after
  kept_removed n o u is apart child h = (
    within-unlink u.trees u.next is.forest o n target child (h.1 n apart) h.0,
    λ y k. away-unlink u.trees n y target is.forest.distinct (h.1 n apart) (h.1 y k),
  )

  kept_inserted : (p : ℕ) (b : Option ℕ) (n : ℕ) (u : State) → IsValid u → Apart n → CanPut u.trees p b n → Kept u → Kept (applied (Insert p b n) u)
  unfolding applied with_change changed trees_after
  kept_inserted p b n u is apart can h = (
    within-link u.trees u.next is.forest p b n target can h.0,
    λ y k. away-link u.trees p b n y target is.forest.distinct (h.1 n apart) (h.1 y k),
  )

not_in : (n : ℕ) → (0 < n → ⊥) → n ≡ 0
not_in n never = elim (none_or_some n) [ inl none ↦ none | inr some ↦ absurd (never some) ]

target_stays : (s : State) → IsValid s → (from : Point) (end target : ℕ) → may_extract s from end target ≡ true → IsWithin (stepped_all (tail_of s from end target) s).trees 0 target
unfolding tail_of
target_stays s is from end target may =
    (fit_steps IsCopy (Apart s.trees target) (λ _. Unit {0}) (λ c k. k) (Kept s.trees target)
    (λ c u is' _ h. kept_made s.trees target c u is' h) (λ n o u is' apart child h. kept_removed s.trees target n o u is' apart child h) (λ p b n u is' _ apart can h. kept_inserted s.trees target p b n u is' apart can h)
    (tail_of s from end target) s fits (tail_possible s is from end target may) is (tests.inside, λ y apart. apart)).0
  where
    tests : Extracts s from end target
    tests = extract_tests s from end target may

    end_there : 0 < count_of s.trees end
    end_there = root_there s.trees end from.label tests.below

    end_apart : IsWithin s.trees end target → ⊥
    end_apart h = true≢false (sym (lt-ltb 0 (count_of (tree_of s.trees end) target) h) ∙ tests.apart)

    child_within : (c x : ℕ) → IsWithin s.trees end c → parent_of s.trees x ≡ Some c → IsWithin s.trees end x
    child_within c x path child = within_child s.trees end is.forest.distinct end_there x c child path

    apart_child : (c x : ℕ) → IsWithin s.trees end c → parent_of s.trees x ≡ Some c → Apart s.trees target x
    apart_child c x path child = not_in (count_of (tree_of s.trees x) target) (λ h. end_apart (within_trans s.trees end x target is.forest.distinct (child_within c x path child) h))

    apart_new : (j : ℕ) → s.next ≤ j → Apart s.trees target j
    apart_new j high = not_in (count_of (tree_of s.trees j) target) (λ h. (let low = is.forest.below j (root_there s.trees j target h) in omega (arith, low, high)))

    end_self : IsWithin s.trees end end
    end_self = within_self s.trees end is.forest.distinct end_there

    fits : AllOf (Fits IsCopy (Apart s.trees target) (λ _. Unit {0})) (tail_of s from end target)
    fits =
        tail_fits IsCopy (Apart s.trees target) (λ _. Unit {0}) s.trees is.forest.distinct s.next from (λ c. IsWithin s.trees end c) (λ c k path child _. child_within c k path child) apart_child (λ k _. is_copy s.trees is.forest.nodes k)
        apart_new (λ _ _. tt) (document_size s.trees) end target s.next end_self tt (omega arith)

-- ---- a node of the document stays in it, or goes below the target

abbrev Holds : State → ℕ → ℕ → Type 0
Holds u d l = IsWithin u.trees 0 l ⊎ IsWithin u.trees d l

holds_insert : (u : State) (d x l : ℕ) → IsValid u → is_made_edit (Insert d None x) (freed u) ≡ true → Holds u x l → Holds (applied (Insert d None x) u) d l
unfolding applied with_change changed trees_after is_made_edit
holds_insert u d x l is may h =
    let can = (inserts (freed u) d None x may).can in
    elim h [
      | inl inside ↦ inl (within-link u.trees u.next is.forest d None x l can inside)
      | inr held ↦ inr (holds-link u.trees d None x l is.forest.distinct can held)
    ]

-- a removal and the insertion after it
holds_pair : (u : State) (d x l : ℕ) → IsValid u → is_made_edit (Remove x) (freed u) ≡ true → is_made_edit (Insert d None x) (freed (applied (Remove x) u)) ≡ true → Holds u d l → Holds (applied (Insert d None x) (applied (Remove x) u)) d l
unfolding applied with_change changed trees_after is_made_edit
holds_pair u d x l is may_remove may_insert h =
    let f = u.trees in
    let once = is.forest.distinct in
    let t = removes (freed u) x may_remove in
    let loose = valid_applied (Remove x) u is may_remove in
    let can = (inserts (freed (applied (Remove x) u)) d None x may_insert).can in
    let same : tree_of (applied (Remove x) u).trees x ≡ tree_of f x = tree_of-unlink f t.from x once t.child in
    elim (none_or_some (count_of (tree_of f x) l)) [
      | inr held ↦ inr (holds-link (applied (Remove x) u).trees d None x l loose.forest.distinct can (subst (λ g. 0 < count_of g l) (sym same) held))
      | inl off ↦ elim h [
        | inl inside ↦ inl (within-link (applied (Remove x) u).trees u.next loose.forest d None x l can (within-unlink f u.next is.forest t.from x l t.child off inside))
        | inr below ↦ (
            let out : count_of (tree_of f x) d ≡ 0 = ap (λ g. count_of g d) (sym same) ∙ can.apart in
            let off' : count_of (tree_of (applied (Remove x) u).trees x) l ≡ 0 = ap (λ g. count_of g l) same ∙ off in
            inr (stays-link (applied (Remove x) u).trees d None x d l can.apart off' (stays-unlink f t.from x d l once t.child out off below)))
      ]
    ]

holds_carried : (d : ℕ) (xs : List ℕ) (u : State) (l : ℕ) → IsValid u → are_possible (carried d xs) u ≡ true → Holds u d l → Holds (stepped_all (carried d xs) u) d l
unfolding carried stepped_all stepped are_possible
holds_carried d [] u l is may h = h
holds_carried d (x ∷ xs) u l is may h =
    let p1 = and_parts (is_made_edit (Remove x) (freed u)) _ may in
    let v = applied (Remove x) u in
    let p2 = and_parts (is_made_edit (Insert d None x) (freed v)) _ p1.1 in
    let w = applied (Insert d None x) v in
    let is_v = valid_applied (Remove x) u is p1.0 in
    holds_carried d xs w l (valid_applied (Insert d None x) v is_v p2.0) p2.1 (holds_pair u d x l is p1.0 p2.0 h)

stepped-append : (xs ys : List Step) (u : State) → stepped_all (xs ++ ys) u ≡ stepped_all ys (stepped_all xs u)
unfolding stepped_all
stepped-append [] ys u = refl
stepped-append (x ∷ xs) ys u = stepped-append xs ys (stepped x u)

possible-append : (xs ys : List Step) (u : State) → are_possible (xs ++ ys) u ≡ true → (are_possible xs u ≡ true) × (are_possible ys (stepped_all xs u) ≡ true)
unfolding stepped_all are_possible
possible-append [] ys u h = (refl, h)
possible-append (Copy c ∷ xs) ys u h = possible-append xs ys (stepped (Copy c) u) h
possible-append (Do e ∷ xs) ys u h =
    let p = and_parts (is_made_edit e (freed u)) _ h in
    let q = possible-append xs ys (stepped (Do e) u) p.1 in
    (rw p.0 q.0, q.1)

module _ (f : Forest Content) (once : IsDistinct f) (nodes : AreNodes f) (from : Point) (l : ℕ) where
  plain : (fuel c d n : ℕ) → AllOf (Fits IsCopy (λ _. Unit {0}) (λ _. Unit {0})) (tail_steps fuel f from c d n)
  plain fuel c d n = tail_fits IsCopy (λ _. Unit {0}) (λ _. Unit {0}) f once 0 from (λ _. Unit {0}) (λ _ _ _ _ _. tt) (λ _ _ _ _. tt) (λ k _. is_copy f nodes k) (λ _ _. tt) (λ _ _. tt) fuel c d n tt tt (omega arith)

  abbrev Inner : ℕ → ℕ → Type 0
  Inner fuel n = (k : ℕ) (v : State) → IsValid v → are_possible (tail_steps fuel f from k n (n + 1)) v ≡ true → v.next ≡ n + 1 → IsWithin v.trees 0 l → Holds (stepped_all (tail_steps fuel f from k n (n + 1)) v) n l

  holds_tail : (fuel c d n : ℕ) (u : State) → IsValid u → are_possible (tail_steps fuel f from c d n) u ≡ true → u.next ≡ n → IsWithin u.trees 0 l → Holds (stepped_all (tail_steps fuel f from c d n) u) d l
  unfolding tail_steps stepped_all stepped are_possible made
  holds_tail zero c d n u is may next inside = inl inside
  holds_tail (suc fuel) c d n u is may next inside = elim (cases_Bool (eqb from.label c)) [
    | inl t ↦ (let may' = rw t at may in rw t (holds_carried d (drop from.offset (children_of f c)) u l is may' (inl inside)))
    | inr t ↦ (let may' = rw t at may in rw t (toward (λ k v is_v may_v next_v in_v. holds_tail fuel k n (n + 1) v is_v may_v next_v in_v) (child_toward f c from.label) may'))
  ]
    where
      toward : Inner fuel n → (o : Option ℕ) → are_possible (option_map_or (λ k. Copy (copy_of f k) ∷ (tail_steps fuel f from k n (n + 1) ++ (Do (Insert d None n) ∷ carried d (later (children_of f c) k)))) o []) u ≡ true → Holds (stepped_all (option_map_or (λ k. Copy (copy_of f k) ∷ (tail_steps fuel f from k n (n + 1) ++ (Do (Insert d None n) ∷ carried d (later (children_of f c) k)))) o []) u) d l
      toward inner None may = inl inside
      toward inner (Some k) may =
          let xs = tail_steps fuel f from k n (n + 1) in
          let ys = carried d (later (children_of f c) k) in
          let v = made (copy_of f k) u in
          let is_v = valid_copied (copy_of f k) u (is_copy f nodes k) is in
          let parts = possible-append xs (Do (Insert d None n) ∷ ys) v may in
          let w = stepped_all xs v in
          let is_w = valid_steps xs v (plain fuel k n (n + 1)) parts.0 is_v in
          let tests = and_parts (is_made_edit (Insert d None n) (freed w)) _ parts.1 in
          let held = inner k v is_v parts.0 (ap (λ j. j + 1) next) (within-with_leaf u.trees u.next is.forest u.next l (copy_of f k) inside) in
          let put = holds_insert w d n l is_w tests.0 held in
          subst (λ z. Holds z d l) (sym (stepped-append xs (Do (Insert d None n) ∷ ys) v))
          (holds_carried d (later (children_of f c) k) (applied (Insert d None n) w) l (valid_applied (Insert d None n) w is_w tests.0) tests.1 put)

-- ---- the action

pub document_extracted : (from : Point) (end target : ℕ) (s : State) (l : ℕ) → IsValid s → IsWithin s.trees 0 l → IsWithin (extracted from end target s).trees 0 l
unfolding tail_of
document_extracted from end target s l is inside =
    either_extracted (λ u. IsWithin u.trees 0 l) from end target s
    (λ may. (
    let xs = tail_of s from end target in
    let tests = extract_tests s from end target may in
    let u = stepped_all xs s in
    let is_u = valid_steps xs s (plain s.trees is.forest.distinct is.forest.nodes from l (document_size s.trees) end target s.next) (tail_possible s is from end target may) is in
    elim (holds_tail s.trees is.forest.distinct is.forest.nodes from l (document_size s.trees) end target s.next s is (tail_possible s is from end target may) refl inside) [
      | inl still ↦ still
      | inr below ↦ within_trans u.trees 0 target l is_u.forest.distinct (target_stays s is from end target may) below
    ]))
    inside

pub tail_stays : (s : State) (from : Point) (end target l : ℕ) → IsValid s → IsWithin s.trees 0 l → IsWithin (acted (Extract from end target) s).trees 0 l
unfolding acted
tail_stays s from end target l is inside = document_extracted from end target s l is inside
