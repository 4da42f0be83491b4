-- How many levels a forest has by its roots, and after a line.
use Rattle.std.proofs.Common.{◌≡◌, ℕ, ◌+◌, ◌<◌, ◌≤◌, ◌^◌, max, true, false, cond, List, Option, Some, None, unwrap_or, Result, Ok, Err, refl, sym, ap, subst, ◌∙◌, inl, inr, arith}
use Rattle.std.specs.Prelude.{nat_lt, nat_le}
use Rattle.std.proofs.lemmas.Bool.{le-leb, lt-leb}
use Rattle.std.proofs.lemmas.Bool.Decides.{eqb_tells}
use Rattle.page_grammar.specs.DomModel.declared.attributes.Attribute.{Attribute}
use Rattle.page_grammar.specs.DomModel.declared.Content.{Content}
use Rattle.page_grammar.specs.DomModel.Contents.{with_chars, with_attributes}
use Rattle.page_grammar.specs.DomModel.Forest.{Forest, join, tree_of, without, count_of, IsDistinct, parent_of, put_rising, put_under, link, unlink, with_leaf, depth_of}
use Rattle.page_grammar.specs.DomModel.Forest.Forest.{Nil, Tree}
use Rattle.page_grammar.specs.DomModel.Places.{levels}
use Rattle.page_grammar.specs.DomModel.ArenaState.{ArenaState, IsValid}
use Rattle.page_grammar.proofs.DomModel.DropTree.{without-unlink}
use Rattle.page_grammar.proofs.DomModel.Heights.{levels-link, levels-revised, levels_low, levels_within}
use Rattle.page_grammar.proofs.DomModel.Links.{eqb_refl_true, tree_of_absent}
use Rattle.page_grammar.proofs.DomModel.Move.{tree_of-unlink}
use Rattle.page_grammar.proofs.DomModel.Stands.{seek_absent}
use Rattle.edit_steps.specs.declared.step.Step.{Step}
use Rattle.edit_steps.specs.Step.{change_of, step_applied}
use Rattle.edit_parts.specs.EditModel.Heights.{reach_of}
use Rattle.edit_steps.specs.ForestChanges.Change.{applied}
use Rattle.edit_steps.proofs.ForestChanges.Twice.{given_parent}
use Rattle.edit_steps.specs.NodeArena.Held.{label}
use Rattle.edit_parts.specs.PointOrder.PointOrder.{is_in_document}
use Rattle.step_text.specs.declared.apply.Origin.{Origin}
use Rattle.step_text.specs.declared.apply.Origin.TheVariants.{Loose, Child}
use Rattle.step_text.specs.declared.apply.Placing.{Placing}
use Rattle.step_text.specs.declared.line.Made.{Made}
use Rattle.step_text.specs.declared.line.StepFault.{StepFault}
use Rattle.step_text.specs.declared.line.StepLine.{StepLine}
use Rattle.step_text.specs.declared.line.StepLine.TheVariants.{Make, Remove, Words, Tag}
use Rattle.step_text.specs.Applying.{Labelled, has_room_under, made_content, trees_after, line_applied}
use Rattle.step_text.specs.Planning.{Applies, StaysWithin, comes_from, step_to}

module _ {C : Type 0} where
  -- ---- the levels by the roots

  pub levels_by_roots : (f : Forest C) (most : ℕ) → IsDistinct f → ((l : ℕ) → 0 < count_of f l → parent_of f l ≡ None → levels (tree_of f l) ≤ most) → levels f ≤ most
  levels_by_roots Nil most once all = omega arith
  levels_by_roots (Tree m c ks rest) most once all =
      both (levels ks) (levels rest) own (levels_by_roots rest most (λ l. omega (arith, once l)) others)
    where
      both : (i j : ℕ) → max (i + 1) 0 ≤ most → j ≤ most → max (i + 1) j ≤ most
      both i j h g = grind arith

      own : max (levels ks + 1) 0 ≤ most
      own = (let h = all m in let h' = rw (eqb_refl_true m) at h in h' (omega arith) refl)

      others : (l : ℕ) → 0 < count_of rest l → parent_of rest l ≡ None → levels (tree_of rest l) ≤ most
      others l here root =
          elim (eqb_tells m l) [
            | inl (same, _) ↦ absurd (let once' = once l in let few = rw same at once' in omega (arith, few, here))
            | inr (off, _) ↦ (
                let once' = once l in
                let few = rw off at once' in
                let none : count_of ks l ≡ 0 = omega (arith, few, here) in
                let h = all l in
                let h' = rw (off, seek_absent (Some m) ks l none, tree_of_absent ks l none) at h in
                h' (omega (arith, here)) root)
          ]

  -- ---- the levels of parts

  tree_within : (f : Forest C) (n : ℕ) → IsDistinct f → levels (tree_of f n) ≤ levels f
  tree_within f n once = (let h = levels_within f n once in part (levels (tree_of f n)) (levels f) (depth_of f n) h)
    where
      part : (i j x : ℕ) → i + x ≤ max x j → i ≤ j
      part i j x h = grind arith

  pub tree_below : (f : Forest C) (n most : ℕ) → IsDistinct f → levels f ≤ most → levels (tree_of f n) + depth_of f n ≤ max (depth_of f n) most
  tree_below f n most once low = (let h = levels_within f n once in part (levels (tree_of f n)) (levels f) (depth_of f n) h low)
    where
      part : (i j x : ℕ) → i + x ≤ max x j → j ≤ most → i + x ≤ max x most
      part i j x h g = grind arith

  joined : (f g : Forest C) → levels (join f g) ≤ max (levels f) (levels g)
  joined Nil g = grind arith
  joined (Tree m c ks rest) g = three (levels ks) (levels rest) (levels g) (levels (join rest g)) (joined rest g)
    where
      three : (i j k l : ℕ) → l ≤ max j k → max (i + 1) l ≤ max (max (i + 1) j) k
      three i j k l h = grind arith

  taken_out : (f : Forest C) (n : ℕ) → levels (without f n) ≤ levels f
  taken_out Nil n = omega arith
  taken_out (Tree m c ks rest) n =
      elim (eqb_tells m n) [
        | inl (same, _) ↦ rw same (last (levels ks) (levels rest))
        | inr (off, _) ↦ rw off (both (levels (without ks n)) (levels ks) (levels (without rest n)) (levels rest) (taken_out ks n) (taken_out rest n))
      ]
    where
      last : (i j : ℕ) → j ≤ max (i + 1) j
      last i j = grind arith

      both : (i j k l : ℕ) → i ≤ j → k ≤ l → max (i + 1) k ≤ max (j + 1) l
      both i j k l h g = grind arith

  rising : (f : Forest C) (n : ℕ) (t : Forest C) → levels (put_rising f n t) ≤ max (levels f) (levels t)
  rising Nil n t = grind arith
  rising (Tree m c ks rest) n t =
      elim (nat_lt n m) as (λ v. levels (cond v (join t (Tree m c ks rest)) (Tree m c ks (put_rising rest n t))) ≤ max (levels (Tree m c ks rest)) (levels t)) [
        | true ↦ swapped (levels (join t (Tree m c ks rest))) (levels t) (max (levels ks + 1) (levels rest)) (joined t (Tree m c ks rest))
        | false ↦ more (levels ks) (levels rest) (levels t) (levels (put_rising rest n t)) (rising rest n t)
      ]
    where
      swapped : (i j k : ℕ) → i ≤ max j k → i ≤ max k j
      swapped i j k h = grind arith

      more : (i j k l : ℕ) → l ≤ max j k → max (i + 1) l ≤ max (max (i + 1) j) k
      more i j k l h = grind arith

  loosened : (f : Forest C) (n : ℕ) → IsDistinct f → levels (unlink f n) ≤ levels f
  loosened f n once = high (levels (unlink f n)) (levels (without f n)) (levels (tree_of f n)) (levels f) (rising (without f n) n (tree_of f n)) (taken_out f n) (tree_within f n once)
    where
      high : (l i j k : ℕ) → l ≤ max i j → i ≤ k → j ≤ k → l ≤ k
      high l i j k h g g' = grind arith

  some_levels : (f : Forest C) (l : ℕ) → 0 < count_of f l → 0 < levels f
  some_levels Nil l here = absurd (omega (arith, here))
  some_levels (Tree m c ks rest) l here = one (levels ks) (levels rest)
    where
      one : (i j : ℕ) → 0 < max (i + 1) j
      one i j = grind arith

  with_leaf_low : (f : Forest C) (l : ℕ) (c : C) → 0 < levels f → levels (with_leaf f l c) ≤ levels f
  with_leaf_low f l c some = high (levels (with_leaf f l c)) (levels f) (joined f (Tree l c Nil Nil)) some
    where
      high : (i j : ℕ) → i ≤ max j (max (0 + 1) 0) → 0 < j → i ≤ j
      high i j h g = grind arith

-- ---- the nodes of an arena

pub any_levels : (a : ArenaState) → IsValid a → levels a.trees < 2 ^ 32
any_levels a law = omega (arith, levels_low a.trees, law.few, law.capped, law.small)

pub any_tree : (a : ArenaState) (n : ℕ) → IsValid a → levels (tree_of a.trees n) < 2 ^ 32
any_tree a n law = omega (arith, tree_within a.trees n law.distinct, any_levels a law)

-- ---- the levels after a line

-- the tree of a child goes elsewhere as a loose one does
moved_as_linked : (f : Forest Content) (o p : ℕ) (b : Option ℕ) (n : ℕ) → IsDistinct f → parent_of f n ≡ Some o → link (unlink f n) p b n ≡ link f p b n
moved_as_linked f o p b n once child =
    ap (λ (t : Forest Content). put_under (without (unlink f n) n) p b t) (tree_of-unlink f o n once child)
    ∙ ap (λ (g : Forest Content). put_under g p b (tree_of f n)) (without-unlink f o n once child)

-- a line under which the nodes have no more levels than before
applied_low : {A : Type 0} (x : StepLine) (a now : ArenaState) (r : Result A StepFault) (most : ℕ) → levels (trees_after x a.trees) ≤ levels a.trees → Applies x a now r → levels a.trees ≤ most → levels now.trees ≤ most
unfolding line_applied
applied_low x a now (Ok value) most less h low =
    let is : now.trees ≡ trees_after x a.trees = ap (λ (d : Labelled). d.trees) h.applied in
    rw is (omega (arith, less, low))
applied_low x a now (Err fault) most less h low = subst (λ (s : ArenaState). levels s.trees ≤ most) (sym h.err) low

module _ {A : Type 0} (a : ArenaState) (law : IsValid a) (now : ArenaState) (r : Result A StepFault) (most : ℕ) where
  pub removed_low : (l : ℕ) → Applies (Remove l) a now r → levels a.trees ≤ most → levels now.trees ≤ most
  unfolding trees_after applied
  removed_low l h low = applied_low (Remove l) a now r most (loosened a.trees l law.distinct) h low

  pub words_low : (l : ℕ) (words : List ℕ) → Applies (Words l words) a now r → levels a.trees ≤ most → levels now.trees ≤ most
  unfolding trees_after applied
  words_low l words h low = applied_low (Words l words) a now r most (let e = levels-revised a.trees l (with_chars words) in omega (arith, e)) h low

  pub tag_low : (l : ℕ) (name : List ℕ) (list : List Attribute) → Applies (Tag l name list) a now r → levels a.trees ≤ most → levels now.trees ≤ most
  unfolding trees_after applied
  tag_low l name list h low = applied_low (Tag l name list) a now r most (let e = levels-revised a.trees l (with_attributes list) in omega (arith, e)) h low

  pub made_low : (l : ℕ) (made : Made) → Applies (Make l made) a now r → levels a.trees ≤ most → levels now.trees ≤ most
  unfolding trees_after
  made_low l made h low = applied_low (Make l made) a now r most (with_leaf_low a.trees l (made_content made) (some_levels a.trees 0 law.document)) h low

module _ (a : ArenaState) (law : IsValid a) where
  -- a tree comes to stand under p
  linked_low : (p : ℕ) (b : Option ℕ) (n most : ℕ) → levels a.trees ≤ most → reach_of p n a.trees < most → levels (link a.trees p b n) ≤ most
  linked_low p b n most low reach = high (levels (link a.trees p b n)) (levels a.trees) (depth_of a.trees p) (levels (tree_of a.trees n)) (levels-link a.trees p b n law.distinct) low reach
    where
      high : (l i j k : ℕ) → l ≤ max i (j + 1 + k) → i ≤ most → j + k < most → l ≤ most
      high l i j k h g g' = grind arith

  pub placed_low : (o : Origin) (at : Placing) (most : ℕ) → comes_from o a.trees at.node.label ≡ true → levels a.trees ≤ most → reach_of at.parent.label at.node.label a.trees < most → levels (applied (change_of (step_to o at)) a.trees) ≤ most
  unfolding applied
  placed_low Loose at most from low reach = linked_low at.parent.label (label at.before) at.node.label most low reach
  placed_low Child at most from low reach =
      let child = given_parent a.trees at.node.label from in
      subst (λ f. levels f ≤ most) (sym (moved_as_linked a.trees (unwrap_or (parent_of a.trees at.node.label) 0) at.parent.label (label at.before) at.node.label law.distinct child))
      (linked_low at.parent.label (label at.before) at.node.label most low reach)

-- a planned step is applied
pub step_within : (planned : Result Step StepFault) (step : Step) (a now : ArenaState) (most : ℕ) → planned ≡ Ok step → now ≡ step_applied step a → StaysWithin most planned a.trees → levels now.trees ≤ most
unfolding step_applied
step_within planned step a now most is becomes low =
    subst (λ (s : ArenaState). levels s.trees ≤ most) (sym becomes) (subst (λ (r : Result Step StepFault). StaysWithin most r a.trees) is low)

-- no step is
pub none_within : (planned : Result Step StepFault) (fault : StepFault) (f : Forest Content) (most : ℕ) → planned ≡ Err fault → levels f ≤ most → StaysWithin most planned f
none_within planned fault f most is low = subst (λ (r : Result Step StepFault). StaysWithin most r f) (sym is) low

pub still_within : (planned : Result Step StepFault) (fault : StepFault) (f : Forest Content) (most : ℕ) → planned ≡ Err fault → StaysWithin most planned f → levels f ≤ most
still_within planned fault f most is low = subst (λ (r : Result Step StepFault). StaysWithin most r f) is low

-- ---- room

module _ (f : Forest Content) (l p : ℕ) where
  pub room_outside : is_in_document f p ≡ false → has_room_under f l p ≡ true
  unfolding has_room_under
  room_outside off = rw off refl

  pub room_within : reach_of p l f ≤ 1000 → has_room_under f l p ≡ true
  unfolding has_room_under
  room_within low = elim (is_in_document f p) as (λ v. cond v (nat_le (reach_of p l f) 1000) true ≡ true) [
    | true ↦ le-leb (reach_of p l f) 1000 low
    | false ↦ refl
  ]

  pub no_room : is_in_document f p ≡ true → 1000 < reach_of p l f → has_room_under f l p ≡ false
  unfolding has_room_under
  no_room inside high = rw inside (lt-leb (reach_of p l f) 1000 high)
