-- The tests on edits, by what they ask.
use Rattle.std.proofs.Common.{◌≡◌, ℕ, Bool, true, false, Option, Some, None, refl, sym, ap, ◌∙◌, eqb}
use Rattle.std.specs.Prelude.{◌&&◌, ◌||◌, not, is_none}
use Rattle.edit_model.specs.DomModel.declared.Content.{Content}
use Rattle.edit_model.specs.DomModel.Contents.{is_parent_at}
use Rattle.edit_model.specs.DomModel.Forest.{Forest, is_label, parent_of, next_of}
use Rattle.edit_model.specs.NodeArena.declared.NodeRef.{NodeRef}
use Rattle.edit_model.specs.PointOrder.PointOrder.{is_within, is_in_document}
use Rattle.edit_model.specs.Confined.{is_open, is_place, may_go, may_insert, stands_so}
use Rattle.edit_model.specs.Gives.{label_of}
use Rattle.edit_doc.specs.Whole.{Whole}
use Rattle.edit_doc.specs.Held.{Holds}
use Rattle.edit_doc.specs.History.{other}
use Rattle.edit_doc.proofs.Confining.{same_label, other_label}
use Rattle.edit_doc.proofs.HiddenTrees.{true_lt}

abbrev pub taken : Whole → ℕ → Option ℕ → ℕ → Bool
taken v p b n = is_parent_at v.state.trees p && (not (is_within v.state.trees n p) && is_place v.state.trees p b n)

regroup : (a b c d : Bool) → (a && (b && (c && d))) ≡ ((a && (b && c)) && d)
regroup true true c d = refl
regroup true false c d = refl
regroup false b c d = refl

never : (a b : Bool) → (a && (false && b)) ≡ false
never true b = refl
never false b = refl

module _ (v : Whole) (p : ℕ) (b : Option ℕ) (node : NodeRef) (holds : Holds v node) where
  insert_is : may_insert v.state p b node.label ≡ (not (eqb node.label 0) && (is_none (parent_of v.state.trees node.label) && (taken v p b node.label && is_open v.state p)))
  unfolding may_insert
  insert_is =
      ap (λ x. x && (not (eqb node.label 0) && (is_none (parent_of v.state.trees node.label) && (is_parent_at v.state.trees p && (not (is_within v.state.trees node.label p) && (is_place v.state.trees p b node.label && is_open v.state p)))))) (true_lt 0 _ holds.here)
      ∙ ap (λ x. not (eqb node.label 0) && (is_none (parent_of v.state.trees node.label) && x)) (regroup (is_parent_at v.state.trees p) (not (is_within v.state.trees node.label p)) (is_place v.state.trees p b node.label) (is_open v.state p))

  pub insert_zero : node.label ≡ 0 → may_insert v.state p b node.label ≡ false
  insert_zero e = insert_is ∙ ap (λ x. not x && (is_none (parent_of v.state.trees node.label) && (taken v p b node.label && is_open v.state p))) (same_label node.label 0 e)

  pub insert_child : (q : ℕ) → parent_of v.state.trees node.label ≡ Some q → may_insert v.state p b node.label ≡ false
  insert_child q up =
      insert_is ∙ (ap (λ o. not (eqb node.label 0) && (is_none o && (taken v p b node.label && is_open v.state p))) up ∙ never (not (eqb node.label 0)) (taken v p b node.label && is_open v.state p))

  pub insert_loose : (node.label ≡ 0 → ⊥) → parent_of v.state.trees node.label ≡ None → may_insert v.state p b node.label ≡ (taken v p b node.label && is_open v.state p)
  insert_loose other up =
      insert_is ∙ (ap (λ x. not x && (is_none (parent_of v.state.trees node.label) && (taken v p b node.label && is_open v.state p))) (other_label node.label 0 other)
      ∙ ap (λ o. is_none o && (taken v p b node.label && is_open v.state p)) up)

pub so_none : (f : Forest Content) (n o p : ℕ) (before : Option NodeRef) (q : Option ℕ) → before ≡ None → o ≡ p → next_of f n ≡ q → stands_so f n o p (label_of before) ≡ is_none q
so_none f n o p before q e same next =
    ap (λ r. stands_so f n o p (label_of r)) e ∙ (ap (λ x. x && is_none (next_of f n)) (same_label o p same) ∙ ap (λ r. is_none r) next)

pub so_some : (f : Forest Content) (n o p : ℕ) (before : Option NodeRef) (b : NodeRef) (q : Option ℕ) → before ≡ Some b → o ≡ p → next_of f n ≡ q → stands_so f n o p (label_of before) ≡ is_label q b.label
so_some f n o p before b q e same next =
    ap (λ r. stands_so f n o p (label_of r)) e ∙ (ap (λ x. x && is_label (next_of f n) b.label) (same_label o p same) ∙ ap (λ r. is_label r b.label) next)

pub leave_so : (opens own keep bears r : Bool) → opens ≡ true → own ≡ true → not keep ≡ false → r ≡ bears → r ≡ (opens && (own && (not keep || bears)))
leave_so opens own keep bears r a b c e = e ∙ sym (λ i. a i && (b i && (c i || bears)))

pub or_right : (a b : Bool) → b ≡ true → (a || b) ≡ true
or_right true b e = refl
or_right false b e = e

pub first_false : (a b : Bool) → a ≡ false → (a && b) ≡ false
first_false a b e = ap (λ x. x && b) e

pub second_false : (a b c : Bool) → b ≡ false → (a && (b && c)) ≡ false
second_false a b c e = ap (λ x. a && (x && c)) e ∙ never a c

pub third_false : (a b c d : Bool) → c ≡ false → (a && (b && (c && d))) ≡ false
third_false true b c d e = second_false b c d e
third_false false b c d e = refl

pub three_true : (a b c d : Bool) → a ≡ true → b ≡ true → c ≡ true → (a && (b && (c && d))) ≡ d
three_true a b c d x y z = λ i. x i && (y i && (z i && d))

-- the test on a move
pub go_out : (opens other a b c x s : Bool) → x ≡ false → (opens && (other && (a && (b && (c && (x && s)))))) ≡ false
go_out true true true true true x s e = ap (λ y. y && s) e
go_out true true true true false x s e = refl
go_out true true true false c x s e = refl
go_out true true false b c x s e = refl
go_out true false a b c x s e = refl
go_out false other a b c x s e = refl

pub go_so : (opens other a b c x s r : Bool) → opens ≡ true → other ≡ true → (a && (b && c)) ≡ true → x ≡ true → r ≡ s → not r ≡ (opens && (other && (a && (b && (c && (x && not s))))))
go_so opens other a b c x s r h k t y e =
    ap not e ∙ sym (ap (λ z. opens && (other && z)) (regroup a b c (x && not s)) ∙ (λ i. h i && (k i && (t i && (y i && not s)))))

module _ (v : Whole) (n o p : ℕ) (b : Option ℕ) where
  abbrev pub stays_in : Bool
  stays_in = not (is_in_document v.state.trees n) || is_in_document v.state.trees p

  pub go_away : stays_in ≡ false → may_go v.state n (Some o) p b ≡ false
  go_away e = go_out (is_open v.state o) (is_open v.state p) (is_parent_at v.state.trees p) (not (is_within v.state.trees n p)) (is_place v.state.trees p b n) stays_in (not (stands_so v.state.trees n o p b)) e

  pub go_there : (r : Bool) → is_open v.state o ≡ true → is_open v.state p ≡ true → taken v p b n ≡ true → stays_in ≡ true → r ≡ stands_so v.state.trees n o p b → not r ≡ may_go v.state n (Some o) p b
  go_there r h k t y e = go_so (is_open v.state o) (is_open v.state p) (is_parent_at v.state.trees p) (not (is_within v.state.trees n p)) (is_place v.state.trees p b n) stays_in (stands_so v.state.trees n o p b) r h k t y e
