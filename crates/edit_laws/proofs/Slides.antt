-- A move that keeps the order, as one fact: the children of one node become others that bear the same.
use Rattle.std.proofs.Common.{◌≡◌, ◌≢◌, ℕ, ◌+◌, ◌<◌, zero, suc, Bool, true, false, ◌&&◌, ◌||◌, not, cond, eqb, List, [], ◌∷◌, Option, Some, None, refl, sym, ap, subst, ◌∙◌, arith, true≢false, nat_lt}
use Rattle.std.proofs.lemmas.Bool.{ne_eqb, eq-eqb, lt-ltb}
use Rattle.edit_model.specs.DomModel.declared.Content.{Content}
use Rattle.edit_model.specs.DomModel.Contents.{is_parent_at}
use Rattle.edit_model.specs.DomModel.Forest.{Forest, Seen, times, count_of, IsDistinct, IsWithin, seek, parent_of, tree_of, without, put_under, unlink}
use Rattle.edit_model.specs.DomModel.Forest.Forest.{Tree}
use Rattle.edit_model.proofs.DomModel.Totals.{total-without}
use Rattle.edit_model.proofs.DomModel.Links.{parent_count}
use Rattle.edit_model.proofs.DomModel.Move.{tree_of-unlink, parent_apart}
use Rattle.edit_model.proofs.DomModel.Within.{within_self, within_child, within_step}
use Rattle.edit_model.specs.State.{State}
use Rattle.edit_model.specs.Kept.{leaves}
use Rattle.edit_model.specs.Confined.{is_open, is_place, stands_so, may_go, may_move}
use Rattle.edit_model.specs.PointOrder.PointOrder.{is_within, is_in_document}
use Rattle.edit_model.specs.Edit.{Move, is_made_edit, trees_after, edited}
use Rattle.edit_model.specs.History.{document_of}
use Rattle.edit_model.specs.Valid.{IsValid}
use Rattle.edit_model.specs.Run.{Run, final, for_each}
use Rattle.edit_model.proofs.Documents.{document-link, document-unlink}
use Rattle.edit_model.proofs.Forests.{forest-unlink, can_go}
use Rattle.edit_model.proofs.Giving.{edited-left}
use Rattle.edit_model.proofs.IslandRuns.{trees_made}
use Rattle.edit_model.proofs.Resting.{seek_document}
use Rattle.edit_model.proofs.Steps.{final-bind, final-answer, for_each-cons, for_each-nil}
use Rattle.edit_model.proofs.Tests.{goes, parent_there}
use Rattle.edit_model.proofs.Trees.{tree_of-inside}
use Rattle.edit_laws.specs.Order.{KeepsOrder, IsKeeping}
use Rattle.edit_laws.proofs.Subsequences.{keeps_same}
use Rattle.edit_laws.proofs.QuietActions.{by_made}
use Rattle.edit_laws.proofs.Around.{Spot, fill, spot_other, spot_leaves, spot_seek, count-fill}

-- ---- the document

pub document_distinct : (f : Forest Content) → IsDistinct f → IsDistinct (tree_of f 0)
document_distinct f once = λ l. omega (arith, total-without (λ m _. cond (eqb m l) 1 0) f 0, once l)

pub document_moved : (s : State) → IsValid s → (n p : ℕ) (b : Option ℕ) → may_move s n p b ≡ true → tree_of (trees_after (Move n p b) s.trees) 0 ≡ put_under (without (tree_of s.trees 0) n) p b (tree_of s.trees n)
unfolding trees_after
document_moved s is n p b may =
    let f = s.trees in
    let t = goes s n p b may in
    let loose = forest-unlink f s.next is.forest t.from n t.child in
    let can = can_go f s.next is.forest t.from n p b t.child t.apart t.parent (parent_there f p t.parent) t.before in
    document-link (unlink f n) s.next loose p b n can
    ∙ (ap (λ g. put_under g p b (tree_of (unlink f n) n)) (document-unlink f s.next is.forest t.from n t.child)
    ∙ ap (λ g. put_under (without (tree_of f 0) n) p b g) (tree_of-unlink f t.from n is.forest.distinct t.child))

-- what a move gives that keeps the order
pub record Slide (s t : State) (q : ℕ) (kids : Forest Content) (made : Bool) : Type 0 where
  pub keeps : KeepsOrder s t
  pub moved : made ≡ true → Spot (document_of t.trees) q kids
  pub left : made ≡ false → t ≡ s

pub slide : (s : State) → IsKeeping s → (q : ℕ) (kids others : Forest Content) (spot : Spot (document_of s.trees) q kids) (n p : ℕ) (b : Option ℕ) → 0 < count_of kids n
    → put_under (without (document_of s.trees) n) p b (tree_of (document_of s.trees) n) ≡ fill spot.around (Tree q spot.content others spot.rest)
    → leaves others ≡ leaves kids → Slide s (edited (Move n p b) s) q others (may_move s n p b)
unfolding is_made_edit
slide s is q kids others spot n p b inside put same =
    let f = s.trees in
    let here : IsWithin f 0 n = (let e = ap (λ g. count_of g n) spot.is in omega (arith, e, count-fill spot.around (Tree q spot.content kids spot.rest) n, inside)) in
    let now : may_move s n p b ≡ true → tree_of (trees_after (Move n p b) f) 0 ≡ fill spot.around (Tree q spot.content others spot.rest) = λ may.
    document_moved s is.valid n p b may
    ∙ (ap (λ t. put_under (without (tree_of f 0) n) p b t) (sym (tree_of-inside f 0 n is.valid.forest.distinct here)) ∙ put) in
    record {
      keeps = by_made (Move n p b) s (λ may. keeps_same (tree_of f 0) (tree_of (trees_after (Move n p b) f) 0) (spot_leaves (tree_of f 0) (tree_of (trees_after (Move n p b) f) 0) q kids others spot (now may) same));
      moved = λ may. spot_other (tree_of f 0) _ q kids others spot (ap (λ g. tree_of g 0) (trees_made (Move n p b) s may) ∙ now may);
      left = λ off. edited-left (Move n p b) s off;
    }

-- ---- look-ups in the document

pub found_below : (s : State) → IsValid s → (q : ℕ) (kids : Forest Content) (spot : Spot (document_of s.trees) q kids) (l : ℕ) (seen : Seen Content) → 0 < count_of kids l → seek (Some q) kids l ≡ Some seen → seek None s.trees l ≡ Some seen
found_below s is q kids spot l seen h e =
    seek_document s.trees s.next l seen is.forest (spot_seek (tree_of s.trees 0) (document_distinct s.trees is.forest.distinct) q kids spot l h ∙ e)

-- ---- when a move is left out

module _ (f : Forest Content) (once : IsDistinct f) where
  -- a parent isn't the child
  pub parent_other : (n o : ℕ) → parent_of f n ≡ Some o → o ≢ n
  parent_other n o child e = parent_apart f n o once child (subst (λ k. IsWithin f n k) (sym e) (within_self f n once (parent_count f n o once child).0))

  pub not_within_above : (n o q : ℕ) → parent_of f n ≡ Some o → parent_of f o ≡ Some q → IsWithin f n q → ⊥
  not_within_above n o q child up h =
      parent_apart f n o once child (within_child f n once (parent_count f n o once child).0 o q up h)

  pub not_within_beside : (n q x : ℕ) → parent_of f n ≡ Some q → parent_of f x ≡ Some q → n ≢ x → IsWithin f n x → ⊥
  not_within_beside n q x child beside off h =
      parent_apart f n q once child (within_step f n once (parent_count f n q once child).0 x q off beside h)

  pub not_within_cousin : (n o q x : ℕ) → parent_of f n ≡ Some o → parent_of f o ≡ Some q → parent_of f x ≡ Some q → IsWithin f n x → ⊥
  not_within_cousin n o q x child up beside h =
      let off : n ≢ x = λ e. (let k : Some o ≡ Some q = sym child ∙ (ap (parent_of f) e ∙ beside) in let same : o ≡ q = (let k' = k in cc) in parent_other o q up (sym same)) in
      not_within_above n o q child up (within_step f n once (parent_count f n o once child).0 x q off beside h)

-- a node that goes to another parent goes where both are open and the other one may have children, and nowhere else
pub goes_where_open : (s : State) (n o p : ℕ) (b : Option ℕ) → parent_of s.trees n ≡ Some o → (IsWithin s.trees n p → ⊥) → is_place s.trees p b n ≡ true → IsWithin s.trees 0 p → o ≢ p → may_move s n p b ≡ (is_open s o && (is_open s p && is_parent_at s.trees p))
unfolding may_move
goes_where_open s n o p b child apart place inside off =
    ap (λ k. may_go s n k p b) child ∙ rw (not_in (is_within s.trees n p) refl, place, in_there) (by_stands b (is_in_document s.trees n) (is_open s o) (is_open s p) (is_parent_at s.trees p))
  where
    not_in : (v : Bool) → is_within s.trees n p ≡ v → is_within s.trees n p ≡ false
    not_in false e = e
    not_in true e = absurd (apart (by_count (count_of (tree_of s.trees n) p) e))
      where
        by_count : (k : ℕ) → nat_lt 0 k ≡ true → 0 < k
        by_count zero t = absurd (true≢false (sym t))
        by_count (suc k) t = omega arith

    in_there : is_in_document s.trees p ≡ true
    in_there = lt-ltb 0 (count_of (tree_of s.trees 0) p) inside

    by_stands : (b : Option ℕ) (u x y z : Bool) → (x && (y && (z && (true && (true && ((not u || true) && not (stands_so s.trees n o p b))))))) ≡ (x && (y && z))
    by_stands None u x y z = rw (ne_eqb o p off) (all u x y z)
      where
        all : (u x y z : Bool) → (x && (y && (z && (true && (true && ((not u || true) && true)))))) ≡ (x && (y && z))
        all true true true true = refl
        all true true true false = refl
        all true true false z = refl
        all true false y z = refl
        all false true true true = refl
        all false true true false = refl
        all false true false z = refl
        all false false y z = refl
    by_stands (Some m) u x y z = rw (ne_eqb o p off) (all u x y z)
      where
        all : (u x y z : Bool) → (x && (y && (z && (true && (true && ((not u || true) && true)))))) ≡ (x && (y && z))
        all true true true true = refl
        all true true true false = refl
        all true true false z = refl
        all true false y z = refl
        all false true true true = refl
        all false true true false = refl
        all false true false z = refl
        all false false y z = refl

-- a loop of runs that do nothing does nothing
pub each_stays : (list : List ℕ) (turn : ℕ → Run (Unit {0})) (s : State) → ((n : ℕ) → 0 < times list n → final (turn n) s ≡ s) → final (for_each list turn) s ≡ s
each_stays [] turn s stays = rw (for_each-nil, final-answer) refl
each_stays (n ∷ list) turn s stays =
    let first : final (turn n) s ≡ s = stays n (let one : 0 < cond (eqb n n) 1 0 + times list n = rw (eq-eqb n n refl) (omega arith) in one) in
    rw (for_each-cons, final-bind, first) (each_stays list turn s (λ m h. stays m (omega (arith, h))))
