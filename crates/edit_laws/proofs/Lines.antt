-- The nodes above one, by parents: they keep theirs where the children of the one move.
use Rattle.std.proofs.Common.{◌≡◌, ◌≢◌, ℕ, ◌<◌, zero, suc, cond, eqb, List, [], ◌∷◌, Option, Some, None, refl, sym, ap, subst, ◌∙◌, inl, inr, arith}
use Rattle.std.specs.Option.{option_and_then}
use Rattle.std.proofs.lemmas.Bool.{cases_Bool, ne_eqb}
use Rattle.std.proofs.lemmas.Bool.Decides.{eqb_tells}
use Rattle.edit_model.specs.DomModel.declared.Content.{Content}
use Rattle.edit_model.specs.DomModel.Forest.{Forest, Seen, times, count_of, IsDistinct, IsWithin, depth_of, parent_of, children_of, unlink}
use Rattle.edit_model.proofs.DomModel.Links.{seen, parent_count, parent_of-unlink, parent_of-link, tree_of_absent}
use Rattle.edit_model.proofs.DomModel.Move.{parent_apart}
use Rattle.edit_model.proofs.DomModel.Within.{within_self, within_child, within_parent, within_up, depth_of-parent}
use Rattle.edit_model.specs.State.{State}
use Rattle.edit_model.specs.Confined.{may_move}
use Rattle.edit_model.specs.Edit.{Move, is_made_edit, trees_after, edited}
use Rattle.edit_model.specs.Valid.{IsValid}
use Rattle.edit_model.specs.Moves.{move_before}
use Rattle.edit_model.specs.Run.{final, for_each}
use Rattle.edit_model.proofs.Forests.{forest-unlink, can_go}
use Rattle.edit_model.proofs.IslandRuns.{trees_made, trees_left}
use Rattle.edit_model.proofs.Steps.{final-bind, final-answer, for_each-cons, for_each-nil}
use Rattle.edit_model.proofs.Tests.{goes, parent_there}
use Rattle.edit_laws.specs.Order.{IsKeeping}
use Rattle.edit_laws.proofs.QuietActions.{keeping_final}
use Rattle.edit_laws.proofs.Around.{self_one}
use Rattle.edit_laws.proofs.Lifting.{final_move_before}
use Rattle.edit_laws.proofs.Fronts.{child_by}
use Rattle.edit_laws.proofs.Loose.{IsLoose, loose_up, before_root}

-- ---- the nodes above one

-- n is l or stands above it, and no member of the list stands on the way down from n to l
pub data Line : Forest Content → ℕ → List ℕ → ℕ → Type 0 where
  top : {f : Forest Content} {n : ℕ} {list : List ℕ} → Line f n list n
  down : {f : Forest Content} {n : ℕ} {list : List ℕ} (m l : ℕ) → parent_of f l ≡ Some m → times list l ≡ 0 → Line f n list m → Line f n list l

-- what holds a node is there
pub holder_there : (f : Forest Content) (n c : ℕ) → IsWithin f n c → 0 < count_of f n
holder_there f n c inside = by_count (count_of f n) refl
  where
    by_count : (k : ℕ) → count_of f n ≡ k → 0 < count_of f n
    by_count (suc k) e = omega (arith, e)
    by_count zero e = absurd (let none = ap (λ g. count_of g c) (tree_of_absent f n e) in omega (arith, none, inside))

pub none_by : (k : ℕ) → (0 < k → ⊥) → k ≡ 0
none_by zero h = refl
none_by (suc k) h = absurd (h (omega arith))

module _ (s : State) (is : IsValid s) (n c : ℕ) (here : 0 < count_of s.trees n) where
  -- no child of c stands above it
  no_child : (l : ℕ) → IsWithin s.trees l c → times (children_of s.trees c) l ≡ 0
  no_child l below = none_by (times (children_of s.trees c) l) (λ h. parent_apart s.trees l c is.forest.distinct (child_by s is c l h) below)

  pub line_to : (k l : ℕ) → depth_of s.trees l ≡ k → IsWithin s.trees n l → IsWithin s.trees l c → Line s.trees n (children_of s.trees c) l
  line_to zero l deep above below = elim (eqb_tells n l) [
    | inl (_, same) ↦ subst (λ x. Line s.trees n (children_of s.trees c) x) same top
    | inr (_, off) ↦ (let w = within_parent s.trees n is.forest.distinct here l off above in absurd (omega (arith, deep, depth_of-parent s.trees l w.0 is.forest.distinct w.1)))
  ]
  line_to (suc k) l deep above below = elim (eqb_tells n l) [
    | inl (_, same) ↦ subst (λ x. Line s.trees n (children_of s.trees c) x) same top
    | inr (_, off) ↦ (
        let w = within_parent s.trees n is.forest.distinct here l off above in
        down w.0 l w.1 (no_child l below)
        (line_to k w.0 (omega (arith, deep, depth_of-parent s.trees l w.0 is.forest.distinct w.1)) w.2 (within_up s.trees is.forest.distinct l w.0 c w.1 below)))
  ]

pub line_kept : (f g : Forest Content) (n : ℕ) (list : List ℕ) → ((l q : ℕ) → times list l ≡ 0 → parent_of f l ≡ Some q → parent_of g l ≡ Some q) → (l : ℕ) → Line f n list l → Line g n list l
line_kept f g n list still l top = top
line_kept f g n list still l (down m _ up none line) = down m l (still l m none up) none (line_kept f g n list still m line)

pub line_there : (f : Forest Content) → IsDistinct f → (n : ℕ) (list : List ℕ) (l : ℕ) → 0 < count_of f l → Line f n list l → 0 < count_of f n
line_there f once n list l here top = here
line_there f once n list l here (down m _ up none line) = line_there f once n list m (parent_count f l m once up).1 line

pub line_within : (f : Forest Content) → IsDistinct f → (n : ℕ) (list : List ℕ) (l : ℕ) → 0 < count_of f n → Line f n list l → IsWithin f n l
line_within f once n list l here top = within_self f n once here
line_within f once n list l here (down m _ up none line) = within_child f n once here l m up (line_within f once n list m here line)

pub line_loose : (s : State) → IsValid s → (n : ℕ) (list : List ℕ) (l : ℕ) → IsLoose s l → Line s.trees n list l → IsLoose s n
line_loose s is n list l none top = none
line_loose s is n list l none (down m _ up out line) = line_loose s is n list m (loose_up s is l m up none) line

-- ---- a node keeps its parent where others move

parent_moved : (s : State) → IsValid s → (k p : ℕ) (b : Option ℕ) (l q : ℕ) → k ≢ l → parent_of s.trees l ≡ Some q → parent_of (edited (Move k p b) s).trees l ≡ Some q
unfolding is_made_edit trees_after
parent_moved s is k p b l q off up = elim (cases_Bool (may_move s k p b)) [
  | inr left ↦ ap (λ f. parent_of f l) (trees_left (Move k p b) s left) ∙ up
  | inl may ↦ (
      let f = s.trees in
      let t = goes s k p b may in
      let once = is.forest.distinct in
      let loose = forest-unlink f s.next is.forest t.from k t.child in
      let can = can_go f s.next is.forest t.from k p b t.child t.apart t.parent (parent_there f p t.parent) t.before in
      let w = seen f l once (parent_count f l q once up).0 in
      let own : w.0.parent ≡ Some q = ap (option_and_then (λ (y : Seen Content). y.parent)) (sym w.2) ∙ up in
      let still : parent_of (unlink f k) l ≡ Some q = parent_of-unlink f t.from k once t.child l w.0 w.2 ∙ (ap (λ v. cond v None w.0.parent) (ne_eqb k l off) ∙ own) in
      let v = seen (unlink f k) l loose.distinct (parent_count (unlink f k) l q loose.distinct still).0 in
      let own' : v.0.parent ≡ Some q = ap (option_and_then (λ (y : Seen Content). y.parent)) (sym v.2) ∙ still in
      ap (λ g. parent_of g l) (trees_made (Move k p b) s may)
      ∙ (parent_of-link (unlink f k) p b k loose.distinct can l v.0 v.2 ∙ (ap (λ x. cond x (Some p) v.0.parent) (ne_eqb k l off) ∙ own')))
]

parent_turn : (o k : ℕ) (s : State) → IsValid s → (l q : ℕ) → k ≢ l → parent_of s.trees l ≡ Some q → parent_of (final (move_before o k) s).trees l ≡ Some q
parent_turn o k s is l q off up = by_parent (parent_of s.trees o) refl
  where
    by_parent : (p : Option ℕ) → parent_of s.trees o ≡ p → parent_of (final (move_before o k) s).trees l ≡ Some q
    by_parent None root = rw (before_root o k s root) up
    by_parent (Some p) e = rw (final_move_before o k p s e) (parent_moved s is k p (Some o) l q off up)

pub parent_each : (list : List ℕ) (o : ℕ) (s : State) → IsKeeping s → (l q : ℕ) → times list l ≡ 0 → parent_of s.trees l ≡ Some q → parent_of (final (for_each list (move_before o)) s).trees l ≡ Some q
parent_each [] o s is l q none up = rw (for_each-nil, final-answer) up
parent_each (k ∷ list) o s is l q none up =
    let off : k ≢ l = λ same. (let one = self_one l in let e = ap (λ x. eqb x l) same in absurd (let none' = rw e at none in omega (arith, none', one))) in
    rw (for_each-cons, final-bind)
    (parent_each list o (final (move_before o k) s) (keeping_final (move_before o k) s is) l q (omega (arith, none)) (parent_turn o k s is.valid l q off up))
