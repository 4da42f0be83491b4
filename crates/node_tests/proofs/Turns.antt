-- The turns of a walk from place to place, and the walk.
use Rattle.std.proofs.Common.{◌≡◌, ℕ, suc, Bool, true, false, cond, ◌&&◌, ◌||◌, Some, None, IfSome, refl, sym, ap, ◌∙◌, eqb, is_none}
use Rattle.node_styles.specs.DomModel.declared.Content.{Content}
use Rattle.node_styles.specs.DomModel.Contents.{length_of}
use Rattle.node_styles.specs.DomModel.Forest.{Forest, parent_of}
use Rattle.node_styles.specs.NodeArena.declared.NodeRef.{NodeRef}
use Rattle.node_styles.specs.NodeArena.Held.{label}
use Rattle.node_tests.specs.declared.breaks.Gap.{Gap}
use Rattle.node_tests.specs.declared.sides.Side.{Side}
use Rattle.node_tests.specs.declared.sides.Side.TheVariants.{Before, After}
use Rattle.node_tests.specs.Sides.{other}
use Rattle.node_tests.specs.Visible.{is_visible}
use Rattle.node_tests.specs.BlockPoints.{child_before, child_at, starts_after, ends_before, is_block_start, is_block_end, is_block_boundary}
use Rattle.node_tests.specs.LineBreaks.{Place, Turn, end_of, past, out_of, child_beside, go_past, turn_to, walk}
use Rattle.node_tests.specs.LineBreaks.Turn.{Answer, GoOn}
use Rattle.node_tests.specs.Gaps.{beside, HoldsGap, StandsAt, meets_boundary}

mix : (r x y s e : Bool) → ((r && (x || y)) || s || e) ≡ (((r && x) || s) || ((r && y) || e))
mix false x y s e = refl
mix true true y s e = refl
mix true false true true e = refl
mix true false true false e = refl
mix true false false s e = refl

module _ (f : Forest Content) (at : Gap) (place : Place) (stands : StandsAt f at place) where
  boundary_is : is_block_boundary f place.node place.offset ≡ meets_boundary f at
  unfolding is_block_boundary is_block_start is_block_end
  boundary_is =
      let l = at.node.label in
      let root = is_none (parent_of f l) in
      let first = eqb place.offset 0 in
      let last = eqb place.offset (length_of f l) in
      let before = starts_after f (child_before f l place.offset) in
      let after = ends_before f (child_at f l place.offset) in
      ap (λ n. is_block_boundary f n place.offset) stands.node
      ∙ sym (mix root first last before after)
      ∙ ap (λ b. (root && b) || before || after) (sym stands.ends)
      ∙ ap (λ o. (root && (is_none (label at.before) || is_none (label at.after))) || starts_after f o || after) (sym stands.before)
      ∙ ap (λ o. (root && (is_none (label at.before) || is_none (label at.after))) || starts_after f (label at.before) || ends_before f o) (sym stands.after)

  beside_is : (side : Side) → child_beside side f place.node place.offset ≡ label (beside side at)
  beside_is Before = ap (λ n. child_before f n place.offset) stands.node ∙ sym stands.before
  beside_is After = ap (λ n. child_at f n place.offset) stands.node ∙ sym stands.after

  module _ (side : Side) where
    pub turn_ends : meets_boundary f at ≡ true → turn_to side f place ≡ Answer true
    unfolding turn_to
    turn_ends met = ap (λ b. cond b (Answer true) (go_past side f place.node (child_beside side f place.node place.offset))) (boundary_is ∙ met)

    module _ (inner : meets_boundary f at ≡ false) where
      turn_goes : turn_to side f place ≡ go_past side f at.node.label (label (beside side at))
      unfolding turn_to
      turn_goes =
          ap (λ b. cond b (Answer true) (go_past side f place.node (child_beside side f place.node place.offset))) (boundary_is ∙ inner)
          ∙ ap (go_past side f place.node) (beside_is side)
          ∙ ap (λ n. go_past side f n (label (beside side at))) stands.node

      pub turn_child : (child : NodeRef) → beside side at ≡ Some child → turn_to side f place ≡ past side f child.label
      turn_child child is = turn_goes ∙ ap (λ o. go_past side f at.node.label (label o)) is

      pub turn_out : beside side at ≡ None → turn_to side f place ≡ out_of side f at.node.label
      turn_out is = turn_goes ∙ ap (λ o. go_past side f at.node.label (label o)) is

pub held_beside : {holds : NodeRef → Type 0} (at : Gap) (side : Side) → HoldsGap holds at → IfSome (beside side at) (λ r. holds r)
held_beside at Before held = held.before
held_beside at After held = held.after

pub past_seen : (side : Side) (f : Forest Content) (k : ℕ) → is_visible f k ≡ true → past side f k ≡ Answer false
past_seen side f k seen = ap (λ b. cond b (Answer false) (GoOn (end_of (other side) f k))) seen

pub past_unseen : (side : Side) (f : Forest Content) (k : ℕ) → is_visible f k ≡ false → past side f k ≡ GoOn (end_of (other side) f k)
past_unseen side f k unseen = ap (λ b. cond b (Answer false) (GoOn (end_of (other side) f k))) unseen

-- ---- the walk

pub walk_answers : (turn : Place → Turn) (n : ℕ) (at : Place) (b : Bool) → turn at ≡ Answer b → walk turn (suc n) at ≡ b
walk_answers turn n at b e = ap (λ t. elim t [ Answer b ↦ b | GoOn next ↦ walk turn n next ]) e

pub walk_goes : (turn : Place → Turn) (n : ℕ) (at next : Place) → turn at ≡ GoOn next → walk turn (suc n) at ≡ walk turn n next
walk_goes turn n at next e = ap (λ t. elim t [ Answer b ↦ b | GoOn next ↦ walk turn n next ]) e

-- a walk that has come to a gap with so many turns left
pub record Reached (holds : NodeRef → Type 0) (f : Forest Content) (turn : Place → Turn) (left : ℕ) (at : Gap) (answer : Bool) : Type 0 where
  pub held : HoldsGap holds at
  pub place : Place
  pub stands : StandsAt f at place
  pub same : walk turn left place ≡ answer
