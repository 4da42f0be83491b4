-- Active ranges, and when they change.
use Rattle.std.proofs.Common.{◌≡◌, ◌≢◌, ◌⊎◌, ℕ, Bool, true, false, not, ◌&&◌, ◌<◌, List, Option, Some, None, IfSome, refl, sym, ap, subst, ◌∙◌, inl, inr, eqb, cond, arith}
use Rattle.std.proofs.lemmas.Bool.Decides.{eqb_tells}
use Rattle.std.proofs.lemmas.Bool.{ltb-true}
use Rattle.edit_model.specs.DomModel.declared.Content.{Content}
use Rattle.edit_model.specs.DomModel.Forest.{Forest, count_of, tree_of}
use Rattle.edit_model.specs.DomModel.Contents.{length_of}
use Rattle.edit_model.proofs.DomModel.Totals.{total-without}
use Rattle.edit_model.specs.LiveRange.declared.places.Pair.{Pair}
use Rattle.edit_model.specs.LiveRange.declared.places.Point.{Point}
use Rattle.edit_model.specs.LiveRange.LivePoints.{LivePoints}
use Rattle.edit_model.specs.LiveRange.ActiveRange.{range_start, range_end, range_changed, same_point}
use Rattle.edit_model.specs.PointOrder.PointOrder.{is_before, is_in_document, is_placed}
use Rattle.edit_model.specs.declared.settings.Setting.{Setting}
use Rattle.edit_model.specs.Overrides.{no_overrides}
use Rattle.edit_parts.specs.declared.overrides.ActiveRange.{ActiveRange}
use Rattle.edit_parts.specs.declared.overrides.Watch.{Watch}
use Rattle.edit_parts.specs.Following.{Watches, range_in, unset_if_range_changed}

both_true : (a b : Bool) → (a && b) ≡ true → a ≡ true
both_true true b e = refl
both_true false b e = absurd (cc)

-- a point that is placed has a node
pub placed_here : (f : Forest Content) (p : Point) → is_placed f p ≡ true → 0 < count_of f p.label
unfolding is_placed
placed_here f p e =
    let inside : 0 < count_of (tree_of f 0) p.label = ltb-true 0 (count_of (tree_of f 0) p.label) (both_true _ _ e) in
    omega (arith, inside, total-without (λ m _. cond (eqb m p.label) 1 0) f 0)

point_same : (a b : Point) → same_point a b ≡ true → a ≡ b
point_same a b e = elim (eqb_tells a.label b.label) [
  | inl (_, l) ↦ elim (eqb_tells a.offset b.offset) [
    | inl (_, o) ↦ (ap (λ n. record { label = n; offset = a.offset }) l ∙ ap (λ n. record { label = b.label; offset = n }) o)
    | inr (u, _) ↦ absurd (let e' = rw u at e in by (eqb a.label b.label) e')
  ]
  | inr (t, _) ↦ absurd (let e' = rw t at e in cc)
]
  where
    by : (c : Bool) → (c && false) ≡ true → ⊥
    by true h = absurd (cc)
    by false h = absurd (cc)

self_same : (a : Point) → same_point a a ≡ true
self_same a = elim (eqb_tells a.label a.label) [
  | inl (t, _) ↦ elim (eqb_tells a.offset a.offset) [ inl (u, _) ↦ rw (t, u) refl | inr (_, off) ↦ absurd (off refl) ]
  | inr (_, off) ↦ absurd (off refl)
]

abbrev range : Point → Point → ActiveRange
range a b = record { start = a; end = b }

-- two ranges are one, or one of their points has changed
pair_tells : (a b c d : Point) → ((not (same_point a c && same_point b d) ≡ false) × (range a b ≡ range c d)) ⊎ ((not (same_point a c && same_point b d) ≡ true) × (range a b ≢ range c d))
pair_tells a b c d = by (same_point a c) (same_point b d) refl refl
  where
    by : (u v : Bool) → same_point a c ≡ u → same_point b d ≡ v → ((not (u && v) ≡ false) × (range a b ≡ range c d)) ⊎ ((not (u && v) ≡ true) × (range a b ≢ range c d))
    by true true e h = inl (refl, ap (λ (x : Point). range x b) (point_same a c e) ∙ ap (λ (x : Point). range c x) (point_same b d h))
    by true false e h = inr (refl, λ is. let t : b ≡ d = ap (λ (r : ActiveRange). r.end) is in let u = subst (λ (x : Point). same_point b x ≡ true) t (self_same b) in cc)
    by false v e h = inr (refl, λ is. let t : a ≡ c = ap (λ (r : ActiveRange). r.start) is in let u = subst (λ (x : Point). same_point a x ≡ true) t (self_same a) in cc)

-- the active range has changed, or it is the same
pub changed_tells : (f g : Forest Content) (p q : Option Pair) → ((range_changed (is_before f) (is_before g) p q ≡ false) × (range_in f p ≡ range_in g q)) ⊎ ((range_changed (is_before f) (is_before g) p q ≡ true) × (range_in f p ≢ range_in g q))
changed_tells f g None None = inl (refl, refl)
changed_tells f g None (Some q) = inr (refl, λ e. absurd (cc))
changed_tells f g (Some p) None = inr (refl, λ e. absurd (cc))
changed_tells f g (Some p) (Some q) =
    elim (pair_tells (range_start (is_before f) p) (range_end (is_before f) p) (range_start (is_before g) q) (range_end (is_before g) q)) [
      | inl (t, e) ↦ inl (t, ap Some e)
      | inr (t, off) ↦ inr (t, λ e. off (let e' = e in cc))
    ]

-- where the range has changed the overrides are unset
pub settled_changed : (f g : Forest Content) (before after : LivePoints) (overrides : List Setting) → range_in f before.selection ≢ range_in g after.selection → no_overrides ≡ unset_if_range_changed f before g after overrides
settled_changed f g before after overrides off = elim (changed_tells f g before.selection after.selection) [
  | inl (_, e) ↦ absurd (off e)
  | inr (t, _) ↦ rw t refl
]

pub settled_same : (f g : Forest Content) (before after : LivePoints) (overrides : List Setting) → range_in f before.selection ≡ range_in g after.selection → overrides ≡ unset_if_range_changed f before g after overrides
settled_same f g before after overrides e = elim (changed_tells f g before.selection after.selection) [
  | inl (t, _) ↦ rw t refl
  | inr (_, off) ↦ absurd (off e)
]

-- where no override is set none is unset
pub settled_none : (f g : Forest Content) (before after : LivePoints) (overrides : List Setting) → overrides ≡ no_overrides → overrides ≡ unset_if_range_changed f before g after overrides
settled_none f g before after overrides e = by (range_changed (is_before f) (is_before g) before.selection after.selection)
  where
    by : (b : Bool) → overrides ≡ cond b no_overrides overrides
    by true = e
    by false = refl
