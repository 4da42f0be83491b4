-- Points that a move leaves as a removal does.
use Rattle.std.proofs.Common.{◌≡◌, ◌≢◌, ℕ, ◌+◌, ◌≤◌, Bool, true, false, ◌||◌, List, [], ◌∷◌, map, slice_get, Option, Some, None, IfSome, refl, sym, ap, ◌∙◌, suc, inl, inr, arith}
use Rattle.std.specs.List.{All}
use Rattle.std.specs.Option.{option_map}
use Rattle.std.proofs.lemmas.Bool.{le-ltb}
use Rattle.std.proofs.lemmas.Bool.Decides.{eqb_tells}
use Rattle.std.proofs.lemmas.List.Elements.{All-tail}
use Rattle.edit_model.specs.LiveRange.declared.places.Point.{Point}
use Rattle.edit_model.specs.LiveRange.declared.places.Pair.{Pair}
use Rattle.edit_model.specs.LiveRange.PointsEdit.{PointsEdit, Remove, Move, adjusted, adjusted_pair}
use Rattle.edit_model.specs.LiveRange.LivePoints.{LivePoints, at_pair, mapped}
use Rattle.edit_parts.specs.Following.{AreApart, AreUpTo, IsUpTo, IsPairUpTo, is_touched, is_pair_touched}

first_off : (a b : Bool) → (a || b) ≡ false → a ≡ false
first_off false b h = refl
first_off true b h = absurd (cc)

second_off : (a b : Bool) → (a || b) ≡ false → b ≡ false
second_off false b h = h
second_off true b h = absurd (cc)

-- ---- an edit that does to each point that isn't touched what another one does

module _ (child : Point) (to : Option ℕ) (e d : PointsEdit) (Known : Point → Type 0) (alike : (p : Point) → Known p → is_touched child to p ≡ false → adjusted e p ≡ adjusted d p) where
  abbrev KnownPair : Pair → Type 0
  KnownPair p = Known p.anchor × Known p.focus

  pair_alike : (p : Pair) → KnownPair p → is_pair_touched child to p ≡ false → adjusted_pair e p ≡ adjusted_pair d p
  pair_alike p known h =
      let a = alike p.anchor known.0 (first_off _ _ h) in
      let b = alike p.focus known.1 (second_off (is_touched child to p.anchor) _ h) in
      λ i. record { anchor = a i; focus = b i }

  option_alike : (o : Option Pair) → IfSome o KnownPair → IfSome o (λ p. is_pair_touched child to p ≡ false) → option_map (adjusted_pair e) o ≡ option_map (adjusted_pair d) o
  option_alike None known h = refl
  option_alike (Some p) known h = ap Some (pair_alike p known h)

  marks_alike : (ms : List (List ℕ × Pair)) → All (λ m. KnownPair m.1) ms → ((k : ℕ) → IfSome (slice_get ms k) (λ m. is_pair_touched child to m.1 ≡ false)) → map (at_pair (adjusted_pair e)) ms ≡ map (at_pair (adjusted_pair d)) ms
  marks_alike [] known h = refl
  marks_alike (m ∷ ms) known h =
      let first : KnownPair m.1 = known 0 m (omega arith) in
      let own = pair_alike m.1 first (h 0) in
      let more = marks_alike ms (All-tail (λ (n : List ℕ × Pair). KnownPair n.1) m ms known) (λ k. h (suc k)) in
      λ i. (m.0, own i) ∷ more i

  mapped_alike : (s : LivePoints) → IfSome s.selection KnownPair → IfSome s.scratch KnownPair → All (λ m. KnownPair m.1) s.marks → AreApart child to s → mapped e s ≡ mapped d s
  mapped_alike s selected kept marked h =
      let one = option_alike s.selection selected h.selection in
      let two = option_alike s.scratch kept h.scratch in
      let three = marks_alike s.marks marked h.marks in
      λ i. record s { selection = one i; scratch = two i; marks = three i }

-- ---- moves

-- where no point stands at the new parent, or beside the child, a move does what a removal does
module _ (from to : Point) where
  abbrev removal : PointsEdit
  removal = Remove [] from.label from.offset

  abbrev move : PointsEdit
  move = Move from to

  point_alike : (p : Point) → is_touched from (Some to.label) p ≡ false → adjusted removal p ≡ adjusted move p
  point_alike p h = elim (eqb_tells to.label p.label) [
    | inl (t, _) ↦ absurd (let h' = rw t at h in cc)
    | inr (s, apart) ↦ (
        let h' = rw s at h in
        elim (eqb_tells p.label to.label) [
          | inl (_, same) ↦ absurd (apart (sym same))
          | inr (t, off) ↦ elim (eqb_tells p.label from.label) [
            | inl (u, same) ↦ (
                let h'' = rw u at h' in
                elim (eqb_tells from.label to.label) [
                  | inl (_, is) ↦ absurd (off (same ∙ is))
                  | inr (v, _) ↦ elim (eqb_tells p.offset from.offset) [
                    | inl (w, _) ↦ absurd (let k = rw w at h'' in cc)
                    | inr (w, _) ↦ elim (eqb_tells p.offset (from.offset + 1)) [
                      | inl (x, _) ↦ absurd (let k = rw (w, x) at h'' in cc)
                      | inr (x, _) ↦ rw (u, v, w, x) refl
                    ]
                  ]
                ])
            | inr (u, _) ↦ elim (eqb_tells from.label to.label) [
              | inl (v, _) ↦ rw (u, v) refl
              | inr (v, _) ↦ rw (u, v, t) refl
            ]
          ]
        ])
  ]

  -- the same of a move to the end of another parent, whose points lie up to there
  point_last_alike : from.label ≢ to.label → (p : Point) → IsUpTo to.label to.offset p → is_touched from None p ≡ false → adjusted removal p ≡ adjusted move p
  point_last_alike apart p low h = elim (eqb_tells from.label to.label) [
    | inl (_, is) ↦ absurd (apart is)
    | inr (v, _) ↦ elim (eqb_tells p.label from.label) [
      | inl (u, _) ↦ (
          let h' = rw u at h in
          elim (eqb_tells p.offset from.offset) [
            | inl (w, _) ↦ absurd (let k = rw w at h' in cc)
            | inr (w, _) ↦ elim (eqb_tells p.offset (from.offset + 1)) [
              | inl (x, _) ↦ absurd (let k = rw (w, x) at h' in cc)
              | inr (x, _) ↦ rw (u, v, w, x) refl
            ]
          ])
      | inr (u, _) ↦ elim (eqb_tells p.label to.label) [
        | inl (t, same) ↦ (let late = le-ltb to.offset p.offset (low same) in rw (u, v, t, late) refl)
        | inr (t, _) ↦ rw (u, v, t) refl
      ]
    ]
  ]

nothing : (o : Option Pair) → IfSome o (λ p. Unit {0} × Unit {0})
nothing None = tt
nothing (Some p) = (tt, tt)

pub moved_alike : (from to : Point) (s : LivePoints) → AreApart from (Some to.label) s → mapped (Remove [] from.label from.offset) s ≡ mapped (Move from to) s
moved_alike from to s h = mapped_alike from (Some to.label) (Remove [] from.label from.offset) (Move from to) (λ p. Unit {0}) (λ p _. point_alike from to p) s (nothing s.selection) (nothing s.scratch) (λ k d _. (tt, tt)) h

pub moved_last_alike : (from to : Point) (s : LivePoints) → from.label ≢ to.label → AreUpTo to.label to.offset s → AreApart from None s → mapped (Remove [] from.label from.offset) s ≡ mapped (Move from to) s
moved_last_alike from to s apart low h = mapped_alike from None (Remove [] from.label from.offset) (Move from to) (IsUpTo to.label to.offset) (point_last_alike from to apart) s low.selection low.scratch low.marks h
