-- The nodes that lead up from a node to one above it.
use Rattle.std.proofs.Common.{◌≡◌, ◌≢◌, ℕ, zero, suc, ◌-◌, ◌<◌, ◌++◌, Bool, true, false, not, ◌&&◌, ◌||◌, List, [], ◌∷◌, Option, Some, None, length, refl, sym, ap, subst, ◌∙◌, arith, add-one, length-append}
use Rattle.std.specs.List.{slice_get}
use Rattle.std.proofs.lemmas.List.{get_or_append_left}
use Rattle.std.proofs.lemmas.Option.{slice_get_within, get_or_from_slice_get, slice_get-get_or}
use Rattle.std.proofs.Math.Seq.{get_or-append_seam}
use Rattle.std.proofs.lemmas.Bool.{and_parts, eqb-true}
use Rattle.node_styles.specs.DomModel.declared.Content.{Content}
use Rattle.node_styles.specs.DomModel.Forest.{Forest, IsDistinct, IsWithin, count_of, parent_of, tree_of}
use Rattle.node_styles.proofs.DomModel.Move.{parent_apart}
use Rattle.node_styles.proofs.DomModel.Within.{within_self}
use Rattle.point_order.specs.LiveRange.declared.places.Point.{Point}
use Rattle.node_styles.specs.NodeArena.declared.NodeRef.{NodeRef}
use Rattle.node_styles.specs.NodeArena.Held.{label}
use Rattle.node_styles.specs.NodeArena.Reads.{Names}
use Rattle.point_order.specs.PointOrder.{child_toward, is_within}
use Rattle.node_tests.specs.declared.listing.Lines.{Lines}
use Rattle.node_tests.specs.declared.listing.Reach.{Reach}
use Rattle.node_tests.specs.declared.listing.Sides.{Sides}
use Rattle.node_tests.specs.Listing.{is_at, Leads, Lies, Lined}
use Rattle.node_tests.specs.Ranges.{start_cuts, end_cuts, is_cut}
use Rattle.node_tests.proofs.Above.{set_on}
use Rattle.node_tests.proofs.Pieces.{has, hasnt}
use Rattle.node_tests.proofs.Reaching.{not_before_itself, not_after_itself}
use Rattle.node_tests.proofs.Toward.{no_count, toward}

suc-sub-one : (n : ℕ) → suc n - 1 ≡ n
suc-sub-one n = omega arith

one_more : (xs : List NodeRef) (r : NodeRef) → length (xs ++ r ∷ []) ≡ suc (length xs)
one_more xs r = length-append xs (r ∷ []) ∙ add-one (length xs)

-- a member stays where more follow
kept : (xs ys : List NodeRef) (n : ℕ) (r : NodeRef) → slice_get xs n ≡ Some r → slice_get (xs ++ ys) n ≡ Some r
kept xs ys n r at =
    let low = slice_get_within xs n r at in
    slice_get-get_or (xs ++ ys) n r (rw (length-append xs ys) (omega (arith, low)))
    ∙ ap Some (get_or_append_left xs ys r n low ∙ get_or_from_slice_get xs n r r at)

module _ (holds : NodeRef → Type 0) (f : Forest Content) where
  more_lead : (xs ys : List NodeRef) (l n top : ℕ) → Leads holds f xs l n top → Leads holds f (xs ++ ys) l n top
  more_lead xs ys l zero top leads = leads
  more_lead xs ys l (suc n) top leads =
      (leads.0, kept xs ys n leads.0 leads.1, leads.2, leads.3, leads.4, more_lead xs ys l n leads.0.label leads.5)

  -- one step up
  pub step_leads : (xs : List NodeRef) (l : ℕ) (at : NodeRef) (p : ℕ) → Leads holds f xs l (length xs) at.label → holds at → parent_of f at.label ≡ Some p → IsWithin f at.label l
      → Leads holds f (xs ++ at ∷ []) l (length (xs ++ at ∷ [])) p
  step_leads xs l at p leads held child inside =
      subst (λ n. Leads holds f (xs ++ at ∷ []) l n p) (sym (one_more xs at))
      (at, slice_get-get_or (xs ++ at ∷ []) (length xs) at (rw (one_more xs at) (omega arith)) ∙ ap Some (get_or-append_seam xs at [] at), held, child, inside, more_lead xs (at ∷ []) l (length xs) at.label leads)

  -- the last of the nodes that are left
  abbrev pub Below : List NodeRef → ℕ → ℕ → ℕ → Type 0
  Below line l left top =
      (r : NodeRef) × (slice_get line (left - 1) ≡ Some r) × holds r × (parent_of f r.label ≡ Some top) × IsWithin f r.label l
      × Leads holds f line l (left - 1) r.label

  below : (line : List NodeRef) (l left top : ℕ) → left ≢ 0 → Leads holds f line l left top → Below line l left top
  below line l zero top some leads = absurd (some refl)
  below line l (suc n) top some leads = rw (suc-sub-one n) leads

  pub at_end : (line : List NodeRef) (l left top : ℕ) → left ≡ 0 → Leads holds f line l left top → l ≡ top
  at_end line l zero top none leads = leads
  at_end line l (suc n) top none leads = absurd (omega (arith, none))

  -- what is read of the line
  module _ (line : List NodeRef) (l left top : ℕ) (some : left ≢ 0) (leads : Leads holds f line l left top) where
    pub not_own : IsDistinct f → l ≡ top → ⊥
    not_own once same =
        let b = below line l left top some leads in
        parent_apart f b.0.label top once b.3 (subst (λ k. IsWithin f b.0.label k) same b.4)

    pub read_leads : (o : Option NodeRef) → o ≡ slice_get line (left - 1) → (m : ℕ) → label o ≡ Some m → Leads holds f line l (left - 1) m
    read_leads o is m e =
        let b = below line l left top some leads in
        let at : Some b.0.label ≡ Some m = ap label (sym (is ∙ b.1)) ∙ e in
        let named : b.0.label ≡ m = (let u = at in cc) in
        subst (λ k. Leads holds f line l (left - 1) k) named b.5

    pub read_names : IsDistinct f → (o : Option NodeRef) → o ≡ slice_get line (left - 1) → Names holds o (child_toward f top l)
    read_names once o is =
        let b = below line l left top some leads in
        let one : Names holds (Some b.0) (child_toward f top l) = record { is = sym (toward f once top b.0.label l b.3 b.4); held = b.2 } in
        subst (λ r. Names holds r (child_toward f top l)) (sym (is ∙ b.1)) one

  -- the line goes on to the child that has the end
  pub child_leads : (line : List NodeRef) (l left k : ℕ) (reach : Reach) → ((m : ℕ) → reach.holds ≡ true → label reach.child ≡ Some m → Leads holds f line l (left - 1) m)
      → (reach.holds && is_at (label reach.child) k) ≡ true → (inner : ℕ) → inner ≡ left - 1 → Leads holds f line l inner k
  child_leads line l left k reach leads on inner is =
      let t = and_parts reach.holds (is_at (label reach.child) k) on in
      rw is (by_child (label reach.child) t.1 (λ m e. leads m t.0 e))
    where
      by_child : (o : Option ℕ) → is_at o k ≡ true → ((m : ℕ) → o ≡ Some m → Leads holds f line l (left - 1) m) → Leads holds f line l (left - 1) k
      by_child None t at = absurd (let u : false ≡ true = t in cc)
      by_child (Some m) t at = subst (λ j. Leads holds f line l (left - 1) j) (eqb-true m k t) (at m refl)

  pub inner_lined : (start end : Point) (lines : Lines) (sides : Sides) (k : ℕ) (from upto : Reach) (xs ys : List NodeRef) → xs ≡ lines.start.items → ys ≡ lines.end.items
      → ((m : ℕ) → from.holds ≡ true → label from.child ≡ Some m → Leads holds f xs start.label (sides.start_left - 1) m)
      → ((m : ℕ) → upto.holds ≡ true → label upto.child ≡ Some m → Leads holds f ys end.label (sides.end_left - 1) m)
      → (inner : Sides) → inner.after ≡ not (from.holds && is_at (label from.child) k) → inner.before ≡ not (upto.holds && is_at (label upto.child) k)
      → inner.start_left ≡ sides.start_left - 1 → inner.end_left ≡ sides.end_left - 1 → Lined holds f start end lines inner k
  inner_lined start end lines sides k from upto xs ys same same' leads leads' inner after before left left' = record {
    from = λ out. subst (λ line. Leads holds f line start.label inner.start_left k) same (child_leads xs start.label sides.start_left k from leads (set_on (from.holds && is_at (label from.child) k) (sym after ∙ out)) inner.start_left left);
    upto = λ out. subst (λ line. Leads holds f line end.label inner.end_left k) same' (child_leads ys end.label sides.end_left k upto leads' (set_on (upto.holds && is_at (label upto.child) k) (sym before ∙ out)) inner.end_left left');
  }

-- ---- whether an end cuts Words below a node

mid_none : (a b c : Bool) → b ≡ false → (a && b && c) ≡ false
mid_none true b c e = rw e refl
mid_none false b c e = refl

module _ (f : Forest Content) (once : IsDistinct f) (start end : Point) (sides : Sides) (l : ℕ) (lies : Lies f start end sides l) where
  start_cut : 0 < count_of f start.label → (b : Bool) → sides.after ≡ b → start_cuts f start l ≡ (not b && start_cuts f start start.label)
  unfolding start_cuts
  start_cut here true e = mid_none _ (is_within f l start.label) _ (hasnt (count_of (tree_of f l) start.label) (no_count (count_of (tree_of f l) start.label) (λ w. not_after_itself f once start l (lies.after e) w)))
  start_cut here false e = rw (has (count_of (tree_of f l) start.label) (lies.starts e), has (count_of (tree_of f start.label) start.label) (within_self f start.label once here)) refl

  end_cut : 0 < count_of f end.label → (b : Bool) → sides.before ≡ b → end_cuts f end l ≡ (not b && end_cuts f end end.label)
  unfolding end_cuts
  end_cut here true e = mid_none _ (is_within f l end.label) _ (hasnt (count_of (tree_of f l) end.label) (no_count (count_of (tree_of f l) end.label) (λ w. not_before_itself f once end l (lies.before e) w)))
  end_cut here false e = rw (has (count_of (tree_of f l) end.label) (lies.ends e), has (count_of (tree_of f end.label) end.label) (within_self f end.label once here)) refl

  pub cut_is : 0 < count_of f start.label → 0 < count_of f end.label → (a b : Bool) → a ≡ start_cuts f start start.label → b ≡ end_cuts f end end.label
      → ((not sides.after && a) || (not sides.before && b)) ≡ is_cut f start end l
  unfolding is_cut
  cut_is start_here end_here a b e e' =
      ap (λ v. (not sides.after && v) || (not sides.before && b)) e
      ∙ (ap (λ v. (not sides.after && start_cuts f start start.label) || (not sides.before && v)) e'
      ∙ (ap (λ v. v || (not sides.before && end_cuts f end end.label)) (sym (start_cut start_here sides.after refl))
      ∙ ap (λ v. start_cuts f start l || v) (sym (end_cut end_here sides.before refl))))
