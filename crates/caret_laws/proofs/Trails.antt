-- Points that lead on in tree order: into a child, over a blank character, and out of a node at its end. No trail of such steps
-- comes to a point before its beginning.
use Rattle.std.proofs.Common.{◌≡◌, ℕ, zero, suc, ◌+◌, ◌<◌, ◌≤◌, ◌⊎◌, true, false, List, [], ◌∷◌, Option, Some, None, refl, sym, ap, subst, ◌∙◌, inl, inr, arith, add-one, cond, eqb, true≢false}
use Rattle.std.specs.Prelude.{slice_get}
use Rattle.std.specs.Option.{option_map_or}
use Rattle.std.proofs.lemmas.Bool.{cases_Bool, cases_lt, lt-ltb, le-ltb}
use Rattle.std.proofs.lemmas.Bool.Decides.{eqb_tells}
use Rattle.edit_model.specs.DomModel.declared.Content.{Content}
use Rattle.edit_model.specs.DomModel.Contents.{length_of}
use Rattle.edit_model.specs.DomModel.Forest.{Forest, Seen, seek, times, count_of, tree_of, parent_of, children_of, IsDistinct, IsWithin, depth_of}
use Rattle.edit_model.specs.DomModel.Places.{place_in, index_of}
use Rattle.edit_model.proofs.DomModel.Links.{eqb_refl_true, found_stands, parent_of_child, child_of_parent, parent_count, times-children_of}
use Rattle.edit_model.proofs.DomModel.Totals.{total-without}
use Rattle.edit_model.proofs.DomModel.Within.{within_self, within_up, within_root, depth_of-parent}
use Rattle.edit_model.specs.LiveRange.declared.places.Point.{Point}
use Rattle.edit_model.specs.PointOrder.PointOrder.{is_before}
use Rattle.inline_value.specs.NodeTests.BlockPoints.{child_at}
use Rattle.inline_value.specs.NodeTests.Listing.{LiesAfter, LiesBefore, Follows, Precedes}
use Rattle.inline_value.proofs.NodeTests.Reaching.{after_it, before_it, child_with}
use Rattle.edit_model.specs.Valid.{IsForest}
use Rattle.edit_model.proofs.Documents.{within_above, within_below}
use Rattle.edit_model.proofs.Trees.{none_or_some}
use Rattle.delete_core.specs.Places.{at}
use Rattle.delete_core.specs.Spaces.{is_blank}
use Rattle.delete_core.specs.Whitespace.{char_at}

-- ---- the place of a label in a list

at_place : (xs : List ℕ) (l : ℕ) → 0 < times xs l → slice_get xs (place_in xs l) ≡ Some l
at_place [] l h = absurd (omega (arith, h))
at_place (x ∷ xs) l h =
    elim (eqb_tells x l) [
      | inl (t, is) ↦ rw t (ap Some is)
      | inr (t, _) ↦ (let h' = rw t at h in rw (t, add-one) (at_place xs l (omega (arith, h'))))
    ]

get_times : (xs : List ℕ) (i k : ℕ) → slice_get xs i ≡ Some k → 0 < times xs k
get_times [] i k e = absurd (let t = e in cc)
get_times (x ∷ xs) zero k e =
    let is : x ≡ k = (let t = e in cc) in
    elim (eqb_tells x k) [ inl (t, _) ↦ rw t (omega arith) | inr (_, off) ↦ absurd (off is) ]
get_times (x ∷ xs) (suc i) k e = omega (arith, get_times xs i k e)

place_is : (xs : List ℕ) (i k : ℕ) → ((j : ℕ) → times xs j ≤ 1) → slice_get xs i ≡ Some k → place_in xs k ≡ i
place_is [] i k once e = absurd (let t = e in cc)
place_is (x ∷ xs) zero k once e =
    let is : x ≡ k = (let t = e in cc) in
    elim (eqb_tells x k) [ inl (t, _) ↦ rw t refl | inr (_, off) ↦ absurd (off is) ]
place_is (x ∷ xs) (suc i) k once e =
    elim (eqb_tells x k) [
      | inl (t, _) ↦ absurd (let one = rw t at (once k) in omega (arith, one, get_times xs i k e))
      | inr (t, _) ↦ rw (t, add-one) (ap suc (place_is xs i k (λ j. omega (arith, once j)) e))
    ]

-- ---- points of one node

same_label : (f : Forest Content) (x z : Point) → x.label ≡ z.label → x.offset < z.offset → is_before f x z ≡ true
unfolding is_before
same_label f x z is low = rw (is, eqb_refl_true z.label) (lt-ltb x.offset z.offset low)

pub same_high : (f : Forest Content) (x z : Point) → x.label ≡ z.label → z.offset ≤ x.offset → is_before f x z ≡ false
unfolding is_before
same_high f x z is high = rw (is, eqb_refl_true z.label) (le-ltb x.offset z.offset high)

pub same_low : (f : Forest Content) (x z : Point) → x.label ≡ z.label → is_before f x z ≡ true → x.offset < z.offset
same_low f x z is e = elim (cases_lt x.offset z.offset) [
  | inl low ↦ low
  | inr high ↦ absurd (true≢false (sym e ∙ same_high f x z is high))
]

pub not_itself : (f : Forest Content) (x : Point) → is_before f x x ≡ false
not_itself f x = elim (cases_Bool (is_before f x x)) [
  | inl e ↦ absurd (let low = same_low f x x refl e in omega (arith, low))
  | inr e ↦ e
]

module _ (f : Forest Content) (once : IsDistinct f) where
  -- ---- children by their indexes

  parent_among : (p k : ℕ) → 0 < times (children_of f p) k → parent_of f k ≡ Some p
  parent_among p k h = by_seen (seek None f p) refl h
    where
      by_seen : (o : Option (Seen Content)) → seek None f p ≡ o → 0 < times (option_map_or (λ s. s.children) o []) k → parent_of f k ≡ Some p
      by_seen None e t = absurd (omega (arith, t))
      by_seen (Some s) e t = parent_of_child f p k s once (found_stands f p s once e) t

  child_among : (k p : ℕ) → parent_of f k ≡ Some p → 0 < times (children_of f p) k
  child_among k p child =
      let r = child_of_parent f k p once child in
      let e : children_of f p ≡ r.0.children = ap (λ o. option_map_or (λ (s : Seen Content). s.children) o []) r.2 in
      rw e r.3

  place_of : (k p : ℕ) → parent_of f k ≡ Some p → index_of f k ≡ place_in (children_of f p) k
  place_of k p child = ap (λ o. option_map_or (λ q. place_in (children_of f q) k) o 0) child

  pub own_index : (k p : ℕ) → parent_of f k ≡ Some p → child_at f p (index_of f k) ≡ Some k
  own_index k p child = ap (slice_get (children_of f p)) (place_of k p child) ∙ at_place (children_of f p) k (child_among k p child)

  pub index_is : (p k i : ℕ) → child_at f p i ≡ Some k → (parent_of f k ≡ Some p) × (index_of f k ≡ i)
  index_is p k i found =
      let child = parent_among p k (get_times (children_of f p) i k found) in
      (child, place_of k p child ∙ place_is (children_of f p) i k (λ j. times-children_of f p j once) found)

  pub same_index : (p j k : ℕ) → parent_of f j ≡ Some p → parent_of f k ≡ Some p → index_of f j ≡ index_of f k → j ≡ k
  same_index p j k cj ck e =
      let t : Some j ≡ Some k = sym (own_index j p cj) ∙ (ap (child_at f p) e ∙ own_index k p ck) in
      cc

  -- the side on which a child lies to a point of its parent's tree
  side : (z : Point) (p k : ℕ) → parent_of f k ≡ Some p → IsWithin f p z.label → Follows f z p k ⊎ (Precedes f z p k ⊎ IsWithin f k z.label)
  side z p k child inside =
      elim (eqb_tells z.label p) [
        | inl (_, is) ↦ elim (cases_lt (index_of f k) z.offset) [
          | inl low ↦ inr (inl (inl (is, low)))
          | inr high ↦ inl (inl (is, high))
        ]
        | inr (_, off) ↦ (
            let m = child_with f once p z.label (parent_count f k p once child).1 inside (λ e. off (sym e)) in
            elim (cases_lt (index_of f k) (index_of f m.0)) [
              | inl low ↦ inr (inl (inr (m.0, m.1, m.2, low)))
              | inr high ↦ elim (cases_lt (index_of f m.0) (index_of f k)) [
                | inl low ↦ inl (inr (m.0, m.1, m.2, low))
                | inr low ↦ inr (inr (subst (λ j. IsWithin f j z.label) (same_index p m.0 k m.1 child (omega (arith, high, low))) m.2))
              ]
            ])
      ]

-- ---- steps

-- into the child at a point
pub record Into (f : Forest Content) (x y : Point) : Type 0 where
  pub child : ℕ
  pub stands : child_at f x.label x.offset ≡ Some child
  pub there : y ≡ at child 0

-- over a blank character
pub record Over (f : Forest Content) (x y : Point) : Type 0 where
  pub char : ℕ
  pub stands : char_at f x ≡ Some char
  pub blank : is_blank char ≡ true
  pub there : y ≡ at x.label (x.offset + 1)

-- out of a node at its end
pub record Out (f : Forest Content) (x y : Point) : Type 0 where
  pub parent : ℕ
  pub child : parent_of f x.label ≡ Some parent
  pub end : x.offset ≡ length_of f x.label
  pub there : y ≡ at parent (index_of f x.label + 1)

pub data Step : Forest Content → Point → Point → Type 0 where
  into : {f : Forest Content} {x y : Point} → Into f x y → Step f x y
  over : {f : Forest Content} {x y : Point} → Over f x y → Step f x y
  out : {f : Forest Content} {x y : Point} → Out f x y → Step f x y

pub data Trail : Forest Content → Point → Point → Type 0 where
  stop : {f : Forest Content} {x y : Point} → x ≡ y → Trail f x y
  on : {f : Forest Content} {x y : Point} (z : Point) → Trail f x z → Step f z y → Trail f x y

pub trail_here : (f : Forest Content) (x : Point) → Trail f x x
trail_here f x = stop refl

pub trail_step : (f : Forest Content) (x y : Point) → Step f x y → Trail f x y
trail_step f x y s = on x (trail_here f x) s

pub trail_trans : (f : Forest Content) (x y z : Point) → Trail f x y → Trail f y z → Trail f x z
trail_trans f x y z p (stop e) = subst (λ w. Trail f x w) e p
trail_trans f x y z p (on w q s) = on w (trail_trans f x y w p q) s

-- the first step of a trail
pub trail_first : (f : Forest Content) (x z : Point) → Trail f x z → (x ≡ z) ⊎ ((y : Point) × Step f x y × Trail f y z)
trail_first f x z (stop e) = inl e
trail_first f x z (on w q s) = elim (trail_first f x w q) [
  | inl e ↦ inr (z, subst (λ v. Step f v z) (sym e) s, trail_here f z)
  | inr (y, first, rest) ↦ inr (y, first, on w rest s)
]

-- ---- what lies after a step lies after its beginning

module _ (f : Forest Content) (next : ℕ) (law : IsForest f next) where
  abbrev once : IsDistinct f
  once = law.distinct

  pub there_is : (l : ℕ) → IsWithin f 0 l → 0 < count_of f l
  there_is l h = omega (arith, h, total-without (λ m _. cond (eqb m l) 1 0) f 0)

  -- a point outside a node's tree lies on one side of it
  beside : (n l : ℕ) (z : Point) → depth_of f l < n → IsWithin f 0 l → IsWithin f 0 z.label → (IsWithin f l z.label → ⊥) → LiesAfter f z l ⊎ LiesBefore f z l
  beside zero l z low here there apart = absurd (omega (arith, low))
  beside (suc n) l z low here there apart =
      by_parent (parent_of f l) refl (λ p e off. beside n p z (omega (arith, low, depth_of-parent f l p law.distinct e)) (within_above f next law p l e here) there off)
    where
      by_parent : (o : Option ℕ) → parent_of f l ≡ o → ((p : ℕ) → parent_of f l ≡ Some p → (IsWithin f p z.label → ⊥) → LiesAfter f z p ⊎ LiesBefore f z p) → LiesAfter f z l ⊎ LiesBefore f z l
      by_parent None e above = elim (eqb_tells 0 l) [
        | inl (_, is) ↦ absurd (apart (subst (λ x. IsWithin f x z.label) is there))
        | inr (_, off) ↦ absurd (within_root f 0 law.distinct law.document l off e here)
      ]
      by_parent (Some p) e above = elim (none_or_some (count_of (tree_of f p) z.label)) [
        | inr inside ↦ elim (side f law.distinct z p l e inside) [
          | inl follows ↦ inl (after_it f law.distinct z p l e follows)
          | inr (inl precedes) ↦ inr (before_it f law.distinct z p l e precedes)
          | inr (inr within) ↦ absurd (apart within)
        ]
        | inl none ↦ elim (above p e (λ w. omega (arith, none, w))) [
          | inl after ↦ inl (record {
            comes = λ x o w. after.comes x o (within_up f law.distinct l p x e w);
            none = λ x o w. after.none x o (within_up f law.distinct l p x e w);
          })
          | inr before ↦ inr (record {
            comes = λ x o w. before.comes x o (within_up f law.distinct l p x e w);
            none = λ x o w. before.none x o (within_up f law.distinct l p x e w);
          })
        ]
      ]

  module _ (z : Point) (there : IsWithin f 0 z.label) where
    -- where z is outside the tree of p, and in it
    pub by_tree : {A : Type 0} (p : ℕ) → IsWithin f 0 p → (LiesAfter f z p → A) → (LiesBefore f z p → A) → (z.label ≡ p → A) → ((m : ℕ) → parent_of f m ≡ Some p → IsWithin f m z.label → A) → A
    by_tree p here after before own below = elim (none_or_some (count_of (tree_of f p) z.label)) [
      | inl none ↦ elim (beside (suc (depth_of f p)) p z (omega arith) here there (λ w. omega (arith, none, w))) [ inl lies ↦ after lies | inr lies ↦ before lies ]
      | inr inside ↦ elim (eqb_tells z.label p) [
        | inl (_, is) ↦ own is
        | inr (_, off) ↦ (let m = child_with f law.distinct p z.label (there_is p here) inside (λ e. off (sym e)) in below m.0 m.1 m.2)
      ]
    ]

    into_first : (p i k : ℕ) → child_at f p i ≡ Some k → IsWithin f 0 p → is_before f (at k 0) z ≡ true → is_before f (at p i) z ≡ true
    into_first p i k found here e =
        let c = index_is f law.distinct p k i found in
        let own = within_self f k law.distinct (parent_count f k p law.distinct c.0).0 in
        by_tree p here
        (λ lies. absurd (true≢false (sym e ∙ lies.none k 0 (within_up f law.distinct k p k c.0 own))))
        (λ lies. lies.comes p i (within_self f p law.distinct (there_is p here)))
        (λ is. elim (cases_lt i z.offset) [
          | inl low ↦ same_label f (at p i) z (sym is) low
          | inr high ↦ absurd (true≢false (sym e ∙ (after_it f law.distinct z p k c.0 (inl (is, omega (arith, high, c.1)))).none k 0 own))
        ])
        (λ m child inside. elim (cases_lt (index_of f m) (index_of f k)) [
          | inl low ↦ absurd (true≢false (sym e ∙ (after_it f law.distinct z p k c.0 (inr (m, child, inside, low))).none k 0 own))
          | inr high ↦ (after_it f law.distinct (at p i) p m child (inl (refl, omega (arith, high, c.1)))).comes z.label z.offset inside
        ])

    over_first : (l o : ℕ) → IsWithin f 0 l → is_before f (at l (o + 1)) z ≡ true → is_before f (at l o) z ≡ true
    over_first l o here e =
        let own = within_self f l law.distinct (there_is l here) in
        by_tree l here
        (λ lies. absurd (true≢false (sym e ∙ lies.none l (o + 1) own)))
        (λ lies. lies.comes l o own)
        (λ is. same_label f (at l o) z (sym is) (let low = same_low f (at l (o + 1)) z (sym is) e in omega (arith, low)))
        (λ m child inside. elim (cases_lt (index_of f m) (o + 1)) [
          | inl low ↦ absurd (true≢false (sym e ∙ (before_it f law.distinct (at l (o + 1)) l m child (inl (refl, low))).none z.label z.offset inside))
          | inr high ↦ (after_it f law.distinct (at l o) l m child (inl (refl, omega (arith, high)))).comes z.label z.offset inside
        ])

    out_first : (k o p : ℕ) → parent_of f k ≡ Some p → IsWithin f 0 k → is_before f (at p (index_of f k + 1)) z ≡ true → is_before f (at k o) z ≡ true
    out_first k o p child here e =
        let own = within_self f k law.distinct (there_is k here) in
        let up = within_above f next law p k child here in
        by_tree p up
        (λ lies. absurd (true≢false (sym e ∙ lies.none p (index_of f k + 1) (within_self f p law.distinct (there_is p up)))))
        (λ lies. lies.comes k o (within_up f law.distinct k p k child own))
        (λ is. (before_it f law.distinct z p k child (inl (is, (let low = same_low f (at p (index_of f k + 1)) z (sym is) e in omega (arith, low))))).comes k o own)
        (λ m other inside. elim (cases_lt (index_of f m) (index_of f k + 1)) [
          | inl low ↦ absurd (true≢false (sym e ∙ (before_it f law.distinct (at p (index_of f k + 1)) p m other (inl (refl, low))).none z.label z.offset inside))
          | inr high ↦ (after_it f law.distinct (at k o) p m other (inr (k, child, own, omega (arith, high)))).comes z.label z.offset inside
        ])

    step_first : (x y : Point) → Step f x y → IsWithin f 0 x.label → is_before f y z ≡ true → is_before f x z ≡ true
    step_first x y (into s) here e = into_first x.label x.offset s.child s.stands here (subst (λ v. is_before f v z ≡ true) s.there e)
    step_first x y (over s) here e = over_first x.label x.offset here (subst (λ v. is_before f v z ≡ true) s.there e)
    step_first x y (out s) here e = out_first x.label x.offset s.parent s.child here (subst (λ v. is_before f v z ≡ true) s.there e)

  step_inside : (x y : Point) → Step f x y → IsWithin f 0 x.label → IsWithin f 0 y.label
  step_inside x y (into s) here = subst (λ v. IsWithin f 0 v.label) (sym s.there) (within_below f next law x.label s.child (index_is f law.distinct x.label s.child x.offset s.stands).0 here)
  step_inside x y (over s) here = subst (λ v. IsWithin f 0 v.label) (sym s.there) here
  step_inside x y (out s) here = subst (λ v. IsWithin f 0 v.label) (sym s.there) (within_above f next law s.parent x.label s.child here)

  pub trail_inside : (x y : Point) → Trail f x y → IsWithin f 0 x.label → IsWithin f 0 y.label
  trail_inside x y (stop e) here = subst (λ v. IsWithin f 0 v.label) e here
  trail_inside x y (on z p s) here = step_inside z y s (trail_inside x z p here)

  trail_before : (x y z : Point) → IsWithin f 0 z.label → Trail f x y → IsWithin f 0 x.label → is_before f y z ≡ true → is_before f x z ≡ true
  trail_before x y z there (stop e) here b = subst (λ v. is_before f v z ≡ true) (sym e) b
  trail_before x y z there (on w p s) here b = trail_before x w z there p here (step_first z there w y s (trail_inside x w p here) b)

  -- so a trail doesn't lead back
  pub not_back : (x y : Point) → Trail f x y → IsWithin f 0 x.label → is_before f y x ≡ false
  not_back x y p here = elim (cases_Bool (is_before f y x)) [
    | inl e ↦ absurd (true≢false (sym (trail_before x y x here p here e) ∙ not_itself f x))
    | inr e ↦ e
  ]

  -- a node that a step leads out of lies before the step's end
  pub out_before : (x y : Point) → Out f x y → IsWithin f 0 x.label → (o : ℕ) → is_before f (at x.label o) y ≡ true
  out_before x y s here o =
      subst (λ v. is_before f (at x.label o) v ≡ true) (sym s.there)
      ((before_it f law.distinct (at s.parent (index_of f x.label + 1)) s.parent x.label s.child (inl (refl, omega arith))).comes x.label o (within_self f x.label law.distinct (there_is x.label here)))

-- past a blank character of the same text a trail that comes back to the text comes to a later character
pub later_there : (f : Forest Content) (x y : Point) → x.label ≡ y.label → is_before f y x ≡ false → x.offset ≤ y.offset
later_there f x y is e = elim (cases_lt y.offset x.offset) [
  | inl low ↦ absurd (true≢false (sym (same_label f y x (sym is) low) ∙ e))
  | inr high ↦ high
]
