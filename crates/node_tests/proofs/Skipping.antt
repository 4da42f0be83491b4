-- Of a tree that lies wholly before the start of a range or wholly after its end no node is wanted, and of one that lies
-- between them each is.
use Rattle.std.proofs.Common.{◌≡◌, ◌≢◌, ℕ, zero, suc, ◌<◌, ◌≤◌, Bool, true, false, not, ◌&&◌, ◌||◌, [], Some, None, refl, sym, ap, subst, ◌∙◌, inl, inr, arith, eqb, nat_lt, nat_le}
use Rattle.std.specs.Option.{option_map_or}
use Rattle.std.proofs.lemmas.Bool.{lt-ltb, le-ltb, lt-leb, le-leb}
use Rattle.std.proofs.lemmas.Bool.Decides.{eqb_tells}
use Rattle.node_styles.specs.DomModel.declared.Content.{Content}
use Rattle.node_styles.specs.DomModel.Contents.{length_of}
use Rattle.node_styles.specs.DomModel.Forest.{Forest, count_of, IsDistinct, IsWithin, tree_of, parent_of, children_of}
use Rattle.node_styles.specs.DomModel.Forest.Forest.{Nil, Tree}
use Rattle.node_styles.specs.DomModel.Places.{place_in, index_of, first_of_two}
use Rattle.node_styles.proofs.DomModel.Earlier.{first_of_two-siblings, first_of_two-swap}
use Rattle.node_styles.proofs.DomModel.Links.{tree_is, eqb_refl_true}
use Rattle.node_styles.proofs.DomModel.Move.{parent_apart}
use Rattle.node_styles.proofs.DomModel.Within.{within_self, within_up}
use Rattle.point_order.specs.LiveRange.declared.places.Point.{Point}
use Rattle.point_order.specs.PointOrder.{is_before, child_toward}
use Rattle.node_tests.specs.declared.listing.Wanted.{Wanted}
use Rattle.node_tests.specs.declared.listing.Wanted.TheVariants.{Contained, Effective}
use Rattle.node_tests.specs.CollapsedWhitespace.{is_words}
use Rattle.node_tests.specs.Listing.{is_wanted, LiesBefore, LiesAfter}
use Rattle.node_tests.specs.Ranges.{is_contained, is_partial, is_touched, all_effective, is_effectively_contained}
use Rattle.node_tests.proofs.Pieces.{count_in_tree}
use Rattle.node_tests.proofs.Toward.{through, toward, toward_none, apart}
use Rattle.node_tests.proofs.Untouched.{all_false, some_trees}
use Rattle.node_tests.proofs.Wanting.{passed, passed_none}

pub and_none : (v : Bool) → (v && false) ≡ false
and_none true = refl
and_none false = refl

differs : (m n : ℕ) → m ≢ n → eqb m n ≡ false
differs m n off = elim (eqb_tells m n) [ inl (_, e) ↦ absurd (off e) | inr (t, _) ↦ t ]

module _ (f : Forest Content) (once : IsDistinct f) where
  -- ---- trees on one side of a point

  index_in : (k top : ℕ) → parent_of f k ≡ Some top → index_of f k ≡ place_in (children_of f top) k
  index_in k top child = ap (λ o. option_map_or (λ p. place_in (children_of f p) k) o 0) child

  -- what lies below an earlier sibling comes before what lies below a later one
  module _ (top k c : ℕ) (p q : Point) (child : parent_of f k ≡ Some top) (other : parent_of f c ≡ Some top) (low : index_of f k < index_of f c) (in_c : IsWithin f c p.label) (in_k : IsWithin f k q.label) where
    off : k ≢ c
    off e = omega (arith, low, ap (index_of f) e)

    unlike : q.label ≢ p.label
    unlike e =
        let there : 0 < count_of f q.label = (let fewer = count_in_tree f k q.label in omega (arith, fewer, in_k)) in
        apart f once top k c q.label p.label child other off in_k in_c (subst (λ y. IsWithin f q.label y) e (within_self f q.label once there))

    down : child_toward f p.label q.label ≡ None
    down = toward_none f once p.label q.label (λ w. apart f once top c k p.label q.label other child (λ e. off (sym e)) in_c in_k w)

    up : child_toward f q.label p.label ≡ None
    up = toward_none f once q.label p.label (λ w. apart f once top k c q.label p.label child other off in_k in_c w)

    first : first_of_two f q.label p.label ≡ Some q.label
    first =
        let places : place_in (children_of f top) k < place_in (children_of f top) c = omega (arith, low, index_in k top child, index_in c top other) in
        first_of_two-siblings f once k c top q.label p.label child other places in_k in_c

    pub not_before : is_before f p q ≡ false
    unfolding is_before
    not_before = rw (differs p.label q.label (λ e. unlike (sym e)), down, up, first_of_two-swap f p.label q.label, first) (differs q.label p.label unlike)

    pub comes_first : is_before f q p ≡ true
    unfolding is_before
    comes_first = rw (differs q.label p.label unlike, up, down, first) (eqb_refl_true q.label)

  pub sibling_before : (top k c : ℕ) (p : Point) → parent_of f k ≡ Some top → parent_of f c ≡ Some top → index_of f k < index_of f c → IsWithin f c p.label → LiesBefore f p k
  sibling_before top k c p child other low in_c = record {
    comes = λ x o in_k. comes_first top k c p (record { label = x; offset = o }) child other low in_c in_k;
    none = λ x o in_k. not_before top k c p (record { label = x; offset = o }) child other low in_c in_k;
  }

  pub sibling_after : (top k c : ℕ) (p : Point) → parent_of f k ≡ Some top → parent_of f c ≡ Some top → index_of f c < index_of f k → IsWithin f c p.label → LiesAfter f p k
  sibling_after top k c p child other high in_c = record {
    comes = λ x o in_k. comes_first top c k (record { label = x; offset = o }) p other child high in_k in_c;
    none = λ x o in_k. not_before top c k (record { label = x; offset = o }) p other child high in_k in_c;
  }

  -- the children of the point's own node
  module _ (p : Point) (k : ℕ) (child : parent_of f k ≡ Some p.label) (x o : ℕ) (inside : IsWithin f k x) where
    not_own : x ≢ p.label
    not_own e = parent_apart f k p.label once child (subst (λ y. IsWithin f k y) e inside)

    none_toward : child_toward f x p.label ≡ None
    none_toward = toward_none f once x p.label (λ w. parent_apart f k p.label once child (through f once k x p.label inside w))

    from_own : is_before f p (record { label = x; offset = o }) ≡ nat_le p.offset (index_of f k)
    unfolding is_before
    from_own = rw (differs p.label x (λ e. not_own (sym e)), toward f once p.label k x child inside) refl

    to_own : is_before f (record { label = x; offset = o }) p ≡ nat_lt (index_of f k) p.offset
    unfolding is_before
    to_own = rw (differs x p.label not_own, none_toward, toward f once p.label k x child inside) refl

  pub own_before : (p : Point) (k : ℕ) → parent_of f k ≡ Some p.label → index_of f k < p.offset → LiesBefore f p k
  own_before p k child low = record {
    comes = λ x o inside. to_own p k child x o inside ∙ lt-ltb (index_of f k) p.offset low;
    none = λ x o inside. from_own p k child x o inside ∙ lt-leb p.offset (index_of f k) low;
  }

  pub own_after : (p : Point) (k : ℕ) → parent_of f k ≡ Some p.label → p.offset ≤ index_of f k → LiesAfter f p k
  own_after p k child high = record {
    comes = λ x o inside. from_own p k child x o inside ∙ le-leb p.offset (index_of f k) high;
    none = λ x o inside. to_own p k child x o inside ∙ le-ltb (index_of f k) p.offset high;
  }

  -- what lies on one side of a point lies there with its children
  pub child_before : (p : Point) (l k : ℕ) → parent_of f k ≡ Some l → LiesBefore f p l → LiesBefore f p k
  child_before p l k child lies = record {
    comes = λ x o inside. lies.comes x o (within_up f once k l x child inside);
    none = λ x o inside. lies.none x o (within_up f once k l x child inside);
  }

  pub child_after : (p : Point) (l k : ℕ) → parent_of f k ≡ Some l → LiesAfter f p l → LiesAfter f p k
  child_after p l k child lies = record {
    comes = λ x o inside. lies.comes x o (within_up f once k l x child inside);
    none = λ x o inside. lies.none x o (within_up f once k l x child inside);
  }

  -- ---- no node of these is wanted

  module _ (start end : Point) where
    on_start : is_before f start (record { label = start.label; offset = suc start.offset }) ≡ true
    unfolding is_before
    on_start = rw (eqb_refl_true start.label) (lt-ltb start.offset (suc start.offset) (omega arith))

    on_end : (n : ℕ) → end.offset ≡ suc n → is_before f (record { label = end.label; offset = 0 }) end ≡ true
    unfolding is_before
    on_end n e = rw (eqb_refl_true end.label) (lt-ltb 0 end.offset (omega (arith, e)))

    no_part : (y : ℕ) → y ≢ start.label → (eqb y end.label && not (eqb end.offset 0)) ≡ false → is_partial f start end y ≡ false
    unfolding is_partial
    no_part y off none =
        ap (λ v. is_words f y && ((v && not (eqb start.offset (length_of f y))) || (eqb y end.label && not (eqb end.offset 0)))) (differs y start.label off)
        ∙ (ap (λ v. is_words f y && v) none ∙ and_none (is_words f y))

    untouched : (y : ℕ) → is_contained f start end y ≡ false → is_partial f start end y ≡ false → is_touched f start end y ≡ false
    unfolding is_touched
    untouched y out none = ap (λ v. v || is_partial f start end y) out ∙ none

    unlisted : (k x : ℕ) → IsWithin f k x → ((y : ℕ) → IsWithin f k y → is_touched f start end y ≡ false) → is_effectively_contained f start end x ≡ false
    unfolding is_effectively_contained
    unlisted k x inside off =
        let there : 0 < count_of f x = (let fewer = count_in_tree f k x in omega (arith, fewer, inside)) in
        ap (λ v. is_before f start end && v) (all_false f start end (tree_of f x) (λ y h. off y (through f once k x y inside h)) (some_trees (tree_of f x) x (within_self f x once there)))
        ∙ and_none (is_before f start end)

    pub reversed : (x : ℕ) → is_before f start end ≡ false → is_effectively_contained f start end x ≡ false
    unfolding is_effectively_contained
    reversed x e = ap (λ v. v && all_effective f start end (tree_of f x)) e

    contained_inside : (k : ℕ) → 0 < count_of f k → LiesAfter f start k → LiesBefore f end k → is_contained f start end k ≡ true
    unfolding is_contained
    contained_inside k here after before =
        let self = within_self f k once here in
        rw (after.comes k 0 self) (before.comes k (length_of f k) self)

    touched_inside : (k : ℕ) → is_contained f start end k ≡ true → is_touched f start end k ≡ true
    unfolding is_touched
    touched_inside k e = ap (λ v. v || is_partial f start end k) e

    effective_inside : (k : ℕ) → 0 < count_of f k → LiesAfter f start k → LiesBefore f end k → is_before f start end ≡ true → is_effectively_contained f start end k ≡ true
    unfolding is_effectively_contained
    effective_inside k here after before ordered =
        let t = tree_is f k (omega (arith, once k, here)) in
        let touched = touched_inside k (contained_inside k here after before) in
        let all : all_effective f start end (Tree k t.0 t.1 Nil) ≡ true = (rw touched refl) in
        ap (λ v. v && all_effective f start end (tree_of f k)) ordered ∙ ap (all_effective f start end) t.2 ∙ all

    module _ (k : ℕ) (lies : LiesBefore f start k) where
      pub out_before : (x : ℕ) → IsWithin f k x → is_contained f start end x ≡ false
      unfolding is_contained
      out_before x inside = ap (λ v. v && is_before f (record { label = x; offset = length_of f x }) end) (lies.none x 0 inside)

      not_start : (y : ℕ) → IsWithin f k y → y ≢ start.label
      not_start y inside e =
          let t = lies.none start.label (suc start.offset) (subst (λ z. IsWithin f k z) e inside) in
          let u = on_start in
          cc

      past_start : (n : ℕ) → count_of (tree_of f k) end.label ≡ n → (x : ℕ) → IsWithin f k x → is_effectively_contained f start end x ≡ false
      past_start zero e x inside =
          unlisted k x inside (λ y h.
          let off : y ≢ end.label = (λ is. let h' = subst (λ z. IsWithin f k z) is h in omega (arith, h', e)) in
          untouched y (out_before y h) (no_part y (not_start y h) (ap (λ v. v && not (eqb end.offset 0)) (differs y end.label off))))
      past_start (suc n) e x inside = reversed x (lies.none end.label end.offset (omega (arith, e)))

      pub unwanted_before : (w : Wanted) (x : ℕ) → IsWithin f k x → is_wanted w f start end x ≡ false
      unfolding is_wanted
      unwanted_before Contained x inside = out_before x inside
      unwanted_before Effective x inside = past_start (count_of (tree_of f k) end.label) refl x inside

      pub skipped_before : (w : Wanted) → passed (is_wanted w f start end) (tree_of f k) ≡ []
      skipped_before w = passed_none (is_wanted w f start end) (tree_of f k) (unwanted_before w)

    module _ (k : ℕ) (lies : LiesAfter f end k) where
      pub out_after : (x : ℕ) → IsWithin f k x → is_contained f start end x ≡ false
      unfolding is_contained
      out_after x inside =
          ap (λ v. is_before f start (record { label = x; offset = 0 }) && v) (lies.none x (length_of f x) inside)
          ∙ and_none (is_before f start (record { label = x; offset = 0 }))

      at_start : (n y : ℕ) → end.offset ≡ n → IsWithin f k y → (eqb y end.label && not (eqb end.offset 0)) ≡ false
      at_start zero y e inside = ap (λ v. eqb y end.label && not (eqb v 0)) e ∙ and_none (eqb y end.label)
      at_start (suc n) y e inside =
          let off : y ≢ end.label = (λ is.
          let t = lies.none end.label 0 (subst (λ z. IsWithin f k z) is inside) in
          let u = on_end n e in
          cc) in
          ap (λ v. v && not (eqb end.offset 0)) (differs y end.label off)

      past_end : (n : ℕ) → count_of (tree_of f k) start.label ≡ n → (x : ℕ) → IsWithin f k x → is_effectively_contained f start end x ≡ false
      past_end zero e x inside =
          unlisted k x inside (λ y h.
          let off : y ≢ start.label = (λ is. let h' = subst (λ z. IsWithin f k z) is h in omega (arith, h', e)) in
          untouched y (out_after y h) (no_part y off (at_start end.offset y refl h)))
      past_end (suc n) e x inside = reversed x (lies.none start.label start.offset (omega (arith, e)))

      pub unwanted_after : (w : Wanted) (x : ℕ) → IsWithin f k x → is_wanted w f start end x ≡ false
      unfolding is_wanted
      unwanted_after Contained x inside = out_after x inside
      unwanted_after Effective x inside = past_end (count_of (tree_of f k) start.label) refl x inside

      pub skipped_after : (w : Wanted) → passed (is_wanted w f start end) (tree_of f k) ≡ []
      skipped_after w = passed_none (is_wanted w f start end) (tree_of f k) (unwanted_after w)

    -- ---- each node of these is wanted

    pub wanted_inside : (k : ℕ) → 0 < count_of f k → LiesAfter f start k → LiesBefore f end k → is_before f start end ≡ true → (w : Wanted) → is_wanted w f start end k ≡ true
    unfolding is_wanted
    wanted_inside k here after before ordered Contained = contained_inside k here after before
    wanted_inside k here after before ordered Effective = effective_inside k here after before ordered
