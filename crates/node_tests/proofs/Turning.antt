-- The places beside the children of a node.
use Rattle.std.proofs.Common.{◌≡◌, ◌≢◌, ℕ, zero, suc, ◌+◌, ◌<◌, ◌≤◌, Bool, true, false, ◌||◌, List, [], ◌∷◌, length, Option, Some, None, refl, sym, ap, ◌∙◌, inl, inr, arith, eqb, is_none, add-one}
use Rattle.std.specs.Prelude.{slice_get}
use Rattle.std.specs.Option.{option_map, option_map_or}
use Rattle.std.proofs.lemmas.Bool.Decides.{eqb_tells}
use Rattle.node_styles.specs.DomModel.declared.Content.{Content}
use Rattle.node_styles.specs.DomModel.declared.Content.TheVariants.{Document, Element, Words, Remark}
use Rattle.node_styles.specs.DomModel.Contents.{may_have_children, length_in, length_of}
use Rattle.node_styles.specs.DomModel.Forest.{Forest, Seen, seek, content_of, times, count_of, IsDistinct, first_in, last_or, last_in, before_from, before_in, after_in, parent_of, children_of, first_of, last_of, prev_of, next_of}
use Rattle.node_styles.specs.DomModel.Places.{place_in, index_of}
use Rattle.node_styles.proofs.DomModel.Lists.{before_from_some}
use Rattle.node_styles.proofs.DomModel.Links.{parent_count, times-children_of}
use Rattle.node_styles.specs.NodeArena.declared.NodeRef.{NodeRef}
use Rattle.node_styles.specs.NodeArena.Held.{label}
use Rattle.node_styles.specs.NodeArena.Reads.{IsValid}
use Rattle.node_tests.specs.BlockPoints.{child_before, child_at}
use Rattle.node_tests.specs.Gaps.{StandsAt}
use Rattle.node_tests.proofs.Around.{content_at, family, next_in, prev_in}

-- ---- lists

differ : (m n : ℕ) → m ≢ n → eqb m n ≡ false
differ m n off = elim (eqb_tells m n) [ inl (_, e) ↦ absurd (off e) | inr (t, _) ↦ t ]

eqb_shift : (m n : ℕ) → eqb (m + 1) (n + 1) ≡ eqb m n
eqb_shift m n =
    elim (eqb_tells m n) [
      | inl (t, e) ↦ elim (eqb_tells (m + 1) (n + 1)) [ inl (u, _) ↦ u ∙ sym t | inr (_, off) ↦ absurd (off (omega (arith, e))) ]
      | inr (t, off) ↦ elim (eqb_tells (m + 1) (n + 1)) [ inl (_, e) ↦ absurd (off (omega (arith, e))) | inr (u, _) ↦ u ∙ sym t ]
    ]

-- the element before an index, where o stands before the list
abbrev preceding : Option ℕ → List ℕ → ℕ → Option ℕ
preceding o xs zero = o
preceding o xs (suc i) = slice_get xs i

cons : (x : ℕ) (xs : List ℕ) (i : ℕ) → slice_get (x ∷ xs) i ≡ preceding (Some x) xs i
cons x xs zero = refl
cons x xs (suc i) = refl

before_is : (f : Forest Content) (l i : ℕ) → child_before f l i ≡ preceding None (children_of f l) i
before_is f l zero = refl
before_is f l (suc i) = refl

before_place : (o : Option ℕ) (xs : List ℕ) (l : ℕ) → 0 < times xs l → preceding o xs (place_in xs l) ≡ before_from o xs l
before_place o [] l h = absurd (omega (arith, h))
before_place o (x ∷ xs) l h =
    elim (eqb_tells x l) [
      | inl (t, _) ↦ rw t refl
      | inr (t, _) ↦ (let h' = rw t at h in rw (t, add-one) (cons x xs (place_in xs l) ∙ before_place (Some x) xs l (omega (arith, h'))))
    ]

at_place : (xs : List ℕ) (l : ℕ) → 0 < times xs l → slice_get xs (place_in xs l) ≡ Some l
at_place [] l h = absurd (omega (arith, h))
at_place (x ∷ xs) l h =
    elim (eqb_tells x l) [
      | inl (t, is) ↦ rw t (ap Some is)
      | inr (t, _) ↦ (let h' = rw t at h in rw (t, add-one) (at_place xs l (omega (arith, h'))))
    ]

-- an element of a list, and where it stands
pub get_times : (xs : List ℕ) (i k : ℕ) → slice_get xs i ≡ Some k → 0 < times xs k
get_times [] i k e = absurd (let t = e in cc)
get_times (x ∷ xs) zero k e =
    let is : x ≡ k = (let t = e in cc) in
    elim (eqb_tells x k) [ inl (t, _) ↦ rw t (omega arith) | inr (_, off) ↦ absurd (off is) ]
get_times (x ∷ xs) (suc i) k e = omega (arith, get_times xs i k e)

pub place_is : (xs : List ℕ) (i k : ℕ) → ((j : ℕ) → times xs j ≤ 1) → slice_get xs i ≡ Some k → place_in xs k ≡ i
place_is [] i k once e = absurd (let t = e in cc)
place_is (x ∷ xs) zero k once e =
    let is : x ≡ k = (let t = e in cc) in
    elim (eqb_tells x k) [ inl (t, _) ↦ rw t refl | inr (_, off) ↦ absurd (off is) ]
place_is (x ∷ xs) (suc i) k once e =
    elim (eqb_tells x k) [
      | inl (t, _) ↦ absurd (let one = rw t at (once k) in omega (arith, one, get_times xs i k e))
      | inr (t, _) ↦ rw (t, add-one) (ap suc (place_is xs i k (λ j. omega (arith, once j)) e))
    ]

pub first_get : (xs : List ℕ) → slice_get xs 0 ≡ first_in xs
first_get [] = refl
first_get (x ∷ xs) = refl

after_place : (xs : List ℕ) (l : ℕ) → 0 < times xs l → slice_get xs (suc (place_in xs l)) ≡ after_in xs l
after_place [] l h = absurd (omega (arith, h))
after_place (x ∷ xs) l h =
    elim (eqb_tells x l) [
      | inl (t, _) ↦ rw t (first_get xs)
      | inr (t, _) ↦ (let h' = rw t at h in rw (t, add-one) (after_place xs l (omega (arith, h'))))
    ]

last_place : (o : Option ℕ) (xs : List ℕ) (n : ℕ) → n ≡ length xs → preceding o xs n ≡ last_or o xs
last_place o [] zero e = refl
last_place o [] (suc n) e = absurd (omega (arith, e))
last_place o (x ∷ xs) zero e = absurd (omega (arith, e))
last_place o (x ∷ xs) (suc n) e = cons x xs n ∙ last_place (Some x) xs n (omega (arith, e))

past_get : (xs : List ℕ) (n : ℕ) → length xs ≤ n → slice_get xs n ≡ None
past_get [] n h = refl
past_get (x ∷ xs) zero h = absurd (omega (arith, h))
past_get (x ∷ xs) (suc n) h = past_get xs n (omega (arith, h))

pub get_none : (xs : List ℕ) (n : ℕ) → slice_get xs n ≡ None → length xs ≤ n
get_none [] n e = omega arith
get_none (x ∷ xs) zero e = absurd (let t = e in cc)
get_none (x ∷ xs) (suc n) e = omega (arith, get_none xs n e)

place_low : (xs : List ℕ) (l : ℕ) → 0 < times xs l → place_in xs l < length xs
place_low [] l h = absurd (omega (arith, h))
place_low (x ∷ xs) l h =
    elim (eqb_tells x l) [
      | inl (t, _) ↦ rw t (omega arith)
      | inr (t, _) ↦ (let h' = rw t at h in rw t (omega (arith, place_low xs l (omega (arith, h')))))
    ]

-- the first place has no label before it, and the last none after it
none_before : (xs : List ℕ) (l : ℕ) → 0 < times xs l → is_none (before_in xs l) ≡ eqb (place_in xs l) 0
none_before [] l h = absurd (omega (arith, h))
none_before (x ∷ xs) l h =
    elim (eqb_tells x l) [
      | inl (t, _) ↦ rw t refl
      | inr (t, _) ↦ (let h' = rw t at h in
          rw t (before_from_some x xs l (omega (arith, h')) ∙ sym (differ (place_in xs l + 1) 0 (λ e. omega (arith, e)))))
    ]

none_first : (xs : List ℕ) → is_none (first_in xs) ≡ eqb 0 (length xs)
none_first [] = refl
none_first (x ∷ xs) = sym (differ 0 (length (x ∷ xs)) (λ e. omega (arith, e)))

none_after : (xs : List ℕ) (l : ℕ) → 0 < times xs l → is_none (after_in xs l) ≡ eqb (place_in xs l + 1) (length xs)
none_after [] l h = absurd (omega (arith, h))
none_after (x ∷ xs) l h =
    let longer : length (x ∷ xs) ≡ length xs + 1 = omega arith in
    elim (eqb_tells x l) [
      | inl (t, _) ↦ rw t (none_first xs ∙ sym (eqb_shift 0 (length xs)) ∙ ap (eqb (0 + 1)) (sym longer))
      | inr (t, _) ↦ (let h' = rw t at h in
          rw t (none_after xs l (omega (arith, h')) ∙ sym (eqb_shift (place_in xs l + 1) (length xs)) ∙ ap (eqb (place_in xs l + 1 + 1)) (sym longer)))
    ]

none_prior : (xs : List ℕ) (l : ℕ) → first_in xs ≡ Some l → before_in xs l ≡ None
none_prior [] l e = refl
none_prior (x ∷ xs) l e =
    let is : x ≡ l = (let t = e in cc) in
    elim (eqb_tells x l) [ inl (t, _) ↦ rw t refl | inr (_, off) ↦ absurd (off is) ]

pub first_prev : (f : Forest Content) → IsDistinct f → (k p : ℕ) → parent_of f k ≡ Some p → first_of f p ≡ Some k → prev_of f k ≡ None
first_prev f once k p child first = prev_in f once k p child ∙ none_prior (children_of f p) k first

-- ---- the end of a node

no_item : (n : ℕ) → preceding None [] n ≡ None
no_item zero = refl
no_item (suc n) = refl

leaf_end : (xs : List ℕ) (n : ℕ) → xs ≡ [] → (preceding None xs n ≡ last_in xs) × (slice_get xs n ≡ None)
leaf_end xs n e = rw e (no_item n, refl)

list_end : (xs : List ℕ) → (preceding None xs (length xs) ≡ last_in xs) × (slice_get xs (length xs) ≡ None)
list_end xs = (last_place None xs (length xs) refl, past_get xs (length xs) (omega arith))

at_end : (c : Content) (xs : List ℕ) → (may_have_children c ≡ false → xs ≡ []) → (preceding None xs (length_in c xs) ≡ last_in xs) × (slice_get xs (length_in c xs) ≡ None)
at_end Document xs leaf = list_end xs
at_end (Element name attributes) xs leaf = list_end xs
at_end (Words chars) xs leaf = leaf_end xs (length chars) (leaf refl)
at_end (Remark chars) xs leaf = leaf_end xs (length chars) (leaf refl)

not_empty : (xs : List ℕ) (l : ℕ) → xs ≡ [] → 0 < times xs l → ⊥
not_empty xs l e h = let h' = rw e at h in omega (arith, h')

parent_length : (c : Content) (xs : List ℕ) (l : ℕ) → (may_have_children c ≡ false → xs ≡ []) → 0 < times xs l → length_in c xs ≡ length xs
parent_length Document xs l leaf h = refl
parent_length (Element name attributes) xs l leaf h = refl
parent_length (Words chars) xs l leaf h = absurd (not_empty xs l (leaf refl) h)
parent_length (Remark chars) xs l leaf h = absurd (not_empty xs l (leaf refl) h)

-- ---- places of nodes

or_true : (a : Bool) → (a || true) ≡ true
or_true true = refl
or_true false = refl

module _ {holds : NodeRef → Type 0} {f : Forest Content} {upper : ℕ} (law : IsValid holds f upper) where
  -- Words and Remarks have no children
  leaf_children : (l : ℕ) (c : Content) → content_of f l ≡ Some c → may_have_children c ≡ false → children_of f l ≡ []
  leaf_children l c is = by_seen (seek None f l) refl is
    where
      by_seen : (o : Option (Seen Content)) → seek None f l ≡ o → option_map (λ (x : Seen Content). x.content) o ≡ Some c → may_have_children c ≡ false → children_of f l ≡ []
      by_seen None t e h = absurd (let e' = e in cc)
      by_seen (Some o) t e h =
          let same : o.content ≡ c = (let e' = e in cc) in
          ap (λ s. option_map_or (λ (x : Seen Content). x.children) s []) t ∙ (law.nodes l o t).leaf (ap may_have_children same ∙ h)

  pub stands_start : (r : NodeRef) (o : Option NodeRef) → label o ≡ first_of f r.label → StandsAt f (record { node = r; before = None; after = o }) (record { node = r.label; offset = 0 })
  stands_start r o first = record {
    node = refl;
    before = refl;
    after = first ∙ sym (first_get (children_of f r.label));
    ends = refl;
  }

  -- the children beside the end of a node
  module _ (l : ℕ) (here : 0 < count_of f l) where
    at_length : (preceding None (children_of f l) (length_of f l) ≡ last_of f l) × (child_at f l (length_of f l) ≡ None)
    at_length =
        let c = content_at f law.distinct l here in
        let length : length_of f l ≡ length_in c.0 (children_of f l) = ap (λ o. option_map_or (λ c. length_in c (children_of f l)) o 0) c.1 in
        let e = at_end c.0 (children_of f l) (leaf_children l c.0 c.1) in
        (ap (preceding None (children_of f l)) length ∙ e.0, ap (slice_get (children_of f l)) length ∙ e.1)

    pub before_end : child_before f l (length_of f l) ≡ last_of f l
    before_end = before_is f l (length_of f l) ∙ at_length.0

    pub after_end : child_at f l (length_of f l) ≡ None
    after_end = at_length.1

  pub stands_end : (r : NodeRef) → holds r → (o : Option NodeRef) → label o ≡ last_of f r.label → StandsAt f (record { node = r; before = o; after = None }) (record { node = r.label; offset = length_of f r.label })
  stands_end r held o last =
      let l = r.label in
      let here = law.here r held in
      let same : eqb (length_of f l) (length_of f l) ≡ true = (elim (eqb_tells (length_of f l) (length_of f l)) [ inl (t, _) ↦ t | inr (_, off) ↦ absurd (off refl) ]) in
      record {
        node = refl;
        before = last ∙ sym (before_end l here);
        after = sym (after_end l here);
        ends = or_true (is_none (label o)) ∙ sym (ap (λ b. eqb (length_of f l) 0 || b) same ∙ or_true (eqb (length_of f l) 0));
      }

  -- the children beside a child
  module _ (l p : ℕ) (child : parent_of f l ≡ Some p) where
    among : 0 < times (children_of f p) l
    among = let n = family f law.distinct l p child in rw n.children n.among

    long : length_of f p ≡ length (children_of f p)
    long =
        let c = content_at f law.distinct p (parent_count f l p law.distinct child).1 in
        ap (λ o. option_map_or (λ c. length_in c (children_of f p)) o 0) c.1
        ∙ parent_length c.0 (children_of f p) l (leaf_children p c.0 c.1) among

    index : index_of f l ≡ place_in (children_of f p) l
    index = ap (λ o. option_map_or (λ q. place_in (children_of f q) l) o 0) child

    after_at : index_of f l + 1 ≡ suc (place_in (children_of f p) l)
    after_at = rw add-one (ap suc index)

    pub before_index : child_before f p (index_of f l) ≡ prev_of f l
    before_index =
        before_is f p (index_of f l)
        ∙ ap (preceding None (children_of f p)) index
        ∙ before_place None (children_of f p) l among
        ∙ sym (prev_in f law.distinct l p child)

    pub after_index : child_at f p (index_of f l + 1) ≡ next_of f l
    after_index =
        ap (slice_get (children_of f p)) after_at
        ∙ after_place (children_of f p) l among
        ∙ sym (next_in f law.distinct l p child)

    pub index_low : index_of f l < length_of f p
    index_low = omega (arith, index, long, place_low (children_of f p) l among)

    pub next_index : (k : ℕ) → parent_of f k ≡ Some p → next_of f l ≡ Some k → index_of f k ≡ index_of f l + 1
    next_index k child_k next =
        ap (λ o. option_map_or (λ q. place_in (children_of f q) k) o 0) child_k
        ∙ place_is (children_of f p) (index_of f l + 1) k (λ j. times-children_of f p j law.distinct) (after_index ∙ next)

    pub index_first : first_of f p ≡ Some l → index_of f l ≡ 0
    index_first first =
        index ∙ place_is (children_of f p) 0 l (λ j. times-children_of f p j law.distinct) (first_get (children_of f p) ∙ first)

    pub first_index : index_of f l ≡ 0 → first_of f p ≡ Some l
    first_index none =
        sym (first_get (children_of f p))
        ∙ ap (slice_get (children_of f p)) (sym none ∙ index)
        ∙ at_place (children_of f p) l among

    pub last_index : length (children_of f p) ≡ index_of f l + 1 → next_of f l ≡ None
    last_index whole = sym after_index ∙ past_get (children_of f p) (index_of f l + 1) (omega (arith, whole))

    -- the index finds the child
    pub at_index : child_at f p (index_of f l) ≡ Some l
    at_index = ap (slice_get (children_of f p)) index ∙ at_place (children_of f p) l among

    pub index_under : index_of f l < length (children_of f p)
    index_under = omega (arith, index, place_low (children_of f p) l among)

    -- with no later sibling it is the last
    pub no_next : next_of f l ≡ None → length (children_of f p) ≡ index_of f l + 1
    no_next e =
        let xs = children_of f p in
        let t : eqb (place_in xs l + 1) (length xs) ≡ true = sym (none_after xs l among) ∙ ap is_none (sym (next_in f law.distinct l p child) ∙ e) in
        elim (eqb_tells (place_in xs l + 1) (length xs)) [ inl (_, same) ↦ omega (arith, same, index) | inr (u, _) ↦ absurd (let v : true ≡ false = sym t ∙ u in cc) ]

  module _ (r p : NodeRef) (child : parent_of f r.label ≡ Some p.label) where
    pub stands_before : (o : Option NodeRef) → label o ≡ prev_of f r.label → StandsAt f (record { node = p; before = o; after = Some r }) (record { node = p.label; offset = index_of f r.label })
    stands_before o prev =
        let xs = children_of f p.label in
        let some = among r.label p.label child in
        let at = index r.label p.label child in
        let before : label o ≡ before_in xs r.label = prev ∙ prev_in f law.distinct r.label p.label child in
        let short : eqb (place_in xs r.label) (length_of f p.label) ≡ false = differ (place_in xs r.label) (length_of f p.label) (λ e. omega (arith, e, long r.label p.label child, place_low xs r.label some)) in
        record {
          node = refl;
          before = prev ∙ sym (before_index r.label p.label child);
          after = sym (ap (slice_get xs) at ∙ at_place xs r.label some);
          ends =
              ap (λ b. b || false) (ap is_none before ∙ none_before xs r.label some)
              ∙ ap (λ b. eqb (place_in xs r.label) 0 || b) (sym short)
              ∙ ap (λ n. eqb n 0 || eqb n (length_of f p.label)) (sym at);
        }

    pub stands_after : (o : Option NodeRef) → label o ≡ next_of f r.label → StandsAt f (record { node = p; before = Some r; after = o }) (record { node = p.label; offset = index_of f r.label + 1 })
    stands_after o next =
        let xs = children_of f p.label in
        let some = among r.label p.label child in
        let at = after_at r.label p.label child in
        let after : label o ≡ after_in xs r.label = next ∙ next_in f law.distinct r.label p.label child in
        let later : eqb (place_in xs r.label + 1) 0 ≡ false = differ (place_in xs r.label + 1) 0 (λ e. omega (arith, e)) in
        record {
          node = refl;
          before = sym (ap (child_before f p.label) at ∙ at_place xs r.label some);
          after = next ∙ sym (after_index r.label p.label child);
          ends =
              ap is_none after
              ∙ none_after xs r.label some
              ∙ ap (eqb (place_in xs r.label + 1)) (sym (long r.label p.label child))
              ∙ ap (λ b. b || eqb (place_in xs r.label + 1) (length_of f p.label)) (sym later)
              ∙ ap (λ n. eqb (n + 1) 0 || eqb (n + 1) (length_of f p.label)) (sym (index r.label p.label child));
        }
