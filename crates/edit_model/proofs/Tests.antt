-- What the tests of edits tell where they pass.
use Rattle.std.proofs.Common.{◌≡◌, ◌≢◌, ◌⊎◌, ℕ, ◌+◌, ◌<◌, ◌≤◌, ◌^◌, zero, suc, Bool, true, false, ◌||◌, not, eqb, List, length, Option, Some, None, IfSome, refl, sym, ap, ◌∙◌, inl, inr, arith, true≢false}
use Rattle.std.specs.Prelude.{nat_lt, nat_le, is_none}
use Rattle.std.proofs.lemmas.Bool.{and_parts, not-true, ltb-true, leb-true, eqb-true, eqb-false, lt-ltb}
use Rattle.std.specs.Option.{option_map, option_map_or}
use Rattle.point_order.specs.DomModel.declared.Content.{Content}
use Rattle.point_order.specs.DomModel.declared.Content.TheVariants.{Document, Element, Words, Remark}
use Rattle.point_order.specs.DomModel.Contents.{is_parent_at, may_have_children, is_break}
use Rattle.point_order.specs.DomModel.Forest.{Forest, Seen, seek, is_label, count_of, tree_of, parent_of, content_of, CanPut}
use Rattle.point_order.proofs.DomModel.Links.{found_count}
use Rattle.point_order.specs.PointOrder.{is_within, is_in_document}
use Rattle.edit_model.specs.State.{State}
use Rattle.edit_model.specs.Kept.{has_no_kept_leaves}
use Rattle.edit_model.specs.Confined.{is_open, is_own, is_there, is_place, stands_so, may_insert, may_leave, may_remove, may_go, may_move, spliced, may_change, may_replace, may_set, may_unset}

-- ---- small tests

pub label_is : (o : Option ℕ) (l : ℕ) → is_label o l ≡ true → o ≡ Some l
label_is None l h = absurd (true≢false (sym h))
label_is (Some m) l h = ap Some (eqb-true m l h)

pub none_is : (o : Option ℕ) → is_none o ≡ true → o ≡ None
none_is None h = refl
none_is (Some m) h = absurd (true≢false (sym h))

pub not_zero : (n : ℕ) → not (eqb n 0) ≡ true → 0 < n
not_zero n h = let off : n ≢ 0 = λ e. eqb-false n 0 (not-true (eqb n 0) h) e in omega (arith, off)

pub not_within : (f : Forest Content) (n p : ℕ) → not (is_within f n p) ≡ true → count_of (tree_of f n) p ≡ 0
not_within f n p h = by_count (count_of (tree_of f n) p) refl
  where
    by_count : (k : ℕ) → count_of (tree_of f n) p ≡ k → k ≡ 0
    by_count k e = elim (nat_cases k) [
      | inl z ↦ z
      | inr some ↦ absurd (true≢false (sym (lt-ltb 0 k some) ∙ (ap (nat_lt 0) (sym e) ∙ not-true (is_within f n p) h)))
    ]
      where
        nat_cases : (k : ℕ) → (k ≡ 0) ⊎ (0 < k)
        nat_cases zero = inl refl
        nat_cases (suc k) = inr (omega arith)

pub parent_there : (f : Forest Content) (p : ℕ) → is_parent_at f p ≡ true → 0 < count_of f p
parent_there f p h = by_seen (seek None f p) refl h
  where
    by_seen : (o : Option (Seen Content)) → seek None f p ≡ o → option_map_or may_have_children (option_map (λ s. s.content) o) false ≡ true → 0 < count_of f p
    by_seen None e h = absurd (true≢false (sym h))
    by_seen (Some s) e h = found_count f p s e

place_is : (f : Forest Content) (p : ℕ) (b : Option ℕ) (n : ℕ) → is_place f p b n ≡ true → IfSome b (λ m. (parent_of f m ≡ Some p) × (m ≢ n))
place_is f p None n h = tt
place_is f p (Some m) n h =
    let parts = and_parts (is_label (parent_of f m) p) (not (eqb m n)) h in
    (label_is (parent_of f m) p parts.0, λ e. eqb-false m n (not-true (eqb m n) parts.1) e)

place_child : (f : Forest Content) (p : ℕ) (b : Option ℕ) (n : ℕ) → IfSome b (λ m. (parent_of f m ≡ Some p) × (m ≢ n)) → IfSome b (λ m. parent_of f m ≡ Some p)
place_child f p None n h = tt
place_child f p (Some m) n h = h.0

-- ---- an insert

pub record Inserts (s : State) (p : ℕ) (b : Option ℕ) (n : ℕ) : Type 0 where
  pub can : CanPut s.trees p b n
  pub parent : is_parent_at s.trees p ≡ true
  pub allowed : is_open s p ≡ true

pub inserts : (s : State) (p : ℕ) (b : Option ℕ) (n : ℕ) → may_insert s p b n ≡ true → Inserts s p b n
unfolding may_insert
inserts s p b n h =
    let f = s.trees in
    let h1 = and_parts (is_there f n) _ h in
    let h2 = and_parts (not (eqb n 0)) _ h1.1 in
    let h3 = and_parts (is_none (parent_of f n)) _ h2.1 in
    let h4 = and_parts (is_parent_at f p) _ h3.1 in
    let h5 = and_parts (not (is_within f n p)) _ h4.1 in
    let h6 = and_parts (is_place f p b n) (is_open s p) h5.1 in
    record {
      can = record {
        parent = parent_there f p h4.0;
        node = ltb-true 0 (count_of f n) h1.0;
        inner = not_zero n h2.0;
        loose = none_is (parent_of f n) h3.0;
        apart = not_within f n p h5.0;
        before = place_child f p b n (place_is f p b n h6.0);
      };
      parent = h4.0;
      allowed = h6.1;
    }

-- ---- a removal

pub record Removes (s : State) (n : ℕ) : Type 0 where
  pub from : ℕ
  pub child : parent_of s.trees n ≡ Some from
  pub allowed : is_open s from ≡ true
  pub own : (is_own s n || is_break s.trees n) ≡ true
  pub nothing : (not s.keeping || has_no_kept_leaves (tree_of s.trees n)) ≡ true

pub removes : (s : State) (n : ℕ) → may_remove s n ≡ true → Removes s n
unfolding may_remove
removes s n h = by_parent (parent_of s.trees n) refl h
  where
    by_parent : (o : Option ℕ) → parent_of s.trees n ≡ o → may_leave s n o ≡ true → Removes s n
    by_parent None e h = absurd (true≢false (sym h))
    by_parent (Some q) e h =
        let h1 = and_parts (is_open s q) _ h in
        let h2 = and_parts (is_own s n || is_break s.trees n) (not s.keeping || has_no_kept_leaves (tree_of s.trees n)) h1.1 in
        record { from = q; child = e; allowed = h1.0; own = h2.0; nothing = h2.1 }

-- ---- a move

pub record Goes (s : State) (n p : ℕ) (b : Option ℕ) : Type 0 where
  pub from : ℕ
  pub child : parent_of s.trees n ≡ Some from
  pub allowed_from : is_open s from ≡ true
  pub allowed_to : is_open s p ≡ true
  pub parent : is_parent_at s.trees p ≡ true
  pub apart : count_of (tree_of s.trees n) p ≡ 0
  pub before : IfSome b (λ m. (parent_of s.trees m ≡ Some p) × (m ≢ n))
  pub inside : is_in_document s.trees n ≡ true → is_in_document s.trees p ≡ true

stays_inside : (a b : Bool) → (not a || b) ≡ true → a ≡ true → b ≡ true
stays_inside true b h e = h
stays_inside false b h e = absurd (true≢false (sym e))

pub goes : (s : State) (n p : ℕ) (b : Option ℕ) → may_move s n p b ≡ true → Goes s n p b
unfolding may_move
goes s n p b h = by_parent (parent_of s.trees n) refl h
  where
    by_parent : (o : Option ℕ) → parent_of s.trees n ≡ o → may_go s n o p b ≡ true → Goes s n p b
    by_parent None e h = absurd (true≢false (sym h))
    by_parent (Some q) e h =
        let f = s.trees in
        let h1 = and_parts (is_open s q) _ h in
        let h2 = and_parts (is_open s p) _ h1.1 in
        let h3 = and_parts (is_parent_at f p) _ h2.1 in
        let h4 = and_parts (not (is_within f n p)) _ h3.1 in
        let h5 = and_parts (is_place f p b n) _ h4.1 in
        let h6 = and_parts (not (is_in_document f n) || is_in_document f p) (not (stands_so f n q p b)) h5.1 in
        record {
          from = q;
          child = e;
          allowed_from = h1.0;
          allowed_to = h2.0;
          parent = h3.0;
          apart = not_within f n p h4.0;
          before = place_is f p b n h5.0;
          inside = stays_inside (is_in_document f n) (is_in_document f p) h6.0;
        }

-- ---- a replacement

pub record Replaces (s : State) (n at count : ℕ) (put : List ℕ) : Type 0 where
  pub own : is_own s n ≡ true
  pub chars : List ℕ
  pub content : content_of s.trees n ≡ Some (Words chars)
  pub reach : at + count ≤ length chars
  pub short : length (spliced chars at count put) < 2 ^ 32

pub replaces : (s : State) (n at count : ℕ) (put : List ℕ) → may_replace s n at count put ≡ true → Replaces s n at count put
unfolding may_replace
replaces s n at count put h =
    let h1 = and_parts (is_own s n) _ h in
    by_content h1.0 (content_of s.trees n) refl h1.1
  where
    by_content : is_own s n ≡ true → (o : Option Content) → content_of s.trees n ≡ o → may_change o at count put ≡ true → Replaces s n at count put
    by_content own None e h = absurd (true≢false (sym h))
    by_content own (Some Document) e h = absurd (true≢false (sym h))
    by_content own (Some (Element name attributes)) e h = absurd (true≢false (sym h))
    by_content own (Some (Remark chars)) e h = absurd (true≢false (sym h))
    by_content own (Some (Words chars)) e h =
        let h1 = and_parts (nat_le (at + count) (length chars)) _ h in
        let h2 = and_parts (nat_lt (length (spliced chars at count put)) (2 ^ 32)) _ h1.1 in
        record {
          own = own;
          chars = chars;
          content = e;
          reach = leb-true (at + count) (length chars) h1.0;
          short = ltb-true (length (spliced chars at count put)) (2 ^ 32) h2.0;
        }

-- ---- attributes

pub set_own : (s : State) (n : ℕ) (name value : List ℕ) → may_set s n name value ≡ true → is_own s n ≡ true
unfolding may_set
set_own s n name value h = (and_parts (is_own s n) _ h).0

pub unset_own : (s : State) (n : ℕ) (name : List ℕ) → may_unset s n name ≡ true → is_own s n ≡ true
unfolding may_unset
unset_own s n name h = (and_parts (is_own s n) _ h).0
