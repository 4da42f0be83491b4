-- Marks by their names: setting and taking out the first of a name.
use Rattle.std.proofs.Common.{◌≡◌, ℕ, suc, ◌+◌, ◌<◌, Bool, true, false, not, cond, ◌||◌, if◌then◌else◌, List, [], ◌∷◌, ◌++◌, length, position, Some, None, refl, sym, ap, ◌∙◌, arith, nat_lt, true≢false, IsTrue}
use Rattle.std.specs.List.{list_any, position_or_len, remove, All}
use Rattle.std.specs.Map.{remove_entry}
use Rattle.std.specs.Str.{bytes_eq}
use Rattle.std.proofs.lemmas.List.Quantifiers.{position-Some}
use Rattle.std.proofs.lemmas.List.Folds.{list_any_at}
use Rattle.std.proofs.lemmas.Slice.Eq.{bytes_eq-Decides}
use Rattle.indexmap.specs.IndexMap.{insert_entry}
use Rattle.indexmap.specs.IndexSet.{insert_key}
use Rattle.live_range.specs.declared.places.Pair.{Pair}
use Rattle.live_range.specs.LivePoints.{LivePoints, IsValid, has_mark, with_mark, without_mark, with_value_at}
use Rattle.live_range.proofs.Apart.{position-None, All-head, All-tail}

one_more : (k : ℕ) → 1 + k ≡ suc k
one_more k = omega arith

module _ (name : List ℕ) (pair : Pair) where
  insert_at : (es : List (List ℕ × Pair)) → list_any (λ e. bytes_eq name e.0) es ≡ true
      → insert_entry bytes_eq es name pair ≡ with_value_at es (position_or_len (λ e. bytes_eq name e.0) es) pair
  insert_at [] h = absurd (true≢false (sym h))
  insert_at (e ∷ es) h = by (bytes_eq name e.0) h (insert_at es)
    where
      by : (b : Bool) → (b || list_any (λ e. bytes_eq name e.0) es) ≡ true
          → (list_any (λ e. bytes_eq name e.0) es ≡ true → insert_entry bytes_eq es name pair ≡ with_value_at es (position_or_len (λ e. bytes_eq name e.0) es) pair)
          → (if b then (e.0, pair) ∷ es else e ∷ insert_entry bytes_eq es name pair) ≡ with_value_at (e ∷ es) (cond (not b) (1 + position_or_len (λ e. bytes_eq name e.0) es) 0) pair
      by true t rest = refl
      by false t rest = rw one_more (ap (λ r. e ∷ r) (rest t))

  insert_absent : (es : List (List ℕ × Pair)) → list_any (λ e. bytes_eq name e.0) es ≡ false → insert_entry bytes_eq es name pair ≡ es ++ (name, pair) ∷ []
  insert_absent [] h = refl
  insert_absent (e ∷ es) h = by (bytes_eq name e.0) h (insert_absent es)
    where
      by : (b : Bool) → (b || list_any (λ e. bytes_eq name e.0) es) ≡ false
          → (list_any (λ e. bytes_eq name e.0) es ≡ false → insert_entry bytes_eq es name pair ≡ es ++ (name, pair) ∷ [])
          → (if b then (e.0, pair) ∷ es else e ∷ insert_entry bytes_eq es name pair) ≡ (e ∷ es) ++ (name, pair) ∷ []
      by true t rest = absurd (true≢false t)
      by false t rest = ap (λ r. e ∷ r) (rest t)

module _ (name : List ℕ) where
  remove_at : (es : List (List ℕ × Pair)) → list_any (λ e. bytes_eq name e.0) es ≡ true
      → remove_entry (bytes_eq name) es ≡ remove es (position_or_len (λ e. bytes_eq name e.0) es)
  remove_at [] h = absurd (true≢false (sym h))
  remove_at (e ∷ es) h = by (bytes_eq name e.0) h (remove_at es)
    where
      by : (b : Bool) → (b || list_any (λ e. bytes_eq name e.0) es) ≡ true
          → (list_any (λ e. bytes_eq name e.0) es ≡ true → remove_entry (bytes_eq name) es ≡ remove es (position_or_len (λ e. bytes_eq name e.0) es))
          → cond b es (e ∷ remove_entry (bytes_eq name) es) ≡ remove (e ∷ es) (cond (not b) (1 + position_or_len (λ e. bytes_eq name e.0) es) 0)
      by true t rest = refl
      by false t rest = rw one_more (ap (λ r. e ∷ r) (rest t))

  remove_absent : (es : List (List ℕ × Pair)) → list_any (λ e. bytes_eq name e.0) es ≡ false → remove_entry (bytes_eq name) es ≡ es
  remove_absent [] h = refl
  remove_absent (e ∷ es) h = by (bytes_eq name e.0) h (remove_absent es)
    where
      by : (b : Bool) → (b || list_any (λ e. bytes_eq name e.0) es) ≡ false → (list_any (λ e. bytes_eq name e.0) es ≡ false → remove_entry (bytes_eq name) es ≡ es)
          → cond b es (e ∷ remove_entry (bytes_eq name) es) ≡ e ∷ es
      by true t rest = absurd (true≢false t)
      by false t rest = ap (λ r. e ∷ r) (rest t)

-- ---- what a position tells

module _ (name : List ℕ) (s : LivePoints) where
  abbrev test : List ℕ × Pair → Bool
  test e = bytes_eq name e.0

  pub found_below : (k : ℕ) → position (λ e. bytes_eq name e.0) s.marks ≡ Some k → k < length s.marks
  found_below k h = (position-Some (λ e. bytes_eq name e.0) s.marks k (name, record { anchor = record { label = 0; offset = 0 }; focus = record { label = 0; offset = 0 } }) h).0

  pub found_has : (k : ℕ) → position (λ e. bytes_eq name e.0) s.marks ≡ Some k → has_mark name s ≡ true
  found_has k h =
      let d : List ℕ × Pair = (name, record { anchor = record { label = 0; offset = 0 }; focus = record { label = 0; offset = 0 } }) in
      let at = position-Some (λ e. bytes_eq name e.0) s.marks k d h in
      list_any_at (λ e. bytes_eq name e.0) s.marks k d at.0 at.1

  pub absent_has : position (λ e. bytes_eq name e.0) s.marks ≡ None → has_mark name s ≡ false
  absent_has h = position-None (λ e. bytes_eq name e.0) s.marks h

none_is_no_some : (k : ℕ) → None ≡ Some k → ⊥
none_is_no_some k h = cc

some_same : (i j : ℕ) → Some i ≡ Some j → i ≡ j
some_same i j h = cc

position_is : {X : Type 0} (p : X → Bool) (xs : List X) (k : ℕ) → position p xs ≡ Some k → position_or_len p xs ≡ k
position_is p xs k h = by (nat_lt (position_or_len p xs) (length xs)) refl
  where
    by : (b : Bool) → nat_lt (position_or_len p xs) (length xs) ≡ b → position_or_len p xs ≡ k
    by true e = some_same _ k (sym (ap (λ c. cond c (Some (position_or_len p xs)) None) e) ∙ h)
    by false e = absurd (none_is_no_some k (sym (ap (λ c. cond c (Some (position_or_len p xs)) None) e) ∙ h))

-- ---- the points after a mark is set or taken out

-- a name that a mark has is among the names
named_among : (name : List ℕ) (names : List (List ℕ)) (ms : List (List ℕ × Pair)) → All (λ m. IsTrue (list_any (bytes_eq m.0) names)) ms
    → list_any (λ m. bytes_eq name m.0) ms ≡ true → list_any (bytes_eq name) names ≡ true
named_among name names [] all h = absurd (true≢false (sym h))
named_among name names (m ∷ ms) all h =
    by (bytes_eq name m.0) refl h (named_among name names ms (All-tail (λ m. IsTrue (list_any (bytes_eq m.0) names)) m ms all))
  where
    by : (b : Bool) → bytes_eq name m.0 ≡ b → (b || list_any (λ m. bytes_eq name m.0) ms) ≡ true
        → (list_any (λ m. bytes_eq name m.0) ms ≡ true → list_any (bytes_eq name) names ≡ true) → list_any (bytes_eq name) names ≡ true
    by true e t rest =
        ap (λ n. list_any (bytes_eq n) names) ((bytes_eq-Decides name m.0).0 e) ∙ All-head (λ m. IsTrue (list_any (bytes_eq m.0) names)) m ms all
    by false e t rest = rest t

module _ (name : List ℕ) (pair : Pair) (s : LivePoints) where
  known_names : IsValid s → has_mark name s ≡ true → insert_key bytes_eq s.names name ≡ s.names
  known_names laws h = ap (λ b. if b then s.names else s.names ++ name ∷ []) (named_among name s.names s.marks laws.marks_are_named h)

  pub set_found : (k : ℕ) → IsValid s → position (λ e. bytes_eq name e.0) s.marks ≡ Some k → record s { marks = with_value_at s.marks k pair } ≡ with_mark name pair s
  set_found k laws h =
      let marks = insert_at name pair s.marks (found_has name s k h) ∙ ap (λ i. with_value_at s.marks i pair) (position_is _ s.marks k h) in
      let names = known_names laws (found_has name s k h) in
      λ i. record s { marks = sym marks i; names = sym names i }

  pub set_absent : has_mark name s ≡ false → record s { marks = s.marks ++ (name, pair) ∷ []; names = insert_key bytes_eq s.names name } ≡ with_mark name pair s
  set_absent h = λ i. record s { marks = sym (insert_absent name pair s.marks h) i; names = insert_key bytes_eq s.names name }

module _ (name : List ℕ) (s : LivePoints) where
  pub unset_found : (k : ℕ) → position (λ e. bytes_eq name e.0) s.marks ≡ Some k → record s { marks = remove s.marks k } ≡ without_mark name s
  unset_found k h = λ i. record s { marks = sym (remove_at name s.marks (found_has name s k h) ∙ ap (remove s.marks) (position_is _ s.marks k h)) i }

  pub unset_absent : has_mark name s ≡ false → s ≡ without_mark name s
  unset_absent h = λ i. record s { marks = sym (remove_absent name s.marks h) i }
