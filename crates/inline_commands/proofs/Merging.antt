-- What three tests find in a list in tree order, put together from what each of them finds.
use Rattle.std.proofs.Common.{◌≡◌, ℕ, ◌+◌, ◌<◌, ◌≤◌, Bool, true, false, not, ◌||◌, List, [], ◌∷◌, ◌++◌, length, drop, get_or, append_assoc, refl, sym, ap, subst, ◌∙◌, arith}
use Rattle.std.specs.Prelude.{filter}
use Rattle.std.specs.List.{All}
use Rattle.std.proofs.lemmas.List.Elements.{All-append, All-drop, All-from_get_or, All-get_or}
use Rattle.edit_model.specs.DomModel.declared.Content.{Content}
use Rattle.edit_model.specs.DomModel.Forest.{Forest, times}
use Rattle.edit_model.specs.NodeArena.declared.NodeRef.{NodeRef}
use Rattle.edit_model.specs.PointOrder.PointOrder.{is_ancestor}
use Rattle.edit_model.specs.Gives.{labels_of}
use Rattle.edit_model.proofs.Steps.{labels_of_drop, labels_of_end, labels_of_push, labels_of-append}
use Rattle.inline_value.specs.EditDoc.Whole.{Whole}
use Rattle.inline_value.specs.EditDoc.Held.{Holds, EachHeld}
use Rattle.inline_commands.specs.Merging.{around, beyond, links_above, links_over, merged}
use Rattle.inline_commands.proofs.Pairs.{Pairs, found, head_in}

-- ---- what a test finds

pub none_found : (T : ℕ → Bool) (xs : List ℕ) → ((l : ℕ) → 0 < times xs l → T l ≡ true → ⊥) → filter T xs ≡ []
none_found T [] none = refl
none_found T (x ∷ xs) none = by_test (T x) refl (none_found T xs (λ l h. none l (omega (arith, h))))
  where
    by_test : (b : Bool) → T x ≡ b → filter T xs ≡ [] → filter T (x ∷ xs) ≡ []
    by_test true e rest = absurd (none x (head_in x xs) e)
    by_test false e rest = rw e rest

-- ---- a member that comes before all others

module _ (f : Forest Content) (p : ℕ) where
  outer_first : (bs xs : List ℕ) → ((l : ℕ) → 0 < times xs l → is_ancestor f p l ≡ true) → merged f (p ∷ bs) xs ≡ p ∷ merged f bs xs
  outer_first bs [] above = refl
  outer_first bs (x ∷ xs) above = rw (above x (head_in x xs)) refl

  inner_first : (bs xs : List ℕ) → ((l : ℕ) → 0 < times bs l → is_ancestor f l p ≡ false) → merged f bs (p ∷ xs) ≡ p ∷ merged f bs xs
  inner_first [] xs off = refl
  inner_first (b ∷ bs) xs off = rw (off b (head_in b bs)) refl

-- ---- three tests

or_first : (a b : Bool) → a ≡ true → (a || b) ≡ true
or_first true b e = refl
or_first false b e = absurd (let t : false ≡ true = e in cc)

or_second : (a b : Bool) → b ≡ true → (a || b) ≡ true
or_second true b e = refl
or_second false b e = e

-- Where p comes before q: what the first test finds comes first of all, and what the third one finds stands below what the second
-- one finds exactly where it comes behind it.
pub record Agree (f : Forest Content) (A B X : ℕ → Bool) (p q : ℕ) : Type 0 where
  pub second : A q ≡ true → B p ≡ true → ⊥
  pub third : A q ≡ true → X p ≡ true → ⊥
  pub below : B p ≡ true → X q ≡ true → is_ancestor f p q ≡ true
  pub apart : X p ≡ true → B q ≡ true → is_ancestor f q p ≡ false

module _ (f : Forest Content) (A B X : ℕ → Bool) (no_second : (l : ℕ) → A l ≡ true → B l ≡ true → ⊥) (no_third : (l : ℕ) → X l ≡ true → (A l || B l) ≡ true → ⊥) where
  abbrev IsParted : List ℕ → Type 0
  IsParted xs = filter (λ l. X l || (A l || B l)) xs ≡ filter A xs ++ merged f (filter B xs) (filter X xs)

  one_more : (p : ℕ) (xs : List ℕ) → ((q : ℕ) → 0 < times xs q → Agree f A B X p q) → IsParted xs → IsParted (p ∷ xs)
  one_more p xs agree rest = by_tests (X p) (A p) (B p) refl refl refl
    where
      none_first : ((q : ℕ) → A q ≡ true → 0 < times xs q → ⊥) → filter A xs ≡ []
      none_first none = none_found A xs (λ q h e. none q e h)

      by_tests : (x a b : Bool) → X p ≡ x → A p ≡ a → B p ≡ b → IsParted (p ∷ xs)
      by_tests true a true ex ea eb = absurd (no_third p ex (or_second (A p) (B p) eb))
      by_tests true true false ex ea eb = absurd (no_third p ex (or_first (A p) (B p) ea))
      by_tests false true true ex ea eb = absurd (no_second p ea eb)
      by_tests false true false ex ea eb = rw (ex, ea, eb) (ap (λ ys. p ∷ ys) rest)
      by_tests false false false ex ea eb = rw (ex, ea, eb) rest
      by_tests false false true ex ea eb =
          let none = none_first (λ q e h. (agree q h).second e eb) in
          let first = outer_first f p (filter B xs) (filter X xs) (λ l h. let r = found X xs l h in (agree l r.0).below eb r.1) in
          rw (ex, ea, eb, first, rest, none) refl
      by_tests true false false ex ea eb =
          let none = none_first (λ q e h. (agree q h).third e ex) in
          let first = inner_first f p (filter B xs) (filter X xs) (λ l h. let r = found B xs l h in (agree l r.0).apart ex r.1) in
          rw (ex, ea, eb, first, rest, none) refl

  pub parted : (xs : List ℕ) → Pairs (Agree f A B X) xs → IsParted xs
  parted [] pairs = refl
  parted (p ∷ xs) pairs = one_more p xs pairs.0 (parted xs pairs.1)

-- ---- turns of the loops that put lists together

abbrev pub nobody : NodeRef
nobody = record { slot = 0; label = 0 }

module _ (f : Forest Content) (above : List NodeRef) (x : ℕ) where
  module _ (at : ℕ) (low : at < length above) where
    pub around_on : is_ancestor f (get_or above at nobody).label x ≡ true → around f (labels_of (drop at above)) x ≡ (get_or above at nobody).label ∷ around f (labels_of (drop (at + 1) above)) x
    around_on t = rw (labels_of_drop above at low, t) refl

    pub beyond_on : is_ancestor f (get_or above at nobody).label x ≡ true → beyond f (labels_of (drop at above)) x ≡ beyond f (labels_of (drop (at + 1) above)) x
    beyond_on t = rw (labels_of_drop above at low, t) refl

    pub around_off : is_ancestor f (get_or above at nobody).label x ≡ false → around f (labels_of (drop at above)) x ≡ []
    around_off t = rw (labels_of_drop above at low, t) refl

    pub beyond_off : is_ancestor f (get_or above at nobody).label x ≡ false → labels_of (drop at above) ≡ beyond f (labels_of (drop at above)) x
    beyond_off t = rw (labels_of_drop above at low, t) refl

  module _ (at : ℕ) (high : length above ≤ at) where
    pub around_end : around f (labels_of (drop at above)) x ≡ []
    around_end = rw (labels_of_end above at high) refl

    pub beyond_end : labels_of (drop at above) ≡ beyond f (labels_of (drop at above)) x
    beyond_end = rw (labels_of_end above at high) refl

merged_turn : (f : Forest Content) (bs : List ℕ) (xs : List NodeRef) (i : ℕ) → i < length xs
    → merged f bs (labels_of (drop i xs)) ≡ around f bs (get_or xs i nobody).label ++ (get_or xs i nobody).label ∷ merged f (beyond f bs (get_or xs i nobody).label) (labels_of (drop (i + 1) xs))
merged_turn f bs xs i low = rw (labels_of_drop xs i low) refl

merged_end : (f : Forest Content) (bs : List ℕ) (xs : List NodeRef) (i : ℕ) → length xs ≤ i → merged f bs (labels_of (drop i xs)) ≡ bs
merged_end f bs xs i high = rw (labels_of_end xs i high) refl

-- what was appended with what is still to be appended, past one member of the second list, and at its end
module _ (f : Forest Content) (above inside : List NodeRef) (whole : List ℕ) (list : List NodeRef) (at i : ℕ)
    (same : labels_of list ++ merged f (labels_of (drop at above)) (labels_of (drop i inside)) ≡ whole) where
  pub merged_on : i < length inside → (more new : List NodeRef) (stop : ℕ)
      → labels_of more ≡ labels_of list ++ around f (labels_of (drop at above)) (get_or inside i nobody).label
      → labels_of (drop stop above) ≡ beyond f (labels_of (drop at above)) (get_or inside i nobody).label
      → new ≡ more ++ get_or inside i nobody ∷ []
      → labels_of new ++ merged f (labels_of (drop stop above)) (labels_of (drop (i + 1) inside)) ≡ whole
  merged_on low more new stop around_it beyond_it is =
      let x = get_or inside i nobody in
      let rest = merged f (labels_of (drop stop above)) (labels_of (drop (i + 1) inside)) in
      let before = labels_of (drop at above) in
      ap (λ ys. labels_of ys ++ rest) is
      ∙ labels_of_push more x rest
      ∙ ap (λ ys. ys ++ x.label ∷ rest) around_it
      ∙ append_assoc (labels_of list) (around f before x.label) (x.label ∷ rest)
      ∙ ap (λ ys. labels_of list ++ (around f before x.label ++ x.label ∷ merged f ys (labels_of (drop (i + 1) inside)))) beyond_it
      ∙ ap (λ ys. labels_of list ++ ys) (sym (merged_turn f before inside i low))
      ∙ same

  pub merged_rest : length inside ≤ i → (new : List NodeRef) → new ≡ list ++ drop at above → labels_of new ≡ whole
  merged_rest high new is =
      ap labels_of is
      ∙ labels_of-append list (drop at above)
      ∙ ap (λ ys. labels_of list ++ ys) (sym (merged_end f (labels_of (drop at above)) inside i high))
      ∙ same

-- what is kept of a list with what is still to be looked at, past a member that passes a test, and past another one
module _ (T : ℕ → Bool) (xs : List NodeRef) (i : ℕ) (low : i < length xs) (kept : List NodeRef) (whole : List ℕ)
    (same : labels_of kept ++ filter T (labels_of (drop i xs)) ≡ whole) where
  turn : filter T (labels_of (drop i xs)) ≡ filter T ((get_or xs i nobody).label ∷ labels_of (drop (i + 1) xs))
  turn = ap (filter T) (labels_of_drop xs i low)

  pub kept_on : (new : List NodeRef) → new ≡ kept ++ get_or xs i nobody ∷ [] → T (get_or xs i nobody).label ≡ true → labels_of new ++ filter T (labels_of (drop (i + 1) xs)) ≡ whole
  kept_on new is passes =
      let x = get_or xs i nobody in
      let rest = filter T (labels_of (drop (i + 1) xs)) in
      let head : filter T (x.label ∷ labels_of (drop (i + 1) xs)) ≡ x.label ∷ rest = rw passes refl in
      ap (λ ys. labels_of ys ++ rest) is
      ∙ labels_of_push kept x rest
      ∙ ap (λ ys. labels_of kept ++ ys) (sym (turn ∙ head))
      ∙ same

  pub kept_off : T (get_or xs i nobody).label ≡ false → labels_of kept ++ filter T (labels_of (drop (i + 1) xs)) ≡ whole
  kept_off fails =
      let x = get_or xs i nobody in
      let rest = filter T (labels_of (drop (i + 1) xs)) in
      let head : filter T (x.label ∷ labels_of (drop (i + 1) xs)) ≡ rest = rw fails refl in
      ap (λ ys. labels_of kept ++ ys) (sym (turn ∙ head)) ∙ same

-- what was appended with the links above the members that are left, past one of these
module _ (f : Forest Content) (xs : List NodeRef) (i : ℕ) (low : i < length xs) (last : ℕ) (list : List NodeRef) (whole : List ℕ)
    (same : labels_of list ++ links_over f last (labels_of (drop i xs)) ≡ whole) where
  pub over_on : (beside new : List NodeRef) → labels_of beside ≡ filter (λ l. not (is_ancestor f l last)) (links_above f (get_or xs i nobody).label) → new ≡ list ++ beside
      → labels_of new ++ links_over f (get_or xs i nobody).label (labels_of (drop (i + 1) xs)) ≡ whole
  over_on beside new is more =
      let x = (get_or xs i nobody).label in
      let rest = links_over f x (labels_of (drop (i + 1) xs)) in
      ap (λ ys. labels_of ys ++ rest) more
      ∙ ap (λ ys. ys ++ rest) (labels_of-append list beside)
      ∙ append_assoc (labels_of list) (labels_of beside) rest
      ∙ ap (λ ys. labels_of list ++ (ys ++ rest)) is
      ∙ ap (λ ys. labels_of list ++ links_over f last ys) (sym (labels_of_drop xs i low))
      ∙ same

-- what is held of two lists is held of the one with a part of the other
pub rest_held : (d : Whole) (xs ys new : List NodeRef) (at : ℕ) → EachHeld d xs → EachHeld d ys → new ≡ xs ++ drop at ys → EachHeld d new
rest_held d xs ys new at first second is =
    let all : All (Holds d) (xs ++ drop at ys) = All-append (Holds d) xs (drop at ys) (All-from_get_or (Holds d) xs nobody first) (All-drop (Holds d) at ys (All-from_get_or (Holds d) ys nobody second)) in
    subst (EachHeld d) (sym is) (λ k low. All-get_or (Holds d) (xs ++ drop at ys) k nobody low all)
