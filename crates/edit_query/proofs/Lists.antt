-- Lists of nodes as tests of nodes list them, and as calls on a document under edits list them.
use Rattle.std.proofs.Common.{◌≡◌, ℕ, zero, suc, Bool, true, false, if◌then◌else◌, List, [], ◌∷◌, ◌++◌, ◌-◌, length, take, drop, length-drop, refl, sym, ap, ◌∙◌, append_assoc}
use Rattle.std.proofs.Math.Seq.{take-length}
use Rattle.std.specs.Prelude.{map, filter}
use Rattle.std.specs.List.{All}
use Rattle.std.proofs.lemmas.List.Elements.{All-from_get_or, All-get_or}
use Rattle.edit_model.specs.NodeArena.declared.NodeRef.{NodeRef}
use Rattle.block_extend.specs.NodeTests.Listing.{only_if}
use Rattle.edit_model.specs.Gives.{labels_of}
use Rattle.edit_actions.specs.EditDoc.Whole.{Whole}
use Rattle.edit_actions.specs.EditDoc.Held.{Holds, EachHeld}

pub labels_mapped : (xs : List NodeRef) → map (λ r. r.label) xs ≡ labels_of xs
labels_mapped [] = refl
labels_mapped (x ∷ xs) = ap (λ ls. x.label ∷ ls) (labels_mapped xs)

pub each_held : (d : Whole) (xs : List NodeRef) → All (λ r. Holds d r) xs → EachHeld d xs
each_held d xs all = λ k small. All-get_or (λ r. Holds d r) xs k _ small all

pub all_held : (d : Whole) (xs : List NodeRef) → EachHeld d xs → All (λ r. Holds d r) xs
all_held d xs held = All-from_get_or (λ r. Holds d r) xs record { slot = 0; label = 0 } held

-- the labels of the first members, and of those after them
pub labels_of_front : (xs : List NodeRef) (n : ℕ) → labels_of (take n xs) ≡ take n (labels_of xs)
labels_of_front [] zero = refl
labels_of_front [] (suc n) = refl
labels_of_front (x ∷ xs) zero = refl
labels_of_front (x ∷ xs) (suc n) = ap (λ ls. x.label ∷ ls) (labels_of_front xs n)

pub labels_of_rest : (xs : List NodeRef) (n : ℕ) → labels_of (drop n xs) ≡ drop n (labels_of xs)
labels_of_rest [] zero = refl
labels_of_rest [] (suc n) = refl
labels_of_rest (x ∷ xs) zero = refl
labels_of_rest (x ∷ xs) (suc n) = labels_of_rest xs n

-- the members from a place on, as a slice has them
pub tail_is : (xs : List NodeRef) (i : ℕ) → take (length xs - i) (drop i xs) ≡ drop i xs
tail_is xs i = ap (λ n. take n (drop i xs)) (sym (length-drop i xs)) ∙ take-length (drop i xs)

-- a member, where it passes, goes from the members that are still to be tested to those found
pub filtered_on : (test : ℕ → Bool) (l : ℕ) (found new ls all : List ℕ) →
    new ≡ found ++ only_if test l → found ++ filter test (l ∷ ls) ≡ all → new ++ filter test ls ≡ all
filtered_on test l found new ls all is before =
    ap (λ xs. xs ++ filter test ls) is ∙ (append_assoc found (only_if test l) (filter test ls) ∙ (ap (λ xs. found ++ xs) (one (test l)) ∙ before))
  where
    one : (b : Bool) → (if b then l ∷ [] else []) ++ filter test ls ≡ (if b then l ∷ filter test ls else filter test ls)
    one true = refl
    one false = refl
