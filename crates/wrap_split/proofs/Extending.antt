-- A turn of the loops that widen a list, and their ends; and lists of held nodes in reverse order.
use Rattle.std.proofs.Common.{◌≡◌, ℕ, zero, suc, ◌-◌, ◌<◌, ◌≤◌, List, [], ◌∷◌, ◌++◌, length, reverse, refl, ap, arith}
use Rattle.std.proofs.lemmas.List.{reverse-append, reverse-reverse, length-reverse, get_or-reverse}
use Rattle.edit_model.specs.DomModel.Forest.{prev_of, next_of}
use Rattle.edit_model.specs.NodeArena.declared.NodeRef.{NodeRef}
use Rattle.edit_model.specs.State.{State}
use Rattle.edit_model.specs.Gives.{labels_of}
use Rattle.edit_actions.specs.EditDoc.Whole.{Whole}
use Rattle.edit_actions.specs.EditDoc.Held.{EachHeld}
use Rattle.wrap_split.specs.Wrap.{extended_front, hidden_after, list_on, if_hidden}

suc-sub-one : (n : ℕ) → suc n - 1 ≡ n
suc-sub-one n = omega arith

pub front_turn : (s : State) (n a : ℕ) (list : List ℕ) → 0 < n →
    extended_front s n a list ≡ list_on (if_hidden s (prev_of s.trees a)) list (λ q. extended_front s (n - 1) q (q ∷ list))
unfolding extended_front
front_turn s zero a list h = absurd (omega arith)
front_turn s (suc n) a list h = rw (suc-sub-one n)

pub front_end : (s : State) (n a : ℕ) (list : List ℕ) → n ≤ 0 → extended_front s n a list ≡ list
unfolding extended_front
front_end s zero a list h = refl
front_end s (suc n) a list h = absurd (omega arith)

pub back_turn : (s : State) (n z : ℕ) → 0 < n →
    hidden_after s n z ≡ list_on (if_hidden s (next_of s.trees z)) [] (λ q. q ∷ hidden_after s (n - 1) q)
unfolding hidden_after
back_turn s zero z h = absurd (omega arith)
back_turn s (suc n) z h = rw (suc-sub-one n)

pub back_end : (s : State) (n z : ℕ) → n ≤ 0 → hidden_after s n z ≡ []
unfolding hidden_after
back_end s zero z h = refl
back_end s (suc n) z h = absurd (omega arith)

pub ruleset fronts = (front_turn, front_end)

pub ruleset ends = (back_turn, back_end)

pub labels_of_front : (xs : List NodeRef) (x : NodeRef) → labels_of (reverse (xs ++ x ∷ [])) ≡ x.label ∷ labels_of (reverse xs)
labels_of_front xs x = ap labels_of (reverse-append xs (x ∷ []))

pub reversed_held : (d : Whole) (xs : List NodeRef) → EachHeld d xs → EachHeld d (reverse xs)
reversed_held d xs held k low =
    let size = length-reverse xs in
    rw (get_or-reverse xs k record { slot = 0; label = 0 } (omega (arith, low, size))) (held (length xs - 1 - k) (omega (arith, low, size)))

pub reversed_twice : (xs : List NodeRef) → reverse (reverse xs) ≡ xs
reversed_twice xs = reverse-reverse xs
