-- A turn of the loop that lists the contents of a line, and its end; and lists of at most one node.
use Rattle.std.proofs.Common.{◌≡◌, ◌≢◌, ℕ, zero, suc, ◌-◌, ◌<◌, ◌≤◌, true, false, List, [], ◌∷◌, length, get_or, refl, arith}
use Rattle.edit_model.specs.DomModel.declared.Content.{Content}
use Rattle.edit_model.specs.DomModel.Contents.{is_break}
use Rattle.edit_model.specs.DomModel.Forest.{Forest, next_of}
use Rattle.edit_model.specs.NodeArena.declared.NodeRef.{NodeRef}
use Rattle.edit_model.specs.Gives.{labels_of}
use Rattle.edit_model.specs.State.{State}
use Rattle.inline_value.specs.WrapSplit.Wrap.{list_on}
use Rattle.text_insertion.specs.Containers.{if_paragraph_child, contents_after}
use Rattle.text_insertion.specs.Halves.{is_break_alone}

suc-sub-one : (n : ℕ) → suc n - 1 ≡ n
suc-sub-one n = omega arith

pub contents_turn : (s : State) (n z : ℕ) → 0 < n → contents_after s n z ≡ list_on (if_paragraph_child s (next_of s.trees z)) [] (λ q. q ∷ contents_after s (n - 1) q)
unfolding contents_after
contents_turn s zero z h = absurd (omega arith)
contents_turn s (suc n) z h = rw (suc-sub-one n)

pub contents_end : (s : State) (n z : ℕ) → n ≤ 0 → contents_after s n z ≡ []
unfolding contents_after
contents_end s zero z h = refl
contents_end s (suc n) z h = absurd (omega arith)

pub ruleset contents = (contents_turn, contents_end)

-- ---- nothing, or a br alone

pub alone_none : (f : Forest Content) (xs : List NodeRef) → length xs ≡ 0 → is_break_alone f (labels_of xs) ≡ true
alone_none f [] h = refl
alone_none f (x ∷ xs) h = absurd (omega arith)

pub alone_one : (f : Forest Content) (xs : List NodeRef) → length xs ≡ 1 → is_break_alone f (labels_of xs) ≡ is_break f (get_or xs 0 record { slot = 0; label = 0 }).label
alone_one f [] h = absurd (omega arith)
alone_one f (x ∷ []) h = refl
alone_one f (x ∷ y ∷ xs) h = absurd (omega arith)

pub alone_more : (f : Forest Content) (xs : List NodeRef) → length xs ≢ 0 → length xs ≢ 1 → is_break_alone f (labels_of xs) ≡ false
alone_more f [] h g = absurd (h refl)
alone_more f (x ∷ []) h g = absurd (g refl)
alone_more f (x ∷ y ∷ xs) h g = refl

pub ruleset alone = (alone_none, alone_one, alone_more)
