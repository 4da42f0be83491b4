-- The laws of order of moves: each loop keeps the order where its nodes stand as said, whatever of
-- it is left out.
use Rattle.std.specs.Prelude.{◌≡◌, ◌≢◌, ℕ, List, [], ◌∷◌, ◌++◌, true, false, Some}
use Rattle.edit_model.specs.DomModel.declared.Content.{Content}
use Rattle.edit_model.specs.DomModel.Contents.{is_parent_at, is_break}
use Rattle.edit_model.specs.DomModel.Forest.{IsWithin, parent_of, children_of, next_of, content_of, tree_of}
use Rattle.edit_model.specs.State.{State}
use Rattle.edit_model.specs.Kept.{borne_by, leaves}
use Rattle.edit_model.specs.Confined.{is_made, is_open}
use Rattle.edit_model.specs.Run.{final, ◌>>◌, remove}
use Rattle.edit_laws.specs.Order.{KeepsOrder, IsKeeping}
use Rattle.edit_model.specs.Moves.{insert_after, move_before, move_last, move_all_before, move_all_after, move_all_first, move_each_last}

-- a node bears nothing itself: it is no image, no rule and no text with characters
abbrev pub IsBare : State → ℕ → Type 0
IsBare s l = (c : Content) → content_of s.trees l ≡ Some c → borne_by l c ≡ []

-- the first children of a bare node, to just before it
abbrev pub FirstChildrenGoBefore : Type 0
FirstChildrenGoBefore =
    (list rest : List ℕ) (o : ℕ) (s : State) → IsKeeping s → children_of s.trees o ≡ list ++ rest
    → IsBare s o
    → KeepsOrder s (final (move_all_before list o) s)

-- the last children of a node, to just after it
abbrev pub LastChildrenGoAfter : Type 0
LastChildrenGoAfter =
    (front list : List ℕ) (o : ℕ) (s : State) → IsKeeping s → children_of s.trees o ≡ front ++ list
    → KeepsOrder s (final (move_all_after list o) s)

-- the first children of a bare node, to the end of the sibling just before it
abbrev pub FirstChildrenGoOver : Type 0
FirstChildrenGoOver =
    (list rest : List ℕ) (o x : ℕ) (s : State) → IsKeeping s → next_of s.trees x ≡ Some o
    → children_of s.trees o ≡ list ++ rest → IsBare s o
    → KeepsOrder s (final (move_each_last list x) s)

-- the siblings just after a node, to its end
abbrev pub NextSiblingsGoIn : Type 0
NextSiblingsGoIn =
    (before list after : List ℕ) (p q : ℕ) (s : State) → IsKeeping s → children_of s.trees q
    ≡ before
    ++ p ∷ (list ++ after)
    → KeepsOrder s (final (move_each_last list p) s)

-- the siblings just before a bare node, to its front
abbrev pub PreviousSiblingsGoIn : Type 0
PreviousSiblingsGoIn =
    (before list after : List ℕ) (p q : ℕ) (s : State) → IsKeeping s → children_of s.trees q
    ≡ before
    ++ (list ++ p ∷ after) → IsBare s p
    → KeepsOrder s (final (move_all_first list p) s)

-- a node, over the one before it, whose tree bears nothing
abbrev pub NextGoesOver : Type 0
NextGoesOver =
    (x n : ℕ) (s : State) → IsKeeping s → next_of s.trees x ≡ Some n → leaves (tree_of s.trees x)
    ≡ []
    → KeepsOrder s (final (move_before x n) s)

-- a node, to the end of the one after it, whose tree bears nothing
abbrev pub NextTakesIn : Type 0
NextTakesIn =
    (n x : ℕ) (s : State) → IsKeeping s → next_of s.trees n ≡ Some x → leaves (tree_of s.trees x)
    ≡ []
    → KeepsOrder s (final (move_last x n) s)

-- a bare node, which is no br, from below another one to just after it, where its children stay
-- behind; and the other one, to its end
abbrev pub NodesChangePlaces : Type 0
NodesChangePlaces =
    (n c : ℕ) (s : State) → IsKeeping s → IsWithin s.trees n c → n ≢ c → IsBare s c
    → is_break s.trees c ≡ false
    → KeepsOrder s (final (move_all_before (children_of s.trees c) c
    >> (remove c >> (insert_after n c >> move_last c n))) s)

-- any nodes, to the end of one that is not in the document
abbrev pub MovesOutAreLeftOut : Type 0
MovesOutAreLeftOut =
    (list : List ℕ) (x : ℕ) (s : State) → IsKeeping s → (IsWithin s.trees 0 x → ⊥)
    → KeepsOrder s (final (move_each_last list x) s)

-- the first children of a bare node go to the end of the sibling just before it, which the command
-- made and which may have children, and then those after them to just before the node
abbrev pub ChildrenPart : Type 0
ChildrenPart =
    (front list rest : List ℕ) (o x : ℕ) (s : State) → IsKeeping s → next_of s.trees x ≡ Some o
    → is_made s x
    ≡ true → is_parent_at s.trees x ≡ true
    → children_of s.trees o ≡ front ++ (list ++ rest) → IsBare s o
    → KeepsOrder s (final (move_each_last front x >> move_all_before list o) s)

-- the same where the other node isn't in the document, and the parent of the node isn't open: none
-- of them goes
abbrev pub ChildrenStay : Type 0
ChildrenStay =
    (front list rest : List ℕ) (o x q : ℕ) (s : State) → IsKeeping s → parent_of s.trees o ≡ Some q
    → is_open s q ≡ false → (IsWithin s.trees 0 x → ⊥)
    → children_of s.trees o ≡ front ++ (list ++ rest) → KeepsOrder s
    (final (move_each_last front x >> move_all_before list o) s)
