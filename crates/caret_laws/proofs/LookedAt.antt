-- Lists of nodes that runs look at by recursion are the same whether the command keeps contents or not.
use Rattle.std.proofs.Common.{◌≡◌, ℕ, zero, suc, ◌&&◌, not, List, [], ◌∷◌, Some, None, if◌then◌else◌, refl, ap}
use Rattle.edit_model.specs.DomModel.Contents.{is_break}
use Rattle.edit_model.specs.DomModel.Forest.{is_label, either, parent_of, prev_of, next_of}
use Rattle.edit_model.specs.State.{State}
use Rattle.inline_value.specs.EditActions.Siblings.{first_parent, members}
use Rattle.inline_value.specs.WrapSplit.Walks.{is_invisible}
use Rattle.inline_value.specs.WrapSplit.Wrap.{list_on, if_hidden, all_hidden, extended_front, hidden_after, first_visible, last_visible}
use Rattle.caret_laws.proofs.BlindRuns.{kept}

-- ---- siblings

first_parent_at : (s : State) (list : List ℕ) → first_parent (kept s) list ≡ first_parent s list
unfolding first_parent
first_parent_at s [] = refl
first_parent_at s (x ∷ xs) = ap (either (parent_of s.trees x)) (first_parent_at s xs)

pub first_parent_same : (s : State) → first_parent (kept s) ≡ first_parent s
first_parent_same s = λ i list. first_parent_at s list i

members_at : (s : State) (o : ℕ) (list : List ℕ) → members (kept s) o list ≡ members s o list
unfolding members
members_at s o [] = refl
members_at s o (x ∷ xs) = ap (λ t. if is_label (parent_of s.trees x) o then x ∷ t else t) (members_at s o xs)

pub members_same : (s : State) → members (kept s) ≡ members s
members_same s = λ i o list. members_at s o list i

-- ---- what shows

all_hidden_at : (s : State) (list : List ℕ) → all_hidden (kept s) list ≡ all_hidden s list
unfolding all_hidden
all_hidden_at s [] = refl
all_hidden_at s (x ∷ xs) = ap (λ b. (is_invisible s x && not (is_break s.trees x)) && b) (all_hidden_at s xs)

pub all_hidden_same : (s : State) → all_hidden (kept s) ≡ all_hidden s
all_hidden_same s = λ i list. all_hidden_at s list i

first_visible_at : (s : State) (list : List ℕ) → first_visible (kept s) list ≡ first_visible s list
unfolding first_visible
first_visible_at s [] = refl
first_visible_at s (x ∷ xs) = ap (λ t. if is_invisible s x then t else Some x) (first_visible_at s xs)

pub first_visible_same : (s : State) → first_visible (kept s) ≡ first_visible s
first_visible_same s = λ i list. first_visible_at s list i

last_visible_at : (s : State) (list : List ℕ) → last_visible (kept s) list ≡ last_visible s list
unfolding last_visible
last_visible_at s [] = refl
last_visible_at s (x ∷ xs) = ap (λ t. either t (if is_invisible s x then None else Some x)) (last_visible_at s xs)

pub last_visible_same : (s : State) → last_visible (kept s) ≡ last_visible s
last_visible_same s = λ i list. last_visible_at s list i

-- ---- nodes beside a list

extended_front_at : (s : State) (n a : ℕ) (list : List ℕ) → extended_front (kept s) n a list ≡ extended_front s n a list
unfolding extended_front
extended_front_at s zero a list = refl
extended_front_at s (suc n) a list = λ i. list_on (if_hidden s (prev_of s.trees a)) list (λ q. extended_front_at s n q (q ∷ list) i)

pub extended_front_same : (s : State) → extended_front (kept s) ≡ extended_front s
extended_front_same s = λ i n a list. extended_front_at s n a list i

hidden_after_at : (s : State) (n z : ℕ) → hidden_after (kept s) n z ≡ hidden_after s n z
unfolding hidden_after
hidden_after_at s zero z = refl
hidden_after_at s (suc n) z = λ i. list_on (if_hidden s (next_of s.trees z)) [] (λ q. q ∷ hidden_after_at s n q i)

pub hidden_after_same : (s : State) → hidden_after (kept s) ≡ hidden_after s
hidden_after_same s = λ i n z. hidden_after_at s n z i
