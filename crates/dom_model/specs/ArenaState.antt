-- What a contract sees of an arena of nodes.
use Rattle.std.specs.Prelude.{◌^◌, ◌≡◌, ℕ, ◌+◌, ◌<◌, ◌≤◌, List, [], ◌∷◌, Option, Some, None, slice_index_or, refl, true, if◌then◌else◌}
use Rattle.std.specs.Coded.{Coded, code_by, coded×, coded_ℕ, coded_list, coded_option}
use Rattle.dom_model.specs.declared.Content.{Content}
use Rattle.dom_model.specs.ContentCode.{content_code}
use Rattle.dom_model.specs.Contents.{IsNode, is_parent_at}
use Rattle.dom_model.specs.Forest.{Forest, Seen, seek, total, count_of, is_label, IsDistinct, RisesFrom, parent_of, CanPut}
use Rattle.dom_model.specs.Code.{forest_code}

-- the document and the loose trees, by rising label of their roots (the document has label 0), the
-- next label, the cap, and the label of the node in each slot
pub record ArenaState : Type 0 where
  pub trees : Forest Content
  pub next : ℕ
  pub cap : ℕ
  pub held : List (Option ℕ)

abbrev pub state_code : Coded ArenaState
state_code =
    code_by
    (Forest Content × (ℕ × (ℕ × List (Option ℕ))))
    (coded× (forest_code content_code)
    (coded× coded_ℕ (coded× coded_ℕ (coded_list (coded_option coded_ℕ)))))
    (λ s. (s.trees, (s.next, (s.cap, s.held))))
    (λ p. record { trees = p.0; next = p.1.0; cap = p.1.1.0; held = p.1.1.1 })
    (λ _. refl)

-- the slot has the node of that label
abbrev pub HoldsAt : ArenaState → ℕ → ℕ → Type 0
HoldsAt s slot label = slice_index_or s.held slot None ≡ Some label

-- what a link of n under p, before b or at the end, needs: p is the Document or an element, and the
-- place is one (n is a root other than the Document whose tree doesn't hold p, and b is a child of
-- p)
pub record CanLink (f : Forest Content) (p : ℕ) (b : Option ℕ) (n : ℕ) : Type 0 where
  pub place : CanPut f p b n
  pub parent : is_parent_at f p ≡ true

-- what holds of every arena
pub record IsValid (s : ArenaState) : Type 0 where
  pub distinct : IsDistinct s.trees
  pub rising : RisesFrom 0 s.trees
  pub below : (l : ℕ) → 0 < count_of s.trees l → l < s.next
  pub few : total (λ _ _. 1) s.trees ≤ s.next
  pub capped : s.next ≤ s.cap
  pub small : s.cap < 2 ^ 32
  pub here : (slot label : ℕ) → HoldsAt s slot label → 0 < count_of s.trees label
  pub document : 0 < count_of s.trees 0
  pub root : parent_of s.trees 0 ≡ None
  pub nodes : (l : ℕ) (seen : Seen Content) → seek None s.trees l ≡ Some seen → IsNode l seen

-- the first slot that has the node of a label
unfoldable pub slot_of : List (Option ℕ) → ℕ → ℕ
slot_of [] l = 0
slot_of (o ∷ os) l = if is_label o l then 0 else slot_of os l + 1

-- each node of the trees stands in one slot
pub record IsSlotted (s : ArenaState) : Type 0 where
  pub kept : (l : ℕ) → 0 < count_of s.trees l → HoldsAt s (slot_of s.held l) l
  pub at : (slot l : ℕ) → HoldsAt s slot l → slot ≡ slot_of s.held l
  pub here : (slot l : ℕ) → HoldsAt s slot l → 0 < count_of s.trees l
