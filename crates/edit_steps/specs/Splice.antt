-- What a step is that replaces characters of a node in place.
use Rattle.std.specs.Prelude.{◌≡◌, ◌⊎◌, ℕ, ◌+◌, ◌≤◌, List, [], ◌∷◌, length, vec_capacity}
use Rattle.forest_changes.specs.DomModel.Room.{room_of}
use Rattle.node_arena.specs.declared.NodeRef.{NodeRef}
use Rattle.edit_steps.specs.declared.splice.Exchange.{Exchange}
use Rattle.edit_steps.specs.declared.splice.Texts.{Texts}
use Rattle.edit_steps.specs.declared.splice.Texts.TheVariants.{Typed, Gone, Exchanged}

-- characters of a node that give way to others, between `at` that stay before them and `rest` behind
pub record TextSplice : Type 0 where
  pub node : NodeRef
  pub at : ℕ
  pub rest : ℕ
  pub taken : List ℕ
  pub put : List ℕ

-- ---- how it is stored. No public clause cites what follows

abbrev pub taken_of : Texts → List ℕ
taken_of (Typed c) = []
taken_of (Gone c) = c ∷ []
taken_of (Exchanged x) = x.value.taken.items

abbrev pub put_of : Texts → List ℕ
put_of (Typed c) = c ∷ []
put_of (Gone c) = []
put_of (Exchanged x) = x.value.put.items

-- the room of the text that has the characters between those that stay
abbrev pub room_with : ℕ → ℕ → List ℕ → ℕ
room_with at rest chars = room_of (at + (length chars + rest))

-- the text has the same room before and after, or there is a spare one with the room that it has
-- afterwards
abbrev pub HasExchangeRoom : ℕ → ℕ → Exchange → Type 0
HasExchangeRoom at rest x =
    (room_with at rest x.taken.items ≡ room_with at rest x.put.items)
    ⊎ (room_with at rest x.put.items ≤ vec_capacity x.spare)

abbrev pub HasRoom : ℕ → ℕ → Texts → Type 0
HasRoom at rest (Typed c) = room_of (at + rest) ≡ room_of (at + (1 + rest))
HasRoom at rest (Gone c) = room_of (at + rest) ≡ room_of (at + (1 + rest))
HasRoom at rest (Exchanged x) = HasExchangeRoom at rest x.value

-- the splice that an exchange makes of a node
abbrev pub splice_of : NodeRef → ℕ → ℕ → Exchange → TextSplice
splice_of node at rest x = record {
  node = node;
  at = at;
  rest = rest;
  taken = x.taken.items;
  put = x.put.items;
}
