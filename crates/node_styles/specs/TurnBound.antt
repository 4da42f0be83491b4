-- How many turns a loop of an algorithm or a test takes at most.
use Rattle.std.specs.Prelude.{ℕ, ◌+◌, ◌*◌}
use Rattle.node_arena.specs.DomModel.declared.Content.{Content}
use Rattle.node_arena.specs.DomModel.Document.{node_count, char_count}
use Rattle.node_arena.specs.DomModel.Forest.{Forest}

-- two for each node of the document, one for each character, and two
abbrev pub turn_bound : Forest Content → ℕ
turn_bound f = 2 * node_count f + char_count f + 2
