-- A walk over trees.
use Rattle.std.specs.Prelude.{ℕ}
use Rattle.node_styles.specs.DomModel.Forest.{Forest}
use Rattle.node_styles.specs.DomModel.Forest.Forest.{Nil, Tree}

-- what a walk makes of something that changes as each node is entered before its children, and as
-- it is left after them
abbrev pub walked : {C S : Type 0} → (enter leave : S → ℕ → C → S) → Forest C → S → S
walked enter leave Nil s = s
walked enter leave (Tree l c children rest) s =
    walked enter leave rest (leave (walked enter leave children (enter s l c)) l c)
