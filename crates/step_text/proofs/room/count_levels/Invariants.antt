use Rattle.std.proofs.Common.{◌≡◌, ℕ, ◌<◌, ◌≤◌, None}
use Rattle.page_grammar.specs.DomModel.Forest.{count_of, parent_of, tree_of}
use Rattle.page_grammar.specs.DomModel.Places.{levels}
use Rattle.step_text.proofs.room.count_levels.Given as goal

-- no tree of the roots so far has more
abbrev pub invariant-loop-label : goal.invariant-loop-label
invariant-loop-label l = (x : ℕ) → x < l.label → 0 < count_of l.arena.trees x → parent_of l.arena.trees x ≡ None → levels (tree_of l.arena.trees x) ≤ l.most
