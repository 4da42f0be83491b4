use Rattle.std.proofs.Common.{◌≡◌, ◌++◌, ◌≤◌, IfSome}
use Rattle.node_paths.specs.NodeArena.Held.{Holds, label}
use Rattle.node_paths.specs.Onward.{onward_at, IsInner}
use Rattle.page_write.specs.Html.{html_of}
use Rattle.node_paths.proofs.Visiting.{size_from}
use Rattle.page_write.proofs.html.+push_trees.Given as goal

abbrev pub decreases-push_trees : goal.decreases-push_trees
decreases-push_trees l = size_from l.arena.now.trees (label l.first)

-- what is written, and what is still to write
abbrev pub invariant-loop-at : goal.invariant-loop-at
invariant-loop-at l = record {
  held : IfSome l.at (λ r. Holds l.arena r);
  inner : IsInner l.arena.trees (label l.at);
  fewer : size_from l.arena.trees (label l.at) ≤ size_from l.arena.trees (label l.fn.first);
  written : l.bytes.items ++ html_of (onward_at l.arena.trees (label l.at)) ≡ l.initial.bytes.items ++ html_of (onward_at l.arena.trees (label l.fn.first));
}

abbrev pub decreases-loop-at : goal.decreases-loop-at
decreases-loop-at l = size_from l.arena.trees (label l.at)
