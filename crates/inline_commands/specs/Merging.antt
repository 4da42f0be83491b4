-- The lists of the links that a range touches, and of those around what it contains, made from
-- their parts. No public clause cites this module.
use Rattle.std.specs.Prelude.{ℕ, not, List, [], ◌∷◌, ◌++◌, filter, reverse, if◌then◌else◌}
use Rattle.edit_model.specs.DomModel.declared.Content.{Content}
use Rattle.edit_model.specs.DomModel.Forest.{Forest}
use Rattle.edit_model.specs.LiveRange.declared.places.Point.{Point}
use Rattle.edit_model.specs.PointOrder.PointOrder.{is_ancestor, is_before}
use Rattle.inline_value.specs.NodeTests.Ranges.{contained_nodes}
use Rattle.inline_value.specs.Forcing.{ancestors}
use Rattle.inline_commands.specs.Unlink.{is_link}

-- the links among the ancestors of a node, the outermost first
unfoldable pub links_above : Forest Content → ℕ → List ℕ
links_above f n = filter (is_link f) (reverse (ancestors f n))

-- of each member those that don't stand above the one before it, which is `last` for the first
abbrev pub links_over : Forest Content → ℕ → List ℕ → List ℕ
links_over f last [] = []
links_over f last (n ∷ ns) =
    filter (λ l. not (is_ancestor f l last)) (links_above f n) ++ links_over f n ns

-- the links that a range contains; one that isn't in order contains none
abbrev pub links_inside : Forest Content → Point → Point → List ℕ
links_inside f start end =
    if is_before f start end then filter (is_link f) (contained_nodes f start end) else []

-- the members from the front on for as long as each stands above x
abbrev pub around : Forest Content → List ℕ → ℕ → List ℕ
around f [] x = []
around f (b ∷ bs) x = if is_ancestor f b x then b ∷ around f bs x else []

-- those behind them
abbrev pub beyond : Forest Content → List ℕ → ℕ → List ℕ
beyond f [] x = []
beyond f (b ∷ bs) x = if is_ancestor f b x then beyond f bs x else b ∷ bs

-- the members of both lists, each of the first before the first one of the second that it stands
-- above
abbrev pub merged : Forest Content → List ℕ → List ℕ → List ℕ
merged f bs [] = bs
merged f bs (x ∷ xs) = around f bs x ++ x ∷ merged f (beyond f bs x) xs
