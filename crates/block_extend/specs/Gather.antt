-- The outermost nodes of a list, and those of a block-extended range that pass a test.
use Rattle.std.specs.Prelude.{ℕ, Bool, List, [], ◌∷◌, if◌then◌else◌}
use Rattle.std.specs.List.{filter, list_any}
use Rattle.node_paths.specs.DomModel.declared.Content.{Content}
use Rattle.node_paths.specs.DomModel.Forest.{Forest}
use Rattle.node_tests.specs.LiveRange.declared.places.Point.{Point}
use Rattle.node_tests.specs.Ranges.{contained_nodes}
use Rattle.node_tests.specs.PointOrder.PointOrder.{is_ancestor}

-- each member that has no ancestor among those already taken
abbrev pub gather_on : Forest Content → List ℕ → List ℕ → List ℕ
gather_on f taken [] = []
gather_on f taken (x ∷ xs) =
    if list_any (λ t. is_ancestor f t x) taken then gather_on f taken xs else x
    ∷ gather_on f (x ∷ taken) xs

unfoldable pub gather : Forest Content → List ℕ → List ℕ
gather f list = gather_on f [] list

-- the nodes that a range contains and that pass a test, in tree order, without those that have an
-- ancestor among them
unfoldable pub gathered : (ℕ → Bool) → Forest Content → Point → Point → List ℕ
gathered test f start end = gather f (filter test (contained_nodes f start end))
