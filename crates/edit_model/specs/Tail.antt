-- Extracting the tail of a node: what stands in it from a point on goes to the end of another node,
-- and the elements in which the point stands are copied.
use Rattle.std.specs.Prelude.{ℕ, zero, suc, ◌+◌, List, [], ◌∷◌, ◌++◌, drop, None, if◌then◌else◌, ◌==◌, unwrap_or, codes}
use Rattle.std.specs.Option.{option_map_or}
use Rattle.point_order.specs.DomModel.declared.Content.{Content}
use Rattle.point_order.specs.DomModel.declared.Content.TheVariants.{Element}
use Rattle.point_order.specs.DomModel.AttributeList.{unset_in}
use Rattle.point_order.specs.DomModel.Contents.{name_of, attributes_of}
use Rattle.point_order.specs.DomModel.Forest.{Forest, total, tree_of, children_of}
use Rattle.point_order.specs.DomModel.Places.{place_in}
use Rattle.point_order.specs.LiveRange.declared.places.Point.{Point}
use Rattle.point_order.specs.PointOrder.{child_toward}
use Rattle.edit_model.specs.Edit.{Edit, Insert, Remove}

-- a copy is made as a loose node with the next label, or an edit is made
pub data Step : Type 0 where
  Copy : (content : Content) → Step
  Do : (edit : Edit) → Step

-- each node of a list is removed and becomes the last child of d, in order
unfoldable pub carried : ℕ → List ℕ → List Step
carried d [] = []
carried d (x ∷ xs) = Do (Remove x) ∷ (Do (Insert d None x) ∷ carried d xs)

-- what comes after k in a list
abbrev pub later : List ℕ → ℕ → List ℕ
later xs k = drop (place_in xs k + 1) xs

-- an element without its id
unfoldable pub copy_of : Forest Content → ℕ → Content
copy_of f k =
    Element (unwrap_or (name_of f k) []) (unset_in (unwrap_or (attributes_of f k) []) (codes "id"))

-- What stands in c from a point on goes to the end of d. Where the point stands in c itself, each
-- child from its offset on goes. Otherwise the child k of c in which it stands is copied, what
-- stands in k from the point on goes into the copy, the copy becomes the last child of d, and then
-- each child of c after k. The copies get the labels from `next` on. None of it touches what a
-- later part looks at, so all is told by the trees as they are at first.
unfoldable pub tail_steps : ℕ → Forest Content → Point → ℕ → ℕ → ℕ → List Step
tail_steps zero f from c d next = []
tail_steps (suc fuel) f from c d next =
    if from.label == c then carried d (drop from.offset (children_of f c))
    else option_map_or (λ k. Copy (copy_of f k) ∷ (tail_steps fuel f from k next (next + 1)
    ++ (Do (Insert d None next) ∷ carried d (later (children_of f c) k))))
    (child_toward f c from.label) []

-- the nodes of the document: no chain of parents is longer
abbrev pub document_size : Forest Content → ℕ
document_size f = total (λ _ _. 1) (tree_of f 0)
