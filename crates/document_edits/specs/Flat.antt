-- The nodes of trees as one list, and the trees that grow from such a list.
use Rattle.std.specs.Prelude.{ℕ, zero, suc, ◌+◌, List, [], ◌∷◌, ◌++◌}
use Rattle.forest_changes.specs.DomModel.declared.Content.{Content}
use Rattle.forest_changes.specs.DomModel.Forest.{Forest}
use Rattle.forest_changes.specs.DomModel.Forest.Forest.{Nil, Tree}
use Rattle.document_edits.specs.declared.edit.TreeNode.{TreeNode}

-- the nodes of a forest in tree order, where its roots have this level
abbrev pub flat : ℕ → Forest Content → List TreeNode
flat level Nil = []
flat level (Tree l c ks rest) =
    record { level = level; label = l; content = c } ∷ (flat (level + 1) ks ++ flat level rest)

-- a forest with another put after its last tree of a level; where the last trees don't reach that
-- far down, at the lowest place that there is
abbrev pub put_last : Forest Content → ℕ → Forest Content → Forest Content
put_last Nil level t = t
put_last (Tree l c ks (Tree m d js rest)) level t =
    Tree l c ks (put_last (Tree m d js rest) level t)
put_last (Tree l c ks Nil) zero t = Tree l c ks t
put_last (Tree l c ks Nil) (suc level) t = Tree l c (put_last ks level t) Nil

-- a forest to which nodes come in tree order, each after the last tree of its level
abbrev pub grown_onto : Forest Content → List TreeNode → Forest Content
grown_onto f [] = f
grown_onto f (n ∷ ns) = grown_onto (put_last f n.level (Tree n.label n.content Nil Nil)) ns

-- the forest whose nodes a list tells
abbrev pub grown : List TreeNode → Forest Content
grown ns = grown_onto Nil ns
