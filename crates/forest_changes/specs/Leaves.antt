-- A forest with nodes that were made since, each alone in a tree and with a label above all others.
use Rattle.std.specs.Prelude.{◌≡◌, ◌≢◌, ◌^◌, ℕ, ◌+◌, ◌<◌, nat_le, List, [], ◌∷◌, ◌++◌, length, IfSome}
use Rattle.dom_model.specs.declared.Content.{Content}
use Rattle.dom_model.specs.declared.Content.TheVariants.{Document}
use Rattle.dom_model.specs.AttributeList.{IsDistinctNames}
use Rattle.dom_model.specs.Contents.{attributes_in, char_length}
use Rattle.dom_model.specs.Forest.{Forest, count_of, with_leaf}
use Rattle.dom_model.specs.Pruned.{pruned, IsWhole}
use Rattle.undo_log.specs.Turning.{back, forth, FitsBack, FitsForth}
use Rattle.forest_changes.specs.Change.{Change, Fits, IsForest, applied}

-- every label is below l
pub record IsBelow (f : Forest Content) (l : ℕ) : Type 0 where
  pub below : (m : ℕ) → 0 < count_of f m → m < l

-- what a node can be made with
pub record IsMade (c : Content) : Type 0 where
  pub plain : c ≢ Document
  pub short : char_length c < 2 ^ 32
  pub names : IfSome (attributes_in c) IsDistinctNames

abbrev pub EachMade : List Content → Type 0
EachMade [] = Unit {0}
EachMade (c ∷ cs) = IsMade c × EachMade cs

-- the forest with a node for each content, labelled from l on
abbrev pub with_leaves : Forest Content → ℕ → List Content → Forest Content
with_leaves f l [] = f
with_leaves f l (c ∷ cs) = with_leaves (with_leaf f l c) (l + 1) cs

-- the change fits beside one more such node, and leaves it as it is
pub record Beside (l : ℕ) (c : Content) (x : Change) (f : Forest Content) : Type 0 where
  pub fits : Fits x (with_leaf f l c)
  pub same : applied x (with_leaf f l c) ≡ with_leaf (applied x f) l c
  pub forest : IsForest (applied x f)
  pub below : IsBelow (applied x f) l

-- the same of changes one after another, from the last of a list to the first, beside any number of
-- such nodes
pub record BackBeside (l : ℕ) (cs : List Content) (xs : List Change)
    (f : Forest Content) : Type 0 where
  pub fits : FitsBack applied Fits xs (with_leaves f l cs)
  pub same : back applied xs (with_leaves f l cs) ≡ with_leaves (back applied xs f) l cs
  pub below : IsBelow (back applied xs f) l

-- and from the first to the last
pub record ForthBeside (l : ℕ) (cs : List Content) (xs : List Change)
    (f : Forest Content) : Type 0 where
  pub fits : FitsForth applied Fits xs (with_leaves f l cs)
  pub same : forth applied xs (with_leaves f l cs) ≡ with_leaves (forth applied xs f) l cs
  pub below : IsBelow (forth applied xs f) l

-- the forest with the nodes that were made is one, and without them it is what it was; one more
-- goes last
pub record HasMade (l : ℕ) (cs : List Content) (f : Forest Content) : Type 0 where
  pub forest : IsForest (with_leaves f l cs)
  pub below : IsBelow (with_leaves f l cs) (l + length cs)
  pub whole : IsWhole (nat_le l) (with_leaves f l cs)
  pub without : pruned (nat_le l) (with_leaves f l cs) ≡ f
  pub one_more : (c : Content) → with_leaf (with_leaves f l cs) (l + length cs) c
      ≡ with_leaves f l (cs ++ c ∷ [])
