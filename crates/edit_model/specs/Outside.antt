-- What lies outside the affected host: the document with the host's children left out.
use Rattle.std.specs.Prelude.{◌≡◌, ℕ, ◌<◌, Bool, false, not, ◌&&◌, ◌||◌, Option, Some, None, if◌then◌else◌, ◌==◌}
use Rattle.std.specs.Option.{option_map_or}
use Rattle.point_order.specs.DomModel.declared.Content.{Content}
use Rattle.point_order.specs.DomModel.Editing.{is_editable}
use Rattle.point_order.specs.DomModel.Forest.{Forest, tree_of, count_of, is_label, parent_of}
use Rattle.point_order.specs.DomModel.Forest.Forest.{Nil, Tree}
use Rattle.edit_model.specs.State.{State}
use Rattle.point_order.specs.DomModel.Contents.{is_break}

-- the forest without the children of a label
unfoldable pub hollowed : Forest Content → ℕ → Forest Content
hollowed Nil h = Nil
hollowed (Tree m c ks rest) h = if m == h then Tree m c Nil (hollowed rest h)
    else Tree m c (hollowed ks h) (hollowed rest h)

-- the document without the children of the host; without a host, the whole document
abbrev pub outside_by : Option ℕ → Forest Content → Forest Content
outside_by None f = tree_of f 0
outside_by (Some h) f = hollowed (tree_of f 0) h

unfoldable pub outside : State → Forest Content
outside s = outside_by s.host s.trees

-- nothing made by the running command lies outside: what is outside was drawn before it began
pub record IsConfined (s : State) : Type 0 where
  pub before : (l : ℕ) → 0 < count_of (outside s) l → l < s.start

-- a node of the document that is neither the host nor below it
pub record IsApart (host : Option ℕ) (f : Forest Content) (l : ℕ) : Type 0 where
  pub outside : 0 < count_of (outside_by host f) l
  pub other : is_label host l ≡ false

-- the host, or editable with it as its host
unfoldable pub is_within_host : Forest Content → ℕ → ℕ → Bool
is_within_host f host l = host == l || is_editable f host l

-- an island of a host: a node below it that is neither editable nor a br, and whose parent is the
-- host or editable
unfoldable pub is_island : Forest Content → ℕ → ℕ → Bool
is_island f host l =
    not (is_editable f host l) && (not (is_break f l) && option_map_or (is_within_host f host) (parent_of f l) false)
