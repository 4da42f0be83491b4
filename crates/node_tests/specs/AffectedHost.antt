-- The editing host that a command on a range works in.
use Rattle.std.specs.Prelude.{ℕ, Bool, ◌&&◌, ◌||◌, Option, Some, None, if◌then◌else◌, is_some, ◌==◌}
use Rattle.std.specs.List.{find, list_any}
use Rattle.std.specs.Option.{option_map}
use Rattle.node_styles.specs.DomModel.declared.Content.{Content}
use Rattle.node_styles.specs.DomModel.Editing.{is_host, is_true_state, editing_host}
use Rattle.node_styles.specs.DomModel.Forest.{Forest}
use Rattle.node_styles.specs.Lineage.{Ancestor, lineage}

-- editable, whatever its host, or a host
unfoldable pub takes_commands : Forest Content → ℕ → Bool
takes_commands f l = is_host f l || is_some (editing_host f l)

-- it is a host, and a node or an ancestor of that node
abbrev pub is_host_of : Forest Content → ℕ → Ancestor → Bool
is_host_of f l k = is_true_state k.content && list_any (λ j. j.label == k.label) (lineage f l)

-- the node itself where it is a host, else the host with which it is editable
abbrev pub own_host : Forest Content → ℕ → Option ℕ
own_host f l = if is_host f l then Some l else editing_host f l

-- the innermost host that holds both nodes
unfoldable pub common_host : Forest Content → ℕ → ℕ → Option ℕ
common_host f a b = option_map (λ k. k.label) (find (is_host_of f b) (lineage f a))

-- none where a node is neither editable nor a host
unfoldable pub affected_host : Forest Content → ℕ → ℕ → Option ℕ
affected_host f start end =
    if takes_commands f start && takes_commands f end then common_host f start end else None
