-- Editing hosts and editable nodes, by the attribute contenteditable.
use Rattle.std.specs.Prelude.{ℕ, Bool, false, ◌||◌, List, [], map, Option, Some, None, if◌then◌else◌, ◌==◌, bytes_eq, codes}
use Rattle.std.specs.Option.{option_map, option_map_or}
use Rattle.std.specs.Char.{to_ascii_lowercase}
use Rattle.dom_model.specs.declared.Content.{Content}
use Rattle.dom_model.specs.declared.Content.TheVariants.{Element}
use Rattle.dom_model.specs.AttributeList.{value_of}
use Rattle.dom_model.specs.Contents.{is_element}
use Rattle.dom_model.specs.Forest.{Forest, either, is_label, content_of}
use Rattle.dom_model.specs.Forest.Forest.{Nil, Tree}

-- the value of contenteditable, in lower case; None where there is no such attribute
abbrev pub contenteditable : Content → Option (List ℕ)
contenteditable (Element name attributes) = option_map (λ value. map to_ascii_lowercase value)
    (value_of attributes (codes "contenteditable"))
contenteditable _ = None

-- the true state: the value is empty or "true"; the false state: it is "false"; any other value is
-- as no attribute
abbrev pub is_true_state : Content → Bool
is_true_state c =
    option_map_or (λ value. bytes_eq value [] || bytes_eq value (codes "true")) (contenteditable c)
    false

abbrev pub is_false_state : Content → Bool
is_false_state c = option_map_or (λ value. bytes_eq value (codes "false")) (contenteditable c) false

-- the host of a node's own content and parent, where `above` is the host of what its parent offers:
-- no host for a host, in the false state, or for a node that is no element and has no element as
-- parent
abbrev pub host_by : Content → Bool → Option ℕ → Option ℕ
host_by c under_element above =
    if is_true_state c || is_false_state c then None else if is_element c || under_element then
    above else None

-- what a node offers its children: itself where it is a host, else its own host
abbrev pub offered : ℕ → Content → Bool → Option ℕ → Option ℕ
offered l c under_element above = if is_true_state c then Some l else host_by c under_element above

-- the host of a label in trees whose parent offers `above`
abbrev pub host_from : Bool → Option ℕ → Forest Content → ℕ → Option ℕ
host_from under_element above Nil l = None
host_from under_element above (Tree m c ks rest) l =
    if m == l then host_by c under_element above
    else either (host_from (is_element c) (offered m c under_element above) ks l)
    (host_from under_element above rest l)

-- the host with which a label is editable, if it is editable
abbrev pub editing_host : Forest Content → ℕ → Option ℕ
editing_host f l = host_from false None f l

-- an editing host is an element in the true state
abbrev pub is_host : Forest Content → ℕ → Bool
is_host f l = option_map_or is_true_state (content_of f l) false

-- editable, with this host as its host
abbrev pub is_editable : Forest Content → ℕ → ℕ → Bool
is_editable f host l = is_label (editing_host f l) host
