-- What differs between the characters of a node before and after a change.
use Rattle.std.specs.Prelude.{ℕ, ◌-◌, nat_eq, ◌&&◌, ◌==◌, if◌then◌else◌, List, length, take, drop, reverse, Option, Some, None}
use Rattle.std.specs.List.{common_prefix_len}
use Rattle.document_edits.specs.declared.edit.DocumentEdit.{DocumentEdit}
use Rattle.document_edits.specs.declared.edit.DocumentEdit.TheVariants.{Replace}

-- how many characters are the same at the starts of two texts, and at their ends
abbrev pub shared_start : List ℕ → List ℕ → ℕ
shared_start old new = common_prefix_len nat_eq old new

abbrev pub shared_end : List ℕ → List ℕ → ℕ
shared_end old new = common_prefix_len nat_eq (reverse old) (reverse new)

-- characters from an offset on give way to others, but for those at their ends that are the same
abbrev pub replaced_at : ℕ → ℕ → List ℕ → List ℕ → DocumentEdit
replaced_at node at gone come =
    let same : ℕ = shared_end gone come in
    Replace node at (length gone - same) (take (length come - same) come)

-- the edit that gives a node other characters, if they are others
unfoldable pub replaced : ℕ → List ℕ → List ℕ → Option DocumentEdit
replaced node old new =
    let at : ℕ = shared_start old new in
    if at == length old && at == length new then None
    else Some (replaced_at node at (drop at old) (drop at new))
