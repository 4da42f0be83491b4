-- The way up to a container or an entry.
use Rattle.std.proofs.Common.{◌≡◌, ℕ, Bool, true, false, cond, Option, Some, None, refl}
use Rattle.edit_model.specs.State.{State}
use Rattle.edit_model.specs.Confined.{is_editable_for}
use Rattle.inline_value.specs.NodeStyles.NameClasses.{is_single_line}
use Rattle.edit_model.specs.DomModel.Forest.{parent_of}
use Rattle.text_insertion.specs.Entries.{is_entry}
use Rattle.text_insertion.specs.Containers.{if_editable, up_to_container, up_to_entry}

module _ (s : State) where
  editable_by : (v : Bool) (m k : ℕ) → is_editable_for s m ≡ v → cond v (Some m) None ≡ Some k → is_editable_for s k ≡ true
  editable_by true m k on found = let same : m ≡ k = (let t = found in cc) in rw same at on
  editable_by false m k off found = absurd (let t : None ≡ Some k = found in cc)

  editable_found : (v : Bool) (o : Option ℕ) (k : ℕ) → cond v None (if_editable s o) ≡ Some k → is_editable_for s k ≡ true
  editable_found true o k found = absurd (let t : None ≡ Some k = found in cc)
  editable_found false None k found = absurd (let t : None ≡ Some k = found in cc)
  editable_found false (Some m) k found = editable_by (is_editable_for s m) m k refl found

  -- what is come to is editable
  pub container_editable : (l k : ℕ) → up_to_container s l ≡ Some k → is_editable_for s k ≡ true
  unfolding up_to_container
  container_editable l k found = editable_found (is_single_line s.trees l) (parent_of s.trees l) k found

  pub entry_editable : (l k : ℕ) → up_to_entry s l ≡ Some k → is_editable_for s k ≡ true
  unfolding up_to_entry
  entry_editable l k found = editable_found (is_entry s l) (parent_of s.trees l) k found
