-- Toggling lists leaves the selection in the host; it keeps its range in the scratch pair, which may stand outside.
use Rattle.std.proofs.Common.{ℕ, Bool, false, List, sym, true≢false}
use Rattle.edit_model.specs.DomModel.declared.Content.{Content}
use Rattle.edit_model.specs.DomModel.Forest.{Forest}
use Rattle.edit_laws.proofs.HostRuns.{Stays, stays_parts, stays_calm, stays_answer, stays_given, stays_perform}
use Rattle.list_toggle.specs.Converting.{convert_each, convert_lists}
use Rattle.list_toggle.specs.Ranges.{RangeEnds, keep_range}
use Rattle.list_toggle.specs.Toggle.{toggle_on, toggle_lists}
use Rattle.list_toggle.specs.declared.toggling.ListKind.{ListKind}
use Rattle.selection_laws.proofs.CalmIndents.{calm_normalize_range}
use Rattle.selection_laws.proofs.CalmLists.{calm_convert_list, calm_enlist_next, calm_toggle_off}

module _ (outer : Forest Content) (h : ℕ) where
  stays_keep_range : (range : RangeEnds) → Stays outer h false (keep_range range)
  unfolding keep_range
  stays_keep_range range =
      stays_given outer h false range _ _ (stays_answer outer h false tt) (λ ends. stays_perform outer h false _ (λ on. absurd (true≢false (sym on))))

  stays_convert_each : (ordered : Bool) (range : RangeEnds) (lists : List ℕ) → Stays outer h false (convert_each ordered range lists)
  unfolding convert_each
  stays_convert_each ordered range lists = search (stays_parts, stays_keep_range, stays_calm, calm_convert_list) depth 8

  stays_convert_lists : (ordered : Bool) → Stays outer h false (convert_lists ordered)
  unfolding convert_lists
  stays_convert_lists ordered = search (stays_parts, stays_convert_each)

  stays_toggle_on : (ordered : Bool) → Stays outer h false (toggle_on ordered)
  unfolding toggle_on
  stays_toggle_on ordered = search (stays_parts, stays_convert_lists, stays_calm, calm_enlist_next) depth 9

  pub stays_toggle_lists : (kind : ListKind) → Stays outer h false (toggle_lists kind)
  unfolding toggle_lists
  stays_toggle_lists kind = search (stays_parts, stays_toggle_on, stays_calm, calm_normalize_range, calm_toggle_off) depth 9
