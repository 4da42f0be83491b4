-- The algorithms that commands share keep the order and leave the states of contenteditable.
use Rattle.std.proofs.Common.{ℕ, List}
use Rattle.inline_value.specs.WrapSplit.Split.{split_around, remove_keeping_children}
use Rattle.inline_value.specs.Ancestors.{fix_ancestors}
use Rattle.inline_value.specs.Styling.{unset_style}
use Rattle.command_laws.proofs.AncestorRuns.{order_preserving_fix_ancestors, steady_fix_ancestors}
use Rattle.command_laws.proofs.Fits.{Fit, fit}
use Rattle.command_laws.proofs.Splitting.{order_preserving_split_around, order_preserving_unwrap}
use Rattle.command_laws.proofs.SteadySplits.{steady_split_around, steady_keeping_children}
use Rattle.command_laws.proofs.StylingRuns.{order_preserving_unset_style, steady_unset_style}

pub fit_split_around : (n : ℕ) → Fit (split_around n)
fit_split_around n = fit (order_preserving_split_around n) (steady_split_around n)

pub fit_unwrap : (n : ℕ) → Fit (remove_keeping_children n)
fit_unwrap n = fit (order_preserving_unwrap n) (steady_keeping_children n)

pub fit_fix : (n : ℕ) → Fit (fix_ancestors n)
fit_fix n = fit (order_preserving_fix_ancestors n) (steady_fix_ancestors n)

pub fit_unset_style : (e : ℕ) (name : List ℕ) → Fit (unset_style e name)
fit_unset_style e name = fit (order_preserving_unset_style e name) (steady_unset_style e name)
