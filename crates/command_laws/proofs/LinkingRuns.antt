-- Making links, and unlink, keep the order, and leave the states of contenteditable.
use Rattle.std.proofs.Common.{ℕ, List, [], ◌∷◌}
use Rattle.edit_laws.specs.Steady.{Steady}
use Rattle.edit_laws.specs.OrderPreserving.{OrderPreserving}
use Rattle.edit_laws.proofs.SteadyRuns.{steady_parts}
use Rattle.edit_laws.proofs.OrderPreserving.{order_preserving}
use Rattle.inline_commands.specs.Linking.{relink, relink_range, link_range, link_to, create_link}
use Rattle.inline_commands.specs.Unlink.{clear_links, unlink}
use Rattle.command_laws.proofs.Fits.{Fit, fit, fits, fit_answer}
use Rattle.command_laws.proofs.SelectionRuns.{fit_clear_one, fit_set_value}

-- ---- making links

order_preserving_relink : (v : List ℕ) (e : ℕ) → OrderPreserving (relink v e)
unfolding relink
order_preserving_relink v e = search order_preserving

steady_relink : (v : List ℕ) (e : ℕ) → Steady (relink v e)
unfolding relink
steady_relink v e = search steady_parts

fit_relink : (v : List ℕ) (e : ℕ) → Fit (relink v e)
fit_relink v e = fit (order_preserving_relink v e) (steady_relink v e)

fit_relink_range : (v : List ℕ) → Fit (relink_range v)
unfolding relink_range
fit_relink_range v = search (fits, fit_relink)

fit_link_range : (v : List ℕ) → Fit (link_range v)
unfolding link_range
fit_link_range v = search (fits, fit_relink_range, fit_set_value)

fit_link_to : (v : List ℕ) → Fit (link_to v)
fit_link_to [] = fit_answer _
fit_link_to (c ∷ v) = fit_link_range (c ∷ v)

pub fit_create_link : (v : List ℕ) → Fit (create_link v)
unfolding create_link
fit_create_link v = fit_link_to v

-- ---- unlink

fit_clear_links : (list : List ℕ) → Fit (clear_links list)
unfolding clear_links
fit_clear_links list = search (fits, fit_clear_one)

pub fit_unlink : Fit unlink
unfolding unlink
fit_unlink = search (fits, fit_clear_links)

-- ---- each certificate by itself

pub order_preserving_create_link : (v : List ℕ) → OrderPreserving (create_link v)
order_preserving_create_link v = (fit_create_link v).order

pub steady_create_link : (v : List ℕ) → Steady (create_link v)
steady_create_link v = (fit_create_link v).states

pub order_preserving_unlink : OrderPreserving unlink
order_preserving_unlink = fit_unlink.order

pub steady_unlink : Steady unlink
steady_unlink = fit_unlink.states
