-- Making links, and unlink, are tame.
use Rattle.std.proofs.Common.{ℕ, List, [], ◌∷◌}
use Rattle.inline_commands.specs.Linking.{relink, relink_range, link_range, link_to, create_link}
use Rattle.inline_commands.specs.Unlink.{clear_links, unlink}
use Rattle.making_laws.specs.Tame.{Tame}
use Rattle.making_laws.proofs.TameRuns.{set_href_name, tame_answer, tame_parts}
use Rattle.making_laws.proofs.SelectionRuns.{tame_clear_one, tame_set_value}

-- ---- making links

tame_relink : (v : List ℕ) (e : ℕ) → Tame (relink v e)
unfolding relink
tame_relink v e = search (tame_parts, set_href_name)

tame_relink_range : (v : List ℕ) → Tame (relink_range v)
unfolding relink_range
tame_relink_range v = search (tame_parts, tame_relink)

tame_link_range : (v : List ℕ) → Tame (link_range v)
unfolding link_range
tame_link_range v = search (tame_parts, tame_relink_range, tame_set_value)

tame_link_to : (v : List ℕ) → Tame (link_to v)
tame_link_to [] = tame_answer _
tame_link_to (c ∷ v) = tame_link_range (c ∷ v)

pub tame_create_link : (v : List ℕ) → Tame (create_link v)
unfolding create_link
tame_create_link v = tame_link_to v

-- ---- unlink

tame_clear_links : (list : List ℕ) → Tame (clear_links list)
unfolding clear_links
tame_clear_links list = search (tame_parts, tame_clear_one)

pub tame_unlink : Tame unlink
unfolding unlink
tame_unlink = search (tame_parts, tame_clear_links)
