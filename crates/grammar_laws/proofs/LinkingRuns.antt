-- Making links, and unlink, keep to the grammar.
use Rattle.std.proofs.Common.{ℕ, List, [], ◌∷◌, Some, true}
use Rattle.std.specs.Prelude.{codes}
use Rattle.edit_model.specs.HtmlNames.declared.commands.Command.TheVariants as command
use Rattle.inline_commands.specs.Linking.{links_around, relink, relink_range, link_range, link_to, create_link}
use Rattle.inline_commands.specs.Unlink.{clear_links, unlink}
use Rattle.edit_model.specs.Confined.{is_editable_for}
use Rattle.edit_model.specs.Run.{◌>>◌, done, set_attribute}
use Rattle.inline_value.specs.Selections.{set_value}
use Rattle.grammar_laws.specs.Proper.{IsText}
use Rattle.grammar_laws.specs.Runs.{Proper}
use Rattle.making_laws.proofs.TameRuns.{set_href_name}
use Rattle.grammar_laws.proofs.ProperRuns.{proper_answer, proper_bind, proper_each, proper_if, proper_look, proper_parts, proper_set}
use Rattle.grammar_laws.proofs.SelectionRuns.{proper_clear_one, proper_set_value}

-- ---- making links

proper_relink : (v : List ℕ) (e : ℕ) → IsText v → Proper (relink v e)
unfolding relink
proper_relink v e own =
    proper_look _ (λ s p. proper_if (is_editable_for s e) (set_attribute e (codes "href") v >> done) done
    (proper_bind (set_attribute e (codes "href") v) (λ _. done) (proper_set e (codes "href") v set_href_name own) (λ _. proper_answer tt)) (proper_answer tt))

proper_relink_range : (v : List ℕ) → IsText v → Proper (relink_range v)
unfolding relink_range
proper_relink_range v own = proper_look _ (λ s p. proper_each (links_around s) (relink v) (λ e. proper_relink v e own))

proper_link_range : (v : List ℕ) → IsText v → Proper (link_range v)
unfolding link_range
proper_link_range v own =
    proper_bind (relink_range v) _ (proper_relink_range v own) (λ _. proper_bind (set_value command.CreateLink (Some v)) _ (proper_set_value command.CreateLink (Some v) own) (λ _. proper_answer true))

proper_link_to : (v : List ℕ) → IsText v → Proper (link_to v)
proper_link_to [] own = proper_answer _
proper_link_to (c ∷ v) own = proper_link_range (c ∷ v) own

pub proper_create_link : (v : List ℕ) → IsText v → Proper (create_link v)
unfolding create_link
proper_create_link v own = proper_link_to v own

-- ---- unlink

proper_clear_links : (list : List ℕ) → Proper (clear_links list)
unfolding clear_links
proper_clear_links list = search (proper_parts, proper_clear_one)

pub proper_unlink : Proper unlink
unfolding unlink
proper_unlink = search (proper_parts, proper_clear_links)
