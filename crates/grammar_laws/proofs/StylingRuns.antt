-- Setting and unsetting a style keeps to the grammar.
use Rattle.std.proofs.Common.{ℕ, List}
use Rattle.std.specs.Prelude.{codes}
use Rattle.inline_value.specs.CssValue.DeclarationList.{set_property, unset_in, printed}
use Rattle.inline_value.specs.CssValue.StyleText.{is_empty}
use Rattle.edit_model.specs.Edit.{Unset}
use Rattle.edit_model.specs.Run.{◌>>◌, done, set_attribute, unset_attribute}
use Rattle.inline_value.specs.Styling.{declarations_of, write_text, set_style, unset_style}
use Rattle.making_laws.proofs.TameRuns.{set_style_name}
use Rattle.grammar_laws.specs.Proper.{IsText}
use Rattle.grammar_laws.specs.Runs.{Proper}
use Rattle.grammar_laws.proofs.ProperRuns.{proper_answer, proper_bind, proper_edit, proper_if, proper_look, proper_set}
use Rattle.grammar_laws.proofs.Styles.{printed_set, printed_unset}
use Rattle.grammar_laws.proofs.Values.{declarations_value}

proper_text : (e : ℕ) (chars : List ℕ) → IsText chars → Proper (write_text e chars)
unfolding write_text
proper_text e chars own =
    proper_if (is_empty chars) (unset_attribute e (codes "style") >> done) (set_attribute e (codes "style") chars >> done)
    (proper_bind (unset_attribute e (codes "style")) (λ _. done) (proper_edit (Unset e (codes "style")) tt) (λ _. proper_answer tt))
    (proper_bind (set_attribute e (codes "style") chars) (λ _. done) (proper_set e (codes "style") chars set_style_name own) (λ _. proper_answer tt))

pub proper_set_style : (e : ℕ) (name value : List ℕ) → IsText name → IsText value → Proper (set_style e name value)
unfolding set_style
proper_set_style e name value named own = proper_look _ (λ s p. proper_text e (printed (set_property (declarations_of s e) name value)) (printed_set (declarations_of s e) name value named own (declarations_value s e p)))

pub proper_unset_style : (e : ℕ) (name : List ℕ) → Proper (unset_style e name)
unfolding unset_style
proper_unset_style e name = proper_look _ (λ s p. proper_text e (printed (unset_in (declarations_of s e) name)) (printed_unset (declarations_of s e) name (declarations_value s e p)))
