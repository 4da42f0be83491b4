-- Inserting a paragraph as a whole, from what is erased on.
use Rattle.std.proofs.Common.{◌≡◌, ℕ, true, false, ◌∙◌}
use Rattle.edit_model.specs.State.{State}
use Rattle.edit_model.specs.Run.{◌>>=◌, final, answer}
use Rattle.edit_model.proofs.Steps.{final-bind, final-answer}
use Rattle.command_laws.proofs.DeleteRuns.{steady_erase}
use Rattle.delete_core.specs.declared.deletion.TheConstants.Manner.{DEFAULT}
use Rattle.text_insertion.specs.Paragraph.{insert_paragraph_inside, insert_paragraph}
use Rattle.text_insertion.specs.Start.{erase}
use Rattle.caret_laws.specs.SingleParagraph.{paragraph_inserted}
use Rattle.caret_laws.proofs.InsideRuns.{Began, Underway}
use Rattle.caret_laws.proofs.ParagraphRuns.{inside_singly}
use Rattle.caret_laws.proofs.Underways.{way_steady}

module _ (s : State) (h : ℕ) (b : Began s h) where
  pub whole_singly : (t : State) → Underway s h false t → final insert_paragraph t ≡ paragraph_inserted t
  unfolding insert_paragraph paragraph_inserted
  whole_singly t way =
      final-bind (erase DEFAULT) (λ _. insert_paragraph_inside >>= (λ _. answer true)) t
      ∙ (final-bind insert_paragraph_inside (λ _. answer true) (final (erase DEFAULT) t)
      ∙ (final-answer true (final insert_paragraph_inside (final (erase DEFAULT) t))
      ∙ inside_singly s h b (final (erase DEFAULT) t) (way_steady s h b (erase DEFAULT) t (steady_erase DEFAULT) way)))
