use Rattle.std.proofs.Common.{ℕ, false, subst, ◌∙◌}
use Rattle.edit_doc.specs.Fields.{IsEnded}
use Rattle.edit_doc.specs.History.{whole_of}
use Rattle.edit_doc.specs.Live.{live_of}
use Rattle.edit_doc.proofs.Starts.{new_ok, new_is}
use Rattle.edit_doc.proofs.Doc.new.Goals as goal

ended : (c : goal.After-none-3) → IsEnded c.args.arena.next c.none-3.result
ended c = subst (λ (n : ℕ). IsEnded n c.none-3.result) c.next_label-next.ensures c.none-3.ensures

pub invariant_of-result : goal.invariant_of-result
invariant_of-result c =
    rw (c.points.view_is ∙ c.in_ok-points.ensures, c.in_ok-none-2.ensures, c.in_ok-new.ensures)
    (new_ok c.args.arena c.valid.ensures c.requires.loose c.args.undo_depth c.none-3.result (ended c))

pub returns : goal.returns
returns c =
    (λ i. whole_of (live_of c.args.arena ((c.points.view_is ∙ c.in_ok-points.ensures) i) (c.in_ok-none-2.ensures i) (record { css_styling = false; paragraphs = false })) c.none-3.result (c.in_ok-new.ensures i))
    ∙ new_is c.args.arena c.valid.ensures c.requires.loose c.args.undo_depth c.none-3.result (ended c)
