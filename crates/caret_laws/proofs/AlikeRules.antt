-- Putting an element and a rule is the same whether the command keeps contents or not, where nothing is taken out that is kept.
use Rattle.std.proofs.Common.{ℕ, ◌&&◌, not, if◌then◌else◌, List, refl}
use Rattle.std.specs.Prelude.{◌==◌}
use Rattle.edit_model.specs.DomModel.declared.attributes.Attribute.{Attribute}
use Rattle.edit_model.specs.DomModel.Contents.{has_chars_at, length_of}
use Rattle.edit_model.specs.LiveRange.declared.places.Point.{Point}
use Rattle.edit_model.specs.Run.{Run, done}
use Rattle.edit_model.specs.State.{State}
use Rattle.text_insertion.specs.Start.{active_start, cuts_text}
use Rattle.insert_objects.specs.Putting.{collapse_before, collapse_after, leave_text, put}
use Rattle.insert_objects.specs.Rule.{widen_range, outermost_start, out_of_start, outermost_end, out_of_end, put_rule}
use Rattle.caret_laws.proofs.AlikeTexts.{alike_at, alike_look_at, given_at, if_at, split_at}
use Rattle.caret_laws.proofs.AlikeParagraphs.{alike_insert_at_start, cuts_words}
use Rattle.caret_laws.proofs.AlikeAncestors.{alike_fix_ancestors}
use Rattle.caret_laws.proofs.SparingRuns.{alike_answer, alike_parts, Alike}

-- ---- putting an element

pub alike_collapse_before : (n : ℕ) → Alike (collapse_before n)
unfolding collapse_before
alike_collapse_before n = search alike_parts

pub alike_collapse_after : (n : ℕ) → Alike (collapse_after n)
unfolding collapse_after
alike_collapse_after n = search alike_parts

-- where the text isn't split
abbrev leave_whole : State → Point → Run (Unit {0})
leave_whole s p =
    if not (has_chars_at s.trees p.label) then done
    else (if (p.offset == length_of s.trees p.label) && not (p.offset == 0)
    then collapse_after p.label
    else collapse_before p.label)

alike_leave_whole : (s : State) (p : Point) → Alike (leave_whole s p)
alike_leave_whole s p = search (alike_parts, alike_collapse_after, alike_collapse_before)

pub alike_leave_text : Alike leave_text
unfolding leave_text active_start
alike_leave_text = alike_look_at _ (λ s. refl) (λ s. given_at s (active_start s) done _ (alike_at s done (alike_answer tt)) (λ p.
    if_at s (cuts_text s.trees p) _ _ (λ e. split_at p.label p.offset (λ _. collapse_after p.label) (λ _. alike_collapse_after p.label) s (cuts_words s p e)) (alike_at s _ (alike_leave_whole s p))))

pub alike_put : (name : List ℕ) (attributes : List Attribute) → Alike (put name attributes)
unfolding put
alike_put name attributes = search (alike_parts, alike_leave_text, alike_insert_at_start)

-- ---- rules

pub alike_widen_range : Alike widen_range
unfolding widen_range outermost_start out_of_start outermost_end out_of_end
alike_widen_range = search alike_parts

pub alike_put_rule : Alike put_rule
unfolding put_rule
alike_put_rule = search (alike_parts, alike_put, alike_fix_ancestors, alike_collapse_after)
