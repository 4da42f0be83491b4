-- Inserting line breaks, rules and images leaves the selection in the host: the caret stands beside what was made.
use Rattle.std.proofs.Common.{◌≡◌, ◌≢◌, ℕ, Bool, true, not, eqb, List, [], ◌∷◌, None}
use Rattle.std.specs.Prelude.{codes}
use Rattle.std.proofs.lemmas.Bool.{and_parts, not-false}
use Rattle.edit_model.specs.DomModel.declared.Content.{Content}
use Rattle.edit_model.specs.DomModel.declared.attributes.Attribute.{Attribute}
use Rattle.edit_model.specs.DomModel.Contents.{has_chars_at}
use Rattle.edit_model.specs.DomModel.Forest.{Forest}
use Rattle.edit_model.specs.LiveRange.declared.places.Point.{Point}
use Rattle.inline_value.specs.NodeTests.CollapsedWhitespace.{is_words}
use Rattle.edit_model.specs.State.{State}
use Rattle.edit_laws.specs.InHost.{IsNear, IsInHost}
use Rattle.edit_laws.proofs.HostRuns.{Stays, StaysWith, IsBelow, stays_parts, stays_calm, stays_answer, stays_bind, stays_look, stays_if, stays_choice, stays_known, stays_perform, stays_from, stays_split, gives_answer, gives_bind, gives_after, gives_element}
use Rattle.inline_value.specs.EditActions.ActiveRange.{start_of, end_of}
use Rattle.inline_value.specs.WrapSplit.Walks.{turn_bound}
use Rattle.delete_core.specs.Places.{before_node, after_node}
use Rattle.text_insertion.specs.Start.{cuts_text}
use Rattle.insert_objects.specs.Image.{source, put_image, show_image, insert_source, insert_image}
use Rattle.insert_objects.specs.LineBreak.{put_break, break_line, insert_line_break}
use Rattle.insert_objects.specs.Putting.{collapse_before, collapse_after, leave_text, put}
use Rattle.insert_objects.specs.Rule.{out_of_start, out_of_end, outermost_start, outermost_end, widen_range, put_rule, insert_horizontal_rule}
use Rattle.selection_laws.proofs.CalmLines.{calm_insert_at_start}
use Rattle.selection_laws.proofs.CalmObjects.{calm_repeat_break, calm_drop_lone_break}
use Rattle.selection_laws.proofs.CalmValues.{calm_fix_ancestors}
use Rattle.selection_laws.proofs.Points.{NearAt, walk_keeps, some_if, near_start, near_end, near_before, near_after, not_host, chars_off, words_off}
use Rattle.selection_laws.proofs.Selected.{stays_at_selection, stays_at_start}
use Rattle.selection_laws.proofs.StayingLines.{stays_erase}

module _ (outer : Forest Content) (h : ℕ) (kept : Bool) where
  abbrev Near : Point → Type 0
  Near p = NearAt outer h kept p

  -- ---- what the commands have in common

  stays_collapse_before : (n : ℕ) → IsNear outer h n → n ≢ h → Stays outer h kept (collapse_before n)
  unfolding collapse_before
  stays_collapse_before n near off =
      stays_look outer h kept _
      (λ s is. stays_known outer h kept Near (before_node s.trees n) _ _ (near_before outer h kept s is n near off) (stays_answer outer h kept tt) (λ p there. stays_perform outer h kept _ (there, there)))

  stays_collapse_after : (n : ℕ) → IsNear outer h n → n ≢ h → Stays outer h kept (collapse_after n)
  unfolding collapse_after
  stays_collapse_after n near off =
      stays_look outer h kept _
      (λ s is. stays_known outer h kept Near (after_node s.trees n) _ _ (near_after outer h kept s is n near off) (stays_answer outer h kept tt) (λ p there. stays_perform outer h kept _ (there, there)))

  cuts_off : (s : State) → IsInHost outer h kept s → (p : Point) → cuts_text s.trees p ≡ true → p.label ≢ h
  unfolding cuts_text
  cuts_off s is p e = words_off outer h kept s is p.label (and_parts (is_words s.trees p.label) _ e).0

  stays_leave_text : Stays outer h kept leave_text
  unfolding leave_text
  stays_leave_text =
      stays_at_start outer h kept _ _ (stays_answer outer h kept tt)
      (λ s is p near. stays_choice outer h kept (cuts_text s.trees p) _ _
      (λ cuts. stays_bind outer h kept _ _ (stays_split outer h kept p.label p.offset) (λ _. stays_collapse_after p.label near (cuts_off s is p cuts)))
      (λ _. stays_choice outer h kept (not (has_chars_at s.trees p.label)) _ _ (λ _. stays_answer outer h kept tt)
      (λ chars. (
      let off = chars_off outer h kept s is p.label (not-false (has_chars_at s.trees p.label) chars) in
      stays_if outer h kept _ _ _ (stays_collapse_after p.label near off) (stays_collapse_before p.label near off)))))

  gives_put : (name : List ℕ) (attributes : List Attribute) → StaysWith outer h kept (IsBelow outer h) (put name attributes)
  unfolding put
  gives_put name attributes =
      gives_bind outer h kept (IsBelow outer h) (IsBelow outer h) _ _ (gives_element outer h kept name attributes)
      (λ n below. gives_after outer h kept (IsBelow outer h) _ _ stays_leave_text
      (λ _. gives_after outer h kept (IsBelow outer h) _ _ (stays_calm outer h kept _ (calm_insert_at_start n)) (λ _. gives_answer outer h kept (IsBelow outer h) n below)))

  -- ---- a line break

  stays_put_break : Stays outer h kept put_break
  unfolding put_break
  stays_put_break =
      stays_from outer h kept (IsBelow outer h) _ _ (gives_put (codes "br") [])
      (λ n below. stays_bind outer h kept _ _ (stays_collapse_after n below.0 below.1)
      (λ _. stays_bind outer h kept _ _ (stays_calm outer h kept _ (calm_repeat_break n)) (λ _. stays_answer outer h kept true)))

  stays_break_line : (p : Point) → Stays outer h kept (break_line p)
  unfolding break_line
  stays_break_line p = search (stays_parts, stays_put_break)

  pub stays_insert_line_break : Stays outer h kept insert_line_break
  unfolding insert_line_break
  stays_insert_line_break = search (stays_parts, stays_erase, stays_break_line)

  -- ---- a rule

  module _ (s : State) (is : IsInHost outer h kept s) where
    outer_start : (p : Point) → IsNear outer h p.label → Near (outermost_start s p)
    unfolding outermost_start out_of_start
    outer_start p near =
        walk_keeps Near (out_of_start s) (turn_bound s) p
        (λ q there. some_if Near _ _ None (λ e. near_before outer h kept s is q.label there (not_host outer h kept s is q.label (and_parts (eqb q.offset 0) _ e).1)) (λ _. tt))
        near

    outer_end : (p : Point) → IsNear outer h p.label → Near (outermost_end s p)
    unfolding outermost_end out_of_end
    outer_end p near =
        walk_keeps Near (out_of_end s) (turn_bound s) p
        (λ q there. some_if Near _ _ None (λ e. near_after outer h kept s is q.label there (not_host outer h kept s is q.label (and_parts (eqb q.offset _) _ e).1)) (λ _. tt))
        near

  stays_widen_range : Stays outer h kept widen_range
  unfolding widen_range
  stays_widen_range =
      stays_at_selection outer h kept _ _ (stays_answer outer h kept tt)
      (λ s is pair near. stays_perform outer h kept _ (outer_start s is (start_of s.trees pair) (near_start outer h kept s.trees pair near), outer_end s is (end_of s.trees pair) (near_end outer h kept s.trees pair near)))

  stays_put_rule : Stays outer h kept put_rule
  unfolding put_rule
  stays_put_rule =
      stays_from outer h kept (IsBelow outer h) _ _ (gives_put (codes "hr") [])
      (λ n below. stays_bind outer h kept _ _ (stays_calm outer h kept _ (calm_fix_ancestors n))
      (λ _. stays_bind outer h kept _ _ (stays_collapse_after n below.0 below.1) (λ _. stays_answer outer h kept true)))

  pub stays_insert_horizontal_rule : Stays outer h kept insert_horizontal_rule
  unfolding insert_horizontal_rule
  stays_insert_horizontal_rule = search (stays_parts, stays_widen_range, stays_erase, stays_put_rule)

  -- ---- an image

  stays_put_image : (value : List ℕ) → Stays outer h kept (put_image value)
  unfolding put_image
  stays_put_image value =
      stays_from outer h kept (IsBelow outer h) _ _ (gives_put (codes "img") (source value))
      (λ n below. stays_bind outer h kept _ _ (stays_collapse_after n below.0 below.1) (λ _. stays_answer outer h kept true))

  stays_show_image : (value : List ℕ) (p : Point) → Stays outer h kept (show_image value p)
  unfolding show_image
  stays_show_image value p = search (stays_parts, stays_put_image, stays_calm, calm_drop_lone_break)

  stays_insert_source : (value : List ℕ) → Stays outer h kept (insert_source value)
  unfolding insert_source
  stays_insert_source value = search (stays_parts, stays_erase, stays_show_image)

  pub stays_insert_image : (value : List ℕ) → Stays outer h kept (insert_image value)
  unfolding insert_image
  stays_insert_image [] = stays_answer outer h kept _
  stays_insert_image (c ∷ v) = stays_insert_source (c ∷ v)
