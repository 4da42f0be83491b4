-- The commands answer true, whatever they do; insertImage where it has a value.
use Rattle.std.proofs.Common.{◌≡◌, ℕ, Bool, true, false, if◌then◌else◌, List, Option, Some, None, refl}
use Rattle.edit_model.specs.LiveRange.declared.places.Point.{Point}
use Rattle.edit_model.specs.State.{State}
use Rattle.edit_model.specs.Run.{Run, value, ◌>>=◌, answer, look, given}
use Rattle.text_insertion.specs.Start.{start_inside}
use Rattle.insert_objects.specs.Putting.{from_start_inside}
use Rattle.insert_objects.specs.LineBreak.{takes_break, put_break, break_line, insert_line_break}
use Rattle.insert_objects.specs.Rule.{put_rule, insert_horizontal_rule}
use Rattle.insert_objects.specs.Image.{put_image, show_image, insert_source}

given_true : (o : Option Point) (k : Point → Run Bool) (s : State) → ((p : Point) (t : State) → value (k p) t ≡ true) → value (given o (answer true) k) s ≡ true
unfolding value answer
given_true None k s h = refl
given_true (Some p) k s h = h p s

start_true : (k : Point → Run Bool) (s : State) → ((p : Point) (t : State) → value (k p) t ≡ true) → value (from_start_inside k) s ≡ true
unfolding value look
start_true k s h = given_true (start_inside s) k s h

if_true : (b : Bool) (m : Run Bool) (s : State) → value m s ≡ true → value (if b then m else answer true) s ≡ true
unfolding value answer
if_true true m s h = h
if_true false m s h = refl

line_true : (p : Point) (s : State) → value (break_line p) s ≡ true
unfolding value look break_line put_break ◌>>=◌ answer
line_true p s = if_true (takes_break s p.label) put_break s refl

pub line_break_answers_true : (s : State) → value insert_line_break s ≡ true
unfolding value insert_line_break ◌>>=◌
line_break_answers_true s = start_true break_line _ line_true

rule_true : (p : Point) (s : State) → value put_rule s ≡ true
unfolding value put_rule ◌>>=◌ answer
rule_true p s = refl

pub rule_answers_true : (s : State) → value insert_horizontal_rule s ≡ true
unfolding value insert_horizontal_rule ◌>>=◌
rule_answers_true s = start_true (λ p. put_rule) _ rule_true

image_true : (v : List ℕ) (p : Point) (s : State) → value (show_image v p) s ≡ true
unfolding value show_image put_image ◌>>=◌ answer
image_true v p s = refl

pub image_answers_true : (v : List ℕ) (s : State) → value (insert_source v) s ≡ true
unfolding value insert_source ◌>>=◌
image_answers_true v s = start_true (show_image v) _ (image_true v)
