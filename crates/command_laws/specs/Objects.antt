-- The laws of inserting line breaks, rules and images: of each, that its run leaves the states of
-- contenteditable. All erase what is selected, so there is no law of order.
use Rattle.std.specs.Prelude.{ℕ, List}
use Rattle.edit_laws.specs.Steady.{Steady}
use Rattle.insert_objects.specs.Image.{insert_image}
use Rattle.insert_objects.specs.LineBreak.{insert_line_break}
use Rattle.insert_objects.specs.Rule.{insert_horizontal_rule}

abbrev pub InsertLineBreakIsSteady : Type 0
InsertLineBreakIsSteady = Steady insert_line_break

abbrev pub InsertHorizontalRuleIsSteady : Type 0
InsertHorizontalRuleIsSteady = Steady insert_horizontal_rule

abbrev pub InsertImageIsSteady : Type 0
InsertImageIsSteady = (value : List ℕ) → Steady (insert_image value)
