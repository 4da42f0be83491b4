-- The text of a value that isn't printed yet.
use Rattle.std.specs.Prelude.{ℕ, List, Option, Some, None, decimal}
use Rattle.node_styles.specs.CssValue.Colours.{colour_text}
use Rattle.node_styles.specs.CssValue.Values.{font_style_keyword, pixels_text}
use Rattle.command_value.specs.declared.value.Value.{Value}
use Rattle.command_value.specs.declared.value.Value.TheVariants.{Null, Text, Weight, Slant, Pixels, Shade}

abbrev pub value_text : Value → Option (List ℕ)
value_text Null = None
value_text (Text text) = Some text.now
value_text (Weight weight) = Some (decimal weight)
value_text (Slant slant) = Some (font_style_keyword slant)
value_text (Pixels px) = Some (pixels_text px)
value_text (Shade colour) = Some (colour_text colour)
