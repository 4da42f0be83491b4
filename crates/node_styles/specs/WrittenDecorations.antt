-- The text of a value of text-decoration.
use Rattle.std.specs.Prelude.{ℕ, List}
use Rattle.node_styles.specs.declared.own.DecorationText.{DecorationText}
use Rattle.node_styles.specs.declared.own.DecorationText.TheVariants.{Written, Named}

abbrev pub decoration_text : DecorationText → List ℕ
decoration_text (Written text) = text.now
decoration_text (Named text) = text.now
