-- The text of a family's name.
use Rattle.std.specs.Prelude.{ℕ, List, codes}
use Rattle.node_styles.specs.declared.own.Family.{Family}
use Rattle.node_styles.specs.declared.own.Family.TheVariants.{Written, Monospace, Serif}

abbrev pub family_text : Family → List ℕ
family_text (Written text) = text.now
family_text Monospace = codes "monospace"
family_text Serif = codes "serif"
