use Rattle.std.proofs.Common.{refl}
use Rattle.std.specs.Fmt.{digits}
use Rattle.node_styles.specs.CssValue.Values.{font_weight_of}
use Rattle.node_styles.specs.StyleTable.DefaultStyles.{font_weight_rows, value_of, default_font_weight, default_of}
use Rattle.node_styles.specs.Lineage.{lineage, nearest}
use Rattle.node_styles.specs.OwnStyles.{attribute, is_named, declared, defaulted, own_font_weight}
use Rattle.node_styles.specs.Resolved.{font_weight, resolved}
use Rattle.command_value.specs.EffectiveValues.{element_of, effective}
use Rattle.command_value.specs.SpecifiedValues.{specified_in, specified}
use Rattle.command_value.specs.Equivalence.{are_equivalent, equivalent}
use Rattle.command_value.proofs.worked_values.bold_values.Goals as goal

pub returns : goal.returns
unfolding digits font_weight_of font_weight_rows value_of default_font_weight default_of lineage nearest attribute is_named declared defaulted own_font_weight font_weight resolved element_of effective specified_in specified are_equivalent equivalent
returns _ = record { effective = refl; specified = refl; equivalent = refl }
