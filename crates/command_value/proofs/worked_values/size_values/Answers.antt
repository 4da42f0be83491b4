use Rattle.std.proofs.Common.{refl}
use Rattle.std.specs.Fmt.{digits}
use Rattle.node_styles.specs.CssValue.Values.{font_size_of, pixels_text}
use Rattle.node_styles.specs.CssValue.StyleText.{trimmed}
use Rattle.node_styles.specs.CssValue.Numbers.{number_up_to, legacy_size}
use Rattle.node_styles.specs.StyleTable.DefaultStyles.{font_size_rows, value_of, default_font_size, default_of}
use Rattle.node_styles.specs.LegacySizes.{legacy_size_of, pixels_of}
use Rattle.node_styles.specs.Lineage.{lineage, nearest}
use Rattle.node_styles.specs.OwnStyles.{attribute, is_named, declared, defaulted, size_hint, own_font_size}
use Rattle.node_styles.specs.Resolved.{font_size, resolved}
use Rattle.command_value.specs.EffectiveValues.{element_of, effective}
use Rattle.command_value.specs.SpecifiedValues.{specified_in, specified}
use Rattle.node_styles.specs.CssValue.SizeKeywords.{size_keyword}
use Rattle.command_value.specs.Equivalence.{are_equivalent, equivalent, are_alike, alike}
use Rattle.command_value.proofs.worked_values.size_values.Goals as goal

pub returns : goal.returns
unfolding digits trimmed font_size_of pixels_text number_up_to legacy_size font_size_rows value_of default_font_size default_of legacy_size_of pixels_of lineage nearest attribute is_named declared defaulted size_hint own_font_size font_size resolved element_of effective specified_in specified size_keyword are_equivalent equivalent are_alike alike
returns _ = record { specified = refl; effective = refl; alike = refl; apart = refl }
