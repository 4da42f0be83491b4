use Rattle.std.proofs.Common.{refl}
use Rattle.node_styles.specs.CssValue.Values.{display_of}
use Rattle.node_styles.specs.StyleTable.DefaultStyles.{display_rows, value_of, default_display, default_of}
use Rattle.node_styles.specs.Blocks.{own_or_inline, is_block_content}
use Rattle.node_styles.specs.Lineage.{lineage}
use Rattle.node_styles.specs.OwnStyles.{attribute, is_named, declared, defaulted, own_display}
use Rattle.command_value.specs.EffectiveValues.{script_at, element_of, effective}
use Rattle.command_value.proofs.worked_values.script_values.Goals as goal

pub returns : goal.returns
unfolding display_of display_rows value_of default_display default_of own_or_inline is_block_content lineage attribute is_named declared defaulted own_display script_at element_of effective
returns _ = record { single = refl; mixed = refl }
