use Rattle.std.proofs.Common.{◌≡◌, drop}
use Rattle.std.specs.List.{list_all}
use Rattle.node_styles.specs.NameClasses.{is_plain_attribute}
use Rattle.node_styles.proofs.names.are_plain.Given as goal

-- the attributes that are left decide
abbrev pub invariant-loop-place : goal.invariant-loop-place
invariant-loop-place l = list_all is_plain_attribute (drop l.place l.attributes) ≡ list_all is_plain_attribute l.attributes
