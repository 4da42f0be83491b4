use Rattle.std.proofs.Common.{◌≡◌, ◌++◌, take}
use Rattle.std.specs.List.{flat_map}
use Rattle.page_write.specs.Html.{attribute_html}
use Rattle.page_write.proofs.html.push_attributes.Given as goal

-- the attributes before this place are appended
abbrev pub invariant-loop-place : goal.invariant-loop-place
invariant-loop-place l = l.bytes.items ≡ l.initial.bytes.items ++ flat_map attribute_html (take l.place l.list)
