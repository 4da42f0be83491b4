use Rattle.std.proofs.Common.{◌≡◌, ◌++◌, take}
use Rattle.std.specs.List.{flat_map}
use Rattle.page_write.specs.Html.{text_char}
use Rattle.node_texts.proofs.html.push_text.Given as goal

-- the characters so far are appended
abbrev pub invariant-loop-c : goal.invariant-loop-c
invariant-loop-c l = l.bytes.items ≡ l.initial.bytes.items ++ flat_map text_char (take l.c-index l.text)
