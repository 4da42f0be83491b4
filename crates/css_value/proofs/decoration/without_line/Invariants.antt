use Rattle.std.proofs.Common.{◌≡◌, ◌++◌, length, filter, not, bytes_eq}
use Rattle.css_value.specs.StyleText.{is_empty}
use Rattle.css_value.specs.TextDecoration.{words, line_word, without_line}
use Rattle.css_value.proofs.Joining.{further}
use Rattle.css_value.proofs.decoration.without_line.Given as goal

abbrev pub invariant-loop-word : goal.invariant-loop-word
invariant-loop-word l =
    l.left.items ++ further (is_empty l.left.items) (filter (λ word. not (bytes_eq (line_word l.line) word)) (words l.rest))
    ≡ without_line l.text l.line

abbrev pub decreases-loop-word : goal.decreases-loop-word
decreases-loop-word l = length l.rest
