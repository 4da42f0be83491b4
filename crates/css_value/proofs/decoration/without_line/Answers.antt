use Rattle.std.proofs.Common.{◌≡◌, [], rules}
use Rattle.css_value.specs.TextDecoration.{words}
use Rattle.css_value.proofs.Joining.{words-all-joined}
use Rattle.css_value.proofs.decoration.without_line.Goals as goal

pub returns-clause-others : goal.returns-clause-others
returns-clause-others c =
    let none : words c.loop-word.rest.now ≡ [] = search rules in
    words-all-joined c.args.text.now c.loop-word.left.items c.args.line (words c.loop-word.rest.now) none c.loop-word.invariant
