use Rattle.std.proofs.Common.{◌≡◌, ◌<◌, ◌^◌, Some, length, subst, sym, ◌∙◌}
use Rattle.edit_steps.proofs.ForestChanges.Contents.{chars_there}
use Rattle.step_edits.proofs.telling.tell_words.Goals as goal

pub replaced-requires : goal.replaced-requires
replaced-requires c =
    let there = chars_there c.args.arena.now.trees c.args.node.label c.valid.ensures.distinct c.valid.ensures.nodes c.requires.chars in
    let short = there.2 in
    let found : Some there.0 ≡ Some c.words-old.result.now = sym there.1 ∙ c.words-old.ensures in
    let same : there.0 ≡ c.as_slice.result.now = (let e = c.as_slice.ensures in cc) in
    let lt : length c.as_slice.result.now < 2 ^ 32 = subst (λ cs. length cs < 2 ^ 32) same short in
    lt
