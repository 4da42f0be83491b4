use Rattle.std.proofs.Common.{◌≡◌, Bool, true, false, not, bytes_eq, refl, sym, ap, ◌∙◌}
use Rattle.inline_value.specs.CssValue.Values.{text_align_keyword}
use Rattle.inline_value.specs.CommandValue.Alignment.{alignment_value}
use Rattle.block_commands.proofs.Handing.{handed_on}
use Rattle.block_commands.proofs.aligned.Misaligned.is_aligned.Goals as goal

untold : (v : Bool) → not v ≡ false → true ≡ v
untold true is = refl
untold false is = is

pub returns-then-is_some-clause-aligned : goal.returns-then-is_some-clause-aligned
returns-then-is_some-clause-aligned c =
    sym (handed_on c.args.doc.now.state.trees c.valid.ensures.valid.forest.distinct c.args.node.label c.args.self.now.alignment c.args.known.now c.requires.known (c.takes_known.ensures c.if-takes_known.true)).own

pub returns-then-is_some-clause-known : goal.returns-then-is_some-clause-known
returns-then-is_some-clause-known c =
    handed_on c.args.doc.now.state.trees c.valid.ensures.valid.forest.distinct c.args.node.label c.args.self.now.alignment c.args.known.now c.requires.known (c.takes_known.ensures c.if-takes_known.true)

pub returns-else-is_some-clause-aligned : goal.returns-else-is_some-clause-aligned
returns-else-is_some-clause-aligned c =
    sym (handed_on c.args.doc.now.state.trees c.valid.ensures.valid.forest.distinct c.args.node.label c.args.self.now.alignment c.args.known.now c.requires.known (c.takes_known.ensures c.if-takes_known.true)).own

pub returns-else-eq-clause-aligned : goal.returns-else-eq-clause-aligned
unfolding alignment_value
returns-else-eq-clause-aligned c =
    untold _ (sym c.ne.ensures ∙ c.if-ne.false)
    ∙ ap (λ xs. bytes_eq xs c.keyword-2.result.now) (c.keyword.ensures.keyword ∙ ap text_align_keyword c.alignment.ensures)
    ∙ ap (bytes_eq _) c.keyword-2.ensures.keyword
