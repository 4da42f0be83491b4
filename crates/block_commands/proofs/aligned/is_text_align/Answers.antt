use Rattle.std.proofs.Common.{sym, ap, ◌∙◌, false, bytes_eq}
use Rattle.std.specs.Option.{option_map_or}
use Rattle.inline_value.specs.CssValue.DeclarationList.{declarations_in}
use Rattle.inline_value.specs.CssValue.OnlyGroup.{sets_only}
use Rattle.block_commands.proofs.Matching.{other_style, own_style}
use Rattle.block_commands.proofs.aligned.is_text_align.Goals as goal

pub returns-then-not-sets_only : goal.returns-then-not-sets_only
unfolding sets_only
returns-then-not-sets_only c =
    sym (other_style c.args.alignment.now (declarations_in c.args.text.now) (sym c.sets_only.ensures ∙ c.if-not-sets_only.true))

pub returns-in-Some : goal.returns-in-Some
unfolding sets_only
returns-in-Some c =
    let found = rw c.in-Some.is at c.find.ensures in
    c.eq.ensures
    ∙ ap (λ o. option_map_or (λ v. bytes_eq v c.args.alignment.now) o false) found
    ∙ sym (own_style c.args.alignment.now (declarations_in c.args.text.now) (sym c.sets_only.ensures ∙ c.if-not-sets_only.false))
