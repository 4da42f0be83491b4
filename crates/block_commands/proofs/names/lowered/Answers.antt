use Rattle.std.proofs.Common.{◌≤◌, ◌∙◌, sym, subst}
use Rattle.block_commands.proofs.ValueNames.{names_none, past}
use Rattle.block_commands.proofs.names.lowered.Goals as goal

pub returns-then-not-is_ascii : goal.returns-then-not-is_ascii
returns-then-not-is_ascii c =
    let high : 128 ≤ c.c-item.result = past c.c-item.result (sym c.is_ascii.ensures ∙ c.if-not-is_ascii.true) in
    names_none c.args.text.now c.loop-c.c-index c.c-item.result c.loop-c-test.true (subst (λ n. 128 ≤ n) c.c-item.is high)
