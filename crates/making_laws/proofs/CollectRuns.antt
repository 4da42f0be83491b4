-- Collecting items is tame.
use Rattle.std.proofs.Common.{ℕ, List}
use Rattle.std.specs.Prelude.{codes}
use Rattle.inline_value.specs.WrapSplit.declared.rule.Criterion.TheVariants.{Never}
use Rattle.inline_value.specs.WrapSplit.declared.rule.Recipe.TheVariants.{Make}
use Rattle.inline_value.specs.WrapSplit.Wrap.{wrap}
use Rattle.inline_value.specs.Wrappers.{bare}
use Rattle.list_toggle.specs.Collecting.{Collected, wrap_line, make_item, collect_next, collect_items}
use Rattle.making_laws.specs.Tame.{Tame}
use Rattle.making_laws.proofs.TameRuns.{made_li, tame_parts}
use Rattle.making_laws.proofs.Wraps.{tame_wrap}

tame_wrapped : (list : List ℕ) → Tame (wrap Never (Make (bare (codes "li"))) list)
tame_wrapped list = tame_wrap Never (Make (bare (codes "li"))) (made_li, tt) list

tame_wrap_line : (list : List ℕ) → Tame (wrap_line list)
unfolding wrap_line
tame_wrap_line list = search (tame_parts, tame_wrapped)

tame_make_item : (list : List ℕ) (x : ℕ) → Tame (make_item list x)
unfolding make_item
tame_make_item list x = search (tame_parts, made_li, tame_wrap_line) depth 8

tame_collect_next : (c : Collected) → Tame (collect_next c)
unfolding collect_next
tame_collect_next c = search (tame_parts, tame_make_item)

pub tame_collect : (list : List ℕ) → Tame (collect_items list)
unfolding collect_items
tame_collect list = search (tame_parts, tame_collect_next)
