-- Collecting items keeps to the grammar.
use Rattle.std.proofs.Common.{ℕ, List}
use Rattle.std.specs.Prelude.{codes}
use Rattle.inline_value.specs.WrapSplit.declared.rule.Criterion.TheVariants.{Never}
use Rattle.inline_value.specs.WrapSplit.declared.rule.Recipe.TheVariants.{Make}
use Rattle.inline_value.specs.WrapSplit.Wrap.{wrap}
use Rattle.inline_value.specs.Wrappers.{bare}
use Rattle.list_toggle.specs.Collecting.{Collected, wrap_line, make_item, collect_next, collect_items}
use Rattle.grammar_laws.specs.Runs.{Proper}
use Rattle.grammar_laws.proofs.Lists.{list_none}
use Rattle.making_laws.proofs.TameRuns.{made_li}
use Rattle.grammar_laws.proofs.ProperRuns.{proper_parts}
use Rattle.grammar_laws.proofs.Wraps.{proper_wrap}

proper_wrapped : (list : List ℕ) → Proper (wrap Never (Make (bare (codes "li"))) list)
proper_wrapped list = proper_wrap Never (Make (bare (codes "li"))) (made_li, list_none) list

proper_wrap_line : (list : List ℕ) → Proper (wrap_line list)
unfolding wrap_line
proper_wrap_line list = search (proper_parts, proper_wrapped)

proper_make_item : (list : List ℕ) (x : ℕ) → Proper (make_item list x)
unfolding make_item
proper_make_item list x = search (proper_parts, made_li, proper_wrap_line) depth 8

proper_collect_next : (c : Collected) → Proper (collect_next c)
unfolding collect_next
proper_collect_next c = search (proper_parts, proper_make_item)

pub proper_collect : (list : List ℕ) → Proper (collect_items list)
unfolding collect_items
proper_collect list = search (proper_parts, proper_collect_next)
