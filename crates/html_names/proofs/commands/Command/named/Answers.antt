use Rattle.std.proofs.Common.{rules, ◌≡◌, find, ap}
use Rattle.std.specs.Array.Iter.{array_into_iter_items}
use Rattle.std.specs.Str.{str_eq_ignore_ascii_case}
use Rattle.html_names.specs.Commands.{all_commands, command_name, command_named}
use Rattle.html_names.proofs.commands.Command.named.Goals as goal

pub loop-command-init : goal.loop-command-init
unfolding command_named
loop-command-init c =
    let are_all : array_into_iter_items c.into_iter-command-iterator.result ≡ all_commands = search rules
    in ap (λ commands. find (λ x. str_eq_ignore_ascii_case (command_name x) c.args.text.now) commands) are_all
