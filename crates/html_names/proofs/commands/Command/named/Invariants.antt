use Rattle.std.proofs.Common.{◌≡◌, find}
use Rattle.std.specs.Array.Iter.{array_into_iter_items}
use Rattle.std.specs.Str.{str_eq_ignore_ascii_case}
use Rattle.html_names.specs.Commands.{command_name, command_named}
use Rattle.html_names.proofs.commands.Command.named.Given as goal

abbrev pub invariant-loop-command : goal.invariant-loop-command
invariant-loop-command l =
    find (λ c. str_eq_ignore_ascii_case (command_name c) l.text) (array_into_iter_items l.command-iterator) ≡ command_named l.text
