-- A command at all nodes of a list, or at the range's start, by the first of the list.
use Rattle.std.proofs.Common.{◌≡◌, ℕ, List, [], ◌∷◌, Some, None, refl}
use Rattle.std.specs.List.{list_all}
use Rattle.edit_model.specs.HtmlNames.declared.commands.Command.{Command}
use Rattle.command_value.specs.EffectiveValues.{is_activated}
use Rattle.edit_model.specs.State.{State}
use Rattle.edit_query.specs.Formattable.{first_in}
use Rattle.edit_query.specs.Rows.{is_on_at_start, is_on_throughout}

pub some : (s : State) (c : Command) (ls : List ℕ) (l : ℕ) → first_in ls ≡ Some l →
    is_on_throughout s c ls ≡ list_all (λ n. is_activated s.trees n c) ls
some s c [] l is = absurd (let none = is in cc)
some s c (x ∷ xs) l is = refl

pub none : (s : State) (c : Command) (ls : List ℕ) → first_in ls ≡ None → is_on_throughout s c ls ≡ is_on_at_start s c
none s c [] is = refl
none s c (x ∷ xs) is = absurd (let some = is in cc)
