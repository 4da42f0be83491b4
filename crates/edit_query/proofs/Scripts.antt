-- Of subscript and superscript, values that are alike are equal texts.
use Rattle.std.proofs.Common.{◌≡◌, ℕ, Bool, true, false, ◌||◌, List, Option, Some, None, refl, bytes_eq, codes}
use Rattle.std.specs.Option.{option_map_or}
use Rattle.edit_model.specs.HtmlNames.declared.commands.Command.TheVariants as command
use Rattle.command_value.specs.Equivalence.{are_equivalent, are_alike, alike}

no_more : (b : Bool) → (((b || false) || false) || false) ≡ b
no_more true = refl
no_more false = refl

pub mixed_alike : (value : Option (List ℕ)) →
    alike command.Subscript value (Some (codes "mixed")) ≡ option_map_or (λ text. bytes_eq text (codes "mixed")) value false
unfolding alike are_alike are_equivalent
mixed_alike None = refl
mixed_alike (Some text) = no_more (bytes_eq text (codes "mixed"))
