use Rattle.std.proofs.Common.{◌≡◌, ℕ, Bool, true, false, not, ◌&&◌, List, Option, Some, None, refl, sym, ap, ◌∙◌, true≢false}
use Rattle.std.specs.Prelude.{is_some}
use Rattle.edit_model.specs.DomModel.declared.Content.{Content}
use Rattle.edit_model.specs.DomModel.Forest.{Forest}
use Rattle.edit_model.specs.HtmlNames.declared.commands.Command.{Command}
use Rattle.wrap_split.specs.CommandValue.Equivalence.{equivalent}
use Rattle.wrap_split.specs.CommandValue.Modifiable.{specifies_other}
use Rattle.wrap_split.specs.CommandValue.SpecifiedValues.{specified}
use Rattle.inline_value.proofs.recording.is_given_as.Goals as goal

twice : (a b : Bool) → a ≡ true → not (a && not b) ≡ b
twice true true h = refl
twice true false h = refl
twice false b h = absurd (true≢false (sym h))

-- a value that is given isn't another one where it is equivalent
not_other : (f : Forest Content) (l : ℕ) (command : Command) (v : Option (List ℕ)) → is_some (specified f l command) ≡ true →
    not (specifies_other f l command v) ≡ equivalent command (specified f l command) v
unfolding specifies_other
not_other f l command v some = twice (is_some (specified f l command)) (equivalent command (specified f l command) v) some

none_other : (command : Command) (v : List ℕ) → false ≡ equivalent command None (Some v)
unfolding equivalent
none_other command v = refl

pub returns-in-Some : goal.returns-in-Some
returns-in-Some c =
    ap not c.specifies_other.ensures
    ∙ (not_other c.args.doc.now.state.trees c.in-Some.giver.label c.args.command (Some c.args.value.now) c.in-Some.ensures.some
    ∙ ap (λ w. equivalent c.args.command w (Some c.args.value.now)) c.in-Some.ensures.value)

pub returns-in-None : goal.returns-in-None
returns-in-None c =
    none_other c.args.command c.args.value.now ∙ ap (λ w. equivalent c.args.command w (Some c.args.value.now)) c.in-None.ensures.value
