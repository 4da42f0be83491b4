-- How a call that answers a list of nodes hands a fault on, and what gives a command a value.
use Rattle.std.proofs.Common.{◌≡◌, ℕ, true, false, List, Option, Some, None, Result, Ok, Err, is_some, refl, sym, subst}
use Rattle.std.specs.Option.{option_map_or, option_and_then}
use Rattle.std.specs.Result.{IsErrAnd}
use Rattle.edit_model.specs.DomModel.declared.Content.{Content}
use Rattle.edit_model.specs.DomModel.declared.Content.TheVariants.{Document, Element, Words, Remark}
use Rattle.edit_model.specs.DomModel.Contents.{is_element, is_element_at}
use Rattle.edit_model.specs.DomModel.Forest.{Forest, content_of}
use Rattle.edit_model.specs.HtmlNames.declared.commands.Command.{Command}
use Rattle.wrap_split.specs.CommandValue.SpecifiedValues.{specified, specified_in}
use Rattle.edit_model.specs.NodeArena.declared.NodeRef.{NodeRef}
use Rattle.edit_model.specs.declared.settings.EditFault.{EditFault}
use Rattle.edit_model.specs.State.{State}
use Rattle.edit_model.specs.Run.{Run, final}
use Rattle.edit_model.specs.Gives.{labels_of, Fails, GivesAs}

pub exit_list : (r : Result (List NodeRef) EditFault) (e : EditFault) (s t : State) (m : Run (List ℕ)) →
    IsErrAnd r (λ y. y ≡ e) → Fails e (final m s) → GivesAs labels_of r s t m
exit_list (Ok v) e s t m h f = absurd h
exit_list (Err y) e s t m h f = subst (λ x. Fails x (final m s)) (sym h) f

-- only an element gives a command a value
by_content : (o : Option Content) (command : Command) → is_some (option_and_then (λ c. specified_in c command) o) ≡ true → option_map_or is_element o false ≡ true
unfolding specified_in
by_content None command h = h
by_content (Some Document) command h = h
by_content (Some (Words chars)) command h = h
by_content (Some (Remark chars)) command h = h
by_content (Some (Element name attributes)) command h = refl

pub specifies_element : (f : Forest Content) (l : ℕ) (command : Command) → is_some (specified f l command) ≡ true → is_element_at f l ≡ true
unfolding specified
specifies_element f l command h = by_content (content_of f l) command h
