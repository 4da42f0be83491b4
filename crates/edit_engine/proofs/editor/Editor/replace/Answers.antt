use Rattle.std.proofs.Common.{◌≡◌, false, Option, Some, Err, sym, ap, ◌∙◌, subst, refl}
use Rattle.std.specs.Prelude.{MatchOption}
use Rattle.edit_model.specs.LiveRange.declared.places.Pair.{Pair}
use Rattle.edit_model.specs.HtmlNames.declared.commands.Command.TheVariants.{InsertText}
use Rattle.edit_model.specs.Valid.{IsPlacedPair}
use Rattle.edit_engine.specs.Editing.{EditorValue}
use Rattle.edit_engine.specs.Execution.{TellsOnRange, replaced_outcome}
use Rattle.edit_engine.specs.Places.{pair_from, placed_pair}
use Rattle.edit_engine.specs.Promises.{ExecPromises, is_yes}
use Rattle.edit_engine.specs.declared.answers.RangeFault.TheVariants.{BadPlace}
use Rattle.edit_engine.proofs.Seeing.{placed_is}
use Rattle.edit_engine.proofs.editor.Editor.replace.Goals as goal

pub exec_on-requires : goal.exec_on-requires
exec_on-requires c = subst (λ (v : EditorValue). IsPlacedPair v.editing.state.trees c.in-Some.range) c.self.view_is c.in-Some.ensures.placed

pub returns-in-Some : goal.returns-in-Some
returns-in-Some c =
    let old = c.args.self.now in
    let new = c.exec_on.new.self in
    let result = c.exec_on.result in
    let f = old.editing.state.trees in
    let anchor = c.args.anchor in
    let focus = c.args.focus in
    let found : placed_pair f anchor focus ≡ Some c.in-Some.range = sym (ap (λ (v : EditorValue). placed_pair v.editing.state.trees anchor focus) c.self.view_is) ∙ (sym c.placed_pair.ensures.pair ∙ c.in-Some.is) in
    let same : c.in-Some.range ≡ pair_from anchor focus = placed_is f anchor focus c.in-Some.range found in
    record {
      tells = subst (λ (o : Option Pair). MatchOption o ((result ≡ Err BadPlace) × (new ≡ old)) (λ range. TellsOnRange result old.editing new.editing (replaced_outcome old.editing range c.args.text.now))) (sym found) c.exec_on.ensures.tells;
      promises = subst (λ (p : Pair). ExecPromises (is_yes result) (Some p) false (Some InsertText) c.args.text.now old new) same c.exec_on.ensures.promises;
    }

pub returns-in-None : goal.returns-in-None
returns-in-None c =
    let none = sym (ap (λ (e : EditorValue). placed_pair e.editing.state.trees c.args.anchor c.args.focus) c.self.view_is) ∙ (sym c.placed_pair.ensures.pair ∙ c.in-None.is) in
    record {
      tells = rw none (refl, refl);
      promises = c.promises_as_is.ensures (Some (pair_from c.args.anchor c.args.focus)) false (Some InsertText) c.args.text.now;
    }
