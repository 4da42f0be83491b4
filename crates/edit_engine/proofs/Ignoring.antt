-- A command looks at the state alone.
use Rattle.std.proofs.Common.{◌≡◌, ℕ, Bool, true, false, not, cond, List, Option, Some, None, refl, subst}
use Rattle.std.specs.Prelude.{nat_lt}
use Rattle.std.specs.Option.{option_map_or}
use Rattle.edit_model.specs.HtmlNames.Commands.{command_named}
use Rattle.edit_model.specs.HtmlNames.declared.commands.Command.{Command}
use Rattle.edit_model.specs.DomModel.Document.{page_depth}
use Rattle.edit_model.specs.State.{State}
use Rattle.edit_engine.specs.Commands.{row_of, action_of, is_enabled_in}
use Rattle.edit_engine.specs.Editing.{Editing}
use Rattle.edit_engine.specs.Execution.{Refused, Deep, Full, Acted, depth_limit, host_at, run_at, ran, answered, after_run, run_outcome, command_outcome, outcome_by}
use Rattle.edit_engine.specs.Going.{joins_by}
use Rattle.edit_engine.specs.Independence.{AreAlike, HistoryIsIgnored}

alike_by : (refused deep full answer : Bool) (x y z w : Editing) → x.state ≡ z.state → y.state ≡ w.state
    → AreAlike (cond refused Refused (cond deep Deep (cond full Full (cond answer (Acted true x) (Acted false y)))))
    (cond refused Refused (cond deep Deep (cond full Full (cond answer (Acted true z) (Acted false w)))))
alike_by true deep full answer x y z w made back = tt
alike_by false true full answer x y z w made back = tt
alike_by false false true answer x y z w made back = tt
alike_by false false false true x y z w made back = (refl, made)
alike_by false false false false x y z w made back = (refl, back)

command_alike : (e f : Editing) (j i : Bool) (v : List ℕ) (c : Command) → e.state ≡ f.state
    → AreAlike (command_outcome e None j v c) (command_outcome f None i v c)
unfolding command_outcome run_outcome
command_alike e f j i v c same =
    let s = e.state in
    let t = ran (host_at None s) s (row_of c).keeping (run_at None (action_of c v)) in
    let g : Editing = record f { state = s } in
    subst (λ (s : State). AreAlike (command_outcome e None j v c) (command_outcome (record f { state = s }) None i v c)) same
    (alike_by (not (is_enabled_in (host_at None s) c)) (nat_lt depth_limit (page_depth s.trees)) (nat_lt s.cap t.next)
    (answered (host_at None s) s (row_of c).keeping (run_at None (action_of c v)))
    (after_run e j c t) e (after_run g i c t) g refl refl)

pub history_ignored : HistoryIsIgnored
unfolding outcome_by
history_ignored joined e f name v same = by_name (command_named name)
  where
    by_name : (o : Option Command)
        → AreAlike (option_map_or (λ c. command_outcome e None (joins_by joined e.going c) v c) o Refused)
        (option_map_or (λ c. command_outcome f None (joins_by joined f.going c) v c) o Refused)
    by_name None = tt
    by_name (Some c) = command_alike e f (joins_by joined e.going c) (joins_by joined f.going c) v c same
