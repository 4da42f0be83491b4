-- Pushing values down, and restoring recorded values, keeps to the grammar.
use Rattle.std.proofs.Common.{ℕ, List, [], ◌∷◌, Option, Some, None, reverse}
use Rattle.std.specs.Prelude.{is_some}
use Rattle.edit_model.specs.DomModel.Forest.{first_in, last_in}
use Rattle.edit_model.specs.HtmlNames.declared.commands.Command.{Command}
use Rattle.inline_value.specs.CommandValue.SpecifiedValues.{specified}
use Rattle.edit_model.specs.Run.{Run, ◌>>=◌, done}
use Rattle.inline_value.specs.ForestChanges.Named.{Each}
use Rattle.inline_value.specs.CommandValue.Equivalence.{equivalent}
use Rattle.inline_value.specs.Forcing.{force}
use Rattle.inline_value.specs.Pushing.{push_to, clear_level, push_level, own_or, is_hopeless, push_levels, push_from, push_listed, push_down}
use Rattle.inline_value.specs.Recording.{Recorded, restored_to, restore_value, restore_values, given_value, record_values, values_of}
use Rattle.grammar_laws.specs.Runs.{Proper}
use Rattle.grammar_laws.proofs.ProperRuns.{Gives, gives_answer, gives_look, proper_after, proper_answer, proper_bind, proper_each_such, proper_given, proper_if, proper_look, proper_parts}
use Rattle.grammar_laws.proofs.ClearingRuns.{proper_clear_value}
use Rattle.grammar_laws.proofs.ForcingRuns.{proper_force}
use Rattle.grammar_laws.proofs.Values.{IsValue, IsRecorded, specified_value, recorded_values}

proper_push_to : (command : Command) (w : Option (List ℕ)) (n : ℕ) (next : Option ℕ) (k : ℕ) → IsValue w → Proper (push_to command w n next k)
unfolding push_to
proper_push_to command w n next k own = search (proper_parts, proper_force)

proper_clear_level : (command : Command) (e : ℕ) → Proper (clear_level command e)
unfolding clear_level
proper_clear_level command e = search (proper_parts, proper_clear_value)

proper_level : (command : Command) (w : Option (List ℕ)) (n : ℕ) (next : Option ℕ) (e : ℕ) → IsValue w → Proper (push_level command w n next e)
unfolding push_level
proper_level command w n next e own = search (proper_parts, proper_clear_level, proper_push_to)

either_value : (o w : Option (List ℕ)) → IsValue o → IsValue w → IsValue (own_or o w)
either_value None w h g = g
either_value (Some u) w h g = h

proper_levels : (command : Command) (w : Option (List ℕ)) (n : ℕ) (list : List ℕ) → IsValue w → Proper (push_levels command w n list)
unfolding push_levels
proper_levels command w n [] own = proper_answer tt
proper_levels command w n (e ∷ list) own = proper_look _ (λ s p. (
    let u = own_or (specified s.trees e command) w in
    let there : IsValue (own_or (specified s.trees e command) w) = either_value (specified s.trees e command) w (specified_value s e command p) own in
    proper_bind (push_level command u n (first_in list) e) (λ _. push_levels command u n list) (proper_level command u n (first_in list) e there) (λ _. proper_levels command u n list there)))

proper_push_from : (command : Command) (v : Option (List ℕ)) (n : ℕ) (list : List ℕ) (e : ℕ) → Proper (push_from command v n list e)
unfolding push_from
proper_push_from command v n list e =
    proper_look _ (λ s p. proper_if (is_hopeless s command v e) done _ (proper_answer tt) (proper_levels command (specified s.trees e command) n (reverse list) (specified_value s e command p)))

proper_push_listed : (command : Command) (v : Option (List ℕ)) (n : ℕ) (list : List ℕ) → Proper (push_listed command v n list)
unfolding push_listed
proper_push_listed command v n list = proper_given (last_in list) done _ (proper_answer tt) (λ e. proper_push_from command v n list e)

pub proper_push_down : (command : Command) (v : Option (List ℕ)) (n : ℕ) → Proper (push_down command v n)
unfolding push_down
proper_push_down command v n = search (proper_parts, proper_push_listed)

-- ---- recorded values

proper_restored : (command : Command) (n : ℕ) (w u : Option (List ℕ)) → IsValue w → Proper (restored_to command n w u)
proper_restored command n None u own = proper_if (is_some u) (push_down command None n) done (proper_push_down command None n) (proper_answer tt)
proper_restored command n (Some w) u own = proper_if (equivalent command u (Some w)) done (force command (Some w) n) (proper_answer tt) (proper_force command (Some w) n own)

proper_restore_value : (r : Recorded) → IsRecorded r → Proper (restore_value r)
unfolding restore_value
proper_restore_value r own = proper_look _ (λ s p. proper_restored r.command r.node r.value (given_value s.trees r.node r.command) own)

pub proper_restore_values : (list : List Recorded) → Each IsRecorded list → Proper (restore_values list)
unfolding restore_values
proper_restore_values list own = proper_each_such IsRecorded list restore_value own proper_restore_value

gives_recorded : (list : List ℕ) → Gives (Each IsRecorded) (record_values list)
unfolding record_values
gives_recorded list = gives_look (Each IsRecorded) _ (λ s p. gives_answer (Each IsRecorded) (values_of s list) (recorded_values s list p))

-- what is recorded is known to be texts where it is restored
pub proper_recorded : {B : Type 0} (list : List ℕ) (k : List Recorded → Run B) → ((values : List Recorded) → Each IsRecorded values → Proper (k values)) → Proper (record_values list >>= k)
proper_recorded list k h = proper_after (Each IsRecorded) (record_values list) k (gives_recorded list) h
