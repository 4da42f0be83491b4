-- What every execution of a command keeps: either nothing changed, or the run of a command did it all.
use Rattle.std.proofs.Common.{◌≡◌, ◌⊎◌, ℕ, zero, suc, ◌<◌, Bool, true, false, not, cond, eqb, List, [], ◌∷◌, ◌++◌, length, take, Option, Some, None, IsSome, IfSome, Result, Ok, Err, refl, sym, ap, subst, ◌∙◌, inl, inr, arith, length-append}
use Rattle.std.specs.Prelude.{nat_lt}
use Rattle.std.specs.List.{AllZip}
use Rattle.std.proofs.lemmas.Bool.{ne_eqb}
use Rattle.std.proofs.lemmas.Bool.Decides.{nat_tests}
use Rattle.edit_model.specs.HtmlNames.declared.commands.Command.{Command}
use Rattle.edit_model.specs.DomModel.Change.{Remove}
use Rattle.edit_model.specs.DomModel.Document.{page_depth}
use Rattle.edit_model.specs.DomModel.Editing.{is_host}
use Rattle.edit_model.specs.DomModel.Forest.{count_of, tree_of}
use Rattle.edit_model.specs.LiveRange.declared.places.Pair.{Pair}
use Rattle.edit_model.specs.State.{State}
use Rattle.edit_model.specs.History.{Entry, History, begun, rested, entry_of, with_entry, joined, joined_in, recorded, view_of, at_view, undone_state, undone_state_by, used}
use Rattle.edit_model.specs.Laws.{KeepsMark}
use Rattle.edit_model.specs.Valid.{IsPlacedPair, IsValid}
use Rattle.edit_model.specs.Outside.{hollowed, outside_by, is_island}
use Rattle.edit_model.specs.Run.{Reaches, Run, final}
use Rattle.edit_model.proofs.Commands.{valid_begun}
use Rattle.edit_model.proofs.Hollow.{hollowed_le}
use Rattle.edit_model.proofs.Resting.{valid_rested}
use Rattle.edit_model.proofs.Steps.{next_along}
use Rattle.edit_model.proofs.ValidRuns.{valid_along}
use Rattle.edit_laws.specs.BelowHost.{below}
use Rattle.edit_laws.specs.Islands.{StaysBelow, IsTakenOut, IslandKept}
use Rattle.edit_laws.specs.Order.{KeepsLeaves, KeepsOrder}
use Rattle.edit_laws.specs.OrderPreserving.{OrderPreserving}
use Rattle.edit_laws.specs.InHost.{IsPairWithin}
use Rattle.edit_laws.proofs.HostAtRest.{selection_in_host, range_in_host}
use Rattle.edit_laws.proofs.HostParts.{host_stays}
use Rattle.edit_laws.proofs.Resting.{document_again, host_there, island_inside, outside_at_rest, marks_at_rest, islands_at_rest, order_at_rest}
use Rattle.edit_laws.proofs.Selections.{selection_at_rest}
use Rattle.edit_laws.proofs.SteadyRuns.{states_on}
use Rattle.edit_laws.proofs.StayingKinds.{kinds_at_rest}
use Rattle.edit_laws.proofs.Subsequences.{keeps_refl}
use Rattle.selection_laws.proofs.Holders.{host_holds, pair_host_holds}
use Rattle.making_laws.proofs.KnownPages.{commands_make_known, own_known}
use Rattle.inline_value.specs.EditDoc.Whole.{Whole, IsDoc}
use Rattle.edit_engine.specs.declared.answers.Answer.{Answer}
use Rattle.edit_engine.specs.declared.answers.Answer.TheVariants.{Yes, No}
use Rattle.edit_engine.specs.declared.answers.ExecFault.{ExecFault}
use Rattle.edit_engine.specs.declared.answers.ExecFault.TheVariants as fault
use Rattle.edit_engine.specs.Commands.{row_of, action_of, is_enabled_in}
use Rattle.making_laws.specs.Known.{source_of}
use Rattle.edit_engine.specs.Bringing.{typed_by, BringsKnown}
use Rattle.edit_engine.specs.Confinement.{KeepsOutside, KeepsHtml, KeepsMarks, KeepsSelection, SelectsIn, KeepsSelectionIn, HasEntry, HasJoined, IsTakenBy, KeepsIslands, KeepsCharacters, CommandKeeps, GivesBack}
use Rattle.edit_engine.specs.Editing.{Editing, IsJoinable, IsResting}
use Rattle.edit_engine.specs.Going.{goes_on}
use Rattle.edit_engine.specs.declared.going.Going.{Going}
use Rattle.edit_engine.specs.declared.following.Following.{Following}
use Rattle.edit_engine.specs.Labels.{KeepsLabels, DrawsLabels}
use Rattle.edit_engine.specs.Execution.{Refused, Deep, Full, Acted, depth_limit, host_at, run_at, ran, answered, after_run, run_outcome, command_outcome, Tells}
use Rattle.edit_engine.proofs.AffectedHosts.{host_at_is_host}
use Rattle.edit_engine.proofs.Fitness.{fit_at}
use Rattle.edit_engine.proofs.HtmlParts.{html_around}
use Rattle.edit_engine.proofs.HostFitness.{kept_by, stays_action}
use Rattle.edit_engine.proofs.Outcomes.{shown}
use Rattle.edit_engine.proofs.Still.{stays_alone}
use Rattle.edit_engine.proofs.Tameness.{tame_at}

-- ---- what an answer tells

same_after : (x z : Editing) → Acted true x ≡ Acted true z → x ≡ z
same_after x z e = cc

acted_by : (refused deep full answer : Bool) (x y z : Editing) → cond refused Refused (cond deep Deep (cond full Full (cond answer (Acted true x) (Acted false y)))) ≡ Acted true z → x ≡ z
acted_by true deep full answer x y z e = absurd (let t : Refused ≡ Acted true z = e in cc)
acted_by false true full answer x y z e = absurd (let t : Deep ≡ Acted true z = e in cc)
acted_by false false true answer x y z e = absurd (let t : Full ≡ Acted true z = e in cc)
acted_by false false false true x y z e = same_after x z e
acted_by false false false false x y z e = absurd (let t : Acted false y ≡ Acted true z = e in cc)

run_of : (old : Editing) (at : Option Pair) (joining : Bool) (v : List ℕ) (c : Command) (new : Editing) → command_outcome old at joining v c ≡ Acted true new → after_run old joining c (ran (host_at at old.state) old.state (row_of c).keeping (run_at at (action_of c v))) ≡ new
unfolding command_outcome run_outcome
run_of old at joining v c new e =
    acted_by (not (is_enabled_in (host_at at old.state) c)) (nat_lt depth_limit (page_depth old.state.trees))
    (nat_lt old.state.cap (ran (host_at at old.state) old.state (row_of c).keeping (run_at at (action_of c v))).next) (answered (host_at at old.state) old.state (row_of c).keeping (run_at at (action_of c v)))
    (after_run old joining c (ran (host_at at old.state) old.state (row_of c).keeping (run_at at (action_of c v)))) old new e

-- the run of the command made the new editor
pub record IsRun (old new : Editing) (at : Option Pair) (joining : Bool) (c : Command) (v : List ℕ) : Type 0 where
  pub is : after_run old joining c (ran (host_at at old.state) old.state (row_of c).keeping (run_at at (action_of c v))) ≡ new

pub changes : (r : Result Answer ExecFault) (old new : Editing) (at : Option Pair) (joining : Bool) (c : Command) (v : List ℕ) → Tells r old new (command_outcome old at joining v c) → (new ≡ old) ⊎ IsRun old new at joining c v
changes (Ok Yes) old new at joining c v tells = inr (record { is = run_of old at joining v c new tells })
changes (Ok No) old new at joining c v tells = inl tells.1
changes (Err fault.Full) old new at joining c v tells = inl tells.1
changes (Err fault.Deep) old new at joining c v tells = inl tells.1
changes (Err fault.Memory) old new at joining c v tells = inl tells

-- ---- the run of a command

reaches : (m : Run Bool) (s : State) → Reaches s (final m s)
unfolding final
reaches m s = m.by_actions s

-- what holds of an editor between its calls
pub record Standing (e : Editing) : Type 0 where
  pub valid : IsValid e.state
  pub resting : rested e.state ≡ e.state
  pub depth : 0 < e.history.depth
  pub joinable : goes_on e.going ≡ true → IsJoinable e.history

pub standing : (w : Whole) (going : Going) (following : Following) (e : Editing) → shown w going ≡ e → IsResting w going following → IsDoc w → Standing e
standing w going following e view rests law =
    subst Standing view (record { valid = law.valid; resting = law.resting rests.closed; depth = law.some_depth; joinable = rests.joinable })

same_marks : (host : Option ℕ) (s : State) (ms : List (List ℕ × Pair)) → AllZip (KeepsMark host s.trees) ms ms
same_marks host s [] = tt
same_marks host s (m ∷ ms) = ((refl, λ _ _. refl), same_marks host s ms)

same_labels : (e : Editing) → KeepsLabels e e × DrawsLabels e e
same_labels e = (
  record { kinds = λ l k m first last. (let same : Some k ≡ Some m = sym first ∙ last in cc); next = omega arith },
  λ l k there. inl there,
)

-- where nothing changed, the characters are there
pub same_characters : (host : Option ℕ) (o : Option Command) (e : Editing) → KeepsCharacters host o e e
same_characters host o e d h named keeps is = keeps_refl (below e.state.trees h)

-- where nothing changed, undo gives back what it would have given back
pub same_back : (joining : Bool) (old new : Editing) → new ≡ old → GivesBack joining old new
same_back false old new same = inl (record { document = ap (λ (e : Editing). e.state.trees) same; history = ap (λ (e : Editing). e.history) same })
same_back true old new same = inl (record { document = ap (λ (e : Editing). e.state.trees) same; history = ap (λ (e : Editing). e.history) same })

some_pair : (P : Pair → Type 0) (o : Option Pair) → IsSome o → IfSome o P → (q : Pair) × (o ≡ Some q) × P q
some_pair P None some h = absurd (let some' = some in cc)
some_pair P (Some q) some h = (q, refl, h)

module _ (old new : Editing) (at : Option Pair) (joining : Bool) (c : Command) (v : List ℕ) (joins : joining ≡ true → goes_on old.going ≡ true) (stands : Standing old) where
  abbrev host : Option ℕ
  host = host_at at old.state

  abbrev k : Bool
  k = (row_of c).keeping

  abbrev m : Run Bool
  m = run_at at (action_of c v)

  -- the state in which the run ends
  abbrev t : State
  t = ran host old.state k m

  law : IsValid old.state
  law = stands.valid

  whole : tree_of old.state.trees 0 ≡ old.state.trees
  unfolding rested
  whole = ap (λ (s : State). s.trees) stands.resting

  hosted : (h : ℕ) → host ≡ Some h → is_host old.state.trees h ≡ true
  hosted h is = host_at_is_host at old.state law.forest.distinct h is

  outside_kept : (new ≡ old) ⊎ IsRun old new at joining c v → KeepsOutside host old new
  outside_kept (inl same) = ap (λ (e : Editing). outside_by host e.state.trees) same
  outside_kept (inr run) =
      subst (λ (e : Editing). KeepsOutside host old e) run.is (outside_at_rest old.state t host k law (reaches m (begun host k old.state)))

  marks_kept : (new ≡ old) ⊎ IsRun old new at joining c v → KeepsMarks host old new
  marks_kept (inl same) = subst (λ (e : Editing). KeepsMarks host old e) (sym same) (same_marks host old.state old.state.points.marks)
  marks_kept (inr run) =
      subst (λ (e : Editing). KeepsMarks host old e) run.is (marks_at_rest old.state t host k law (reaches m (begun host k old.state)))

  -- ---- labels

  labels_kept : (new ≡ old) ⊎ IsRun old new at joining c v → KeepsLabels old new × DrawsLabels old new
  unfolding begun rested
  labels_kept (inl same) = subst (λ (e : Editing). KeepsLabels old e × DrawsLabels old e) (sym same) (same_labels old)
  labels_kept (inr run) =
      let r = reaches m (begun host k old.state) in
      let kinds = kinds_at_rest old.state t host k law r in
      subst (λ (e : Editing). KeepsLabels old e × DrawsLabels old e) run.is (record { kinds = kinds.0; next = next_along r }, kinds.1)

  -- ---- what is brought in

  -- where nothing changed, each node is known, whatever the command
  same_known : (o : Option Command) → BringsKnown o v old old
  same_known o = own_known (source_of old.state (typed_by o v))

  known_kept : (new ≡ old) ⊎ IsRun old new at joining c v → BringsKnown (Some c) v old new
  unfolding begun final
  known_kept (inl same) = subst (λ (e : Editing). BringsKnown (Some c) v old e) (sym same) (same_known (Some c))
  known_kept (inr run) =
      let b = begun host k old.state in
      let typed = typed_by (Some c) v in
      let tame = (tame_at old.state at c v).stays b (valid_begun host k old.state law) (own_known (source_of old.state typed)) in
      subst (λ (e : Editing). BringsKnown (Some c) v old e) run.is (commands_make_known old.state (final m b) typed host k law (m.by_actions b) tame)

  -- ---- the HTML around the host

  -- the new document is one that stands alone
  new_stands : (new ≡ old) ⊎ IsRun old new at joining c v → IsValid new.state × (tree_of new.state.trees 0 ≡ new.state.trees)
  unfolding rested
  new_stands (inl same) = subst (λ (e : Editing). IsValid e.state × (tree_of e.state.trees 0 ≡ e.state.trees)) (sym same) (law, whole)
  new_stands (inr run) =
      let valid = valid_along (reaches m (begun host k old.state)) (valid_begun host k old.state law) in
      subst (λ (e : Editing). IsValid e.state × (tree_of e.state.trees 0 ≡ e.state.trees)) run.is (valid_rested t valid, document_again t.trees t.next valid.forest)

  html_kept : (new ≡ old) ⊎ IsRun old new at joining c v → KeepsHtml host old new
  html_kept changed =
      let there = new_stands changed in
      let outside = outside_kept changed in
      html_around old.state.trees new.state.trees old.state.next new.state.next law.forest there.0.forest whole there.1 host (λ h is. in_both h is there.1 outside) outside
    where
      in_both : (h : ℕ) → host ≡ Some h → tree_of new.state.trees 0 ≡ new.state.trees → KeepsOutside host old new → (0 < count_of old.state.trees h) × (0 < count_of new.state.trees h)
      in_both h is alone outside =
          let first = host_there old.state.trees h (hosted h is) in
          let inner : 0 < count_of (tree_of old.state.trees 0) h = subst (λ g. 0 < count_of g h) (sym whole) first in
          let same : hollowed (tree_of new.state.trees 0) h ≡ hollowed (tree_of old.state.trees 0) h = subst (λ o. outside_by o new.state.trees ≡ outside_by o old.state.trees) is outside in
          let still : 0 < count_of (hollowed (tree_of new.state.trees 0) h) h = subst (λ g. 0 < count_of g h) (sym same) (host_stays h (tree_of old.state.trees 0) inner) in
          let last : 0 < count_of (tree_of new.state.trees 0) h = omega (arith, still, hollowed_le (tree_of new.state.trees 0) h h) in
          (first, subst (λ g. 0 < count_of g h) alone last)

  -- ---- the selection

  still_selected : (new ≡ old) ⊎ IsRun old new at joining c v → IsSome old.state.points.selection → IsSome new.state.points.selection
  unfolding final
  still_selected (inl same) some = subst (λ (e : Editing). IsSome e.state.points.selection) (sym same) some
  still_selected (inr run) some =
      let b = begun host k old.state in
      let steady = (fit_at at c v).steady.leaves b (valid_begun host k old.state law) in
      subst (λ (e : Editing). IsSome e.state.points.selection) run.is (selection_at_rest old.state (final m b) host k (m.by_actions b) steady some)

  selection_kept : (new ≡ old) ⊎ IsRun old new at joining c v → KeepsSelection old new
  selection_kept changed some = some_pair (IsPlacedPair new.state.trees) new.state.points.selection (still_selected changed some) (new_stands changed).0.placed.selection

  no_scratch : old.state.points.scratch ≡ None
  unfolding rested
  no_scratch = sym (ap (λ (s : State). s.points.scratch) stands.resting)

  after_selects : (h : ℕ) → host ≡ Some h → IsRun old new at joining c v → IfSome (rested (final m (begun (Some h) k old.state))).points.selection (IsPairWithin (rested (final m (begun (Some h) k old.state))).trees h)
      → IfSome new.state.points.selection (IsPairWithin new.state.trees h)
  after_selects h is run inside =
      let at_host : after_run old joining c (final m (begun (Some h) k old.state)) ≡ new = ap (λ o. after_run old joining c (final m (begun o k old.state))) (sym is) ∙ run.is in
      subst (λ (e : Editing). IfSome e.state.points.selection (IsPairWithin e.state.trees h)) at_host inside

  selection_in_kept : (new ≡ old) ⊎ IsRun old new at joining c v → KeepsSelectionIn host at old new
  selection_in_kept changed h is = by_place at refl
    where
      by_place : (o : Option Pair) → at ≡ o → SelectsIn o old new h
      by_place None none = elim changed [
        | inl same ↦ (
            let here : host_at None old.state ≡ Some h = ap (λ o. host_at o old.state) (sym none) ∙ is in
            subst (λ (e : Editing). IfSome e.state.points.selection (IsPairWithin e.state.trees h)) (sym same) (host_holds old.state law.forest.distinct h here))
        | inr run ↦ (
            let here : host_at None old.state ≡ Some h = ap (λ o. host_at o old.state) (sym none) ∙ is in
            let inside = selection_in_host old.state h k (kept_by c) law whole no_scratch (hosted h is) (action_of c v) (host_holds old.state law.forest.distinct h here) (stays_action c v) in
            after_selects h is run (subst (λ o. IfSome (rested (final (run_at o (action_of c v)) (begun (Some h) k old.state))).points.selection (IsPairWithin (rested (final (run_at o (action_of c v)) (begun (Some h) k old.state))).trees h)) (sym none) inside))
      ]
      by_place (Some range) some = λ placed. elim changed [
        | inl same ↦ inl same
        | inr run ↦ inr (
            let here : host_at (Some range) old.state ≡ Some h = ap (λ o. host_at o old.state) (sym some) ∙ is in
            let inside = range_in_host old.state h k (kept_by c) range (action_of c v) law whole no_scratch (hosted h is) placed (pair_host_holds old.state.trees law.forest.distinct h range here) (stays_action c v) in
            after_selects h is run (subst (λ o. IfSome (rested (final (run_at o (action_of c v)) (begun (Some h) k old.state))).points.selection (IsPairWithin (rested (final (run_at o (action_of c v)) (begun (Some h) k old.state))).trees h)) (sym some) inside))
      ]

  -- ---- islands

  -- an island that stays is where it was
  still_there : (h l : ℕ) → host ≡ Some h → is_island old.state.trees h l ≡ true → StaysBelow old.state.trees old.state.trees h l
  still_there h l is island =
      record { inside = island_inside old.state h l law (hosted h is) island; same = refl }

  -- a list with an edit makes an entry, or joins the last one
  entry_there : (n : ℕ) (e : Entry) (es : List Entry) → 0 < n → (rest : List Entry) × (take n (e ∷ es) ≡ e ∷ rest)
  entry_there zero e es some = absurd (omega (arith, some))
  entry_there (suc n) e es some = (take n es, refl)

  last_there : (es : List Entry) → 0 < length es → (e : Entry) × (rest : List Entry) × (es ≡ e ∷ rest)
  last_there [] some = absurd (omega (arith, some))
  last_there (e ∷ es) some = (e, es, refl)

  recorded_entry : (ended : State) → 0 < length ended.edits → HasEntry old (after_run old joining c ended) ended ⊎ HasJoined old (after_run old joining c ended) ended
  unfolding recorded with_entry joined
  recorded_entry ended some = by_joining joining refl
    where
      off : eqb (length ended.edits) 0 ≡ false
      off = ne_eqb (length ended.edits) 0 (λ e. omega (arith, some, e))

      own : (rest : List Entry) × ((recorded false old.state ended old.history).undo ≡ entry_of old.state ended ∷ rest)
      own = rw off (entry_there old.history.depth (entry_of old.state ended) old.history.undo stands.depth)

      theirs : (recorded true old.state ended old.history).undo ≡ joined_in ended old.history.undo
      theirs = rw off refl

      entries : {j : Bool} → joining ≡ j → (recorded joining old.state ended old.history).undo ≡ (recorded j old.state ended old.history).undo
      entries is = ap (λ j. (recorded j old.state ended old.history).undo) is

      by_joining : (j : Bool) → joining ≡ j → HasEntry old (after_run old joining c ended) ended ⊎ HasJoined old (after_run old joining c ended) ended
      by_joining false is = inl (record { older = own.0; is = entries is ∙ own.1 })
      by_joining true is =
          let last = last_there old.history.undo (stands.joinable (joins is)).some in
          inr (record { joinable = joins is; last = last.0; older = last.1; was = last.2; is = entries is ∙ (theirs ∙ ap (joined_in ended) last.2) })

  some_edit : (b ended : State) (l : ℕ) → IsTakenOut b ended l → 0 < length ended.edits
  some_edit b ended l out =
      let same : length ended.edits ≡ length (out.then_at.edits ++ (Remove out.root ∷ out.later)) = ap length out.listed in
      omega (arith, same, length-append out.then_at.edits (Remove out.root ∷ out.later))

  -- what the run of the command took out
  abbrev TakenBy : Editing → (h l : ℕ) → Type 0
  TakenBy e h l = StaysBelow old.state.trees e.state.trees h l ⊎ IsTakenBy at (Some c) v old e h l

  island_of : (h l : ℕ) → IslandKept (begun (Some h) k old.state) (final m (begun (Some h) k old.state)) old.state.trees (rested (final m (begun (Some h) k old.state))).trees h l → TakenBy (after_run old joining c (final m (begun (Some h) k old.state))) h l
  island_of h l (inl stays) = inl stays
  island_of h l (inr gone) =
      let ended = final m (begun (Some h) k old.state) in
      let r = recorded_entry ended (some_edit (begun (Some h) k old.state) ended l gone.1) in
      inr (record { out = gone.0; entry = r; taken = gone.1 })

  -- where nothing changed, each island is there, whatever the command
  same_islands : (o : Option Command) → new ≡ old → KeepsIslands host at o v old new
  same_islands o same h l is island = subst (λ (e : Editing). StaysBelow old.state.trees e.state.trees h l ⊎ IsTakenBy at o v old e h l) (sym same) (inl (still_there h l is island))

  islands_kept : (new ≡ old) ⊎ IsRun old new at joining c v → KeepsIslands host at (Some c) v old new
  unfolding final
  islands_kept (inl same) h l is island = subst (λ (e : Editing). TakenBy e h l) (sym same) (inl (still_there h l is island))
  islands_kept (inr run) h l is island =
      let b = begun (Some h) k old.state in
      let at_host : after_run old joining c (final m b) ≡ new = ap (λ o. after_run old joining c (final m (begun o k old.state))) (sym is) ∙ run.is in
      let leaves = states_on (m.by_actions b) ((fit_at at c v).steady.leaves b (valid_begun (Some h) k old.state law)) in
      subst (λ (e : Editing). TakenBy e h l) at_host
      (island_of h l (islands_at_rest old.state (final m b) h k law whole (hosted h is) (m.by_actions b) leaves l island))

  pub command_kept : (new ≡ old) ⊎ IsRun old new at joining c v → CommandKeeps host at (Some c) v old new
  command_kept changed = record {
    outside = outside_kept changed;
    html = html_kept changed;
    labels = (labels_kept changed).0;
    drawn = (labels_kept changed).1;
    known = known_kept changed;
    selection = selection_kept changed;
    selection_in = selection_in_kept changed;
    marks = marks_kept changed;
    islands = islands_kept changed;
  }

  -- where nothing changed it is so of any command, and of none
  pub unchanged_kept : new ≡ old → (o : Option Command) → CommandKeeps host at o v old new
  unchanged_kept same o = record {
    outside = outside_kept (inl same);
    html = html_kept (inl same);
    labels = (labels_kept (inl same)).0;
    drawn = (labels_kept (inl same)).1;
    known = subst (λ (e : Editing). BringsKnown o v old e) (sym same) (same_known o);
    selection = selection_kept (inl same);
    selection_in = selection_in_kept (inl same);
    marks = marks_kept (inl same);
    islands = same_islands o same;
  }

  -- ---- characters

  kept_along : (h : ℕ) → k ≡ true → OrderPreserving m → KeepsOrder old.state (final m (begun (Some h) k old.state))
  unfolding begun
  kept_along h keeping preserves = preserves.keeps (begun (Some h) k old.state) (record { valid = valid_begun (Some h) k old.state law; keeping = keeping })

  pub characters_kept : (new ≡ old) ⊎ IsRun old new at joining c v → KeepsCharacters host (Some c) old new
  characters_kept (inl same) d h named keeps is =
      subst (λ (e : Editing). KeepsLeaves (below old.state.trees h) (below e.state.trees h)) (sym same) (keeps_refl (below old.state.trees h))
  characters_kept (inr run) d h named keeps is =
      let same : c ≡ d = (let both : Some c ≡ Some d = named in cc) in
      let keeping : k ≡ true = ap (λ x. (row_of x).keeping) same ∙ keeps in
      let b = begun (Some h) k old.state in
      let at_host : after_run old joining c (final m b) ≡ new = ap (λ o. after_run old joining c (final m (begun o k old.state))) (sym is) ∙ run.is in
      subst (λ (e : Editing). KeepsLeaves (below old.state.trees h) (below e.state.trees h)) at_host
      (order_at_rest old.state (final m b) h k law whole (hosted h is) (reaches m b) (kept_along h keeping ((fit_at at c v).order_preserving keeping)))

  -- ---- undo

  no_edit : (ended : State) → eqb (length ended.edits) 0 ≡ true → length ended.edits ≡ 0
  no_edit ended none = grind (arith, nat_tests, none)

  -- a run without an edit leaves the document
  document_stays : length t.edits ≡ 0 → (rested t).trees ≡ old.state.trees
  unfolding rested
  document_stays none =
      let some : 0 < old.state.next = (let first = law.forest.below 0 law.forest.document in omega (arith, first)) in
      stays_alone old.state t host k some (reaches m (begun host k old.state)) none ∙ whole

  undone_at : (h : History) (s : State) (e : Entry) (rest : List Entry) → h.undo ≡ e ∷ rest → undone_state h s ≡ at_view e.before s
  unfolding undone_state
  undone_at h s e rest is = ap (λ (es : List Entry). undone_state_by es s) is

  -- of an entry of its own
  given_by_own : (ended : State) → (length ended.edits ≡ 0 → (rested ended).trees ≡ old.state.trees) → joining ≡ false → GivesBack false old (after_run old joining c ended)
  unfolding recorded with_entry at_view view_of
  given_by_own ended stays is = by_edits (eqb (length ended.edits) 0) refl
    where
      by_edits : (b : Bool) → eqb (length ended.edits) 0 ≡ b → GivesBack false old (after_run old joining c ended)
      by_edits true none =
          let same : recorded false old.state ended old.history ≡ old.history = rw none refl in
          inl (record { document = stays (no_edit ended none); history = ap (λ j. recorded j old.state ended old.history) is ∙ same })
      by_edits false some =
          let own = entry_there old.history.depth (entry_of old.state ended) old.history.undo stands.depth in
          let plain : (recorded false old.state ended old.history).undo ≡ entry_of old.state ended ∷ own.0 = rw some own.1 in
          let first : (after_run old joining c ended).history.undo ≡ entry_of old.state ended ∷ own.0 = ap (λ j. (recorded j old.state ended old.history).undo) is ∙ plain in
          let u = undone_at (after_run old joining c ended).history (after_run old joining c ended).state (entry_of old.state ended) own.0 first in
          inr (record {
            document = ap (λ (s : State). s.trees) u ∙ whole;
            selection = ap (λ (s : State). s.points.selection) u;
            marks = ap (λ (s : State). s.points.marks) u;
          })

  -- of the last entry
  given_by_last : (ended : State) → (length ended.edits ≡ 0 → (rested ended).trees ≡ old.state.trees) → joining ≡ true → GivesBack true old (after_run old joining c ended)
  unfolding recorded joined at_view
  given_by_last ended stays is = by_edits (eqb (length ended.edits) 0) refl
    where
      by_edits : (b : Bool) → eqb (length ended.edits) 0 ≡ b → GivesBack true old (after_run old joining c ended)
      by_edits true none =
          let same : recorded true old.state ended old.history ≡ old.history = rw none refl in
          inl (record { document = stays (no_edit ended none); history = ap (λ j. recorded j old.state ended old.history) is ∙ same })
      by_edits false some =
          let there = last_there old.history.undo (stands.joinable (joins is)).some in
          let e = there.0 in
          let rest = there.1 in
          let was = there.2 in
          let longer : Entry = record { before = e.before; after = view_of ended; edits = e.edits ++ ended.edits; made = e.made ++ used ended.edits ended.made } in
          let plain : (recorded true old.state ended old.history).undo ≡ longer ∷ rest = rw some (ap (joined_in ended) was) in
          let first : (after_run old joining c ended).history.undo ≡ longer ∷ rest = ap (λ j. (recorded j old.state ended old.history).undo) is ∙ plain in
          let u = undone_at (after_run old joining c ended).history (after_run old joining c ended).state longer rest first in
          let before = undone_at old.history old.state e rest was in
          inr (record {
            document = ap (λ (s : State). s.trees) u ∙ sym (ap (λ (s : State). s.trees) before);
            selection = ap (λ (s : State). s.points.selection) u ∙ sym (ap (λ (s : State). s.points.selection) before);
            marks = ap (λ (s : State). s.points.marks) u ∙ sym (ap (λ (s : State). s.points.marks) before);
          })

  pub given_back : (new ≡ old) ⊎ IsRun old new at joining c v → GivesBack joining old new
  given_back (inl same) = same_back joining old new same
  given_back (inr run) = by_joining joining refl
    where
      by_joining : (j : Bool) → joining ≡ j → GivesBack j old new
      by_joining false is = subst (λ (e : Editing). GivesBack false old e) run.is (given_by_own t document_stays is)
      by_joining true is = subst (λ (e : Editing). GivesBack true old e) run.is (given_by_last t document_stays is)
