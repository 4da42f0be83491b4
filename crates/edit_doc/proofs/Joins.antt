-- A command with an edit joins the entry that it resumed.
use Rattle.std.proofs.Common.{◌≡◌, ℕ, ◌<◌, ◌≤◌, Bool, true, false, List, [], ◌∷◌, ◌++◌, length, take, Option, refl, sym, ap, subst, ◌∙◌, arith, inl, inr}
use Rattle.std.specs.Prelude.{IsTrue}
use Rattle.std.proofs.lemmas.List.{map-append}
use Rattle.edit_model.specs.DomModel.declared.Content.{Content}
use Rattle.edit_model.specs.DomModel.Forest.{Forest, tops, times}
use Rattle.edit_model.proofs.DomModel.Pruning.{count_of-pruned}
use Rattle.edit_model.specs.LiveRange.Names.{shown}
use Rattle.step_edits.specs.UndoLog.Turning.{back, inverses_back, FitsBack, TurnsBack}
use Rattle.step_edits.specs.UndoLog.Log.{Log, IsLog, Open, noted, is_resumed, joined, committed, committed_with}
use Rattle.step_edits.specs.UndoLog.Log.Open.{Closed, Begun, Resumed}
use Rattle.step_edits.proofs.UndoLog.Turns.{back-join, FitsBack-join}
use Rattle.step_edits.specs.ForestChanges.Change.{Change, Fits, applied, inverse}
use Rattle.step_edits.specs.ForestChanges.Named.{Each, named, named_in}
use Rattle.step_edits.specs.ForestChanges.Down.{IsLeft, GoBackDown}
use Rattle.step_edits.proofs.ForestChanges.ChangeLists.{each_of, each_join, each_first, each_rest, back_down}
use Rattle.step_edits.proofs.ForestChanges.Twice.{forest_of, back_turns}
use Rattle.step_edits.specs.EditSteps.declared.step.Step.{Step}
use Rattle.step_edits.specs.EditSteps.Step.{change_of, changes_of, nodes_of, nodes_in}
use Rattle.edit_model.specs.NodeArena.declared.NodeRef.{NodeRef}
use Rattle.edit_model.specs.State.{State}
use Rattle.edit_model.specs.History.{used, joined_in, joined as joined_history, recorded, rested}
use Rattle.edit_doc.specs.declared.Doc.TheInside.{Inside}
use Rattle.edit_doc.specs.declared.command.EntrySnapshot.{EntrySnapshot}
use Rattle.edit_doc.specs.declared.command.EntrySpan.{EntrySpan}
use Rattle.edit_doc.specs.declared.command.Command.{Command}
use Rattle.edit_doc.specs.Fields.{IsEnded, EntersIn, Enters, made_span, joined_span}
use Rattle.edit_doc.specs.GivingUp.{loose_roots}
use Rattle.edit_doc.specs.Whole.{Whole, history_committed, committed_history}
use Rattle.edit_doc.specs.History.{forest_before, edits_before, roots_from, is_hidden, begun_forest, state_of, began_with, history_of, undo_entries, redo_entries, view_at}
use Rattle.edit_doc.specs.Sound.{RefIn, CanGoBack, IsOff, IsSnapshot, UndoSound}
use Rattle.edit_doc.specs.Trail.{trail_of}
use Rattle.edit_doc.specs.Live.{live}
use Rattle.edit_doc.proofs.GivingUp.{filtered_loose, loose_is, listed_loose, listed_after, listed_before}
use Rattle.edit_doc.proofs.Off.{Passes, passes_back, off_moved, each_here, each_off}
use Rattle.edit_model.specs.LiveRange.PointsEdit.{has_label}
use Rattle.edit_model.specs.Gives.{labels_of}
use Rattle.edit_doc.proofs.Inner.{seen, Ending, Entering}
use Rattle.edit_doc.proofs.HiddenTrees.{hidden_is, is_hidden_from, pruned_more, tops_stay}
use Rattle.edit_doc.proofs.Laid.{undo_later}
use Rattle.edit_model.proofs.DomModel.Stands.{true_or_false}
use Rattle.edit_doc.proofs.Rests.{AtRest, none_noted}
use Rattle.edit_doc.proofs.Rolls.{run, g, xs, forest_g, snapshot_of}
use Rattle.edit_doc.proofs.Downs.{back_forest}
use Rattle.edit_doc.proofs.MadeNodes.{listed_has, count_edits, edits-join, roots-back, root_along, used-join}
use Rattle.edit_doc.proofs.Turnings.{prunes_after}
use Rattle.edit_doc.proofs.Commits.{placed_now}
use Rattle.edit_doc.proofs.Records.{high, high_le, some_edits, state_before, state_now, view_now, committed_made, begun_sound, begun_history, ends, recorded_state}

-- ---- lists of steps joined

pub each_named : (P : ℕ → Type 0) (es ys : List Step) → Each P (named_in (changes_of es)) → Each P (named_in (changes_of ys)) → Each P (named_in (changes_of (es ++ ys)))
each_named P [] ys a b = b
each_named P (e ∷ es) ys a b =
    each_join P (named (change_of e)) (named_in (changes_of (es ++ ys)))
    (each_first P (named (change_of e)) (named_in (changes_of es)) a)
    (each_named P es ys (each_rest P (named (change_of e)) (named_in (changes_of es)) a) b)

pub each_node : (P : NodeRef → Type 0) (es ys : List Step) → Each P (nodes_in es) → Each P (nodes_in ys) → Each P (nodes_in (es ++ ys))
each_node P [] ys a b = b
each_node P (e ∷ es) ys a b =
    each_join P (nodes_of e) (nodes_in (es ++ ys))
    (each_first P (nodes_of e) (nodes_in es) a)
    (each_node P es ys (each_rest P (nodes_of e) (nodes_in es) a) b)

pub before_join : (es ys : List Step) (f : Forest Content) → forest_before (es ++ ys) f ≡ forest_before es (forest_before ys f)
before_join es ys f = ap (λ cs. back applied cs f) (map-append change_of es ys) ∙ back-join applied (changes_of es) (changes_of ys) f

pub can_join : (held : List (Option ℕ)) (es ys : List Step) (f : Forest Content) → CanGoBack held ys f → CanGoBack held es (forest_before ys f) → CanGoBack held (es ++ ys) f
can_join held es ys f a b = (
  subst (λ cs. FitsBack applied Fits cs f) (sym (map-append change_of es ys)) (FitsBack-join applied Fits (changes_of es) (changes_of ys) f a.0 b.0),
  each_node (RefIn held) es ys b.1 a.1,
)

-- ---- the log

pub committed_joined : (l : Log Step) (o : Open Step) → is_resumed o ≡ true → committed_with l o ≡ record l { undo = joined l.undo (noted o); open_entry = Closed }
committed_joined l Closed r = absurd (cc)
committed_joined l (Begun ys) r = absurd (cc)
committed_joined l (Resumed ys) r = refl

pub joined_recorded : (s0 : State) (o : Open Step) (w : Whole) → is_resumed o ≡ true → 0 < length w.state.edits →
    committed_history w (began_with s0 o) ≡ record w.history { undo = joined_in w.state w.history.undo }
unfolding recorded joined_history
joined_recorded s0 Closed w r some = absurd (cc)
joined_recorded s0 (Begun ys) w r some = absurd (cc)
joined_recorded s0 (Resumed ys) w r some = rw (some_edits (length w.state.edits) some) refl

module _ (d : Inside) (ending : Ending d) (c : Command) (ended : IsEnded d.tree.nodes.arena.next c) where
  abbrev steps : List Step
  steps = xs d ending.during

  abbrev begun : Forest Content
  begun = g d ending.during

  abbrev now : Forest Content
  now = d.tree.nodes.arena.trees

  abbrev detached_now : List NodeRef
  detached_now = loose_roots d.tree.nodes.arena.trees d.command.detached.items

  -- the entry that the command resumed, with its steps
  module _ (e : List Step) (b b' : EntrySnapshot) (detached : List NodeRef) (up : ℕ) (le : up ≤ d.command.start) (can : CanGoBack d.tree.nodes.arena.held e begun)
      (was : IsSnapshot d.tree.points.names (forest_before e begun) begun e (inverses_back applied inverse (changes_of e) begun) b detached up d.command.start)
      (same : b'.span ≡ joined_span b.span ending.places d.tree.nodes.counts) (detached_is : b'.detached.items ≡ detached_now) (taken : detached ≡ take d.command.detached_before d.command.detached.items) where
    abbrev both : List Step
    both = e ++ steps

    abbrev first : Forest Content
    first = forest_before e begun

    pub can_both : CanGoBack d.tree.nodes.arena.held both now
    can_both = can_join d.tree.nodes.arena.held e steps now (run d ending.during).can can

    abbrev k : ℕ → Bool
    k = is_hidden first b.span.first_label

    abbrev hid : ℕ → Bool
    hid = is_hidden begun d.command.start

    first_low : b.span.first_label ≤ d.command.start
    first_low = (let t = was.drawn in omega arith)

    -- what the entry's commands didn't see, the last of them didn't see
    hidden_more : (l : ℕ) → k l ≡ true → is_hidden begun d.command.start l ≡ true
    hidden_more l t =
        let h = hidden_is first b.span.first_label l t in
        is_hidden_from begun d.command.start l (record { inner = h.inner; old = (let o = h.old in let low = first_low in omega (arith, o, low)); root = was.hidden l t })

    roots : (l : ℕ) → k l ≡ true → 0 < times (tops now) l
    roots l t = ending.during.ok.hidden l (hidden_more l t)

    last_there : Each (IsLeft k now) (named_in (changes_of steps))
    last_there = each_of (IsLeft (is_hidden begun d.command.start) now) (IsLeft k now) (named_in (changes_of steps)) (λ l t. (let m = pruned_more (is_hidden begun d.command.start) k now l hidden_more in omega (arith, m, t))) (run d ending.during).names_there

    last_down : GoBackDown k (changes_of steps) now
    last_down = back_down k (changes_of steps) now (prunes_after first now b.span.first_label (forest_of d.tree.nodes.arena ending.during.law) roots) (run d ending.during).can.0 last_there

    there : Each (IsLeft k now) (named_in (changes_of both))
    there = each_named (IsLeft k now) e steps (each_of (IsLeft k begun) (IsLeft k now) (named_in (changes_of e)) (λ l t. (let s = last_down.stays l in omega (arith, s, t))) was.names_there) last_there

    down : GoBackDown k (changes_of both) now
    down = back_down k (changes_of both) now (prunes_after first now b.span.first_label (forest_of d.tree.nodes.arena ending.during.law) roots) can_both.0 there

    below : (ls : List ℕ) → Each (IsLeft k now) ls → Each (λ l. l < d.tree.nodes.arena.next) ls
    below ls h = each_of (IsLeft k now) (λ l. l < d.tree.nodes.arena.next) ls (λ l t. ending.during.law.below l (let m = count_of-pruned k now l in omega (arith, m, t))) h

    abbrev turns : List Change
    turns = inverses_back applied inverse (changes_of both) now

    own : IsSnapshot d.tree.points.names first now both turns (record b { span = joined_span b.span ending.places d.tree.nodes.counts }) detached_now d.tree.nodes.arena.next d.tree.nodes.arena.next
    own = record {
      was = was.was;
      is = record {
        over = ending.resting.over;
        placed = placed_now d ending;
        resting = ending.resting.resting;
        nodes_are = d.tree.nodes.counted.nodes;
        chars_are = d.tree.nodes.counted.chars;
        no_deeper = d.tree.nodes.counted.depth;
      };
      some_label = was.some_label;
      fresh = was.fresh;
      drawn = (let t = ending.during.ok.valid.started in let low = first_low in omega (arith, t, low));
      known = omega arith;
      hidden = roots;
      names_seen = each_of (IsLeft k now) (IsLeft k first) (named_in (changes_of both)) (λ l t. subst (λ h. IsLeft k h l) (before_join e steps now) (let s = down.stays l in omega (arith, s, t))) there;
      names_there = there;
      names_old = below (named_in (changes_of both)) there;
      turns_old = below (named_in turns) down.names;
      detached_loose = filtered_loose now d.tree.nodes.arena.next ending.during.law.distinct ending.during.law.below d.command.detached.items;
      detached_all = λ l inner top out. listed_loose now d.command.detached.items l (loose_is now l inner top) (elim (true_or_false (hid l)) [
        | inl t ↦ (
            let last_off : Each (IsOff now l) (named_in (changes_of steps)) = each_off hid now l ending.during.law.distinct top t (named_in (changes_of steps)) (run d ending.during).names_there in
            let ps : Passes l now begun (inverses_back applied inverse (changes_of steps) now) =
            passes_back l (changes_of steps) now (forest_of d.tree.nodes.arena ending.during.law) inner top (run d ending.during).can.0 (each_here hid now (named_in (changes_of steps)) (run d ending.during).names_there) last_off in
            let listed = was.detached_all l inner ps.top (λ a x. (
            let first_off = off_moved l begun now (λ m. sym (ps.same m)) (named_in (changes_of e)) a in
            let both_off = each_named (IsOff now l) e steps first_off last_off in
            let pb : Passes l now (forest_before both now) turns = passes_back l (changes_of both) now (forest_of d.tree.nodes.arena ending.during.law) inner top can_both.0 (each_here k now (named_in (changes_of both)) there) both_off in
            out both_off pb.turns)) in
            listed_before d.command.detached_before d.command.detached.items l (subst (λ ls. has_label (labels_of ls) l ≡ true) taken listed))
        | inr t ↦ listed_after d.command.detached_before d.command.detached.items l ((run d ending.during).newly_detached l inner (subst (λ n. 0 < n) (sym (tops_stay hid now l t)) top))
      ]);
    }

    pub joined_snapshot : IsSnapshot d.tree.points.names (forest_before both now) now both turns b' b'.detached.items d.tree.nodes.arena.next c.start
    joined_snapshot =
        subst (λ n. IsSnapshot d.tree.points.names (forest_before both now) now both turns b' b'.detached.items d.tree.nodes.arena.next n) (sym ended.start)
        (subst (λ h. IsSnapshot d.tree.points.names h now both turns b' b'.detached.items d.tree.nodes.arena.next d.tree.nodes.arena.next) (sym (before_join e steps now))
        (subst (λ ls. IsSnapshot d.tree.points.names first now both turns b' ls d.tree.nodes.arena.next d.tree.nodes.arena.next) (sym detached_is)
        (snapshot_of d.tree.points.names first now both turns (record b { span = joined_span b.span ending.places d.tree.nodes.counts }) b' detached_now d.tree.nodes.arena.next d.tree.nodes.arena.next (sym same) own)))

  start_le : d.command.start ≤ c.start
  start_le = (let s = ended.start in let t = ending.during.ok.valid.started in omega (arith, s, t))

  joined_undo : (up room : ℕ) (s : EntrySpan) (es : List (List Step)) (bs new : List EntrySnapshot) (out : Option EntrySnapshot) → up ≤ d.command.start → EntersIn true s detached_now ending.places d.tree.nodes.counts room bs new out →
      UndoSound d.tree.nodes.arena.held d.tree.points.names true d.command up begun es bs → UndoSound d.tree.nodes.arena.held d.tree.points.names false c d.tree.nodes.arena.next now (joined es steps) new
  joined_undo up room s es [] new out le enters h = absurd enters
  joined_undo up room s es (b ∷ bs) [] out le enters h = absurd enters
  joined_undo up room s [] (b ∷ bs) (b' ∷ bs') out le enters h = absurd h
  joined_undo up room s (e ∷ es) (b ∷ bs) (b' ∷ bs') out le enters h =
      let same = enters.1.0 in
      let first : Forest Content = forest_before e begun in
      let low : b.span.first_label ≤ d.command.start = (let t = h.1.0.drawn in omega arith) in
      let rest : UndoSound d.tree.nodes.arena.held d.tree.points.names false c b.span.first_label first es bs = undo_later d.tree.nodes.arena.held d.tree.points.names d.command c start_le b.span.first_label b.span.first_label first es bs (omega arith) (let t = start_le in omega arith) h.1.1 in
      let detached = take d.command.detached_before d.command.detached.items in (
        can_both e b b' detached up le h.0 h.1.0 same enters.1.1.0 refl,
        (
          joined_snapshot e b b' detached up le h.0 h.1.0 same enters.1.1.0 refl,
          subst (λ (t : EntrySpan). UndoSound d.tree.nodes.arena.held d.tree.points.names false c t.first_label (forest_before (e ++ steps) now) es bs') (sym same)
              (subst (λ t. UndoSound d.tree.nodes.arena.held d.tree.points.names false c b.span.first_label t es bs') (sym (before_join e steps now))
              (subst (λ cs. UndoSound d.tree.nodes.arena.held d.tree.points.names false c b.span.first_label first es cs) (sym enters.0) rest)),
        ),
      )

  -- the nodes of the entry and those of the command that joined it
  module _ (e : List Step) (b : EntrySnapshot) (detached : List NodeRef) (up : ℕ) (le : up ≤ d.command.start) (can : CanGoBack d.tree.nodes.arena.held e begun)
      (was : IsSnapshot d.tree.points.names (forest_before e begun) begun e (inverses_back applied inverse (changes_of e) begun) b detached up d.command.start) where
    abbrev G : Forest Content
    G = forest_before e begun

    abbrev ts : List Change
    ts = edits_before e begun

    abbrev ys : List Change
    ys = edits_before steps now

    tb : TurnsBack applied inverse Fits (changes_of e) begun
    tb = back_turns (changes_of e) begun can.0

    old_edits : Each (λ l. l < d.command.start) (named_in ts)
    old_edits = each_of (λ l. l < up) (λ l. l < d.command.start) (named_in ts) (λ l lt. omega (arith, lt, le)) was.turns_old

    old_steps : Each (λ l. l < d.command.start) (named_in (changes_of e))
    old_steps = each_of (λ l. l < up) (λ l. l < d.command.start) (named_in (changes_of e)) (λ l lt. omega (arith, lt, le)) was.names_old

    -- a root that no edit names stays one
    stays_root : (l : ℕ) → has_label (named_in ts) l ≡ false → 0 < times (tops G) l → 0 < times (tops begun) l
    stays_root l off top = subst (λ t. 0 < times (tops t) l) tb.state (root_along l ts G tb.fit off top)

    -- what the last command names, it saw
    seen_last : (l : ℕ) → has_label (named_in ys) l ≡ true → is_hidden begun d.command.start l ≡ false
    seen_last l t =
        let r = run d ending.during in
        let k = is_hidden begun d.command.start in
        let prunes = prunes_after begun now d.command.start (forest_of d.tree.nodes.arena ending.during.law) ending.during.ok.hidden in
        let gd : GoBackDown k (changes_of steps) now = back_down k (changes_of steps) now prunes r.can.0 r.names_there in
        prunes.out l (listed_has (IsLeft k now) (named_in ys) l gd.names t)

    named_before : (l : ℕ) → 0 < times (tops G) l → b.span.first_label ≤ l → l < d.command.start → has_label (named_in ys) l ≡ true → has_label (named_in ts) l ≡ true
    named_before l top from lt t = elim (true_or_false (has_label (named_in ts) l)) [
      | inl own ↦ own
      | inr off ↦ absurd (
          let some = was.some_label in
          let hid = is_hidden_from begun d.command.start l (record { inner = omega (arith, some, from); old = lt; root = stays_root l off top }) in
          let u : true ≡ false = sym hid ∙ seen_last l t in cc)
    ]

    pub joined_nodes : used (edits_before (e ++ steps) now) (roots_from b.span.first_label (forest_before (e ++ steps) now)) ≡ used ts (roots_from b.span.first_label G) ++ used ys (roots_from d.command.start begun)
    joined_nodes =
        let first : b.span.first_label ≤ d.command.start = (let t = was.drawn in omega (arith, t, le)) in
        (λ i. used (edits-join e steps now i) (roots_from b.span.first_label (before_join e steps now i)))
        ∙ (used-join ts ys b.span.first_label d.command.start first old_edits 0 G (back_forest (changes_of e) begun can.0 (forest_g d ending.during)).rising named_before
        ∙ ap (λ r. used ts (roots_from b.span.first_label G) ++ used ys r) (roots-back d.command.start (changes_of e) begun old_steps))

  joined_entries : (up room : ℕ) (s : EntrySpan) (es : List (List Step)) (bs new : List EntrySnapshot) (out : Option EntrySnapshot) → up ≤ d.command.start → EntersIn true s detached_now ending.places d.tree.nodes.counts room bs new out →
      UndoSound d.tree.nodes.arena.held d.tree.points.names true d.command up begun es bs →
      undo_entries d.tree.points.names now (joined es steps) new ≡ joined_in (state_now d ending) (undo_entries d.tree.points.names begun es bs)
  joined_entries up room s es [] new out le enters h = absurd enters
  joined_entries up room s es (b ∷ bs) [] out le enters h = absurd enters
  joined_entries up room s [] (b ∷ bs) (b' ∷ bs') out le enters h = refl
  joined_entries up room s (e ∷ es) (b ∷ bs) (b' ∷ bs') out le enters h =
      let first_is : b'.span.first_label ≡ b.span.first_label = ap (λ (t : EntrySpan). t.first_label) enters.1.0 in
      let nodes = ap (λ n. used (edits_before (e ++ steps) now) (roots_from n (forest_before (e ++ steps) now))) first_is ∙ joined_nodes e b (take d.command.detached_before d.command.detached.items) up le h.0 h.1.0 in
      let join = before_join e steps now in
      let after = ap (λ (t : EntrySpan). view_at d.tree.points.names now t.after) enters.1.0 ∙ view_now d ending in
      λ i. record {
        before = view_at d.tree.points.names (join i) (enters.1.0 i).before;
        after = after i;
        edits = edits-join e steps now i;
        made = nodes i;
      } ∷ undo_entries d.tree.points.names (join i) es (enters.0 i)

  module _ (resumed : is_resumed d.history.log.open_entry ≡ true) (us : List EntrySnapshot) (out : Option EntrySnapshot) (enters : Enters d.command (loose_roots d.tree.nodes.arena.trees d.command.detached.items) ending.places d.tree.nodes.counts d.history.log.depth d.history.past us out) where
    pub entering : EntersIn true (made_span d.command ending.places d.tree.nodes.counts) detached_now ending.places d.tree.nodes.counts d.history.log.depth d.history.past us out
    entering = subst (λ r. EntersIn r (made_span d.command ending.places d.tree.nodes.counts) detached_now ending.places d.tree.nodes.counts d.history.log.depth d.history.past us out) (ending.during.ok.resumed ∙ resumed) enters

    pub joined_sound : UndoSound d.tree.nodes.arena.held d.tree.points.names false c d.tree.nodes.arena.next now (joined d.history.log.undo steps) us
    joined_sound =
        let up = high d ending in
        joined_undo up d.history.log.depth (made_span d.command ending.places d.tree.nodes.counts) d.history.log.undo d.history.past us out (high_le d ending) entering
        (subst (λ r. UndoSound d.tree.nodes.arena.held d.tree.points.names r d.command up begun d.history.log.undo d.history.past) (ending.during.ok.resumed ∙ resumed) ending.during.ok.undo)

    pub joined_history_is : d.history.log.redo ≡ [] → 0 < length steps → (v : Whole) → seen d ≡ v →
        history_of d.tree.points.names now (trail_of (record d.history.log { undo = joined d.history.log.undo steps; open_entry = Closed }) us []) ≡ history_committed v
    unfolding history_committed
    joined_history_is nothing some v sees =
        (λ i. record {
          undo = joined_entries (high d ending) d.history.log.depth (made_span d.command ending.places d.tree.nodes.counts) d.history.log.undo d.history.past us out (high_le d ending) entering
              (subst (λ r. UndoSound d.tree.nodes.arena.held d.tree.points.names r d.command (high d ending) begun d.history.log.undo d.history.past) (ending.during.ok.resumed ∙ resumed) ending.during.ok.undo) i;
          redo = (ap (λ es. redo_entries d.tree.points.names now es []) nothing ∙ sym (ap (λ es. redo_entries d.tree.points.names begun es d.history.future) nothing)) i;
          depth = d.history.log.depth;
          dropped = d.history.log.dropped;
        })
        ∙ (sym (joined_recorded (state_before d ending) d.history.log.open_entry (seen d) resumed (subst (λ n. 0 < n) (sym (count_edits steps d.tree.nodes.arena.trees)) some)) ∙ ap history_committed sees)

-- ---- either way

pub true_is : (b : Bool) → b ≡ true → IsTrue b
true_is true e = refl
true_is false e = absurd (cc)

module _ (d : Inside) (enters : Entering d) (logged : IsLog d.history.log) (c : Command) (ended : IsEnded d.tree.nodes.arena.next c) where
  pub record Recorded (log : Log Step) : Type 0 where
    pub closed : log.open_entry ≡ Closed
    pub redo : log.redo ≡ []
    pub depth : log.depth ≡ d.history.log.depth
    pub undo : UndoSound d.tree.nodes.arena.held d.tree.points.names false c d.tree.nodes.arena.next d.tree.nodes.arena.trees log.undo enters.past
    pub history : (v : Whole) → seen d ≡ v → history_of d.tree.points.names d.tree.nodes.arena.trees (trail_of log enters.past []) ≡ history_committed v

  pub recorded_is : Recorded (committed d.history.log)
  recorded_is = elim (true_or_false (is_resumed d.history.log.open_entry)) [
    | inl r ↦ (let nothing = (logged.resumes_last (true_is (is_resumed d.history.log.open_entry) r)).1 in
        subst Recorded (sym (committed_joined d.history.log d.history.log.open_entry r)) (record {
          closed = refl;
          redo = nothing;
          depth = refl;
          undo = joined_sound d enters.ending c ended r enters.past enters.out enters.entered;
          history = λ v sees. joined_history_is d enters.ending c ended r enters.past enters.out enters.entered nothing enters.some v sees;
        }))
    | inr r ↦ subst Recorded (sym (committed_made d.history.log d.history.log.open_entry enters.ending.during.opened r enters.some)) (record {
      closed = refl;
      redo = refl;
      depth = refl;
      undo = begun_sound d enters.ending r c ended.start enters.past enters.out enters.entered;
      history = λ v sees. begun_history d enters.ending r c ended.start enters.past enters.out enters.entered enters.some v sees;
    })
  ]

  module _ (log : Log Step) (is : log ≡ committed d.history.log) where
    here : Recorded log
    here = subst Recorded (sym is) recorded_is

    pub entry_redo : log.redo ≡ []
    entry_redo = here.redo

    pub entry_rests : AtRest (record (live d.tree) { points = shown d.tree.points.names enters.ending.places }) c (trail_of log enters.past [])
    entry_rests = ends d enters.ending log here.closed here.redo here.depth enters.past c ended here.undo

    pub entry_state : (v : Whole) → seen d ≡ v → state_of (record (live d.tree) { points = shown d.tree.points.names enters.ending.places }) c log ≡ rested v.state
    entry_state v sees = recorded_state d enters.ending log here.closed here.redo here.depth enters.past c ended here.undo v sees

    pub entry_history : (v : Whole) → seen d ≡ v → history_of d.tree.points.names (begun_forest log d.tree.nodes.arena.trees) (trail_of log enters.past []) ≡ history_committed v
    entry_history v sees = ap (λ f. history_of d.tree.points.names f (trail_of log enters.past [])) (none_noted log d.tree.nodes.arena.trees (ap noted here.closed)) ∙ here.history v sees
