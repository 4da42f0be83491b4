-- What is tracked of an editor along the acts of a session: how its entries lead from the document of the page.
use Rattle.std.proofs.Common.{◌≡◌, ℕ, zero, suc, ◌<◌, ◌≤◌, Bool, true, false, true≢false, cond, eqb, List, [], ◌∷◌, length, take, refl, sym, ap, subst, ◌∙◌, arith}
use Rattle.std.specs.Prelude.{◌||◌, nat_le}
use Rattle.std.proofs.lemmas.Bool.Decides.{nat_tests}
use Rattle.std.proofs.lemmas.List.{take_all}
use Rattle.edit_model.specs.HtmlNames.declared.commands.Command.{Command}
use Rattle.edit_model.specs.DomModel.declared.Content.{Content}
use Rattle.edit_model.specs.DomModel.Forest.{Forest}
use Rattle.inline_value.specs.ForestChanges.Named.{Each}
use Rattle.inline_value.proofs.ForestChanges.ChangeLists.{each_of}
use Rattle.edit_model.specs.State.{State}
use Rattle.edit_model.specs.History.{Entry, History, document_of, view_of, at_view, rested, entry_of, with_entry, joined, joined_in, recorded, undone_state, undone_state_by, undone_history, undone_history_by, redone_state, redone_state_by, redone_history, redone_history_by}
use Rattle.edit_model.specs.Valid.{IsValid}
use Rattle.edit_model.proofs.Resting.{valid_rested, valid_at_view}
use Rattle.edit_laws.proofs.Resting.{document_again}
use Rattle.edit_engine.specs.Editing.{Editing, IsJoinable, stopped_at, undone, redone, going_past}
use Rattle.edit_engine.specs.Execution.{after_run}
use Rattle.edit_engine.specs.Going.{goes_on}
use Rattle.edit_engine.proofs.GoingOn.{recorded_joinable}
use Rattle.grammar_laws.proofs.Texts.{each_take}
use Rattle.replay_laws.proofs.Chains.{ChainBack, ChainOn, on_low, back_higher, on_higher, back_cut, own_link, longer_link}
use Rattle.replay_laws.proofs.EditsFit.{plain_forest}
use Rattle.replay_laws.proofs.Entries.{IsKnown, known_later, entry_known, longer_known}
use Rattle.replay_laws.proofs.Leaving.{Leaves}

-- the entries, the last one first, lead to this document, from that of the page unless one was dropped
abbrev pub LedFrom : Bool → Forest Content → List Entry → Forest Content → Type 0
LedFrom dropped page [] f = dropped ≡ false → page ≡ f
LedFrom dropped page (x ∷ xs) f = (x.after.document ≡ f) × LedFrom dropped page xs x.before.document

-- the entries, the next one first, lead on from this document
abbrev pub LeadOn : List Entry → Forest Content → Type 0
LeadOn [] f = Unit {0}
LeadOn (x ∷ xs) f = (x.before.document ≡ f) × LeadOn xs x.after.document

pub record IsTracked (page : Forest Content) (start cap : ℕ) (e : Editing) : Type 0 where
  pub valid : IsValid e.state
  pub alone : document_of e.state.trees ≡ e.state.trees
  pub low : start ≤ e.state.next
  pub capped : e.state.cap ≡ cap
  pub depth : 0 < e.history.depth
  pub joinable : goes_on e.going ≡ true → IsJoinable e.history
  pub undo : Each (IsKnown start e.state.next) e.history.undo
  pub redo : Each (IsKnown start e.state.next) e.history.redo
  pub past : LedFrom e.history.dropped page e.history.undo e.state.trees
  pub future : LeadOn e.history.redo e.state.trees
  pub within : e.state.next ≤ cap
  pub middle : ℕ
  pub back : ChainBack start middle e.history.undo
  pub on : ChainOn middle e.state.next e.history.redo

-- without the oldest
led_cut : (dropped : Bool) (page : Forest Content) (n : ℕ) (xs : List Entry) (f : Forest Content) → LedFrom dropped page xs f → LedFrom true page (take n xs) f
led_cut dropped page zero xs f led = λ off. absurd (true≢false off)
led_cut dropped page (suc n) [] f led = λ off. absurd (true≢false off)
led_cut dropped page (suc n) (x ∷ xs) f led = (led.0, led_cut dropped page n xs x.before.document led.1)

neither : (a b : Bool) → (a || b) ≡ false → (a ≡ false) × (b ≡ false)
neither true b e = absurd (true≢false e)
neither false b e = (refl, e)

module _ (page : Forest Content) (start cap : ℕ) where
  abbrev pub Tracked : Editing → Type 0
  Tracked e = IsTracked page start cap e

  -- ---- another state with the same document

  pub tracked_stopped : (e : Editing) (s : State) → Tracked e → IsValid s → s.trees ≡ e.state.trees → s.next ≡ e.state.next → s.cap ≡ e.state.cap → Tracked (stopped_at e s)
  tracked_stopped e s tr valid trees next same = record {
    valid = valid;
    alone = ap document_of trees ∙ (tr.alone ∙ sym trees);
    low = subst (λ (n : ℕ). start ≤ n) (sym next) tr.low;
    capped = same ∙ tr.capped;
    depth = tr.depth;
    joinable = λ on. absurd (true≢false (sym on));
    undo = subst (λ (n : ℕ). Each (IsKnown start n) e.history.undo) (sym next) tr.undo;
    redo = subst (λ (n : ℕ). Each (IsKnown start n) e.history.redo) (sym next) tr.redo;
    past = subst (λ (f : Forest Content). LedFrom e.history.dropped page e.history.undo f) (sym trees) tr.past;
    future = subst (λ (f : Forest Content). LeadOn e.history.redo f) (sym trees) tr.future;
    within = subst (λ (n : ℕ). n ≤ cap) (sym next) tr.within;
    middle = tr.middle;
    back = tr.back;
    on = subst (λ (n : ℕ). ChainOn tr.middle n e.history.redo) (sym next) tr.on;
  }

  -- ---- through the history

  pub tracked_undone : (e : Editing) → Tracked e → Tracked (undone e)
  unfolding undone_state undone_history at_view
  tracked_undone e tr = by_entries e.history.undo tr.undo tr.past tr.back
    where
      by_entries : (es : List Entry) → Each (IsKnown start e.state.next) es → LedFrom e.history.dropped page es e.state.trees → ChainBack start tr.middle es
          → Tracked (record { state = undone_state_by es e.state; history = undone_history_by es e.history; going = going_past es e.going })
      by_entries [] known past back = tr
      by_entries (x ∷ xs) known past back = record {
        valid = valid_at_view x.before e.state known.0.before tr.valid.started;
        alone = known.0.alone_before;
        low = tr.low;
        capped = tr.capped;
        depth = tr.depth;
        joinable = λ on. absurd (true≢false (sym on));
        undo = known.1;
        redo = (known.0, tr.redo);
        past = past.1;
        future = (refl, subst (λ (f : Forest Content). LeadOn e.history.redo f) (sym past.0) tr.future);
        within = tr.within;
        middle = back.0;
        back = back.2;
        on = (tr.middle, back.1, tr.on);
      }

  pub tracked_redone : (e : Editing) → Tracked e → Tracked (redone e)
  unfolding redone_state redone_history at_view
  tracked_redone e tr = by_entries e.history.redo tr.redo tr.future tr.on
    where
      by_entries : (es : List Entry) → Each (IsKnown start e.state.next) es → LeadOn es e.state.trees → ChainOn tr.middle e.state.next es
          → Tracked (record { state = redone_state_by es e.state; history = redone_history_by es e.history; going = going_past es e.going })
      by_entries [] known future on = tr
      by_entries (x ∷ xs) known future on = record {
        valid = valid_at_view x.after e.state known.0.after tr.valid.started;
        alone = known.0.alone_after;
        low = tr.low;
        capped = tr.capped;
        depth = tr.depth;
        joinable = λ on. absurd (true≢false (sym on));
        undo = (known.0, tr.undo);
        redo = known.1;
        past = (refl, subst (λ (f : Forest Content). LedFrom e.history.dropped page e.history.undo f) (sym future.0) tr.past);
        future = future.1;
        within = tr.within;
        middle = on.0;
        back = (tr.middle, on.1, tr.back);
        on = on.2;
      }

  -- ---- a command

  module _ (e : Editing) (joining : Bool) (c : Command) (t : State) (joins : joining ≡ true → goes_on e.going ≡ true) (tr : IsTracked page start cap e) (l : Leaves e.state t)
      (same : length t.edits ≡ 0 → document_of t.trees ≡ document_of e.state.trees) (within : t.next ≤ cap) where
    abbrev s : State
    s = e.state

    abbrev h : History
    h = e.history

    -- the same of a history that the run may leave
    record Records (k : History) : Type 0 where
      undo : Each (IsKnown start t.next) k.undo
      redo : Each (IsKnown start t.next) k.redo
      past : LedFrom k.dropped page k.undo (document_of t.trees)
      future : LeadOn k.redo (document_of t.trees)
      depth : 0 < k.depth
      middle : ℕ
      back : ChainBack start middle k.undo
      on : ChainOn middle t.next k.redo

    later : (xs : List Entry) → Each (IsKnown start s.next) xs → Each (IsKnown start t.next) xs
    later xs known = each_of (IsKnown start s.next) (IsKnown start t.next) xs (known_later start s.next t.next l.next) known

    -- without an edit
    as_before : length t.edits ≡ 0 → Records h
    as_before none =
        let doc : document_of t.trees ≡ s.trees = same none ∙ tr.alone in
        record {
          undo = later h.undo tr.undo;
          redo = later h.redo tr.redo;
          past = subst (λ (f : Forest Content). LedFrom h.dropped page h.undo f) (sym doc) tr.past;
          future = subst (λ (f : Forest Content). LeadOn h.redo f) (sym doc) tr.future;
          depth = tr.depth;
          middle = tr.middle;
          back = tr.back;
          on = on_higher tr.middle s.next t.next h.redo l.next tr.on;
        }

    -- with an entry of its own
    with_own : Records (with_entry (entry_of s t) h)
    unfolding with_entry view_of
    with_own =
        let own = entry_known start s t tr.valid tr.alone tr.low l in
        record {
          undo = each_take (IsKnown start t.next) h.depth (entry_of s t ∷ h.undo) (own, later h.undo tr.undo);
          redo = tt;
          past = by_drop (h.dropped || nat_le h.depth (length h.undo)) refl
              (refl, subst (λ (f : Forest Content). LedFrom h.dropped page h.undo f) (sym tr.alone) tr.past);
          future = tt;
          depth = tr.depth;
          middle = t.next;
          back = back_cut start t.next h.depth (entry_of s t ∷ h.undo) (s.next, own_link s t tr.valid tr.alone l.lead, back_higher start tr.middle s.next h.undo (on_low tr.middle s.next h.redo tr.on) tr.back);
          on = omega arith;
        }
      where
        by_drop : (b : Bool) → (h.dropped || nat_le h.depth (length h.undo)) ≡ b → LedFrom h.dropped page (entry_of s t ∷ h.undo) (document_of t.trees) → LedFrom b page (take h.depth (entry_of s t ∷ h.undo)) (document_of t.trees)
        by_drop true e led = led_cut h.dropped page h.depth (entry_of s t ∷ h.undo) (document_of t.trees) led
        by_drop false e led =
            let off = neither h.dropped (nat_le h.depth (length h.undo)) e in
            let room : suc (length h.undo) ≤ h.depth = grind (arith, nat_tests, off.1) in
            let fits : take h.depth (entry_of s t ∷ h.undo) ≡ entry_of s t ∷ h.undo = take_all h.depth (entry_of s t ∷ h.undo) (omega (arith, room)) in
            let all : LedFrom false page (entry_of s t ∷ h.undo) (document_of t.trees) = subst (λ (b : Bool). LedFrom b page (entry_of s t ∷ h.undo) (document_of t.trees)) off.0 led in
            subst (λ (w : List Entry). LedFrom false page w (document_of t.trees)) (sym fits) all

    -- with the last entry longer
    with_last : IsJoinable h → Records (joined t h)
    unfolding joined view_of
    with_last j = by_entries h.undo j.some tr.undo tr.past (back_higher start tr.middle s.next h.undo (on_low tr.middle s.next h.redo tr.on) tr.back)
      where
        ahead : h.redo ≡ [] → (f : Forest Content) → LeadOn h.redo f
        ahead none f = subst (λ (w : List Entry). LeadOn w f) (sym none) tt

        last_on : h.redo ≡ [] → ChainOn t.next t.next h.redo
        last_on none = subst (λ (w : List Entry). ChainOn t.next t.next w) (sym none) (omega arith)

        by_entries : (es : List Entry) → 0 < length es → Each (IsKnown start s.next) es → LedFrom h.dropped page es s.trees → ChainBack start s.next es → Records (record h { undo = joined_in t es })
        by_entries [] some known past back = absurd (omega (arith, some))
        by_entries (x ∷ xs) some known past back = record {
          undo = (longer_known start s t tr.valid tr.alone tr.low l x known.0 past.0, later xs known.1);
          redo = later h.redo tr.redo;
          past = (refl, past.1);
          future = ahead j.last (document_of t.trees);
          depth = tr.depth;
          middle = t.next;
          back = (back.0, longer_link s t tr.valid tr.alone l.lead back.0 x (plain_forest x.before.document s.next known.0.before.forest) past.0 back.1, back.2);
          on = last_on j.last;
        }

    kept : Records (recorded joining s t h)
    unfolding recorded with_entry joined
    kept = by_edits (eqb (length t.edits) 0) joining refl joins
      where
        by_edits : (b j : Bool) → eqb (length t.edits) 0 ≡ b → (j ≡ true → goes_on e.going ≡ true) → Records (cond b h (cond j (joined t h) (with_entry (entry_of s t) h)))
        by_edits true j none on = as_before (let z : length t.edits ≡ 0 = grind (arith, nat_tests, none) in z)
        by_edits false true some on = with_last (tr.joinable (on refl))
        by_edits false false some on = with_own

    pub tracked_run : Tracked (after_run e joining c t)
    unfolding rested
    tracked_run =
        let r = kept in
        record {
          valid = valid_rested t l.valid;
          alone = document_again t.trees t.next l.valid.forest;
          low = (let low = tr.low in let up = l.next in omega (arith, low, up));
          capped = l.cap ∙ tr.capped;
          depth = r.depth;
          joinable = recorded_joinable h s t tr.depth e.going joining c tr.joinable joins;
          undo = r.undo;
          redo = r.redo;
          past = r.past;
          future = r.future;
          within = within;
          middle = r.middle;
          back = r.back;
          on = r.on;
        }
