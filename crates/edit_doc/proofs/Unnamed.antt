-- What no edit of the running command names, nor one of the entries before it, is alone in a loose tree.
use Rattle.std.proofs.Common.{◌≡◌, ℕ, zero, suc, ◌<◌, ◌≤◌, Bool, true, false, true≢false, List, [], ◌∷◌, length, take, Option, None, refl, sym, ap, subst, ◌∙◌, inl, inr, arith}
use Rattle.std.specs.Prelude.{◌==◌, not, nat_le}
use Rattle.std.specs.Option.{option_and_then}
use Rattle.std.proofs.lemmas.Bool.Decides.{eqb_tells, nat_tests}
use Rattle.edit_model.specs.DomModel.declared.Content.{Content}
use Rattle.edit_model.specs.DomModel.Forest.{Forest, Seen, count_of, parent_of}
use Rattle.edit_model.specs.DomModel.Pruned.{pruned, IsWhole}
use Rattle.edit_model.proofs.DomModel.Pruning.{count_of-pruned, whole_stays}
use Rattle.edit_model.proofs.DomModel.Stands.{true_or_false, seek_absent}
use Rattle.step_edits.specs.UndoLog.Turning.{inverses_back, TurnsBack}
use Rattle.step_edits.specs.UndoLog.Log.{Log, noted, is_resumed, joined, committed}
use Rattle.step_edits.specs.ForestChanges.Change.{Change, Fits, applied, inverse}
use Rattle.step_edits.specs.ForestChanges.Named.{Each, named_in}
use Rattle.step_edits.specs.ForestChanges.Down.{Prunes, IsLeft, GoBackDown, GoForthDown}
use Rattle.step_edits.proofs.ForestChanges.ChangeLists.{each_of, back_down, forth_down}
use Rattle.step_edits.proofs.ForestChanges.DownChange.{prunes_whole}
use Rattle.step_edits.proofs.ForestChanges.Twice.{forest_of, back_turns}
use Rattle.step_edits.specs.EditSteps.declared.step.Step.{Step}
use Rattle.step_edits.specs.EditSteps.Step.{changes_of}
use Rattle.edit_doc.specs.declared.Doc.TheInside.{Inside}
use Rattle.edit_doc.specs.declared.command.EntrySnapshot.{EntrySnapshot}
use Rattle.edit_doc.specs.declared.command.Command.{Command}
use Rattle.edit_doc.specs.GivingUp.{is_unnamed}
use Rattle.edit_doc.specs.Marks.{has_named, IsMarked}
use Rattle.edit_doc.specs.History.{forest_before, is_hidden}
use Rattle.edit_doc.specs.Sound.{AreFresh, RedoSound, UndoSound, next_first}
use Rattle.edit_doc.proofs.Downs.{EntriesLeft, back_labels}
use Rattle.edit_doc.proofs.Found.{root_is_top}
use Rattle.edit_doc.proofs.HiddenTrees.{is_hidden_from, and_true, true_le, le_true, false_le, top_loose}
use Rattle.edit_doc.proofs.Inner.{Opened}
use Rattle.edit_doc.proofs.Joins.{each_named, committed_joined}
use Rattle.edit_doc.proofs.Laid.{next_first_low}
use Rattle.edit_doc.proofs.Off.{pruned_root}
use Rattle.edit_doc.proofs.Records.{committed_made}
use Rattle.edit_doc.proofs.Rolls.{run, g, xs, forest_g, below_g, whole_those}
use Rattle.edit_doc.proofs.Turnings.{prunes_after}

-- the entries that are kept after a commit
entries_take : (k : ℕ → Bool) (f : Forest Content) (n : ℕ) (es : List (List Step)) → EntriesLeft k f es → EntriesLeft k f (take n es)
entries_take k f zero es h = tt
entries_take k f (suc n) [] h = tt
entries_take k f (suc n) (e ∷ es) h = (h.0, entries_take k f n es h.1)

entries_joined : (k : ℕ → Bool) (f : Forest Content) (es : List (List Step)) (ys : List Step) → EntriesLeft k f es → Each (IsLeft k f) (named_in (changes_of ys)) → EntriesLeft k f (joined es ys)
entries_joined k f [] ys h t = tt
entries_joined k f (e ∷ es) ys h t = (each_named (IsLeft k f) e ys h.0 t, h.1)

marked_named : (c : Command) (m : ℕ) → c.start ≤ m → IsMarked c m → has_named c m ≡ true
marked_named c m from marked = (let t = le_true c.start m from in let n = marked from in rw (t, n) refl)

module _ (d : Inside) (during : Opened d) where
  abbrev f : Forest Content
  f = d.tree.nodes.arena.trees

  abbrev begun : Forest Content
  begun = g d during

  abbrev steps : List Step
  steps = xs d during

  abbrev turns : List Change
  turns = inverses_back applied inverse (changes_of steps) f

  abbrev hides : ℕ → Bool
  hides = is_hidden begun d.command.start

  abbrev pub low : ℕ
  low = next_first d.command.start d.history.future

  abbrev pub unnamed : ℕ → Bool
  unnamed = is_unnamed low d.command

  low_le : low ≤ d.command.start
  low_le = next_first_low d.tree.nodes.arena.held d.tree.points.names d.command begun d.history.log.redo d.history.future during.ok.redo

  pub some_low : 0 < low
  some_low = by_case d.history.log.redo d.history.future during.ok.redo
    where
      by_case : (es : List (List Step)) (bs : List EntrySnapshot) → RedoSound d.tree.nodes.arena.held d.tree.points.names d.command begun es bs → 0 < next_first d.command.start bs
      by_case es [] h = during.ok.some_label
      by_case [] (b ∷ bs) h = absurd h
      by_case (e ∷ es) (b ∷ bs) h = h.1.0.some_label

  -- each node with a label that redo, or the command, drew was alone as the command began
  fresh : AreFresh begun low
  fresh = by_case d.history.log.redo d.history.future during.ok.redo
    where
      by_case : (es : List (List Step)) (bs : List EntrySnapshot) → RedoSound d.tree.nodes.arena.held d.tree.points.names d.command begun es bs → AreFresh begun (next_first d.command.start bs)
      by_case es [] h = (let r = run d during in record {
        loose = λ l from here. r.made.loose l from (below_g d during l here) here;
        leaf = λ l from here. r.made.leaf l from (below_g d during l here) here;
      })
      by_case [] (b ∷ bs) h = absurd h
      by_case (e ∷ es) (b ∷ bs) h = h.1.0.fresh

  same_labels : (l : ℕ) → count_of begun l ≡ count_of f l
  same_labels l = back_labels (changes_of steps) f l (run d during).can.0

  from_low : (l : ℕ) → unnamed l ≡ true → low ≤ l
  from_low l e = true_le low l (and_true (nat_le low l) (not (has_named d.command l)) e).0

  not_named : (l : ℕ) → unnamed l ≡ true → has_named d.command l ≡ true → ⊥
  not_named l e named = (let t = (and_true (nat_le low l) (not (has_named d.command l)) e).1 in absurd (let t' : not true ≡ true = subst (λ b. not b ≡ true) named t in cc))

  prunes_hidden : Prunes hides f
  prunes_hidden = prunes_after begun f d.command.start (forest_of d.tree.nodes.arena during.law) during.ok.hidden

  -- what the command sees and marks is kept
  kept : (m : ℕ) → IsLeft hides f m → IsMarked d.command m → unnamed m ≡ false
  kept m detached marked = elim (true_or_false (unnamed m)) [
    | inr t ↦ t
    | inl t ↦ absurd (elim (true_or_false (nat_le d.command.start m)) [
      | inl from ↦ not_named m t (marked_named d.command m (true_le d.command.start m from) marked)
      | inr old ↦ (
          let here : 0 < count_of begun m = (let le = count_of-pruned hides f m in let s = same_labels m in omega (arith, le, s, detached)) in
          let loose = fresh.loose m (from_low m t) here in
          let top = root_is_top begun m (forest_g d during).distinct here loose in
          let inner : 0 < m = (let some = some_low in let le = from_low m t in omega (arith, some, le)) in
          let hid = is_hidden_from begun d.command.start m (record { inner = inner; old = false_le d.command.start m old; root = top }) in
          true≢false (sym hid ∙ prunes_hidden.out m detached))
    ])
  ]

  abbrev IsKept : ℕ → Type 0
  IsKept m = (unnamed m ≡ false) × (0 < count_of begun m)

  each_kept : (ls : List ℕ) → Each (IsLeft hides f) ls → Each (IsMarked d.command) ls → Each IsKept ls
  each_kept [] a b = tt
  each_kept (m ∷ ms) a b = ((kept m a.0 b.0, (let le = count_of-pruned hides f m in let s = same_labels m in let detached = a.0 in omega (arith, le, s, detached))), each_kept ms a.1 b.1)

  down : GoBackDown hides (changes_of steps) f
  down = (let r = run d during in back_down hides (changes_of steps) f prunes_hidden r.can.0 r.names_there)

  turns_kept : Each IsKept (named_in turns)
  turns_kept = each_kept (named_in turns) down.names (run d during).marked_inverse

  steps_kept : Each IsKept (named_in (changes_of steps))
  steps_kept = (let r = run d during in each_kept (named_in (changes_of steps)) r.names_there r.marked)

  -- labels that aren't kept can be pruned, before the command and after it
  module _ (k : ℕ → Bool) (some : (l : ℕ) → k l ≡ true → unnamed l ≡ true) where
    keeps_document : k 0 ≡ false
    keeps_document = elim (true_or_false (k 0)) [
      | inl t ↦ absurd (let le = from_low 0 (some 0 t) in let s = some_low in omega (arith, le, s))
      | inr t ↦ t
    ]

    whole : IsWhole k begun
    whole = whole_those k begun (forest_g d during).distinct (λ l t here. (fresh.loose l (from_low l (some l t)) here, fresh.leaf l (from_low l (some l t)) here))

    detached_before : (m : ℕ) → IsKept m → IsLeft k begun m
    detached_before m h =
        let out : k m ≡ false = elim (true_or_false (k m)) [ inl t ↦ absurd (true≢false (sym (some m t) ∙ h.0)) | inr t ↦ t ] in
        let s = whole_stays k begun (forest_g d during).distinct whole m out in
        let here = h.1 in
        omega (arith, s, here)

    back : TurnsBack applied inverse Fits (changes_of steps) f
    back = back_turns (changes_of steps) f (run d during).can.0

    again : GoForthDown k turns begun
    again = forth_down k turns begun (prunes_whole k begun (forest_g d during) keeps_document whole) back.fit (each_of IsKept (IsLeft k begun) (named_in turns) detached_before turns_kept)

    pub prunes_now : Prunes k f
    prunes_now = subst (Prunes k) back.state again.prunes

    stays_now : (l : ℕ) → count_of (pruned k f) l ≡ count_of (pruned k begun) l
    stays_now l = subst (λ t. count_of (pruned k t) l ≡ count_of (pruned k begun) l) back.state (again.stays l)

    detached_now : (m : ℕ) → IsKept m → IsLeft k f m
    detached_now m h = (let t = detached_before m h in let s = stays_now m in omega (arith, t, s))

  -- they are roots
  pub unnamed_loose : (l : ℕ) → unnamed l ≡ true → parent_of f l ≡ None
  unnamed_loose l e = by_count (count_of f l) refl
    where
      by_count : (n : ℕ) → count_of f l ≡ n → parent_of f l ≡ None
      by_count zero none = ap (λ (o : Option (Seen Content)). option_and_then (λ s. s.parent) o) (seek_absent None f l none)
      by_count (suc n) here =
          let own : (m : ℕ) → (m == l) ≡ true → unnamed m ≡ true = λ m t. elim (eqb_tells m l) [ inl (_, is) ↦ ap unnamed is ∙ e | inr (u, _) ↦ absurd (true≢false (sym t ∙ u)) ] in
          let out : 0 < count_of (pruned (λ m. m == l) f) l → ⊥ = λ detached. (let t = (prunes_now (λ m. m == l) own).out l detached in true≢false (sym (same l) ∙ t)) in
          top_loose f l during.law.distinct (pruned_root f l (omega (arith, here)) (none_of (count_of (pruned (λ m. m == l) f) l) out))
        where
          same : (m : ℕ) → (m == m) ≡ true
          same m = grind (arith, nat_tests)

          none_of : (n : ℕ) → (0 < n → ⊥) → n ≡ 0
          none_of zero h = refl
          none_of (suc n) h = absurd (h (omega arith))

  -- ---- the entries name none of them

  entries_below : (r : Bool) (high : ℕ) (h : Forest Content) (es : List (List Step)) (bs : List EntrySnapshot) → high ≤ low → ((l : ℕ) → count_of h l ≡ count_of begun l) → UndoSound d.tree.nodes.arena.held d.tree.points.names r d.command high h es bs → EntriesLeft unnamed f es
  entries_below r high h [] bs le same s = tt
  entries_below r high h (e ∷ es) [] le same s = absurd s
  entries_below r high h (e ∷ es) (b ∷ bs) le same s = (
    old_detached (named_in (changes_of e)) s.1.0.names_there s.1.0.names_old,
    entries_below false b.span.first_label (forest_before e h) es bs (let t = s.1.0.drawn in omega (arith, t, le)) (λ l. back_labels (changes_of e) h l s.0.0 ∙ same l) s.1.1,
  )
    where
      old_detached : (ls : List ℕ) → Each (IsLeft (is_hidden (forest_before e h) b.span.first_label) h) ls → Each (λ l. l < high) ls → Each (IsLeft unnamed f) ls
      old_detached [] a c = tt
      old_detached (m ∷ ms) a c = (
        detached_now unnamed (λ l t. t) m (older m (let lt = c.0 in omega (arith, lt, le)), (let s' = same m in let detached = a.0 in let some = count_of-pruned (is_hidden (forest_before e h) b.span.first_label) h m in omega (arith, s', detached, some))),
        old_detached ms a.1 c.1,
      )
        where
          older : (l : ℕ) → l < low → unnamed l ≡ false
          older l lt = elim (true_or_false (unnamed l)) [ inl t ↦ absurd (let from = from_low l t in omega (arith, lt, from)) | inr t ↦ t ]

  pub kept_detached : 0 < length (noted d.history.log.open_entry) → EntriesLeft unnamed f (committed d.history.log).undo
  kept_detached some =
      let older : EntriesLeft unnamed f d.history.log.undo = entries_below d.command.resumed low begun d.history.log.undo d.history.past (omega arith) (λ l. refl) during.ok.undo in
      let own : Each (IsLeft unnamed f) (named_in (changes_of steps)) = each_of IsKept (IsLeft unnamed f) (named_in (changes_of steps)) (detached_now unnamed (λ l t. t)) steps_kept in
      elim (true_or_false (is_resumed d.history.log.open_entry)) [
        | inl r ↦ subst (λ (l : Log Step). EntriesLeft unnamed f l.undo) (sym (committed_joined d.history.log d.history.log.open_entry r)) (entries_joined unnamed f d.history.log.undo steps older own)
        | inr r ↦ subst (λ (l : Log Step). EntriesLeft unnamed f l.undo) (sym (committed_made d.history.log d.history.log.open_entry during.opened r some)) (entries_take unnamed f d.history.log.depth (steps ∷ d.history.log.undo) (own, older))
      ]
