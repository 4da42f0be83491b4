-- The trees that the oldest entry detached, when it goes out: no kept entry saw them.
use Rattle.std.proofs.Common.{◌≡◌, ℕ, zero, suc, ◌+◌, ◌<◌, ◌≤◌, Bool, true, false, true≢false, cond, eqb, List, [], ◌∷◌, take, Option, None, refl, sym, ap, subst, ◌∙◌, inl, inr, arith}
use Rattle.std.specs.Prelude.{◌||◌, slice_get}
use Rattle.std.specs.Option.{option_and_then}
use Rattle.std.proofs.lemmas.Bool.Decides.{nat_tests}
use Rattle.edit_model.specs.DomModel.declared.Content.{Content}
use Rattle.edit_model.specs.DomModel.Forest.{Forest, Seen, tops, times, count_of, parent_of, IsDistinct}
use Rattle.edit_model.specs.DomModel.Forest.Forest.{Nil, Tree}
use Rattle.edit_model.specs.DomModel.Pruned.{pruned}
use Rattle.edit_model.specs.DomModel.ArenaState.{ArenaState as Arena}
use Rattle.edit_model.proofs.DomModel.Pruning.{count_of-pruned}
use Rattle.edit_model.proofs.DomModel.Stands.{true_or_false, seek_absent, times-tops}
use Rattle.step_edits.specs.UndoLog.Log.{Log, is_resumed, committed}
use Rattle.step_edits.specs.ForestChanges.Change.{IsForest}
use Rattle.step_edits.specs.ForestChanges.Named.{Each, named_in}
use Rattle.step_edits.specs.ForestChanges.Down.{Prunes, IsLeft, GoBackDown}
use Rattle.step_edits.proofs.ForestChanges.ChangeLists.{each_of, back_down}
use Rattle.step_edits.proofs.ForestChanges.DownChange.{prunes_roots}
use Rattle.step_edits.proofs.ForestChanges.Twice.{forest_of}
use Rattle.step_edits.specs.EditSteps.declared.step.Step.{Step}
use Rattle.step_edits.specs.EditSteps.Step.{changes_of}
use Rattle.edit_model.specs.Gives.{labels_of}
use Rattle.edit_doc.specs.declared.Doc.TheInside.{Inside}
use Rattle.edit_doc.specs.declared.command.EntrySnapshot.{EntrySnapshot}
use Rattle.edit_doc.specs.declared.command.EntrySpan.{EntrySpan}
use Rattle.edit_doc.specs.declared.command.Command.{Command}
use Rattle.edit_model.specs.NodeArena.declared.NodeRef.{NodeRef}
use Rattle.edit_doc.specs.Fields.{EntersIn, made_span}
use Rattle.edit_doc.specs.GivingUp.{GivesUp, loose_roots, has_detached}
use Rattle.edit_doc.specs.History.{forest_before, is_hidden}
use Rattle.edit_doc.specs.Sound.{UndoSound}
use Rattle.edit_doc.proofs.Downs.{EntriesLeft, each_both, entries_moved, back_forest, back_labels}
use Rattle.edit_doc.proofs.Found.{root_is_top}
use Rattle.edit_doc.proofs.GivingUp.{pruned-pruned, gives_join}
use Rattle.edit_doc.proofs.HiddenTrees.{is_hidden_from, pruned-none, both_detached, top_loose, loose_detached}
use Rattle.edit_doc.proofs.Inner.{Entering}
use Rattle.edit_doc.proofs.NewlyDetached.{listed_has, or_true}
use Rattle.edit_doc.proofs.Records.{committed_made, with_first, entering}
use Rattle.edit_doc.proofs.Rolls.{xs}
use Rattle.edit_doc.proofs.Unnamed.{unnamed, prunes_now, unnamed_loose, kept_detached}

-- what stays when fewer of the roots go
pruned_fewer : {C : Type 0} (k j : ℕ → Bool) (f : Forest C) (l : ℕ) → ((m : ℕ) → 0 < times (tops f) m → j m ≡ true → k m ≡ true) → count_of (pruned k f) l ≤ count_of (pruned j f) l
pruned_fewer k j Nil l less = omega arith
pruned_fewer k j (Tree m c ks rest) l less =
    let ih = pruned_fewer k j rest l (λ n top. less n (omega (arith, top))) in
    elim (true_or_false (j m)) [
      | inl e ↦ (let t = less m (own m (times (tops rest) m)) e in rw (e, t) ih)
      | inr e ↦ elim (true_or_false (k m)) [
        | inl t ↦ rw (e, t) (omega (arith, ih))
        | inr t ↦ rw (e, t) (omega (arith, ih))
      ]
    ]
  where
    own : (m n : ℕ) → 0 < cond (eqb m m) 1 0 + n
    own m n = grind (arith, nat_tests)

entries_both : (k j : ℕ → Bool) (f : Forest Content) (es : List (List Step)) → IsDistinct f → EntriesLeft k f es → EntriesLeft j f es → EntriesLeft (λ l. k l || j l) f es
entries_both k j f [] once a b = tt
entries_both k j f (e ∷ es) once a b = (
  each_both (IsLeft k f) (IsLeft j f) (IsLeft (λ l. k l || j l) f) (named_in (changes_of e)) (λ l s t. subst (λ g. 0 < count_of g l) (pruned-pruned k j f) (both_detached k j f l once s t)) a.0 b.0,
  entries_both k j f es once a.1 b.1,
)

entries_none : (k : ℕ → Bool) (f : Forest Content) (es : List (List Step)) → EntriesLeft k f es → EntriesLeft (λ _. false) f es
entries_none k f [] h = tt
entries_none k f (e ∷ es) h = (
  each_of (IsLeft k f) (IsLeft (λ _. false) f) (named_in (changes_of e)) (λ l t. subst (λ g. 0 < count_of g l) (sym (pruned-none f)) (omega (arith, t, count_of-pruned k f l))) h.0,
  entries_none k f es h.1,
)

absent_loose : (f : Forest Content) (l : ℕ) → count_of f l ≡ 0 → parent_of f l ≡ None
absent_loose f l none = ap (λ (o : Option (Seen Content)). option_and_then (λ s. s.parent) o) (seek_absent None f l none)

-- what the entry at a place detached is loose now, and the entries before that place name none of it
record Outgone (n high : ℕ) (f : Forest Content) (es : List (List Step)) (bs : List EntrySnapshot) : Type 0 where
  loose : (l : ℕ) → has_detached (slice_get bs n) l ≡ true → (0 < l) × ((l < high) × (parent_of f l ≡ None))
  detached : EntriesLeft (has_detached (slice_get bs n)) f (take n es)

module _ (held : List (Option ℕ)) (names : List (List ℕ)) (c : Command) where
  outgone : (n high : ℕ) (f : Forest Content) (es : List (List Step)) (bs : List EntrySnapshot) → IsForest f → UndoSound held names false c high f es bs → Outgone n high f es bs
  outgone zero high f [] [] is s = record { loose = λ l e. absurd (cc); detached = tt }
  outgone (suc n) high f [] [] is s = record { loose = λ l e. absurd (cc); detached = tt }
  outgone n high f [] (b ∷ bs) is s = absurd s
  outgone n high f (e ∷ es) [] is s = absurd s
  outgone zero high f (e ∷ es) (b ∷ bs) is s = record {
    loose = λ l t. listed_has (λ l. (0 < l) × ((l < high) × (parent_of f l ≡ None))) (labels_of b.detached.items) l s.1.0.detached_loose t;
    detached = tt;
  }
  outgone (suc n) high f (e ∷ es) (b ∷ bs) is s =
      let k : ℕ → Bool = has_detached (slice_get bs n) in
      let g = forest_before e f in
      let is' = back_forest (changes_of e) f s.0.0 is in
      let ih = outgone n b.span.first_label g es bs is' s.1.1 in
      let same : (l : ℕ) → count_of g l ≡ count_of f l = λ l. back_labels (changes_of e) f l s.0.0 in
      let hid : (l : ℕ) → k l ≡ true → 0 < count_of f l → is_hidden g b.span.first_label l ≡ true = λ l t here. (
      let u = ih.loose l t in
      let s' = same l in
      is_hidden_from g b.span.first_label l (record { inner = u.0; old = u.1.0; root = root_is_top g l is'.distinct (omega (arith, s', here)) u.1.1 })) in
      let roots : (l : ℕ) → k l ≡ true → parent_of f l ≡ None = λ l t. by_count f l (λ here. top_loose f l is.distinct (s.1.0.hidden l (hid l t here))) (count_of f l) refl in
      let zero_out : k 0 ≡ false = elim (true_or_false (k 0)) [ inl t ↦ absurd (let u = (ih.loose 0 t).0 in omega (arith, u)) | inr t ↦ t ] in
      let prunes = prunes_roots k f is zero_out roots in
      let own : Each (IsLeft k f) (named_in (changes_of e)) =
      each_of (IsLeft (is_hidden g b.span.first_label) f) (IsLeft k f) (named_in (changes_of e)) (λ m t. (
      let more = pruned_fewer (is_hidden g b.span.first_label) k f m (λ l top u. hid l u (omega (arith, top, times-tops f l))) in
      omega (arith, more, t))) s.1.0.names_there in
      let down : GoBackDown k (changes_of e) f = back_down k (changes_of e) f prunes s.0.0 own in
      record {
        loose = λ l t. (let u = ih.loose l t in let lt = u.1.0 in let d = s.1.0.drawn in (u.0, (omega (arith, lt, d), roots l t)));
        detached = (own, entries_moved k g f (λ l. sym (down.stays l)) (take n es) ih.detached);
      }
    where
      by_count : (f : Forest Content) (l : ℕ) → (0 < count_of f l → parent_of f l ≡ None) → (i : ℕ) → count_of f l ≡ i → parent_of f l ≡ None
      by_count f l some zero e = absent_loose f l e
      by_count f l some (suc i) e = some (omega (arith, e))

module _ (d : Inside) (enters : Entering d) where
  abbrev f : Forest Content
  f = d.tree.nodes.arena.trees

  record GoesOut (o : Option EntrySnapshot) : Type 0 where
    inner : (l : ℕ) → has_detached o l ≡ true → 0 < l
    loose : (l : ℕ) → has_detached o l ≡ true → parent_of f l ≡ None
    detached : EntriesLeft (has_detached o) f (committed d.history.log).undo

  none_out : GoesOut None
  none_out = record { inner = λ l t. absurd (cc); loose = λ l t. absurd (cc); detached = entries_none (unnamed d enters.ending.during) f (committed d.history.log).undo (kept_detached d enters.ending.during enters.some) }

  joined_out : (s : EntrySpan) (detached : List NodeRef) (room : ℕ) (bs new : List EntrySnapshot) (o : Option EntrySnapshot) → EntersIn true s detached enters.ending.places d.tree.nodes.counts room bs new o → o ≡ None
  joined_out s detached room [] new o h = absurd h
  joined_out s detached room (b ∷ bs) [] o h = absurd h
  joined_out s detached room (b ∷ bs) (b' ∷ bs') o h = h.1.1.1

  goes_out : GoesOut enters.out
  goes_out = elim (true_or_false (is_resumed d.history.log.open_entry)) [
    | inl r ↦ subst GoesOut (sym (joined_out (made_span d.command enters.ending.places d.tree.nodes.counts) (loose_roots f d.command.detached.items) d.history.log.depth d.history.past enters.past enters.out (subst (λ b. EntersIn b (made_span d.command enters.ending.places d.tree.nodes.counts) (loose_roots f d.command.detached.items) enters.ending.places d.tree.nodes.counts d.history.log.depth d.history.past enters.past enters.out) (enters.ending.during.ok.resumed ∙ r) enters.entered))) none_out
    | inr r ↦ (
        let c : Command = record d.command { start = d.tree.nodes.arena.next } in
        let h = entering d enters.ending r c refl enters.past enters.out enters.entered in
        let bs : List EntrySnapshot = h.0 ∷ d.history.past in
        let es : List (List Step) = xs d enters.ending.during ∷ d.history.log.undo in
        let o = outgone d.tree.nodes.arena.held d.tree.points.names c d.history.log.depth d.tree.nodes.arena.next f es bs (forest_of d.tree.nodes.arena enters.ending.during.law) (with_first d enters.ending r c refl enters.past enters.out h.0 h.1 h.2) in
        let own : GoesOut (slice_get bs d.history.log.depth) = record {
          inner = λ l t. (o.loose l t).0;
          loose = λ l t. (o.loose l t).1.1;
          detached = subst (λ (g : Log Step). EntriesLeft (has_detached (slice_get bs d.history.log.depth)) f g.undo) (sym (committed_made d.history.log d.history.log.open_entry enters.ending.during.opened r enters.some)) o.detached;
        } in
        subst GoesOut (sym h.4) own)
  ]

  -- ---- with what is left unnamed

  abbrev pub unkept : ℕ → Bool
  unkept l = unnamed d enters.ending.during l || has_detached enters.out l

  pub detached_inner : (l : ℕ) → has_detached enters.out l ≡ true → 0 < l
  detached_inner = goes_out.inner

  pub detached_still_loose : (a : Arena) → GivesUp (unnamed d enters.ending.during) d.tree.nodes.arena a → (l : ℕ) → has_detached enters.out l ≡ true → parent_of a.trees l ≡ None
  detached_still_loose a gives l t = ap (λ g. parent_of g l) gives.trees ∙ loose_detached (unnamed d enters.ending.during) f l enters.ending.during.law.distinct (goes_out.loose l t)

  pub gives_both : (a b : Arena) → GivesUp (unnamed d enters.ending.during) d.tree.nodes.arena a → GivesUp (has_detached enters.out) a b → GivesUp unkept d.tree.nodes.arena b
  gives_both a b x y = gives_join (unnamed d enters.ending.during) (has_detached enters.out) d.tree.nodes.arena a b x y

  pub prunes_both : Prunes unkept f
  prunes_both = prunes_roots unkept f (forest_of d.tree.nodes.arena enters.ending.during.law) zero_out (λ l t. elim (or_true (unnamed d enters.ending.during l) (has_detached enters.out l) t) [ inl u ↦ unnamed_loose d enters.ending.during l u | inr u ↦ goes_out.loose l u ])
    where
      zero_out : unkept 0 ≡ false
      zero_out = elim (true_or_false (unkept 0)) [
        | inl t ↦ absurd (elim (or_true (unnamed d enters.ending.during 0) (has_detached enters.out 0) t) [
          | inl u ↦ true≢false (sym u ∙ (prunes_now d enters.ending.during (unnamed d enters.ending.during) (λ l t. t)).document)
          | inr u ↦ (let x = goes_out.inner 0 u in omega (arith, x))
        ])
        | inr t ↦ t
      ]

  pub kept_both : (log : Log Step) → log ≡ committed d.history.log → EntriesLeft unkept f log.undo
  kept_both log is = subst (λ (g : Log Step). EntriesLeft unkept f g.undo) (sym is) (entries_both (unnamed d enters.ending.during) (has_detached enters.out) f (committed d.history.log).undo enters.ending.during.law.distinct (kept_detached d enters.ending.during enters.some) goes_out.detached)
