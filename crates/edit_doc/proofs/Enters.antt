-- A command that made edits leaves an entry.
use Rattle.std.proofs.Common.{◌≡◌, ℕ, zero, suc, ◌<◌, false, Option, List, [], ◌∷◌, take, refl, sym, ap, subst, arith, inl, inr}
use Rattle.edit_model.specs.DomModel.declared.Content.{Content}
use Rattle.edit_model.specs.DomModel.Forest.{Forest}
use Rattle.edit_model.proofs.DomModel.Pruning.{count_of-pruned}
use Rattle.step_edits.specs.UndoLog.Turning.{inverses_back}
use Rattle.step_edits.specs.ForestChanges.Change.{applied, inverse}
use Rattle.step_edits.specs.ForestChanges.Named.{Each, named_in}
use Rattle.step_edits.specs.ForestChanges.Down.{IsLeft, GoBackDown}
use Rattle.step_edits.proofs.ForestChanges.ChangeLists.{each_of, back_down}
use Rattle.step_edits.proofs.ForestChanges.Twice.{forest_of}
use Rattle.step_edits.specs.EditSteps.declared.step.Step.{Step}
use Rattle.step_edits.specs.EditSteps.Step.{changes_of}
use Rattle.edit_model.specs.NodeArena.declared.NodeRef.{NodeRef}
use Rattle.edit_doc.specs.declared.Doc.TheInside.{Inside}
use Rattle.edit_doc.specs.declared.command.EntrySnapshot.{EntrySnapshot}
use Rattle.edit_doc.specs.declared.command.Command.{Command}
use Rattle.edit_doc.specs.Fields.{made_span}
use Rattle.edit_doc.specs.GivingUp.{loose_roots}
use Rattle.edit_model.specs.History.{used}
use Rattle.edit_doc.specs.History.{edits_before, roots_from, forest_before, is_hidden, view_at, undo_entries}
use Rattle.edit_doc.specs.Sound.{IsSnapshot, UndoSound}
use Rattle.edit_doc.proofs.GivingUp.{filtered_loose, loose_is, listed_loose, listed_after}
use Rattle.edit_doc.proofs.HiddenTrees.{tops_stay}
use Rattle.edit_doc.proofs.Off.{each_off}
use Rattle.edit_model.proofs.DomModel.Stands.{true_or_false}
use Rattle.edit_doc.proofs.Inner.{Ending}
use Rattle.edit_doc.proofs.Turnings.{prunes_after}
use Rattle.edit_doc.proofs.Rolls.{run, g, xs, below_g, snapshot_of}
use Rattle.edit_doc.proofs.Commits.{placed_now}

-- the oldest entries go
pub undo-take : (held : List (Option ℕ)) (names : List (List ℕ)) (c : Command) (n high : ℕ) (f : Forest Content) (es : List (List Step)) (bs : List EntrySnapshot) → UndoSound held names false c high f es bs → UndoSound held names false c high f (take n es) (take n bs)
undo-take held names c zero high f es bs h = tt
undo-take held names c (suc n) high f [] [] h = tt
undo-take held names c (suc n) high f [] (b ∷ bs) h = absurd h
undo-take held names c (suc n) high f (e ∷ es) [] h = absurd h
undo-take held names c (suc n) high f (e ∷ es) (b ∷ bs) h = (h.0, (h.1.0, undo-take held names c n b.span.first_label (forest_before e f) es bs h.1.1))

pub undo_entries-take : (names : List (List ℕ)) (n : ℕ) (f : Forest Content) (es : List (List Step)) (bs : List EntrySnapshot) → undo_entries names f (take n es) (take n bs) ≡ take n (undo_entries names f es bs)
undo_entries-take names zero f es bs = refl
undo_entries-take names (suc n) f [] bs = refl
undo_entries-take names (suc n) f (e ∷ es) [] = refl
undo_entries-take names (suc n) f (e ∷ es) (b ∷ bs) = ap (λ r. record { before = view_at names (forest_before e f) b.span.before; after = view_at names f b.span.after; edits = edits_before e f; made = used (edits_before e f) (roots_from b.span.first_label (forest_before e f)) } ∷ r) (undo_entries-take names n (forest_before e f) es bs)

module _ (d : Inside) (ending : Ending d) where
  abbrev steps : List Step
  steps = xs d ending.during

  abbrev before : Forest Content
  before = g d ending.during

  below_next : (ls : List ℕ) → Each (IsLeft (is_hidden before d.command.start) d.tree.nodes.arena.trees) ls → Each (λ l. l < d.tree.nodes.arena.next) ls
  below_next ls h = each_of (IsLeft (is_hidden before d.command.start) d.tree.nodes.arena.trees) (λ l. l < d.tree.nodes.arena.next) ls (λ l t. ending.during.law.below l (let le = count_of-pruned (is_hidden before d.command.start) d.tree.nodes.arena.trees l in omega (arith, le, t))) h

  -- an entry that the command began
  pub made_snapshot : (b : EntrySnapshot) (detached : List NodeRef) → detached ≡ loose_roots d.tree.nodes.arena.trees d.command.detached.items → b.span ≡ made_span d.command ending.places d.tree.nodes.counts →
      IsSnapshot d.tree.points.names before d.tree.nodes.arena.trees steps (inverses_back applied inverse (changes_of steps) d.tree.nodes.arena.trees) b detached d.tree.nodes.arena.next d.tree.nodes.arena.next
  made_snapshot b detached none same =
      let f = d.tree.nodes.arena.trees in
      let r = run d ending.during in
      let k = is_hidden before d.command.start in
      let ts = inverses_back applied inverse (changes_of steps) f in
      let gd : GoBackDown k (changes_of steps) f = back_down k (changes_of steps) f (prunes_after before f d.command.start (forest_of d.tree.nodes.arena ending.during.law) ending.during.ok.hidden) r.can.0 r.names_there in
      let b1 : EntrySnapshot = record b { span = made_span d.command ending.places d.tree.nodes.counts } in
      let roots = loose_roots f d.command.detached.items in
      let own : IsSnapshot d.tree.points.names before f steps ts b1 roots d.tree.nodes.arena.next d.tree.nodes.arena.next = record {
        was = r.kept;
        is = record {
          over = ending.resting.over;
          placed = placed_now d ending;
          resting = ending.resting.resting;
          nodes_are = d.tree.nodes.counted.nodes;
          chars_are = d.tree.nodes.counted.chars;
          no_deeper = d.tree.nodes.counted.depth;
        };
        some_label = ending.during.ok.some_label;
        fresh = record {
          loose = λ l from there. r.made.loose l from (below_g d ending.during l there) there;
          leaf = λ l from there. r.made.leaf l from (below_g d ending.during l there) there;
        };
        drawn = ending.during.ok.valid.started;
        known = omega arith;
        hidden = ending.during.ok.hidden;
        names_seen = each_of (IsLeft k f) (IsLeft k before) (named_in (changes_of steps)) (λ l t. (let s = gd.stays l in omega arith)) r.names_there;
        names_there = r.names_there;
        names_old = below_next (named_in (changes_of steps)) r.names_there;
        turns_old = below_next (named_in ts) gd.names;
        detached_loose = filtered_loose f d.tree.nodes.arena.next ending.during.law.distinct ending.during.law.below d.command.detached.items;
        detached_all = λ l inner top out. elim (true_or_false (k l)) [
          | inl t ↦ absurd (out (each_off k f l ending.during.law.distinct top t (named_in (changes_of steps)) r.names_there) (each_off k f l ending.during.law.distinct top t (named_in ts) gd.names))
          | inr t ↦ (let seen = r.newly_detached l inner (subst (λ n. 0 < n) (sym (tops_stay k f l t)) top) in listed_loose f d.command.detached.items l (loose_is f l inner top) (listed_after d.command.detached_before d.command.detached.items l seen))
        ];
      } in
      subst (λ ls. IsSnapshot d.tree.points.names before f steps ts b ls d.tree.nodes.arena.next d.tree.nodes.arena.next) (sym none) (snapshot_of d.tree.points.names before f steps ts b1 b roots d.tree.nodes.arena.next d.tree.nodes.arena.next (sym same) own)
