-- A document whose list of the names of marks got longer: what the history shows stays, and so does what holds of it.
use Rattle.std.proofs.Common.{◌≡◌, ℕ, zero, suc, ◌<◌, ◌≤◌, Bool, true, false, if◌then◌else◌, get_or, map, List, [], ◌∷◌, ◌++◌, length, Option, None, refl, sym, ap, subst, ◌∙◌, arith}
use Rattle.std.specs.List.{All, list_any}
use Rattle.std.specs.Str.{bytes_eq}
use Rattle.std.proofs.lemmas.List.Elements.{All-cons}
use Rattle.edit_model.specs.DomModel.declared.Content.{Content}
use Rattle.edit_model.specs.DomModel.Forest.{Forest}
use Rattle.edit_model.specs.DomModel.ArenaState.{ArenaState as Arena}
use Rattle.edit_model.specs.LiveRange.declared.places.Pair.{Pair}
use Rattle.edit_model.specs.LiveRange.declared.places.MarkPlace.{MarkPlace}
use Rattle.edit_model.specs.LiveRange.declared.places.Places.{Places}
use Rattle.edit_model.specs.LiveRange.LivePoints.{LivePoints, with_mark}
use Rattle.edit_model.specs.LiveRange.Names.{named, marks_of, IsOver}
use Rattle.edit_model.proofs.LiveRange.Apart.{All-head, All-tail}
use Rattle.edit_model.specs.NodeArena.declared.NodeRef.{NodeRef}
use Rattle.step_edits.specs.UndoLog.Log.{Open}
use Rattle.step_edits.specs.UndoLog.Log.Open.{Closed, Begun, Resumed}
use Rattle.step_edits.specs.ForestChanges.Change.{Change}
use Rattle.step_edits.specs.EditSteps.declared.step.Step.{Step}
use Rattle.edit_model.specs.Valid.{IsPlacedPair}
use Rattle.edit_model.specs.History.{used, document_of}
use Rattle.edit_model.specs.State.{State}
use Rattle.edit_doc.specs.declared.Doc.TheInside.{Inside}
use Rattle.edit_doc.specs.declared.command.EntrySnapshot.{EntrySnapshot}
use Rattle.edit_doc.specs.declared.command.Command.{Command}
use Rattle.edit_doc.specs.Whole.{Whole, with_state}
use Rattle.edit_doc.specs.declared.history.Way.{Way}
use Rattle.edit_doc.specs.History.{roots_from, begun_forest, begun_state, began_with, seen_trees, state_of, view_at, history_of, whole_of, led, older, newer, edits_of, entries}
use Rattle.edit_doc.specs.declared.history.Way.TheVariants.{Back, Forth}
use Rattle.edit_doc.specs.Sound.{IsSide, IsSnapshot, detached_of, next_first, OpenSound, IsSoundDoc, Lies, changes_along, bound_of, next_bound}
use Rattle.edit_doc.specs.Live.{live}
use Rattle.edit_doc.proofs.Inner.{seen, Ok}

-- each name keeps its place
pub record AreLonger (old new : List (List ℕ)) : Type 0 where
  pub more : length old ≤ length new
  pub same : (k : ℕ) → k < length old → get_or new k [] ≡ get_or old k []

module _ (last : List ℕ) where
  one_longer : (ns : List (List ℕ)) → length ns ≤ length (ns ++ last ∷ [])
  one_longer [] = omega arith
  one_longer (n ∷ ns) = omega (arith, one_longer ns)

  same_before : (ns : List (List ℕ)) (k : ℕ) → k < length ns → get_or (ns ++ last ∷ []) k [] ≡ get_or ns k []
  same_before [] k l = absurd (omega (arith, l))
  same_before (n ∷ ns) zero l = refl
  same_before (n ∷ ns) (suc k) l = same_before ns k (omega (arith, l))

  longer_if : (b : Bool) (ns : List (List ℕ)) → AreLonger ns (if b then ns else ns ++ last ∷ [])
  longer_if true ns = record { more = omega arith; same = λ k l. refl }
  longer_if false ns = record { more = one_longer ns; same = same_before ns }

  pub longer_by : (pair : Pair) (s : LivePoints) → AreLonger s.names (with_mark last pair s).names
  longer_by pair s = longer_if (list_any (bytes_eq last) s.names) s.names

module _ (old new : List (List ℕ)) (h : AreLonger old new) where
  -- ---- what places show

  marks_same : (ms : List MarkPlace) → All (λ m. m.name < length old) ms → map (named new) ms ≡ map (named old) ms
  marks_same [] met = refl
  marks_same (m ∷ ms) met =
      let here = h.same m.name (All-head (λ m. m.name < length old) m ms met) in
      let rest = marks_same ms (All-tail (λ m. m.name < length old) m ms met) in
      λ i. (here i, m.pair) ∷ rest i

  over_longer : (p : Places) → IsOver old p → IsOver new p
  over_longer p o = record {
    few = o.few;
    met = λ k d l. (let t = o.met k d l in let m = h.more in omega (arith, t, m));
    distinct = o.distinct;
  }

  side_longer : (f : Forest Content) (p : Places) (nodes chars depth : ℕ) → IsSide old f p nodes chars depth → IsSide new f p nodes chars depth
  side_longer f p nodes chars depth s = record {
    over = over_longer p s.over;
    placed = record {
      selection = s.placed.selection;
      scratch = s.placed.scratch;
      marks = subst (λ ms. All (λ m. IsPlacedPair f m.1) ms) (sym (marks_same (marks_of p) s.over.met)) s.placed.marks;
    };
    resting = s.resting;
    nodes_are = s.nodes_are;
    chars_are = s.chars_are;
    no_deeper = s.no_deeper;
  }

  snapshot_longer : (before after : Forest Content) (e : List Step) (ts : List Change) (b : EntrySnapshot) (detached : List NodeRef) (high start : ℕ) →
      IsSnapshot old before after e ts b detached high start → IsSnapshot new before after e ts b detached high start
  snapshot_longer before after e ts b detached high start s = record {
    was = side_longer before b.span.before b.span.nodes_before b.span.chars_before b.span.depth_before s.was;
    is = side_longer after b.span.after b.span.nodes_after b.span.chars_after b.span.depth_after s.is;
    some_label = s.some_label;
    fresh = s.fresh;
    drawn = s.drawn;
    known = s.known;
    hidden = s.hidden;
    names_seen = s.names_seen;
    names_there = s.names_there;
    names_old = s.names_old;
    turns_old = s.turns_old;
    detached_loose = s.detached_loose;
    detached_all = s.detached_all;
  }

  view_same : (f : Forest Content) (p : Places) → IsOver old p → view_at new f p ≡ view_at old f p
  view_same f p o = let e = marks_same (marks_of p) o.met in λ i. record { document = document_of f; selection = p.selection; marks = e i }

  -- ---- the history

  module _ (held : List (Option ℕ)) (c : Command) where
    lies_longer : (w : Way) (r : Bool) (high : ℕ) (f : Forest Content) (es : List (List Step)) (bs : List EntrySnapshot) → Lies w held old r c high f es bs → Lies w held new r c high f es bs
    lies_longer w r high f [] [] s = tt
    lies_longer w r high f [] (b ∷ bs) s = absurd s
    lies_longer w r high f (e ∷ es) [] s = absurd s
    lies_longer w r high f (e ∷ es) (b ∷ bs) s =
        let g = led w e f in
        (s.0, (snapshot_longer (older w f g) (newer w f g) e (changes_along w e f) b (detached_of r c b) (bound_of w high c.start bs) c.start s.1.0, lies_longer w false (next_bound w high b) g es bs s.1.1))

    entries_same : (w : Way) (r : Bool) (high : ℕ) (f : Forest Content) (es : List (List Step)) (bs : List EntrySnapshot) → Lies w held old r c high f es bs → entries w new f es bs ≡ entries w old f es bs
    entries_same w r high f [] bs s = refl
    entries_same w r high f (e ∷ es) [] s = refl
    entries_same w r high f (e ∷ es) (b ∷ bs) s =
        let g = led w e f in
        let was = view_same (older w f g) b.span.before s.1.0.was.over in
        let is = view_same (newer w f g) b.span.after s.1.0.is.over in
        let rest = entries_same w false (next_bound w high b) g es bs s.1.1 in
        λ i. record { before = was i; after = is i; edits = edits_of w e f; made = used (edits_of w e f) (roots_from b.span.first_label (older w f g)) } ∷ rest i

-- ---- a mark is set

-- the marks with one set
abbrev entries_with : List ℕ → Pair → List (List ℕ × Pair) → List (List ℕ × Pair)
entries_with name pair es = (with_mark name pair (record { selection = None; scratch = None; marks = es; names = [] })).marks

inserted : (P : Pair → Type 0) (name : List ℕ) (pair : Pair) → P pair → (es : List (List ℕ × Pair)) → All (λ m. P m.1) es → All (λ m. P m.1) (entries_with name pair es)
inserted P name pair p [] h = All-cons (λ m. P m.1) (name, pair) [] p h
inserted P name pair p (e ∷ es) h = by (bytes_eq name e.0) (inserted P name pair p es (All-tail (λ m. P m.1) e es h))
  where
    by : (b : Bool) → All (λ m. P m.1) (entries_with name pair es) → All (λ m. P m.1) (if b then (e.0, pair) ∷ es else e ∷ entries_with name pair es)
    by true rest = All-cons (λ m. P m.1) (e.0, pair) es p (All-tail (λ m. P m.1) e es h)
    by false rest = All-cons (λ m. P m.1) e (entries_with name pair es) (All-head (λ m. P m.1) e es h) rest

open_marked : (a : Arena) (old new : LivePoints) (c : Command) (g : Forest Content) (o : Open Step) → o ≡ Closed → new.scratch ≡ old.scratch → OpenSound a old c g o → OpenSound a new c g o
open_marked a old new c g Closed closed same idle = record {
  start = idle.start;
  host = idle.host;
  keeping = idle.keeping;
  named = idle.named;
  detached = idle.detached;
  detached_before = idle.detached_before;
  scratch = same ∙ idle.scratch;
}
open_marked a old new c g (Begun xs) closed same runs = absurd (cc)
open_marked a old new c g (Resumed xs) closed same runs = absurd (cc)

none_begun : (s t : State) (o : Open Step) → o ≡ Closed → began_with s o ≡ began_with t o
none_begun s t o closed = ap (began_with s) closed ∙ sym (ap (began_with t) closed)

module _ (d : Inside) (ok : Ok d) (closed : d.history.log.open_entry ≡ Closed) (name : List ℕ) (pair : Pair) where
  abbrev pub points : LivePoints
  points = with_mark name pair d.tree.points

  longer : AreLonger d.tree.points.names points.names
  longer = longer_by name pair d.tree.points

  pub marked_ok : IsPlacedPair (seen_trees d.history.log d.command.start d.tree.nodes.arena.trees) pair →
      IsSoundDoc (record (live d.tree) { points = points }) d.command d.history
  marked_ok placed = record {
    valid = record {
      forest = ok.valid.forest;
      placed = record {
        selection = ok.valid.placed.selection;
        scratch = ok.valid.placed.scratch;
        marks = inserted (IsPlacedPair (seen_trees d.history.log d.command.start d.tree.nodes.arena.trees)) name pair placed d.tree.points.marks ok.valid.placed.marks;
      };
      started = ok.valid.started;
      settings = ok.valid.settings;
    };
    some_label = ok.some_label;
    hidden = ok.hidden;
    running = open_marked d.tree.nodes.arena d.tree.points points d.command (begun_forest d.history.log d.tree.nodes.arena.trees) d.history.log.open_entry closed refl ok.running;
    resumed = ok.resumed;
    host = ok.host;
    undo = lies_longer d.tree.points.names points.names longer d.tree.nodes.arena.held d.command Back d.command.resumed (next_first d.command.start d.history.future) (begun_forest d.history.log d.tree.nodes.arena.trees) d.history.log.undo d.history.past ok.undo;
    redo = lies_longer d.tree.points.names points.names longer d.tree.nodes.arena.held d.command Forth false 0 (begun_forest d.history.log d.tree.nodes.arena.trees) d.history.log.redo d.history.future ok.redo;
    needed = ok.needed;
  }

  history_same : history_of points.names (begun_forest d.history.log d.tree.nodes.arena.trees) d.history ≡ history_of d.tree.points.names (begun_forest d.history.log d.tree.nodes.arena.trees) d.history
  history_same =
      let u = entries_same d.tree.points.names points.names longer d.tree.nodes.arena.held d.command Back d.command.resumed (next_first d.command.start d.history.future) (begun_forest d.history.log d.tree.nodes.arena.trees) d.history.log.undo d.history.past ok.undo in
      let r = entries_same d.tree.points.names points.names longer d.tree.nodes.arena.held d.command Forth false 0 (begun_forest d.history.log d.tree.nodes.arena.trees) d.history.log.redo d.history.future ok.redo in
      λ i. record { undo = u i; redo = r i; depth = d.history.log.depth; dropped = d.history.log.dropped }

  pub marked_is : (v : Whole) → seen d ≡ v →
      whole_of (record (live d.tree) { points = points }) d.command d.history
      ≡ with_state v (record v.state { points = with_mark name pair v.state.points })
  marked_is v is =
      let began = none_begun (begun_state d.tree.nodes.arena points.names d.command d.history.log) (begun_state d.tree.nodes.arena d.tree.points.names d.command d.history.log) d.history.log.open_entry closed in
      let here : whole_of (record (live d.tree) { points = points }) d.command d.history ≡ with_state (seen d) (record (seen d).state { points = points }) =
      (λ i. record { state = state_of (record (live d.tree) { points = points }) d.command d.history.log; history = history_same i; began = began i; held = d.tree.nodes.arena.held }) in
      here ∙ ap (λ (w : Whole). with_state w (record w.state { points = with_mark name pair w.state.points })) is
