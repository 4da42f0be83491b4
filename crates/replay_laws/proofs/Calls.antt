-- Each call of an editor keeps what is tracked.
use Rattle.std.proofs.Common.{◌≡◌, ℕ, ◌<◌, ◌≤◌, Bool, true, false, true≢false, cond, not, List, [], ◌∷◌, length, Option, Some, None, refl, sym, ap, subst, arith}
use Rattle.std.specs.Prelude.{nat_le, nat_lt, ◌&&◌, if◌then◌else◌}
use Rattle.std.specs.List.{All}
use Rattle.std.specs.Map.{remove_entry}
use Rattle.std.specs.Option.{option_and_then}
use Rattle.std.specs.Str.{bytes_eq}
use Rattle.std.proofs.lemmas.Bool.Decides.{nat_tests}
use Rattle.std.proofs.lemmas.List.Elements.{All-nil, All-cons}
use Rattle.command_gate.specs.Denied.{is_denied}
use Rattle.edit_model.specs.HtmlNames.Commands.{command_named}
use Rattle.edit_model.specs.HtmlNames.declared.commands.Command.{Command}
use Rattle.edit_model.specs.HtmlNames.declared.commands.Command.TheVariants.{InsertText}
use Rattle.edit_model.specs.DomModel.declared.Content.{Content}
use Rattle.edit_model.specs.DomModel.ArenaState.{ArenaState as Arena, IsValid as IsArena}
use Rattle.edit_model.specs.DomModel.Contents.{length_of}
use Rattle.edit_model.specs.DomModel.Document.{page_depth}
use Rattle.edit_model.specs.DomModel.Forest.{Forest, tops}
use Rattle.edit_model.specs.DomModel.Forest.Forest.{Nil, Tree}
use Rattle.edit_model.specs.LiveRange.declared.places.Pair.{Pair}
use Rattle.edit_model.specs.LiveRange.declared.places.Point.{Point}
use Rattle.edit_model.specs.LiveRange.LivePoints.{with_mark, without_mark}
use Rattle.edit_model.proofs.LiveRange.Apart.{All-head, All-tail}
use Rattle.inline_value.specs.NodePaths.Paths.{label_at}
use Rattle.edit_model.specs.PointOrder.PointOrder.{is_placed}
use Rattle.step_text.specs.ScriptRead.declared.act.Place.{Place}
use Rattle.edit_model.specs.State.{State}
use Rattle.edit_model.specs.Confined.{may_select}
use Rattle.edit_model.specs.Edit.{changed}
use Rattle.edit_model.specs.Action as action
use Rattle.edit_model.specs.Action.{selected, acted}
use Rattle.edit_model.specs.History.{document_of, begun}
use Rattle.edit_model.specs.Run.{Reaches, here, onward, Run, final}
use Rattle.edit_model.specs.Valid.{IsForest, IsPlacedPair, IsValid}
use Rattle.edit_model.proofs.CommandParts.{command_acted}
use Rattle.edit_model.proofs.Documents.{document_shape}
use Rattle.edit_model.proofs.OutsideRuns.{trees-selected}
use Rattle.edit_model.proofs.Steps.{either_way}
use Rattle.edit_model.proofs.ValidRuns.{valid_along}
use Rattle.inline_value.specs.EditDoc.Whole.{HasNoLoose, first_state}
use Rattle.inline_value.proofs.EditDoc.Rests.{arena_forest}
use Rattle.inline_value.proofs.EditDoc.Turnings.{unset_length}
use Rattle.edit_engine.specs.Commands.{row_of, action_of, is_enabled_in}
use Rattle.edit_engine.specs.Editing.{Editing, new_editing}
use Rattle.edit_engine.specs.Execution.{Outcome, Refused, Deep, Full, Acted, depth_limit, host_at, run_at, ran, answered, after_run, run_outcome, command_outcome, outcome_at, outcome_by, outcome, joined_outcome, gated_outcome, replaced_outcome, outcome_with}
use Rattle.edit_engine.specs.Going.{goes_on, joins_by}
use Rattle.edit_engine.specs.Places.{point_in, point_at, pair_of, pair_at, pair_from, placed_pair, range_in, selecting, unselecting, marking, unmarking}
use Rattle.edit_engine.proofs.GoingOn.{joins_on}
use Rattle.edit_engine.proofs.Seeing.{path_inside, in_document, placed_by}
use Rattle.edit_session.specs.Replies.{is_crowded}
use Rattle.replay_laws.specs.Calls.{Call, Exec, ExecJoined, ExecGated, ExecWith, Replace, Select, SelectPoints, Unselect, Mark, MarkPoints, Unmark, Undo, Redo, after_outcome, after_replacing, after_options, after_selecting, after_marking, called, after_calls, IsOfCalls}
use Rattle.replay_laws.proofs.Leaving.{run_leaves}
use Rattle.edit_engine.proofs.Still.{stays_alone}
use Rattle.replay_laws.proofs.Tracking.{IsTracked, tracked_stopped, tracked_undone, tracked_redone, tracked_run}

-- ---- points

abbrev point_of : ℕ → ℕ → Point
point_of l offset = record { label = l; offset = offset }

point_placed : (f : Forest Content) (next : ℕ) → IsForest f next → (place : Place) (p : Point) → point_at f place ≡ Some p → is_placed f p ≡ true
unfolding point_at
point_placed f next is place p e = by_label (label_at f place.path) refl e
  where
    by_offset : (l : ℕ) (b : Bool) → label_at f place.path ≡ Some l → nat_le place.offset (length_of f l) ≡ b → cond b (Some (point_of l place.offset)) None ≡ Some p → is_placed f p ≡ true
    by_offset l true at within e =
        let same : point_of l place.offset ≡ p = (let t : Some (point_of l place.offset) ≡ Some p = e in cc) in
        let le : place.offset ≤ length_of f l = grind (arith, nat_tests, within) in
        subst (λ (q : Point). is_placed f q ≡ true) same (placed_by f l place.offset (in_document f l (path_inside f next is place.path l at)) le)
    by_offset l false at within e = absurd (let t : None ≡ Some p = e in cc)

    by_label : (o : Option ℕ) → label_at f place.path ≡ o → option_and_then (point_in f place.offset) o ≡ Some p → is_placed f p ≡ true
    by_label None at e = absurd (let t : None ≡ Some p = e in cc)
    by_label (Some l) at e = by_offset l (nat_le place.offset (length_of f l)) at refl e

pair_placed : (f : Forest Content) (next : ℕ) → IsForest f next → (anchor focus : Place) (pair : Pair) → pair_at f anchor focus ≡ Some pair → IsPlacedPair f pair
unfolding pair_at
pair_placed f next is anchor focus pair e = by_points (point_at f anchor) (point_at f focus) refl refl e
  where
    by_points : (o u : Option Point) → point_at f anchor ≡ o → point_at f focus ≡ u → pair_of o u ≡ Some pair → IsPlacedPair f pair
    by_points None u a b e = absurd (let t : None ≡ Some pair = e in cc)
    by_points (Some p) None a b e = absurd (let t : None ≡ Some pair = e in cc)
    by_points (Some p) (Some q) a b e =
        let same : pair_from p q ≡ pair = (let t : Some (pair_from p q) ≡ Some pair = e in cc) in
        subst (λ (w : Pair). IsPlacedPair f w) same (record { anchor = point_placed f next is anchor p a; focus = point_placed f next is focus q b })

points_placed : (f : Forest Content) (anchor focus : Point) (pair : Pair) → placed_pair f anchor focus ≡ Some pair → IsPlacedPair f pair
unfolding placed_pair
points_placed f anchor focus pair e = by_tests (is_placed f anchor) (is_placed f focus) refl refl e
  where
    by_tests : (a b : Bool) → is_placed f anchor ≡ a → is_placed f focus ≡ b → cond (a && b) (Some (pair_from anchor focus)) None ≡ Some pair → IsPlacedPair f pair
    by_tests true true first last e =
        let same : pair_from anchor focus ≡ pair = (let t : Some (pair_from anchor focus) ≡ Some pair = e in cc) in
        subst (λ (w : Pair). IsPlacedPair f w) same (record { anchor = first; focus = last })
    by_tests true false first last e = absurd (let t : None ≡ Some pair = e in cc)
    by_tests false b first last e = absurd (let t : None ≡ Some pair = e in cc)

-- ---- marks

abbrev Marks : Type 0
Marks = List (List ℕ × Pair)

abbrev entries_with : List ℕ → Pair → Marks → Marks
entries_with name pair es = (with_mark name pair (record { selection = None; scratch = None; marks = es; names = [] })).marks

marks_with : (P : Pair → Type 0) (name : List ℕ) (pair : Pair) → P pair → (es : Marks) → All (λ m. P m.1) es → All (λ m. P m.1) (entries_with name pair es)
marks_with P name pair p [] h = All-cons (λ m. P m.1) (name, pair) [] p h
marks_with P name pair p (e ∷ es) h = by (bytes_eq name e.0) (marks_with P name pair p es (All-tail (λ m. P m.1) e es h))
  where
    by : (b : Bool) → All (λ m. P m.1) (entries_with name pair es) → All (λ m. P m.1) (if b then (e.0, pair) ∷ es else e ∷ entries_with name pair es)
    by true rest = All-cons (λ m. P m.1) (e.0, pair) es p (All-tail (λ m. P m.1) e es h)
    by false rest = All-cons (λ m. P m.1) e (entries_with name pair es) (All-head (λ m. P m.1) e es h) rest

marks_without : (P : List ℕ × Pair → Type 0) (test : List ℕ → Bool) (es : Marks) → All P es → All P (remove_entry test es)
marks_without P test [] h = h
marks_without P test (e ∷ es) h = by (test e.0) (marks_without P test es (All-tail P e es h))
  where
    by : (b : Bool) → All P (remove_entry test es) → All P (if b then es else e ∷ remove_entry test es)
    by true rest = All-tail P e es h
    by false rest = All-cons P e (remove_entry test es) (All-head P e es h) rest

-- ---- what is tracked

next_selected : (anchor focus : Point) (s : State) → (selected anchor focus s).next ≡ s.next
unfolding selected changed
next_selected anchor focus s = let P : State → Type 0 = λ u. u.next ≡ s.next in either_way P (may_select s anchor && may_select s focus) refl refl

module _ (page : Forest Content) (start cap : ℕ) where
  abbrev pub Keeps : Editing → Type 0
  Keeps e = IsTracked page start cap e

  keeps_selecting : (e : Editing) (pair : Pair) → Keeps e → Keeps (selecting e pair)
  unfolding acted
  keeps_selecting e pair tr =
      let a = action.Select pair.anchor pair.focus in
      let r : Reaches e.state (acted a e.state) = onward here a in
      tracked_stopped page start cap e (acted a e.state) tr (valid_along r tr.valid)
      (trees-selected pair.anchor pair.focus e.state) (next_selected pair.anchor pair.focus e.state) (command_acted a e.state).cap

  keeps_unselecting : (e : Editing) → Keeps e → Keeps (unselecting e)
  unfolding acted changed
  keeps_unselecting e tr =
      let r : Reaches e.state (acted action.Unselect e.state) = onward here action.Unselect in
      tracked_stopped page start cap e (acted action.Unselect e.state) tr (valid_along r tr.valid) refl refl refl

  keeps_marking : (e : Editing) (name : List ℕ) (pair : Pair) → (IsValid e.state → IsPlacedPair e.state.trees pair) → Keeps e → Keeps (marking e name pair)
  keeps_marking e name pair placed tr =
      let is = tr.valid in
      tracked_stopped page start cap e (record e.state { points = with_mark name pair e.state.points }) tr
      (record {
        forest = is.forest;
        placed = record { selection = is.placed.selection; scratch = is.placed.scratch; marks = marks_with (IsPlacedPair e.state.trees) name pair (placed is) e.state.points.marks is.placed.marks };
        started = is.started;
        settings = is.settings;
      }) refl refl refl

  keeps_unmarking : (e : Editing) (name : List ℕ) → Keeps e → Keeps (unmarking e name)
  keeps_unmarking e name tr =
      let is = tr.valid in
      tracked_stopped page start cap e (record e.state { points = without_mark name e.state.points }) tr
      (record {
        forest = is.forest;
        placed = record { selection = is.placed.selection; scratch = is.placed.scratch; marks = marks_without (λ m. IsPlacedPair e.state.trees m.1) (bytes_eq name) e.state.points.marks is.placed.marks };
        started = is.started;
        settings = is.settings;
      }) refl refl refl

  -- ---- commands

  -- what holds of the editor after an outcome
  abbrev After : Outcome → Type 0
  After (Acted answer after) = Keeps after
  After _ = Unit {0}

  after_by : (refused deep full answer : Bool) (x y : Editing) → (full ≡ false → Keeps x) → Keeps y → After (cond refused Refused (cond deep Deep (cond full Full (cond answer (Acted true x) (Acted false y)))))
  after_by true deep full answer x y first second = tt
  after_by false true full answer x y first second = tt
  after_by false false true answer x y first second = tt
  after_by false false false true x y first second = first refl
  after_by false false false false x y first second = second

  reached : (m : Run Bool) (s : State) → Reaches s (final m s)
  unfolding final
  reached m s = m.by_actions s

  some_label : (e : Editing) → IsTracked page start cap e → 0 < e.state.next
  some_label e tr = tr.valid.forest.below 0 tr.valid.forest.document

  not_past : (a b c : ℕ) → nat_lt a b ≡ false → a ≡ c → b ≤ c
  not_past a b c low same = (let le : b ≤ a = grind (arith, nat_tests) in omega (arith, le, same))

  keeps_run : (e : Editing) (host : Option ℕ) (keeping joining : Bool) (c : Command) (m : Run Bool) → (joining ≡ true → goes_on e.going ≡ true) → nat_lt e.state.cap (ran host e.state keeping m).next ≡ false → Keeps e → Keeps (after_run e joining c (ran host e.state keeping m))
  keeps_run e host keeping joining c m joins low tr =
      let s = e.state in
      let t = ran host s keeping m in
      let r = reached m (begun host keeping s) in
      let l = run_leaves s t host keeping tr.valid r in
      tracked_run page start cap e joining c t joins tr l (stays_alone s t host keeping (some_label e tr) r) (not_past s.cap t.next cap low tr.capped)

  after_command : (e : Editing) (at : Option Pair) (joining : Bool) (v : List ℕ) (c : Command) → (joining ≡ true → goes_on e.going ≡ true) → Keeps e → After (command_outcome e at joining v c)
  unfolding command_outcome run_outcome
  after_command e at joining v c joins keeps =
      let s = e.state in
      let host = host_at at s in
      let k = (row_of c).keeping in
      let m = run_at at (action_of c v) in
      let x = after_run e joining c (ran host s k m) in
      after_by (not (is_enabled_in host c)) (nat_lt depth_limit (page_depth s.trees)) (nat_lt s.cap (ran host s k m).next) (answered host s k m) x e
      (λ low. keeps_run e host k joining c m joins low keeps) keeps

  after_named : (at : Option Pair) (joined : Bool) (e : Editing) (v : List ℕ) (o : Option Command) → Keeps e → After (outcome_at at joined e o v)
  after_named at joined e v None keeps = tt
  after_named at joined e v (Some c) keeps = after_command e at (joins_by joined e.going c) v c (joins_on joined e.going c) keeps

  after_outcome_by : (joined : Bool) (e : Editing) (name v : List ℕ) → Keeps e → After (outcome_by joined e name v)
  unfolding outcome_by
  after_outcome_by joined e name v keeps = after_named None joined e v (command_named name) keeps

  after_gated : (denied : List (List ℕ)) (e : Editing) (name v : List ℕ) → Keeps e → After (gated_outcome denied e name v)
  unfolding gated_outcome
  after_gated denied e name v keeps = by_test (is_denied denied name)
    where
      by_test : (b : Bool) → After (cond b Refused (outcome_by false e name v))
      by_test true = tt
      by_test false = after_outcome_by false e name v keeps

  after_with : (denied : List (List ℕ)) (at : Option Pair) (joined : Bool) (e : Editing) (name v : List ℕ) → Keeps e → After (outcome_with denied at joined e name v)
  unfolding outcome_with
  after_with denied at joined e name v keeps = by_test (is_denied denied name)
    where
      by_test : (b : Bool) → After (cond b Refused (outcome_at at joined e (command_named name) v))
      by_test true = tt
      by_test false = after_named at joined e v (command_named name) keeps

  keeps_outcome : (e : Editing) (o : Outcome) → Keeps e → After o → Keeps (after_outcome e o)
  keeps_outcome e Refused keeps h = keeps
  keeps_outcome e Deep keeps h = keeps
  keeps_outcome e Full keeps h = keeps
  keeps_outcome e (Acted answer after) keeps h = h

  -- ---- calls

  keeps_replacing : (e : Editing) (text : List ℕ) (o : Option Pair) → Keeps e → Keeps (after_replacing e text o)
  keeps_replacing e text None keeps = keeps
  keeps_replacing e text (Some range) keeps =
      keeps_outcome e (replaced_outcome e range text) keeps (after_command e (Some range) (joins_by false e.going InsertText) text InsertText (joins_on false e.going InsertText) keeps)

  keeps_options : (denied : List (List ℕ)) (joined : Bool) (e : Editing) (name value : List ℕ) (o : Option (Option Pair)) → Keeps e → Keeps (after_options denied joined e name value o)
  keeps_options denied joined e name value None keeps = keeps
  keeps_options denied joined e name value (Some at) keeps = keeps_outcome e (outcome_with denied at joined e name value) keeps (after_with denied at joined e name value keeps)

  keeps_select : (e : Editing) (o : Option Pair) → Keeps e → Keeps (after_selecting e o)
  keeps_select e None keeps = keeps
  keeps_select e (Some pair) keeps = keeps_selecting e pair keeps

  keeps_mark : (e : Editing) (name : List ℕ) (o : Option Pair) → ((pair : Pair) → o ≡ Some pair → IsValid e.state → IsPlacedPair e.state.trees pair) → Keeps e → Keeps (after_marking e name o)
  keeps_mark e name None placed keeps = keeps
  keeps_mark e name (Some pair) placed keeps = by_test (is_crowded e name)
    where
      by_test : (b : Bool) → Keeps (if b then e else marking e name pair)
      by_test true = keeps
      by_test false = keeps_marking e name pair (placed pair refl) keeps

  pub keeps_call : (call : Call) (e : Editing) → Keeps e → Keeps (called call e)
  unfolding called
  keeps_call (Exec name value) e keeps = keeps_outcome e (outcome e name value) keeps (after_outcome_by false e name value keeps)
  keeps_call (ExecJoined name value) e keeps = keeps_outcome e (joined_outcome e name value) keeps (after_outcome_by true e name value keeps)
  keeps_call (ExecGated denied name value) e keeps = keeps_outcome e (gated_outcome denied e name value) keeps (after_gated denied e name value keeps)
  keeps_call (ExecWith denied range joined name value) e keeps = keeps_options denied joined e name value (range_in e.state.trees range) keeps
  keeps_call (Replace anchor focus text) e keeps = keeps_replacing e text (placed_pair e.state.trees anchor focus) keeps
  keeps_call (Select anchor focus) e keeps = keeps_select e (pair_at e.state.trees anchor focus) keeps
  keeps_call (SelectPoints anchor focus) e keeps = keeps_select e (placed_pair e.state.trees anchor focus) keeps
  keeps_call Unselect e keeps = keeps_unselecting e keeps
  keeps_call (Mark name anchor focus) e keeps =
      keeps_mark e name (pair_at e.state.trees anchor focus) (λ pair at is. pair_placed e.state.trees e.state.next is.forest anchor focus pair at) keeps
  keeps_call (MarkPoints name anchor focus) e keeps =
      keeps_mark e name (placed_pair e.state.trees anchor focus) (λ pair at is. points_placed e.state.trees anchor focus pair at) keeps
  keeps_call (Unmark name) e keeps = keeps_unmarking e name keeps
  keeps_call Undo e keeps = tracked_undone page start cap e keeps
  keeps_call Redo e keeps = tracked_redone page start cap e keeps

  keeps_calls : (calls : List Call) (e : Editing) → Keeps e → Keeps (after_calls calls e)
  unfolding after_calls
  keeps_calls [] e keeps = keeps
  keeps_calls (call ∷ calls) e keeps = keeps_calls calls (called call e) (keeps_call call e keeps)

-- ---- from a page on

-- a document without loose trees stands alone
pub alone_first : (f : Forest Content) (next : ℕ) → IsForest f next → tops f ≡ 0 ∷ [] → document_of f ≡ f
alone_first f next is h =
    let d = document_shape f next is in
    let e : tops (Tree 0 d.0 d.1 d.2) ≡ 0 ∷ [] = subst (λ (g : Forest Content). tops g ≡ 0 ∷ []) d.3 h in
    subst (λ (g : Forest Content). document_of g ≡ g) (sym d.3) (ap (Tree 0 d.0 d.1) (none d.2 (ap length e)))
  where
    none : (g : Forest Content) → length (0 ∷ tops g) ≡ 1 → Nil ≡ g
    none Nil e = refl
    none (Tree m c ks rest) e = absurd (omega (arith, e))

-- the nodes of a page, from which an editor can begin
pub record IsPage (page : Arena) : Type 0 where
  pub forest : IsForest page.trees page.next
  pub capped : page.next ≤ page.cap

pub arena_page : (page : Arena) → IsArena page → IsPage page
arena_page page law = record { forest = arena_forest page law; capped = law.capped }

pub tracked_first : (page : Arena) → IsPage page → HasNoLoose page → (depth : ℕ) → 0 < depth → IsTracked page.trees page.next page.cap (new_editing page depth)
unfolding first_state
tracked_first page is loose depth some = record {
  valid = record {
    forest = is.forest;
    placed = record { selection = tt; scratch = tt; marks = All-nil (λ m. IsPlacedPair page.trees m.1) };
    started = omega arith;
    settings = unset_length;
  };
  alone = alone_first page.trees page.next is.forest loose;
  low = omega arith;
  capped = refl;
  depth = some;
  joinable = λ on. absurd (true≢false (sym on));
  undo = tt;
  redo = tt;
  past = λ _. refl;
  future = tt;
  within = is.capped;
  middle = page.next;
  back = omega arith;
  on = omega arith;
}

pub calls_tracked : (page : Arena) (e : Editing) → IsPage page → IsOfCalls page e → IsTracked page.trees page.next page.cap e
calls_tracked page e is s =
    subst (λ (w : Editing). IsTracked page.trees page.next page.cap w) s.is
    (keeps_calls page.trees page.next page.cap s.calls (new_editing page s.depth) (tracked_first page is s.loose s.depth s.some_depth))
