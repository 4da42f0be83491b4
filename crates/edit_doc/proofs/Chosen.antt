-- Other points, overrides or flags of a document under edits.
use Rattle.std.proofs.Common.{◌≡◌, ℕ, zero, suc, ◌<◌, Bool, true, false, if◌then◌else◌, get_or, arith, List, [], ◌∷◌, length, Option, None, refl, sym, subst, ◌∙◌}
use Rattle.edit_model.specs.DomModel.declared.Content.{Content}
use Rattle.edit_model.specs.DomModel.Forest.{Forest, count_of}
use Rattle.edit_model.specs.DomModel.ArenaState.{ArenaState as Arena}
use Rattle.edit_model.specs.LiveRange.declared.places.Pair.{Pair}
use Rattle.edit_model.specs.LiveRange.declared.places.Point.{Point}
use Rattle.edit_model.specs.LiveRange.PointsEdit as range
use Rattle.edit_model.specs.LiveRange.LivePoints.{LivePoints, mapped}
use Rattle.step_edits.specs.UndoLog.Log.{Open}
use Rattle.step_edits.specs.UndoLog.Log.Open.{Closed, Begun, Resumed}
use Rattle.step_edits.specs.EditSteps.declared.step.Step.{Step}
use Rattle.edit_model.specs.declared.settings.Setting.{Setting}
use Rattle.edit_model.specs.declared.settings.Flags.{Flags}
use Rattle.edit_model.specs.Action.{Grow, Send, grown, sent, acted}
use Rattle.edit_model.specs.Confined.{may_grow, may_send}
use Rattle.edit_model.specs.Edit.{changed}
use Rattle.edit_model.specs.Valid.{IsPlaced}
use Rattle.edit_model.specs.State.{State}
use Rattle.edit_doc.specs.declared.Doc.TheInside.{Inside}
use Rattle.edit_doc.specs.declared.command.Command.{Command}
use Rattle.edit_doc.specs.Whole.{Whole, with_state}
use Rattle.edit_doc.specs.Held.{Keeps}
use Rattle.edit_doc.specs.History.{begun_forest, seen_trees}
use Rattle.edit_doc.specs.Sound.{IsIdle, OpenSound, IsSoundDoc}
use Rattle.edit_doc.specs.Live.{live_of}
use Rattle.edit_doc.proofs.Inner.{Ok}

-- points with the same names
abbrev pub moved_to : LivePoints → Option Pair → Option Pair → List (List ℕ × Pair) → LivePoints
moved_to points selection scratch marks = record points { selection = selection; scratch = scratch; marks = marks }

open_other : (a : Arena) (points : LivePoints) (c : Command) (g : Forest Content) (o : Open Step) (selection scratch : Option Pair) (marks : List (List ℕ × Pair)) →
    (o ≡ Closed → scratch ≡ None) → OpenSound a points c g o → OpenSound a (moved_to points selection scratch marks) c g o
open_other a points c g Closed selection scratch marks none idle = record {
  start = idle.start;
  host = idle.host;
  keeping = idle.keeping;
  named = idle.named;
  detached = idle.detached;
  detached_before = idle.detached_before;
  scratch = none refl;
}
open_other a points c g (Begun xs) selection scratch marks none runs = runs
open_other a points c g (Resumed xs) selection scratch marks none runs = runs

module _ (d : Inside) (ok : Ok d) (selection scratch : Option Pair) (marks : List (List ℕ × Pair)) (overrides : List Setting) (flags : Flags) where
  abbrev points : LivePoints
  points = moved_to d.tree.points selection scratch marks

  pub other_ok :
      IsPlaced (seen_trees d.history.log d.command.start d.tree.nodes.arena.trees) points →
      length overrides ≡ 32 →
      (d.history.log.open_entry ≡ Closed → scratch ≡ None) →
      IsSoundDoc (live_of d.tree.nodes.arena points overrides flags) d.command d.history
  other_ok placed settings none = record {
    valid = record { forest = ok.valid.forest; placed = placed; started = ok.valid.started; settings = settings };
    some_label = ok.some_label;
    hidden = ok.hidden;
    running = open_other d.tree.nodes.arena d.tree.points d.command _ d.history.log.open_entry selection scratch marks none ok.running;
    resumed = ok.resumed;
    host = ok.host;
    undo = ok.undo;
    redo = ok.redo;
    needed = ok.needed;
  }

-- outside commands no scratch pair is kept
pub scratch_at_rest : (d : Inside) → Ok d → d.history.log.open_entry ≡ Closed → d.tree.points.scratch ≡ None
scratch_at_rest d ok closed =
    let idle : IsIdle d.command d.tree.points d.tree.nodes.arena.next = subst (λ o. OpenSound d.tree.nodes.arena d.tree.points d.command (begun_forest d.history.log d.tree.nodes.arena.trees) o) closed ok.running in
    idle.scratch

-- ---- what stays held

-- the trees, the first label of the command and the cap stay
pub record Stays (s t : State) : Type 0 where
  pub trees : t.trees ≡ s.trees
  pub start : t.start ≡ s.start
  pub cap : t.cap ≡ s.cap

stays_either : (b : Bool) {s t u : State} → Stays u s → Stays u t → Stays u (if b then s else t)
stays_either true p q = p
stays_either false p q = q

stays-changed : (s : State) (others : LivePoints) → Stays s (changed s s.trees others)
unfolding changed
stays-changed s others = record { trees = refl; start = refl; cap = refl }

stays_here : (s : State) → Stays s s
stays_here s = record { trees = refl; start = refl; cap = refl }

stays-grown : (at : Point) (s : State) → Stays s (acted (Grow at) s)
unfolding acted grown
stays-grown at s = stays_either (may_grow s at) (stays-changed s (mapped (range.Grown at) s.points)) (stays_here s)

stays-sent : (node at tail : ℕ) (s : State) → Stays s (acted (Send node at tail) s)
unfolding acted sent
stays-sent node at tail s = stays_either (may_send s node at tail) (stays-changed s (mapped (range.Split node at tail node 0) s.points)) (stays_here s)

keeps_by : (d new : Whole) (s : State) → Stays d.state s → new ≡ with_state d s → Keeps d new
keeps_by d new s stays is = subst (Keeps d) (sym is) (record {
  held = λ r h. record { slot = h.slot; here = subst (λ t. 0 < count_of t r.label) (sym stays.trees) h.here };
  history = refl;
  began = refl;
  start = stays.start;
  cap = stays.cap;
})

pub keeps_grown : (d new : Whole) (at : Point) → new ≡ with_state d (acted (Grow at) d.state) → Keeps d new
keeps_grown d new at is = keeps_by d new (acted (Grow at) d.state) (stays-grown at d.state) is

pub keeps_sent : (d new : Whole) (node at tail : ℕ) → new ≡ with_state d (acted (Send node at tail) d.state) → Keeps d new
keeps_sent d new node at tail is = keeps_by d new (acted (Send node at tail) d.state) (stays-sent node at tail d.state) is

pub keeps_both : (a b c : Whole) → Keeps a b → Keeps b c → Keeps a c
keeps_both a b c p q = record {
  held = λ r h. q.held r (p.held r h);
  history = q.history ∙ p.history;
  began = q.began ∙ p.began;
  start = q.start ∙ p.start;
  cap = q.cap ∙ p.cap;
}

-- what stands at a place that is there
pub any_default : {A : Type 0} (xs : List A) (i : ℕ) (x y : A) → i < length xs → get_or xs i x ≡ get_or xs i y
any_default [] i x y low = absurd (omega (arith, low))
any_default (z ∷ zs) zero x y low = refl
any_default (z ∷ zs) (suc i) x y low = any_default zs i x y (omega (arith, low))
