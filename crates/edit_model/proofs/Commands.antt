-- A command that begins in a valid state is confined, and what a keeping one removes bears nothing that is kept.
use Rattle.std.proofs.Common.{◌≡◌, ℕ, ◌≤◌, Bool, true, false, ◌||◌, not, cond, eqb, Option, Some, None, sym, ap, ◌∙◌, arith, true≢false}
use Rattle.point_order.specs.DomModel.declared.Content.{Content}
use Rattle.point_order.specs.DomModel.Forest.{Forest, count_of, tree_of}
use Rattle.point_order.proofs.DomModel.Totals.{total-without}
use Rattle.edit_model.specs.State.{State}
use Rattle.edit_model.specs.Kept.{has_no_kept_leaves}
use Rattle.edit_model.specs.Edit.{Edit, Insert, Remove, Move, Replace, Set, Unset, is_made_edit}
use Rattle.edit_model.specs.Action as action
use Rattle.edit_model.specs.Action.{Action}
use Rattle.edit_model.specs.Run.{Reaches, here, onward}
use Rattle.edit_model.specs.History.{begun}
use Rattle.edit_model.specs.Valid.{IsValid}
use Rattle.edit_model.specs.Outside.{outside_by, outside, IsConfined}
use Rattle.edit_model.specs.Laws.{TakesNothing, TakesNothingOn}
use Rattle.edit_model.proofs.Tests.{removes}
use Rattle.edit_model.proofs.CommandParts.{command_along}
use Rattle.edit_model.proofs.Hollow.{hollowed_le}
use Rattle.edit_model.proofs.OutsideRuns.{outside_along}

-- ---- the begin of a command

pub valid_begun : (host : Option ℕ) (keeping : Bool) (s : State) → IsValid s → IsValid (begun host keeping s)
unfolding begun
valid_begun host keeping s is = record { forest = is.forest; placed = is.placed; started = omega arith; settings = is.settings }

outside_le : (host : Option ℕ) (f : Forest Content) (l : ℕ) → count_of (outside_by host f) l ≤ count_of f l
outside_le None f l = omega (arith, total-without (λ m _. cond (eqb m l) 1 0) f 0)
outside_le (Some h) f l = omega (arith, hollowed_le (tree_of f 0) h l, total-without (λ m _. cond (eqb m l) 1 0) f 0)

pub confined_begun : (host : Option ℕ) (keeping : Bool) (s : State) → IsValid s → IsConfined (begun host keeping s)
unfolding begun outside
confined_begun host keeping s is = record { before = λ l some. is.forest.below l (omega (arith, some, outside_le host s.trees l)) }

pub command_confined : (host : Option ℕ) (keeping : Bool) (s t : State) → IsValid s → Reaches (begun host keeping s) t → outside_by host t.trees ≡ outside_by host s.trees
unfolding begun outside
command_confined host keeping s t is r =
    let k = outside_along r (valid_begun host keeping s is) (confined_begun host keeping s is) in
    ap (λ o. outside_by o t.trees) (sym (command_along r).host) ∙ k.same

-- ---- what a keeping command removes

pub nothing_kept : (keeping nothing : Bool) → (not keeping || nothing) ≡ true → keeping ≡ true → nothing ≡ true
nothing_kept true nothing h e = h
nothing_kept false nothing h e = absurd (true≢false (sym e))

takes_by : (e : Edit) (s : State) → s.keeping ≡ true → TakesNothing (action.Change e) s
unfolding is_made_edit
takes_by (Remove n) s keeps = λ may. nothing_kept s.keeping (has_no_kept_leaves (tree_of s.trees n)) (removes s n may).nothing keeps
takes_by (Insert p b n) s keeps = tt
takes_by (Move n p b) s keeps = tt
takes_by (Replace n at count put) s keeps = tt
takes_by (Set n name value) s keeps = tt
takes_by (Unset n name) s keeps = tt

takes_nothing : (a : Action) (s : State) → s.keeping ≡ true → TakesNothing a s
takes_nothing (action.Change e) s keeps = takes_by e s keeps
takes_nothing (action.MakeElement name attributes) s keeps = tt
takes_nothing (action.MakeWords chars) s keeps = tt
takes_nothing (action.Select anchor focus) s keeps = tt
takes_nothing (action.Extend focus) s keeps = tt
takes_nothing action.Unselect s keeps = tt
takes_nothing (action.Grow at) s keeps = tt
takes_nothing (action.Send node at tail) s keeps = tt
takes_nothing (action.Scratch pair) s keeps = tt
takes_nothing (action.Override command setting) s keeps = tt
takes_nothing (action.Flag flags) s keeps = tt
takes_nothing (action.Extract from end target) s keeps = tt

pub takes_nothing_on : {s t : State} (r : Reaches s t) → s.keeping ≡ true → TakesNothingOn r
takes_nothing_on here keeps = tt
takes_nothing_on (onward {t = t} q a) keeps = (takes_nothing_on q keeps, takes_nothing a t ((command_along q).keeping ∙ keeps))
