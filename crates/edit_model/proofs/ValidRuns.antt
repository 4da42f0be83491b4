-- Every action keeps a state valid, and so does every run.
use Rattle.std.proofs.Common.{◌≡◌, ◌≢◌, ℕ, ◌<◌, ◌^◌, Bool, true, false, ◌&&◌, if◌then◌else◌, List, [], length, Option, Some, None, IfSome, refl, ◌∙◌, arith}
use Rattle.std.specs.Prelude.{nat_lt}
use Rattle.std.proofs.lemmas.Bool.{and_parts, ltb-true}
use Rattle.std.proofs.lemmas.List.{length-set}
use Rattle.point_order.specs.DomModel.declared.Content.TheVariants.{Document, Words}
use Rattle.point_order.specs.DomModel.declared.attributes.Attribute.{Attribute}
use Rattle.point_order.specs.DomModel.AttributeList.{IsDistinctNames, are_distinct}
use Rattle.point_order.specs.DomModel.Contents.{attributes_in, char_length}
use Rattle.point_order.proofs.DomModel.AttributeLemmas.{distinct-nothing, told_distinct}
use Rattle.html_names.specs.declared.commands.Command.{Command}
use Rattle.point_order.specs.LiveRange.declared.places.Point.{Point}
use Rattle.point_order.specs.LiveRange.declared.places.Pair.{Pair}
use Rattle.point_order.specs.LiveRange.PointsEdit as range
use Rattle.point_order.specs.LiveRange.LivePoints.{mapped}
use Rattle.edit_model.specs.declared.settings.Setting.{Setting}
use Rattle.edit_model.specs.State.{State}
use Rattle.edit_model.specs.Overrides.{with_setting, place_of}
use Rattle.edit_model.specs.Confined.{may_select, may_grow, may_send}
use Rattle.edit_model.specs.Edit.{Edit, is_made_edit, trees_after, points_after, changed, change_of, edited}
use Rattle.edit_model.specs.Action as action
use Rattle.edit_model.specs.Action.{Action, made, applied, stepped, stepped_all, tail_of, may_extract, extracted, words_content, element_content, with_selection, with_scratch, selected, extended_from, extended, grown, sent, scratched, acted}
use Rattle.edit_model.specs.Run.{Reaches, Run, final}
use Rattle.edit_model.specs.Valid.{IsPlacedPair, IsValid}
use Rattle.edit_model.proofs.Steps.{along, final_keeps}
use Rattle.edit_model.proofs.ValidParts.{valid_changed, valid_with_change, valid_made, valid_steps, plain_tail}
use Rattle.edit_model.proofs.TailPossible.{tail_possible}
use Rattle.edit_model.proofs.Points.{mapped_placed}
use Rattle.edit_model.proofs.Made.{made_forest, made_placed}
use Rattle.edit_model.proofs.Fitting.{places-grow, places-send}
use Rattle.edit_model.proofs.TailSteps.{either_extracted}

-- what holds after a choice
pub chosen : (P : State → Type 0) (b : Bool) {s t : State} → (b ≡ true → P s) → P t → P (if b then s else t)
chosen P true p q = p refl
chosen P false p q = q

pub valid_edited : (e : Edit) (s : State) → IsValid s → IsValid (edited e s)
unfolding edited
valid_edited e s is =
    chosen IsValid (is_made_edit e s)
    (λ may. valid_with_change (change_of e s.trees) (changed s (trees_after e s.trees) (points_after e s.trees s.points)) (valid_changed s (trees_after e s.trees) (points_after e s.trees s.points) is (made_forest e s is may) (made_placed e s is may)))
    is

setting_length : (list : List Setting) (c : Command) (setting : Setting) → length (with_setting list c setting) ≡ length list
unfolding with_setting
setting_length list c setting = length-set list (place_of c) setting

words_other : (b : Bool) (chars : List ℕ) → (if b then Words chars else Words []) ≢ Document
words_other true chars e = cc
words_other false chars e = cc

words_short : (b : Bool) (chars : List ℕ) → (b ≡ true → length chars < 2 ^ 32) → char_length (if b then Words chars else Words []) < 2 ^ 32
words_short true chars h = h refl
words_short false chars h = omega arith

words_nameless : (b : Bool) (chars : List ℕ) → IfSome (attributes_in (if b then Words chars else Words [])) IsDistinctNames
words_nameless true chars = tt
words_nameless false chars = tt

names_kept : (b : Bool) (list : List Attribute) → (b ≡ true → IsDistinctNames list) → IsDistinctNames (if b then list else [])
names_kept true list h = h refl
names_kept false list h = distinct-nothing

-- ---- points that are set

valid_selection : (o : Option Pair) (s : State) → IfSome o (IsPlacedPair s.trees) → IsValid s → IsValid (with_selection o s)
valid_selection o s h is = valid_changed s s.trees (record s.points { selection = o }) is is.forest (record { selection = h; scratch = is.placed.scratch; marks = is.placed.marks })

pair_of : (s : State) (anchor focus : Point) → may_select s anchor ≡ true → may_select s focus ≡ true → IsPlacedPair s.trees (record { anchor = anchor; focus = focus })
unfolding may_select
pair_of s anchor focus a f = record { anchor = a; focus = f }

valid_selected : (anchor focus : Point) (s : State) → IsValid s → IsValid (selected anchor focus s)
unfolding selected
valid_selected anchor focus s is =
    chosen IsValid (may_select s anchor && may_select s focus)
    (λ h. (let parts = and_parts (may_select s anchor) (may_select s focus) h in valid_selection (Some (record { anchor = anchor; focus = focus })) s (pair_of s anchor focus parts.0 parts.1) is))
    is

valid_extended : (o : Option Pair) (focus : Point) (s : State) → IfSome o (IsPlacedPair s.trees) → IsValid s → IsValid (extended_from o focus s)
unfolding may_select
valid_extended None focus s h is = is
valid_extended (Some pair) focus s h is =
    chosen IsValid (may_select s focus)
    (λ may. valid_selection (Some (record { anchor = pair.anchor; focus = focus })) s (record { anchor = h.anchor; focus = may }) is)
    is

valid_grown : (at : Point) (s : State) → IsValid s → IsValid (grown at s)
unfolding grown
valid_grown at s is =
    chosen IsValid (may_grow s at)
    (λ may. valid_changed s s.trees (mapped (range.Grown at) s.points) is is.forest (mapped_placed (range.Grown at) s.trees s.trees (places-grow s at is may) s.points is.placed))
    is

valid_sent : (n at tail : ℕ) (s : State) → IsValid s → IsValid (sent n at tail s)
unfolding sent
valid_sent n at tail s is =
    chosen IsValid (may_send s n at tail)
    (λ may. valid_changed s s.trees (mapped (range.Split n at tail n 0) s.points) is is.forest (mapped_placed (range.Split n at tail n 0) s.trees s.trees (places-send s n at tail is may) s.points is.placed))
    is

valid_scratched : (pair : Pair) (s : State) → IsValid s → IsValid (scratched pair s)
unfolding scratched
valid_scratched pair s is =
    chosen IsValid (may_select s pair.anchor && may_select s pair.focus)
    (λ h. (
    let parts = and_parts (may_select s pair.anchor) (may_select s pair.focus) h in
    record {
      forest = is.forest;
      placed = record { selection = is.placed.selection; scratch = pair_of s pair.anchor pair.focus parts.0 parts.1; marks = is.placed.marks };
      started = is.started;
      settings = is.settings;
    }))
    is

-- ---- the steps of a tail

valid_extracted : (from : Point) (end target : ℕ) (s : State) → IsValid s → IsValid (extracted from end target s)
valid_extracted from end target s is =
    either_extracted IsValid from end target s (λ may. valid_steps (tail_of s from end target) s (plain_tail s is from end target) (tail_possible s is from end target may) is) is

-- ---- every action, and every run

pub valid_acted : (a : Action) (s : State) → IsValid s → IsValid (acted a s)
unfolding acted extended
valid_acted (action.Change e) s is = valid_edited e s is
valid_acted (action.MakeElement name attributes) s is = valid_made (element_content name attributes) s (λ e. cc) (omega arith) (names_kept (are_distinct attributes) attributes (told_distinct attributes)) is
valid_acted (action.MakeWords chars) s is =
    valid_made (words_content chars) s (words_other (nat_lt (length chars) (2 ^ 32)) chars)
    (words_short (nat_lt (length chars) (2 ^ 32)) chars (λ h. ltb-true (length chars) (2 ^ 32) h)) (words_nameless (nat_lt (length chars) (2 ^ 32)) chars) is
valid_acted (action.Select anchor focus) s is = valid_selected anchor focus s is
valid_acted (action.Extend focus) s is = valid_extended s.points.selection focus s is.placed.selection is
valid_acted action.Unselect s is = valid_selection None s tt is
valid_acted (action.Grow at) s is = valid_grown at s is
valid_acted (action.Send node at tail) s is = valid_sent node at tail s is
valid_acted (action.Scratch pair) s is = valid_scratched pair s is
valid_acted (action.Override command setting) s is = record { forest = is.forest; placed = is.placed; started = is.started; settings = setting_length s.overrides command setting ∙ is.settings }
valid_acted (action.Flag flags) s is = record { forest = is.forest; placed = is.placed; started = is.started; settings = is.settings }
valid_acted (action.Extract from end target) s is = valid_extracted from end target s is

pub valid_along : {s t : State} → Reaches s t → IsValid s → IsValid t
valid_along r is = along IsValid valid_acted r is

pub final_valid : {T : Type 0} (m : Run T) (s : State) → IsValid s → IsValid (final m s)
final_valid m s is = final_keeps IsValid valid_acted m s is
