-- What the calls of an editor's handle tell.
use Rattle.std.specs.Prelude.{◌≡◌, ◌⊎◌, ℕ, ◌<◌, ◌≤◌, ◌++◌, ◌==◌, nat_lt, List, length, drop, Bool, true, false, not, MatchOption, encode_utf8_all, Option, Some, None, Result, Ok, Err, if◌then◌else◌}
use Rattle.std.specs.Option.{option_and_then, option_map, IsSomeAnd}
use Rattle.std.specs.Str.{IsUtf8, chars}
use Rattle.command_gate.specs.Denied.{is_denied}
use Rattle.edit_model.specs.DomModel.ArenaState.{ArenaState}
use Rattle.edit_model.specs.HtmlNames.declared.query.QueryKind.{QueryKind}
use Rattle.edit_model.specs.HtmlNames.declared.query.QueryKind.TheVariants as question
use Rattle.edit_model.specs.LiveRange.LivePoints.{has_mark}
use Rattle.edit_model.specs.LiveRange.declared.places.Pair.{Pair}
use Rattle.edit_model.specs.LiveRange.declared.places.Point.{Point}
use Rattle.page_read.specs.PageGrammar.Reading.{Refused, page_reading}
use Rattle.page_read.specs.Answer.{IsAnswer}
use Rattle.page_read.specs.Faults.{kind_of}
use Rattle.page_read.specs.declared.faults.PageKind.{PageKind}
use Rattle.page_read.specs.declared.faults.PageKind.TheVariants as page_kind
use Rattle.script_read.specs.declared.act.Place.{Place}
use Rattle.edit_model.specs.History.{Entry}
use Rattle.inline_value.specs.EditQuery.declared.reply.Reply.{Reply}
use Rattle.inline_value.specs.EditQuery.declared.reply.Reply.TheVariants as reply
use Rattle.edit_engine.specs.declared.answers.Answer.{Answer}
use Rattle.edit_engine.specs.declared.answers.Answer.TheVariants as answer
use Rattle.edit_engine.specs.declared.answers.ExecFault.{ExecFault}
use Rattle.edit_engine.specs.declared.answers.ExecFault.TheVariants as exec_fault
use Rattle.edit_engine.specs.declared.answers.RangeFault.{RangeFault}
use Rattle.edit_engine.specs.declared.answers.RangeFault.TheVariants as range_fault
use Rattle.edit_engine.specs.declared.answers.PlaceFault.{PlaceFault}
use Rattle.edit_engine.specs.declared.answers.PlaceFault.TheVariants as place_fault
use Rattle.edit_engine.specs.declared.answers.ViewKind.{ViewKind}
use Rattle.edit_engine.specs.declared.answers.ViewKind.TheVariants.{Html, Tree, Points, Stat}
use Rattle.edit_engine.specs.Editing.{Editing, EditorValue, new_editing}
use Rattle.edit_engine.specs.Execution.{Outcome, Acted, outcome_by, outcome_with, gated_outcome, replaced_outcome}
use Rattle.edit_engine.specs.Execution as exec
use Rattle.edit_engine.specs.Places.{pair_at, pair_from, placed_pair, range_in, selecting, marking, unmarking, IsCrowded}
use Rattle.edit_engine.specs.Queries.{reply_of}
use Rattle.edit_engine.specs.Views.{view_text}
use Rattle.edit_session.specs.Denials.{denied_by}
use Rattle.hedit_c.specs.Statuses.{number_of, answer_status}
use Rattle.hedit_c.specs.declared.editor.acts.CommandOptions.{CommandOptions}
use Rattle.hedit_c.specs.declared.editor.opening.Refusal.{Refusal}
use Rattle.hedit_c.specs.declared.editor.status.Status.{Status}
use Rattle.hedit_c.specs.declared.editor.status.Status.TheVariants.{Done, No, Memory, PageRefused, TooSmall, Full, Deep, BadPlace, TooManyMarks, BadArgument, Closed}

-- ---- the handle

-- the editor that a handle holds, without its slots
abbrev pub editing_of : Option EditorValue → Option Editing
editing_of value = option_map (λ v. v.editing) value

-- the number of the status, and what the call has done to the editor; a closed handle stays closed
abbrev pub Leaves : {E : Type 0} → ℕ → Option E → Option E → (Status → E → E → Type 0) → Type 0
Leaves number None None told = number ≡ number_of Closed
Leaves number None (Some new) told = ⊥
Leaves number (Some old) None told = ⊥
Leaves number (Some old) (Some new) told =
    (status : Status) × (number ≡ number_of status) × told status old new

-- the same of a call that changes nothing but what it answers in, a buffer or a record, which a
-- closed handle leaves as it was
abbrev pub Asks : {A E : Type 0} → ℕ → Option E → (old new : A) → (Status → E → Type 0) → Type 0
Asks number None old new told = (number ≡ number_of Closed) × (new ≡ old)
Asks number (Some e) old new told =
    (status : Status) × (number ≡ number_of status) × told status e

-- the same of a call that changes nothing at all: its answer is its status
abbrev pub Answers : {E : Type 0} → ℕ → Option E → (Status → E → Type 0) → Type 0
Answers number None told = number ≡ number_of Closed
Answers number (Some e) told = (status : Status) × (number ≡ number_of status) × told status e

-- ---- items in a buffer, as the bytes of a text: they stand at the front, and what follows there is
-- as before; or only their count is told

abbrev pub Puts : {A : Type 0} → Status → (items old new : List A) → (n : ℕ) → Type 0
Puts Done items old new n =
    (n ≡ length items) × (length items ≤ length old) × (new ≡ items ++ drop (length items) old)
Puts TooSmall items old new n =
    (n ≡ length items) × (length old < length items) × (new ≡ old)
Puts status items old new n = ⊥

-- the same, where there may be no memory for the items
abbrev pub PutsUnlessMemory : {A : Type 0} → Status → (items old new : List A) → (n : ℕ) → Type 0
PutsUnlessMemory Memory items old new n = new ≡ old
PutsUnlessMemory status items old new n = Puts status items old new n

-- ---- opening

abbrev pub kind_number : PageKind → ℕ
kind_number page_kind.NotUtf8 = 1
kind_number page_kind.BadTag = 2
kind_number page_kind.Unclosed = 3
kind_number page_kind.StrayEnd = 4
kind_number page_kind.BadAttribute = 5
kind_number page_kind.RepeatedAttribute = 6
kind_number page_kind.UnknownReference = 7
kind_number page_kind.UnsupportedElement = 8
kind_number page_kind.TooDeep = 9
kind_number page_kind.TooLong = 10
kind_number page_kind.Full = 11
kind_number page_kind.Memory = 12

-- the reading of the page is refused at this place, for a kind with this number
abbrev pub IsRefusedAt : Refusal → (page : List ℕ) → (limit : ℕ) → Type 0
IsRefusedAt refusal page limit =
    (kind : PageKind) × (refusal.kind ≡ kind_number kind)
    × IsSomeAnd (kind_of kind) (λ k. page_reading 200 limit page ≡ Refused refusal.at k)

-- an editor of the nodes that the page has
abbrev pub IsOpened : Editing → (page : List ℕ) → (limit depth : ℕ) → Type 0
IsOpened e page limit depth =
    (a : ArenaState) × IsAnswer limit page (Ok a) × (e ≡ new_editing a depth)

abbrev pub NotOpened : Status → Refusal → (page : List ℕ) → (limit depth : ℕ) → Type 0
NotOpened PageRefused refusal page limit depth =
    (0 < limit) × (0 < depth) × IsRefusedAt refusal page limit
NotOpened Memory refusal page limit depth = (0 < limit) × (0 < depth)
NotOpened BadArgument refusal page limit depth = (limit ≡ 0) ⊎ (depth ≡ 0)
NotOpened status refusal page limit depth = ⊥

abbrev pub Opens : ℕ → Option Editing → Refusal → (page : List ℕ) → (limit depth : ℕ) → Type 0
Opens number (Some e) refusal page limit depth =
    (number ≡ number_of Done) × IsOpened e page limit depth
Opens number None refusal page limit depth =
    (status : Status) × (number ≡ number_of status) × NotOpened status refusal page limit depth

-- ---- commands

abbrev pub ExecAnswers : Status → Editing → Editing → Outcome → Type 0
ExecAnswers Done old new o = o ≡ Acted true new
ExecAnswers No old new o = ((o ≡ exec.Refused) ⊎ (o ≡ Acted false new)) × (new ≡ old)
ExecAnswers Full old new o = (o ≡ exec.Full) × (new ≡ old)
ExecAnswers Deep old new o = (o ≡ exec.Deep) × (new ≡ old)
ExecAnswers Memory old new o = new ≡ old
ExecAnswers status old new o = ⊥

abbrev pub is_done : Status → Bool
is_done Done = true
is_done _ = false

-- the status of what a command answers
abbrev pub answered_status : Result Answer ExecFault → Status
answered_status (Ok answer.Yes) = Done
answered_status (Ok answer.No) = No
answered_status (Err exec_fault.Full) = Full
answered_status (Err exec_fault.Deep) = Deep
answered_status (Err exec_fault.Memory) = Memory

-- of a joined command or not
abbrev pub ExecTells : (joined : Bool) → Status → Editing → Editing → (name value : List ℕ)
    → Type 0
ExecTells joined BadArgument old new name value = ¬ (IsUtf8 name × IsUtf8 value) × (new ≡ old)
ExecTells joined status old new name value =
    IsUtf8 name × IsUtf8 value
    × ExecAnswers status old new (outcome_by joined old name (chars value))

-- past a gate, which denies the names of a list with a comma between
abbrev pub GatedTells : Status → Editing → Editing → (denied name value : List ℕ) → Type 0
GatedTells BadArgument old new denied name value =
    ((denied_by denied ≡ None) ⊎ ¬ (IsUtf8 name × IsUtf8 value)) × (new ≡ old)
GatedTells Memory old new denied name value = new ≡ old
GatedTells status old new denied name value =
    IsUtf8 name × IsUtf8 value × IsSomeAnd (denied_by denied) (λ names.
    ExecAnswers status old new (gated_outcome names old name (chars value)))

-- ---- commands told a range, joined or not

abbrev pub point : (label offset : ℕ) → Point
point label offset = record { label = label; offset = offset }

-- a number that stands for no if it is 0
abbrev pub is_set : ℕ → Bool
is_set n = not (n == 0)

abbrev pub range_of : CommandOptions → Option Pair
range_of options =
    if options.ranged == 0 then None
    else Some (pair_from (point options.anchor options.anchor_offset)
    (point options.focus options.focus_offset))

-- a denied name is refused before the range is looked at
abbrev pub WithAnswers : Status → Editing → Editing → (denied : List (List ℕ)) → Option Pair
    → (joined : Bool) → (name value : List ℕ) → Type 0
WithAnswers BadPlace old new denied range joined name value =
    (range_in old.state.trees range ≡ None) × (is_denied denied name ≡ false) × (new ≡ old)
WithAnswers Memory old new denied range joined name value = new ≡ old
WithAnswers status old new denied range joined name value =
    MatchOption (range_in old.state.trees range)
    ((status ≡ No) × (is_denied denied name ≡ true) × (new ≡ old))
    (λ at. ExecAnswers status old new (outcome_with denied at joined old name value))

abbrev pub WithTells : Status → Editing → Editing → Option Pair → (joined : Bool)
    → (denied name value : List ℕ) → Type 0
WithTells BadArgument old new range joined denied name value =
    ((denied_by denied ≡ None) ⊎ ¬ (IsUtf8 name × IsUtf8 value)) × (new ≡ old)
WithTells Memory old new range joined denied name value = new ≡ old
WithTells status old new range joined denied name value =
    IsUtf8 name × IsUtf8 value × IsSomeAnd (denied_by denied) (λ names.
    WithAnswers status old new names range joined name (chars value))

-- ---- the history

abbrev pub taken_status : Option Editing → (Editing → List Entry) → Status
taken_status None entries = Closed
taken_status (Some e) entries = answer_status (nat_lt 0 (length (entries e)))

-- ---- selection and marks

abbrev pub place : (path : List ℕ) (offset : ℕ) → Place
place path offset = record { path = path; offset = offset }

abbrev pub unselect_status : Option Editing → Status
unselect_status None = Closed
unselect_status (Some e) = Done

-- the status of what a selecting call answers
abbrev pub selected_status : Result (Unit {0}) PlaceFault → Status
selected_status (Ok _) = Done
selected_status (Err place_fault.BadPlace) = BadPlace
selected_status (Err place_fault.TooManyMarks) = TooManyMarks
selected_status (Err place_fault.Memory) = Memory

-- a pair is selected, where there is one
abbrev pub SelectTells : Status → Editing → Editing → Option Pair → Type 0
SelectTells Done old new found = (pair : Pair) × (found ≡ Some pair) × (new ≡ selecting old pair)
SelectTells BadPlace old new found = (found ≡ None) × (new ≡ old)
SelectTells Memory old new found = new ≡ old
SelectTells status old new found = ⊥

-- the same of two points, for which no memory is asked
abbrev pub SelectPointsTell : Status → Editing → Editing → Option Pair → Type 0
SelectPointsTell Memory old new found = ⊥
SelectPointsTell status old new found = SelectTells status old new found

abbrev pub MarkTells : Status → Editing → Editing → (name : List ℕ) → Option Pair → Type 0
MarkTells Done old new name found =
    (pair : Pair) × (found ≡ Some pair) × (new ≡ marking old name pair)
MarkTells BadPlace old new name found = (found ≡ None) × (new ≡ old)
MarkTells TooManyMarks old new name found = IsCrowded old name × (new ≡ old)
MarkTells Memory old new name found = new ≡ old
MarkTells status old new name found = ⊥

-- the pair at two places of a document, and that of two points, each a label and an offset
abbrev pub pair_there : Editing → (anchor focus : Place) → Option Pair
pair_there e anchor focus = pair_at e.state.trees anchor focus

abbrev pub pair_of_points : Editing → (anchor focus : Point) → Option Pair
pair_of_points e anchor focus = placed_pair e.state.trees anchor focus

abbrev pub UnmarkTells : Status → Editing → Editing → (name : List ℕ) → Type 0
UnmarkTells Done old new name =
    (has_mark name old.state.points ≡ true) × (new ≡ unmarking old name)
UnmarkTells No old new name =
    (has_mark name old.state.points ≡ false) × (new ≡ unmarking old name)
UnmarkTells Memory old new name = new ≡ old
UnmarkTells status old new name = ⊥

-- ---- replacements

-- the status of what a call answers that may be told a range
abbrev pub ranged_status : Result Answer RangeFault → Status
ranged_status (Ok answer.Yes) = Done
ranged_status (Ok answer.No) = No
ranged_status (Err range_fault.BadPlace) = BadPlace
ranged_status (Err range_fault.Full) = Full
ranged_status (Err range_fault.Deep) = Deep
ranged_status (Err range_fault.Memory) = Memory

-- the text stands in the place of the pair, where there is one
abbrev pub ReplaceAnswers : Status → Editing → Editing → Option Pair → (text : List ℕ) → Type 0
ReplaceAnswers BadPlace old new found text = (found ≡ None) × (new ≡ old)
ReplaceAnswers Memory old new found text = new ≡ old
ReplaceAnswers status old new found text =
    IsSomeAnd found (λ range. ExecAnswers status old new (replaced_outcome old range text))

abbrev pub ReplaceTells : Status → Editing → Editing → Option Pair → (text : List ℕ) → Type 0
ReplaceTells BadArgument old new found text = ¬ (IsUtf8 text) × (new ≡ old)
ReplaceTells status old new found text =
    IsUtf8 text × ReplaceAnswers status old new found (chars text)

-- ---- questions

abbrev pub query_kind : ℕ → Option QueryKind
query_kind n =
    if n == 0 then Some question.Supported
    else (if n == 1 then Some question.Enabled
    else (if n == 2 then Some question.Indeterm
    else (if n == 3 then Some question.State
    else (if n == 4 then Some question.Value else None))))

abbrev pub flag_number : Bool → ℕ
flag_number flag = if flag then 1 else 0

-- a reply is a flag, or a text in the buffer
abbrev pub ReplyTells : Status → Reply → (flag : ℕ) → (old new : List ℕ) → (n : ℕ) → Type 0
ReplyTells Memory answer flag old new n = new ≡ old
ReplyTells status (reply.Flag b) flag old new n =
    (status ≡ Done) × (flag ≡ flag_number b) × (n ≡ 0) × (new ≡ old)
ReplyTells status (reply.Wording text) flag old new n =
    (flag ≡ 0) × Puts status (encode_utf8_all text) old new n

abbrev pub QueryTells : Status → Editing → (kind : ℕ) → (name : List ℕ) → (flag : ℕ)
    → (old new : List ℕ) → (n : ℕ) → Type 0
QueryTells BadArgument e kind name flag old new n =
    ((query_kind kind ≡ None) ⊎ ¬ (IsUtf8 name)) × (new ≡ old)
QueryTells status e kind name flag old new n =
    IsUtf8 name × IsSomeAnd (query_kind kind) (λ k.
    ReplyTells status (reply_of e.state k name) flag old new n)

-- ---- what is printed

abbrev pub view_kind : ℕ → Option ViewKind
view_kind n =
    if n == 0 then Some Html
    else (if n == 1 then Some Tree
    else (if n == 2 then Some Points
    else (if n == 3 then Some Stat else None)))

abbrev pub view_of : Editing → ℕ → Option (List ℕ)
view_of e kind = option_and_then (view_text e) (view_kind kind)

abbrev pub ViewTells : Status → Editing → (kind : ℕ) → (old new : List ℕ) → (n : ℕ) → Type 0
ViewTells BadArgument e kind old new n = (view_kind kind ≡ None) × (new ≡ old)
ViewTells Memory e kind old new n = new ≡ old
ViewTells status e kind old new n =
    IsSomeAnd (view_of e kind) (λ text. Puts status text old new n)
