-- What commands do to a state besides edits: making nodes, selecting, and setting overrides and
-- flags.
use Rattle.std.specs.Prelude.{ℕ, ◌+◌, ◌^◌, Bool, ◌&&◌, not, nat_lt, List, [], ◌∷◌, ◌++◌, length, Option, Some, None, if◌then◌else◌}
use Rattle.point_order.specs.DomModel.declared.Content.{Content}
use Rattle.point_order.specs.DomModel.declared.Content.TheVariants.{Element, Words}
use Rattle.point_order.specs.DomModel.declared.attributes.Attribute.{Attribute}
use Rattle.point_order.specs.DomModel.AttributeList.{are_distinct}
use Rattle.point_order.specs.DomModel.Contents.{is_parent_at}
use Rattle.point_order.specs.DomModel.Forest.{with_leaf}
use Rattle.html_names.specs.declared.commands.Command.{Command}
use Rattle.point_order.specs.LiveRange.declared.places.Point.{Point}
use Rattle.point_order.specs.LiveRange.declared.places.Pair.{Pair}
use Rattle.point_order.specs.LiveRange.PointsEdit as range
use Rattle.point_order.specs.LiveRange.LivePoints.{mapped}
use Rattle.point_order.specs.PointOrder.{is_within, is_in_document}
use Rattle.edit_model.specs.declared.settings.Setting.{Setting}
use Rattle.edit_model.specs.declared.settings.Flags.{Flags}
use Rattle.edit_model.specs.State.{State}
use Rattle.edit_model.specs.Overrides.{with_setting}
use Rattle.edit_model.specs.Confined.{is_editable_for, is_made, may_select, may_grow, may_send}
use Rattle.edit_model.specs.Edit.{Edit, trees_after, points_after, changed, change_of, with_change, edited}
use Rattle.edit_model.specs.Tail.{Step, Copy, Do, tail_steps, document_size}

pub data Action : Type 0 where
  Change : (edit : Edit) → Action
  -- a loose node with the next label
  MakeElement : (name : List ℕ) (attributes : List Attribute) → Action
  MakeWords : (chars : List ℕ) → Action
  -- selecting steps
  Select : (anchor focus : Point) → Action
  Extend : (focus : Point) → Action
  Unselect : Action
  Grow : (at : Point) → Action
  Send : (node at tail : ℕ) → Action
  Scratch : (pair : Pair) → Action
  -- settings
  Override : (command : Command) (setting : Setting) → Action
  Flag : (flags : Flags) → Action
  -- what stands in `end` from a point on goes to the end of `target`
  Extract : (from : Point) (end target : ℕ) → Action

-- ---- making

-- a text has at most 4,294,967,295 characters; a longer one is made empty
abbrev pub words_content : List ℕ → Content
words_content chars = if nat_lt (length chars) (2 ^ 32) then Words chars else Words []

-- no two attributes of an element have the same name; a list where two have makes it without any
abbrev pub element_content : List ℕ → List Attribute → Content
element_content name attributes = Element name (if are_distinct attributes then attributes else [])

unfoldable pub made : Content → State → State
made c s = record s {
  trees = with_leaf s.trees s.next c;
  next = s.next + 1;
  made = s.made
      ++ (s.next, c) ∷ [];
}

-- ---- selecting: a step to where no point may stand is left out

abbrev pub with_selection : Option Pair → State → State
with_selection pair s = changed s s.trees (record s.points { selection = pair })

abbrev pub with_scratch : Option Pair → State → State
with_scratch pair s = record s { points = record s.points { scratch = pair } }

unfoldable pub selected : Point → Point → State → State
selected anchor focus s =
    if may_select s anchor && may_select s focus then with_selection (Some (record {
      anchor = anchor;
      focus = focus;
    })) s else s

abbrev pub extended_from : Option Pair → Point → State → State
extended_from None focus s = s
extended_from (Some pair) focus s = if may_select s focus then with_selection (Some (record {
  anchor = pair.anchor;
  focus = focus;
})) s else s

unfoldable pub extended : Point → State → State
extended focus s = extended_from s.points.selection focus s

-- each kept point at the place grows by 1
unfoldable pub grown : Point → State → State
grown at s = if may_grow s at then changed s s.trees (mapped (range.Grown at) s.points) else s

-- the points of a text past an offset go to another text (the points of its parent are not moved by
-- this)
unfoldable pub sent : ℕ → ℕ → ℕ → State → State
sent node at tail s = if may_send s node at tail then changed s s.trees
    (mapped (range.Split node at tail node 0) s.points) else s

unfoldable pub scratched : Pair → State → State
scratched pair s =
    if may_select s pair.anchor && may_select s pair.focus then with_scratch (Some pair) s else s

-- ---- extracting a tail

-- the state after an edit that is made without its test: the trees allow each edit of a tail, and
-- the parents are open, but what is removed need not be editable
unfoldable pub applied : Edit → State → State
applied e s =
    with_change (change_of e s.trees)
    (changed s (trees_after e s.trees) (points_after e s.trees s.points))

unfoldable pub stepped : Step → State → State
stepped (Copy content) s = made content s
stepped (Do e) s = applied e s

unfoldable pub stepped_all : List Step → State → State
stepped_all [] s = s
stepped_all (x ∷ xs) s = stepped_all xs (stepped x s)

unfoldable pub tail_of : State → Point → ℕ → ℕ → List Step
tail_of s from end target = tail_steps (document_size s.trees) s.trees from end target s.next

-- The point's node can have children, and is `end` or stands below it; both are editable, in the
-- document. The target was made by the command, stands in the document, can have children, and is
-- neither `end` nor below it. The command isn't a keeping one.
unfoldable pub may_extract : State → Point → ℕ → ℕ → Bool
may_extract s from end target =
    not s.keeping && (is_editable_for s end && (is_in_document s.trees end
    && (is_editable_for s from.label && (is_parent_at s.trees from.label
    && (is_within s.trees end from.label && (is_made s target
    && (is_in_document s.trees target && (is_parent_at s.trees target
    && not (is_within s.trees end target)))))))))

-- The steps are one action, since between them nodes of the document stand in loose trees, and
-- islands among them. Wherever insertParagraph extracts a tail, this is what the standard's single
-- edits do, each left out by itself where it may not be made (`tails_are_single_edits` and
-- `paragraphs_extract_singly` of crate caret_laws).
unfoldable pub extracted : Point → ℕ → ℕ → State → State
extracted from end target s =
    if may_extract s from end target then stepped_all (tail_of s from end target) s else s

-- ---- the state after an action

unfoldable pub acted : Action → State → State
acted (Change e) s = edited e s
acted (MakeElement name attributes) s = made (element_content name attributes) s
acted (MakeWords chars) s = made (words_content chars) s
acted (Select anchor focus) s = selected anchor focus s
acted (Extend focus) s = extended focus s
acted Unselect s = with_selection None s
acted (Grow at) s = grown at s
acted (Send node at tail) s = sent node at tail s
acted (Scratch pair) s = scratched pair s
acted (Override command setting) s =
    record s { overrides = with_setting s.overrides command setting }
acted (Flag flags) s = record s { flags = flags }
acted (Extract from end target) s = extracted from end target s
