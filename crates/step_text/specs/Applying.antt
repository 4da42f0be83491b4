-- What the step lines of a log do to a labelled document, and which lines don't fit it.
use Rattle.std.specs.Prelude.{ℕ, ◌+◌, Bool, true, false, not, ◌&&◌, ◌==◌, nat_lt, nat_le, List, [], ◌∷◌, length, Option, Some, None, is_some, is_none, Result, Ok, Err, if◌then◌else◌}
use Rattle.std.specs.Option.{option_map_or}
use Rattle.page_grammar.specs.DomModel.declared.Content.{Content}
use Rattle.page_grammar.specs.DomModel.declared.Content.TheVariants as content
use Rattle.page_grammar.specs.DomModel.Contents.{has_name, is_parent_at}
use Rattle.page_grammar.specs.DomModel.Forest.{Forest, content_of, parent_of, with_leaf}
use Rattle.page_grammar.specs.DomModel.ArenaState.{ArenaState}
use Rattle.edit_parts.specs.EditModel.Confined.{is_there, is_place}
use Rattle.edit_parts.specs.EditModel.Heights.{reach_of}
use Rattle.edit_steps.specs.ForestChanges.Change.{applied}
use Rattle.page_grammar.specs.DomModel.Change as change
use Rattle.edit_parts.specs.PointOrder.PointOrder.{is_within, is_in_document}
use Rattle.step_text.specs.declared.line.Made.{Made}
use Rattle.step_text.specs.declared.line.Made.TheVariants.{Element, Words as OfWords}
use Rattle.step_text.specs.declared.line.StepFault.{StepFault}
use Rattle.step_text.specs.declared.line.StepFault.TheVariants.{BadLabel, BadPlace, TooDeep}
use Rattle.step_text.specs.declared.line.StepLine.{StepLine}
use Rattle.step_text.specs.declared.line.StepLine.TheVariants.{Entry, Make, Insert, Remove, Move, Words, Tag}

-- the document and the loose trees, the label that the next node gets, and the cap
pub record Labelled : Type 0 where
  pub trees : Forest Content
  pub next : ℕ
  pub cap : ℕ

abbrev pub labelled : ArenaState → Labelled
labelled a = record { trees = a.trees; next = a.next; cap = a.cap }

-- ---- which lines fit

abbrev pub is_there_or_end : Forest Content → Option ℕ → Bool
is_there_or_end f None = true
is_there_or_end f (Some l) = is_there f l

-- `make` draws a label that wasn't drawn yet, below the cap; the labels of all other lines name
-- nodes, which may be loose
unfoldable pub has_labels : StepLine → Labelled → Bool
has_labels Entry d = true
has_labels (Make l made) d = nat_le d.next l && nat_lt l d.cap
has_labels (Insert l p b) d =
    is_there d.trees l && (is_there d.trees p && is_there_or_end d.trees b)
has_labels (Remove l) d = is_there d.trees l
has_labels (Move l p b) d = is_there d.trees l && (is_there d.trees p && is_there_or_end d.trees b)
has_labels (Words l words) d = is_there d.trees l
has_labels (Tag l name attributes) d = is_there d.trees l

-- the tree of l can stand under p, which is the Document or an element that isn't in that tree,
-- before b
unfoldable pub can_stand : Forest Content → ℕ → ℕ → Option ℕ → Bool
can_stand f l p b = is_parent_at f p && (not (is_within f l p) && is_place f p b l)

-- a tree is loose: its root has no parent and isn't the Document
abbrev pub is_loose : Forest Content → ℕ → Bool
is_loose f l = is_none (parent_of f l) && not (l == 0)

abbrev pub is_text : Content → Bool
is_text (content.Words words) = true
is_text _ = false

abbrev pub is_text_at : Forest Content → ℕ → Bool
is_text_at f l = option_map_or is_text (content_of f l) false

-- the nodes are of the kind that the line wants, and can go where it says
unfoldable pub has_place : StepLine → Forest Content → Bool
has_place Entry f = true
has_place (Make l made) f = true
has_place (Insert l p b) f = is_loose f l && can_stand f l p b
has_place (Remove l) f = is_some (parent_of f l)
has_place (Move l p b) f = is_some (parent_of f l) && can_stand f l p b
has_place (Words l words) f = is_text_at f l
has_place (Tag l name attributes) f = has_name f l name

-- the tree of l may come to stand under p: that isn't in the document, or no node comes to be too
-- deep there
unfoldable pub has_room_under : Forest Content → ℕ → ℕ → Bool
has_room_under f l p = if is_in_document f p then nat_le (reach_of p l f) 1000 else true

-- the document doesn't become too deep
unfoldable pub has_room : StepLine → Forest Content → Bool
has_room (Insert l p b) f = has_room_under f l p
has_room (Move l p b) f = has_room_under f l p
has_room _ f = true

-- why a line doesn't fit a document, if it doesn't
unfoldable pub fault_of : StepLine → Labelled → Option StepFault
fault_of x d =
    if has_labels x d
    then (if has_place x d.trees then (if has_room x d.trees then None else Some TooDeep)
    else Some BadPlace)
    else Some BadLabel

-- ---- what lines do

-- the content of a node that is made
abbrev pub made_content : Made → Content
made_content (Element name attributes) = content.Element name attributes
made_content (OfWords words) = content.Words words

unfoldable pub trees_after : StepLine → Forest Content → Forest Content
trees_after Entry f = f
trees_after (Make l made) f = with_leaf f l (made_content made)
trees_after (Insert l p b) f = applied (change.Insert l p b) f
trees_after (Remove l) f = applied (change.Remove l) f
trees_after (Move l p b) f = applied (change.Move l p b) f
trees_after (Words l words) f = applied (change.SetText l words) f
trees_after (Tag l name attributes) f = applied (change.SetAttributes l attributes) f

abbrev pub next_after : StepLine → ℕ → ℕ
next_after (Make l made) next = l + 1
next_after _ next = next

-- the document after a line that fits
unfoldable pub line_applied : StepLine → Labelled → Labelled
line_applied x d = record d { trees = trees_after x d.trees; next = next_after x d.next }

-- the line of this number is refused, or else what comes of those after it
abbrev pub refused_or : ℕ → Option StepFault → Result Labelled (ℕ × StepFault)
    → Result Labelled (ℕ × StepFault)
refused_or number None onward = onward
refused_or number (Some fault) onward = Err (number, fault)

-- the number of the first line that doesn't fit, where the first of the list has this number, and
-- why; else the document after all
unfoldable pub replayed_from : ℕ → List StepLine → Labelled → Result Labelled (ℕ × StepFault)
replayed_from number [] d = Ok d
replayed_from number (x ∷ xs) d =
    refused_or number (fault_of x d) (replayed_from (number + 1) xs (line_applied x d))

-- lines one after another, numbered from 1
abbrev pub replayed : List StepLine → Labelled → Result Labelled (ℕ × StepFault)
replayed xs d = replayed_from 1 xs d

-- how many characters the text of a line has
abbrev pub made_length : Made → ℕ
made_length (Element name attributes) = 0
made_length (OfWords words) = length words

abbrev pub text_length : StepLine → ℕ
text_length (Make l made) = made_length made
text_length (Words l words) = length words
text_length _ = 0
