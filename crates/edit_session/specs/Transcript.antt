-- What a run of the program answers: a status, and the text that it writes.
use Rattle.std.specs.Prelude.{ℕ, suc, ◌&&◌, nat_lt, List, [], ◌++◌, length, codes, Result, Ok, Err, if◌then◌else◌}
use Rattle.std.specs.Option.{option_map_or}
use Rattle.std.specs.Fmt.{decimal}
use Rattle.edit_model.specs.DomModel.declared.Content.{Content}
use Rattle.edit_model.specs.DomModel.Forest.{Forest}
use Rattle.edit_model.specs.DomModel.Document.{node_count, char_count}
use Rattle.step_text.specs.PageGrammar.Kind.{Kind, TooLong as PageTooLong, Unclosed, NotUtf8, TooDeep, Full, UnsupportedElement, RepeatedAttribute, UnknownReference, StrayEnd, BadAttribute, BadTag}
use Rattle.step_text.specs.PageGrammar.Nodes.{document_of}
use Rattle.step_text.specs.PageGrammar.Reading.{Reading, Children, Refused, page_reading}
use Rattle.step_text.specs.PageGrammar.Page.{Siblings, size}
use Rattle.page_write.specs.Html.{document_html}
use Rattle.step_text.specs.Applying.{Labelled}
use Rattle.step_text.specs.declared.line.StepFault.{StepFault}
use Rattle.step_text.specs.declared.line.StepFault.TheVariants as steps
use Rattle.edit_engine.specs.Editing.{Editing, new_editing}
use Rattle.edit_engine.specs.Views.{document_numbers}
use Rattle.edit_session.specs.Replies.{replies_to}
use Rattle.edit_session.specs.Replay.{Replayed, replay}
use Rattle.edit_session.specs.declared.replay.Refusal.{Refusal}
use Rattle.edit_session.specs.declared.replay.Tally.{Tally}
use Rattle.edit_session.specs.Words.{Limits, Order, Run, Check, Replay, Bulk, reads_input, order_of, greatest_cap, usual_limits}
use Rattle.edit_session.specs.Bulk.{bulk_text}
use Rattle.edit_session.specs.Block.{Block, NoOpening, NoClosing, Whole, block_of}
use Rattle.edit_session.specs.declared.session.Status.{Status}
use Rattle.edit_session.specs.declared.session.Status.TheVariants.{Done, Usage, PageRefused, TooLong, StepRefused}

pub record Transcript : Type 0 where
  pub status : Status
  pub text : List ℕ

abbrev pub transcript_of : Status → List ℕ → Transcript
transcript_of status text = record { status = status; text = text }

-- how many bytes an input may have
abbrev pub input_limit : ℕ
input_limit = 8388608

-- how deep a page may go
abbrev pub depth_limit : ℕ
depth_limit = 200

-- ---- acts

-- the editor with which a session on a page begins
abbrev pub page_editing : (cap undo : ℕ) → Siblings → Editing
page_editing cap undo children =
    new_editing (record {
      trees = document_of children;
      next = suc (size children);
      cap = cap;
      held = [];
    }) undo

-- ---- pages

-- how a kind of fault is printed
abbrev pub word_of : Kind → List ℕ
word_of PageTooLong = codes "too-long"
word_of Unclosed = codes "unclosed"
word_of NotUtf8 = codes "not-utf8"
word_of TooDeep = codes "too-deep"
word_of Full = codes "full"
word_of UnsupportedElement = codes "unsupported-element"
word_of RepeatedAttribute = codes "repeated-attribute"
word_of UnknownReference = codes "unknown-reference"
word_of StrayEnd = codes "stray-end"
word_of BadAttribute = codes "bad-attribute"
word_of BadTag = codes "bad-tag"

-- `! page PLACE KIND`
abbrev pub refused : ℕ → List ℕ → Transcript
refused place word =
    transcript_of PageRefused (codes "! page " ++ decimal place ++ codes " " ++ word ++ codes "\n")

-- `page ok nodes N chars C`; the Document is one of the nodes, and the characters are those of
-- texts
abbrev pub numbers_text : (nodes chars : ℕ) → List ℕ
numbers_text nodes chars =
    codes "page ok nodes " ++ decimal nodes ++ codes " chars " ++ decimal chars ++ codes "\n"

abbrev pub numbers_line : Forest Content → List ℕ
numbers_line trees = numbers_text (node_count trees) (char_count trees)

-- `check`: the whole input is the page
abbrev pub checked : Reading → Transcript
checked (Children children) = transcript_of Done (numbers_line (document_of children))
checked (Refused place kind) = refused place (word_of kind)

-- `run`: the page, and then the acts
abbrev pub acted : Limits → List (List ℕ) → Reading → Transcript
acted limits acts (Children children) =
    transcript_of Done
    (replies_to limits.denied (page_editing limits.cap limits.undo children) acts)
acted limits acts (Refused place kind) = refused place (word_of kind)

abbrev pub run_block : Limits → (size : ℕ) → Block → Transcript
run_block limits size NoOpening = refused 0 (codes "no-opening")
run_block limits size NoClosing = refused size (codes "no-closing")
run_block limits size (Whole page acts) =
    acted limits acts (page_reading depth_limit limits.cap page)

-- ---- step lines

abbrev pub page_document : Siblings → Labelled
page_document children =
    record { trees = document_of children; next = suc (size children); cap = greatest_cap }

-- how a fault of a line is printed
abbrev pub fault_word : StepFault → List ℕ
fault_word steps.Syntax = codes "syntax"
fault_word steps.BadLabel = codes "bad-label"
fault_word steps.BadPlace = codes "bad-place"
fault_word steps.TooDeep = codes "too-deep"
fault_word steps.Memory = codes "memory"

-- `! step NUMBER KIND`
abbrev pub step_text : ℕ → List ℕ → List ℕ
step_text number word = codes "! step " ++ decimal number ++ codes " " ++ word ++ codes "\n"

abbrev pub step_refused : Refusal → Transcript
step_refused r = transcript_of StepRefused (step_text r.number (fault_word r.fault))

-- `replayed E S`, the numbers of the document, and its HTML
abbrev pub tally_text : Tally → List ℕ
tally_text t = codes "replayed " ++ decimal t.entries ++ codes " " ++ decimal t.steps ++ codes "\n"

abbrev pub document_line : (nodes chars next : ℕ) → List ℕ
document_line nodes chars next = document_numbers nodes chars next ++ codes "\n"

abbrev pub replayed_text : Tally → (trees : Forest Content) (next : ℕ) → List ℕ
replayed_text t trees next =
    tally_text t ++ document_line (node_count trees) (char_count trees) next ++ document_html trees
    ++ codes "\n"

abbrev pub replay_ended : Result Replayed Refusal → Transcript
replay_ended (Ok r) = transcript_of Done (replayed_text r.tally r.document.trees r.document.next)
replay_ended (Err refusal) = step_refused refusal

-- `replay`: the page, and then the step lines
abbrev pub replayed_on : List (List ℕ) → Reading → Transcript
replayed_on lines (Children children) = replay_ended (replay lines (page_document children))
replayed_on lines (Refused place kind) = refused place (word_of kind)

abbrev pub replay_block : (size : ℕ) → Block → Transcript
replay_block size NoOpening = refused 0 (codes "no-opening")
replay_block size NoClosing = refused size (codes "no-closing")
replay_block size (Whole page lines) =
    replayed_on lines (page_reading depth_limit greatest_cap page)

-- ---- orders: a row for each

-- the transcript of an order on its text, which is the input where it reads that
abbrev pub gives : Order → List ℕ → Transcript
gives Check text = checked (page_reading depth_limit greatest_cap text)
gives (Run limits) text = run_block limits (length text) (block_of text)
gives Replay text = replay_block (length text) (block_of text)
gives (Bulk count) text =
    run_block usual_limits (length (bulk_text count)) (block_of (bulk_text count))

-- ---- the whole

-- an input that is read must not be too long
abbrev pub order_transcript : List ℕ → Order → Transcript
order_transcript input order =
    if reads_input order && nat_lt input_limit (length input) then transcript_of TooLong []
    else gives order input

-- the words are looked at first, then the length of the input, then the page, then the acts
abbrev pub transcript : List (List ℕ) → List ℕ → Transcript
transcript words input =
    option_map_or (order_transcript input) (order_of words) (transcript_of Usage [])
