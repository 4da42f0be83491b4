-- The text of a log after a page block, replayed.
use Rattle.std.proofs.Common.{◌≡◌, ℕ, suc, pred, ◌+◌, ◌<◌, ◌≤◌, Bool, true, false, cond, ◌==◌, map, List, [], ◌∷◌, ◌++◌, length, codes, Option, Some, Ok, refl, sym, ap, subst, ◌∙◌, arith, append_assoc}
use Rattle.std.specs.Prelude.{nat_lt}
use Rattle.std.specs.Bool.{MatchBool}
use Rattle.std.specs.Option.{option_map_or}
use Rattle.std.proofs.lemmas.Bool.Decides.{nat_tests}
use Rattle.edit_model.specs.DomModel.declared.Content.TheVariants.{Document}
use Rattle.edit_model.specs.DomModel.ArenaState.{ArenaState as Arena}
use Rattle.edit_model.specs.DomModel.Forest.{Forest}
use Rattle.edit_model.specs.DomModel.Forest.Forest.{Nil as NoTrees}
use Rattle.inline_value.specs.ForestChanges.Named.{Each}
use Rattle.step_text.specs.PageGrammar.Names.{is_void}
use Rattle.step_text.specs.PageGrammar.Nodes.{nodes_of}
use Rattle.step_text.specs.PageGrammar.Page.{Siblings, Nil, TextNode, CommentNode, ElementNode, Content, EndTag, IsNil, size}
use Rattle.step_text.specs.PageGrammar.Reading.{Children, page_reading}
use Rattle.step_text.specs.Applying.{Labelled, replayed_from}
use Rattle.step_text.specs.StepLine.{IsStepLine, line_text}
use Rattle.edit_engine.specs.Editing.{Editing}
use Rattle.edit_engine.specs.Logs.{log_steps, log_text}
use Rattle.edit_session.specs.Block.{Whole, before_line, lines_of, block_in, block_of}
use Rattle.edit_session.specs.Replay.{none_yet, replayed, replay}
use Rattle.edit_session.specs.Transcript.{input_limit, depth_limit, transcript_of, page_document, replay_ended, replayed_on, replay_block, order_transcript}
use Rattle.edit_session.specs.Words.{Order, Replay, order_of, greatest_cap}
use Rattle.edit_session.specs.declared.session.Status.TheVariants.{Done, Usage}
use Rattle.edit_session.proofs.Grammars.{rests}
use Rattle.grammar_laws.specs.Proper.{AllNodes, IsProper}
use Rattle.replay_laws.specs.Lines.{tallied_all}
use Rattle.replay_laws.specs.Steps.{on_page, StepsReplay}
use Rattle.replay_laws.specs.Texts.{IsReadAs, TextReplays, CallsTextReplays}
use Rattle.replay_laws.proofs.Firsts.{HasFirst, first_stays, text_same}
use Rattle.replay_laws.proofs.Calls.{IsPage, calls_tracked}
use Rattle.replay_laws.proofs.Labels.{IsInGrammar, HasLabels, lines_are}
use Rattle.replay_laws.proofs.LogLines.{steps_are_lines, lines_replay}
use Rattle.replay_laws.proofs.PageNodes.{page_proper}
use Rattle.replay_laws.proofs.ProperCalls.{calls_proper, log_proper}
use Rattle.replay_laws.proofs.Replaying.{lead_from_page, calls_replay}

-- ---- a page within a greater cap

match_second : (b : Bool) (P Q R : Type 0) → (Q → R) → MatchBool b P Q → MatchBool b P R
match_second true P Q R go h = h
match_second false P Q R go h = go h

wider_content : (d c a n : ℕ) (f : Siblings) (s r : List ℕ) → c ≤ a → Content d c n f s r → Content d a n f s r
wider_content d c a n Nil s r le h = h
wider_content d c a n (TextNode l t f) s r le (m, label, low, room, some, not, text, rest) =
    (m, label, (let lt : n < a = omega (arith, low, le) in lt), room, some, not, text, wider_content d c a (suc n) f m r le rest)
wider_content d c a n (CommentNode l t f) s r le (b, m, label, low, room, opens, text, rest) =
    (b, m, label, (let lt : n < a = omega (arith, low, le) in lt), room, opens, text, wider_content d c a (suc n) f m r le rest)
wider_content d c a n (ElementNode l w ts k f) s r le (b, e, m, label, low, room, tag, inner, rest) = (
  b,
  e,
  m,
  label,
  (let lt : n < a = omega (arith, low, le) in lt),
  room,
  tag,
  match_second (is_void w) (IsNil k × (b ≡ m)) (Content (pred d) c (suc n) k b e × EndTag w e m) (Content (pred d) a (suc n) k b e × EndTag w e m)
      (λ h. (wider_content (pred d) c a (suc n) k b e le h.0, h.1)) inner,
  wider_content d c a (suc n + size k) f m r le rest,
)

pub wider_reading : (c : ℕ) (bytes : List ℕ) (children : Siblings) → c ≤ greatest_cap → page_reading depth_limit c bytes ≡ Children children → page_reading depth_limit greatest_cap bytes ≡ Children children
wider_reading c bytes children le e =
    let is = (rests.pages c bytes (Children children)).0 e in
    let page = is.0 in
    (rests.pages greatest_cap bytes (Children children)).1
    ((page.0, page.1, page.2, wider_content depth_limit c greatest_cap 1 children page.0 [] le page.3), is.1)

-- ---- lines after a page block

some_before : (b : ℕ) (lines : List (List ℕ)) → 0 < length (before_line b lines)
some_before b [] = omega arith
some_before b (line ∷ lines) = omega arith

some_lines : (front more : List ℕ) → 0 < length (lines_of (front ++ 10 ∷ more))
some_lines [] more = omega arith
some_lines (b ∷ front) more =
    elim (b == 10) as (λ (t : Bool). 0 < length (cond t ([] ∷ lines_of (front ++ 10 ∷ more)) (before_line b (lines_of (front ++ 10 ∷ more))))) [
      | true ↦ omega arith
      | false ↦ some_before b (lines_of (front ++ 10 ∷ more))
    ]

before_more : (b : ℕ) (lines more : List (List ℕ)) → 0 < length lines → before_line b (lines ++ more) ≡ before_line b lines ++ more
before_more b [] more some = absurd (omega (arith, some))
before_more b (line ∷ lines) more some = refl

pub lines_more : (front more : List ℕ) → lines_of (front ++ 10 ∷ more) ≡ lines_of (front ++ 10 ∷ []) ++ lines_of more
lines_more [] more = refl
lines_more (b ∷ front) more =
    let tail = lines_more front more in
    let some = some_lines front [] in
    elim (b == 10) as (λ (t : Bool). cond t ([] ∷ lines_of (front ++ 10 ∷ more)) (before_line b (lines_of (front ++ 10 ∷ more))) ≡ cond t ([] ∷ lines_of (front ++ 10 ∷ [])) (before_line b (lines_of (front ++ 10 ∷ []))) ++ lines_of more) [
      | true ↦ ap (λ r. [] ∷ r) tail
      | false ↦ ap (before_line b) tail ∙ before_more b (lines_of (front ++ 10 ∷ [])) (lines_of more) some
    ]

pub block_more : (lines acts more : List (List ℕ)) (page : List ℕ) → block_in lines ≡ Whole page acts → block_in (lines ++ more) ≡ Whole page (acts ++ more)
block_more lines acts more page e =
    let k = (rests.blocks lines (Whole page acts)).0 e in
    let longer : lines ++ more ≡ k.0 ∷ (k.2 ++ k.1 ∷ (acts ++ more)) = ap (λ (ls : List (List ℕ)). ls ++ more) k.3 ∙ ap (λ (ls : List (List ℕ)). k.0 ∷ ls) (append_assoc k.2 (k.1 ∷ acts) more) in
    (rests.blocks (lines ++ more) (Whole page (acts ++ more))).1 (k.0, k.1, k.2, longer, k.4, k.5, k.6)

-- ---- the whole

read_first : (bytes : List ℕ) (page : Arena) → IsReadAs bytes page → HasFirst page.trees
read_first bytes page r = record { content = Document; kids = nodes_of r.children; rest = NoTrees; is = r.trees }

page_is : (bytes : List ℕ) (page : Arena) (r : IsReadAs bytes page) → on_page page greatest_cap ≡ page_document r.children
page_is bytes page r = λ i. record { trees = r.trees i; next = r.next i; cap = greatest_cap }

module _ (front bytes : List ℕ) (page : Arena) (e : Editing) (block : block_of (front ++ 10 ∷ []) ≡ Whole bytes []) (r : IsReadAs bytes page)
    (is : IsPage page) (spelled : Each IsInGrammar (log_steps e.history)) (fits : length (front ++ 10 ∷ log_text e.history) ≤ input_limit) (steps : StepsReplay page greatest_cap e) where
  abbrev text : List ℕ
  text = front ++ 10 ∷ log_text e.history

  abbrev lines : List (List ℕ)
  lines = map line_text (log_steps e.history)

  low : HasLabels (on_page page greatest_cap)
  low = record {
    each = λ l here. (let lt = is.forest.below l here in let next = is.capped in let cap = r.capped in omega (arith, lt, next, cap));
    capped = omega arith;
  }

  are : Each IsStepLine (log_steps e.history)
  are = lines_are 1 (log_steps e.history) (on_page page greatest_cap) steps.result steps.ok low spelled

  whole : block_of text ≡ Whole bytes lines
  whole =
      ap block_in (lines_more front (log_text e.history) ∙ ap (λ (ls : List (List ℕ)). lines_of (front ++ 10 ∷ []) ++ ls) (steps_are_lines (log_steps e.history) are))
      ∙ block_more (lines_of (front ++ 10 ∷ [])) [] lines bytes block

  replays : replay lines (page_document r.children) ≡ Ok (replayed (tallied_all (log_steps e.history) none_yet) steps.result)
  unfolding replay
  replays =
      let ok : replayed_from 1 (log_steps e.history) (page_document r.children) ≡ Ok steps.result = subst (λ (d : Labelled). replayed_from 1 (log_steps e.history) d ≡ Ok steps.result) (page_is bytes page r) steps.ok in
      lines_replay 1 (log_steps e.history) (replayed none_yet (page_document r.children)) steps.result are ok

  named : order_of (codes "replay" ∷ []) ≡ Some Replay
  named = (rests.orders (codes "replay" ∷ []) Replay).1 refl

  answered : order_transcript text Replay ≡ replay_block (length text) (block_of text)
  answered = (let n : nat_lt input_limit (length text) ≡ false = grind (arith, nat_tests, fits) in rw n refl)

  pub text_replays : TextReplays front e
  text_replays =
      let t = tallied_all (log_steps e.history) none_yet in
      let d = steps.result in
      let first = first_stays 1 (log_steps e.history) (on_page page greatest_cap) d steps.ok (read_first bytes page r) in
      record {
        next = d.next;
        bounded = steps.bounded;
        answer = ap (λ (o : Option Order). option_map_or (order_transcript text) o (transcript_of Usage [])) named
            ∙ (answered
            ∙ (ap (replay_block (length text)) whole
            ∙ (ap (replayed_on lines) (wider_reading page.cap bytes r.children r.capped r.reading)
            ∙ (ap replay_ended replays
            ∙ ap (transcript_of Done) (text_same t d.trees e.state.trees d.next first steps.document)))));
      }

pub page_nodes : (bytes : List ℕ) (page : Arena) → IsReadAs bytes page → AllNodes IsProper page.trees
page_nodes bytes page r =
    (let is = (rests.pages page.cap bytes (Children r.children)).0 r.reading in subst (λ (f : Forest _). AllNodes IsProper f) (sym r.trees) (page_proper depth_limit page.cap bytes r.children is.0))

pub calls_text_replays : (page : Arena) (e : Editing) → IsPage page → CallsTextReplays page e
calls_text_replays page e is front bytes block r s off shallow fits =
    let tr = calls_tracked page e is s in
    let proper = calls_proper page e is (page_nodes bytes page r) s in
    let lead = lead_from_page page e is s off in
    let spelled = log_proper page.trees page.next page.cap e page.trees page.next tr lead proper in
    text_replays front bytes page e block r is spelled fits (calls_replay page e is greatest_cap r.capped s off shallow)
