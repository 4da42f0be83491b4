-- What the program answers to a session, to its log and to its HTML.
use Rattle.std.proofs.Common.{◌≡◌, ◌≢◌, ℕ, ◌<◌, ◌≤◌, Bool, true, false, cond, List, [], ◌∷◌, ◌++◌, length, codes, Option, Some, refl, sym, ap, subst, ◌∙◌, arith, append_assoc, length-append}
use Rattle.std.specs.Prelude.{nat_lt}
use Rattle.std.specs.Option.{option_map_or}
use Rattle.std.proofs.lemmas.Bool.Decides.{nat_tests}
use Rattle.std.proofs.lemmas.List.{append-nil}
use Rattle.edit_model.specs.DomModel.ArenaState.{ArenaState as Arena}
use Rattle.edit_model.specs.DomModel.Document.{node_count, char_count}
use Rattle.edit_model.specs.DomModel.Places.{kids_in}
use Rattle.step_text.specs.PageGrammar.Kind.{page_limit}
use Rattle.step_text.specs.PageGrammar.Nodes.{document_of}
use Rattle.step_text.specs.PageGrammar.Reading.{page_reading}
use Rattle.step_text.specs.ScriptRead.Reading.{line_of}
use Rattle.page_laws.specs.Tidy.{tidied, numbered}
use Rattle.page_laws.proofs.Tidying.{tidied_html, numbered_html}
use Rattle.page_write.specs.Html.{html_of, document_html}
use Rattle.edit_engine.specs.Editing.{Editing}
use Rattle.edit_engine.specs.Logs.{log_steps, log_text}
use Rattle.edit_engine.specs.Views.{document_numbers, history_numbers, stat_line}
use Rattle.inline_value.specs.EditDoc.Whole.{first_edits, first_state}
use Rattle.edit_session.specs.Block.{Whole, lines_of, block_in, block_of}
use Rattle.edit_session.specs.Replay.{none_yet}
use Rattle.edit_session.specs.Replies.{log_reply, line_reply, replies_to}
use Rattle.edit_session.specs.Transcript.{Transcript, transcript_of, input_limit, depth_limit, page_editing, acted, run_block, checked, order_transcript, transcript}
use Rattle.edit_session.specs.Words.{Order, Run, Check, order_of, greatest_cap}
use Rattle.edit_session.specs.declared.session.Status.TheVariants.{Done, Usage}
use Rattle.edit_session.proofs.Grammars.{rests}
use Rattle.edit_session.proofs.Whole.{order_has_cap}
use Rattle.replay_laws.specs.Bytes.{IsSession, editor_after, with_line, Answers, log_cut, SessionLogsReplay, SessionsReadBack}
use Rattle.replay_laws.specs.Calls.{IsOfCalls}
use Rattle.replay_laws.specs.Lines.{tallied_all}
use Rattle.replay_laws.specs.Sessions.{after_lines}
use Rattle.replay_laws.specs.Texts.{IsReadAs, TextReplays}
use Rattle.replay_laws.proofs.Calls.{IsPage, calls_tracked}
use Rattle.replay_laws.proofs.OrderCaps.{cap_low}
use Rattle.replay_laws.proofs.PageForest.{page_arena, page_is}
use Rattle.replay_laws.proofs.ProperCalls.{calls_proper}
use Rattle.replay_laws.proofs.ReadingBack.{labels_suffice, calls_read_back}
use Rattle.replay_laws.proofs.SessionCalls.{lines_are_calls}
use Rattle.replay_laws.proofs.Texts.{lines_more, block_more, page_nodes, calls_text_replays}
use Rattle.replay_laws.proofs.WrittenNodes.{kids_written}

-- ---- replies

replies_more : (denied : List (List ℕ)) (e : Editing) (acts more : List (List ℕ)) → replies_to denied e (acts ++ more) ≡ replies_to denied e acts ++ replies_to denied (after_lines denied e acts) more
unfolding replies_to after_lines
replies_more denied e [] more = refl
replies_more denied e (act ∷ acts) more =
    let reply = line_reply denied e act in
    ap (λ r. reply.text ++ r) (replies_more denied reply.after acts more)
    ∙ sym (append_assoc reply.text (replies_to denied reply.after acts) (replies_to denied (after_lines denied reply.after acts) more))

one_reply : (denied : List (List ℕ)) (e : Editing) (line : List ℕ) → replies_to denied e (line ∷ []) ≡ (line_reply denied e line).text
unfolding replies_to
one_reply denied e line = append-nil (line_reply denied e line).text

html_reply : (denied : List (List ℕ)) (e : Editing) → (line_reply denied e (codes "html")).text ≡ document_html e.state.trees ++ codes "\n"
unfolding line_reply line_of
html_reply denied e = refl

stat_reply : (denied : List (List ℕ)) (e : Editing) → (line_reply denied e (codes "stat")).text
    ≡ document_numbers (node_count e.state.trees) (char_count e.state.trees) e.state.next ++ history_numbers (first_edits e.history.undo) (length e.history.undo) (length e.history.redo)
unfolding line_reply line_of stat_line
stat_reply denied e = refl

log_line : (denied : List (List ℕ)) (e : Editing) → (line_reply denied e (codes "log")).text ≡ log_reply e
unfolding line_reply line_of
log_line denied e = refl

log_whole : (e : Editing) → log_reply e ≢ log_cut → (e.history.dropped ≡ false) × (log_reply e ≡ log_text e.history)
unfolding log_reply
log_whole e other = by_test e.history.dropped refl other
  where
    by_test : (b : Bool) → e.history.dropped ≡ b → (cond b (codes "! 8 log cut\n") (log_text e.history) ≢ log_cut) → (b ≡ false) × (cond b (codes "! 8 log cut\n") (log_text e.history) ≡ log_text e.history)
    by_test true is off = absurd (off refl)
    by_test false is off = (refl, refl)

-- ---- sessions

module _ (words : List (List ℕ)) (session : List ℕ) (s : IsSession words session) where
  abbrev start : Editing
  start = page_editing s.limits.cap s.limits.undo s.children

  abbrev now : Editing
  now = after_lines s.limits.denied start s.acts

  session_text : (more : List ℕ) → length (session ++ 10 ∷ more) ≤ input_limit → transcript words (session ++ 10 ∷ more) ≡ transcript_of Done (replies_to s.limits.denied start (s.acts ++ lines_of more))
  session_text more fits =
      let input = session ++ 10 ∷ more in
      let off : nat_lt input_limit (length input) ≡ false = grind (arith, nat_tests, fits) in
      let within : order_transcript input (Run s.limits) ≡ run_block s.limits (length input) (block_of input) = rw off refl in
      let block : block_of input ≡ Whole s.page (s.acts ++ lines_of more) = ap block_in (lines_more session more) ∙ block_more (lines_of (session ++ 10 ∷ [])) s.acts (lines_of more) s.page s.block in
      ap (λ (o : Option Order). option_map_or (order_transcript input) o (transcript_of Usage [])) s.order
      ∙ (within
      ∙ (ap (run_block s.limits (length input)) block
      ∙ ap (acted s.limits (s.acts ++ lines_of more)) s.reading))

  before_line : (line : List ℕ) → length (with_line session line) ≤ input_limit → transcript words (session ++ 10 ∷ []) ≡ transcript_of Done (replies_to s.limits.denied start s.acts)
  before_line line fits =
      let short : length (session ++ 10 ∷ []) ≤ input_limit = (let a = length-append session (10 ∷ []) in let b = length-append session (10 ∷ (line ++ codes "\n")) in omega (arith, a, b, fits)) in
      session_text [] short ∙ ap (λ (acts : List (List ℕ)). transcript_of Done (replies_to s.limits.denied start acts)) (append-nil s.acts)

  pub line_answers : (line reply : List ℕ) → lines_of (line ++ codes "\n") ≡ line ∷ [] → (line_reply s.limits.denied now line).text ≡ reply → length (with_line session line) ≤ input_limit → Answers words session line reply
  line_answers line reply one told fits =
      let denied = s.limits.denied in
      let whole = session_text (line ++ codes "\n") fits in
      let text : replies_to denied start (s.acts ++ lines_of (line ++ codes "\n")) ≡ replies_to denied start s.acts ++ reply =
      ap (λ (ls : List (List ℕ)). replies_to denied start (s.acts ++ ls)) one
      ∙ (replies_more denied start s.acts (line ∷ [])
      ∙ ap (λ r. replies_to denied start s.acts ++ r) (one_reply denied now line ∙ told)) in
      record { is = whole ∙ (ap (transcript_of Done) text ∙ sym (ap (λ (t : Transcript). transcript_of Done (t.text ++ reply)) (before_line line fits))) }

  -- ---- the editor of the session

  abbrev page : Arena
  page = page_arena s.limits.cap s.children

  bounds : (0 < s.limits.cap) × (0 < s.limits.undo)
  bounds = order_has_cap words (Run s.limits) ((rests.orders words (Run s.limits)).0 s.order)

  pub is_page : IsPage page
  is_page = page_is s.limits.cap s.page s.children bounds.0 s.reading

  pub of_calls : IsOfCalls page now
  of_calls =
      let calls = lines_are_calls s.limits.denied s.acts start in
      record { loose = refl; depth = s.limits.undo; some_depth = bounds.1; calls = calls.calls; texts = calls.texts; is = calls.is }

  pub read_as : IsReadAs s.page page
  read_as = record { children = s.children; reading = s.reading; trees = refl; next = refl; capped = cap_low words s.limits s.order }

-- ---- what an answer must be

cancelled : (xs ys zs : List ℕ) → xs ++ ys ≡ xs ++ zs → ys ≡ zs
cancelled [] ys zs e = e
cancelled (x ∷ xs) ys zs e = cancelled xs ys zs (let t : x ∷ (xs ++ ys) ≡ x ∷ (xs ++ zs) = e in cc)

one_answer : (words : List (List ℕ)) (session line first last : List ℕ) → Answers words session line first → Answers words session line last → first ≡ last
one_answer words session line first last a b =
    cancelled (transcript words (session ++ 10 ∷ [])).text first last (ap (λ (t : Transcript). t.text) (sym a.is ∙ b.is))

-- ---- the log

pub session_logs_replay : SessionLogsReplay
unfolding editor_after
session_logs_replay words session front log s block fits told whole shallow short =
    let e = now words session s in
    let shorter : length (with_line session (codes "log")) ≤ input_limit =
    (let a = length-append session (10 ∷ codes "html\n") in let b = length-append session (10 ∷ codes "log\n") in omega (arith, a, b, fits)) in
    let room : length (with_line session (codes "stat")) ≤ input_limit =
    (let a = length-append session (10 ∷ codes "html\n") in let b = length-append session (10 ∷ codes "stat\n") in omega (arith, a, b, fits)) in
    let own = line_answers words session s (codes "log") (log_reply e) refl (log_line s.limits.denied e) shorter in
    let same : log ≡ log_reply e = one_answer words session (codes "log") log (log_reply e) told own in
    let is = log_whole e (λ cut. whole (same ∙ cut)) in
    let text : log ≡ log_text e.history = same ∙ is.1 in
    let page = page words session s in
    let r : TextReplays front e = calls_text_replays page e (is_page words session s) front s.page block (read_as words session s) (of_calls words session s) is.0 shallow (subst (λ (w : List ℕ). length (front ++ 10 ∷ w) ≤ input_limit) text short) in
    record {
      tally = tallied_all (log_steps e.history) none_yet;
      nodes = node_count e.state.trees;
      chars = char_count e.state.trees;
      next = r.next;
      own = e.state.next;
      edits = first_edits e.history.undo;
      undo = length e.history.undo;
      redo = length e.history.redo;
      html = document_html e.state.trees;
      replayed = ap (λ (w : List ℕ). transcript (codes "replay" ∷ []) (front ++ 10 ∷ w)) text ∙ r.answer;
      shown = line_answers words session s (codes "html") (document_html e.state.trees ++ codes "\n") refl (html_reply s.limits.denied e) fits;
      counted = line_answers words session s (codes "stat") (document_numbers (node_count e.state.trees) (char_count e.state.trees) e.state.next ++ history_numbers (first_edits e.history.undo) (length e.history.undo) (length e.history.redo)) refl (stat_reply s.limits.denied e) room;
      bounded = r.bounded;
    }

-- ---- the HTML

ended : (xs ys : List ℕ) → xs ++ codes "\n" ≡ ys ++ codes "\n" → xs ≡ ys
ended [] [] e = refl
ended [] (y ∷ ys) e = absurd (let n = ap length e in let l = length-append ys (codes "\n") in omega (arith, n, l))
ended (x ∷ xs) [] e = absurd (let n = ap length e in let l = length-append xs (codes "\n") in omega (arith, n, l))
ended (x ∷ xs) (y ∷ ys) e =
    let t : x ∷ (xs ++ codes "\n") ≡ y ∷ (ys ++ codes "\n") = e in
    let head : x ≡ y = cc in
    let tail : xs ++ codes "\n" ≡ ys ++ codes "\n" = cc in
    (λ i. head i ∷ ended xs ys tail i)

pub sessions_read_back : SessionsReadBack
unfolding editor_after after_lines first_state
sessions_read_back words session html s fits told voids deep short =
    let e = now words session s in
    let page = page words session s in
    let is = is_page words session s in
    let calls = of_calls words session s in
    let read = read_as words session s in
    let f = e.state.trees in
    let own = line_answers words session s (codes "html") (document_html f ++ codes "\n") refl (html_reply s.limits.denied e) fits in
    let same : html ≡ document_html f = ended html (document_html f) (one_answer words session (codes "html") (html ++ codes "\n") (document_html f ++ codes "\n") told own) in
    let size : length (document_html f) ≤ page_limit = subst (λ (w : List ℕ). length w ≤ page_limit) same short in
    let labels = labels_suffice page e is calls in
    let low = cap_low words s.limits s.order in
    let back = λ (c : ℕ) (le : s.limits.cap ≤ c). calls_read_back page e is s.page read calls voids depth_limit c deep (omega (arith, labels, le)) size in
    let check = back greatest_cap low in
    let tr = calls_tracked page e is calls in
    let proper = calls_proper page e is (page_nodes s.page page read) calls in
    let writable = kids_written depth_limit e.state.next f tr.valid.forest proper.state.nodes voids deep in
    let printed : html_of (numbered 1 (tidied (kids_in f))) ≡ html = numbered_html 1 (tidied (kids_in f)) ∙ (tidied_html depth_limit (kids_in f) writable ∙ sym same) in
    let off : nat_lt input_limit (length html) ≡ false = (let le : length html ≤ input_limit = omega (arith, short) in grind (arith, nat_tests, le)) in
    let asked : order_of (codes "check" ∷ []) ≡ Some Check = (rests.orders (codes "check" ∷ []) Check).1 refl in
    let within : order_transcript html Check ≡ checked (page_reading depth_limit greatest_cap html) = rw off refl in
    record {
      nodes = node_count (document_of check.children);
      chars = char_count (document_of check.children);
      accepted = ap (λ (o : Option Order). option_map_or (order_transcript html) o (transcript_of Usage [])) asked
          ∙ (within ∙ ap checked (ap (page_reading depth_limit greatest_cap) same ∙ check.reading));
      again = λ others front limits order high block room. (
          let b = back limits.cap high in
          let t : IsSession others front = record { limits = limits; page = html; acts = []; children = b.children; order = order; block = block; reading = ap (page_reading depth_limit limits.cap) same ∙ b.reading } in
          let shown : document_html (document_of b.children) ≡ html = ap html_of b.nodes ∙ printed in
          line_answers others front t (codes "html") (html ++ codes "\n") refl (html_reply limits.denied (now others front t) ∙ ap (λ (w : List ℕ). w ++ codes "\n") shown) room);
    }
