-- How the parts of a run follow their transcripts.
use Rattle.std.proofs.Common.{◌≡◌, ◌≢◌, ◌==◌, Bool, true, false, ℕ, suc, ◌<◌, ◌≤◌, List, [], ◌∷◌, ◌++◌, length, Option, Some, None, Result, Ok, Err, refl, sym, ap, ◌∙◌, subst, inl, inr, arith, append_assoc}
use Rattle.std.proofs.lemmas.Bool.Decides.{nat_tests}
use Rattle.std.proofs.lemmas.List.{append-nil}
use Rattle.std.specs.Io.KnownBytes.{Appends}
use Rattle.std.proofs.KnownBytes.{Appends-nil, Appends-trans}
use Rattle.edit_io.specs.Told.{TakesPrefix}
use Rattle.edit_io.proofs.Told.{takes_whole, takes_longer, takes_after}
use Rattle.edit_io.proofs.Faults.{Rose-after}
use Rattle.edit_model.specs.DomModel.declared.Content.{Content}
use Rattle.edit_model.specs.DomModel.Forest.{Forest}
use Rattle.edit_model.specs.DomModel.ArenaState.{ArenaState}
use Rattle.step_text.specs.PageGrammar.Page.{Siblings}
use Rattle.step_text.specs.PageGrammar.Kind.{Kind}
use Rattle.step_text.specs.PageGrammar.Nodes.{document_of}
use Rattle.step_text.specs.PageGrammar.Reading.{Reading, Children, Refused, page_reading}
use Rattle.page_read.specs.Answer.{IsFaultAnswer}
use Rattle.page_read.specs.declared.faults.PageFault.{PageFault}
use Rattle.edit_session.specs.Block.{Block, NoOpening, NoClosing, Whole, lines_of, block_of}
use Rattle.inline_value.specs.EditDoc.Whole.{first_state}
use Rattle.edit_engine.specs.Editing.{Editing, new_editing}
use Rattle.step_text.specs.PageGrammar.Page.{size}
use Rattle.edit_model.specs.DomModel.Forest.{tops}
use Rattle.page_read.specs.Answer.{IsDocument}
use Rattle.edit_session.specs.Replies.{line_reply, replies_to}
use Rattle.edit_session.specs.Transcript.{Transcript, transcript_of, page_editing, page_document, checked, acted, run_block, step_refused, replay_ended, replayed_on, replay_block, gives}
use Rattle.edit_session.specs.Following.{Follows, IsWanted, Answered}
use Rattle.edit_session.specs.declared.session.Status.{Status}
use Rattle.edit_session.specs.declared.session.Status.TheVariants.{Done, Memory}
use Rattle.edit_session.specs.Bulk.{bulk_text}
use Rattle.edit_session.specs.Words.{Limits, Order, Run, Check, Replay, Bulk, usual_limits}
use Rattle.edit_session.specs.Replay.{Replayed, replay, IsFault}
use Rattle.edit_session.specs.declared.replay.Refusal.{Refusal}
use Rattle.step_text.specs.Applying.{labelled}
use Rattle.step_text.specs.declared.line.StepFault.{StepFault}
use Rattle.step_text.specs.declared.line.StepFault.TheVariants as faults

-- ---- statuses that no transcript gives

not_memory : (want : Transcript) → Answered want.status → Memory ≡ want.status → ⊥
not_memory want answered e = subst Answered (sym e) answered

-- ---- the answers of a part

pub nothing_taken : (told : Option (List ℕ)) (text : List ℕ) → TakesPrefix told told text
nothing_taken told text = record { count = 0; within = omega arith; taken = Appends-nil told }

pub follows_memory : (want : Transcript) (before after : Option (List ℕ)) (count count_after : ℕ) → Answered want.status → TakesPrefix before after want.text → count ≤ count_after → Follows want before after count count_after Memory
follows_memory want before after count count_after answered taken counted = record {
  written = taken;
  whole = λ e. absurd (not_memory want answered e);
  cause = inr (inr refl);
  counted = counted;
}

-- out of memory before anything was written
pub follows_nothing : (want : Transcript) (told : Option (List ℕ)) (count : ℕ) → Answered want.status → Follows want told told count count Memory
follows_nothing want told count answered = follows_memory want told told count count answered (nothing_taken told want.text) (omega arith)

-- ---- refused pages

pub checked_answered : (r : Reading) → Answered (checked r).status
checked_answered (Children f) = tt
checked_answered (Refused place kind) = tt

pub acted_answered : (limits : Limits) (acts : List (List ℕ)) (r : Reading) → Answered (acted limits acts r).status
acted_answered limits acts (Children f) = tt
acted_answered limits acts (Refused place kind) = tt

pub block_answered : (limits : Limits) (size : ℕ) (b : Block) → Answered (run_block limits size b).status
block_answered limits size NoOpening = tt
block_answered limits size NoClosing = tt
block_answered limits size (Whole page acts) = acted_answered limits acts (page_reading 200 limits.cap page)

pub ended_answered : (r : Result Replayed Refusal) → Answered (replay_ended r).status
ended_answered (Ok r) = tt
ended_answered (Err refusal) = tt

pub replayed_answered : (lines : List (List ℕ)) (r : Reading) → Answered (replayed_on lines r).status
replayed_answered lines (Children f) = ended_answered (replay lines (page_document f))
replayed_answered lines (Refused place kind) = tt

pub replay_answered : (size : ℕ) (b : Block) → Answered (replay_block size b).status
replay_answered size NoOpening = tt
replay_answered size NoClosing = tt
replay_answered size (Whole page lines) = replayed_answered lines (page_reading 200 2000000 page)

pub gives_answered : (order : Order) (text : List ℕ) → Answered (gives order text).status
gives_answered Check text = checked_answered (page_reading 200 2000000 text)
gives_answered (Run limits) text = block_answered limits (length text) (block_of text)
gives_answered Replay text = replay_answered (length text) (block_of text)
gives_answered (Bulk count) text = block_answered usual_limits (length (bulk_text count)) (block_of (bulk_text count))

pub checked_wanted : (cap : ℕ) (bytes : List ℕ) (fault : PageFault) (o : Option Kind) → IsFaultAnswer cap bytes fault o → IsWanted fault.at o (checked (page_reading 200 cap bytes))
checked_wanted cap bytes fault None e = tt
checked_wanted cap bytes fault (Some kind) e = ap checked e

pub acted_wanted : (limits : Limits) (acts : List (List ℕ)) (bytes : List ℕ) (fault : PageFault) (o : Option Kind) → IsFaultAnswer limits.cap bytes fault o → IsWanted fault.at o (acted limits acts (page_reading 200 limits.cap bytes))
acted_wanted limits acts bytes fault None e = tt
acted_wanted limits acts bytes fault (Some kind) e = ap (acted limits acts) e

pub replayed_wanted : (lines : List (List ℕ)) (bytes : List ℕ) (fault : PageFault) (o : Option Kind) → IsFaultAnswer 2000000 bytes fault o → IsWanted fault.at o (replayed_on lines (page_reading 200 2000000 bytes))
replayed_wanted lines bytes fault None e = tt
replayed_wanted lines bytes fault (Some kind) e = ap (replayed_on lines) e

-- the line of a fault is the line that is wanted
pub step_wanted : (refusal : Refusal) (want : Result Replayed Refusal) (fault : StepFault) → fault ≢ faults.Memory → IsFault refusal fault want → step_refused refusal ≡ replay_ended want
step_wanted refusal want faults.Syntax other e = sym (ap replay_ended e)
step_wanted refusal want faults.BadLabel other e = sym (ap replay_ended e)
step_wanted refusal want faults.BadPlace other e = sym (ap replay_ended e)
step_wanted refusal want faults.TooDeep other e = sym (ap replay_ended e)
step_wanted refusal want faults.Memory other e = absurd (other refl)

-- ---- acts one after another

pub replies_to-cons : (denied : List (List ℕ)) (e : Editing) (line : List ℕ) (lines : List (List ℕ)) → replies_to denied e (line ∷ lines) ≡ (line_reply denied e line).text ++ replies_to denied (line_reply denied e line).after lines
unfolding replies_to
replies_to-cons denied e line lines = refl

pub replies_to-nil : (denied : List (List ℕ)) (e : Editing) → replies_to denied e [] ≡ []
unfolding replies_to
replies_to-nil denied e = refl

-- What the acts so far had to write is written, and rest is still to be written.
pub record SoFar (start now : Option (List ℕ)) (rest whole : List ℕ) : Type 0 where
  pub done : List ℕ
  pub taken : Appends start now done
  pub all : done ++ rest ≡ whole

pub so_far-start : (told : Option (List ℕ)) (text : List ℕ) → SoFar told told text text
so_far-start told text = record { done = []; taken = Appends-nil told; all = refl }

-- a reply that is written whole
pub so_far-more : (start old new : Option (List ℕ)) (reply rest text whole : List ℕ) → SoFar start old text whole → text ≡ reply ++ rest → Appends old new reply → SoFar start new rest whole
so_far-more start old new reply rest text whole s parts now = record {
  done = s.done ++ reply;
  taken = Appends-trans start old new s.done reply s.taken now;
  all = (let regrouped : (s.done ++ reply) ++ rest ≡ s.done ++ (reply ++ rest) = append_assoc s.done reply rest in regrouped ∙ ap (λ x. s.done ++ x) (sym parts) ∙ s.all);
}

-- a reply that ends the run
pub so_far-ends : (start old new : Option (List ℕ)) (reply rest text whole : List ℕ) (c0 c1 c2 : ℕ) (status : Status) → SoFar start old text whole → text ≡ reply ++ rest → Follows (transcript_of Done reply) old new c1 c2 status → c0 ≤ c1 → status ≢ Done → Follows (transcript_of Done whole) start new c0 c2 status
so_far-ends start old new reply rest text whole c0 c1 c2 status s parts f less other = record {
  written = (
      let longer : TakesPrefix old new text = subst (λ x. TakesPrefix old new x) (sym parts) (takes_longer old new reply rest f.written) in
      subst (λ x. TakesPrefix start new x) s.all (takes_after start old new s.done text s.taken longer));
  whole = λ e. absurd (other e);
  cause = elim f.cause [
    | inl e ↦ absurd (other e)
    | inr (inl (e, rose)) ↦ inr (inl (e, Rose-after c0 c1 c2 less rose))
    | inr (inr e) ↦ inr (inr e)
  ];
  counted = omega (arith, less, f.counted);
}

-- all replies are written
pub so_far-whole : (start now : Option (List ℕ)) (rest whole : List ℕ) (c0 c1 : ℕ) → SoFar start now rest whole → rest ≡ [] → c0 ≤ c1 → Follows (transcript_of Done whole) start now c0 c1 Done
so_far-whole start now rest whole c0 c1 s none less =
    let text : s.done ≡ whole = sym (append-nil s.done) ∙ ap (λ x. s.done ++ x) (sym none) ∙ s.all in
    let all : Appends start now whole = subst (Appends start now) text s.taken in
    record {
      written = takes_whole start now whole all;
      whole = λ _. all;
      cause = inl refl;
      counted = less;
    }

-- the replies to some lines are that to the first, and then those to the others by the editor that it leaves
pub acts_parted : (denied : List (List ℕ)) (e : Editing) (text line later : List ℕ) → 0 < length text → (0 < length text → lines_of text ≡ line ∷ lines_of later) → replies_to denied e (lines_of text) ≡ (line_reply denied e line).text ++ replies_to denied (line_reply denied e line).after (lines_of later)
acts_parted denied e text line later some parts = ap (replies_to denied e) (parts some) ∙ replies_to-cons denied e line (lines_of later)

pub some_left : (empty : Bool) (text : List ℕ) → empty ≡ (length text == 0) → empty ≡ false → 0 < length text
some_left empty text is none = grind (arith, nat_tests)

pub none_left : (denied : List (List ℕ)) (e : Editing) (empty : Bool) (text : List ℕ) → empty ≡ (length text == 0) → empty ≡ true → replies_to denied e (lines_of text) ≡ []
none_left denied e empty [] is so = replies_to-nil denied e
none_left denied e empty (b ∷ text) is so = absurd (let z : (length (b ∷ text) == 0) ≡ true = sym is ∙ so in grind (arith, nat_tests))

-- ---- a page's editor

pub page_replies : (denied : List (List ℕ)) (a : ArenaState) (cap undo : ℕ) (f : Siblings) (lines : List (List ℕ)) → IsDocument a cap f → replies_to denied (new_editing a undo) lines ≡ replies_to denied (page_editing cap undo f) lines
unfolding first_state
page_replies denied a cap undo f lines d = ap (λ e. replies_to denied e lines) (by_parts a.trees a.next a.cap d.trees d.next d.cap)
  where
    by_parts : (t : Forest Content) (n k : ℕ) → t ≡ document_of f → n ≡ suc (size f) → k ≡ cap → new_editing (record { trees = t; next = n; cap = k; held = [] }) undo ≡ page_editing cap undo f
    by_parts t n k et en ek = rw (et, en, ek) refl

pub alone : (a : ArenaState) (cap : ℕ) (f : Siblings) → IsDocument a cap f → tops a.trees ≡ 0 ∷ []
alone a cap f d = rw d.trees refl

pub page_labelled : (a : ArenaState) (f : Siblings) → IsDocument a 2000000 f → labelled a ≡ page_document f
page_labelled a f d = rw (d.trees, d.next, d.cap) refl
