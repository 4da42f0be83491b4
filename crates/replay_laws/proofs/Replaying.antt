-- The log of a session begins with its page, and its steps replay on that.
use Rattle.std.proofs.Common.{◌≡◌, ℕ, Bool, false, List, [], ◌∷◌, ◌++◌, reverse, Ok, refl, sym, ap, subst, ◌∙◌, arith}
use Rattle.std.proofs.lemmas.List.{reverse-append}
use Rattle.edit_model.specs.DomModel.declared.Content.{Content}
use Rattle.edit_model.specs.DomModel.ArenaState.{ArenaState as Arena}
use Rattle.edit_model.specs.DomModel.Forest.{Forest}
use Rattle.inline_value.specs.ForestChanges.Named.{Each}
use Rattle.inline_value.proofs.ForestChanges.ChangeLists.{each_of}
use Rattle.edit_model.specs.History.{Entry}
use Rattle.inline_value.specs.EditDoc.Onward.{at_begin, LeadOnward, LeadFrom}
use Rattle.inline_value.proofs.EditDoc.Onwards.{lead_longer, lead_more}
use Rattle.step_text.specs.Applying.{replayed}
use Rattle.edit_engine.specs.Editing.{Editing}
use Rattle.edit_engine.specs.Logs.{log_steps}
use Rattle.edit_engine.specs.Replaying.{StayShallow, IsPlainEntry, page_before, page_of, WasNext}
use Rattle.edit_engine.proofs.ReplayedEntries.{log_replays}
use Rattle.replay_laws.specs.Beginnings.{BeginsWithPage, DrawsNewLabels, IsSpelled, SpellsEntries}
use Rattle.replay_laws.specs.Calls.{IsOfCalls}
use Rattle.replay_laws.specs.Steps.{CallsReplay}
use Rattle.replay_laws.proofs.Calls.{IsPage, alone_first, calls_tracked}
use Rattle.replay_laws.proofs.Chains.{ChainBack, on_low}
use Rattle.replay_laws.proofs.EditsFit.{plain_forest}
use Rattle.replay_laws.proofs.Entries.{IsKnown, each_weaker}
use Rattle.replay_laws.proofs.Leaving.{IsFrom}
use Rattle.replay_laws.proofs.NextLabels.{next_low, log_low}
use Rattle.replay_laws.proofs.Spelling.{each_both, entries_spelled}
use Rattle.replay_laws.proofs.Tracking.{LedFrom}

-- ---- the page

before_last : (ys : List Entry) (x : Entry) (f : Forest Content) → page_before (ys ++ x ∷ []) f ≡ page_before ys x.before.document
before_last [] x f = refl
before_last (y ∷ ys) x f = refl

led_page : (page : Forest Content) (es : List Entry) (f : Forest Content) → LedFrom false page es f → page_before (reverse es) f ≡ page
led_page page [] f led = sym (led refl)
led_page page (x ∷ es) f led =
    ap (λ (w : List Entry). page_before w f) (reverse-append (x ∷ []) es)
    ∙ (before_last (reverse es) x f ∙ led_page page es x.before.document led.1)

pub begins_with_page : (page : Arena) (e : Editing) → IsPage page → BeginsWithPage page e
begins_with_page page e is s off =
    let tr = calls_tracked page e is s in
    led_page page.trees e.history.undo e.state.trees (subst (λ (b : Bool). LedFrom b page.trees e.history.undo e.state.trees) off tr.past)

-- ---- labels

drawn_from : (start next : ℕ) (x : Entry) → IsKnown start next x → Each (IsFrom start) x.made
drawn_from start next x k = each_weaker start k.first x.made k.from k.drawn

pub draws_new_labels : (page : Arena) (e : Editing) → IsPage page → DrawsNewLabels page e
draws_new_labels page e is s off =
    let tr = calls_tracked page e is s in
    record {
      below = record { below = is.forest.below };
      made = each_of (IsKnown page.next e.state.next) (λ (x : Entry). Each (IsFrom page.next) x.made) e.history.undo (drawn_from page.next e.state.next) tr.undo;
    }

-- ---- entries

lead_undo : (page : Forest Content) (start mid : ℕ) (xs : List Entry) (f : Forest Content) → LedFrom false page xs f → ChainBack start mid xs → LeadOnward start page (reverse xs) f mid
lead_undo page start mid [] f led back = (led refl, back)
lead_undo page start mid (x ∷ xs) f led back =
    let link = back.1 in
    let before = lead_undo page start back.0 xs x.before.document led.1 back.2 in
    let one : LeadOnward start page (reverse xs ++ x ∷ []) f mid = subst (λ (g : Forest Content). LeadOnward start page (reverse xs ++ x ∷ []) g mid) led.0
    (lead_more (reverse xs) start page x.before.document back.0 x mid before link.leads link.past) in
    subst (λ (w : List Entry). LeadOnward start page w f mid) (sym (reverse-append (x ∷ []) xs)) one

-- the entries lead on from the page
pub lead_from_page : (page : Arena) (e : Editing) → IsPage page → IsOfCalls page e → e.history.dropped ≡ false → LeadFrom page.trees page.next (reverse e.history.undo) e.state.trees e.state.next
lead_from_page page e is s off =
    let tr = calls_tracked page e is s in
    let led : LedFrom false page.trees e.history.undo e.state.trees = subst (λ (b : Bool). LedFrom b page.trees e.history.undo e.state.trees) off tr.past in
    record {
      forest = plain_forest page.trees page.next is.forest;
      alone = alone_first page.trees page.next is.forest s.loose;
      below = record { below = is.forest.below };
      onward = lead_longer (reverse e.history.undo) page.next page.trees e.state.trees tr.middle e.state.next (on_low tr.middle e.state.next e.history.redo tr.on)
          (lead_undo page.trees page.next tr.middle e.history.undo e.state.trees led tr.back);
    }

pub spells_entries : (page : Arena) (e : Editing) → IsPage page → SpellsEntries page e
spells_entries page e is s off = entries_spelled page.trees page.next page.cap e page.trees page.next (calls_tracked page e is s) (lead_from_page page e is s off)

-- ---- the log

abbrev IsShallow : Entry → Type 0
IsShallow x = StayShallow x.edits (at_begin x)

plain : (x : Entry) → IsSpelled x → IsShallow x → IsPlainEntry x
plain x s shallow = record { made = s.made; texts = s.texts; shallow = shallow }

pub calls_replay : (page : Arena) (e : Editing) → IsPage page → CallsReplay page e
calls_replay page e is cap high s off shallow =
    let tr = calls_tracked page e is s in
    let begins = begins_with_page page e is s off in
    let was : WasNext (page_of e) e.history.undo page.next = subst (λ (f : Forest Content). WasNext f e.history.undo page.next) (sym begins) (draws_new_labels page e is s off) in
    let capped = is.capped in
    let within = tr.within in
    let replays = log_replays e page.trees page.next (lead_from_page page e is s off) in
    let r = replays page.next cap was (omega (arith, capped, high)) (omega (arith, within, high)) (each_both IsSpelled IsShallow IsPlainEntry e.history.undo plain (spells_entries page e is s off) shallow) in
    let ok : replayed (log_steps e.history) (record { trees = page.trees; next = page.next; cap = cap }) ≡ Ok r.result = subst (λ (f : Forest Content). replayed (log_steps e.history) (record { trees = f; next = page.next; cap = cap }) ≡ Ok r.result) begins r.ok in
    record {
      result = r.result;
      ok = ok;
      document = r.document;
      bounded = next_low e.state.next 1 (log_steps e.history) (record { trees = page.trees; next = page.next; cap = cap }) r.result ok tr.low
          (log_low e.state.next page.next tr.middle e (on_low tr.middle e.state.next e.history.redo tr.on) tr.back);
    }
