-- How the whole run follows its transcript, over an input that is told.
use Rattle.std.proofs.Common.{◌≡◌, ◌⊎◌, ◌&&◌, ℕ, ◌<◌, ◌≤◌, Bool, true, false, List, [], ◌∷◌, length, Option, Some, None, IfSome, refl, sym, ap, ◌∙◌, subst, inl, inr, arith, nat_lt, nat_le, unwrap_or, lit<, if◌then◌else◌}
use Rattle.std.specs.Option.{option_map, option_and_then}
use Rattle.std.proofs.lemmas.Bool.Decides.{nat_tests}
use Rattle.std.specs.Io.KnownBytes.{Appends, Consumes, IsAtEnd}
use Rattle.std.proofs.KnownBytes.{Appends-nil, Consumes-whole}
use Rattle.edit_io.specs.Faults.{Rose}
use Rattle.edit_io.specs.Handed.{handed_more}
use Rattle.script_read.specs.Reading.{number_of}
use Rattle.edit_session.specs.Words.{Order, Run, Check, Replay, Bulk, reads_input, Choice, CapAt, UndoUpTo, Denying, Given, order_of, amount_of, choice_of, greatest_cap, greatest_undo, usual_undo, with_choice, AreSettings, IsOrder, none_given}
use Rattle.edit_session.specs.Transcript.{Transcript, transcript_of, transcript, order_transcript, gives}
use Rattle.edit_session.specs.Following.{Follows, RunFollows, IsAnswered, IsBegun, HasCap, Answered}
use Rattle.edit_session.specs.declared.session.Status.{Status}
use Rattle.edit_session.specs.declared.session.Status.TheVariants.{Done, Usage, ReadFault, WriteFault, Memory, PageRefused, TooLong, StepRefused}
use Rattle.edit_session.specs.declared.words.Setting.{Setting}
use Rattle.edit_session.specs.declared.words.Setting.TheVariants.{Cap, Undo, Deny}
use Rattle.edit_session.specs.Denials.{names_of}
use Rattle.edit_session.proofs.Runs.{nothing_taken, gives_answered}

-- ---- an order's cap is a label, and it keeps entries

picked : (b : Bool) (k n : ℕ) → (if b then Some k else None) ≡ Some n → (b ≡ true) × (k ≡ n)
picked true k n e = (refl, let e' = e in cc)
picked false k n e = absurd (let e' = e in cc)

both : (b c : Bool) → b && c ≡ true → b ≡ true
both true c e = refl
both false c e = absurd (let e' = e in cc)

amount_above : (greatest : ℕ) (o : Option ℕ) (n : ℕ) → option_and_then (λ k. if nat_lt 0 k && nat_le k greatest then Some k else None) o ≡ Some n → 0 < n
amount_above greatest None n e = absurd (let e' = e in cc)
amount_above greatest (Some k) n e =
    let p = picked (nat_lt 0 k && nat_le k greatest) k n e in
    let t : nat_lt 0 k ≡ true = both (nat_lt 0 k) (nat_le k greatest) p.0 in
    let above : 0 < k = grind (arith, nat_tests) in
    rw (← p.1) above

abbrev IsAbove : Choice → Type 0
IsAbove (CapAt n) = 0 < n
IsAbove (UndoUpTo n) = 0 < n
IsAbove (Denying names) = Unit {0}

mapped : {A : Type 0} (f : A → Choice) (o : Option A) (x : Choice) → option_map f o ≡ Some x → (n : A) × (o ≡ Some n) × (f n ≡ x)
mapped f None x e = absurd (let e' = e in cc)
mapped f (Some n) x e = (n, refl, let e' = e in cc)

choice_above : (s : Setting) (text : List ℕ) (x : Choice) → choice_of s text ≡ Some x → IsAbove x
choice_above Cap text x e =
    let m = mapped CapAt (amount_of greatest_cap text) x e in
    subst IsAbove m.2 (amount_above greatest_cap (number_of text) m.0 m.1)
choice_above Undo text x e =
    let m = mapped UndoUpTo (amount_of greatest_undo text) x e in
    subst IsAbove m.2 (amount_above greatest_undo (number_of text) m.0 m.1)
choice_above Deny text x e = subst IsAbove (mapped Denying (names_of text) x e).2 tt

abbrev AmountsAbove : Given → Type 0
AmountsAbove o = IfSome o.cap (λ n. 0 < n) × IfSome o.undo (λ n. 0 < n)

settings_above : (xs : List (Setting × Choice)) (words : List (List ℕ)) (before after : Given) → AreSettings xs words before after → AmountsAbove before → AmountsAbove after
settings_above [] words before after s above = subst AmountsAbove s.1 above
settings_above (x ∷ xs) words before after s above =
    settings_above xs s.0 (with_choice before x.1) after s.3 (one x.1 (choice_above x.0 s.1.0 x.1 s.1.1))
  where
    one : (c : Choice) → IsAbove c → AmountsAbove (with_choice before c)
    one (CapAt n) some = (some, above.1)
    one (UndoUpTo n) some = (above.0, some)
    one (Denying names) some = above

picked_above : (o : Option ℕ) (usual : ℕ) → 0 < usual → IfSome o (λ k. 0 < k) → 0 < unwrap_or o usual
picked_above None usual some above = some
picked_above (Some k) usual some above = above

pub order_has_cap : (words : List (List ℕ)) (order : Order) → IsOrder words order → HasCap order
order_has_cap words Check is = tt
order_has_cap words Replay is = tt
order_has_cap words (Bulk count) is = tt
order_has_cap words (Run limits) is =
    let above = settings_above is.0 is.1 none_given is.2 is.4 (tt, tt) in
    rw (is.5) (picked_above is.2.cap greatest_cap (lit< tt) above.0, picked_above is.2.undo usual_undo (lit< tt) above.1)

-- ---- what is told

told_all : {X : Type 0} (o : Option X) (P : X → Type 0) → ((x : X) → P x) → IfSome o P
told_all None P h = tt
told_all (Some x) P h = h x

told_each : {X : Type 0} (o : Option X) (P Q : X → Type 0) → ((x : X) → P x → Q x) → IfSome o P → IfSome o Q
told_each None P Q h p = tt
told_each (Some x) P Q h p = h x p

-- ---- the whole run

usage_transcript : (words : List (List ℕ)) (bytes : List ℕ) → order_of words ≡ None → transcript words bytes ≡ transcript_of Usage []
usage_transcript words bytes none = rw none refl

and_false : (b : Bool) → (b && false) ≡ false
and_false true = refl
and_false false = refl

short_transcript : (words : List (List ℕ)) (bytes : List ℕ) (order : Order) → order_of words ≡ Some order → length bytes ≤ 8388608 → transcript words bytes ≡ gives order bytes
short_transcript words bytes order is short =
    let t : nat_lt 8388608 (length bytes) ≡ false = grind (arith, nat_tests) in
    rw (is, t, and_false (reads_input order)) refl

long_transcript : (words : List (List ℕ)) (bytes : List ℕ) (order : Order) → order_of words ≡ Some order → reads_input order ≡ true → 8388608 < length bytes → transcript words bytes ≡ transcript_of TooLong []
long_transcript words bytes order is reads long =
    let t : nat_lt 8388608 (length bytes) ≡ true = grind (arith, nat_tests) in
    rw (is, reads, t) refl

-- an order that reads no input has one transcript
unread_transcript : (words : List (List ℕ)) (bytes : List ℕ) (order : Order) → order_of words ≡ Some order → reads_input order ≡ false → transcript words bytes ≡ gives order []
unread_transcript words bytes Check is unread = absurd (let e = unread in cc)
unread_transcript words bytes (Run limits) is unread = absurd (let e = unread in cc)
unread_transcript words bytes Replay is unread = absurd (let e = unread in cc)
unread_transcript words bytes (Bulk count) is unread = rw is refl

-- the statuses of the transcripts of orders
abbrev IsGiven : Status → Type 0
IsGiven Done = Unit {0}
IsGiven PageRefused = Unit {0}
IsGiven TooLong = Unit {0}
IsGiven StepRefused = Unit {0}
IsGiven s = ⊥

answered_given : (s : Status) → Answered s → IsGiven s
answered_given Done h = tt
answered_given PageRefused h = tt
answered_given StepRefused h = tt
answered_given Usage h = absurd h
answered_given ReadFault h = absurd h
answered_given WriteFault h = absurd h
answered_given Memory h = absurd h
answered_given TooLong h = absurd h

order_given : (bytes : List ℕ) (order : Order) (b : Bool) → (reads_input order && nat_lt 8388608 (length bytes)) ≡ b → IsGiven (order_transcript bytes order).status
order_given bytes order true t = rw t tt
order_given bytes order false t = rw t (answered_given (gives order bytes).status (gives_answered order bytes))

transcript_given : (words : List (List ℕ)) (bytes : List ℕ) (order : Order) → order_of words ≡ Some order → IsGiven (transcript words bytes).status
transcript_given words bytes order is = rw is (order_given bytes order (reads_input order && nat_lt 8388608 (length bytes)) refl)

-- nothing is written by an order: the status is the transcript's, or has its cause
silent : (want : Transcript) (told : Option (List ℕ)) (r0 r1 w : ℕ) (status : Status) → IsGiven want.status → (status ≡ want.status → want.text ≡ []) → (status ≡ want.status) ⊎ (((status ≡ ReadFault) × Rose r0 r1) ⊎ (status ≡ Memory)) → RunFollows want told told r0 r1 w w status
silent want told r0 r1 w status given empty cause = record {
  written = nothing_taken told want.text;
  whole = λ e. subst (Appends told told) (sym (empty e)) (Appends-nil told);
  cause = elim cause [
    | inl e ↦ inl e
    | inr (inl h) ↦ inr (inl h)
    | inr (inr e) ↦ inr (inr (inr e))
  ];
  usage = λ h. absurd (subst IsGiven h given);
  too_long = λ h. elim cause [
    | inl e ↦ inl (e ∙ h)
    | inr x ↦ inr x
  ];
}

usage_follows : (want : Transcript) (told : Option (List ℕ)) (r w : ℕ) → want ≡ transcript_of Usage [] → RunFollows want told told r r w w Usage
usage_follows want told r w is = record {
  written = nothing_taken told want.text;
  whole = λ _. subst (Appends told told) (sym (ap (λ (t : Transcript). t.text) is)) (Appends-nil told);
  cause = inl (sym (ap (λ (t : Transcript). t.status) is));
  usage = λ _. refl;
  too_long = λ h. absurd (let e : Usage ≡ TooLong = sym (ap (λ (t : Transcript). t.status) is) ∙ h in cc);
}

pub told_usage : (left : Option (List ℕ)) (words : List (List ℕ)) (told : Option (List ℕ)) (r w : ℕ) → order_of words ≡ None → IfSome left (λ bytes. RunFollows (transcript words bytes) told told r r w w Usage)
told_usage left words told r w none =
    told_all left _ (λ bytes. usage_follows (transcript words bytes) told r w (usage_transcript words bytes none))

pub told_failed : (left : Option (List ℕ)) (words : List (List ℕ)) (order : Order) (told : Option (List ℕ)) (r0 r1 w : ℕ) → order_of words ≡ Some order → Rose r0 r1 → IfSome left (λ bytes. RunFollows (transcript words bytes) told told r0 r1 w w ReadFault)
told_failed left words order told r0 r1 w is rose =
    told_all left _ (λ bytes.
    let given = transcript_given words bytes order is in
    silent (transcript words bytes) told r0 r1 w ReadFault given (λ e. absurd (subst IsGiven (sym e) given)) (inr (inl (refl, rose))))

pub told_memory : (left : Option (List ℕ)) (words : List (List ℕ)) (order : Order) (told : Option (List ℕ)) (r0 r1 w : ℕ) → order_of words ≡ Some order → IfSome left (λ bytes. RunFollows (transcript words bytes) told told r0 r1 w w Memory)
told_memory left words order told r0 r1 w is =
    told_all left _ (λ bytes.
    let given = transcript_given words bytes order is in
    silent (transcript words bytes) told r0 r1 w Memory given (λ e. absurd (subst IsGiven (sym e) given)) (inr (inr refl)))

pub told_long : (left : Option (List ℕ)) (words : List (List ℕ)) (order : Order) (told : Option (List ℕ)) (r0 r1 w : ℕ) → order_of words ≡ Some order → reads_input order ≡ true → IfSome left (λ bytes. 8388608 < length bytes) → IfSome left (λ bytes. RunFollows (transcript words bytes) told told r0 r1 w w TooLong)
told_long left words order told r0 r1 w is reads long =
    told_each left _ _ (λ bytes more.
    let e = long_transcript words bytes order is reads more in
    silent (transcript words bytes) told r0 r1 w TooLong (transcript_given words bytes order is) (λ _. ap (λ (t : Transcript). t.text) e) (inl (ap (λ (t : Transcript). t.status) (sym e)))) long

run_follows : (want : Transcript) (before after : Option (List ℕ)) (r0 r1 w0 w1 : ℕ) (status : Status) → Answered want.status → Follows want before after w0 w1 status → RunFollows want before after r0 r1 w0 w1 status
run_follows want before after r0 r1 w0 w1 status answered f = record {
  written = f.written;
  whole = f.whole;
  cause = elim f.cause [
    | inl e ↦ inl e
    | inr (inl h) ↦ inr (inr (inl h))
    | inr (inr e) ↦ inr (inr (inr e))
  ];
  usage = λ h. absurd (subst Answered h answered);
  too_long = λ h. absurd (subst Answered h answered);
}

pub told_run : (old new : Option (List ℕ)) (bytes : List ℕ) (words : List (List ℕ)) (order : Order) (before after : Option (List ℕ)) (r0 r1 w0 w1 : ℕ) (status : Status) → order_of words ≡ Some order → Consumes old new bytes → IsAtEnd new → length bytes ≤ 8388608 → Follows (gives order bytes) before after w0 w1 status
    → IfSome old (λ bytes. RunFollows (transcript words bytes) before after r0 r1 w0 w1 status)
told_run old new bytes words order before after r0 r1 w0 w1 status is read end short f =
    Consumes-whole old new bytes (λ bs. RunFollows (transcript words bs) before after r0 r1 w0 w1 status) read end (
    let e = short_transcript words bytes order is short in
    rw e (run_follows (gives order bytes) before after r0 r1 w0 w1 status (gives_answered order bytes) f))

-- a status of the transcript comes with the whole of it
answered_whole : (want : Transcript) (before after : Option (List ℕ)) (w0 w1 : ℕ) (status : Status) → Answered status → Follows want before after w0 w1 status → status ≡ want.status
answered_whole want before after w0 w1 status answered f = elim f.cause [
  | inl e ↦ e
  | inr (inl h) ↦ absurd (subst Answered h.0 answered)
  | inr (inr e) ↦ absurd (subst Answered e answered)
]

pub answered_run : (old new : Option (List ℕ)) (h0 h1 : ℕ) (bytes : List ℕ) (words : List (List ℕ)) (order : Order) (before after : Option (List ℕ)) (w0 w1 : ℕ) (status : Status) → IsOrder words order → order_of words ≡ Some order → reads_input order ≡ true → Consumes old new bytes → IsAtEnd new → h1 ≡ handed_more h0 (length bytes) → length bytes ≤ 8388608 → Follows (gives order bytes) before after w0 w1 status
    → Answered status → IsAnswered words old new h0 h1 before after status
answered_run old new h0 h1 bytes words order before after w0 w1 status asked is reads read end amount short f answered =
    let e = short_transcript words bytes order is short in
    let same = answered_whole (gives order bytes) before after w0 w1 status answered f in
    record {
      order = order;
      ordered = asked;
      text = bytes;
      read = rw reads (read, end, amount);
      given = rw e (sym same);
      written = rw e (f.whole same);
    }

-- what was read begins to be answered
pub begun_run : (old new : Option (List ℕ)) (h0 h1 : ℕ) (bytes : List ℕ) (words : List (List ℕ)) (order : Order) (before after : Option (List ℕ)) (w0 w1 : ℕ) (status : Status) → IsOrder words order → order_of words ≡ Some order → reads_input order ≡ true → Consumes old new bytes → IsAtEnd new → h1 ≡ handed_more h0 (length bytes) → length bytes ≤ 8388608 → Follows (gives order bytes) before after w0 w1 status
    → IsBegun words old new h0 h1 before after
begun_run old new h0 h1 bytes words order before after w0 w1 status asked is reads read end amount short f = record {
  order = order;
  ordered = asked;
  text = bytes;
  read = rw reads (read, end, amount);
  written = rw (short_transcript words bytes order is short) f.written;
}

-- ---- an order that reads no input

pub begun_unread : (left : Option (List ℕ)) (h : ℕ) (words : List (List ℕ)) (order : Order) (before after : Option (List ℕ)) (w0 w1 : ℕ) (status : Status) → IsOrder words order → order_of words ≡ Some order → reads_input order ≡ false → Follows (gives order []) before after w0 w1 status
    → IsBegun words left left h h before after
begun_unread left h words order before after w0 w1 status asked is unread f = record {
  order = order;
  ordered = asked;
  text = [];
  read = rw unread (refl, refl, refl);
  written = rw (unread_transcript words [] order is unread) f.written;
}

pub told_unread : (left : Option (List ℕ)) (words : List (List ℕ)) (order : Order) (before after : Option (List ℕ)) (r w0 w1 : ℕ) (status : Status) → order_of words ≡ Some order → reads_input order ≡ false → Follows (gives order []) before after w0 w1 status
    → IfSome left (λ bytes. RunFollows (transcript words bytes) before after r r w0 w1 status)
told_unread left words order before after r w0 w1 status is unread f =
    told_all left _ (λ bytes.
    let e = unread_transcript words bytes order is unread in
    rw e (run_follows (gives order []) before after r r w0 w1 status (gives_answered order []) f))

pub answered_unread : (left : Option (List ℕ)) (h : ℕ) (words : List (List ℕ)) (order : Order) (before after : Option (List ℕ)) (w0 w1 : ℕ) (status : Status) → IsOrder words order → order_of words ≡ Some order → reads_input order ≡ false → Follows (gives order []) before after w0 w1 status
    → Answered status → IsAnswered words left left h h before after status
answered_unread left h words order before after w0 w1 status asked is unread f answered =
    let e = unread_transcript words [] order is unread in
    let same = answered_whole (gives order []) before after w0 w1 status answered f in
    record {
      order = order;
      ordered = asked;
      text = [];
      read = rw unread (refl, refl, refl);
      given = rw e (sym same);
      written = rw e (f.whole same);
    }

pub alone_unread : (words : List (List ℕ)) (order : Order) (before after : Option (List ℕ)) (w0 w1 : ℕ) (status : Status) → order_of words ≡ Some order → reads_input order ≡ false → Follows (gives order []) before after w0 w1 status
    → Follows (transcript words []) before after w0 w1 status
alone_unread words order before after w0 w1 status is unread f = rw (unread_transcript words [] order is unread) f

-- no other order was asked for
pub not_alone : {P : Type 0} (words : List (List ℕ)) (order other : Order) → order_of words ≡ Some order → reads_input order ≡ true → order_of words ≡ Some other → reads_input other ≡ false → P
not_alone words order other is reads asked unread =
    let e : Some order ≡ Some other = sym is ∙ asked in
    let same : order ≡ other = cc in
    absurd (let t : true ≡ false = sym reads ∙ ap reads_input same ∙ unread in cc)

-- nor was none
pub none_asked : {P : Type 0} (words : List (List ℕ)) (other : Order) → order_of words ≡ None → order_of words ≡ Some other → P
none_asked words other none asked = absurd (let e : None ≡ Some other = sym none ∙ asked in cc)

-- an order whose text was had is never too long
pub never_long : {P : Type 0} (order : Order) (text : List ℕ) (before after : Option (List ℕ)) (w0 w1 : ℕ) (status : Status) → Follows (gives order text) before after w0 w1 status → status ≡ TooLong → P
never_long order text before after w0 w1 status f long = elim f.cause [
  | inl e ↦ absurd (subst Answered (sym e ∙ long) (gives_answered order text))
  | inr (inl h) ↦ absurd (let e : WriteFault ≡ TooLong = sym h.0 ∙ long in cc)
  | inr (inr m) ↦ absurd (let e : Memory ≡ TooLong = sym m ∙ long in cc)
]
