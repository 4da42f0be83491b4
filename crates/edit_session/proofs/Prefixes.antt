-- Lines that follow a line feed leave the lines before it, the page block in them, and the replies.
use Rattle.std.proofs.Common.{◌≡◌, ℕ, ◌<◌, ◌≤◌, Bool, true, false, cond, ◌==◌, List, [], ◌∷◌, ◌++◌, length, Option, Some, None, refl, sym, ap, subst, ◌∙◌, arith, length-append}
use Rattle.std.specs.Prelude.{nat_lt, bytes_eq}
use Rattle.std.specs.Option.{option_map, option_map_or}
use Rattle.std.specs.List.{join_with_byte}
use Rattle.std.proofs.lemmas.Bool.Decides.{nat_tests}
use Rattle.std.proofs.lemmas.List.{append_assoc, append-nil}
use Rattle.step_text.specs.PageGrammar.Reading.{Reading, Children, Refused, page_reading}
use Rattle.edit_engine.specs.Editing.{Editing}
use Rattle.edit_session.specs.Block.{NoOpening, NoClosing, Whole, Cut, lines_of, before_line, cut_at, with_line, opening_word, block_cut, block_opened, block_in, block_of}
use Rattle.edit_session.specs.Replies.{line_reply, replies_to}
use Rattle.edit_session.specs.Transcript.{Transcript, input_limit, depth_limit, acted, run_block, page_editing, order_transcript, transcript, transcript_of}
use Rattle.edit_session.specs.declared.session.Status.TheVariants.{Usage}
use Rattle.edit_session.specs.Words.{Limits, Run}
use Rattle.edit_session.specs.Prefixes.{Begins, PrefixesAnswer}

-- ---- lines

some-before : (b : ℕ) (lines : List (List ℕ)) → 0 < length (before_line b lines)
some-before b [] = omega arith
some-before b (line ∷ lines) = omega arith

some-lines : (front more : List ℕ) → 0 < length (lines_of (front ++ 10 ∷ more))
some-lines [] more = omega arith
some-lines (b ∷ front) more =
    elim (b == 10) as (λ (t : Bool). 0 < length (cond t ([] ∷ lines_of (front ++ 10 ∷ more)) (before_line b (lines_of (front ++ 10 ∷ more))))) [
      | true ↦ omega arith
      | false ↦ some-before b (lines_of (front ++ 10 ∷ more))
    ]

before-more : (b : ℕ) (lines more : List (List ℕ)) → 0 < length lines → before_line b (lines ++ more) ≡ before_line b lines ++ more
before-more b [] more some = absurd (omega (arith, some))
before-more b (line ∷ lines) more some = refl

lines-more : (front more : List ℕ) → lines_of (front ++ 10 ∷ more) ≡ lines_of (front ++ 10 ∷ []) ++ lines_of more
lines-more [] more = refl
lines-more (b ∷ front) more =
    let tail = lines-more front more in
    let some = some-lines front [] in
    elim (b == 10) as (λ (t : Bool). cond t ([] ∷ lines_of (front ++ 10 ∷ more)) (before_line b (lines_of (front ++ 10 ∷ more))) ≡ cond t ([] ∷ lines_of (front ++ 10 ∷ [])) (before_line b (lines_of (front ++ 10 ∷ []))) ++ lines_of more) [
      | true ↦ ap (λ r. [] ∷ r) tail
      | false ↦ ap (before_line b) tail ∙ before-more b (lines_of (front ++ 10 ∷ [])) (lines_of more) some
    ]

-- ---- the page block

same-cut : (a b : Cut) → Some a ≡ Some b → a ≡ b
same-cut a b e = cc

cut-more : (word : List ℕ) (lines more : List (List ℕ)) (cut : Cut) → cut_at word lines ≡ Some cut → cut_at word (lines ++ more) ≡ Some (record cut { after = cut.after ++ more })
cut-more word [] more cut e = absurd (let t : None ≡ Some cut = e in cc)
cut-more word (line ∷ lines) more cut e = by_test (λ c is. cut-more word lines more c is) (bytes_eq line word) refl
  where
    by_rest : ((c : Cut) → cut_at word lines ≡ Some c → cut_at word (lines ++ more) ≡ Some (record c { after = c.after ++ more })) → (o : Option Cut) → cut_at word lines ≡ o → option_map (with_line line) o ≡ Some cut → option_map (with_line line) (cut_at word (lines ++ more)) ≡ Some (record cut { after = cut.after ++ more })
    by_rest further None is f = absurd (let t : None ≡ Some cut = f in cc)
    by_rest further (Some inner) is f =
        let same : with_line line inner ≡ cut = same-cut (with_line line inner) cut f in
        ap (option_map (with_line line)) (further inner is)
        ∙ ap (λ (c : Cut). Some (record c { after = c.after ++ more })) same

    by_test : ((c : Cut) → cut_at word lines ≡ Some c → cut_at word (lines ++ more) ≡ Some (record c { after = c.after ++ more })) → (b : Bool) → bytes_eq line word ≡ b → cut_at word (line ∷ (lines ++ more)) ≡ Some (record cut { after = cut.after ++ more })
    by_test further true is =
        let f : Some (record { before = []; after = lines }) ≡ Some cut = (let g = rw is at e in g) in
        let same = same-cut (record { before = []; after = lines }) cut f in
        rw is (ap (λ (c : Cut). Some (record c { after = c.after ++ more })) same)
    by_test further false is =
        let f : option_map (with_line line) (cut_at word lines) ≡ Some cut = (let g = rw is at e in g) in
        rw is (by_rest further (cut_at word lines) refl f)

whole-parts : (page other : List ℕ) (acts others : List (List ℕ)) → Whole page acts ≡ Whole other others → (page ≡ other) × (acts ≡ others)
whole-parts page other acts others e = (cc, cc)

opened-more : (o : Option (List ℕ)) (lines more : List (List ℕ)) (page : List ℕ) (acts : List (List ℕ)) → block_opened o lines ≡ Whole page acts → block_opened o (lines ++ more) ≡ Whole page (acts ++ more)
opened-more None lines more page acts e = absurd (let t : NoOpening ≡ Whole page acts = e in cc)
opened-more (Some word) lines more page acts e = by_cut (cut_at word lines) refl e
  where
    by_cut : (o : Option Cut) → cut_at word lines ≡ o → block_cut o ≡ Whole page acts → block_cut (cut_at word (lines ++ more)) ≡ Whole page (acts ++ more)
    by_cut None is f = absurd (let t : NoClosing ≡ Whole page acts = f in cc)
    by_cut (Some cut) is f =
        let parts = whole-parts (join_with_byte 10 cut.before) page cut.after acts f in
        ap block_cut (cut-more word lines more cut is) ∙ (λ i. Whole (parts.0 i) (parts.1 i ++ more))

block-more : (lines more : List (List ℕ)) (page : List ℕ) (acts : List (List ℕ)) → block_in lines ≡ Whole page acts → block_in (lines ++ more) ≡ Whole page (acts ++ more)
block-more [] more page acts e = absurd (let t : NoOpening ≡ Whole page acts = e in cc)
block-more (line ∷ lines) more page acts e = opened-more (opening_word line) lines more page acts e

-- ---- replies

replies-more : (denied : List (List ℕ)) (e : Editing) (acts more : List (List ℕ)) → Begins (replies_to denied e acts) (replies_to denied e (acts ++ more))
unfolding replies_to
replies-more denied e [] more = (replies_to denied e more, refl)
replies-more denied e (act ∷ acts) more =
    let reply = line_reply denied e act in
    let rest = replies-more denied reply.after acts more in
    (rest.0, ap (λ r. reply.text ++ r) rest.1 ∙ sym (append_assoc reply.text (replies_to denied reply.after acts) rest.0))

acted-more : (limits : Limits) (acts more : List (List ℕ)) (r : Reading) → Begins (acted limits acts r).text (acted limits (acts ++ more) r).text
acted-more limits acts more (Children children) = replies-more limits.denied (page_editing limits.cap limits.undo children) acts more
acted-more limits acts more (Refused place kind) = ([], sym (append-nil (acted limits acts (Refused place kind)).text))

-- ---- transcripts

within : (limits : Limits) (input : List ℕ) → length input ≤ input_limit → order_transcript input (Run limits) ≡ run_block limits (length input) (block_of input)
within limits input le =
    let n : nat_lt input_limit (length input) ≡ false = grind (arith, nat_tests, le) in
    rw n refl

pub prefixes_answer : PrefixesAnswer
prefixes_answer words limits front more page acts order block le =
    let short = front ++ 10 ∷ [] in
    let long = front ++ 10 ∷ more in
    let fits : length short ≤ input_limit = (let a = length-append front (10 ∷ []) in let b = length-append front (10 ∷ more) in omega (arith, a, b, le)) in
    let longer : block_of long ≡ Whole page (acts ++ lines_of more) = ap block_in (lines-more front more) ∙ block-more (lines_of short) (lines_of more) page acts block in
    let reading = page_reading depth_limit limits.cap page in
    let first : transcript words short ≡ acted limits acts reading = ap (λ o. option_map_or (order_transcript short) o (transcript_of Usage [])) order ∙ (within limits short fits ∙ ap (run_block limits (length short)) block) in
    let second : transcript words long ≡ acted limits (acts ++ lines_of more) reading = ap (λ o. option_map_or (order_transcript long) o (transcript_of Usage [])) order ∙ (within limits long le ∙ ap (run_block limits (length long)) longer) in
    subst (λ (t : Transcript). Begins t.text (transcript words long).text) (sym first)
    (subst (λ (t : Transcript). Begins (acted limits acts reading).text t.text) (sym second) (acted-more limits acts (lines_of more) reading))
