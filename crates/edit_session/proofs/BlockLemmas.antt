-- The first line of a text, and the loop that parts lines at one that equals a word.
use Rattle.std.proofs.Common.{◌≡◌, ℕ, ◌+◌, ◌-◌, ◌<◌, ◌≤◌, Bool, true, false, cond, not, ◌==◌, List, [], ◌∷◌, ◌++◌, length, take, drop, get_or, Option, Some, None, refl, ap, subst, inl, inr, sym, ◌∙◌, arith}
use Rattle.std.proofs.lemmas.Grind.{common_steps}
use Rattle.std.specs.List.{position_or_len}
use Rattle.std.proofs.lemmas.List.Sums.{prefix_len-le-length, passes_at_first}
use Rattle.std.specs.List.{join_with_byte}
use Rattle.std.specs.Option.{option_map}
use Rattle.std.specs.Str.{bytes_eq}
use Rattle.std.proofs.lemmas.List.{append_assoc, length-take-le, length_push, take-take, take_at, drop_all, drop-drop, length-drop, take_more, append-nil}
use Rattle.std.proofs.lemmas.Bool.{eqb-true, cases_lt}
use Rattle.std.proofs.Math.Seq.{take-add}
use Rattle.edit_session.specs.Block.{lines_of, before_line, end_of, cut_at, Cut, with_line, block_cut, Whole}

abbrev is_feed : ℕ → Bool
is_feed b = b == 10

abbrev feed_at : List ℕ → ℕ
feed_at text = position_or_len is_feed text

end-is : (text : List ℕ) → end_of text ≡ feed_at text
end-is text = let within = prefix_len-le-length (λ b. not (is_feed b)) text in grind (arith, common_steps, within)

line_before : (b n : ℕ) (bs : List ℕ) (lines : List (List ℕ)) → lines_of bs ≡ take n bs ∷ lines → before_line b (lines_of bs) ≡ take (1 + n) (b ∷ bs) ∷ lines
line_before b n bs lines e = rw e (grind (arith, common_steps))

feeds : (b : ℕ) (bs : List ℕ) → lines_of (b ∷ bs) ≡ take (feed_at (b ∷ bs)) (b ∷ bs) ∷ lines_of (drop (feed_at (b ∷ bs) + 1) (b ∷ bs))
feeds b [] =
    elim (is_feed b) as (λ (t : Bool). cond t ([] ∷ []) ((b ∷ []) ∷ []) ≡ take (cond (not t) 1 0) (b ∷ []) ∷ lines_of (drop (cond (not t) 1 0 + 1) (b ∷ []))) [
      | true ↦ refl
      | false ↦ refl
    ]
feeds b (x ∷ xs) =
    let tail = feeds x xs in
    let bs = x ∷ xs in
    let n = feed_at bs in
    elim (is_feed b) as (λ (t : Bool). cond t ([] ∷ lines_of bs) (before_line b (lines_of bs)) ≡ take (cond (not t) (1 + n) 0) (b ∷ bs) ∷ lines_of (drop (cond (not t) (1 + n) 0 + 1) (b ∷ bs))) [
      | true ↦ refl
      | false ↦ let e : drop (n + 1) bs ≡ drop (1 + n + 1) (b ∷ bs) = grind (arith, common_steps) in subst (λ r. before_line b (lines_of bs) ≡ take (1 + n) (b ∷ bs) ∷ lines_of r) e (line_before b n bs _ tail)
    ]

pub lines-first : (text : List ℕ) → 0 < length text → lines_of text ≡ take (end_of text) text ∷ lines_of (drop (end_of text + 1) text)
lines-first [] some = absurd (omega arith)
lines-first (b ∷ bs) some = subst (λ n. lines_of (b ∷ bs) ≡ take n (b ∷ bs) ∷ lines_of (drop (n + 1) (b ∷ bs))) (sym (end-is (b ∷ bs))) (feeds b bs)

pub lines-first-at : (text : List ℕ) (n : ℕ) → n ≡ end_of text → 0 < length text → lines_of text ≡ take n text ∷ lines_of (drop (n + 1) text)
lines-first-at text n at some = rw at (lines-first text some)

-- ---- parting

-- the lines with their LFs
abbrev pub ended : List (List ℕ) → List ℕ
ended [] = []
ended (line ∷ lines) = line ++ (10 ∷ ended lines)

ended-push : (lines : List (List ℕ)) (line : List ℕ) → ended (lines ++ line ∷ []) ≡ ended lines ++ (line ++ 10 ∷ [])
ended-push [] line = refl
ended-push (x ∷ xs) line = rw (ended-push xs line) (sym (append_assoc x (10 ∷ ended xs) (line ++ 10 ∷ [])))

ended-joined : (line : List ℕ) (lines : List (List ℕ)) → ended (line ∷ lines) ≡ join_with_byte 10 (line ∷ lines) ++ 10 ∷ []
ended-joined line [] = refl
ended-joined line (next ∷ lines) = rw (ended-joined next lines) (sym (append_assoc line (10 ∷ join_with_byte 10 (next ∷ lines)) (10 ∷ [])))

joined-is : (text : List ℕ) (at : ℕ) (lines : List (List ℕ)) → at ≤ length text → take at text ≡ ended lines → join_with_byte 10 lines ≡ take (at - 1) text
joined-is text at [] within is =
    let none : length (take at text) ≡ 0 = ap length is in
    let zero : at ≡ 0 = omega (arith, none, length-take-le at text within) in
    rw zero refl
joined-is text at (line ∷ lines) within is =
    let joined = join_with_byte 10 (line ∷ lines) in
    let e : take at text ≡ joined ++ 10 ∷ [] = is ∙ ended-joined line lines in
    let long : at ≡ length joined + 1 = omega (arith, ap length e, length-take-le at text within, length_push joined 10) in
    sym (
    sym (take-take (at - 1) at text (omega arith))
    ∙ ap (λ t. take (at - 1) t) e
    ∙ take_at joined (10 ∷ []) (at - 1) (omega arith))

-- the lines before `before`, and those of the cut
abbrev pub with_lines : List (List ℕ) → Cut → Cut
with_lines lines cut = record cut { before = lines ++ cut.before }

abbrev with_before : List (List ℕ) → Cut → Cut
with_before lines cut = record cut { before = lines }

with-push : (before : List (List ℕ)) (line : List ℕ) (cut : Option Cut)
    → option_map (with_lines before) (option_map (with_line line) cut) ≡ option_map (with_lines (before ++ line ∷ [])) cut
with-push before line None = refl
with-push before line (Some cut) = ap (λ b. Some (with_before b cut)) (sym (append_assoc before (line ∷ []) cut.before))

-- the lines before `at` are no closing line
pub record Passed (word text : List ℕ) (at : ℕ) : Type 0 where
  pub before : List (List ℕ)
  pub within : at ≤ length text
  pub taken : at < length text → take at text ≡ ended before
  pub cut : cut_at word (lines_of text) ≡ option_map (with_lines before) (cut_at word (lines_of (drop at text)))

-- the first line of what is left, which isn't empty
pub record Line (text : List ℕ) (at end : ℕ) : Type 0 where
  pub inside : at < length text
  pub end-is : end ≡ end_of (drop at text)

rest-some : (text : List ℕ) (at end : ℕ) → Line text at end → 0 < length (drop at text)
rest-some text at end line = let inside = line.inside in omega (arith, length-drop at text)

line-cut : (word text : List ℕ) (at end : ℕ) → Line text at end
    → lines_of (drop at text) ≡ take end (drop at text) ∷ lines_of (drop (end + 1) (drop at text))
line-cut word text at end line = lines-first-at (drop at text) end line.end-is (rest-some text at end line)

-- a line that doesn't reach the end of the text is ended by LF
line-ended : (text : List ℕ) (end : ℕ) → end ≡ end_of text → end < length text → take (end + 1) text ≡ take end text ++ 10 ∷ []
line-ended text end is inside =
    let e : end ≡ feed_at text = is ∙ end-is text in
    let there : feed_at text < length text = omega arith in
    let feed : get_or text end 0 ≡ 10 = eqb-true (get_or text end 0) 10 (rw e (passes_at_first is_feed text 0 there)) in
    subst (λ (b : ℕ). take (end + 1) text ≡ take end text ++ b ∷ []) feed (take_more text end 0 inside)

drop-back : (k : ℕ) (text : List ℕ) → drop (length text - length (drop k text)) text ≡ drop k text
drop-back k text = rw length-drop (elim (cases_lt (length text) k) [
  | inr le ↦ ap (λ n. drop n text) (let n : length text - (length text - k) ≡ k = omega arith in n)
  | inl lt ↦ drop_all (length text - (length text - k)) text (omega arith) ∙ sym (drop_all k text (omega arith))
])

pub passed-more : (word text : List ℕ) (at end next : ℕ) → Passed word text at → Line text at end → next ≡ length text - length (drop (end + 1) (drop at text))
    → bytes_eq (take end (drop at text)) word ≡ false → Passed word text next
passed-more word text at end next passed line next-is other =
    let rest = drop at text in
    let head = take end rest in
    let inside = line.inside in
    let after : drop next text ≡ drop (end + 1) rest = rw (next-is, drop-drop (end + 1) at text) (drop-back (at + (end + 1)) text) in
    let seen : cut_at word (lines_of rest) ≡ option_map (with_line head) (cut_at word (lines_of (drop next text))) =
    rw (line-cut word text at end line, other, after) refl in
    record {
      before = passed.before ++ head ∷ [];
      within = omega arith;
      taken = λ more.
          let fits : end < length rest = omega (arith, length-drop at text, length-drop (end + 1) rest) in
          let sum : next ≡ at + (end + 1) = omega (arith, length-drop at text, length-drop (end + 1) rest) in
          let front : take at text ≡ ended passed.before = passed.taken inside in
          rw (sum, take-add at (end + 1) text, front, line-ended rest end line.end-is fits) (sym (ended-push passed.before head));
      cut = passed.cut ∙ (ap (option_map (with_lines passed.before)) seen ∙ with-push passed.before head (cut_at word (lines_of (drop next text))));
    }

pub passed-found : (word text : List ℕ) (at end : ℕ) → Passed word text at → Line text at end → bytes_eq (take end (drop at text)) word ≡ true
    → Whole (take (at - 1) text) (lines_of (drop (end + 1) (drop at text))) ≡ block_cut (cut_at word (lines_of text))
passed-found word text at end passed line equal =
    let after = lines_of (drop (end + 1) (drop at text)) in
    let seen : cut_at word (lines_of (drop at text)) ≡ Some (record { before = []; after = after }) = rw (line-cut word text at end line, equal) refl in
    let page : join_with_byte 10 passed.before ≡ take (at - 1) text = joined-is text at passed.before passed.within (passed.taken line.inside) in
    sym (
    ap block_cut (passed.cut ∙ ap (option_map (with_lines passed.before)) seen)
    ∙ (ap (λ b. Whole (join_with_byte 10 b) after) (append-nil passed.before)
    ∙ ap (λ p. Whole p after) page))

-- the steps of the loop, by the names that the code gives
pub record Step (text rest acts : List ℕ) (at end : ℕ) : Type 0 where
  pub inside : at < length text
  pub rest-is : rest ≡ drop at text
  pub end-is : end ≡ end_of rest
  pub acts-is : acts ≡ drop (end + 1) rest

step-line : (text rest acts : List ℕ) (at end : ℕ) → Step text rest acts at end → Line text at end
step-line text rest acts at end step = record { inside = step.inside; end-is = step.end-is ∙ ap end_of step.rest-is }

pub step-found : (word text rest acts : List ℕ) (at end page : ℕ) → Passed word text at → Step text rest acts at end → page ≡ at - 1 → true ≡ bytes_eq (take end rest) word
    → Whole (take page text) (lines_of acts) ≡ block_cut (cut_at word (lines_of text))
step-found word text rest acts at end page passed step page-is equal =
    let same : bytes_eq (take end (drop at text)) word ≡ true = subst (λ (r : List ℕ). bytes_eq (take end r) word ≡ true) step.rest-is (sym equal) in
    ap (λ n. Whole (take n text) (lines_of acts)) page-is
    ∙ (ap (λ a. Whole (take (at - 1) text) (lines_of a)) (step.acts-is ∙ ap (drop (end + 1)) step.rest-is)
    ∙ passed-found word text at end passed (step-line text rest acts at end step) same)

pub step-more : (word text rest acts : List ℕ) (at end : ℕ) → Passed word text at → Step text rest acts at end → false ≡ bytes_eq (take end rest) word
    → Passed word text (length text - length acts)
step-more word text rest acts at end passed step other =
    let differs : bytes_eq (take end (drop at text)) word ≡ false = subst (λ (r : List ℕ). bytes_eq (take end r) word ≡ false) step.rest-is (sym other) in
    passed-more word text at end (length text - length acts) passed (step-line text rest acts at end step)
    (ap (λ a. length text - length a) (step.acts-is ∙ ap (drop (end + 1)) step.rest-is)) differs
