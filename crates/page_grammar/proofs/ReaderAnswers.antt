-- What a reader that has come to an end tells of the whole.
use Rattle.std.proofs.Common.{◌≡◌, ℕ, suc, ◌+◌, ◌<◌, ◌≤◌, inl, inr, List, [], ◌∷◌, ◌++◌, length, Some, None, refl, sym, ap, ◌∙◌, arith}
use Rattle.std.proofs.Math.Utf8.{encodes}
use Rattle.page_grammar.specs.Page.{Siblings}
use Rattle.page_grammar.specs.Machine.{events, emitted, IsEnd}
use Rattle.page_grammar.specs.Reader.{Reader, begin, read_byte, read_bytes}
use Rattle.page_grammar.specs.Bytes.{PageBytes}
use Rattle.page_grammar.specs.Kind.{Kind, TooLong, Unclosed, page_limit, kind_of_byte, fault_next, fault_at_end, fault_from, text_fault, page_fault}
use Rattle.page_grammar.specs.Reading.{Children, Refused, reading_of, page_reading}
use Rattle.page_grammar.proofs.Facts.{app_nil}
use Rattle.page_grammar.proofs.Sound.{page_only}
use Rattle.page_grammar.proofs.Decoding.{lt_test, ge_test}
use Rattle.page_grammar.proofs.Reading.{reads_start, all_reads}
use Rattle.page_grammar.proofs.Faults.{ending, held_none}
use Rattle.page_grammar.proofs.Characters.{fault_past}
use Rattle.page_grammar.proofs.Telling.{only_reading}

refused : (d c : ℕ) (s : List ℕ) (k : ℕ) (x : Kind) → length s ≤ page_limit → text_fault d c s ≡ Some (k, x) → page_reading d c s ≡ Refused k x
refused d c s k x h e = let z : page_fault d c s ≡ Some (k, x) = rw (ge_test page_limit (length s) h) e in ap (λ o. reading_of d c s o) z

-- there are too many bytes
pub too_long : (d c : ℕ) (s : List ℕ) → page_limit < length s → page_reading d c s ≡ Refused page_limit TooLong
too_long d c s h = let z : page_fault d c s ≡ Some (page_limit, TooLong) = rw (lt_test page_limit (length s) h) refl in ap (λ o. reading_of d c s o) z

-- the byte b can't be read
pub stopped : (d c : ℕ) (p : List ℕ) (b : ℕ) (t : List ℕ) (r : Reader) → length (p ++ b ∷ t) ≤ page_limit → read_bytes c (begin d) p ≡ Some r → read_byte c r b ≡ None → page_reading d c (p ++ b ∷ t) ≡ Refused (length p) (kind_of_byte r b)
stopped d c p b t r h e n =
    let z : 0 + length p ≡ length p = omega arith in
    let past = fault_past c p (b ∷ t) 0 (begin d) r e in
    let here : fault_from c r (length p) (b ∷ t) ≡ Some (length p, kind_of_byte r b) = ap (λ o. fault_next o (λ r1. fault_from c r1 (suc (length p)) t) (length p, kind_of_byte r b)) n in
    refused d c (p ++ b ∷ t) (length p) (kind_of_byte r b) h (past ∙ ap (λ k. fault_from c r k (b ∷ t)) z ∙ here)

-- all bytes are read, and the page isn't at its end
pub unclosed : (d c : ℕ) (s : List ℕ) (r : Reader) → length s ≤ page_limit → read_bytes c (begin d) s ≡ Some r → (r.part ≡ None → IsEnd r.machine → ⊥) → page_reading d c s ≡ Refused (length s) Unclosed
unclosed d c s r h e open_end =
    let z : 0 + length s ≡ length s = omega arith in
    let past : text_fault d c s ≡ fault_at_end r.part r.machine.lex r.machine.opened (length s) =
    ap (λ l. text_fault d c l) (sym (app_nil s)) ∙ fault_past c s [] 0 (begin d) r e ∙ ap (λ k. fault_from c r k []) z in
    elim (ending r.part r.machine.lex r.machine.opened (length s)) [
      | inl k ↦ absurd (open_end k.0 (k.1, k.2))
      | inr k ↦ refused d c s (length s) Unclosed h (past ∙ k.1)
    ]

abbrev pub Ends : (d c : ℕ) → List ℕ → Reader → Type 0
Ends d c s r = (f : Siblings) × (page_reading d c s ≡ Children f) × PageBytes d c s f × (emitted r.machine ≡ events f)

-- all bytes are read, and the page is at its end
pub ended : (d c : ℕ) (s : List ℕ) (r : Reader) → length s ≤ page_limit → read_bytes c (begin d) s ≡ Some r → r.part ≡ None → IsEnd r.machine → Ends d c s r
ended d c s r h e part end =
    let x = all_reads d c s [] (begin d) r (reads_start d c) e in
    let y = page_only d c x.chars r.machine x.ran end in
    let none = held_none r.part x.held part x.front in
    let all : encodes x.chars ≡ s = sym (app_nil (encodes x.chars)) ∙ ap (λ z. encodes x.chars ++ z) (sym none) ∙ sym x.all in
    let page : PageBytes d c s y.0 = (x.chars, x.plain, all, y.1) in
    (y.0, sym (only_reading d c s (Children y.0) (page, h)), page, y.2)
