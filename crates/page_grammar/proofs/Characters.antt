-- What the reader does at whole characters.
use Rattle.std.proofs.Common.{◌≡◌, ℕ, suc, ◌+◌, ◌-◌, ◌/◌, ◌<◌, ◌≤◌, Bool, true, false, ◌&&◌, inl, inr, List, [], ◌∷◌, ◌++◌, length, Some, None, refl, sym, ap, ◌∙◌, arith}
use Rattle.std.specs.Prelude.{nat_le, if◌then◌else◌}
use Rattle.std.proofs.lemmas.Bool.{cases_Bool, cases_lt}
use Rattle.std.proofs.lemmas.Bool.Decides.{nat_tests}
use Rattle.std.proofs.lemmas.Str.{encode_same, length-encode, len_utf8_bounds}
use Rattle.std.proofs.Math.Utf8.{scalar, scalars, encode, encodes, next}
use Rattle.page_grammar.specs.Machine.{Machine, Lexical, TagOpen, run, start, step}
use Rattle.page_grammar.specs.Decoder.{Decoded, Bad, Part, Whole, lead}
use Rattle.page_grammar.specs.Reader.{Reader, between, begin, takes_wide, read_decoded, read_byte, read_bytes}
use Rattle.page_grammar.specs.Kind.{misplaced, kind_at, kind_decoded, fault_next, fault_from, text_fault, refusal, refused_place}
use Rattle.page_grammar.proofs.Facts.{app_nil, le_test}
use Rattle.page_grammar.proofs.Decoding.{DecodedIs, decoded, encode_one, encode_two, lt_test, sized}
use Rattle.page_grammar.proofs.Wide.{far, wide_some}
use Rattle.page_grammar.proofs.Reading.{Reads, reads_start, all_reads, begins_reads, to_page, then_reader, peel, no_whole}
use Rattle.page_grammar.proofs.WiderReading.{wide_begins}
use Rattle.page_grammar.proofs.Faults.{held_end}

-- characters that the machine reads are read
pub read_text : (d c : ℕ) (cs : List ℕ) (m : Machine) → scalars cs ≡ true → run c (start d) cs ≡ Some m → read_bytes c (begin d) (encodes cs) ≡ Some (between m)
read_text d c cs m s e =
    let g = begins_reads d c (encodes cs) (to_page d c (encodes cs) [] cs m (sym (app_nil (encodes cs))) s e) in
    let r = g.0 in
    let h = all_reads d c (encodes cs) [] (begin d) r (reads_start d c) g.1 in
    let x = peel h.chars cs h.held h.all s in
    let empty : x.0 ≡ [] = go r h x.0 x.2 in
    let none : h.held ≡ [] = sym x.2 ∙ ap encodes empty in
    let same : cs ≡ h.chars = x.1 ∙ ap (λ z. h.chars ++ z) empty ∙ app_nil h.chars in
    let run_same : Some m ≡ Some r.machine = sym e ∙ ap (λ z. run c (start d) z) same ∙ h.ran in
    let machine : r.machine ≡ m = cc in
    let part = held_end r.part h.held h.front none in
    g.1 ∙ ap (λ z. Some (record { machine = r.machine; part = z })) part ∙ ap (λ z. Some (between z)) machine
  where
    go : (r : Reader) (h : Reads d c (encodes cs) r) (es : List ℕ) → encodes es ≡ h.held → es ≡ []
    go r h [] k = refl
    go r h (x ∷ es) k = no_whole r.part h.held (encodes es) x h.front (sym k)

pub fault_past : (c : ℕ) (p q : List ℕ) (n : ℕ) (r r2 : Reader) → read_bytes c r p ≡ Some r2 → fault_from c r n (p ++ q) ≡ fault_from c r2 (n + length p) q
fault_past c [] q n r r2 e =
    let same : r ≡ r2 = cc in
    let zero_more : n ≡ n + 0 = omega arith in
    ap (λ z. fault_from c z n q) same ∙ ap (λ z. fault_from c r2 z q) zero_more
fault_past c (b ∷ p) q n r r2 e =
    let x = then_reader (read_byte c r b) (λ r1. read_bytes c r1 p) r2 e in
    let one : suc n + length p ≡ n + suc (length p) = omega arith in
    rw x.1 (fault_past c p q (suc n) x.0 r2 x.2 ∙ ap (λ z. fault_from c r2 z q) one)

pub fault_after : (d c : ℕ) (cs rest : List ℕ) (m : Machine) → scalars cs ≡ true → run c (start d) cs ≡ Some m → text_fault d c (encodes cs ++ rest) ≡ refusal c m (length (encodes cs)) rest
fault_after d c cs rest m s e =
    let z : 0 + length (encodes cs) ≡ length (encodes cs) = omega arith in
    fault_past c (encodes cs) rest 0 (begin d) (between m) (read_text d c cs m s e) ∙ ap (λ k. fault_from c (between m) k rest) z

wide_misplaced : (l : Lexical) (x y : ℕ) → 128 ≤ x → 128 ≤ y → misplaced l x ≡ misplaced l y
wide_misplaced TagOpen x y h k = rw (far x 47 h refl, far y 47 k refl) refl
wide_misplaced l x y h k = refl

wide_kind : (m : Machine) (x y : ℕ) → 128 ≤ x → 128 ≤ y → kind_at m x ≡ kind_at m y
wide_kind m x y h k = rw (wide_begins m.lex m x y h k, wide_misplaced m.lex x y h k) refl

first_stops : (c : ℕ) (m : Machine) (n x b : ℕ) (u more : List ℕ) → scalar x ≡ true → 128 ≤ x → encode x ≡ b ∷ u → takes_wide c m ≡ false → (z : Decoded) → lead b ≡ z → DecodedIs [] b z → fault_next (read_decoded c m z) (λ r1. fault_from c r1 (suc n) (u ++ more)) (n, kind_decoded m b z) ≡ Some (n, kind_at m x)
first_stops c m n x b u more s h e w Bad dz k = absurd (k x u s e)
first_stops c m n x b u more s h e w (Part q) dz k = rw w (ap (λ z. Some (n, z)) (wide_kind m b x k.0 h))
first_stops c m n x b u more s h e w (Whole y) dz k =
    let z = encode_same x y [] u (app_nil (encode x) ∙ e ∙ ap (λ v. v ++ u) (sym k.1)) in
    let one : encode x ≡ b ∷ [] = ap encode z.0 ∙ k.1 in
    elim (sized x) [
      | inl v ↦ absurd (let lt = v.0 in omega arith)
      | inr (inl v) ↦ let bad : (192 + x / 64) ∷ next x ∷ [] ≡ b ∷ [] = sym v.2 ∙ one in cc
      | inr (inr (inl v)) ↦ let bad : (224 + x / 4096) ∷ next (x / 64) ∷ next x ∷ [] ≡ b ∷ [] = sym v.2 ∙ one in cc
      | inr (inr (inr v)) ↦ let bad : (240 + x / 262144) ∷ next (x / 4096) ∷ next (x / 64) ∷ next x ∷ [] ≡ b ∷ [] = sym v.1 ∙ one in cc
    ]

some_byte : (x : ℕ) → (b : ℕ) × (u : List ℕ) × (encode x ≡ b ∷ u)
some_byte x = go (encode x) refl
  where
    go : (l : List ℕ) → encode x ≡ l → (b : ℕ) × (u : List ℕ) × (encode x ≡ b ∷ u)
    go [] e = let k = length-encode x in let l = len_utf8_bounds x in let l0 = l.0 in let z : length (encode x) ≡ 0 = ap length e in absurd (omega arith)
    go (b ∷ u) e = (b, u, e)

control : (c : ℕ) (m : Machine) (x : ℕ) → 128 ≤ x → takes_wide c m ≡ true → step c m x ≡ None → x < 160
control c m x h w n =
    elim (cases_lt x 160) [
      | inl lt ↦ lt
      | inr ge ↦ let y = wide_some c m.lex m x h ge w in let bad : None ≡ Some y.0 = sym n ∙ y.1 in cc
    ]

-- the answer at a character that the machine refuses
pub refused_character : (c : ℕ) (m : Machine) (n x : ℕ) (more : List ℕ) → scalar x ≡ true → step c m x ≡ None → refusal c m n (encode x ++ more) ≡ Some (refused_place c m n x, kind_at m x)
refused_character c m n x more s none =
    elim (cases_lt x 128) [
      | inl lt ↦
          let small : nat_le 128 x ≡ false = grind (arith, nat_tests) in
          ap (λ z. refusal c m n (z ++ more)) (encode_one x lt) ∙ rw (lt_test x 128 lt, none, small) (ap (λ z. Some (z, kind_at m x)) (and_false (takes_wide c m)))
      | inr ge ↦
          let big : nat_le 128 x ≡ true = le_test 128 x ge in
          elim (cases_Bool (takes_wide c m)) [
            | inr f ↦ let y = some_byte x in
                ap (λ z. refusal c m n (z ++ more)) y.2
                ∙ first_stops c m n x y.0 y.1 more s ge y.2 f (lead y.0) refl (decoded None [] y.0 refl)
                ∙ rw f refl
            | inl t ↦
                let lt = control c m x ge t none in
                let two : encode x ≡ 194 ∷ x ∷ [] = encode_two x ge (omega arith) ∙ ap (λ z. z ∷ next x ∷ []) (let q : 192 + x / 64 ≡ 194 = omega arith in q) ∙ ap (λ z. 194 ∷ z ∷ []) (let q : next x ≡ x = omega arith in q) in
                let top : nat_le x 191 ≡ true = le_test x 191 (omega arith) in
                let back : 128 + (x - 128) ≡ x = omega arith in
                ap (λ z. refusal c m n (z ++ more)) two ∙ rw (t, big, top, back, none) refl
          ]
    ]
  where
    and_false : (t : Bool) → n ≡ (if t && false then suc n else n)
    and_false true = refl
    and_false false = refl
