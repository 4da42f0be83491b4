-- The decoder follows the bytes of characters.
use Rattle.std.proofs.Common.{◌≡◌, ℕ, zero, suc, ◌+◌, ◌-◌, ◌*◌, ◌/◌, ◌<◌, ◌≤◌, Bool, true, false, ◌&&◌, ◌⊎◌, inl, inr, List, [], ◌∷◌, ◌++◌, length, Option, Some, None, refl, sym, ap, ◌∙◌, subst, arith, append_assoc, length-append}
use Rattle.std.specs.Prelude.{nat_lt, nat_le, ◌==◌, if◌then◌else◌}
use Rattle.std.proofs.lemmas.Bool.{cases_Bool, cases_lt, eqb-false}
use Rattle.std.proofs.lemmas.Bool.Decides.{nat_tests}
use Rattle.std.proofs.Math.Utf8.{scalar, scalar_cases, low_scalar, encode, next}
use Rattle.page_grammar.specs.Decoder.{Pending, pending, Decoded, Bad, Part, Whole, lead, joined, continued, decode}
use Rattle.page_grammar.proofs.Facts.{same_char, and_parts, test_le, le_test, both_true}

pub lt_test : (a b : ℕ) → a < b → nat_lt a b ≡ true
lt_test a b h = grind (arith, nat_tests)

pub ge_test : (a b : ℕ) → b ≤ a → nat_lt a b ≡ false
ge_test a b h = grind (arith, nat_tests)

high_scalar : (x : ℕ) → 57344 ≤ x → x < 1114112 → scalar x ≡ true
high_scalar x h k = grind (arith, nat_tests)

pub encode_one : (x : ℕ) → x < 128 → encode x ≡ x ∷ []
unfolding encode
encode_one x h = rw (lt_test x 128 h) refl

pub encode_two : (x : ℕ) → 128 ≤ x → x < 2048 → encode x ≡ (192 + x / 64) ∷ next x ∷ []
unfolding encode
encode_two x h k = rw (ge_test x 128 h, lt_test x 2048 k) refl

encode_three : (x : ℕ) → 2048 ≤ x → x < 65536 → encode x ≡ (224 + x / 4096) ∷ next (x / 64) ∷ next x ∷ []
unfolding encode
encode_three x h k = let h1 : 128 ≤ x = omega arith in rw (ge_test x 128 h1, ge_test x 2048 h, lt_test x 65536 k) refl

encode_four : (x : ℕ) → 65536 ≤ x → encode x ≡ (240 + x / 262144) ∷ next (x / 4096) ∷ next (x / 64) ∷ next x ∷ []
unfolding encode
encode_four x h = let h1 : 128 ≤ x = omega arith in let h2 : 2048 ≤ x = omega arith in rw (ge_test x 128 h1, ge_test x 2048 h2, ge_test x 65536 h) refl

-- the characters by their numbers of bytes
abbrev Sized : ℕ → Type 0
Sized x =
    ((x < 128) × (encode x ≡ x ∷ []))
    ⊎ (((128 ≤ x) × (x < 2048) × (encode x ≡ (192 + x / 64) ∷ next x ∷ []))
    ⊎ (((2048 ≤ x) × (x < 65536) × (encode x ≡ (224 + x / 4096) ∷ next (x / 64) ∷ next x ∷ []))
    ⊎ ((65536 ≤ x) × (encode x ≡ (240 + x / 262144) ∷ next (x / 4096) ∷ next (x / 64) ∷ next x ∷ []))))

pub sized : (x : ℕ) → Sized x
sized x =
    elim (cases_lt x 128) [
      | inl a ↦ inl (a, encode_one x a)
      | inr a ↦ elim (cases_lt x 2048) [
        | inl b ↦ inr (inl (a, b, encode_two x a b))
        | inr b ↦ elim (cases_lt x 65536) [
          | inl e ↦ inr (inr (inl (b, e, encode_three x b e)))
          | inr e ↦ inr (inr (inr (e, encode_four x e)))
        ]
      ]
    ]

-- the bits before the last bytes, the first of these bytes, and all of them, where n bytes follow the next one
abbrev pub front : ℕ → ℕ → ℕ
front zero x = x / 64
front (suc zero) x = x / 4096
front (suc (suc n)) x = x / 262144

abbrev pub due_byte : ℕ → ℕ → ℕ
due_byte zero x = next x
due_byte (suc zero) x = next (x / 64)
due_byte (suc (suc n)) x = next (x / 4096)

abbrev pub last_bytes : ℕ → ℕ → List ℕ
last_bytes zero x = []
last_bytes (suc zero) x = next x ∷ []
last_bytes (suc (suc n)) x = next (x / 64) ∷ next x ∷ []

abbrev pub Due : Pending → ℕ → Type 0
Due p x = (front p.after x ≡ p.bits) × (p.low ≤ due_byte p.after x) × (due_byte p.after x ≤ p.high)

-- the characters that begin with the bytes held are those that are due
pub record Awaits (p : Pending) (held : List ℕ) : Type 0 where
  pub due : (x : ℕ) (t : List ℕ) → scalar x ≡ true → encode x ≡ held ++ t → Due p x × (t ≡ due_byte p.after x ∷ last_bytes p.after x)
  pub begins : (x : ℕ) → Due p x → (scalar x ≡ true) × (128 ≤ x) × (encode x ≡ held ++ due_byte p.after x ∷ last_bytes p.after x)
  pub some : (x : ℕ) × (160 ≤ x) × Due p x
  pub small : p.after ≤ 2
  pub floor : 128 ≤ p.low
  pub ceiling : p.high ≤ 191
  pub filled : 0 < length held

two : (b : ℕ) → 194 ≤ b → b < 224 → Awaits (pending (b - 192) 0 128 191) (b ∷ [])
two b h k =
    record {
      due = λ x t s e. elim (sized x) [
        | inl z ↦ let q : x ≡ b = let e1 = z.1 in cc in absurd (omega arith)
        | inr (inl z) ↦ let q : 192 + x / 64 ≡ b = let e1 = z.2 in cc in let r : t ≡ next x ∷ [] = let e1 = z.2 in cc in ((omega arith, omega arith, omega arith), r)
        | inr (inr (inl z)) ↦ let q : 224 + x / 4096 ≡ b = let e1 = z.2 in cc in absurd (omega arith)
        | inr (inr (inr z)) ↦ let q : 240 + x / 262144 ≡ b = let e1 = z.1 in cc in absurd (omega arith)
      ];
      begins = λ x d. let f : x / 64 ≡ b - 192 = d.0 in
          let lo : 128 ≤ x = omega arith in
          let hi : x < 2048 = omega arith in
          let q : 192 + x / 64 ≡ b = omega arith in
          (low_scalar x (omega arith), lo, encode_two x lo hi ∙ ap (λ z. z ∷ next x ∷ []) q);
      some = let x = (b - 192) * 64 + 63 in (x, omega arith, (omega arith, omega arith, omega arith));
      small = omega arith;
      floor = omega arith;
      ceiling = omega arith;
      filled = omega arith;
    }

-- which second bytes may follow b
abbrev Bounds3 : (b lo hi : ℕ) → Type 0
Bounds3 b lo hi =
    ((x : ℕ) → 2048 ≤ x → x < 65536 → (x < 55296) ⊎ (57344 ≤ x) → 224 + x / 4096 ≡ b → (lo ≤ next (x / 64)) × (next (x / 64) ≤ hi))
    × ((x : ℕ) → 224 + x / 4096 ≡ b → lo ≤ next (x / 64) → next (x / 64) ≤ hi → (2048 ≤ x) × (x < 65536) × (scalar x ≡ true))
    × (128 ≤ lo) × (hi ≤ 191) × (lo ≤ hi)

three : (b lo hi : ℕ) → 224 ≤ b → b < 240 → Bounds3 b lo hi → Awaits (pending (b - 224) 1 lo hi) (b ∷ [])
three b lo hi h k bo =
    let bottom = bo.2 in
    let top = bo.3 in
    let order = bo.4 in
    record {
      due = λ x t s e. elim (sized x) [
        | inl z ↦ let q : x ≡ b = let e1 = z.1 in cc in absurd (omega arith)
        | inr (inl z) ↦ let q : 192 + x / 64 ≡ b = let e1 = z.2 in cc in absurd (omega arith)
        | inr (inr (inl z)) ↦ let q : 224 + x / 4096 ≡ b = let e1 = z.2 in cc in
            let r : t ≡ next (x / 64) ∷ next x ∷ [] = let e1 = z.2 in cc in
            let y = bo.0 x z.0 z.1 (elim (scalar_cases x s) [ inl i ↦ inl i | inr i ↦ inr i.0 ]) q in
            ((omega arith, y.0, y.1), r)
        | inr (inr (inr z)) ↦ let q : 240 + x / 262144 ≡ b = let e1 = z.1 in cc in absurd (omega arith)
      ];
      begins = λ x d. let f : x / 4096 ≡ b - 224 = d.0 in
          let q : 224 + x / 4096 ≡ b = omega arith in
          let y = bo.1 x q d.1 d.2 in
          let lo : 128 ≤ x = let y0 = y.0 in omega arith in
          (y.2, lo, encode_three x y.0 y.1 ∙ ap (λ z. z ∷ next (x / 64) ∷ next x ∷ []) q);
      some = let x = (b - 224) * 4096 + (hi - 128) * 64 + 63 in
          let e1 : x / 4096 ≡ b - 224 = omega arith in
          let e2 : next (x / 64) ≡ hi = omega arith in
          let lo2 : lo ≤ next (x / 64) = rw e2 order in
          let hi2 : next (x / 64) ≤ hi = omega arith in
          let q : 224 + x / 4096 ≡ b = omega arith in
          let y = bo.1 x q lo2 hi2 in
          let z = y.0 in
          (x, omega arith, (e1, lo2, hi2));
      small = omega arith;
      floor = omega arith;
      ceiling = omega arith;
      filled = omega arith;
    }

abbrev Bounds4 : (b lo hi : ℕ) → Type 0
Bounds4 b lo hi =
    ((x : ℕ) → 65536 ≤ x → x < 1114112 → 240 + x / 262144 ≡ b → (lo ≤ next (x / 4096)) × (next (x / 4096) ≤ hi))
    × ((x : ℕ) → 240 + x / 262144 ≡ b → lo ≤ next (x / 4096) → next (x / 4096) ≤ hi → (65536 ≤ x) × (x < 1114112))
    × (128 ≤ lo) × (hi ≤ 191) × (lo ≤ hi)

four : (b lo hi : ℕ) → 240 ≤ b → b < 245 → Bounds4 b lo hi → Awaits (pending (b - 240) 2 lo hi) (b ∷ [])
four b lo hi h k bo =
    let bottom = bo.2 in
    let top = bo.3 in
    let order = bo.4 in
    record {
      due = λ x t s e. elim (sized x) [
        | inl z ↦ let q : x ≡ b = let e1 = z.1 in cc in absurd (omega arith)
        | inr (inl z) ↦ let q : 192 + x / 64 ≡ b = let e1 = z.2 in cc in absurd (omega arith)
        | inr (inr (inl z)) ↦ let q : 224 + x / 4096 ≡ b = let e1 = z.2 in cc in absurd (omega arith)
        | inr (inr (inr z)) ↦ let q : 240 + x / 262144 ≡ b = let e1 = z.1 in cc in
            let r : t ≡ next (x / 4096) ∷ next (x / 64) ∷ next x ∷ [] = let e1 = z.1 in cc in
            let top : x < 1114112 = elim (scalar_cases x s) [ inl i ↦ omega arith | inr i ↦ i.1 ] in
            let y = bo.0 x z.0 top q in
            ((omega arith, y.0, y.1), r)
      ];
      begins = λ x d. let f : x / 262144 ≡ b - 240 = d.0 in
          let q : 240 + x / 262144 ≡ b = omega arith in
          let y = bo.1 x q d.1 d.2 in
          let y0 = y.0 in
          let lo : 128 ≤ x = omega arith in
          let s : 57344 ≤ x = omega arith in
          (high_scalar x s y.1, lo, encode_four x y.0 ∙ ap (λ z. z ∷ next (x / 4096) ∷ next (x / 64) ∷ next x ∷ []) q);
      some = let x = (b - 240) * 262144 + (hi - 128) * 4096 + 4095 in
          let e1 : x / 262144 ≡ b - 240 = omega arith in
          let e2 : next (x / 4096) ≡ hi = omega arith in
          let lo2 : lo ≤ next (x / 4096) = rw e2 order in
          let hi2 : next (x / 4096) ≤ hi = omega arith in
          let q : 240 + x / 262144 ≡ b = omega arith in
          let y = bo.1 x q lo2 hi2 in
          let z = y.0 in
          (x, omega arith, (e1, lo2, hi2));
      small = omega arith;
      floor = omega arith;
      ceiling = omega arith;
      filled = omega arith;
    }

bounds_224 : (b : ℕ) → b ≡ 224 → Bounds3 b 160 191
bounds_224 b e = (λ x h k s q. (omega arith, omega arith), λ x q h k. let lo : 2048 ≤ x = omega arith in let hi : x < 65536 = omega arith in (lo, hi, low_scalar x (omega arith)), omega arith, omega arith, omega arith)

bounds_237 : (b : ℕ) → b ≡ 237 → Bounds3 b 128 159
bounds_237 b e =
    (λ x h k s q. let up : x < 55296 = elim s [ inl i ↦ i | inr i ↦ absurd (omega arith) ] in (omega arith, omega arith), λ x q h k. let lo : 2048 ≤ x = omega arith in let hi : x < 65536 = omega arith in (lo, hi, low_scalar x (omega arith)), omega arith, omega arith, omega arith)

bounds_low : (b : ℕ) → 225 ≤ b → b < 237 → Bounds3 b 128 191
bounds_low b l u = (λ x h k s q. (omega arith, omega arith), λ x q h k. let lo : 2048 ≤ x = omega arith in let hi : x < 65536 = omega arith in (lo, hi, low_scalar x (omega arith)), omega arith, omega arith, omega arith)

bounds_high : (b : ℕ) → 238 ≤ b → b < 240 → Bounds3 b 128 191
bounds_high b l u = (λ x h k s q. (omega arith, omega arith), λ x q h k. let lo : 2048 ≤ x = omega arith in let hi : x < 65536 = omega arith in (lo, hi, high_scalar x (omega arith) (omega arith)), omega arith, omega arith, omega arith)

bounds_240 : (b : ℕ) → b ≡ 240 → Bounds4 b 144 191
bounds_240 b e = (λ x h k q. (omega arith, omega arith), λ x q h k. (omega arith, omega arith), omega arith, omega arith, omega arith)

bounds_244 : (b : ℕ) → b ≡ 244 → Bounds4 b 128 143
bounds_244 b e = (λ x h k q. (omega arith, omega arith), λ x q h k. (omega arith, omega arith), omega arith, omega arith, omega arith)

bounds_mid : (b : ℕ) → 241 ≤ b → b < 244 → Bounds4 b 128 191
bounds_mid b l u = (λ x h k q. (omega arith, omega arith), λ x q h k. (omega arith, omega arith), omega arith, omega arith, omega arith)

-- what one more byte tells
abbrev pub DecodedIs : List ℕ → ℕ → Decoded → Type 0
DecodedIs h b Bad = (x : ℕ) (t : List ℕ) → scalar x ≡ true → encode x ≡ h ++ b ∷ t → ⊥
DecodedIs h b (Part p) = (128 ≤ b) × Awaits p (h ++ b ∷ [])
DecodedIs h b (Whole x) = (scalar x ≡ true) × (encode x ≡ h ++ b ∷ []) × ((x ≡ b) ⊎ ((128 ≤ b) × (128 ≤ x)))

is_if : (h : List ℕ) (b : ℕ) (t : Bool) (x y : Decoded) → (t ≡ true → DecodedIs h b x) → (t ≡ false → DecodedIs h b y) → DecodedIs h b (if t then x else y)
is_if h b true x y f g = f refl
is_if h b false x y f g = g refl

from_lt : (a b : ℕ) → nat_lt a b ≡ true → a < b
from_lt a b h = grind (arith, nat_tests)

from_ge : (a b : ℕ) → nat_lt a b ≡ false → b ≤ a
from_ge a b h = grind (arith, nat_tests)

three_is : (b : ℕ) → 224 ≤ b → b < 240 → Awaits (pending (b - 224) 1 (if b == 224 then 160 else 128) (if b == 237 then 159 else 191)) (b ∷ [])
three_is b h k =
    elim (cases_Bool (b == 224)) [
      | inl t ↦ let e = same_char b 224 t in
          let f : (b == 237) ≡ false = grind (arith, nat_tests) in
          rw (t, f) (three b 160 191 h k (bounds_224 b e))
      | inr f ↦ elim (cases_Bool (b == 237)) [
        | inl t ↦ rw (f, t) (three b 128 159 h k (bounds_237 b (same_char b 237 t)))
        | inr g ↦ let n = eqb-false b 224 f in
            let n2 = eqb-false b 237 g in
            elim (cases_lt b 237) [
              | inl lt ↦ rw (f, g) (three b 128 191 h k (bounds_low b (elim (cases_lt b 225) [ inl s ↦ absurd (n (omega arith)) | inr s ↦ s ]) lt))
              | inr ge ↦ rw (f, g) (three b 128 191 h k (bounds_high b (elim (cases_lt b 238) [ inl s ↦ absurd (n2 (omega arith)) | inr s ↦ s ]) k))
            ]
      ]
    ]

four_is : (b : ℕ) → 240 ≤ b → b < 245 → Awaits (pending (b - 240) 2 (if b == 240 then 144 else 128) (if b == 244 then 143 else 191)) (b ∷ [])
four_is b h k =
    elim (cases_Bool (b == 240)) [
      | inl t ↦ let e = same_char b 240 t in
          let f : (b == 244) ≡ false = grind (arith, nat_tests) in
          rw (t, f) (four b 144 191 h k (bounds_240 b e))
      | inr f ↦ elim (cases_Bool (b == 244)) [
        | inl t ↦ rw (f, t) (four b 128 143 h k (bounds_244 b (same_char b 244 t)))
        | inr g ↦ let n = eqb-false b 240 f in
            let n2 = eqb-false b 244 g in
            rw (f, g) (four b 128 191 h k (bounds_mid b (elim (cases_lt b 241) [ inl s ↦ absurd (n (omega arith)) | inr s ↦ s ]) (elim (cases_lt b 244) [ inl s ↦ s | inr s ↦ absurd (n2 (omega arith)) ])))
      ]
    ]

-- no character begins with such a byte
no_lead : (b : ℕ) → (128 ≤ b) → (b < 194) ⊎ (245 ≤ b) → (x : ℕ) (t : List ℕ) → scalar x ≡ true → encode x ≡ b ∷ t → ⊥
no_lead b lo out x t s e =
    let top : x < 1114112 = elim (scalar_cases x s) [ inl i ↦ omega arith | inr i ↦ i.1 ] in
    elim (sized x) [
      | inl z ↦ let q : x ≡ b = let e1 = z.1 in cc in omega arith
      | inr (inl z) ↦ let q : 192 + x / 64 ≡ b = let e1 = z.2 in cc in omega arith
      | inr (inr (inl z)) ↦ let q : 224 + x / 4096 ≡ b = let e1 = z.2 in cc in omega arith
      | inr (inr (inr z)) ↦ let q : 240 + x / 262144 ≡ b = let e1 = z.1 in cc in omega arith
    ]

lead_is : (b : ℕ) → DecodedIs [] b (lead b)
lead_is b =
    let five : Decoded = if nat_lt b 245 then Part (pending (b - 240) 2 (if b == 240 then 144 else 128) (if b == 244 then 143 else 191)) else Bad in
    let at_four : Decoded = if nat_lt b 240 then Part (pending (b - 224) 1 (if b == 224 then 160 else 128) (if b == 237 then 159 else 191)) else five in
    let at_three : Decoded = if nat_lt b 224 then Part (pending (b - 192) 0 128 191) else at_four in
    let at_two : Decoded = if nat_lt b 194 then Bad else at_three in
    is_if [] b (nat_lt b 128) (Whole b) at_two
    (λ t. let h = from_lt b 128 t in (low_scalar b (omega arith), encode_one b h, inl refl))
    (λ t. let h = from_ge b 128 t in
    is_if [] b (nat_lt b 194) Bad at_three
    (λ u. no_lead b h (inl (from_lt b 194 u)))
    (λ u. let h2 = from_ge b 194 u in
    is_if [] b (nat_lt b 224) (Part (pending (b - 192) 0 128 191)) at_four
    (λ v. (h, two b h2 (from_lt b 224 v)))
    (λ v. let h3 = from_ge b 224 v in
    is_if [] b (nat_lt b 240) (Part (pending (b - 224) 1 (if b == 224 then 160 else 128) (if b == 237 then 159 else 191))) five
    (λ w. (h, three_is b h3 (from_lt b 240 w)))
    (λ w. let h4 = from_ge b 240 w in
    is_if [] b (nat_lt b 245) (Part (pending (b - 240) 2 (if b == 240 then 144 else 128) (if b == 244 then 143 else 191))) Bad
    (λ y. (h, four_is b h4 (from_lt b 245 y)))
    (λ y. no_lead b h (inr (from_ge b 245 y)))))))

joined_is : (v n lo hi b : ℕ) (h : List ℕ) → Awaits (pending v n lo hi) h → lo ≤ b → b ≤ hi → DecodedIs h b (joined (v * 64 + (b - 128)) n)
joined_is v zero lo hi b h a l u =
    let x = v * 64 + (b - 128) in
    let fl = a.floor in
    let ce = a.ceiling in
    let e1 : x / 64 ≡ v = omega arith in
    let e2 : next x ≡ b = omega arith in
    let l2 : lo ≤ next x = rw e2 l in
    let u2 : next x ≤ hi = rw e2 u in
    let z = a.begins x (e1, l2, u2) in
    let big : 128 ≤ b = omega arith in
    (z.0, z.2 ∙ ap (λ y. h ++ y ∷ []) e2, inr (big, z.1))
joined_is v (suc zero) lo hi b h a l u =
    let w = v * 64 + (b - 128) in
    let fl = a.floor in
    let ce = a.ceiling in
    let back : (x : ℕ) → x / 64 ≡ w → (scalar x ≡ true) × (128 ≤ x) × (encode x ≡ (h ++ b ∷ []) ++ next x ∷ []) = λ x e.
    let e1 : x / 4096 ≡ v = omega arith in
    let e2 : next (x / 64) ≡ b = omega arith in
    let l2 : lo ≤ next (x / 64) = rw e2 l in
    let u2 : next (x / 64) ≤ hi = rw e2 u in
    let z = a.begins x (e1, l2, u2) in
    (z.0, z.1, z.2 ∙ ap (λ y. h ++ y ∷ next x ∷ []) e2 ∙ sym (append_assoc h (b ∷ []) (next x ∷ []))) in (
      omega arith,
      record {
        due = λ x t s e.
            let z = a.due x (b ∷ t) s (e ∙ append_assoc h (b ∷ []) t) in
            let front_is : x / 4096 ≡ v = z.0.0 in
            let e2 : b ≡ next (x / 64) = let k = z.1 in cc in
            let e3 : t ≡ next x ∷ [] = let k = z.1 in cc in
            ((omega arith, omega arith, omega arith), e3);
        begins = λ x d. back x d.0;
        some = let x = w * 64 + 63 in let e : x / 64 ≡ w = omega arith in let z = back x e in let big = z.1 in (x, omega arith, (e, omega arith, omega arith));
        small = omega arith;
        floor = omega arith;
        ceiling = omega arith;
        filled = let k = length-append h (b ∷ []) in omega arith;
      },
    )
joined_is v (suc (suc zero)) lo hi b h a l u =
    let w = v * 64 + (b - 128) in
    let fl = a.floor in
    let ce = a.ceiling in
    let back : (x : ℕ) → x / 4096 ≡ w → (scalar x ≡ true) × (128 ≤ x) × (encode x ≡ (h ++ b ∷ []) ++ next (x / 64) ∷ next x ∷ []) = λ x e.
    let e1 : x / 262144 ≡ v = omega arith in
    let e2 : next (x / 4096) ≡ b = omega arith in
    let l2 : lo ≤ next (x / 4096) = rw e2 l in
    let u2 : next (x / 4096) ≤ hi = rw e2 u in
    let z = a.begins x (e1, l2, u2) in
    (z.0, z.1, z.2 ∙ ap (λ y. h ++ y ∷ next (x / 64) ∷ next x ∷ []) e2 ∙ sym (append_assoc h (b ∷ []) (next (x / 64) ∷ next x ∷ []))) in (
      omega arith,
      record {
        due = λ x t s e.
            let z = a.due x (b ∷ t) s (e ∙ append_assoc h (b ∷ []) t) in
            let front_is : x / 262144 ≡ v = z.0.0 in
            let e2 : b ≡ next (x / 4096) = let k = z.1 in cc in
            let e3 : t ≡ next (x / 64) ∷ next x ∷ [] = let k = z.1 in cc in
            ((omega arith, omega arith, omega arith), e3);
        begins = λ x d. back x d.0;
        some = let x = w * 4096 + 4095 in let e : x / 4096 ≡ w = omega arith in let z = back x e in let big = z.1 in (x, omega arith, (e, omega arith, omega arith));
        small = omega arith;
        floor = omega arith;
        ceiling = omega arith;
        filled = let k = length-append h (b ∷ []) in omega arith;
      },
    )
joined_is v (suc (suc (suc n))) lo hi b h a l u = let s = a.small in absurd (omega arith)

-- the bytes held are none, or the front of characters that are due
abbrev pub Held : Option Pending → List ℕ → Type 0
Held None h = h ≡ []
Held (Some p) h = Awaits p h

continued_is : (p : Pending) (h : List ℕ) (b : ℕ) → Awaits p h → DecodedIs h b (continued p b)
continued_is p h b a =
    is_if h b (nat_le p.low b && nat_le b p.high) (joined (p.bits * 64 + (b - 128)) p.after) Bad
    (λ t. let k = and_parts (nat_le p.low b) (nat_le b p.high) t in
    joined_is p.bits p.after p.low p.high b h a (test_le p.low b k.0) (test_le b p.high k.1))
    (λ t. λ x r s e.
    let z = a.due x (b ∷ r) s e in
    let q : b ≡ due_byte p.after x = let k = z.1 in cc in
    let l : p.low ≤ b = rw q z.0.1 in
    let u : b ≤ p.high = rw q z.0.2 in
    let all : (nat_le p.low b && nat_le b p.high) ≡ true = both_true (nat_le p.low b) (nat_le b p.high) (le_test p.low b l) (le_test b p.high u) in
    let no : true ≡ false = sym all ∙ t in
    cc)

pub decoded : (o : Option Pending) (h : List ℕ) (b : ℕ) → Held o h → DecodedIs h b (decode o b)
decoded None h b e = subst (λ z. DecodedIs z b (lead b)) (sym e) (lead_is b)
decoded (Some p) h b a = continued_is p h b a
