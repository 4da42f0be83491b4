-- The reader at other limits.
use Rattle.std.proofs.Common.{◌≡◌, ℕ, ◌+◌, ◌-◌, ◌≤◌, Bool, true, false, ◌⊎◌, inl, inr, List, [], ◌∷◌, ◌++◌, Option, Some, None, refl, sym, ap, ◌∙◌, subst, arith}
use Rattle.std.specs.Prelude.{if◌then◌else◌}
use Rattle.page_grammar.specs.Machine.{Machine, Lexical, Data, InText, TagOpen, step}
use Rattle.page_grammar.specs.Decoder.{Pending, Decoded, Bad, Part, Whole, decode}
use Rattle.page_grammar.specs.Reader.{Reader, between, begin, takes_wide_at, takes_wide, read_whole, read_decoded, read_byte, then_read, read_bytes}
use Rattle.page_grammar.specs.Bytes.{BeginsPage}
use Rattle.page_grammar.specs.Kind.{begins_node}
use Rattle.page_grammar.proofs.Reading.{Goes, then_reader, begins_reads, reads_begins}
use Rattle.page_grammar.proofs.Wide.{far, letter_wide}
use Rattle.page_grammar.proofs.Limits.{shift, lift, step_up, wide_up, same_at, node_is, node_none, room_for}

abbrev pub raised : ℕ → Reader → Reader
raised j r = record r { machine = shift j r.machine }

whole_up : (c C j x : ℕ) (m : Machine) (r1 : Reader) (o : Option Machine) → c ≤ C → step c m x ≡ o → read_whole o ≡ Some r1 → read_whole (step C (shift j m) x) ≡ Some (raised j r1)
whole_up c C j x m r1 None h e k = cc
whole_up c C j x m r1 (Some m1) h e k =
    let same : between m1 ≡ r1 = cc in
    ap (λ z. read_whole z) (step_up c C j m.lex m m1 x h e) ∙ ap (λ z. Some (raised j z)) same

part_up : (c C j : ℕ) (m : Machine) (q : Pending) (r1 : Reader) (t : Bool) → c ≤ C → takes_wide c m ≡ t → (if t then Some (record { machine = m; part = Some q }) else None) ≡ Some r1 → (if takes_wide C (shift j m) then Some (record { machine = shift j m; part = Some q }) else None) ≡ Some (raised j r1)
part_up c C j m q r1 true h e k =
    let r : Reader = record { machine = m; part = Some q } in
    let same : r ≡ r1 = cc in
    rw (wide_up c C j m.lex m h e) (ap (λ z. Some (raised j z)) same)
part_up c C j m q r1 false h e k = cc

decoded_up : (c C j : ℕ) (m : Machine) (r1 : Reader) (z : Decoded) → c ≤ C → read_decoded c m z ≡ Some r1 → read_decoded C (shift j m) z ≡ Some (raised j r1)
decoded_up c C j m r1 Bad h e = cc
decoded_up c C j m r1 (Part q) h e = part_up c C j m q r1 (takes_wide c m) h refl e
decoded_up c C j m r1 (Whole x) h e = whole_up c C j x m r1 (step c m x) h refl e

pub bytes_up : (c C j : ℕ) (s : List ℕ) (r r2 : Reader) → c ≤ C → read_bytes c r s ≡ Some r2 → read_bytes C (raised j r) s ≡ Some (raised j r2)
bytes_up c C j [] r r2 h e = let same : r ≡ r2 = cc in ap (λ z. Some (raised j z)) same
bytes_up c C j (b ∷ s) r r2 h e =
    let x = then_reader (read_byte c r b) (λ r1. read_bytes c r1 s) r2 e in
    let one = decoded_up c C j r.machine x.0 (decode r.part b) h x.1 in
    ap (λ o. then_read o (λ r1. read_bytes C r1 s)) one ∙ bytes_up c C j s x.0 r2 h x.2

-- what begins a page within the limits begins one within wider limits
pub more_limits : (d c j C : ℕ) (p : List ℕ) → c ≤ C → BeginsPage d c p → BeginsPage (d + j) C p
more_limits d c j C p h k =
    let x = begins_reads d c p k in
    reads_begins (d + j) C p (raised j x.0) (bytes_up c C j p (begin d) x.0 h x.1)

pub wider : (d c e a : ℕ) (p : List ℕ) → d ≤ e → c ≤ a → BeginsPage d c p → BeginsPage e a p
wider d c e a p h k b =
    let same : d + (e - d) ≡ e = omega arith in
    subst (λ z. BeginsPage z a p) same (more_limits d c (e - d) a p k b)

then_app : (o : Option Reader) (f g h : Reader → Option Reader) → ((r : Reader) → h r ≡ then_read (f r) g) → then_read o h ≡ then_read (then_read o f) g
then_app None f g h e = refl
then_app (Some r) f g h e = e r

pub read_append : (c : ℕ) (p q : List ℕ) (r : Reader) → read_bytes c r (p ++ q) ≡ then_read (read_bytes c r p) (λ r1. read_bytes c r1 q)
read_append c [] q r = refl
read_append c (b ∷ p) q r = then_app (read_byte c r b) (λ r1. read_bytes c r1 p) (λ r1. read_bytes c r1 q) (λ r1. read_bytes c r1 (p ++ q)) (λ r1. read_append c p q r1)

then_last : (o : Option Reader) → then_read o (λ r. Some r) ≡ o
then_last None = refl
then_last (Some r) = refl

pub read_one_more : (c d : ℕ) (p : List ℕ) (b : ℕ) (r : Reader) → read_bytes c (begin d) p ≡ Some r → read_bytes c (begin d) (p ++ b ∷ []) ≡ read_byte c r b
read_one_more c d p b r e = read_append c p (b ∷ []) (begin d) ∙ ap (λ o. then_read o (λ r1. read_bytes c r1 (b ∷ []))) e ∙ then_last (read_byte c r b)

-- the byte after p at wider limits

pub refused_at : (d c j C : ℕ) (p : List ℕ) (b : ℕ) (r : Reader) → c ≤ C → read_bytes c (begin d) p ≡ Some r → read_byte C (raised j r) b ≡ None → BeginsPage (d + j) C (p ++ b ∷ []) → ⊥
refused_at d c j C p b r h e n k =
    let x = begins_reads (d + j) C (p ++ b ∷ []) k in
    let y = read_one_more C (d + j) p b (raised j r) (bytes_up c C j p (begin d) r h e) in
    let no : None ≡ Some x.0 = sym n ∙ sym y ∙ x.1 in
    cc

pub goes_at : (d c j C : ℕ) (p : List ℕ) (b : ℕ) (r : Reader) → c ≤ C → read_bytes c (begin d) p ≡ Some r → Goes (read_byte C (raised j r) b) → BeginsPage (d + j) C (p ++ b ∷ [])
goes_at d c j C p b r h e g =
    let y = read_one_more C (d + j) p b (raised j r) (bytes_up c C j p (begin d) r h e) in
    reads_begins (d + j) C (p ++ b ∷ []) g.0 (y ∙ g.1)

-- the character for which the byte b stands
abbrev pub Fits : ℕ → Decoded → Type 0
Fits b Bad = ⊥
Fits b (Part q) = 128 ≤ b
Fits b (Whole x) = (x ≡ b) ⊎ ((128 ≤ b) × (128 ≤ x))

pub wide_begins : (l : Lexical) (m : Machine) (x y : ℕ) → 128 ≤ x → 128 ≤ y → begins_node l m x ≡ begins_node l m y
wide_begins Data m x y h k = rw (far x 60 h refl, far y 60 k refl) refl
wide_begins (InText t) m x y h k = rw (far x 60 h refl, far y 60 k refl) refl
wide_begins TagOpen m x y h k = rw (far x 33 h refl, far y 33 k refl, letter_wide x h, letter_wide y k) refl
wide_begins l m x y h k = refl

same_begins : (l : Lexical) (m : Machine) (b x : ℕ) → (x ≡ b) ⊎ ((128 ≤ b) × (128 ≤ x)) → begins_node l m x ≡ begins_node l m b
same_begins l m b x (inl e) = ap (λ z. begins_node l m z) e
same_begins l m b x (inr h) = wide_begins l m x b h.1 h.0

-- where a byte past ASCII makes a node certain it is the first of a run of text
wide_room : (c : ℕ) (l : Lexical) (m : Machine) (b : ℕ) → 128 ≤ b → begins_node l m b ≡ true → takes_wide_at c m l ≡ room_for c l m
wide_room c Data m b h k = refl
wide_room c (InText t) m b h k = let e = far b 60 h refl in cc
wide_room c TagOpen m b h k = let e = far b 33 h refl in let f = letter_wide b h in let g : begins_node TagOpen m b ≡ false = rw (e, f) refl in cc
wide_room c l m b h k = cc

-- and where it makes none certain the limits have no say
wide_same : (c C j : ℕ) (l : Lexical) (m : Machine) (b : ℕ) → 128 ≤ b → begins_node l m b ≡ false → takes_wide_at C (shift j m) l ≡ takes_wide_at c m l
wide_same c C j Data m b h k = let e = far b 60 h refl in let g : begins_node Data m b ≡ true = rw e refl in cc
wide_same c C j l m b h k = refl

pub refuse : (C : ℕ) (m : Machine) (b : ℕ) (z : Decoded) → Fits b z → begins_node m.lex m b ≡ true → room_for C m.lex m ≡ false → read_decoded C m z ≡ None
refuse C m b Bad f t n = refl
refuse C m b (Part q) f t n = rw (wide_room C m.lex m b f t ∙ n) refl
refuse C m b (Whole x) f t n = ap (λ z. read_whole z) (node_none C m.lex m x (same_begins m.lex m b x f ∙ t) n)

pub accept : (C : ℕ) (m : Machine) (b : ℕ) (z : Decoded) → Fits b z → begins_node m.lex m b ≡ true → room_for C m.lex m ≡ true → Goes (read_decoded C m z)
accept C m b Bad f t n = elim f [ ]
accept C m b (Part q) f t n = rw (wide_room C m.lex m b f t ∙ n) (record { machine = m; part = Some q }, refl)
accept C m b (Whole x) f t n = let k = node_is C m.lex m x (same_begins m.lex m b x f ∙ t) n in rw k (between _, refl)

whole_none : (o : Option Machine) → read_whole o ≡ None → o ≡ None
whole_none None e = refl
whole_none (Some m) e = cc

part_none : (t : Bool) (r : Reader) → (if t then Some r else None) ≡ None → t ≡ false
part_none true r e = cc
part_none false r e = refl

pub same_refusal : (c C j : ℕ) (m : Machine) (b : ℕ) (z : Decoded) → Fits b z → begins_node m.lex m b ≡ false → read_decoded c m z ≡ None → read_decoded C (shift j m) z ≡ None
same_refusal c C j m b Bad f t n = refl
same_refusal c C j m b (Part q) f t n = rw (wide_same c C j m.lex m b f t ∙ part_none (takes_wide c m) (record { machine = m; part = Some q }) n) refl
same_refusal c C j m b (Whole x) f t n =
    let e = same_at c C j m.lex m x (same_begins m.lex m b x f ∙ t) in
    ap (λ z. read_whole z) (e ∙ ap (λ z. lift j z) (whole_none (step c m x) n))
