-- The reader goes on as long as some page does.
use Rattle.std.proofs.Common.{◌≡◌, ℕ, ◌+◌, ◌<◌, ◌≤◌, Bool, true, false, inl, inr, List, [], ◌∷◌, ◌++◌, length, Option, Some, None, refl, sym, ap, ◌∙◌, subst, arith, append_assoc, length-append}
use Rattle.std.specs.Prelude.{if◌then◌else◌}
use Rattle.std.proofs.lemmas.Bool.{cases_Bool, cases_lt}
use Rattle.std.proofs.lemmas.Str.{encodes-append, encode_same, length-encode, len_utf8_bounds}
use Rattle.std.proofs.Math.Utf8.{scalar, scalars, encode, encodes}
use Rattle.page_grammar.specs.Machine.{Machine, run, start, step, then_run}
use Rattle.page_grammar.specs.Decoder.{Pending, Decoded, Bad, Part, Whole, decode}
use Rattle.page_grammar.specs.Reader.{Reader, between, begin, takes_wide, read_whole, read_decoded, read_byte, then_read, read_bytes}
use Rattle.page_grammar.specs.Bytes.{BeginsPage}
use Rattle.page_grammar.proofs.Facts.{app_nil, and_parts, both_true, scalars_app, scalars_split, then_some}
use Rattle.page_grammar.proofs.Complete.{page_read}
use Rattle.page_grammar.proofs.LongestPrefix.{Live, live_run, run_append, can_go}
use Rattle.page_grammar.proofs.Decoding.{Awaits, due_byte, last_bytes, DecodedIs, Held, decoded}
use Rattle.page_grammar.proofs.Wide.{wide_none, wide_some}

-- P holds of what comes, if something comes
abbrev pub OnReader : (Reader → Type 0) → Option Reader → Type 0
OnReader P None = Unit {0}
OnReader P (Some r) = P r

abbrev pub Goes : Option Reader → Type 0
Goes o = (r : Reader) × (o ≡ Some r)

pub on_reader : (P : Reader → Type 0) (o : Option Reader) (r : Reader) → OnReader P o → o ≡ Some r → P r
on_reader P None r h e = cc
on_reader P (Some x) r h e = let k : x ≡ r = cc in subst P k h

pub then_reader : (o : Option Reader) (k : Reader → Option Reader) (r2 : Reader) → then_read o k ≡ Some r2 → (r1 : Reader) × (o ≡ Some r1) × (k r1 ≡ Some r2)
then_reader None k r2 h = cc
then_reader (Some r1) k r2 h = (r1, refl, h)

pub live_start : (c d : ℕ) (cs : List ℕ) (m : Machine) → run c (start d) cs ≡ Some m → Live c m
live_start c d cs m e = live_run c cs (start d) m (record { name = tt; names = tt; state = tt }) e

then_end : (o : Option Machine) → then_run o (λ m. Some m) ≡ o
then_end None = refl
then_end (Some m) = refl

pub one_more : (c d : ℕ) (cs : List ℕ) (x : ℕ) (m : Machine) → run c (start d) cs ≡ Some m → run c (start d) (cs ++ x ∷ []) ≡ step c m x
one_more c d cs x m e = run_append c cs (x ∷ []) (start d) ∙ ap (λ o. then_run o (λ m1. run c m1 (x ∷ []))) e ∙ then_end (step c m x)

abbrev IsWide : ℕ → Machine → Option Pending → Type 0
IsWide c m None = Unit {0}
IsWide c m (Some p) = takes_wide c m ≡ true

-- what the reader has read: whole characters that the machine takes, and the front of one that it may take
pub record Reads (d c : ℕ) (p : List ℕ) (r : Reader) : Type 0 where
  pub chars : List ℕ
  pub held : List ℕ
  pub all : p ≡ encodes chars ++ held
  pub plain : scalars chars ≡ true
  pub ran : run c (start d) chars ≡ Some r.machine
  pub front : Held r.part held
  pub wide : IsWide c r.machine r.part

pub reads_start : (d c : ℕ) → Reads d c [] (begin d)
reads_start d c = record { chars = []; held = []; all = refl; plain = refl; ran = refl; front = refl; wide = tt }

whole_reads : (d c : ℕ) (p : List ℕ) (r : Reader) (b x : ℕ) (h : Reads d c p r) → scalar x ≡ true → encode x ≡ h.held ++ b ∷ [] → (o : Option Machine) → step c r.machine x ≡ o → OnReader (λ r1. Reads d c (p ++ b ∷ []) r1) (read_whole o)
whole_reads d c p r b x h s e None k = tt
whole_reads d c p r b x h s e (Some m1) k =
    record {
      chars = h.chars ++ x ∷ [];
      held = [];
      all = ap (λ z. z ++ b ∷ []) h.all ∙ append_assoc (encodes h.chars) h.held (b ∷ []) ∙ ap (λ z. encodes h.chars ++ z) (sym e ∙ sym (app_nil (encode x))) ∙ sym (encodes-append h.chars (x ∷ [])) ∙ sym (app_nil (encodes (h.chars ++ x ∷ [])));
      plain = scalars_app h.chars (x ∷ []) h.plain (both_true (scalar x) true s refl);
      ran = one_more c d h.chars x r.machine h.ran ∙ k;
      front = refl;
      wide = tt;
    }

part_reads : (d c : ℕ) (p : List ℕ) (r : Reader) (b : ℕ) (q : Pending) (h : Reads d c p r) → Awaits q (h.held ++ b ∷ []) → (t : Bool) → takes_wide c r.machine ≡ t → OnReader (λ r1. Reads d c (p ++ b ∷ []) r1) (if t then Some (record { machine = r.machine; part = Some q }) else None)
part_reads d c p r b q h a false k = tt
part_reads d c p r b q h a true k =
    record {
      chars = h.chars;
      held = h.held ++ b ∷ [];
      all = ap (λ z. z ++ b ∷ []) h.all ∙ append_assoc (encodes h.chars) h.held (b ∷ []);
      plain = h.plain;
      ran = h.ran;
      front = a;
      wide = k;
    }

decoded_reads : (d c : ℕ) (p : List ℕ) (r : Reader) (b : ℕ) (h : Reads d c p r) (x : Decoded) → DecodedIs h.held b x → OnReader (λ r1. Reads d c (p ++ b ∷ []) r1) (read_decoded c r.machine x)
decoded_reads d c p r b h Bad k = tt
decoded_reads d c p r b h (Part q) k = part_reads d c p r b q h k.1 (takes_wide c r.machine) refl
decoded_reads d c p r b h (Whole x) k = whole_reads d c p r b x h k.0 k.1 (step c r.machine x) refl

pub byte_reads : (d c : ℕ) (p : List ℕ) (r : Reader) (b : ℕ) → Reads d c p r → OnReader (λ r1. Reads d c (p ++ b ∷ []) r1) (read_byte c r b)
byte_reads d c p r b h = decoded_reads d c p r b h (decode r.part b) (decoded r.part h.held b h.front)

pub all_reads : (d c : ℕ) (q p : List ℕ) (r r2 : Reader) → Reads d c p r → read_bytes c r q ≡ Some r2 → Reads d c (p ++ q) r2
all_reads d c [] p r r2 h e = let k : r ≡ r2 = cc in subst (λ z. Reads d c (p ++ []) z) k (subst (λ z. Reads d c z r) (sym (app_nil p)) h)
all_reads d c (b ∷ q) p r r2 h e =
    let x = then_reader (read_byte c r b) (λ r1. read_bytes c r1 q) r2 e in
    let one = on_reader (λ r1. Reads d c (p ++ b ∷ []) r1) (read_byte c r b) x.0 (byte_reads d c p r b h) x.1 in
    subst (λ z. Reads d c z r2) (append_assoc p (b ∷ []) q) (all_reads d c q (p ++ b ∷ []) x.0 r2 one x.2)

-- what is read begins some page

pub to_page : (d c : ℕ) (p t cs : List ℕ) (m : Machine) → encodes cs ≡ p ++ t → scalars cs ≡ true → run c (start d) cs ≡ Some m → BeginsPage d c p
to_page d c p t cs m e s r =
    let x = can_go d c cs m r in
    let all : encodes (cs ++ x.0) ≡ p ++ (t ++ encodes x.0) = encodes-append cs x.0 ∙ ap (λ z. z ++ encodes x.0) e ∙ append_assoc p t (encodes x.0) in
    (t ++ encodes x.0, (x.2, (cs ++ x.0, scalars_app cs x.0 s x.1, all, x.3)))

begins_by : (d c : ℕ) (p : List ℕ) (r : Reader) (h : Reads d c p r) (o : Option Pending) → Held o h.held → IsWide c r.machine o → BeginsPage d c p
begins_by d c p r h None e w =
    to_page d c p [] h.chars r.machine (sym (app_nil (encodes h.chars)) ∙ ap (λ z. encodes h.chars ++ z) (sym e) ∙ sym h.all ∙ sym (app_nil p)) h.plain h.ran
begins_by d c p r h (Some q) a w =
    let x = a.some in
    let due = a.begins x.0 x.2 in
    let go = wide_some c r.machine.lex r.machine x.0 due.1 x.1 w in
    let tail = due_byte q.after x.0 ∷ last_bytes q.after x.0 in
    let all : encodes (h.chars ++ x.0 ∷ []) ≡ p ++ tail =
    encodes-append h.chars (x.0 ∷ []) ∙ ap (λ z. encodes h.chars ++ z) (app_nil (encode x.0) ∙ due.2) ∙ sym (append_assoc (encodes h.chars) h.held tail) ∙ ap (λ z. z ++ tail) (sym h.all) in
    to_page d c p tail (h.chars ++ x.0 ∷ []) go.0 all (scalars_app h.chars (x.0 ∷ []) h.plain (both_true (scalar x.0) true due.0 refl)) (one_more c d h.chars x.0 r.machine h.ran ∙ go.1)

pub read_begins : (d c : ℕ) (p : List ℕ) (r : Reader) → Reads d c p r → BeginsPage d c p
read_begins d c p r h = begins_by d c p r h r.part h.front h.wide

-- what begins some page is read

-- two ways of cutting one list
cut_two : (a b u v : List ℕ) → a ++ b ≡ u ++ v → length a ≤ length u → (t : List ℕ) × (u ≡ a ++ t) × (b ≡ t ++ v)
cut_two [] b u v e h = (u, refl, e)
cut_two (x ∷ xs) b [] v e h = absurd (omega arith)
cut_two (x ∷ xs) b (y ∷ ys) v e h =
    let hd : x ≡ y = cc in
    let tl : xs ++ b ≡ ys ++ v = cc in
    let le : length xs ≤ length ys = omega arith in
    let z = cut_two xs b ys v tl le in
    (z.0, let k = z.1 in cc, z.2)

-- the same characters come first
pub peel : (cs ds w : List ℕ) → encodes ds ≡ encodes cs ++ w → scalars ds ≡ true → (es : List ℕ) × (ds ≡ cs ++ es) × (encodes es ≡ w)
peel [] ds w e s = (ds, refl, e)
peel (x ∷ cs) [] w e s = let k = len_utf8_bounds x in let k0 = k.0 in let l = length-encode x in let z : 0 ≡ length (encode x ++ encodes cs) + length w = ap length (e ∙ refl) ∙ length-append (encode x ++ encodes cs) w in let z2 = length-append (encode x) (encodes cs) in absurd (omega arith)
peel (x ∷ cs) (y ∷ ds) w e s =
    let z = encode_same y x (encodes ds) (encodes cs ++ w) (e ∙ append_assoc (encode x) (encodes cs) w) in
    let more = peel cs ds w z.1 (and_parts (scalar y) (scalars ds) s).1 in
    let head = z.0 in
    let rest = more.1 in
    (more.0, cc, more.2)

pub no_nil : {A : Type 0} (t : List ℕ) (b : ℕ) (q : List ℕ) → [] ≡ t ++ b ∷ q → A
no_nil [] b q e = cc
no_nil (y ∷ ys) b q e = cc

pub no_whole : {A : Type 0} (o : Option Pending) (h t : List ℕ) (x : ℕ) → Held o h → h ≡ encode x ++ t → A
no_whole None h t x k e =
    let l = length-encode x in
    let b = len_utf8_bounds x in
    let b0 = b.0 in
    let n : 0 ≡ length (encode x) + length t = ap length (sym k ∙ e) ∙ length-append (encode x) t in
    absurd (omega arith)
no_whole (Some p) h t x a e =
    let y = a.some in
    let due = a.begins y.0 y.2 in
    let last = due_byte p.after y.0 ∷ last_bytes p.after y.0 in
    let z : encode y.0 ++ [] ≡ encode x ++ (t ++ last) = app_nil (encode y.0) ∙ due.2 ∙ ap (λ k. k ++ last) e ∙ append_assoc (encode x) t last in
    let same = encode_same y.0 x [] (t ++ last) z in
    no_nil t (due_byte p.after y.0) (last_bytes p.after y.0) same.1

pub front_of : (o : Option Pending) (h : List ℕ) (x b : ℕ) (w q : List ℕ) → Held o h → encode x ++ w ≡ h ++ b ∷ q → (t : List ℕ) × (encode x ≡ h ++ b ∷ t)
front_of o h x b w q k e =
    elim (cases_lt (length h) (length (encode x))) [
      | inr ge ↦ let z = cut_two (encode x) w h (b ∷ q) e ge in no_whole o h z.0 x k z.1
      | inl lt ↦ let le : length h ≤ length (encode x) = omega arith in
          let z = cut_two h (b ∷ q) (encode x) w (sym e) le in
          go z.0 z.1 z.2 lt
    ]
  where
    go : (t : List ℕ) → encode x ≡ h ++ t → b ∷ q ≡ t ++ w → length h < length (encode x) → (t : List ℕ) × (encode x ≡ h ++ b ∷ t)
    go [] e1 e2 lt = let n : length (encode x) ≡ length h + 0 = ap length e1 ∙ length-append h [] in absurd (omega arith)
    go (y ∷ ys) e1 e2 lt = let hd : y ≡ b = cc in (ys, e1 ∙ ap (λ z. h ++ z ∷ ys) hd)

goes_if : (t : Bool) (r : Reader) → t ≡ true → Goes (if t then Some r else None)
goes_if true r e = (r, refl)
goes_if false r e = cc

goes_whole : (o : Option Machine) (m : Machine) → o ≡ Some m → Goes (read_whole o)
goes_whole None m e = cc
goes_whole (Some x) m e = (between x, refl)

goes_decoded : (d c : ℕ) (p : List ℕ) (r : Reader) (b : ℕ) (h : Reads d c p r) (x : ℕ) (t : List ℕ) (m1 : Machine) → scalar x ≡ true → encode x ≡ h.held ++ b ∷ t → step c r.machine x ≡ Some m1 → (z : Decoded) → DecodedIs h.held b z → Goes (read_decoded c r.machine z)
goes_decoded d c p r b h x t m1 s e g Bad k = absurd (k x t s e)
goes_decoded d c p r b h x t m1 s e g (Part q) k =
    let a = k.1 in
    let due = a.due x t s (e ∙ sym (append_assoc h.held (b ∷ []) t)) in
    let big = (a.begins x due.0).1 in
    elim (cases_Bool (takes_wide c r.machine)) [
      | inl y ↦ goes_if (takes_wide c r.machine) (record { machine = r.machine; part = Some q }) y
      | inr n ↦ let none = wide_none c r.machine.lex r.machine x (live_start c d h.chars r.machine h.ran) big n in
          let no : None ≡ Some m1 = sym none ∙ g in
          cc
    ]
goes_decoded d c p r b h x t m1 s e g (Whole y) k =
    let z = encode_same x y [] t (app_nil (encode x) ∙ e ∙ sym (append_assoc h.held (b ∷ []) t) ∙ ap (λ v. v ++ t) (sym k.1)) in
    goes_whole (step c r.machine y) m1 (ap (λ v. step c r.machine v) (sym z.0) ∙ g)

goes_first : (d c : ℕ) (p : List ℕ) (r : Reader) (b : ℕ) (h : Reads d c p r) (q ds : List ℕ) (there : Machine) → encodes ds ≡ h.held ++ b ∷ q → scalars ds ≡ true → run c r.machine ds ≡ Some there → Goes (read_byte c r b)
goes_first d c p r b h q [] there e s g = no_nil h.held b q e
goes_first d c p r b h q (x ∷ ds) there e s g =
    let f = front_of r.part h.held x b (encodes ds) q h.front e in
    let st = then_some (step c r.machine x) (λ m1. run c m1 ds) there g in
    goes_decoded d c p r b h x f.0 st.0 (and_parts (scalar x) (scalars ds) s).0 f.1 st.1 (decode r.part b) (decoded r.part h.held b h.front)

pub byte_goes : (d c : ℕ) (p : List ℕ) (r : Reader) (b : ℕ) → Reads d c p r → BeginsPage d c (p ++ b ∷ []) → Goes (read_byte c r b)
byte_goes d c p r b h (q, (f, (cs, s, e, page))) =
    let one : encodes cs ≡ encodes h.chars ++ (h.held ++ b ∷ q) = e ∙ append_assoc p (b ∷ []) q ∙ ap (λ z. z ++ b ∷ q) h.all ∙ append_assoc (encodes h.chars) h.held (b ∷ q) in
    let x = peel h.chars cs (h.held ++ b ∷ q) one s in
    let y = page_read d c cs f page in
    let ran : run c (start d) (h.chars ++ x.0) ≡ Some y.there = ap (λ z. run c (start d) z) (sym x.1) ∙ y.reads in
    let two = then_some (run c (start d) h.chars) (λ m1. run c m1 x.0) y.there (sym (run_append c h.chars x.0 (start d)) ∙ ran) in
    let same : two.0 ≡ r.machine = let k = h.ran in let k2 = two.1 in cc in
    goes_first d c p r b h q x.0 y.there x.2 (scalars_split h.chars x.0 (subst (λ z. scalars z ≡ true) x.1 s)).1 (subst (λ z. run c z x.0 ≡ Some y.there) same two.2)

-- a prefix of what begins a page begins one
pub begins_less : (d c : ℕ) (p q : List ℕ) → BeginsPage d c (p ++ q) → BeginsPage d c p
begins_less d c p q (t, (f, (cs, s, e, h))) = (q ++ t, (f, (cs, s, e ∙ append_assoc p q t, h)))

pub all_goes : (d c : ℕ) (q p : List ℕ) (r : Reader) → Reads d c p r → BeginsPage d c (p ++ q) → Goes (read_bytes c r q)
all_goes d c [] p r h k = (r, refl)
all_goes d c (b ∷ q) p r h k =
    let long = subst (λ z. BeginsPage d c z) (sym (append_assoc p (b ∷ []) q)) k in
    let x = byte_goes d c p r b h (begins_less d c (p ++ b ∷ []) q long) in
    let one = on_reader (λ r1. Reads d c (p ++ b ∷ []) r1) (read_byte c r b) x.0 (byte_reads d c p r b h) x.1 in
    let y = all_goes d c q (p ++ b ∷ []) x.0 one long in
    (y.0, ap (λ o. then_read o (λ r1. read_bytes c r1 q)) x.1 ∙ y.1)

pub begins_reads : (d c : ℕ) (p : List ℕ) → BeginsPage d c p → (r : Reader) × (read_bytes c (begin d) p ≡ Some r)
begins_reads d c p h = all_goes d c p [] (begin d) (reads_start d c) h

pub reads_begins : (d c : ℕ) (p : List ℕ) (r : Reader) → read_bytes c (begin d) p ≡ Some r → BeginsPage d c p
reads_begins d c p r e = read_begins d c p r (all_reads d c p [] (begin d) r (reads_start d c) e)
