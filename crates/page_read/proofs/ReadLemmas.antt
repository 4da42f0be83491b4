-- From the reader's bytes to the answer.
use Rattle.std.proofs.Common.{◌≡◌, ℕ, suc, ◌+◌, ◌<◌, ◌≤◌, Bool, true, false, if◌then◌else◌, List, [], ◌∷◌, ◌++◌, length, take, drop, append-nil, drop-cons, length-take-le, get_or, Option, Some, None, refl, sym, ap, subst, ◌∙◌, arith}
use Rattle.std.proofs.lemmas.List.{take_more, take_all, take-append-drop}
use Rattle.node_arena.specs.DomModel.ArenaState.{ArenaState}
use Rattle.page_grammar.specs.Machine.{Machine, Lexical, Data, InText, Event, step, quiet, emitted, after_emitting}
use Rattle.page_grammar.specs.Kind.{Kind, page_limit, kind_of_byte, kind_decoded, begins_node, Unclosed}
use Rattle.page_grammar.specs.Decoder.{Pending, Decoded, Bad, Part, Whole, decode}
use Rattle.page_grammar.specs.Reader as readers
use Rattle.page_grammar.specs.Reading.{page_reading, Children, Refused}
use Rattle.page_grammar.specs.TreeConstruction.{TreeConstruction, construct, construct_all, initial_tree, whole_tree}
use Rattle.page_grammar.specs.Page.{Siblings}
use Rattle.page_grammar.proofs.Outputs.{step_tells, told_tells}
use Rattle.page_grammar.proofs.TreeConstructionLemmas.{constructed}
use Rattle.page_grammar.proofs.WiderReading.{read_one_more}
use Rattle.page_grammar.proofs.ReaderAnswers.{stopped, unclosed, ended}
use Rattle.page_read.specs.declared.scanner.Scanner.{Scanner}
use Rattle.page_read.specs.declared.reader.Reader.{Reader}
use Rattle.page_read.specs.declared.faults.PageKind.{PageKind}
use Rattle.page_read.specs.Faults.{kind_of}
use Rattle.page_read.specs.Answer.{IsDocument, IsFaultAnswer}
use Rattle.page_read.specs.View.{machine_of, tree_construction_of, Goes, Went}
use Rattle.page_read.specs.Reading.{reader_of, construction_of, quieted, told_in, Takes, Finishes}

pub went_goes : (b : Bool) (o : Option Machine) (old new : Scanner) → b ≡ true → Went b o old new → Goes o old new
went_goes true o old new e w = w
went_goes false o old new e w = cc

pub whole_read : (o : Option Machine) (old new : Scanner) → Goes o old new → (quieted (readers.read_whole o) ≡ Some (readers.between (machine_of new))) × (tree_construction_of new ≡ construct_all (told_in (readers.read_whole o)) (tree_construction_of old))
whole_read None old new h = let e = h.0 in cc
whole_read (Some m) old new h = ((let e = h.0 in cc), h.1)

-- the reader as if it had emitted nothing
abbrev quiet_reader : readers.Reader → readers.Reader
quiet_reader r = record r { machine = quiet r.machine }

abbrev telling : List Event → Option readers.Reader → Option readers.Reader
telling o None = None
telling o (Some r) = Some (record r { machine = record r.machine { out = o ++ r.machine.out } })

wide_quiet : (c : ℕ) (m : Machine) (l : Lexical) → readers.takes_wide_at c (quiet m) l ≡ readers.takes_wide_at c m l
wide_quiet c m Data = refl
wide_quiet c m _ = refl

node_quiet : (m : Machine) (b : ℕ) (l : Lexical) → begins_node l (quiet m) b ≡ begins_node l m b
node_quiet m b Data = refl
node_quiet m b (InText t) = refl
node_quiet m b _ = refl

kind_quiet : (r : readers.Reader) (b : ℕ) → kind_of_byte (quiet_reader r) b ≡ kind_of_byte r b
kind_quiet r b = by_decoded (decode r.part b)
  where
    by_decoded : (d : Decoded) → kind_decoded (quiet r.machine) b d ≡ kind_decoded r.machine b d
    by_decoded Bad = refl
    by_decoded (Part p) = rw (node_quiet r.machine b r.machine.lex) refl
    by_decoded (Whole x) = rw (node_quiet r.machine b r.machine.lex) refl

part_tells : (t : Bool) (m : Machine) (p : Pending) → (if t then Some (record { machine = m; part = Some p }) else None) ≡ telling m.out (if t then Some (record { machine = quiet m; part = Some p }) else None)
part_tells true m p = ap (λ (o : List Event). Some (record { machine = record m { out = o }; part = Some p })) (sym (append-nil m.out))
part_tells false m p = refl

whole_tells : (o : List Event) (m : Option Machine) → readers.read_whole (after_emitting o m) ≡ telling o (readers.read_whole m)
whole_tells o None = refl
whole_tells o (Some m) = refl

decoded_tells : (c : ℕ) (m : Machine) (d : Decoded) → readers.read_decoded c m d ≡ telling m.out (readers.read_decoded c (quiet m) d)
decoded_tells c m Bad = refl
decoded_tells c m (Part p) = rw (wide_quiet c m m.lex) (part_tells (readers.takes_wide c m) m p)
decoded_tells c m (Whole x) = ap readers.read_whole (step_tells c m x) ∙ whole_tells m.out (step c (quiet m) x)

byte_tells : (c : ℕ) (r : readers.Reader) (b : ℕ) → readers.read_byte c r b ≡ telling r.machine.out (readers.read_byte c (quiet_reader r) b)
byte_tells c r b = decoded_tells c r.machine (decode r.part b)

construct_append : (xs ys : List Event) (p : TreeConstruction) → construct_all (xs ++ ys) p ≡ construct_all ys (construct_all xs p)
construct_append [] ys p = refl
construct_append (e ∷ xs) ys p = construct_append xs ys (construct e p)

-- the grammar's reader has read these bytes, and is as viewed but for what it has emitted, which is constructed
pub record HasRead (c : ℕ) (p : List ℕ) (view : readers.Reader) (construction : TreeConstruction) : Type 0 where
  pub real : readers.Reader
  pub reads : readers.read_bytes c (readers.begin 200) p ≡ Some real
  pub is : view ≡ quiet_reader real
  pub constructed : construction ≡ construct_all real.machine.out initial_tree

pub has_begun : (c : ℕ) → HasRead c [] (readers.begin 200) initial_tree
has_begun c = record { real = readers.begin 200; reads = refl; is = refl; constructed = refl }

pub has_read_more : (c : ℕ) (p : List ℕ) (b : ℕ) (v v2 : readers.Reader) (g g2 : TreeConstruction) → HasRead c p v g → quieted (readers.read_byte c v b) ≡ Some v2 → g2 ≡ construct_all (told_in (readers.read_byte c v b)) g → HasRead c (p ++ b ∷ []) v2 g2
has_read_more c p b v v2 g g2 h e t =
    by_byte (readers.read_byte c v b) (subst (λ (k : readers.Reader). readers.read_byte c h.real b ≡ telling h.real.machine.out (readers.read_byte c k b)) (sym h.is) (byte_tells c h.real b)) e t
  where
    by_byte : (o : Option readers.Reader) → readers.read_byte c h.real b ≡ telling h.real.machine.out o → quieted o ≡ Some v2 → g2 ≡ construct_all (told_in o) g → HasRead c (p ++ b ∷ []) v2 g2
    by_byte None is e t = cc
    by_byte (Some r) is e t = record {
      real = record r { machine = record r.machine { out = h.real.machine.out ++ r.machine.out } };
      reads = read_one_more c 200 p b h.real h.reads ∙ is;
      is = (let e' = e in cc);
      constructed = t ∙ ap (construct_all r.machine.out) h.constructed ∙ sym (construct_append h.real.machine.out r.machine.out initial_tree);
    }

length_taken : (i : ℕ) (s : List ℕ) → i < length s → length (take i s) ≡ i
length_taken i s h = length-take-le i s (omega (arith, h))

-- where a byte is refused
pub refused_here : (c : ℕ) (s : List ℕ) (i b : ℕ) (v : readers.Reader) (g : TreeConstruction) (k : Kind) → i < length s → b ≡ get_or s i 0 → length s ≤ page_limit → HasRead c (take i s) v g → readers.read_byte c v b ≡ None → k ≡ kind_of_byte v b → page_reading 200 c s ≡ Refused i k
refused_here c s i b v g k inside at short h none kind =
    let cut : drop i s ≡ get_or s i 0 ∷ drop (suc i) s = rw (drop-cons s i 0) refl in
    let whole : take i s ++ b ∷ drop (suc i) s ≡ s = ap (λ k. take i s ++ k) (ap (λ y. y ∷ drop (suc i) s) at ∙ sym cut) ∙ take-append-drop i s in
    let stuck : readers.read_byte c h.real b ≡ None = byte_tells c h.real b ∙ ap (telling h.real.machine.out) (ap (λ r. readers.read_byte c r b) (sym h.is) ∙ none) in
    let found = stopped 200 c (take i s) b (drop (suc i) s) h.real (rw whole short) h.reads stuck in
    let place : length (take i s) ≡ i = length_taken i s inside in
    let same : kind_of_byte h.real b ≡ k = sym (kind_quiet h.real b) ∙ ap (λ r. kind_of_byte r b) (sym h.is) ∙ sym kind in
    subst (λ (z : List ℕ). page_reading 200 c z ≡ Refused i k) whole (found ∙ ap (λ n. Refused n (kind_of_byte h.real b)) place ∙ ap (Refused i) same)

-- the bytes end with the page
pub ends_page : (c : ℕ) (s : List ℕ) (v : readers.Reader) (g : TreeConstruction) (a : ArenaState) → length s ≤ page_limit → HasRead c s v g → Finishes (Some a) c v g → (f : Siblings) × (page_reading 200 c s ≡ Children f) × IsDocument a c f
ends_page c s v g a short h fin =
    let r = h.real in
    let viewed : Finishes (Some a) c (quiet_reader r) g = subst (λ (k : readers.Reader). Finishes (Some a) c k g) h.is fin in
    let planted_so : Finishes (Some a) c (quiet_reader r) (construct_all r.machine.out initial_tree) = subst (λ (k : TreeConstruction). Finishes (Some a) c (quiet_reader r) k) h.constructed viewed in
    let e = ended 200 c s r short h.reads planted_so.0 planted_so.1.0 in
    let full : construct_all (emitted (quiet r.machine)) (construct_all r.machine.out initial_tree) ≡ whole_tree e.0 =
    sym (construct_append r.machine.out (emitted (quiet r.machine)) initial_tree) ∙ ap (λ es. construct_all es initial_tree) (sym (told_tells r.machine) ∙ e.3) ∙ constructed 200 c s e.0 e.2 in (
      e.0,
      e.1,
      record {
        trees = planted_so.1.1 ∙ ap (λ (k : TreeConstruction). k.trees) full;
        next = planted_so.1.2 ∙ ap (λ (k : TreeConstruction). k.next) full;
        cap = planted_so.1.3;
      },
    )

-- the bytes end before the page does
pub ends_early : (c : ℕ) (s : List ℕ) (v : readers.Reader) (g : TreeConstruction) → length s ≤ page_limit → HasRead c s v g → Finishes None c v g → page_reading 200 c s ≡ Refused (length s) Unclosed
ends_early c s v g short h fin =
    let r = h.real in
    let viewed : Finishes None c (quiet_reader r) g = subst (λ (k : readers.Reader). Finishes None c k g) h.is fin in
    unclosed 200 c s r short h.reads viewed

pub kind_is : (x : PageKind) (k : Kind) (c n : ℕ) (s : List ℕ) → kind_of x ≡ Some k → page_reading 200 c s ≡ Refused n k → IsFaultAnswer c s (record { at = n; kind = x }) (kind_of x)
kind_is x k c n s e h = subst (λ (o : Option Kind). IsFaultAnswer c s (record { at = n; kind = x }) o) (sym e) h

pub takes_more : (c i : ℕ) (s : List ℕ) (old new : Reader) (x : Option PageKind) → x ≡ None → old.scanner.arena.cap ≡ c → i < length s → Takes x (get_or s i 0) old new → HasRead c (take i s) (reader_of old) (construction_of old) → HasRead c (take (i + 1) s) (reader_of new) (construction_of new)
takes_more c i s old new (Some x) e cap inside t h = cc
takes_more c i s old new None e cap inside t h =
    let b : ℕ = get_or s i 0 in
    let went : (quieted (readers.read_byte c (reader_of old) b) ≡ Some (reader_of new)) × (construction_of new ≡ construct_all (told_in (readers.read_byte c (reader_of old) b)) (construction_of old)) =
    subst (λ (k : ℕ). (quieted (readers.read_byte k (reader_of old) b) ≡ Some (reader_of new)) × (construction_of new ≡ construct_all (told_in (readers.read_byte k (reader_of old) b)) (construction_of old))) cap t in
    subst (λ (p : List ℕ). HasRead c p (reader_of new) (construction_of new)) (sym (take_more s i 0 inside)) (has_read_more c (take i s) b (reader_of old) (reader_of new) (construction_of old) (construction_of new) h went.0 went.1)

pub takes_no_more : (c i : ℕ) (s : List ℕ) (old new : Reader) (x : Option PageKind) (kind : PageKind) → x ≡ Some kind → old.scanner.arena.cap ≡ c → i < length s → length s ≤ page_limit → Takes x (get_or s i 0) old new → HasRead c (take i s) (reader_of old) (construction_of old) → IsFaultAnswer c s (record { at = i; kind = kind }) (kind_of kind)
takes_no_more c i s old new None kind e cap inside short t h = cc
takes_no_more c i s old new (Some x) kind e cap inside short t h =
    let b : ℕ = get_or s i 0 in
    let same : x ≡ kind = cc in
    let none : readers.read_byte c (reader_of old) b ≡ None = subst (λ (k : ℕ). readers.read_byte k (reader_of old) b ≡ None) cap t.0 in
    kind_is kind (kind_of_byte (reader_of old) b) c i s (ap kind_of (sym same) ∙ t.1) (refused_here c s i b (reader_of old) (construction_of old) (kind_of_byte (reader_of old) b) inside refl short h none refl)

pub ends_so : (c i : ℕ) (s : List ℕ) (old : Reader) (x : Option ArenaState) (a : ArenaState) → x ≡ Some a → old.scanner.arena.cap ≡ c → length s ≤ i → length s ≤ page_limit → Finishes x old.scanner.arena.cap (reader_of old) (construction_of old) → HasRead c (take i s) (reader_of old) (construction_of old) → (f : Siblings) × (page_reading 200 c s ≡ Children f) × IsDocument a c f
ends_so c i s old x a e cap all short fin h =
    ends_page c s (reader_of old) (construction_of old) a short
    (subst (λ (p : List ℕ). HasRead c p (reader_of old) (construction_of old)) (take_all i s all) h)
    (subst (λ (y : Option ArenaState). Finishes y c (reader_of old) (construction_of old)) e (subst (λ (k : ℕ). Finishes x k (reader_of old) (construction_of old)) cap fin))

pub ends_not : (c i : ℕ) (s : List ℕ) (old : Reader) (x : Option ArenaState) → x ≡ None → old.scanner.arena.cap ≡ c → length s ≤ i → length s ≤ page_limit → Finishes x old.scanner.arena.cap (reader_of old) (construction_of old) → HasRead c (take i s) (reader_of old) (construction_of old) → page_reading 200 c s ≡ Refused (length s) Unclosed
ends_not c i s old x e cap all short fin h =
    ends_early c s (reader_of old) (construction_of old) short
    (subst (λ (p : List ℕ). HasRead c p (reader_of old) (construction_of old)) (take_all i s all) h)
    (subst (λ (y : Option ArenaState). Finishes y c (reader_of old) (construction_of old)) e (subst (λ (k : ℕ). Finishes x k (reader_of old) (construction_of old)) cap fin))
