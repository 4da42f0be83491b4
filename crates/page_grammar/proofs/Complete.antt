-- What is in the grammar, the machine reads, and emits the same tree.
use Rattle.std.proofs.Common.{◌≡◌, ℕ, zero, suc, pred, ◌+◌, ◌*◌, ◌<◌, ◌≤◌, Bool, true, false, ◌&&◌, ◌⊎◌, inl, inr, List, [], ◌∷◌, ◌++◌, length, Some, None, refl, sym, ap, ◌∙◌, subst, arith, append_assoc, eq-eqb}
use Rattle.std.specs.Prelude.{nat_le, ◌==◌, if◌then◌else◌}
use Rattle.std.specs.Bool.{MatchBool}
use Rattle.std.proofs.lemmas.Bool.{ne_eqb, cases_Bool}
use Rattle.std.proofs.Math.Nat.{le-mul_of_pos_right}
use Rattle.std.proofs.Math.Bool.{or-true}
use Rattle.std.proofs.lemmas.Bool.Decides.{nat_tests}
use Rattle.page_grammar.specs.Chars.{is_space, lower, is_attribute_name_char, is_quote, entities, is_referable, digit_of, value_from}
use Rattle.page_grammar.specs.Names.{is_void, is_refused}
use Rattle.page_grammar.specs.Page as page
use Rattle.page_grammar.specs.Page.{Attribute, Siblings, Nil, TextNode, CommentNode, ElementNode, size, NotText, IsNil, Spaces, IsEntity, DecimalDigits, HexadecimalDigits, IsBody, Text, NameChars, AttributeNameChars, has_attribute, Attributes, TagEnd, StartTag, NameAgain, EndTag, CommentText, Content, Page}
use Rattle.page_grammar.specs.Machine.{Event, TextEvent, CommentEvent, OpenEvent, CloseEvent, events, Reference, Amp, Hash, Dec, HexMark, Hex, Turn, Stop, More, Done, ref_step, Lexical, Data, InText, TextReference, TagOpen, InComment, TagName, BeforeAttributeName, AttributeName, AfterAttributeName, BeforeAttributeValue, InAttributeValue, ValueReference, AfterAttributeValue, SelfClosing, EndTagName, AfterEndTagName, Machine, start, at, has_room, less, after_leaf, after_start, entered, after_void, started, after_end, with_attribute, tag_end, ref_turn, Dashes, NoDash, OneDash, TwoDashes, is_two, dash, dashes, step_at, then_run, run, is_none_open, IsReady, IsEnd, flushed_at, flushed, emitted}
use Rattle.page_grammar.proofs.Facts.{app_nil, same_char, and_parts, suc_pred, head_eq, tail_eq, not_same, digit_59, hex_59, digit_120, name_62, name_47, space_62, space_47, space_61, key_62, key_47, key_61, quote_not_amp, quote_not_space, referable_bound, le_test, letter_not_slash, letter_not_bang, key_not_space, key_not_equals, space_not_key, space_not_name}

-- references

abbrev pub on_turn : Turn → (Reference → Turn) → Turn → Turn
on_turn Stop f last = Stop
on_turn (More q) f last = f q
on_turn (Done x) f last = last

abbrev pub last_done : Turn → List ℕ → Turn
last_done o [] = o
last_done o (y ∷ s) = Stop

-- what a reference's characters come to
abbrev pub feed : List ℕ → Reference → Turn
feed [] p = Stop
feed (b ∷ s) p = on_turn (ref_step p b) (λ q. feed s q) (last_done (ref_step p b) s)

abbrev pub Host : ℕ → Machine → (Reference → Lexical) → (ℕ → Lexical) → Type 0
Host c m more end = (p : Reference) (b : ℕ) → step_at c (at m (more p)) (more p) b ≡ ref_turn m more end (ref_step p b)

feed_run_by : (c : ℕ) (m : Machine) (more : Reference → Lexical) (end : ℕ → Lexical) (x : ℕ) (w r : List ℕ) (o : Turn) → ((q : Reference) → feed w q ≡ Done x → run c (at m (more q)) (w ++ r) ≡ run c (at m (end x)) r) → on_turn o (λ q. feed w q) (last_done o w) ≡ Done x → then_run (ref_turn m more end o) (λ m1. run c m1 (w ++ r)) ≡ run c (at m (end x)) r
feed_run_by c m more end x w r Stop ih e = cc
feed_run_by c m more end x w r (More q) ih e = ih q e
feed_run_by c m more end x [] r (Done y) ih e = let k : y ≡ x = cc in ap (λ z. run c (at m (end z)) r) k
feed_run_by c m more end x (b ∷ w) r (Done y) ih e = cc

pub feed_run : (c : ℕ) (m : Machine) (more : Reference → Lexical) (end : ℕ → Lexical) → Host c m more end → (x : ℕ) (w r : List ℕ) (p : Reference) → feed w p ≡ Done x → run c (at m (more p)) (w ++ r) ≡ run c (at m (end x)) r
feed_run c m more end host x [] r p e = cc
feed_run c m more end host x (b ∷ w) r p e =
    ap (λ o. then_run o (λ m1. run c m1 (w ++ r))) (host p b) ∙ feed_run_by c m more end x w r (ref_step p b) (λ q k. feed_run c m more end host x w r q k) e

entity_feeds : (w : List ℕ) (x : ℕ) → IsEntity entities w x → feed (w ++ 59 ∷ []) Amp ≡ Done x
entity_feeds w x (inl e) = rw (e.0, e.1) refl
entity_feeds w x (inr (inl e)) = rw (e.0, e.1) refl
entity_feeds w x (inr (inr (inl e))) = rw (e.0, e.1) refl
entity_feeds w x (inr (inr (inr (inl e)))) = rw (e.0, e.1) refl
entity_feeds w x (inr (inr (inr (inr (inl e))))) = rw (e.0, e.1) refl
entity_feeds w x (inr (inr (inr (inr (inr (inl e)))))) = rw (e.0, e.1) refl
entity_feeds w x (inr (inr (inr (inr (inr (inr e)))))) = elim e [ ]

value_up : (base v : ℕ) (ds : List ℕ) → 0 < base → v ≤ value_from base v ds
value_up base v [] h = omega arith
value_up base v (d ∷ ds) h =
    let ih = value_up base (v * base + digit_of d) ds h in
    let k : v ≤ v * base = le-mul_of_pos_right v h in
    omega (arith, ih, k)

dec_feeds : (v x : ℕ) (ds : List ℕ) → DecimalDigits ds → value_from 10 v ds ≡ x → is_referable x ≡ true → feed (ds ++ 59 ∷ []) (Dec v) ≡ Done x
dec_feeds v x [] h e rf = rw (digit_59, e, rf) refl
dec_feeds v x (d ∷ ds) h e rf =
    let v2 = v * 10 + digit_of d in
    let up = value_up 10 v2 ds (omega arith) in
    let top = referable_bound x rf in
    let fits : nat_le v2 1114111 ≡ true = le_test v2 1114111 (omega (arith, up, e, top)) in
    rw (h.0, fits) (dec_feeds v2 x ds h.1 e rf)

hex_feeds : (v x : ℕ) (ds : List ℕ) → HexadecimalDigits ds → value_from 16 v ds ≡ x → is_referable x ≡ true → feed (ds ++ 59 ∷ []) (Hex v) ≡ Done x
hex_feeds v x [] h e rf = rw (hex_59, e, rf) refl
hex_feeds v x (d ∷ ds) h e rf =
    let v2 = v * 16 + digit_of d in
    let up = value_up 16 v2 ds (omega arith) in
    let top = referable_bound x rf in
    let fits : nat_le v2 1114111 ≡ true = le_test v2 1114111 (omega (arith, up, e, top)) in
    rw (h.0, fits) (hex_feeds v2 x ds h.1 e rf)

dec_first : (x : ℕ) (ds : List ℕ) → 0 < length ds → DecimalDigits ds → value_from 10 0 ds ≡ x → is_referable x ≡ true → feed (ds ++ 59 ∷ []) Hash ≡ Done x
dec_first x [] some h e rf = absurd (omega arith)
dec_first x (d ∷ ds) some h e rf =
    let v2 = 0 * 10 + digit_of d in
    let up = value_up 10 v2 ds (omega arith) in
    let top = referable_bound x rf in
    let fits : nat_le v2 1114111 ≡ true = le_test v2 1114111 (omega (arith, up, e, top)) in
    rw (h.0, fits) (dec_feeds v2 x ds h.1 e rf)

hex_first : (x : ℕ) (ds : List ℕ) → 0 < length ds → HexadecimalDigits ds → value_from 16 0 ds ≡ x → is_referable x ≡ true → feed (ds ++ 59 ∷ []) HexMark ≡ Done x
hex_first x [] some h e rf = absurd (omega arith)
hex_first x (d ∷ ds) some h e rf =
    let v2 = 0 * 16 + digit_of d in
    let up = value_up 16 v2 ds (omega arith) in
    let top = referable_bound x rf in
    let fits : nat_le v2 1114111 ≡ true = le_test v2 1114111 (omega (arith, up, e, top)) in
    rw (h.0, fits) (hex_feeds v2 x ds h.1 e rf)

pub body_feeds : (w : List ℕ) (x : ℕ) → IsBody w x → feed (w ++ 59 ∷ []) Amp ≡ Done x
body_feeds w x (inl e) = entity_feeds w x e
body_feeds w x (inr (inl (ds, e, some, h, v, rf))) = rw e (dec_first x ds some h v rf)
body_feeds w x (inr (inr (y, ds, e, ly, some, h, v, rf))) = rw (e, digit_120 y ly, ly) (hex_first x ds some h v rf)

pub body_run : (c : ℕ) (m : Machine) (more : Reference → Lexical) (end : ℕ → Lexical) → Host c m more end → (x : ℕ) (w r : List ℕ) → IsBody w x → run c (at m (more Amp)) (w ++ 59 ∷ r) ≡ run c (at m (end x)) r
body_run c m more end host x w r body =
    ap (λ z. run c (at m (more Amp)) z) (sym (append_assoc w (59 ∷ []) r)) ∙ feed_run c m more end host x (w ++ 59 ∷ []) r Amp (body_feeds w x body)

-- text and values

pub text_run : (c : ℕ) (xs t s r : List ℕ) (m : Machine) → Text 60 xs s r → run c (at m (InText t)) s ≡ run c (at m (InText (t ++ xs))) r
text_run c [] t s r m h = rw (h, app_nil t) refl
text_run c (x ∷ xs) t s r m (a, inl (e, n60, n38), h) =
    let ih = text_run c xs (t ++ x ∷ []) a r m h in
    let k : (t ++ x ∷ []) ++ xs ≡ t ++ x ∷ xs = append_assoc t (x ∷ []) xs in
    rw (e, ne_eqb x 60 n60, ne_eqb x 38 n38) (rw k at ih)
text_run c (x ∷ xs) t s r m (a, inr (w, e, body), h) =
    let ih = text_run c xs (t ++ x ∷ []) a r m h in
    let k : (t ++ x ∷ []) ++ xs ≡ t ++ x ∷ xs = append_assoc t (x ∷ []) xs in
    rw e (body_run c m (λ q. TextReference t q) (λ y. InText (t ++ y ∷ [])) (λ p b. refl) x w a body ∙ rw k at ih)

pub value_run : (c : ℕ) (w : List ℕ) (ts : List Attribute) (key : List ℕ) (q : ℕ) (xs v s r : List ℕ) (m : Machine) → is_quote q ≡ true → Text q xs s r → run c (at m (InAttributeValue w ts key q v)) s ≡ run c (at m (InAttributeValue w ts key q (v ++ xs))) r
value_run c w ts key q [] v s r m iq h = rw (h, app_nil v) refl
value_run c w ts key q (x ∷ xs) v s r m iq (a, inl (e, nq, n38), h) =
    let ih = value_run c w ts key q xs (v ++ x ∷ []) a r m iq h in
    let k : (v ++ x ∷ []) ++ xs ≡ v ++ x ∷ xs = append_assoc v (x ∷ []) xs in
    rw (e, ne_eqb x q nq, ne_eqb x 38 n38) (rw k at ih)
value_run c w ts key q (x ∷ xs) v s r m iq (a, inr (u, e, body), h) =
    let ih = value_run c w ts key q xs (v ++ x ∷ []) a r m iq h in
    let k : (v ++ x ∷ []) ++ xs ≡ v ++ x ∷ xs = append_assoc v (x ∷ []) xs in
    rw (e, quote_not_amp q iq) (body_run c m (λ p. ValueReference w ts key q v p) (λ y. InAttributeValue w ts key q (v ++ y ∷ [])) (λ p b. refl) x u a body ∙ rw k at ih)

name_run : (c : ℕ) (xs w s r : List ℕ) (m : Machine) → NameChars xs s r → run c (at m (TagName w)) s ≡ run c (at m (TagName (w ++ xs))) r
name_run c [] w s r m h = rw (h, app_nil w) refl
name_run c (x ∷ xs) w s r m (b, a, e, lo, ok, h) =
    let ih = name_run c xs (w ++ x ∷ []) a r m h in
    let k : (w ++ x ∷ []) ++ xs ≡ w ++ x ∷ xs = append_assoc w (x ∷ []) xs in
    rw (e, ok, lo) (rw k at ih)

pub key_run : (c : ℕ) (w : List ℕ) (ts : List Attribute) (xs key s r : List ℕ) (m : Machine) → AttributeNameChars xs s r → run c (at m (AttributeName w ts key)) s ≡ run c (at m (AttributeName w ts (key ++ xs))) r
key_run c w ts [] key s r m h = rw (h, app_nil key) refl
key_run c w ts (x ∷ xs) key s r m (b, a, e, lo, ok, h) =
    let ih = key_run c w ts xs (key ++ x ∷ []) a r m h in
    let k : (key ++ x ∷ []) ++ xs ≡ key ++ x ∷ xs = append_assoc key (x ∷ []) xs in
    rw (e, ok, lo) (rw k at ih)

-- the start tag

-- white space stands before, after this name and these attributes
pub data Spaced : Lexical → List ℕ → List Attribute → Type 0 where
  at_gap : {w : List ℕ} {ts : List Attribute} → Spaced (BeforeAttributeName w ts) w ts
  after_key : {w : List ℕ} {ts : List Attribute} {k : List ℕ} → Spaced (AfterAttributeName w ts k) w (with_attribute ts k [])

-- the name, or an attribute, has just ended
pub data Tagged : Lexical → List ℕ → List Attribute → Type 0 where
  at_name : {w : List ℕ} → is_refused w ≡ false → Tagged (TagName w) w []
  at_closed : {w : List ℕ} {ts : List Attribute} → Tagged (AfterAttributeValue w ts) w ts
  at_key : {w : List ℕ} {ts : List Attribute} {k : List ℕ} → has_attribute ts k ≡ false → Tagged (AttributeName w ts k) w (with_attribute ts k [])

pub record Spaces1 (c : ℕ) (m : Machine) (l : Lexical) (w : List ℕ) (ts : List Attribute) (s r : List ℕ) : Type 0 where
  pub lex2 : Lexical
  pub spaced : Spaced lex2 w ts
  pub reads : run c (at m l) s ≡ run c (at m lex2) r

pub record Tags (c : ℕ) (m : Machine) (l : Lexical) (w : List ℕ) (ts : List Attribute) (s r : List ℕ) : Type 0 where
  pub lex2 : Lexical
  pub tagged : Tagged lex2 w ts
  pub reads : run c (at m l) s ≡ run c (at m lex2) r

spaced_space : (c : ℕ) (m : Machine) (l : Lexical) (w : List ℕ) (ts : List Attribute) (b : ℕ) → Spaced l w ts → is_space b ≡ true → step_at c m l b ≡ Some (at m l)
spaced_space c m l w ts b at_gap h = rw h refl
spaced_space c m l w ts b after_key h = rw h refl

pub spaces_run : (c : ℕ) (m : Machine) (l : Lexical) (w : List ℕ) (ts : List Attribute) (n : ℕ) (s r : List ℕ) → Spaced l w ts → Spaces n s r → run c (at m l) s ≡ run c (at m l) r
spaces_run c m l w ts zero s r h sp = ap (λ z. run c (at m l) z) sp
spaces_run c m l w ts (suc n) s r h (b, a, e, ok, sp) =
    ap (λ z. run c (at m l) z) e ∙ ap (λ o. then_run o (λ m1. run c m1 a)) (spaced_space c (at m l) l w ts b h ok) ∙ spaces_run c m l w ts n a r h sp

tagged_space : (c : ℕ) (m : Machine) (l : Lexical) (w : List ℕ) (ts : List Attribute) (b : ℕ) → Tagged l w ts → is_space b ≡ true → (l2 : Lexical) × Spaced l2 w ts × (step_at c m l b ≡ Some (at m l2))
tagged_space c m l w ts b (at_name {w = w1} nr) h = (BeforeAttributeName w1 [], at_gap, rw (space_not_name b h, nr, h) refl)
tagged_space c m l w ts b (at_closed {w = w1} {ts = us}) h = (BeforeAttributeName w1 us, at_gap, rw h refl)
tagged_space c m l w ts b (at_key {w = w1} {ts = us} {k = k} hk) h = (AfterAttributeName w1 us k, after_key, rw (space_not_key b h, hk, h) refl)

pub gap_run : (c : ℕ) (m : Machine) (l : Lexical) (w : List ℕ) (ts : List Attribute) (n : ℕ) (s r : List ℕ) → Tagged l w ts → Spaces (suc n) s r → Spaces1 c m l w ts s r
gap_run c m l w ts n s r h (b, a, e, ok, sp) =
    let x = tagged_space c (at m l) l w ts b h ok in
    record {
      lex2 = x.0;
      spaced = x.1;
      reads = ap (λ z. run c (at m l) z) e ∙ ap (λ o. then_run o (λ m1. run c m1 a)) x.2 ∙ spaces_run c m x.0 w ts n a r x.1 sp;
    }

spaced_key : (c : ℕ) (m : Machine) (l : Lexical) (w : List ℕ) (ts : List Attribute) (b : ℕ) → Spaced l w ts → is_attribute_name_char b ≡ true → step_at c m l b ≡ Some (at m (AttributeName w ts (lower b ∷ [])))
spaced_key c m l w ts b at_gap h = rw (key_not_space b h, h) refl
spaced_key c m l w ts b after_key h = rw (key_not_space b h, key_not_equals b h, h) refl

pub spaced_62 : (c : ℕ) (m : Machine) (l : Lexical) (w : List ℕ) (ts : List Attribute) → Spaced l w ts → step_at c m l 62 ≡ tag_end m w ts 62
spaced_62 c m l w ts at_gap = rw (space_62, key_62) refl
spaced_62 c m l w ts after_key = rw (space_62, key_62) refl

pub spaced_47 : (c : ℕ) (m : Machine) (l : Lexical) (w : List ℕ) (ts : List Attribute) → Spaced l w ts → step_at c m l 47 ≡ tag_end m w ts 47
spaced_47 c m l w ts at_gap = rw (space_47, key_47) refl
spaced_47 c m l w ts after_key = rw (space_47, key_47) refl

pub tagged_62 : (c : ℕ) (m : Machine) (l : Lexical) (w : List ℕ) (ts : List Attribute) → Tagged l w ts → step_at c m l 62 ≡ tag_end m w ts 62
tagged_62 c m l w ts (at_name nr) = rw (name_62, nr, space_62) refl
tagged_62 c m l w ts at_closed = rw space_62 refl
tagged_62 c m l w ts (at_key hk) = rw (key_62, hk, space_62) refl

pub tagged_47 : (c : ℕ) (m : Machine) (l : Lexical) (w : List ℕ) (ts : List Attribute) → Tagged l w ts → step_at c m l 47 ≡ tag_end m w ts 47
tagged_47 c m l w ts (at_name nr) = rw (name_47, nr, space_47) refl
tagged_47 c m l w ts at_closed = rw space_47 refl
tagged_47 c m l w ts (at_key hk) = rw (key_47, hk, space_47) refl

-- the tag ends here
pub close_run : (c : ℕ) (m : Machine) (l : Lexical) (w : List ℕ) (ts : List Attribute) (s r : List ℕ) → step_at c (at m l) l 62 ≡ tag_end (at m l) w ts 62 → step_at c (at m l) l 47 ≡ tag_end (at m l) w ts 47 → ((s ≡ 62 ∷ r) ⊎ ((is_void w ≡ true) × (s ≡ 47 ∷ 62 ∷ r))) → run c (at m l) s ≡ run c (started m w ts) r
close_run c m l w ts s r h62 h47 (inl e) = ap (λ z. run c (at m l) z) e ∙ ap (λ o. then_run o (λ m1. run c m1 r)) h62
close_run c m l w ts s r h62 h47 (inr (v, e)) =
    ap (λ z. run c (at m l) z) e ∙ ap (λ o. then_run o (λ m1. run c m1 (62 ∷ r))) (h47 ∙ ap (λ t. if t then Some (at m (SelfClosing w ts)) else None) v)

tag_end_run : (c : ℕ) (m : Machine) (l : Lexical) (w : List ℕ) (ts : List Attribute) (s r : List ℕ) → Tagged l w ts → TagEnd w s r → run c (at m l) s ≡ run c (started m w ts) r
tag_end_run c m l w ts s r h (zero, a, sp, k) =
    ap (λ z. run c (at m l) z) sp ∙ close_run c m l w ts a r (tagged_62 c (at m l) l w ts h) (tagged_47 c (at m l) l w ts h) k
tag_end_run c m l w ts s r h (suc n, a, sp, k) =
    let x = gap_run c m l w ts n s a h sp in
    x.reads ∙ close_run c m x.lex2 w ts a r (spaced_62 c (at m x.lex2) x.lex2 w ts x.spaced) (spaced_47 c (at m x.lex2) x.lex2 w ts x.spaced) k

pub equals_spaces : (c : ℕ) (m : Machine) (w : List ℕ) (ts : List Attribute) (k : List ℕ) (n : ℕ) (s r : List ℕ) → Spaces n s r → run c (at m (BeforeAttributeValue w ts k)) s ≡ run c (at m (BeforeAttributeValue w ts k)) r
equals_spaces c m w ts k zero s r sp = ap (λ z. run c (at m (BeforeAttributeValue w ts k)) z) sp
equals_spaces c m w ts k (suc n) s r (b, a, e, ok, sp) = rw (e, ok) (equals_spaces c m w ts k n a r sp)

pub key_equals : (c : ℕ) (m : Machine) (w : List ℕ) (ts : List Attribute) (k : List ℕ) (n : ℕ) (s a : List ℕ) → has_attribute ts k ≡ false → Spaces n s (61 ∷ a) → run c (at m (AttributeName w ts k)) s ≡ run c (at m (BeforeAttributeValue w ts k)) a
key_equals c m w ts k zero s a hk e = rw (e, key_61, hk, space_61) refl
key_equals c m w ts k (suc n) s a hk (b, a1, e, ok, sp) =
    rw (e, space_not_key b ok, hk, ok) (spaces_run c m (AfterAttributeName w ts k) w (with_attribute ts k []) n a1 (61 ∷ a) after_key sp ∙ rw space_61 refl)

value_tag : (c : ℕ) (m : Machine) (w : List ℕ) (ts : List Attribute) (k v s r : List ℕ) → has_attribute ts k ≡ false → page.AttributeValue v s r → Tags c m (AttributeName w ts k) w (with_attribute ts k v) s r
value_tag c m w ts k v s r hk (inl (e0, e1)) = record { lex2 = AttributeName w ts k; tagged = rw e0 (at_key hk); reads = ap (λ z. run c (at m (AttributeName w ts k)) z) e1 }
value_tag c m w ts k v s r hk (inr (n, a, i, q, b, sp, si, iq, tx)) =
    let quote : run c (at m (BeforeAttributeValue w ts k)) (q ∷ b) ≡ run c (at m (InAttributeValue w ts k q [])) b = rw (quote_not_space q iq, iq) refl in
    let close : run c (at m (InAttributeValue w ts k q v)) (q ∷ r) ≡ run c (at m (AfterAttributeValue w (with_attribute ts k v))) r = rw (eq-eqb q q refl) refl in
    record {
      lex2 = AfterAttributeValue w (with_attribute ts k v);
      tagged = at_closed;
      reads = key_equals c m w ts k n s a hk sp ∙ equals_spaces c m w ts k i a (q ∷ b) si ∙ quote ∙ value_run c w ts k q v [] b (q ∷ r) m iq tx ∙ close;
    }

pub key_first : (c : ℕ) (m : Machine) (l : Lexical) (w : List ℕ) (ts : List Attribute) (k s r : List ℕ) → Spaced l w ts → 0 < length k → AttributeNameChars k s r → run c (at m l) s ≡ run c (at m (AttributeName w ts k)) r
key_first c m l w ts [] s r h some kc = absurd (omega arith)
key_first c m l w ts (x ∷ xs) s r h some (b, a, e, lo, ok, kc) =
    let k : Some (at m (AttributeName w ts (lower b ∷ []))) ≡ Some (at m (AttributeName w ts (x ∷ []))) = ap (λ z. Some (at m (AttributeName w ts (z ∷ [])))) lo in
    ap (λ z. run c (at m l) z) e ∙ ap (λ o. then_run o (λ m1. run c m1 a)) (spaced_key c (at m l) l w ts b h ok ∙ k) ∙ key_run c w ts xs (x ∷ []) a r m kc

pub attributes_run : (c : ℕ) (m : Machine) (us : List Attribute) (l : Lexical) (w : List ℕ) (seen : List Attribute) (s r : List ℕ) → Tagged l w seen → Attributes seen us s r → Tags c m l w (seen ++ us) s r
attributes_run c m [] l w seen s r h e = record { lex2 = l; tagged = subst (λ z. Tagged l w z) (sym (app_nil seen)) h; reads = ap (λ z. run c (at m l) z) e }
attributes_run c m (u ∷ us) l w seen s r h k =
    let x = gap_run c m l w seen k.0 s k.1 h k.4 in
    let y = value_tag c m w seen u.name u.value k.2 k.3 k.7 k.8 in
    let z = attributes_run c m us y.lex2 w (seen ++ u ∷ []) k.3 r y.tagged k.9 in
    record {
      lex2 = z.lex2;
      tagged = subst (λ q. Tagged z.lex2 w q) (append_assoc seen (u ∷ []) us) z.tagged;
      reads = x.reads ∙ key_first c m x.lex2 w seen u.name k.1 k.2 x.spaced k.5 k.6 ∙ y.reads ∙ z.reads;
    }

pub first_name : (c : ℕ) (m : Machine) (w s r : List ℕ) → has_room c m ≡ true → page.ElementName w s r → run c (at m TagOpen) s ≡ run c (at (entered m) (TagName w)) r
first_name c m [] s r room h = elim h [ ]
first_name c m (x ∷ xs) s r room (b, a, e, lo, ok, h) =
    let ih = name_run c xs (x ∷ []) a r (entered m) h in
    rw (e, letter_not_slash b ok, room, letter_not_bang b ok, ok, lo) ih

pub start_run : (c : ℕ) (m : Machine) (w : List ℕ) (ts : List Attribute) (s a b e r : List ℕ) → has_room c m ≡ true → page.ElementName w a b → is_refused w ≡ false → Attributes [] ts b e → TagEnd w e r → then_run (less c m) (λ m2. run c m2 a) ≡ run c (started (entered m) w ts) r
start_run c m w ts s a b e r room nm nr h te =
    let x = attributes_run c (entered m) ts (TagName w) w [] b e (at_name nr) h in
    rw room (first_name c m w a b room nm ∙ x.reads ∙ tag_end_run c (entered m) x.lex2 w ts e r x.tagged te)

-- the end tag

pub again_run : (c : ℕ) (left s b : List ℕ) (m : Machine) → NameAgain left s b → run c (at m (EndTagName left)) s ≡ run c (at m (EndTagName [])) b
again_run c [] s b m h = ap (λ z. run c (at m (EndTagName [])) z) h
again_run c (x ∷ xs) s b m (y, a, e, lo, h) = rw (e, lo, eq-eqb x x refl) (again_run c xs a b m h)

end_gap : (c : ℕ) (n : ℕ) (s r : List ℕ) (m : Machine) → Spaces n s (62 ∷ r) → run c (at m AfterEndTagName) s ≡ run c (after_end m) r
end_gap c zero s r m e = rw (e, space_62) refl
end_gap c (suc n) s r m (b, a, e, ok, sp) = rw (e, ok) (end_gap c n a r m sp)

pub end_run : (c : ℕ) (n : ℕ) (s r : List ℕ) (m : Machine) → Spaces n s (62 ∷ r) → run c (at m (EndTagName [])) s ≡ run c (after_end m) r
end_run c zero s r m e = rw (e, space_62) refl
end_run c (suc n) s r m (b, a, e, ok, sp) = rw (e, ok) (end_gap c n a r m sp)

pub less_step : (c : ℕ) (m : Machine) (l : Lexical) → IsReady l → step_at c m l 60 ≡ less c (flushed_at l m)
less_step c m Data h = refl
less_step c m (InText t) h = refl
less_step c m l h = elim h [ ]

pub end_tag : (c : ℕ) (m g : Machine) (w b r : List ℕ) → IsReady m.lex → flushed m ≡ g → (ws : List (List ℕ)) → g.opened ≡ w ∷ ws → EndTag w b r → run c m b ≡ run c (after_end (record g { opened = ws })) r
end_tag c m g w b r ready e ws o (a, b1, n, h, na, sp) =
    rw (h, less_step c m m.lex ready, e, o, or-true (has_room c g)) (again_run c w a b1 (record g { opened = ws }) na ∙ end_run c n b1 r (record g { opened = ws }) sp)

-- remarks

remark_long : (u s r : List ℕ) → CommentText u s r → 3 ≤ length s
remark_long [] s r e = let k = ap length e in omega arith
remark_long (x ∷ xs) s r (m, e, nc, h) = let k = ap length e in let ih = remark_long xs m r h in omega arith

dashes_short : (n : Dashes) → length (dashes n ++ []) ≤ 2
dashes_short NoDash = omega arith
dashes_short OneDash = omega arith
dashes_short TwoDashes = omega arith

record Peeled (n : Dashes) (b : ℕ) (u s r : List ℕ) : Type 0 where
  rest : List ℕ
  is : u ≡ dashes n ++ b ∷ rest
  text : CommentText rest s r

peel_none : (b : ℕ) (u s r : List ℕ) → (b == 45) ≡ false → CommentText u (b ∷ s) r → Peeled NoDash b u s r
peel_none b [] s r h e = not_same b 45 s (45 ∷ 62 ∷ r) e h
peel_none b (x ∷ xs) s r h (m, e, nc, k) =
    let hd = sym (head_eq b x s m e) in
    let tl = sym (tail_eq b x s m e) in
    record { rest = xs; is = ap (λ z. z ∷ xs) hd; text = rw (← tl) k }

peel_one : (b : ℕ) (u s r : List ℕ) → (b == 45) ≡ false → CommentText u (45 ∷ b ∷ s) r → Peeled OneDash b u s r
peel_one b [] s r h e = not_same b 45 s (62 ∷ r) (tail_eq 45 45 (b ∷ s) (45 ∷ 62 ∷ r) e) h
peel_one b (x ∷ xs) s r h (m, e, nc, k) =
    let hd = sym (head_eq 45 x (b ∷ s) m e) in
    let tl = sym (tail_eq 45 x (b ∷ s) m e) in
    let p = peel_none b xs s r h (subst (λ z. CommentText xs z r) tl k) in
    record { rest = p.rest; is = ap (λ z. z ∷ xs) hd ∙ ap (λ z. 45 ∷ z) p.is; text = p.text }

peel_two : (b : ℕ) (u s r : List ℕ) → (b == 45) ≡ false → (b == 62) ≡ false → CommentText u (45 ∷ 45 ∷ b ∷ s) r → Peeled TwoDashes b u s r
peel_two b [] s r h g e = not_same b 62 s r (tail_eq 45 45 (b ∷ s) (62 ∷ r) (tail_eq 45 45 (45 ∷ b ∷ s) (45 ∷ 62 ∷ r) e)) g
peel_two b (x ∷ xs) s r h g (m, e, nc, k) =
    let hd = sym (head_eq 45 x (45 ∷ b ∷ s) m e) in
    let tl = sym (tail_eq 45 x (45 ∷ b ∷ s) m e) in
    let p = peel_one b xs s r h (subst (λ z. CommentText xs z r) tl k) in
    record { rest = p.rest; is = ap (λ z. z ∷ xs) hd ∙ ap (λ z. 45 ∷ z) p.is; text = p.text }

and_true : (a : Bool) → (a && true) ≡ a
and_true true = refl
and_true false = refl

peel : (n : Dashes) (b : ℕ) (u s r : List ℕ) → (b == 45) ≡ false → (b == 62 && is_two n) ≡ false → CommentText u (dashes n ++ b ∷ s) r → Peeled n b u s r
peel NoDash b u s r h g k = peel_none b u s r h k
peel OneDash b u s r h g k = peel_one b u s r h k
peel TwoDashes b u s r h g k = peel_two b u s r h (sym (and_true (b == 62)) ∙ g) k

-- what is known of the characters after this one
abbrev NoteIh : (c : ℕ) → List ℕ → List ℕ → Machine → Type 0
NoteIh c s r m = (u t : List ℕ) (n : Dashes) → CommentText u (dashes n ++ s) r → run c (at m (InComment t n)) s ≡ run c (after_leaf m (CommentEvent (t ++ u))) r

note_dash : (c : ℕ) (s u t : List ℕ) (n : Dashes) (r : List ℕ) (m : Machine) → NoteIh c s r m → CommentText u (dashes n ++ 45 ∷ s) r → run c (at m (dash t n)) s ≡ run c (after_leaf m (CommentEvent (t ++ u))) r
note_dash c s u t NoDash r m ih h = ih u t OneDash h
note_dash c s u t OneDash r m ih h = ih u t TwoDashes h
note_dash c s [] t TwoDashes r m ih h = not_same 45 62 s r (tail_eq 45 45 (45 ∷ s) (62 ∷ r) (tail_eq 45 45 (45 ∷ 45 ∷ s) (45 ∷ 62 ∷ r) h)) refl
note_dash c s (x ∷ xs) t TwoDashes r m ih (q, e, nc, k) =
    let hd = head_eq 45 x (45 ∷ 45 ∷ s) q e in
    let tl = sym (tail_eq 45 x (45 ∷ 45 ∷ s) q e) in
    let y = ih xs (t ++ 45 ∷ []) TwoDashes (subst (λ z. CommentText xs z r) tl k) in
    y ∙ ap (λ z. run c (after_leaf m (CommentEvent z)) r) (append_assoc t (45 ∷ []) xs ∙ ap (λ z. t ++ z ∷ xs) hd)

note_end : (c : ℕ) (s u t : List ℕ) (n : Dashes) (r : List ℕ) (m : Machine) → is_two n ≡ true → CommentText u (dashes n ++ 62 ∷ s) r → run c (after_leaf m (CommentEvent t)) s ≡ run c (after_leaf m (CommentEvent (t ++ u))) r
note_end c s u t NoDash r m two h = cc
note_end c s u t OneDash r m two h = cc
note_end c s [] t TwoDashes r m two h =
    let e = tail_eq 62 62 s r (tail_eq 45 45 (62 ∷ s) (62 ∷ r) (tail_eq 45 45 (45 ∷ 62 ∷ s) (45 ∷ 62 ∷ r) h)) in
    rw (e, app_nil t) refl
note_end c s (x ∷ xs) t TwoDashes r m two (q, e, nc, k) = cc

pub note_run : (c : ℕ) (s u t : List ℕ) (n : Dashes) (r : List ℕ) (m : Machine) → CommentText u (dashes n ++ s) r → run c (at m (InComment t n)) s ≡ run c (after_leaf m (CommentEvent (t ++ u))) r
note_run c [] u t n r m h = let long = remark_long u (dashes n ++ []) r h in let short = dashes_short n in absurd (omega arith)
note_run c (b ∷ s) u t n r m h =
    let ih : NoteIh c s r m = λ u2 t2 n2 h2. note_run c s u2 t2 n2 r m h2 in
    elim (cases_Bool (b == 45)) [
      | inl e ↦ rw e (note_dash c s u t n r m ih (subst (λ z. CommentText u (dashes n ++ z ∷ s) r) (same_char b 45 e) h))
      | inr e ↦ elim (cases_Bool (b == 62 && is_two n)) [
        | inl k ↦ let p = and_parts (b == 62) (is_two n) k in
            rw (e, k) (note_end c s u t n r m p.1 (subst (λ z. CommentText u (dashes n ++ z ∷ s) r) (same_char b 62 p.0) h))
        | inr k ↦ let p = peel n b u s r e k h in
            let j : (t ++ (dashes n ++ b ∷ [])) ++ p.rest ≡ t ++ (dashes n ++ b ∷ p.rest) = simp append_assoc in
            rw (e, k) (ih p.rest (t ++ (dashes n ++ b ∷ [])) NoDash p.text ∙ ap (λ z. run c (after_leaf m (CommentEvent z)) r) (j ∙ ap (λ z. t ++ z) (sym p.is)))
      ]
    ]

-- the whole

-- the machine once it has read these siblings
abbrev pub grown : Machine → Siblings → Machine
grown m f = record m { lex = Data; next = m.next + size f; out = m.out ++ events f }

-- it reads s up to r, and stands there with these siblings added
pub record Reads (c : ℕ) (m : Machine) (s r : List ℕ) (g : Machine) : Type 0 where
  pub there : Machine
  pub ready : IsReady there.lex
  pub reads : run c m s ≡ run c there r
  pub grows : flushed there ≡ g

-- text may follow
abbrev pub Fits : Lexical → Siblings → Type 0
Fits (InText t) f = NotText f
Fits l f = IsReady l

ready_between : (l : Lexical) (m : Machine) → m.lex ≡ l → IsReady l → flushed_at l m ≡ record (flushed_at l m) { lex = Data }
ready_between Data m e h = ap (λ l. record m { lex = l }) e
ready_between (InText t) m e h = refl
ready_between l m e h = elim h [ ]

room_true : (c : ℕ) (m : Machine) → m.next < c → 0 < m.room → has_room c m ≡ true
room_true c m h k = grind (arith, nat_tests)

-- a run of text from its first character on
run_text : (c : ℕ) (m : Machine) (t s r : List ℕ) → has_room c m ≡ true → m.lex ≡ Data → 0 < length t → Text 60 t s r → run c m s ≡ run c (at m (InText t)) r
run_text c m [] s r room e h x = absurd (omega arith)
run_text c m (x ∷ xs) s r room e h (a, inl (k, n60, n38), l) =
    rw (k, e, ne_eqb x 60 n60, room, ne_eqb x 38 n38) (text_run c xs (x ∷ []) a r m l)
run_text c m (x ∷ xs) s r room e h (a, inr (w, k, body), l) =
    rw (k, e, room) (body_run c m (λ q. TextReference [] q) (λ y. InText (y ∷ [])) (λ p b. refl) x w a body ∙ text_run c xs (x ∷ []) a r m l)

abbrev mk : Lexical → List (List ℕ) → (d n : ℕ) → List Event → Machine
mk l ws d n o = record { lex = l; opened = ws; room = d; next = n; out = o }

same : (m : Machine) (d n n' : ℕ) (o o' : List Event) → d ≡ m.room → n ≡ n' → o ≡ o' → record m { lex = Data; room = d; next = n; out = o } ≡ record m { lex = Data; next = n'; out = o' }
same m d n n' o o' a e h = rw (a, e, h) refl

regroup : {A : Type 0} (o k f : List A) (x y : A) → (((o ++ x ∷ []) ++ k) ++ y ∷ []) ++ f ≡ o ++ x ∷ (k ++ y ∷ f)
regroup o k f x y = simp append_assoc

start_tag : (c : ℕ) (l : Lexical) (ws : List (List ℕ)) (d n : ℕ) (o : List Event) (w : List ℕ) (ts : List Attribute) (s r : List ℕ) → IsReady l → has_room c (flushed_at l (mk l ws d n o)) ≡ true → StartTag w ts s r → run c (mk l ws d n o) s ≡ run c (started (entered (flushed_at l (mk l ws d n o))) w ts) r
start_tag c l ws d n o w ts s r ready room (a, b, e, h, nm, nr, hs, te) =
    let m = mk l ws d n o in
    rw (h, less_step c m l ready) (start_run c (flushed_at l m) w ts s a b e r room nm nr hs te)

remark_run : (c : ℕ) (m : Machine) (t s r : List ℕ) → has_room c m ≡ true → CommentText t s r → then_run (less c m) (λ m1. run c m1 (33 ∷ 45 ∷ 45 ∷ s)) ≡ run c (after_leaf m (CommentEvent t)) r
remark_run c m t s r room h = rw (room, room) (note_run c s t [] NoDash r m h)

pub match_p : (b : Bool) (P Q : Type 0) → b ≡ true → MatchBool b P Q → P
match_p true P Q e h = h
match_p false P Q e h = cc

pub match_q : (b : Bool) (P Q : Type 0) → b ≡ false → MatchBool b P Q → Q
match_q true P Q e h = cc
match_q false P Q e h = h

pub nil_size : (k : Siblings) → IsNil k → size k ≡ 0
nil_size Nil h = refl
nil_size k h = elim h [ ]

nil_events : (k : Siblings) → IsNil k → events k ≡ []
nil_events Nil h = refl
nil_events k h = elim h [ ]

pub complete : (c : ℕ) (f : Siblings) (l : Lexical) (ws : List (List ℕ)) (d n : ℕ) (o : List Event) (s r : List ℕ) → IsReady l → Fits l f → (let m1 = flushed_at l (mk l ws d n o) in Content m1.room c m1.next f s r → Reads c (mk l ws d n o) s r (grown m1 f))
complete c Nil l ws d n o s r ready fits h =
    let m = mk l ws d n o in
    let m1 = flushed_at l m in
    let e : m1.next ≡ m1.next + 0 = omega arith in
    record {
      there = m;
      ready = ready;
      reads = ap (run c m) h;
      grows = ready_between l m refl ready ∙ same m1 m1.room m1.next (m1.next + 0) m1.out (m1.out ++ []) refl e (sym (app_nil m1.out));
    }
complete c (TextNode k t f) Data ws d n o s r ready fits h =
    let m = mk Data ws d n o in
    let ih = complete c f (InText t) ws d n o h.0 r tt h.5 h.7 in
    let e : suc n + size f ≡ n + suc (size f) = omega arith in
    record {
      there = ih.there;
      ready = ih.ready;
      reads = run_text c m t s h.0 (room_true c m h.2 h.3) refl h.4 h.6 ∙ ih.reads;
      grows = ih.grows ∙ same m d (suc n + size f) (n + suc (size f)) ((o ++ TextEvent t ∷ []) ++ events f) (o ++ TextEvent t ∷ events f) refl e (append_assoc o (TextEvent t ∷ []) (events f));
    }
complete c (TextNode k t f) (InText u) ws d n o s r ready fits h = elim fits [ ]
complete c (TextNode k t f) l ws d n o s r ready fits h = elim fits [ ]
complete c (CommentNode k t f) l ws d n o s r ready fits h =
    let m = mk l ws d n o in
    let m1 = flushed_at l m in
    let room = room_true c m1 h.3 h.4 in
    let m2 = after_leaf m1 (CommentEvent t) in
    let ih = complete c f Data m2.opened m2.room m2.next m2.out h.1 r tt tt h.7 in
    let e : suc m1.next + size f ≡ m1.next + suc (size f) = omega arith in
    record {
      there = ih.there;
      ready = ih.ready;
      reads = rw (h.5, less_step c m l ready) (remark_run c m1 t h.0 h.1 room h.6) ∙ ih.reads;
      grows = ih.grows ∙ same m1 m1.room (suc m1.next + size f) (m1.next + suc (size f)) ((m1.out ++ CommentEvent t ∷ []) ++ events f) (m1.out ++ CommentEvent t ∷ events f) refl e (append_assoc m1.out (CommentEvent t ∷ []) (events f));
    }
complete c (ElementNode k w ts kids f) l ws d n o s r ready fits h =
    let m = mk l ws d n o in
    let m1 = flushed_at l m in
    let room = room_true c m1 h.4 h.5 in
    let tag = start_tag c l ws d n o w ts s h.0 ready room h.6 in
    let up : suc (pred m1.room) ≡ m1.room = suc_pred m1.room h.5 in
    elim (cases_Bool (is_void w)) [
      | inl v ↦
          let p = match_p (is_void w) (IsNil kids × (h.0 ≡ h.2)) (Content (pred m1.room) c (suc m1.next) kids h.0 h.1 × EndTag w h.1 h.2) v h.7 in
          let m2 = after_void (entered m1) w ts in
          let z : suc m1.next + size kids ≡ suc m1.next = let k0 = nil_size kids p.0 in omega arith in
          let rest = complete c f Data m2.opened m2.room m2.next m2.out h.2 r tt tt (rw up (subst (λ q. Content m1.room c q f h.2 r) z h.8)) in
          let counted : suc m1.next + size f ≡ m1.next + suc (size kids + size f) = let k0 = nil_size kids p.0 in omega arith in
          let told2 : (m1.out ++ OpenEvent w ts ∷ CloseEvent ∷ []) ++ events f ≡ m1.out ++ OpenEvent w ts ∷ (events kids ++ CloseEvent ∷ events f) = rw (nil_events kids p.0) (append_assoc m1.out (OpenEvent w ts ∷ CloseEvent ∷ []) (events f)) in
          record {
            there = rest.there;
            ready = rest.ready;
            reads = tag ∙ ap (λ t. run c (if t then m2 else after_start (entered m1) w ts) h.0) v ∙ ap (λ q. run c m2 q) p.1 ∙ rest.reads;
            grows = rest.grows ∙ same m1 m2.room (suc m1.next + size f) (m1.next + suc (size kids + size f)) ((m1.out ++ OpenEvent w ts ∷ CloseEvent ∷ []) ++ events f) (m1.out ++ OpenEvent w ts ∷ (events kids ++ CloseEvent ∷ events f)) up counted told2;
          }
      | inr v ↦
          let p = match_q (is_void w) (IsNil kids × (h.0 ≡ h.2)) (Content (pred m1.room) c (suc m1.next) kids h.0 h.1 × EndTag w h.1 h.2) v h.7 in
          let m2 = after_start (entered m1) w ts in
          let ih = complete c kids Data m2.opened m2.room m2.next m2.out h.0 h.1 tt tt p.0 in
          let there = ih.there in
          let g = grown m2 kids in
          let m3 = after_end (record g { opened = m1.opened }) in
          let rest = complete c f Data m3.opened m3.room m3.next m3.out h.2 r tt tt (rw up h.8) in
          let counted : m3.next + size f ≡ m1.next + suc (size kids + size f) = omega arith in
          record {
            there = rest.there;
            ready = rest.ready;
            reads = tag ∙ ap (λ t. run c (if t then after_void (entered m1) w ts else m2) h.0) v ∙ ih.reads ∙ end_tag c there g w h.1 h.2 ih.ready ih.grows m1.opened refl p.1 ∙ rest.reads;
            grows = rest.grows ∙ same m1 m3.room (m3.next + size f) (m1.next + suc (size kids + size f)) (m3.out ++ events f) (m1.out ++ OpenEvent w ts ∷ (events kids ++ CloseEvent ∷ events f)) up counted (regroup m1.out (events kids) (events f) (OpenEvent w ts) CloseEvent);
          }
    ]

-- A page is read to its end, and its tree is emitted.
pub record ReadsPage (d c : ℕ) (s : List ℕ) (es : List Event) : Type 0 where
  pub there : Machine
  pub reads : run c (start d) s ≡ Some there
  pub ends : IsEnd there
  pub tells : emitted there ≡ es

pub none_open : (ws : List (List ℕ)) → ws ≡ [] → is_none_open ws
none_open [] e = tt
none_open (w ∷ ws) e = cc

pub flushed_opened : (l : Lexical) (m : Machine) → (flushed_at l m).opened ≡ m.opened
flushed_opened (InText t) m = refl
flushed_opened l m = refl

pub page_read : (d c : ℕ) (s : List ℕ) (f : Siblings) → Page d c s f → ReadsPage d c s (events f)
page_read d c s f h =
    let x = complete c f Data [] d 1 [] s [] tt tt h in
    let e : x.there.opened ≡ [] = sym (flushed_opened x.there.lex x.there) ∙ ap (λ m. m.opened) x.grows in
    record { there = x.there; reads = x.reads; ends = (x.ready, none_open x.there.opened e); tells = ap (λ m. m.out) x.grows }
