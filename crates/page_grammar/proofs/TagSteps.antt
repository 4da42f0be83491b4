-- What the machine has read of a start tag, in the grammar's words.
use Rattle.std.proofs.Common.{◌≡◌, ◌≢◌, ℕ, zero, suc, ◌<◌, Bool, true, false, ◌&&◌, ◌⊎◌, inl, inr, List, [], ◌∷◌, ◌++◌, length, Option, Some, None, refl, sym, ap, ◌∙◌, subst, arith, append_assoc, length-append}
use Rattle.std.specs.Prelude.{◌==◌, if◌then◌else◌}
use Rattle.std.proofs.lemmas.Bool.{cases_Bool, eqb-false}
use Rattle.page_grammar.specs.Chars.{is_space, lower, is_digit, is_hex, is_referable, is_name_char, is_attribute_name_char, is_quote, Entity}
use Rattle.page_grammar.specs.Names.{is_void, is_refused}
use Rattle.page_grammar.specs.Page as page
use Rattle.page_grammar.specs.Page.{Attribute, Spaces, IsBody, OneChar, Text, NameChars, AttributeNameChars, has_attribute, Attributes, StartTag}
use Rattle.page_grammar.specs.Machine.{Reference, Amp, Named, Hash, Dec, HexMark, Hex, Turn, Stop, More, Done, whole, ref_step, Lexical, BeforeAttributeName, AttributeName, AfterAttributeName, BeforeAttributeValue, InAttributeValue, ValueReference, AfterAttributeValue, SelfClosing, Machine, at, started, attribute, with_attribute, tag_end, ref_turn, step_at}
use Rattle.page_grammar.specs.Tokens.{TagUpTo, KeyUpTo, QuoteUpTo, Lacks}
use Rattle.page_grammar.proofs.Facts.{app_nil, same_char, and_parts, On, on_if}
use Rattle.page_grammar.proofs.Sound.{ReferenceRest, TurnBack, WholeIs, whole_is, ref_back}
use Rattle.page_grammar.proofs.LongestPrefix.{lex_name}

-- more characters behind

pub spaces_more : (n : ℕ) (s r t : List ℕ) → Spaces n s r → Spaces n (s ++ t) (r ++ t)
spaces_more zero s r t h = ap (λ z. z ++ t) h
spaces_more (suc n) s r t (x, m, e, ok, h) = (x, m ++ t, ap (λ z. z ++ t) e, ok, spaces_more n m r t h)

pub spaces_then : (n : ℕ) (s : List ℕ) (b : ℕ) → Spaces n s [] → is_space b ≡ true → Spaces (suc n) (s ++ b ∷ []) []
spaces_then zero s b h k = (b, [], ap (λ z. z ++ b ∷ []) h, k, refl)
spaces_then (suc n) s b (x, m, e, ok, h) k = (x, m ++ b ∷ [], ap (λ z. z ++ b ∷ []) e, ok, spaces_then n m b h k)

chars_more : (xs s r t : List ℕ) → NameChars xs s r → NameChars xs (s ++ t) (r ++ t)
chars_more [] s r t h = ap (λ z. z ++ t) h
chars_more (x ∷ xs) s r t (b, m, e, lo, ok, h) = (b, m ++ t, ap (λ z. z ++ t) e, lo, ok, chars_more xs m r t h)

chars_then : (xs s : List ℕ) (b : ℕ) → NameChars xs s [] → is_name_char b ≡ true → NameChars (xs ++ lower b ∷ []) (s ++ b ∷ []) []
chars_then [] s b h k = (b, [], ap (λ z. z ++ b ∷ []) h, refl, k, refl)
chars_then (x ∷ xs) s b (y, m, e, lo, ok, h) k = (y, m ++ b ∷ [], ap (λ z. z ++ b ∷ []) e, lo, ok, chars_then xs m b h k)

pub name_more : (w s r t : List ℕ) → page.ElementName w s r → page.ElementName w (s ++ t) (r ++ t)
name_more [] s r t h = h
name_more (x ∷ xs) s r t (b, m, e, lo, ok, h) = (b, m ++ t, ap (λ z. z ++ t) e, lo, ok, chars_more xs m r t h)

pub name_then : (w s : List ℕ) (b : ℕ) → page.ElementName w s [] → is_name_char b ≡ true → page.ElementName (w ++ lower b ∷ []) (s ++ b ∷ []) []
name_then [] s b h k = elim h [ ]
name_then (x ∷ xs) s b (y, m, e, lo, ok, h) k = (y, m ++ b ∷ [], ap (λ z. z ++ b ∷ []) e, lo, ok, chars_then xs m b h k)

keys_more : (xs s r t : List ℕ) → AttributeNameChars xs s r → AttributeNameChars xs (s ++ t) (r ++ t)
keys_more [] s r t h = ap (λ z. z ++ t) h
keys_more (x ∷ xs) s r t (b, m, e, lo, ok, h) = (b, m ++ t, ap (λ z. z ++ t) e, lo, ok, keys_more xs m r t h)

keys_then : (xs s : List ℕ) (b : ℕ) → AttributeNameChars xs s [] → is_attribute_name_char b ≡ true → AttributeNameChars (xs ++ lower b ∷ []) (s ++ b ∷ []) []
keys_then [] s b h k = (b, [], ap (λ z. z ++ b ∷ []) h, refl, k, refl)
keys_then (x ∷ xs) s b (y, m, e, lo, ok, h) k = (y, m ++ b ∷ [], ap (λ z. z ++ b ∷ []) e, lo, ok, keys_then xs m b h k)

one_more_char : (stop x : ℕ) (s r t : List ℕ) → OneChar stop x s r → OneChar stop x (s ++ t) (r ++ t)
one_more_char stop x s r t (inl (e, a, b)) = inl (ap (λ z. z ++ t) e, a, b)
one_more_char stop x s r t (inr (w, e, body)) = inr (w, ap (λ z. z ++ t) e ∙ ap (λ z. 38 ∷ z) (append_assoc w (59 ∷ r) t), body)

text_more : (stop : ℕ) (xs s r t : List ℕ) → Text stop xs s r → Text stop xs (s ++ t) (r ++ t)
text_more stop [] s r t h = ap (λ z. z ++ t) h
text_more stop (x ∷ xs) s r t (m, o, h) = (m ++ t, one_more_char stop x s m t o, text_more stop xs m r t h)

text_then : (stop : ℕ) (xs s e : List ℕ) (x : ℕ) → Text stop xs s e → OneChar stop x e [] → Text stop (xs ++ x ∷ []) s []
text_then stop [] s e x h o = ([], subst (λ z. OneChar stop x z []) (sym h) o, refl)
text_then stop (y ∷ ys) s e x (m, p, h) o = (m, p, text_then stop ys m e x h o)

value_more : (v s r t : List ℕ) → page.AttributeValue v s r → page.AttributeValue v (s ++ t) (r ++ t)
value_more v s r t (inl (a, e)) = inl (a, ap (λ z. z ++ t) e)
value_more v s r t (inr (n, a, i, q, b, sp, si, iq, tx)) = inr (n, a ++ t, i, q, b ++ t, spaces_more n s (61 ∷ a) t sp, spaces_more i a (q ∷ b) t si, iq, text_more q v b (q ∷ r) t tx)

attributes_more : (us seen : List Attribute) (s r t : List ℕ) → Attributes seen us s r → Attributes seen us (s ++ t) (r ++ t)
attributes_more [] seen s r t h = ap (λ z. z ++ t) h
attributes_more (u ∷ us) seen s r t (n, a, b, m, sp, some, kc, hk, va, h) = (
  n,
  a ++ t,
  b ++ t,
  m ++ t,
  spaces_more (suc n) s a t sp,
  some,
  keys_more u.name a b t kc,
  hk,
  value_more u.value b m t va,
  attributes_more us (seen ++ u ∷ []) m r t h,
)

attributes_then : (us seen : List Attribute) (s m b r k v : List ℕ) → Attributes seen us s m → KeyUpTo k m b → has_attribute (seen ++ us) k ≡ false → page.AttributeValue v b r → Attributes seen (us ++ attribute k v ∷ []) s r
attributes_then [] seen s m b r k v e (n, a, sp, some, kc) hk va = (
  n,
  a,
  b,
  r,
  subst (λ z. Spaces (suc n) z a) (sym e) sp,
  some,
  kc,
  subst (λ z. has_attribute z k ≡ false) (app_nil seen) hk,
  va,
  refl,
)
attributes_then (u ∷ us) seen s m b r k v (n, a, b1, m1, sp, some, kc, h1, va1, h) key hk va = (
  n,
  a,
  b1,
  m1,
  sp,
  some,
  kc,
  h1,
  va1,
  attributes_then us (seen ++ u ∷ []) m1 m b r k v h key (subst (λ z. has_attribute z k ≡ false) (sym (append_assoc seen (u ∷ []) us)) hk) va,
)

pub tag_more : (w : List ℕ) (ts : List Attribute) (r m t : List ℕ) → TagUpTo w ts r m → TagUpTo w ts (r ++ t) (m ++ t)
tag_more w ts r m t (a, b, e, nm, nr, h) = (a ++ t, b ++ t, ap (λ z. z ++ t) e, name_more w a b t nm, nr, attributes_more ts [] b m t h)

key_more : (k m b t : List ℕ) → KeyUpTo k m b → KeyUpTo k (m ++ t) (b ++ t)
key_more k m b t (n, a, sp, some, kc) = (n, a ++ t, spaces_more (suc n) m a t sp, some, keys_more k a b t kc)

quote_more : (q : ℕ) (b u t : List ℕ) → QuoteUpTo q b u → QuoteUpTo q (b ++ t) (u ++ t)
quote_more q b u t (n, a, i, sp, si, iq) = (n, a ++ t, i, spaces_more n b (61 ∷ a) t sp, spaces_more i a (q ∷ u) t si, iq)

-- with one more attribute
tag_with : (w : List ℕ) (ts : List Attribute) (k v r m b e : List ℕ) → TagUpTo w ts r m → KeyUpTo k m b → has_attribute ts k ≡ false → page.AttributeValue v b e → TagUpTo w (with_attribute ts k v) r e
tag_with w ts k v r m b e (a, c, eq, nm, nr, h) key hk va = (a, c, eq, nm, nr, attributes_then ts [] c m b e k v h key hk va)

tag_bare : (w : List ℕ) (ts : List Attribute) (k r m b : List ℕ) → TagUpTo w ts r m → KeyUpTo k m b → has_attribute ts k ≡ false → TagUpTo w (with_attribute ts k []) r b
tag_bare w ts k r m b tag key hk = tag_with w ts k [] r m b b tag key hk (inl (refl, refl))

-- the tag is at its end
tag_whole : (w : List ℕ) (ts : List Attribute) (r m : List ℕ) → TagUpTo w ts r m → page.TagEnd w m [] → StartTag w ts r []
tag_whole w ts r m (a, b, e, nm, nr, h) te = (a, b, m, e, nm, nr, h, te)

-- references

-- e is read of a reference, and p is how far it is read
abbrev pub RefBack : Reference → List ℕ → Type 0
RefBack p e = (x : ℕ) (s r : List ℕ) → ReferenceRest p x s r → ReferenceRest Amp x (e ++ s) r

abbrev RefNext : List ℕ → ℕ → Turn → Type 0
RefNext e b Stop = Unit {0}
RefNext e b (More q) = RefBack q (e ++ b ∷ [])
RefNext e b (Done x) = (w : List ℕ) × (e ++ b ∷ [] ≡ w ++ 59 ∷ []) × IsBody w x

ref_next : (p : Reference) (e : List ℕ) (b : ℕ) → RefBack p e → (o : Turn) → TurnBack p b o → RefNext e b o
ref_next p e b back Stop h = tt
ref_next p e b back (More q) h = λ x s r k. subst (λ z. ReferenceRest Amp x z r) (sym (append_assoc e (b ∷ []) s)) (back x (b ∷ s) r (h x s r k))
ref_next p e b back (Done x) h = back x (b ∷ []) [] (h [])

abbrev NoMore : Turn → Type 0
NoMore Stop = Unit {0}
NoMore (More q) = ⊥
NoMore (Done x) = Unit {0}

names_no_more : (es : List Entity) (o : Turn) → WholeIs es o → NoMore o
names_no_more es Stop h = tt
names_no_more es (More q) h = h
names_no_more es (Done x) h = tt

done_no_more : (t : Bool) (v : ℕ) → NoMore (if t then Done v else Stop)
done_no_more true v = tt
done_no_more false v = tt

-- a `;` ends it
semi_ends : (p : Reference) → NoMore (ref_step p 59)
unfolding is_digit is_hex lower
semi_ends Amp = tt
semi_ends (Named es) = names_no_more es (whole es) (whole_is es)
semi_ends Hash = tt
semi_ends (Dec v) = done_no_more (is_referable v) v
semi_ends HexMark = tt
semi_ends (Hex v) = done_no_more (is_referable v) v

-- an `e` without `;`, and one more character of the reference
abbrev OneMore : ℕ → Turn → Type 0
OneMore b Stop = Unit {0}
OneMore b (More q) = b ≢ 59
OneMore b (Done x) = Unit {0}

one_more : (p : Reference) (b : ℕ) → OneMore b (ref_step p b)
one_more p b =
    elim (cases_Bool (b == 59)) [
      | inl e ↦ let k = same_char b 59 e in subst (λ z. OneMore z (ref_step p z)) (sym k) (none (ref_step p 59) (semi_ends p))
      | inr f ↦ other (ref_step p b) (eqb-false b 59 f)
    ]
  where
    none : (o : Turn) → NoMore o → OneMore 59 o
    none Stop h = tt
    none (More q) h = elim h [ ]
    none (Done x) h = tt

    other : (o : Turn) → b ≢ 59 → OneMore b o
    other Stop h = tt
    other (More q) h = h
    other (Done x) h = tt

pub lacks_then : (x : ℕ) (e : List ℕ) (b : ℕ) → Lacks x e → b ≢ x → Lacks x (e ++ b ∷ [])
lacks_then x [] b h k = (k, tt)
lacks_then x (y ∷ ys) b h k = (h.0, lacks_then x ys b h.1 k)

-- what a reference's next character comes to
pub turn_on : (P : Machine → Type 0) (m : Machine) (more : Reference → Lexical) (end : ℕ → Lexical) (p : Reference) (e : List ℕ) (b : ℕ) → RefBack p e → Lacks 59 e → ((q : Reference) → Lacks 59 (e ++ b ∷ []) → RefBack q (e ++ b ∷ []) → P (at m (more q))) → ((x : ℕ) (w : List ℕ) → e ++ b ∷ [] ≡ w ++ 59 ∷ [] → IsBody w x → P (at m (end x))) → On P (ref_turn m more end (ref_step p b))
turn_on P m more end p e b back lk f g = go (ref_step p b) (ref_next p e b back (ref_step p b) (ref_back p b)) (one_more p b)
  where
    go : (o : Turn) → RefNext e b o → OneMore b o → On P (ref_turn m more end o)
    go Stop h k = tt
    go (More q) h k = f q (lacks_then 59 e b lk k) h
    go (Done x) (w, eq, body) k = g x w eq body

-- the states behind the name in a start tag, r being read of it
abbrev pub TagIn : Lexical → List ℕ → Type 0
TagIn (BeforeAttributeName w ts) r = (m : List ℕ) × (n : ℕ) × TagUpTo w ts r m × Spaces (suc n) m []
TagIn (AttributeName w ts k) r = (m : List ℕ) × TagUpTo w ts r m × KeyUpTo k m []
TagIn (AfterAttributeName w ts k) r =
    (m : List ℕ) × (b : List ℕ) × (n : ℕ) × TagUpTo w ts r m × KeyUpTo k m b × (has_attribute ts k ≡ false) × Spaces (suc n) b []
TagIn (BeforeAttributeValue w ts k) r =
    (m : List ℕ) × (b : List ℕ) × (a : List ℕ) × (n : ℕ) × (i : ℕ)
    × TagUpTo w ts r m × KeyUpTo k m b × (has_attribute ts k ≡ false) × Spaces n b (61 ∷ a) × Spaces i a []
TagIn (InAttributeValue w ts k q v) r =
    (m : List ℕ) × (b : List ℕ) × (u : List ℕ)
    × TagUpTo w ts r m × KeyUpTo k m b × (has_attribute ts k ≡ false) × QuoteUpTo q b u × Text q v u []
TagIn (ValueReference w ts k q v p) r =
    (m : List ℕ) × (b : List ℕ) × (u : List ℕ) × (e : List ℕ)
    × TagUpTo w ts r m × KeyUpTo k m b × (has_attribute ts k ≡ false) × QuoteUpTo q b u × Text q v u (38 ∷ e) × Lacks 59 e × RefBack p e
TagIn (AfterAttributeValue w ts) r = TagUpTo w ts r [] × (0 < length ts)
TagIn (SelfClosing w ts) r = (m : List ℕ) × (n : ℕ) × TagUpTo w ts r m × Spaces n m (47 ∷ []) × (is_void w ≡ true)
TagIn l r = ⊥

-- the tag w goes on, or is whole
abbrev pub TagNext : Machine → List ℕ → List ℕ → Machine → Type 0
TagNext m w r m1 =
    (TagIn m1.lex r × (lex_name m1.lex ≡ w) × (m1.opened ≡ m.opened) × (m1.out ≡ m.out))
    ⊎ ((ts : List Attribute) × StartTag w ts r [] × (m1 ≡ started m w ts))

pub tag_end_next : (m : Machine) (w : List ℕ) (ts : List Attribute) (r s : List ℕ) (n b : ℕ) → TagUpTo w ts r s → Spaces n s [] → On (λ m1. TagNext m w (r ++ b ∷ []) m1) (tag_end m w ts b)
tag_end_next m w ts r s n b tag sp =
    let P : Machine → Type 0 = λ m1. TagNext m w (r ++ b ∷ []) m1 in
    let more = tag_more w ts r s (b ∷ []) tag in
    let gap = spaces_more n s [] (b ∷ []) sp in
    on_if P (b == 62) (Some (started m w ts)) (if b == 47 && is_void w then Some (at m (SelfClosing w ts)) else None)
    (λ h. inr (ts, tag_whole w ts (r ++ b ∷ []) (s ++ b ∷ []) more (n, b ∷ [], gap, inl (ap (λ z. z ∷ []) (same_char b 62 h))), refl))
    (λ f. on_if P (b == 47 && is_void w) (Some (at m (SelfClosing w ts))) None
    (λ h. let k = and_parts (b == 47) (is_void w) h in
    inl ((s ++ b ∷ [], n, more, subst (λ z. Spaces n (s ++ b ∷ []) (z ∷ [])) (same_char b 47 k.0) gap, k.1), refl, refl, refl))
    (λ h. tt))

some_more : {A : Type 0} (xs : List A) (x : A) → 0 < length (xs ++ x ∷ [])
some_more xs x = let e = length-append xs (x ∷ []) in omega arith

pub lex_if : (P : Machine → Type 0) (m : Machine) (t : Bool) (x y : Lexical) → (t ≡ true → P (at m x)) → (t ≡ false → P (at m y)) → P (at m (if t then x else y))
lex_if P m true x y f g = f refl
lex_if P m false x y f g = g refl

-- behind its name
pub name_ends : (m : Machine) (w a r : List ℕ) (b : ℕ) → r ≡ 60 ∷ a → page.ElementName w a [] → On (λ m1. TagNext m w (r ++ b ∷ []) m1) (if is_refused w then None else (if is_space b then Some (at m (BeforeAttributeName w [])) else tag_end m w [] b))
name_ends m w a r b er nm =
    let P : Machine → Type 0 = λ m1. TagNext m w (r ++ b ∷ []) m1 in
    let gap = Some (at m (BeforeAttributeName w [])) in
    let y : Option Machine = if is_space b then gap else tag_end m w [] b in
    on_if P (is_refused w) None y (λ k. tt)
    (λ nr. on_if P (is_space b) gap (tag_end m w [] b)
    (λ k. inl ((b ∷ [], 0, (a ++ b ∷ [], b ∷ [], ap (λ z. z ++ b ∷ []) er, name_more w a [] (b ∷ []) nm, nr, refl), (b, [], refl, k, refl)), refl, refl, refl))
    (λ k. tag_end_next m w [] r [] 0 b (a, [], er, nm, nr, refl) refl))

pub tag_step : (c : ℕ) (m : Machine) (l : Lexical) (r : List ℕ) (b : ℕ) → TagIn l r → On (λ m1. TagNext m (lex_name l) (r ++ b ∷ []) m1) (step_at c m l b)
tag_step c m (BeforeAttributeName w ts) r b (s, n, tag, sp) =
    let P : Machine → Type 0 = λ m1. TagNext m w (r ++ b ∷ []) m1 in
    let more = tag_more w ts r s (b ∷ []) tag in
    let y = Some (at m (AttributeName w ts (lower b ∷ []))) in
    on_if P (is_space b) (Some (at m (BeforeAttributeName w ts))) (if is_attribute_name_char b then y else tag_end m w ts b)
    (λ h. inl ((s ++ b ∷ [], suc n, more, spaces_then (suc n) s b sp h), refl, refl, refl))
    (λ f. on_if P (is_attribute_name_char b) y (tag_end m w ts b)
    (λ h. inl ((s ++ b ∷ [], more, (n, b ∷ [], spaces_more (suc n) s [] (b ∷ []) sp, omega arith, (b, [], refl, refl, h, refl))), refl, refl, refl))
    (λ h. tag_end_next m w ts r s (suc n) b tag sp))
tag_step c m (AttributeName w ts k) r b (s, tag, (n, a, sp, some, kc)) =
    let P : Machine → Type 0 = λ m1. TagNext m w (r ++ b ∷ []) m1 in
    let key : KeyUpTo k s [] = (n, a, sp, some, kc) in
    let more = tag_more w ts r s (b ∷ []) tag in
    let longer = key_more k s [] (b ∷ []) key in
    let z = tag_end m w (with_attribute ts k []) b in
    let y3 : Option Machine = if b == 61 then Some (at m (BeforeAttributeValue w ts k)) else z in
    let y2 : Option Machine = if is_space b then Some (at m (AfterAttributeName w ts k)) else y3 in
    let y1 : Option Machine = if has_attribute ts k then None else y2 in
    on_if P (is_attribute_name_char b) (Some (at m (AttributeName w ts (k ++ lower b ∷ [])))) y1
    (λ h. inl ((s ++ b ∷ [], more, (n, a ++ b ∷ [], spaces_more (suc n) s a (b ∷ []) sp, some_more k (lower b), keys_then k a b kc h)), refl, refl, refl))
    (λ f. on_if P (has_attribute ts k) None y2 (λ h. tt)
    (λ hk. on_if P (is_space b) (Some (at m (AfterAttributeName w ts k))) y3
    (λ h. inl ((s ++ b ∷ [], b ∷ [], 0, more, longer, hk, (b, [], refl, h, refl)), refl, refl, refl))
    (λ g. on_if P (b == 61) (Some (at m (BeforeAttributeValue w ts k))) z
    (λ h. inl ((s ++ b ∷ [], b ∷ [], [], 0, 0, more, longer, hk, ap (λ x. x ∷ []) (same_char b 61 h), refl), refl, refl, refl))
    (λ h. tag_end_next m w (with_attribute ts k []) r [] 0 b (tag_bare w ts k r s [] tag key hk) refl))))
tag_step c m (AfterAttributeName w ts k) r b (s, d, n, tag, key, hk, sp) =
    let P : Machine → Type 0 = λ m1. TagNext m w (r ++ b ∷ []) m1 in
    let us = with_attribute ts k [] in
    let more = tag_more w ts r s (b ∷ []) tag in
    let longer = key_more k s d (b ∷ []) key in
    let bare = tag_bare w ts k r s d tag key hk in
    let z = tag_end m w us b in
    let y2 : Option Machine = if is_attribute_name_char b then Some (at m (AttributeName w us (lower b ∷ []))) else z in
    let y1 : Option Machine = if b == 61 then Some (at m (BeforeAttributeValue w ts k)) else y2 in
    on_if P (is_space b) (Some (at m (AfterAttributeName w ts k))) y1
    (λ h. inl ((s ++ b ∷ [], d ++ b ∷ [], suc n, more, longer, hk, spaces_then (suc n) d b sp h), refl, refl, refl))
    (λ f. on_if P (b == 61) (Some (at m (BeforeAttributeValue w ts k))) y2
    (λ h. inl ((s ++ b ∷ [], d ++ b ∷ [], [], suc n, 0, more, longer, hk, subst (λ x. Spaces (suc n) (d ++ b ∷ []) (x ∷ [])) (same_char b 61 h) (spaces_more (suc n) d [] (b ∷ []) sp), refl), refl, refl, refl))
    (λ g. on_if P (is_attribute_name_char b) (Some (at m (AttributeName w us (lower b ∷ [])))) z
    (λ h. inl ((d ++ b ∷ [], tag_more w us r d (b ∷ []) bare, (n, b ∷ [], spaces_more (suc n) d [] (b ∷ []) sp, omega arith, (b, [], refl, refl, h, refl))), refl, refl, refl))
    (λ h. tag_end_next m w us r d (suc n) b bare sp)))
tag_step c m (BeforeAttributeValue w ts k) r b (s, d, a, n, i, tag, key, hk, sp, si) =
    let P : Machine → Type 0 = λ m1. TagNext m w (r ++ b ∷ []) m1 in
    let more = tag_more w ts r s (b ∷ []) tag in
    let longer = key_more k s d (b ∷ []) key in
    let equals = spaces_more n d (61 ∷ a) (b ∷ []) sp in
    let y = Some (at m (InAttributeValue w ts k b [])) in
    on_if P (is_space b) (Some (at m (BeforeAttributeValue w ts k))) (if is_quote b then y else None)
    (λ h. inl ((s ++ b ∷ [], d ++ b ∷ [], a ++ b ∷ [], n, suc i, more, longer, hk, equals, spaces_then i a b si h), refl, refl, refl))
    (λ f. on_if P (is_quote b) y None
    (λ h. inl ((s ++ b ∷ [], d ++ b ∷ [], [], more, longer, hk, (n, a ++ b ∷ [], i, equals, spaces_more i a [] (b ∷ []) si, h), refl), refl, refl, refl))
    (λ h. tt))
tag_step c m (InAttributeValue w ts k q v) r b (s, d, u, tag, key, hk, (n, a, i, sp, si, iq), tx) =
    let P : Machine → Type 0 = λ m1. TagNext m w (r ++ b ∷ []) m1 in
    let more = tag_more w ts r s (b ∷ []) tag in
    let longer = key_more k s d (b ∷ []) key in
    let equals = spaces_more n d (61 ∷ a) (b ∷ []) sp in
    let gap = spaces_more i a (q ∷ u) (b ∷ []) si in
    let quote : QuoteUpTo q (d ++ b ∷ []) (u ++ b ∷ []) = (n, a ++ b ∷ [], i, equals, gap, iq) in
    let text : Text q v (u ++ b ∷ []) (b ∷ []) = text_more q v u [] (b ∷ []) tx in
    let x : Lexical = ValueReference w ts k q v Amp in
    let y : Lexical = InAttributeValue w ts k q (v ++ b ∷ []) in
    on_if P (b == q) (Some (at m (AfterAttributeValue w (with_attribute ts k v)))) (Some (at m (if b == 38 then x else y)))
    (λ h. let close : Text q v (u ++ b ∷ []) (q ∷ []) = subst (λ z. Text q v (u ++ b ∷ []) (z ∷ [])) (same_char b q h) text in
    let va : page.AttributeValue v (d ++ b ∷ []) [] = inr (n, a ++ b ∷ [], i, q, u ++ b ∷ [], equals, gap, iq, close) in
    inl ((tag_with w ts k v (r ++ b ∷ []) (s ++ b ∷ []) (d ++ b ∷ []) [] more longer hk va, some_more ts (attribute k v)), refl, refl, refl))
    (λ f. lex_if P m (b == 38) x y
    (λ h. inl ((s ++ b ∷ [], d ++ b ∷ [], u ++ b ∷ [], [], more, longer, hk, quote, subst (λ z. Text q v (u ++ b ∷ []) (z ∷ [])) (same_char b 38 h) text, tt, λ o g e j. j), refl, refl, refl))
    (λ h. inl ((s ++ b ∷ [], d ++ b ∷ [], u ++ b ∷ [], more, longer, hk, quote, text_then q v (u ++ b ∷ []) (b ∷ []) b text (inl (refl, eqb-false b q f, eqb-false b 38 h))), refl, refl, refl)))
tag_step c m (ValueReference w ts k q v p) r b (s, d, u, e, tag, key, hk, quote, tx, lk, back) =
    let P : Machine → Type 0 = λ m1. TagNext m w (r ++ b ∷ []) m1 in
    let more = tag_more w ts r s (b ∷ []) tag in
    let longer = key_more k s d (b ∷ []) key in
    let quoted = quote_more q d u (b ∷ []) quote in
    let text : Text q v (u ++ b ∷ []) (38 ∷ (e ++ b ∷ [])) = text_more q v u (38 ∷ e) (b ∷ []) tx in
    turn_on P m (λ z. ValueReference w ts k q v z) (λ x. InAttributeValue w ts k q (v ++ x ∷ [])) p e b back lk
    (λ z l y. inl ((s ++ b ∷ [], d ++ b ∷ [], u ++ b ∷ [], e ++ b ∷ [], more, longer, hk, quoted, text, l, y), refl, refl, refl))
    (λ x z eq body. inl ((s ++ b ∷ [], d ++ b ∷ [], u ++ b ∷ [], more, longer, hk, quoted, text_then q v (u ++ b ∷ []) (38 ∷ (e ++ b ∷ [])) x text (inr (z, ap (λ y. 38 ∷ y) eq, body))), refl, refl, refl))
tag_step c m (AfterAttributeValue w ts) r b (tag, some) =
    let P : Machine → Type 0 = λ m1. TagNext m w (r ++ b ∷ []) m1 in
    on_if P (is_space b) (Some (at m (BeforeAttributeName w ts))) (tag_end m w ts b)
    (λ h. inl ((b ∷ [], 0, tag_more w ts r [] (b ∷ []) tag, (b, [], refl, h, refl)), refl, refl, refl))
    (λ h. tag_end_next m w ts r [] 0 b tag refl)
tag_step c m (SelfClosing w ts) r b (s, n, tag, sp, v) =
    let P : Machine → Type 0 = λ m1. TagNext m w (r ++ b ∷ []) m1 in
    on_if P (b == 62) (Some (started m w ts)) None
    (λ h. inr (ts, tag_whole w ts (r ++ b ∷ []) (s ++ b ∷ []) (tag_more w ts r s (b ∷ []) tag) (n, 47 ∷ b ∷ [], spaces_more n s (47 ∷ []) (b ∷ []) sp, inr (v, ap (λ z. 47 ∷ z ∷ []) (same_char b 62 h))), refl))
    (λ h. tt)
tag_step c m l r b h = elim h [ ]
