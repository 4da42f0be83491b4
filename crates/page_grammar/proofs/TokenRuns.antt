-- What the machine does at whole tokens, and at what follows them.
use Rattle.std.proofs.Common.{◌≡◌, ℕ, zero, suc, ◌<◌, ◌≤◌, Bool, true, false, ◌||◌, inl, inr, List, [], ◌∷◌, ◌++◌, length, Option, Some, None, refl, sym, ap, ◌∙◌, subst, arith, length-append}
use Rattle.std.specs.Prelude.{◌==◌, if◌then◌else◌}
use Rattle.std.proofs.lemmas.Bool.{cases_Bool, ne_eqb}
use Rattle.page_grammar.specs.Names.{is_void}
use Rattle.page_grammar.specs.Page as page
use Rattle.page_grammar.specs.Page.{Attribute, OneChar, StartTag}
use Rattle.page_grammar.specs.Machine.{Event, CommentEvent, OpenEvent, CloseEvent, Lexical, Data, InText, TextReference, TagOpen, TagName, AttributeName, Machine, start, at, has_room, is_some_open, less, after_leaf, entered, started, after_end, NoDash, step, run, then_run, IsReady, flushed, emitted, quiet, after_emitting}
use Rattle.page_grammar.specs.Tokens.{IsToken, Tokens, TagUpTo, KeyUpTo}
use Rattle.page_grammar.proofs.Facts.{then_some, letter_not_slash}
use Rattle.page_grammar.proofs.Complete.{body_run, less_step, first_name, attributes_run, gap_run, key_first, at_name, start_run, end_tag, note_run, flushed_opened}
use Rattle.page_grammar.proofs.LongestPrefix.{run_append}
use Rattle.page_grammar.proofs.Outputs.{step_tells}

abbrev Ready : List (List ℕ) → Machine → Type 0
Ready ws m = IsReady m.lex × (m.opened ≡ ws)

-- a node begins: there is room for it
pub room_of : (c : ℕ) (m m2 : Machine) (x : ℕ) (s : List ℕ) → IsReady m.lex → (x == 47) ≡ false → run c m (60 ∷ x ∷ s) ≡ Some m2 → has_room c (flushed m) ≡ true
room_of c m m2 x s ready f e =
    elim (cases_Bool (has_room c (flushed m))) [
      | inl t ↦ t
      | inr n ↦
          let one = then_some (step c m 60) (λ m1. run c m1 (x ∷ s)) m2 e in
          let two : less c (flushed m) ≡ Some one.0 = sym (less_step c m m.lex ready) ∙ one.1 in
          let stop : run c (at (flushed m) TagOpen) (x ∷ s) ≡ None = rw (f, n) refl in
          let same = is (has_room c (flushed m) || is_some_open (flushed m).opened) (at (flushed m) TagOpen) one.0 two in
          let bad : None ≡ Some m2 = sym stop ∙ ap (λ z. run c z (x ∷ s)) same ∙ one.2 in
          cc
    ]
  where
    is : (t : Bool) (a b : Machine) → (if t then Some a else None) ≡ Some b → a ≡ b
    is true a b k = cc
    is false a b k = cc

-- `<` before a token that isn't an end tag
pub less_is : (c : ℕ) (m : Machine) (s : List ℕ) → IsReady m.lex → has_room c (flushed m) ≡ true → run c m (60 ∷ s) ≡ run c (at (flushed m) TagOpen) s
less_is c m s ready room = ap (λ o. then_run o (λ m1. run c m1 s)) (less_step c m m.lex ready) ∙ rw room refl

pub name_room : (c : ℕ) (m m2 : Machine) (w a b : List ℕ) → IsReady m.lex → run c m (60 ∷ a) ≡ Some m2 → page.ElementName w a b → has_room c (flushed m) ≡ true
name_room c m m2 [] a b ready e h = elim h [ ]
name_room c m m2 (x ∷ xs) a b ready e (y, z, ea, lo, letter, h) = room_of c m m2 y z ready (letter_not_slash y letter) (ap (λ v. run c m (60 ∷ v)) (sym ea) ∙ e)

-- a whole start tag
pub start_is : (c : ℕ) (m m2 : Machine) (w : List ℕ) (ts : List Attribute) (t r : List ℕ) → IsReady m.lex → run c m t ≡ Some m2 → StartTag w ts t r → run c m t ≡ run c (started (entered (flushed m)) w ts) r
start_is c m m2 w ts t r ready e (a, b, d, eq, nm, nr, h, te) =
    let room = name_room c m m2 w a b ready (ap (λ z. run c m z) (sym eq) ∙ e) nm in
    ap (λ z. run c m z) eq ∙ ap (λ o. then_run o (λ m1. run c m1 a)) (less_step c m m.lex ready) ∙ start_run c (flushed m) w ts t a b d r room nm nr h te

-- a start tag up to an attribute's name
pub name_is : (c : ℕ) (m m2 : Machine) (w a b : List ℕ) → IsReady m.lex → run c m (60 ∷ a) ≡ Some m2 → page.ElementName w a b → run c m (60 ∷ a) ≡ run c (at (entered (flushed m)) (TagName w)) b
name_is c m m2 w a b ready e nm =
    let room = name_room c m m2 w a b ready e nm in
    less_is c m a ready room ∙ first_name c (flushed m) w a b room nm

pub key_is : (c : ℕ) (m m2 : Machine) (w : List ℕ) (ts : List Attribute) (r s k e : List ℕ) → IsReady m.lex → run c m r ≡ Some m2 → TagUpTo w ts r s → KeyUpTo k s e → run c m r ≡ run c (at (entered (flushed m)) (AttributeName w ts k)) e
key_is c m m2 w ts r s k e ready h (a, b, er, nm, nr, us) (n, d, sp, some, kc) =
    let f = entered (flushed m) in
    let one = name_is c m m2 w a b ready (ap (λ z. run c m z) (sym er) ∙ h) nm in
    let x = attributes_run c f ts (TagName w) w [] b s (at_name nr) us in
    let y = gap_run c f x.lex2 w ts n s d x.tagged sp in
    ap (λ z. run c m z) er ∙ one ∙ x.reads ∙ y.reads ∙ key_first c f y.lex2 w ts k d e y.spaced some kc

started_is : (m : Machine) (w : List ℕ) (ts : List Attribute) → IsReady (started m w ts).lex × ((started m w ts).opened ≡ (if is_void w then m.opened else w ∷ m.opened))
started_is m w ts = elim (cases_Bool (is_void w)) [ inl t ↦ rw t (tt, refl) | inr f ↦ rw f (tt, refl) ]

text_start : (c : ℕ) (l : Lexical) (m m2 : Machine) (x : ℕ) (t : List ℕ) → IsReady l → OneChar 60 x t [] → run c (at m l) t ≡ Some m2 → Ready m.opened m2
text_start c Data m m2 x t ready (inl (e, n60, n38)) k =
    elim (cases_Bool (has_room c m)) [
      | inl room ↦ let here : Some m2 ≡ Some (at m (InText (x ∷ []))) = sym k ∙ rw (e, ne_eqb x 60 n60, room, ne_eqb x 38 n38) refl in
          let is : at m (InText (x ∷ [])) ≡ m2 = cc in
          subst (λ z. Ready m.opened z) is (tt, refl)
      | inr full ↦ let bad : Some m2 ≡ None = sym k ∙ rw (e, ne_eqb x 60 n60, full) refl in cc
    ]
text_start c Data m m2 x t ready (inr (w, e, body)) k =
    elim (cases_Bool (has_room c m)) [
      | inl room ↦ let here : Some m2 ≡ Some (at m (InText (x ∷ []))) = sym k ∙ rw (e, room) (body_run c m (λ q. TextReference [] q) (λ y. InText (y ∷ [])) (λ p b. refl) x w [] body) in
          let is : at m (InText (x ∷ [])) ≡ m2 = cc in
          subst (λ z. Ready m.opened z) is (tt, refl)
      | inr full ↦ let bad : Some m2 ≡ None = sym k ∙ rw (e, full) refl in cc
    ]
text_start c (InText u) m m2 x t ready (inl (e, n60, n38)) k =
    let here : Some m2 ≡ Some (at m (InText (u ++ x ∷ []))) = sym k ∙ rw (e, ne_eqb x 60 n60, ne_eqb x 38 n38) refl in
    let is : at m (InText (u ++ x ∷ [])) ≡ m2 = cc in
    subst (λ z. Ready m.opened z) is (tt, refl)
text_start c (InText u) m m2 x t ready (inr (w, e, body)) k =
    let here : Some m2 ≡ Some (at m (InText (u ++ x ∷ []))) = sym k ∙ rw e (body_run c m (λ q. TextReference u q) (λ y. InText (u ++ y ∷ [])) (λ p b. refl) x w [] body) in
    let is : at m (InText (u ++ x ∷ [])) ≡ m2 = cc in
    subst (λ z. Ready m.opened z) is (tt, refl)
text_start c l m m2 x t ready h k = elim ready [ ]

-- the machine behind a token
token_run : (c : ℕ) (m m2 : Machine) (vs ws : List (List ℕ)) (t : List ℕ) → IsToken vs ws t → Ready vs m → run c m t ≡ Some m2 → Ready ws m2
token_run c m m2 vs ws t (inl (x, one, e)) h k =
    let z = text_start c m.lex m m2 x t h.0 one k in
    (z.0, z.1 ∙ h.1 ∙ sym e)
token_run c m m2 vs ws t (inr (inl (u, a, eq, note, e))) h k =
    let here = ap (λ z. run c m z) (sym eq) ∙ k in
    let room = room_of c m m2 33 (45 ∷ 45 ∷ a) h.0 refl here in
    let f = flushed m in
    let walk : run c (at f TagOpen) (33 ∷ 45 ∷ 45 ∷ a) ≡ run c (after_leaf f (CommentEvent u)) [] = rw room (note_run c a u [] NoDash [] f note) in
    let same : Some m2 ≡ Some (after_leaf f (CommentEvent u)) = sym here ∙ less_is c m (33 ∷ 45 ∷ 45 ∷ a) h.0 room ∙ walk in
    let is : after_leaf f (CommentEvent u) ≡ m2 = cc in
    subst (λ z. Ready ws z) is (tt, flushed_opened m.lex m ∙ h.1 ∙ sym e)
token_run c m m2 vs ws t (inr (inr (inl (w, ts, st, e)))) h k =
    let f = entered (flushed m) in
    let same : Some m2 ≡ Some (started f w ts) = sym k ∙ start_is c m m2 w ts t [] h.0 k st in
    let is : started f w ts ≡ m2 = cc in
    let z = started_is f w ts in
    let os : f.opened ≡ vs = flushed_opened m.lex m ∙ h.1 in
    subst (λ y. Ready ws y) is (z.0, z.1 ∙ ap (λ y. if is_void w then y else w ∷ y) os ∙ sym e)
token_run c m m2 vs ws t (inr (inr (inr (w, et, e)))) h k =
    let g = flushed m in
    let os : g.opened ≡ w ∷ ws = flushed_opened m.lex m ∙ h.1 ∙ e in
    let same : Some m2 ≡ Some (after_end (record g { opened = ws })) = sym k ∙ end_tag c m g w t [] h.0 refl ws os et in
    let is : after_end (record g { opened = ws }) ≡ m2 = cc in
    subst (λ y. Ready ws y) is (tt, refl)

-- the machine behind tokens
pub tokens_run : (d c n : ℕ) (ws : List (List ℕ)) (p : List ℕ) (m : Machine) → Tokens n ws p → run c (start d) p ≡ Some m → IsReady m.lex × (m.opened ≡ ws)
tokens_run d c zero ws p m (ep, ew) k =
    let same : Some (start d) ≡ Some m = ap (λ z. run c (start d) z) (sym ep) ∙ k in
    let is : start d ≡ m = cc in
    subst (λ z. Ready ws z) is (tt, sym ew)
tokens_run d c (suc n) ws p m (vs, q, t, e, h, token) k =
    let x = then_some (run c (start d) q) (λ m1. run c m1 t) m (sym (run_append c q t (start d)) ∙ ap (λ z. run c (start d) z) (sym e) ∙ k) in
    token_run c x.0 m vs ws t token (tokens_run d c n vs q x.0 h x.1) x.2

-- the machine behind whole tokens, from which r is read
pub record Split (d c : ℕ) (ws : List (List ℕ)) (r : List ℕ) (m : Machine) : Type 0 where
  pub there : Machine
  pub ready : IsReady there.lex
  pub opened : there.opened ≡ ws
  pub reads : run c there r ≡ Some m

pub split_run : (d c n : ℕ) (ws : List (List ℕ)) (p r s : List ℕ) (m : Machine) → s ≡ p ++ r → Tokens n ws p → run c (start d) s ≡ Some m → Split d c ws r m
split_run d c n ws p r s m e h k =
    let x = then_some (run c (start d) p) (λ m1. run c m1 r) m (sym (run_append c p r (start d)) ∙ ap (λ z. run c (start d) z) (sym e) ∙ k) in
    let y = tokens_run d c n ws p x.0 h x.1 in
    record { there = x.0; ready = y.0; opened = y.1; reads = x.2 }

-- what is emitted only grows

grows_by : (o : List Event) (s : Option Machine) (m : Machine) → after_emitting o s ≡ Some m → length o ≤ length m.out
grows_by o None m e = cc
grows_by o (Some x) m e =
    let is : record x { out = o ++ x.out } ≡ m = cc in
    let k : length (o ++ x.out) ≡ length m.out = ap (λ z. length z.out) is in
    let l = length-append o x.out in
    omega arith

out_grows : (c : ℕ) (s : List ℕ) (m m2 : Machine) → run c m s ≡ Some m2 → length m.out ≤ length m2.out
out_grows c [] m m2 e = let is : m ≡ m2 = cc in let k : length m.out ≡ length m2.out = ap (λ z. length z.out) is in omega arith
out_grows c (b ∷ s) m m2 e =
    let x = then_some (step c m b) (λ m1. run c m1 s) m2 e in
    let one = grows_by m.out (step c (quiet m) b) x.0 (sym (step_tells c m b) ∙ x.1) in
    let more = out_grows c s x.0 m2 x.2 in
    omega arith

started_out : (m : Machine) (w : List ℕ) (ts : List Attribute) → length m.out < length (started m w ts).out
started_out m w ts =
    elim (cases_Bool (is_void w)) [
      | inl t ↦ rw t (let k = length-append m.out (OpenEvent w ts ∷ CloseEvent ∷ []) in omega arith)
      | inr f ↦ rw f (let k = length-append m.out (OpenEvent w ts ∷ []) in omega arith)
    ]

-- inside a start tag no start tag is whole that begins where it does
pub none_whole : (c : ℕ) (m m2 : Machine) (w : List ℕ) (ts : List Attribute) (t r : List ℕ) → IsReady m.lex → run c m t ≡ Some m2 → m2.out ≡ emitted m → StartTag w ts t r → ⊥
none_whole c m m2 w ts t r ready e told st =
    let f = entered (flushed m) in
    let k = start_is c m m2 w ts t r ready e st in
    let up = out_grows c r (started f w ts) m2 (sym k ∙ e) in
    let more = started_out f w ts in
    let same : length m2.out ≡ length (flushed m).out = ap (λ z. length z) told in
    omega arith
