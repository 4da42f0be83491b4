-- Where the machine stands, in the words of the tokens before it.
use Rattle.std.proofs.Common.{◌≡◌, ℕ, suc, true, false, ◌&&◌, ◌||◌, ◌⊎◌, inl, inr, List, [], ◌∷◌, ◌++◌, Option, Some, None, refl, sym, ap, ◌∙◌, subst, append_assoc}
use Rattle.std.specs.Prelude.{◌==◌, if◌then◌else◌}
use Rattle.std.proofs.lemmas.Bool.{cases_Bool, eqb-false}
use Rattle.page_grammar.specs.Chars.{is_space, lower, is_letter, is_name_char}
use Rattle.page_grammar.specs.Names.{is_void, is_refused}
use Rattle.page_grammar.specs.Page as page
use Rattle.page_grammar.specs.Page.{Attribute, Spaces, NameAgain, CommentText}
use Rattle.page_grammar.specs.Machine.{Event, TextEvent, CommentEvent, Amp, Lexical, Data, InText, TextReference, TagOpen, MarkupDeclaration, CommentStart, InComment, TagName, BeforeAttributeName, AttributeName, AfterAttributeName, BeforeAttributeValue, InAttributeValue, ValueReference, AfterAttributeValue, SelfClosing, EndTagName, AfterEndTagName, Machine, start, at, has_room, is_some_open, less, after_leaf, begin_tag, started, after_end, slash, tag_end, Dashes, NoDash, OneDash, TwoDashes, is_two, dash, dashes, step_at, step, run, IsReady, flushed_at, emitted}
use Rattle.page_grammar.specs.Tokens.{IsToken, Tokens, Lacks}
use Rattle.page_grammar.proofs.Facts.{app_nil, same_char, and_parts, On, on_if, on_get, then_some}
use Rattle.page_grammar.proofs.Sound.{on_map, remark_more}
use Rattle.page_grammar.proofs.LongestPrefix.{lex_name}
use Rattle.page_grammar.proofs.Reading.{one_more}
use Rattle.page_grammar.proofs.TagSteps.{spaces_more, spaces_then, name_then, RefBack, turn_on, TagIn, TagNext, name_ends, tag_step, lex_if}

-- a is read of a comment, and t is its text with n dashes after it
abbrev pub NoteBack : List ℕ → Dashes → List ℕ → Type 0
NoteBack t n a = (u s r : List ℕ) → CommentText u (dashes n ++ s) r → CommentText (t ++ u) (a ++ s) r

-- The characters r behind the whole tokens, os being open for the machine and ws behind the tokens.
abbrev pub Spot : Lexical → (os ws : List (List ℕ)) → List ℕ → Type 0
Spot Data os ws r = (ws ≡ os) × (r ≡ [])
Spot (InText t) os ws r = (ws ≡ os) × (r ≡ [])
Spot (TextReference t p) os ws r = (ws ≡ os) × ((e : List ℕ) × (r ≡ 38 ∷ e) × Lacks 59 e × RefBack p e)
Spot TagOpen os ws r = (ws ≡ os) × (r ≡ 60 ∷ [])
Spot MarkupDeclaration os ws r = (ws ≡ os) × (r ≡ 60 ∷ 33 ∷ [])
Spot CommentStart os ws r = (ws ≡ os) × (r ≡ 60 ∷ 33 ∷ 45 ∷ [])
Spot (InComment t n) os ws r = (ws ≡ os) × ((a : List ℕ) × (r ≡ 60 ∷ 33 ∷ 45 ∷ 45 ∷ a) × NoteBack t n a)
Spot (TagName w) os ws r = (ws ≡ os) × ((a : List ℕ) × (r ≡ 60 ∷ a) × page.ElementName w a [])
Spot (EndTagName left) os ws r =
    (w : List ℕ) × (v : List ℕ) × (a : List ℕ) × (ws ≡ w ∷ os) × (r ≡ 60 ∷ 47 ∷ a) × (w ≡ v ++ left) × NameAgain v a []
Spot AfterEndTagName os ws r =
    (w : List ℕ) × (a : List ℕ) × (b : List ℕ) × (n : ℕ) × (ws ≡ w ∷ os) × (r ≡ 60 ∷ 47 ∷ a) × NameAgain w a b × Spaces (suc n) b []
Spot l os ws r = (ws ≡ os) × TagIn l r

-- inside a tag nothing has been emitted since the tokens before it
abbrev pub Told : Lexical → (o before : List Event) → Type 0
Told Data o o0 = Unit {0}
Told (InText t) o o0 = Unit {0}
Told (TextReference t p) o o0 = Unit {0}
Told MarkupDeclaration o o0 = Unit {0}
Told CommentStart o o0 = Unit {0}
Told (InComment t n) o o0 = Unit {0}
Told (EndTagName left) o o0 = Unit {0}
Told AfterEndTagName o o0 = Unit {0}
Told l o o0 = o ≡ o0

-- the token goes on, or is whole
abbrev Next : List Event → List (List ℕ) → List ℕ → Machine → Type 0
Next o ws r m1 =
    (Told m1.lex m1.out o × Spot m1.lex m1.opened ws r)
    ⊎ (IsToken ws m1.opened r × IsReady m1.lex)

again_more : (w s r t : List ℕ) → NameAgain w s r → NameAgain w (s ++ t) (r ++ t)
again_more [] s r t h = ap (λ z. z ++ t) h
again_more (x ∷ xs) s r t (b, m, e, lo, h) = (b, m ++ t, ap (λ z. z ++ t) e, lo, again_more xs m r t h)

again_then : (w s : List ℕ) (b x : ℕ) → NameAgain w s [] → lower b ≡ x → NameAgain (w ++ x ∷ []) (s ++ b ∷ []) []
again_then [] s b x h k = (b, [], ap (λ z. z ++ b ∷ []) h, k, refl)
again_then (y ∷ ys) s b x (z, m, e, lo, h) k = (z, m ++ b ∷ [], ap (λ z. z ++ b ∷ []) e, lo, again_then ys m b x h k)

started_opened : (m : Machine) (w : List ℕ) (ts : List Attribute) → (started m w ts).opened ≡ (if is_void w then m.opened else w ∷ m.opened)
started_opened m w ts = elim (cases_Bool (is_void w)) [ inl t ↦ rw t refl | inr f ↦ rw f refl ]

started_ready : (m : Machine) (w : List ℕ) (ts : List Attribute) → IsReady (started m w ts).lex
started_ready m w ts = elim (cases_Bool (is_void w)) [ inl t ↦ rw t tt | inr f ↦ rw f tt ]

in_spot : (l : Lexical) (os ws : List (List ℕ)) (r : List ℕ) → TagIn l r → ws ≡ os → Spot l os ws r
in_spot (BeforeAttributeName w ts) os ws r h e = (e, h)
in_spot (AttributeName w ts k) os ws r h e = (e, h)
in_spot (AfterAttributeName w ts k) os ws r h e = (e, h)
in_spot (BeforeAttributeValue w ts k) os ws r h e = (e, h)
in_spot (InAttributeValue w ts k q v) os ws r h e = (e, h)
in_spot (ValueReference w ts k q v p) os ws r h e = (e, h)
in_spot (AfterAttributeValue w ts) os ws r h e = (e, h)
in_spot (SelfClosing w ts) os ws r h e = (e, h)
in_spot l os ws r h e = elim h [ ]

in_told : (l : Lexical) (r : List ℕ) (o o0 : List Event) → TagIn l r → o ≡ o0 → Told l o o0
in_told (BeforeAttributeName w ts) r o o0 h e = e
in_told (AttributeName w ts k) r o o0 h e = e
in_told (AfterAttributeName w ts k) r o o0 h e = e
in_told (BeforeAttributeValue w ts k) r o o0 h e = e
in_told (InAttributeValue w ts k q v) r o o0 h e = e
in_told (ValueReference w ts k q v p) r o o0 h e = e
in_told (AfterAttributeValue w ts) r o o0 h e = e
in_told (SelfClosing w ts) r o o0 h e = e
in_told l r o o0 h e = elim h [ ]

-- of a start tag
tag_next : (m : Machine) (w : List ℕ) (o : List Event) (ws : List (List ℕ)) (r : List ℕ) → ws ≡ m.opened → m.out ≡ o → (m1 : Machine) → TagNext m w r m1 → Next o ws r m1
tag_next m w o ws r e k m1 (inl (t, n, os, out)) = inl (in_told m1.lex r m1.out o t (out ∙ k), in_spot m1.lex m1.opened ws r t (e ∙ sym os))
tag_next m w o ws r e k m1 (inr (ts, st, is)) =
    let same : m1.opened ≡ (if is_void w then ws else w ∷ ws) = ap (λ z. z.opened) is ∙ started_opened m w ts ∙ ap (λ z. if is_void w then z else w ∷ z) (sym e) in
    inr (inr (inr (inl (w, ts, st, same))), subst (λ z. IsReady z.lex) (sym is) (started_ready m w ts))

-- of a comment
dash_next : (m : Machine) (t : List ℕ) (n : Dashes) (o : List Event) (ws : List (List ℕ)) (r a : List ℕ) (b : ℕ) → b ≡ 45 → ws ≡ m.opened → r ≡ 60 ∷ 33 ∷ 45 ∷ 45 ∷ a → NoteBack t n a → Next o ws (r ++ b ∷ []) (at m (dash t n))
dash_next m t NoDash o ws r a b k e er back =
    inl (tt, (e, (a ++ b ∷ [], ap (λ z. z ++ b ∷ []) er, λ u s z h. subst (λ y. CommentText (t ++ u) y z) (sym (append_assoc a (b ∷ []) s)) (back u (b ∷ s) z (subst (λ y. CommentText u (y ∷ s) z) (sym k) h)))))
dash_next m t OneDash o ws r a b k e er back =
    inl (tt, (e, (a ++ b ∷ [], ap (λ z. z ++ b ∷ []) er, λ u s z h. subst (λ y. CommentText (t ++ u) y z) (sym (append_assoc a (b ∷ []) s)) (back u (b ∷ s) z (subst (λ y. CommentText u (45 ∷ y ∷ s) z) (sym k) h)))))
dash_next m t TwoDashes o ws r a b k e er back =
    inl (
      tt,
      (
        e,
        (
          a ++ b ∷ [],
          ap (λ z. z ++ b ∷ []) er,
          λ u s z h.
              let long : CommentText (45 ∷ u) (45 ∷ 45 ∷ 45 ∷ s) z = (45 ∷ 45 ∷ s, refl, refl, h) in
              let one = back (45 ∷ u) (b ∷ s) z (subst (λ y. CommentText (45 ∷ u) (45 ∷ 45 ∷ y ∷ s) z) (sym k) long) in
              subst (λ y. CommentText ((t ++ 45 ∷ []) ++ u) y z) (sym (append_assoc a (b ∷ []) s)) (subst (λ y. CommentText y (a ++ b ∷ s) z) (sym (append_assoc t (45 ∷ []) u)) one),
        ),
      ),
    )

note_end : (m : Machine) (t : List ℕ) (n : Dashes) (o : List Event) (ws : List (List ℕ)) (r a : List ℕ) (b : ℕ) → b ≡ 62 → is_two n ≡ true → ws ≡ m.opened → r ≡ 60 ∷ 33 ∷ 45 ∷ 45 ∷ a → NoteBack t n a → Next o ws (r ++ b ∷ []) (after_leaf m (CommentEvent t))
note_end m t NoDash o ws r a b k two e er back = cc
note_end m t OneDash o ws r a b k two e er back = cc
note_end m t TwoDashes o ws r a b k two e er back =
    let one = back [] (b ∷ []) [] (ap (λ z. 45 ∷ 45 ∷ z ∷ []) k) in
    inr (inr (inl (t, a ++ b ∷ [], ap (λ z. z ++ b ∷ []) er, subst (λ z. CommentText z (a ++ b ∷ []) []) (app_nil t) one, sym e)), tt)

note_next : (m : Machine) (t : List ℕ) (n : Dashes) (o : List Event) (ws : List (List ℕ)) (r a : List ℕ) (b : ℕ) → (b == 45) ≡ false → (b == 62 && is_two n) ≡ false → ws ≡ m.opened → r ≡ 60 ∷ 33 ∷ 45 ∷ 45 ∷ a → NoteBack t n a → Next o ws (r ++ b ∷ []) (at m (InComment (t ++ (dashes n ++ b ∷ [])) NoDash))
note_next m t n o ws r a b f g e er back =
    inl (
      tt,
      (
        e,
        (
          a ++ b ∷ [],
          ap (λ z. z ++ b ∷ []) er,
          λ u s z h.
              let one = back (dashes n ++ b ∷ u) (b ∷ s) z (remark_more n b u s z f g h) in
              let j : (t ++ (dashes n ++ b ∷ [])) ++ u ≡ t ++ (dashes n ++ b ∷ u) = simp append_assoc in
              subst (λ y. CommentText ((t ++ (dashes n ++ b ∷ [])) ++ u) y z) (sym (append_assoc a (b ∷ []) s)) (subst (λ y. CommentText y (a ++ b ∷ s) z) (sym j) one),
        ),
      ),
    )

-- `</`
slash_next : (m : Machine) (os : List (List ℕ)) (o : List Event) (ws : List (List ℕ)) (r : List ℕ) (b : ℕ) → ws ≡ os → r ≡ 60 ∷ [] → b ≡ 47 → On (λ m1. Next o ws (r ++ b ∷ []) m1) (slash m os)
slash_next m [] o ws r b e er k = tt
slash_next m (w ∷ os) o ws r b e er k = inl (tt, (w, [], [], e, ap (λ z. z ++ b ∷ []) er ∙ ap (λ z. 60 ∷ z ∷ []) k, refl, refl))

less_next : (c : ℕ) (m : Machine) (o : List Event) (ws : List (List ℕ)) (r : List ℕ) (b : ℕ) → ws ≡ m.opened → r ≡ [] → b ≡ 60 → m.out ≡ o → On (λ m1. Next o ws (r ++ b ∷ []) m1) (less c m)
less_next c m o ws r b e er k told =
    on_if (λ m1. Next o ws (r ++ b ∷ []) m1) (has_room c m || is_some_open m.opened) (Some (at m TagOpen)) None
    (λ h. inl (told, (e, ap (λ z. z ++ b ∷ []) er ∙ ap (λ z. z ∷ []) k)))
    (λ h. tt)

-- of text
text_next : (m : Machine) (t : List ℕ) (o : List Event) (ws : List (List ℕ)) (r : List ℕ) (b : ℕ) → ws ≡ m.opened → r ≡ [] → (b == 60) ≡ false → Next o ws (r ++ b ∷ []) (at m (if b == 38 then TextReference t Amp else InText (t ++ b ∷ [])))
text_next m t o ws r b e er f =
    let one : r ++ b ∷ [] ≡ b ∷ [] = ap (λ z. z ++ b ∷ []) er in
    lex_if (λ m1. Next o ws (r ++ b ∷ []) m1) m (b == 38) (TextReference t Amp) (InText (t ++ b ∷ []))
    (λ h. inl (tt, (e, ([], one ∙ ap (λ z. z ∷ []) (same_char b 38 h), tt, λ x s z k. k))))
    (λ h. inr (inl (b, inl (one, eqb-false b 60 f, eqb-false b 38 h), sym e), tt))

in_step : (c : ℕ) (l : Lexical) (m : Machine) (b : ℕ) (o : List Event) (ws : List (List ℕ)) (r : List ℕ) → ws ≡ m.opened → TagIn l r → m.out ≡ o → On (λ m1. Next o ws (r ++ b ∷ []) m1) (step_at c m l b)
in_step c l m b o ws r e h told =
    on_map (λ m1. TagNext m (lex_name l) (r ++ b ∷ []) m1) (λ m1. Next o ws (r ++ b ∷ []) m1) (step_at c m l b) (tag_next m (lex_name l) o ws (r ++ b ∷ []) e told) (tag_step c m l r b h)

spot_step : (c : ℕ) (l : Lexical) (m : Machine) (b : ℕ) (o : List Event) (ws : List (List ℕ)) (r : List ℕ) → Spot l m.opened ws r → Told l m.out o → (IsReady l → (flushed_at l m).out ≡ o) → On (λ m1. Next o ws (r ++ b ∷ []) m1) (step_at c m l b)
spot_step c Data m b o ws r (e, er) told f =
    let P : Machine → Type 0 = λ m1. Next o ws (r ++ b ∷ []) m1 in
    let y : Option Machine = Some (at m (if b == 38 then TextReference [] Amp else InText (b ∷ []))) in
    on_if P (b == 60) (less c m) (if has_room c m then y else None)
    (λ h. less_next c m o ws r b e er (same_char b 60 h) (f tt))
    (λ h. on_if P (has_room c m) y None (λ k. text_next m [] o ws r b e er h) (λ k. tt))
spot_step c (InText t) m b o ws r (e, er) told f =
    let P : Machine → Type 0 = λ m1. Next o ws (r ++ b ∷ []) m1 in
    on_if P (b == 60) (less c (after_leaf m (TextEvent t))) (Some (at m (if b == 38 then TextReference t Amp else InText (t ++ b ∷ []))))
    (λ h. less_next c (after_leaf m (TextEvent t)) o ws r b e er (same_char b 60 h) (f tt))
    (λ h. text_next m t o ws r b e er h)
spot_step c (TextReference t p) m b o ws r (e, (x, er, lk, back)) told f =
    let more : r ++ b ∷ [] ≡ 38 ∷ (x ++ b ∷ []) = ap (λ z. z ++ b ∷ []) er in
    turn_on (λ m1. Next o ws (r ++ b ∷ []) m1) m (λ q. TextReference t q) (λ y. InText (t ++ y ∷ [])) p x b back lk
    (λ q l k. inl (tt, (e, (x ++ b ∷ [], more, l, k))))
    (λ y w eq body. inr (inl (y, inr (w, more ∙ ap (λ z. 38 ∷ z) eq, body), sym e), tt))
spot_step c TagOpen m b o ws r (e, er) told f =
    let P : Machine → Type 0 = λ m1. Next o ws (r ++ b ∷ []) m1 in
    let more : r ++ b ∷ [] ≡ 60 ∷ b ∷ [] = ap (λ z. z ++ b ∷ []) er in
    let x : Option Machine = if is_letter b then Some (begin_tag m b) else None in
    let y : Option Machine = if b == 33 then Some (at m MarkupDeclaration) else x in
    on_if P (b == 47) (slash m m.opened) (if has_room c m then y else None)
    (λ h. slash_next m m.opened o ws r b e er (same_char b 47 h))
    (λ h. on_if P (has_room c m) y None
    (λ k. on_if P (b == 33) (Some (at m MarkupDeclaration)) x
    (λ j. inl (tt, (e, more ∙ ap (λ z. 60 ∷ z ∷ []) (same_char b 33 j))))
    (λ j. on_if P (is_letter b) (Some (begin_tag m b)) None
    (λ i. inl (told, (e, (b ∷ [], more, (b, [], refl, refl, i, refl)))))
    (λ i. tt)))
    (λ k. tt))
spot_step c MarkupDeclaration m b o ws r (e, er) told f =
    on_if (λ m1. Next o ws (r ++ b ∷ []) m1) (b == 45) (Some (at m CommentStart)) None
    (λ h. inl (tt, (e, ap (λ z. z ++ b ∷ []) er ∙ ap (λ z. 60 ∷ 33 ∷ z ∷ []) (same_char b 45 h))))
    (λ h. tt)
spot_step c CommentStart m b o ws r (e, er) told f =
    on_if (λ m1. Next o ws (r ++ b ∷ []) m1) (b == 45) (Some (at m (InComment [] NoDash))) None
    (λ h. inl (tt, (e, ([], ap (λ z. z ++ b ∷ []) er ∙ ap (λ z. 60 ∷ 33 ∷ 45 ∷ z ∷ []) (same_char b 45 h), λ u s z k. k))))
    (λ h. tt)
spot_step c (InComment t n) m b o ws r (e, (a, er, back)) told f =
    let P : Machine → Type 0 = λ m1. Next o ws (r ++ b ∷ []) m1 in
    let x = Some (after_leaf m (CommentEvent t)) in
    let y = Some (at m (InComment (t ++ (dashes n ++ b ∷ [])) NoDash)) in
    on_if P (b == 45) (Some (at m (dash t n))) (if b == 62 && is_two n then x else y)
    (λ h. dash_next m t n o ws r a b (same_char b 45 h) e er back)
    (λ h. on_if P (b == 62 && is_two n) x y
    (λ k. let p = and_parts (b == 62) (is_two n) k in note_end m t n o ws r a b (same_char b 62 p.0) p.1 e er back)
    (λ k. note_next m t n o ws r a b h k e er back))
spot_step c (TagName w) m b o ws r (e, (a, er, nm)) told f =
    let P : Machine → Type 0 = λ m1. Next o ws (r ++ b ∷ []) m1 in
    let more : r ++ b ∷ [] ≡ 60 ∷ (a ++ b ∷ []) = ap (λ z. z ++ b ∷ []) er in
    let gap = Some (at m (BeforeAttributeName w [])) in
    let y : Option Machine = if is_space b then gap else tag_end m w [] b in
    let x : Option Machine = if is_refused w then None else y in
    on_if P (is_name_char b) (Some (at m (TagName (w ++ lower b ∷ [])))) x
    (λ h. inl (told, (e, (a ++ b ∷ [], more, name_then w a b nm h))))
    (λ h. on_map (λ m1. TagNext m w (r ++ b ∷ []) m1) P x (tag_next m w o ws (r ++ b ∷ []) e told) (name_ends m w a r b er nm))
spot_step c (EndTagName []) m b o ws r (w, v, a, e, er, ew, na) told f =
    let P : Machine → Type 0 = λ m1. Next o ws (r ++ b ∷ []) m1 in
    let whole : NameAgain w a [] = subst (λ z. NameAgain z a []) (sym (ew ∙ app_nil v)) na in
    let more : r ++ b ∷ [] ≡ 60 ∷ 47 ∷ (a ++ b ∷ []) = ap (λ z. z ++ b ∷ []) er in
    let named = again_more w a [] (b ∷ []) whole in
    on_if P (is_space b) (Some (at m AfterEndTagName)) (if b == 62 then Some (after_end m) else None)
    (λ h. inl (tt, (w, a ++ b ∷ [], b ∷ [], 0, e, more, named, (b, [], refl, h, refl))))
    (λ h. on_if P (b == 62) (Some (after_end m)) None
    (λ k. inr (inr (inr (inr (w, (a ++ b ∷ [], b ∷ [], 0, more, named, ap (λ z. z ∷ []) (same_char b 62 k)), e))), tt))
    (λ k. tt))
spot_step c (EndTagName (x ∷ xs)) m b o ws r (w, v, a, e, er, ew, na) told f =
    on_if (λ m1. Next o ws (r ++ b ∷ []) m1) (lower b == x) (Some (at m (EndTagName xs))) None
    (λ h. inl (tt, (w, v ++ x ∷ [], a ++ b ∷ [], e, ap (λ z. z ++ b ∷ []) er, ew ∙ sym (append_assoc v (x ∷ []) xs), again_then v a b x na (same_char (lower b) x h))))
    (λ h. tt)
spot_step c AfterEndTagName m b o ws r (w, a, d, n, e, er, na, sp) told f =
    let P : Machine → Type 0 = λ m1. Next o ws (r ++ b ∷ []) m1 in
    let more : r ++ b ∷ [] ≡ 60 ∷ 47 ∷ (a ++ b ∷ []) = ap (λ z. z ++ b ∷ []) er in
    let named = again_more w a d (b ∷ []) na in
    on_if P (is_space b) (Some (at m AfterEndTagName)) (if b == 62 then Some (after_end m) else None)
    (λ h. inl (tt, (w, a ++ b ∷ [], d ++ b ∷ [], suc n, e, more, named, spaces_then (suc n) d b sp h)))
    (λ h. on_if P (b == 62) (Some (after_end m)) None
    (λ k. inr (inr (inr (inr (w, (a ++ b ∷ [], d ++ b ∷ [], suc n, more, named, subst (λ z. Spaces (suc n) (d ++ b ∷ []) (z ∷ [])) (same_char b 62 k) (spaces_more (suc n) d [] (b ∷ []) sp)), e))), tt))
    (λ k. tt))
spot_step c (BeforeAttributeName w ts) m b o ws r (e, h) told f = in_step c (BeforeAttributeName w ts) m b o ws r e h told
spot_step c (AttributeName w ts k) m b o ws r (e, h) told f = in_step c (AttributeName w ts k) m b o ws r e h told
spot_step c (AfterAttributeName w ts k) m b o ws r (e, h) told f = in_step c (AfterAttributeName w ts k) m b o ws r e h told
spot_step c (BeforeAttributeValue w ts k) m b o ws r (e, h) told f = in_step c (BeforeAttributeValue w ts k) m b o ws r e h told
spot_step c (InAttributeValue w ts k q v) m b o ws r (e, h) told f = in_step c (InAttributeValue w ts k q v) m b o ws r e h told
spot_step c (ValueReference w ts k q v p) m b o ws r (e, h) told f = in_step c (ValueReference w ts k q v p) m b o ws r e h told
spot_step c (AfterAttributeValue w ts) m b o ws r (e, h) told f = in_step c (AfterAttributeValue w ts) m b o ws r e h told
spot_step c (SelfClosing w ts) m b o ws r (e, h) told f = in_step c (SelfClosing w ts) m b o ws r e h told

-- the machine has read s: whole tokens, and r of the next one
pub record Spotted (d c : ℕ) (s : List ℕ) (m : Machine) : Type 0 where
  pub count : ℕ
  pub open_there : List (List ℕ)
  pub whole : List ℕ
  pub rest : List ℕ
  pub split : s ≡ whole ++ rest
  pub tokens : Tokens count open_there whole
  pub before : Machine
  pub ran : run c (start d) whole ≡ Some before
  pub told : Told m.lex m.out (emitted before)
  pub spot : Spot m.lex m.opened open_there rest

spotted_start : (d c : ℕ) → Spotted d c [] (start d)
spotted_start d c =
    record {
      count = 0;
      open_there = [];
      whole = [];
      rest = [];
      split = refl;
      tokens = (refl, refl);
      before = start d;
      ran = refl;
      told = tt;
      spot = (refl, refl);
    }

ready_spot : (l : Lexical) (os : List (List ℕ)) → IsReady l → Spot l os os []
ready_spot Data os h = (refl, refl)
ready_spot (InText t) os h = (refl, refl)
ready_spot l os h = elim h [ ]

ready_told : (l : Lexical) (o o0 : List Event) → IsReady l → Told l o o0
ready_told Data o o0 h = tt
ready_told (InText t) o o0 h = tt
ready_told l o o0 h = elim h [ ]

ready_empty : (l : Lexical) (os ws : List (List ℕ)) (r : List ℕ) → IsReady l → Spot l os ws r → r ≡ []
ready_empty Data os ws r h k = k.1
ready_empty (InText t) os ws r h k = k.1
ready_empty l os ws r h k = elim h [ ]

next_spotted : (d c : ℕ) (s : List ℕ) (m : Machine) (h : Spotted d c s m) (b : ℕ) (m1 : Machine) → run c (start d) (s ++ b ∷ []) ≡ Some m1 → Next (emitted h.before) h.open_there (h.rest ++ b ∷ []) m1 → Spotted d c (s ++ b ∷ []) m1
next_spotted d c s m h b m1 e (inl (told, spot)) =
    record {
      count = h.count;
      open_there = h.open_there;
      whole = h.whole;
      rest = h.rest ++ b ∷ [];
      split = ap (λ z. z ++ b ∷ []) h.split ∙ append_assoc h.whole h.rest (b ∷ []);
      tokens = h.tokens;
      before = h.before;
      ran = h.ran;
      told = told;
      spot = spot;
    }
next_spotted d c s m h b m1 e (inr (token, ready)) =
    let all : s ++ b ∷ [] ≡ h.whole ++ (h.rest ++ b ∷ []) = ap (λ z. z ++ b ∷ []) h.split ∙ append_assoc h.whole h.rest (b ∷ []) in
    record {
      count = suc h.count;
      open_there = m1.opened;
      whole = s ++ b ∷ [];
      rest = [];
      split = sym (app_nil (s ++ b ∷ []));
      tokens = (h.open_there, h.whole, h.rest ++ b ∷ [], all, h.tokens, token);
      before = m1;
      ran = e;
      told = ready_told m1.lex m1.out (emitted m1) ready;
      spot = ready_spot m1.lex m1.opened ready;
    }

spotted_more : (d c : ℕ) (s : List ℕ) (m : Machine) (b : ℕ) (m1 : Machine) → run c (start d) s ≡ Some m → Spotted d c s m → step c m b ≡ Some m1 → Spotted d c (s ++ b ∷ []) m1
spotted_more d c s m b m1 e h k =
    let f : IsReady m.lex → (flushed_at m.lex m).out ≡ emitted h.before = λ ready.
    let all : s ≡ h.whole = h.split ∙ ap (λ z. h.whole ++ z) (ready_empty m.lex m.opened h.open_there h.rest ready h.spot) ∙ app_nil h.whole in
    let same : Some m ≡ Some h.before = sym e ∙ ap (λ z. run c (start d) z) all ∙ h.ran in
    let is : m ≡ h.before = cc in
    ap (λ z. emitted z) is in
    let x = spot_step c m.lex m b (emitted h.before) h.open_there h.rest h.spot h.told f in
    next_spotted d c s m h b m1 (one_more c d s b m e ∙ k) (on_get (λ z. Next (emitted h.before) h.open_there (h.rest ++ b ∷ []) z) (step c m b) m1 x k)

spotted_run : (d c : ℕ) (q s : List ℕ) (m m2 : Machine) → run c (start d) s ≡ Some m → Spotted d c s m → run c m q ≡ Some m2 → Spotted d c (s ++ q) m2
spotted_run d c [] s m m2 e h k = let same : m ≡ m2 = cc in subst (λ z. Spotted d c z m2) (sym (app_nil s)) (subst (λ z. Spotted d c s z) same h)
spotted_run d c (b ∷ q) s m m2 e h k =
    let x = then_some (step c m b) (λ m1. run c m1 q) m2 k in
    let one = spotted_more d c s m b x.0 e h x.1 in
    subst (λ z. Spotted d c z m2) (append_assoc s (b ∷ []) q) (spotted_run d c q (s ++ b ∷ []) x.0 m2 (one_more c d s b m e ∙ x.1) one x.2)

pub spotted : (d c : ℕ) (s : List ℕ) (m : Machine) → run c (start d) s ≡ Some m → Spotted d c s m
spotted d c s m e = spotted_run d c s [] (start d) m refl (spotted_start d c) e
