-- The machine at other limits: with more room and a higher cap it does the same, and what the limits refuse goes on.
use Rattle.std.proofs.Common.{◌≡◌, ℕ, zero, suc, pred, ◌+◌, ◌<◌, ◌≤◌, Bool, true, false, ◌&&◌, ◌||◌, ◌⊎◌, inl, inr, List, [], ◌∷◌, ◌++◌, Option, Some, None, refl, sym, ap, ◌∙◌, arith}
use Rattle.std.specs.Prelude.{nat_lt, not, ◌==◌, if◌then◌else◌}
use Rattle.std.proofs.Math.Bool.{or-true}
use Rattle.std.proofs.lemmas.Bool.{cases_Bool}
use Rattle.std.proofs.lemmas.Bool.Decides.{nat_tests}
use Rattle.page_grammar.specs.Chars.{is_space, lower, is_letter, is_name_char, is_attribute_name_char, is_quote}
use Rattle.page_grammar.specs.Names.{is_void, is_refused}
use Rattle.page_grammar.specs.Page.{Attribute, has_attribute}
use Rattle.page_grammar.specs.Machine.{TextEvent, CommentEvent, Reference, Amp, Turn, Stop, More, Done, ref_step, Lexical, Data, InText, TextReference, TagOpen, MarkupDeclaration, CommentStart, InComment, TagName, BeforeAttributeName, AttributeName, AfterAttributeName, BeforeAttributeValue, InAttributeValue, ValueReference, AfterAttributeValue, SelfClosing, EndTagName, AfterEndTagName, Machine, at, has_room, is_some_open, less, after_leaf, after_start, begin_tag, after_void, started, after_end, slash, with_attribute, tag_end, ref_turn, NoDash, is_two, dash, dashes, step_at}
use Rattle.page_grammar.specs.Kind.{begins_node}
use Rattle.page_grammar.specs.Reader.{takes_wide_at}
use Rattle.page_grammar.proofs.Facts.{and_parts, letter_not_slash}

-- with j levels more
abbrev pub shift : ℕ → Machine → Machine
shift j m = record m { room = m.room + j }

abbrev pub lift : ℕ → Option Machine → Option Machine
lift j None = None
lift j (Some m) = Some (shift j m)

lift_if : (j : ℕ) (t : Bool) (x y x2 y2 : Option Machine) → (t ≡ true → x2 ≡ lift j x) → (t ≡ false → y2 ≡ lift j y) → (if t then x2 else y2) ≡ lift j (if t then x else y)
lift_if j true x y x2 y2 f g = f refl
lift_if j false x y x2 y2 f g = g refl

if_same : {A : Type 0} (t : Bool) (a : A) → (if t then a else a) ≡ a
if_same true a = refl
if_same false a = refl

more_up : (a j : ℕ) → suc (a + j) ≡ suc a + j
more_up a j = omega arith

started_lift : (j : ℕ) (m : Machine) (w : List ℕ) (ts : List Attribute) → started (shift j m) w ts ≡ shift j (started m w ts)
started_lift j m w ts = go (is_void w)
  where
    go : (t : Bool) → (if t then after_void (shift j m) w ts else after_start (shift j m) w ts) ≡ shift j (if t then after_void m w ts else after_start m w ts)
    go true = ap (λ z. record (after_void m w ts) { room = z }) (more_up m.room j)
    go false = refl

end_lift : (j : ℕ) (m : Machine) → after_end (shift j m) ≡ shift j (after_end m)
end_lift j m = ap (λ z. record (after_end m) { room = z }) (more_up m.room j)

tag_end_lift : (j : ℕ) (m : Machine) (w : List ℕ) (ts : List Attribute) (b : ℕ) → tag_end (shift j m) w ts b ≡ lift j (tag_end m w ts b)
tag_end_lift j m w ts b =
    lift_if j (b == 62) (Some (started m w ts)) (if b == 47 && is_void w then Some (at m (SelfClosing w ts)) else None) (Some (started (shift j m) w ts)) (if b == 47 && is_void w then Some (at (shift j m) (SelfClosing w ts)) else None)
    (λ e. ap (λ z. Some z) (started_lift j m w ts))
    (λ e. lift_if j (b == 47 && is_void w) (Some (at m (SelfClosing w ts))) None (Some (at (shift j m) (SelfClosing w ts))) None (λ f. refl) (λ f. refl))

ref_lift : (j : ℕ) (m : Machine) (more : Reference → Lexical) (end : ℕ → Lexical) (o : Turn) → ref_turn (shift j m) more end o ≡ lift j (ref_turn m more end o)
ref_lift j m more end Stop = refl
ref_lift j m more end (More q) = refl
ref_lift j m more end (Done x) = refl

slash_lift : (j : ℕ) (m : Machine) (ws : List (List ℕ)) → slash (shift j m) ws ≡ lift j (slash m ws)
slash_lift j m [] = refl
slash_lift j m (w ∷ ws) = refl

pub neither : (a b : Bool) → (a || b) ≡ false → (a ≡ false) × (b ≡ false)
neither true b h = cc
neither false b h = (refl, h)

pub not_not : (a : Bool) → not a ≡ false → a ≡ true
not_not true h = refl
not_not false h = cc

pub not_is : (a : Bool) → not a ≡ true → a ≡ false
not_is true h = cc
not_is false h = refl

-- a `<` where an element is open
less_open : (c j : ℕ) (m : Machine) → is_some_open m.opened ≡ true → less c (shift j m) ≡ Some (at (shift j m) TagOpen)
less_open c j m h = rw (h, or-true (has_room c (shift j m))) refl

-- the limits have no say
pub same_at : (c C j : ℕ) (l : Lexical) (m : Machine) (b : ℕ) → begins_node l m b ≡ false → step_at C (shift j m) l b ≡ lift j (step_at c m l b)
same_at c C j Data m b h =
    let p = neither (not (b == 60)) (not (is_some_open m.opened)) h in
    let e = not_not (b == 60) p.0 in
    let o = not_not (is_some_open m.opened) p.1 in
    rw (e, o, or-true (has_room C (shift j m)), or-true (has_room c m)) refl
same_at c C j (InText t) m b h =
    let m1 = after_leaf m (TextEvent t) in
    let l : Lexical = if b == 38 then TextReference t Amp else InText (t ++ b ∷ []) in
    lift_if j (b == 60) (less c m1) (Some (at m l)) (less C (shift j m1)) (Some (at (shift j m) l))
    (λ e. let o : is_some_open m.opened ≡ true = open_is (b == 60) (is_some_open m.opened) e h in rw (o, or-true (has_room C (shift j m1)), or-true (has_room c m1)) refl)
    (λ e. refl)
  where
    open_is : (a o : Bool) → a ≡ true → (a && not o) ≡ false → o ≡ true
    open_is true true e k = refl
    open_is true false e k = cc
    open_is false o e k = cc
same_at c C j (TextReference t r) m b h = ref_lift j m (λ q. TextReference t q) (λ x. InText (t ++ x ∷ [])) (ref_step r b)
same_at c C j TagOpen m b h =
    let p = neither (b == 33) (is_letter b) h in
    let x : Option Machine = if b == 33 then Some (at m MarkupDeclaration) else (if is_letter b then Some (begin_tag m b) else None) in
    let x2 : Option Machine = if b == 33 then Some (at (shift j m) MarkupDeclaration) else (if is_letter b then Some (begin_tag (shift j m) b) else None) in
    lift_if j (b == 47) (slash m m.opened) (if has_room c m then x else None) (slash (shift j m) m.opened) (if has_room C (shift j m) then x2 else None)
    (λ e. slash_lift j m m.opened)
    (λ e. rw (p.0, p.1) (if_same (has_room C (shift j m)) None ∙ sym (ap (λ z. lift j z) (if_same (has_room c m) None))))
same_at c C j MarkupDeclaration m b h = lift_if j (b == 45) (Some (at m CommentStart)) None (Some (at (shift j m) CommentStart)) None (λ e. refl) (λ e. refl)
same_at c C j CommentStart m b h = lift_if j (b == 45) (Some (at m (InComment [] NoDash))) None (Some (at (shift j m) (InComment [] NoDash))) None (λ e. refl) (λ e. refl)
same_at c C j (InComment t n) m b h =
    let y = Some (at m (InComment (t ++ (dashes n ++ b ∷ [])) NoDash)) in
    let y2 = Some (at (shift j m) (InComment (t ++ (dashes n ++ b ∷ [])) NoDash)) in
    lift_if j (b == 45) (Some (at m (dash t n))) (if b == 62 && is_two n then Some (after_leaf m (CommentEvent t)) else y) (Some (at (shift j m) (dash t n))) (if b == 62 && is_two n then Some (after_leaf (shift j m) (CommentEvent t)) else y2)
    (λ e. refl)
    (λ e. lift_if j (b == 62 && is_two n) (Some (after_leaf m (CommentEvent t))) y (Some (after_leaf (shift j m) (CommentEvent t))) y2 (λ f. refl) (λ f. refl))
same_at c C j (TagName w) m b h =
    let n = shift j m in
    let y : Option Machine = if is_space b then Some (at m (BeforeAttributeName w [])) else tag_end m w [] b in
    let y2 : Option Machine = if is_space b then Some (at n (BeforeAttributeName w [])) else tag_end n w [] b in
    lift_if j (is_name_char b) (Some (at m (TagName (w ++ lower b ∷ [])))) (if is_refused w then None else y) (Some (at n (TagName (w ++ lower b ∷ [])))) (if is_refused w then None else y2)
    (λ e. refl)
    (λ e. lift_if j (is_refused w) None y None y2 (λ f. refl)
    (λ f. lift_if j (is_space b) (Some (at m (BeforeAttributeName w []))) (tag_end m w [] b) (Some (at n (BeforeAttributeName w []))) (tag_end n w [] b) (λ g. refl) (λ g. tag_end_lift j m w [] b)))
same_at c C j (BeforeAttributeName w ts) m b h =
    let n = shift j m in
    let l = AttributeName w ts (lower b ∷ []) in
    lift_if j (is_space b) (Some (at m (BeforeAttributeName w ts))) (if is_attribute_name_char b then Some (at m l) else tag_end m w ts b) (Some (at n (BeforeAttributeName w ts))) (if is_attribute_name_char b then Some (at n l) else tag_end n w ts b)
    (λ e. refl)
    (λ e. lift_if j (is_attribute_name_char b) (Some (at m l)) (tag_end m w ts b) (Some (at n l)) (tag_end n w ts b) (λ f. refl) (λ f. tag_end_lift j m w ts b))
same_at c C j (AttributeName w ts k) m b h =
    let n = shift j m in
    let us = with_attribute ts k [] in
    let eq = BeforeAttributeValue w ts k in
    let gap = AfterAttributeName w ts k in
    let z : Option Machine = if b == 61 then Some (at m eq) else tag_end m w us b in
    let z2 : Option Machine = if b == 61 then Some (at n eq) else tag_end n w us b in
    let y : Option Machine = if is_space b then Some (at m gap) else z in
    let y2 : Option Machine = if is_space b then Some (at n gap) else z2 in
    lift_if j (is_attribute_name_char b) (Some (at m (AttributeName w ts (k ++ lower b ∷ [])))) (if has_attribute ts k then None else y) (Some (at n (AttributeName w ts (k ++ lower b ∷ [])))) (if has_attribute ts k then None else y2)
    (λ e. refl)
    (λ e. lift_if j (has_attribute ts k) None y None y2 (λ f. refl)
    (λ f. lift_if j (is_space b) (Some (at m gap)) z (Some (at n gap)) z2 (λ g. refl)
    (λ g. lift_if j (b == 61) (Some (at m eq)) (tag_end m w us b) (Some (at n eq)) (tag_end n w us b) (λ u. refl) (λ u. tag_end_lift j m w us b))))
same_at c C j (AfterAttributeName w ts k) m b h =
    let n = shift j m in
    let us = with_attribute ts k [] in
    let eq = BeforeAttributeValue w ts k in
    let new = AttributeName w us (lower b ∷ []) in
    let z : Option Machine = if is_attribute_name_char b then Some (at m new) else tag_end m w us b in
    let z2 : Option Machine = if is_attribute_name_char b then Some (at n new) else tag_end n w us b in
    lift_if j (is_space b) (Some (at m (AfterAttributeName w ts k))) (if b == 61 then Some (at m eq) else z) (Some (at n (AfterAttributeName w ts k))) (if b == 61 then Some (at n eq) else z2)
    (λ e. refl)
    (λ e. lift_if j (b == 61) (Some (at m eq)) z (Some (at n eq)) z2 (λ f. refl)
    (λ f. lift_if j (is_attribute_name_char b) (Some (at m new)) (tag_end m w us b) (Some (at n new)) (tag_end n w us b) (λ g. refl) (λ g. tag_end_lift j m w us b)))
same_at c C j (BeforeAttributeValue w ts k) m b h =
    let n = shift j m in
    let l = BeforeAttributeValue w ts k in
    let v = InAttributeValue w ts k b [] in
    lift_if j (is_space b) (Some (at m l)) (if is_quote b then Some (at m v) else None) (Some (at n l)) (if is_quote b then Some (at n v) else None)
    (λ e. refl)
    (λ e. lift_if j (is_quote b) (Some (at m v)) None (Some (at n v)) None (λ f. refl) (λ f. refl))
same_at c C j (InAttributeValue w ts k q v) m b h =
    let n = shift j m in
    let l : Lexical = if b == 38 then ValueReference w ts k q v Amp else InAttributeValue w ts k q (v ++ b ∷ []) in
    let l2 = AfterAttributeValue w (with_attribute ts k v) in
    lift_if j (b == q) (Some (at m l2)) (Some (at m l)) (Some (at n l2)) (Some (at n l)) (λ e. refl) (λ e. refl)
same_at c C j (ValueReference w ts k q v r) m b h = ref_lift j m (λ p. ValueReference w ts k q v p) (λ x. InAttributeValue w ts k q (v ++ x ∷ [])) (ref_step r b)
same_at c C j (AfterAttributeValue w ts) m b h =
    let n = shift j m in
    let l = BeforeAttributeName w ts in
    lift_if j (is_space b) (Some (at m l)) (tag_end m w ts b) (Some (at n l)) (tag_end n w ts b) (λ e. refl) (λ e. tag_end_lift j m w ts b)
same_at c C j (SelfClosing w ts) m b h = lift_if j (b == 62) (Some (started m w ts)) None (Some (started (shift j m) w ts)) None (λ e. ap (λ z. Some z) (started_lift j m w ts)) (λ e. refl)
same_at c C j (EndTagName []) m b h =
    let n = shift j m in
    lift_if j (is_space b) (Some (at m AfterEndTagName)) (if b == 62 then Some (after_end m) else None) (Some (at n AfterEndTagName)) (if b == 62 then Some (after_end n) else None)
    (λ e. refl)
    (λ e. lift_if j (b == 62) (Some (after_end m)) None (Some (after_end n)) None (λ f. ap (λ z. Some z) (end_lift j m)) (λ f. refl))
same_at c C j (EndTagName (x ∷ xs)) m b h = lift_if j (lower b == x) (Some (at m (EndTagName xs))) None (Some (at (shift j m) (EndTagName xs))) None (λ e. refl) (λ e. refl)
same_at c C j AfterEndTagName m b h =
    let n = shift j m in
    lift_if j (is_space b) (Some (at m AfterEndTagName)) (if b == 62 then Some (after_end m) else None) (Some (at n AfterEndTagName)) (if b == 62 then Some (after_end n) else None)
    (λ e. refl)
    (λ e. lift_if j (b == 62) (Some (after_end m)) None (Some (after_end n)) None (λ f. ap (λ z. Some z) (end_lift j m)) (λ f. refl))

-- where a node is made certain

-- may the node be made that a character makes certain here
abbrev pub room_for : ℕ → Lexical → Machine → Bool
room_for c (InText t) m = nat_lt (suc m.next) c && nat_lt 0 m.room
room_for c l m = has_room c m

abbrev pub node_machine : Lexical → Machine → ℕ → Machine
node_machine Data m b = if b == 60 then at m TagOpen else at m (if b == 38 then TextReference [] Amp else InText (b ∷ []))
node_machine (InText t) m b = at (after_leaf m (TextEvent t)) TagOpen
node_machine TagOpen m b = if b == 33 then at m MarkupDeclaration else begin_tag m b
node_machine l m b = m

bang_not_slash : (b : ℕ) → (b == 33) ≡ true → (b == 47) ≡ false
bang_not_slash b h = grind (arith, nat_tests)

opens_node : (b : ℕ) → (b == 33 || is_letter b) ≡ true → (b == 47) ≡ false
opens_node b h = go (cases_Bool (b == 33))
  where
    rest : (a d : Bool) → a ≡ false → (a || d) ≡ true → d ≡ true
    rest true d e k = cc
    rest false d e k = k

    go : ((b == 33) ≡ true) ⊎ ((b == 33) ≡ false) → (b == 47) ≡ false
    go (inl t) = bang_not_slash b t
    go (inr f) = letter_not_slash b (rest (b == 33) (is_letter b) f h)

or_right : (a d : Bool) → a ≡ false → (a || d) ≡ true → d ≡ true
or_right true d e k = cc
or_right false d e k = k

pub node_is : (c : ℕ) (l : Lexical) (m : Machine) (b : ℕ) → begins_node l m b ≡ true → room_for c l m ≡ true → step_at c m l b ≡ Some (node_machine l m b)
node_is c Data m b h r = elim (cases_Bool (b == 60)) [ inl t ↦ rw (t, r) refl | inr f ↦ rw (f, r) refl ]
node_is c (InText t) m b h r = let p = and_parts (b == 60) (not (is_some_open m.opened)) h in rw (p.0, r) refl
node_is c TagOpen m b h r =
    let s = opens_node b h in
    elim (cases_Bool (b == 33)) [
      | inl t ↦ rw (s, r, t) refl
      | inr f ↦ let k = or_right (b == 33) (is_letter b) f h in rw (s, r, f, k) refl
    ]
node_is c l m b h r = cc

pub node_none : (c : ℕ) (l : Lexical) (m : Machine) (b : ℕ) → begins_node l m b ≡ true → room_for c l m ≡ false → step_at c m l b ≡ None
node_none c Data m b h r =
    elim (cases_Bool (b == 60)) [
      | inl t ↦ let o = not_is (is_some_open m.opened) (or_right (not (b == 60)) (not (is_some_open m.opened)) (rw t refl) h) in rw (t, r, o) refl
      | inr f ↦ rw (f, r) refl
    ]
node_none c (InText t) m b h r = let p = and_parts (b == 60) (not (is_some_open m.opened)) h in let o = not_is (is_some_open m.opened) p.1 in rw (p.0, r, o) refl
node_none c TagOpen m b h r = rw (opens_node b h, r) refl
node_none c l m b h r = cc

pub begins_shift : (j : ℕ) (l : Lexical) (m : Machine) (b : ℕ) → begins_node l (shift j m) b ≡ begins_node l m b
begins_shift j Data m b = refl
begins_shift j (InText t) m b = refl
begins_shift j TagOpen m b = refl
begins_shift j l m b = refl

room_parts : (n c k : ℕ) → (nat_lt n c && nat_lt 0 k) ≡ true → (n < c) × (0 < k)
room_parts n c k h = (grind (arith, nat_tests), grind (arith, nat_tests))

room_made : (n c k : ℕ) → n < c → 0 < k → (nat_lt n c && nat_lt 0 k) ≡ true
room_made n c k h g = grind (arith, nat_tests)

wider_room : (n c C k j : ℕ) → c ≤ C → (nat_lt n c && nat_lt 0 k) ≡ true → (nat_lt n C && nat_lt 0 (k + j)) ≡ true
wider_room n c C k j le h = let p = room_parts n c k h in let a = p.0 in let b = p.1 in room_made n C (k + j) (omega arith) (omega arith)

pub room_up : (c C j : ℕ) (l : Lexical) (m : Machine) → c ≤ C → room_for c l m ≡ true → room_for C l (shift j m) ≡ true
room_up c C j (InText t) m h r = wider_room (suc m.next) c C m.room j h r
room_up c C j l m h r = wider_room m.next c C m.room j h r

pub room_pos : (c : ℕ) (l : Lexical) (m : Machine) → room_for c l m ≡ true → 0 < m.room
room_pos c (InText t) m r = (room_parts (suc m.next) c m.room r).1
room_pos c l m r = (room_parts m.next c m.room r).1

pred_up : (a j : ℕ) → 0 < a → pred (a + j) ≡ pred a + j
pred_up zero j h = absurd (omega arith)
pred_up (suc a) j h = let e : suc a + j ≡ suc (a + j) = omega arith in rw e refl

node_shift : (j : ℕ) (l : Lexical) (m : Machine) (b : ℕ) → 0 < m.room → node_machine l (shift j m) b ≡ shift j (node_machine l m b)
node_shift j Data m b h = go (b == 60)
  where
    go : (t : Bool) → (if t then at (shift j m) TagOpen else at (shift j m) (if b == 38 then TextReference [] Amp else InText (b ∷ []))) ≡ shift j (if t then at m TagOpen else at m (if b == 38 then TextReference [] Amp else InText (b ∷ [])))
    go true = refl
    go false = refl
node_shift j (InText t) m b h = refl
node_shift j TagOpen m b h = go (b == 33)
  where
    go : (t : Bool) → (if t then at (shift j m) MarkupDeclaration else begin_tag (shift j m) b) ≡ shift j (if t then at m MarkupDeclaration else begin_tag m b)
    go true = refl
    go false = ap (λ z. record (begin_tag m b) { room = z }) (pred_up m.room j h)
node_shift j l m b h = refl

-- at wider limits the machine goes on likewise
pub step_up : (c C j : ℕ) (l : Lexical) (m m1 : Machine) (b : ℕ) → c ≤ C → step_at c m l b ≡ Some m1 → step_at C (shift j m) l b ≡ Some (shift j m1)
step_up c C j l m m1 b h e =
    elim (cases_Bool (begins_node l m b)) [
      | inr f ↦ same_at c C j l m b f ∙ ap (λ z. lift j z) e
      | inl t ↦ elim (cases_Bool (room_for c l m)) [
        | inr n ↦ let k = node_none c l m b t n in let no : None ≡ Some m1 = sym k ∙ e in cc
        | inl r ↦
            let k = node_is c l m b t r in
            let same : node_machine l m b ≡ m1 = cc in
            node_is C l (shift j m) b (begins_shift j l m b ∙ t) (room_up c C j l m h r)
            ∙ ap (λ z. Some z) (node_shift j l m b (room_pos c l m r) ∙ ap (λ z. shift j z) same)
      ]
    ]

pub wide_up : (c C j : ℕ) (l : Lexical) (m : Machine) → c ≤ C → takes_wide_at c m l ≡ true → takes_wide_at C (shift j m) l ≡ true
wide_up c C j Data m h k = wider_room m.next c C m.room j h k
wide_up c C j l m h k = k
