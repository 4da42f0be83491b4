-- The machine only adds to what it has emitted.
use Rattle.std.proofs.Common.{◌≡◌, ℕ, Bool, true, false, ◌&&◌, ◌||◌, List, [], ◌∷◌, ◌++◌, Option, Some, None, refl, sym, ap}
use Rattle.std.specs.Prelude.{◌==◌, if◌then◌else◌}
use Rattle.page_grammar.specs.Chars.{is_space, lower, is_letter, is_name_char, is_attribute_name_char, is_quote}
use Rattle.page_grammar.specs.Names.{is_void, is_refused}
use Rattle.page_grammar.specs.Page.{Attribute, has_attribute}
use Rattle.page_grammar.specs.Machine.{Event, TextEvent, CommentEvent, Reference, Amp, Turn, Stop, More, Done, ref_step, Lexical, Data, InText, TextReference, TagOpen, MarkupDeclaration, CommentStart, InComment, TagName, BeforeAttributeName, AttributeName, AfterAttributeName, BeforeAttributeValue, InAttributeValue, ValueReference, AfterAttributeValue, SelfClosing, EndTagName, AfterEndTagName, Machine, at, has_room, is_some_open, less, after_leaf, after_start, begin_tag, after_void, started, after_end, slash, with_attribute, tag_end, ref_turn, NoDash, is_two, dash, dashes, step_at, step, quiet, after_emitting, flushed, emitted}
use Rattle.page_grammar.proofs.Facts.{app_nil}

tells_if : (o : List Event) (t : Bool) (x y x2 y2 : Option Machine) → (t ≡ true → x2 ≡ after_emitting o x) → (t ≡ false → y2 ≡ after_emitting o y) → (if t then x2 else y2) ≡ after_emitting o (if t then x else y)
tells_if o true x y x2 y2 f g = f refl
tells_if o false x y x2 y2 f g = g refl

-- the machine that has emitted o
abbrev telling : List Event → Machine → Machine
telling o m = record m { out = o }

-- a step that tells nothing
silent : (o : List Event) (m : Machine) → Some (telling o m) ≡ after_emitting o (Some (quiet m))
silent o m = ap (λ z. Some (telling z m)) (sym (app_nil o))

less_tells : (c : ℕ) (o : List Event) (m : Machine) → less c (telling o m) ≡ after_emitting o (less c (quiet m))
less_tells c o m = tells_if o (has_room c m || is_some_open m.opened) (Some (at (quiet m) TagOpen)) None (Some (at (telling o m) TagOpen)) None (λ e. silent o (at m TagOpen)) (λ e. refl)

less_after : (c : ℕ) (o es : List Event) (m : Machine) → less c (telling (o ++ es) m) ≡ after_emitting o (less c (telling es m))
less_after c o es m = tells_if o (has_room c m || is_some_open m.opened) (Some (at (telling es m) TagOpen)) None (Some (at (telling (o ++ es) m) TagOpen)) None (λ e. refl) (λ e. refl)

started_tells : (o : List Event) (m : Machine) (w : List ℕ) (ts : List Attribute) → Some (started (telling o m) w ts) ≡ after_emitting o (Some (started (quiet m) w ts))
started_tells o m w ts = go (is_void w)
  where
    go : (t : Bool) → Some (if t then after_void (telling o m) w ts else after_start (telling o m) w ts) ≡ after_emitting o (Some (if t then after_void (quiet m) w ts else after_start (quiet m) w ts))
    go true = refl
    go false = refl

tag_end_tells : (o : List Event) (m : Machine) (w : List ℕ) (ts : List Attribute) (b : ℕ) → tag_end (telling o m) w ts b ≡ after_emitting o (tag_end (quiet m) w ts b)
tag_end_tells o m w ts b =
    let l = SelfClosing w ts in
    tells_if o (b == 62) (Some (started (quiet m) w ts)) (if b == 47 && is_void w then Some (at (quiet m) l) else None) (Some (started (telling o m) w ts)) (if b == 47 && is_void w then Some (at (telling o m) l) else None)
    (λ e. started_tells o m w ts)
    (λ e. tells_if o (b == 47 && is_void w) (Some (at (quiet m) l)) None (Some (at (telling o m) l)) None (λ f. silent o (at m l)) (λ f. refl))

ref_tells : (o : List Event) (m : Machine) (more : Reference → Lexical) (end : ℕ → Lexical) (t : Turn) → ref_turn (telling o m) more end t ≡ after_emitting o (ref_turn (quiet m) more end t)
ref_tells o m more end Stop = refl
ref_tells o m more end (More q) = silent o (at m (more q))
ref_tells o m more end (Done x) = silent o (at m (end x))

slash_tells : (o : List Event) (m : Machine) (ws : List (List ℕ)) → slash (telling o m) ws ≡ after_emitting o (slash (quiet m) ws)
slash_tells o m [] = refl
slash_tells o m (w ∷ ws) = silent o (record m { lex = EndTagName w; opened = ws })

tells_at : (c : ℕ) (o : List Event) (l : Lexical) (m : Machine) (b : ℕ) → step_at c (telling o m) l b ≡ after_emitting o (step_at c (quiet m) l b)
tells_at c o Data m b =
    let l : Lexical = if b == 38 then TextReference [] Amp else InText (b ∷ []) in
    tells_if o (b == 60) (less c (quiet m)) (if has_room c m then Some (at (quiet m) l) else None) (less c (telling o m)) (if has_room c m then Some (at (telling o m) l) else None)
    (λ e. less_tells c o m)
    (λ e. tells_if o (has_room c m) (Some (at (quiet m) l)) None (Some (at (telling o m) l)) None (λ f. silent o (at m l)) (λ f. refl))
tells_at c o (InText t) m b =
    let l : Lexical = if b == 38 then TextReference t Amp else InText (t ++ b ∷ []) in
    let e = TextEvent t in
    tells_if o (b == 60) (less c (after_leaf (quiet m) e)) (Some (at (quiet m) l)) (less c (after_leaf (telling o m) e)) (Some (at (telling o m) l))
    (λ f. less_after c o (e ∷ []) (after_leaf m e))
    (λ f. silent o (at m l))
tells_at c o (TextReference t r) m b = ref_tells o m (λ q. TextReference t q) (λ x. InText (t ++ x ∷ [])) (ref_step r b)
tells_at c o TagOpen m b =
    let z : Option Machine = if is_letter b then Some (begin_tag (quiet m) b) else None in
    let z2 : Option Machine = if is_letter b then Some (begin_tag (telling o m) b) else None in
    let x : Option Machine = if b == 33 then Some (at (quiet m) MarkupDeclaration) else z in
    let x2 : Option Machine = if b == 33 then Some (at (telling o m) MarkupDeclaration) else z2 in
    tells_if o (b == 47) (slash (quiet m) m.opened) (if has_room c m then x else None) (slash (telling o m) m.opened) (if has_room c m then x2 else None)
    (λ e. slash_tells o m m.opened)
    (λ e. tells_if o (has_room c m) x None x2 None
    (λ f. tells_if o (b == 33) (Some (at (quiet m) MarkupDeclaration)) z (Some (at (telling o m) MarkupDeclaration)) z2 (λ g. silent o (at m MarkupDeclaration))
    (λ g. tells_if o (is_letter b) (Some (begin_tag (quiet m) b)) None (Some (begin_tag (telling o m) b)) None (λ h. silent o (begin_tag m b)) (λ h. refl)))
    (λ f. refl))
tells_at c o MarkupDeclaration m b = tells_if o (b == 45) (Some (at (quiet m) CommentStart)) None (Some (at (telling o m) CommentStart)) None (λ e. silent o (at m CommentStart)) (λ e. refl)
tells_at c o CommentStart m b =
    let l = InComment [] NoDash in
    tells_if o (b == 45) (Some (at (quiet m) l)) None (Some (at (telling o m) l)) None (λ e. silent o (at m l)) (λ e. refl)
tells_at c o (InComment t n) m b =
    let l = dash t n in
    let l2 = InComment (t ++ (dashes n ++ b ∷ [])) NoDash in
    let v = CommentEvent t in
    tells_if o (b == 45) (Some (at (quiet m) l)) (if b == 62 && is_two n then Some (after_leaf (quiet m) v) else Some (at (quiet m) l2)) (Some (at (telling o m) l)) (if b == 62 && is_two n then Some (after_leaf (telling o m) v) else Some (at (telling o m) l2))
    (λ e. silent o (at m l))
    (λ e. tells_if o (b == 62 && is_two n) (Some (after_leaf (quiet m) v)) (Some (at (quiet m) l2)) (Some (after_leaf (telling o m) v)) (Some (at (telling o m) l2)) (λ f. refl) (λ f. silent o (at m l2)))
tells_at c o (TagName w) m b =
    let l = TagName (w ++ lower b ∷ []) in
    let gap = BeforeAttributeName w [] in
    let y : Option Machine = if is_space b then Some (at (quiet m) gap) else tag_end (quiet m) w [] b in
    let y2 : Option Machine = if is_space b then Some (at (telling o m) gap) else tag_end (telling o m) w [] b in
    tells_if o (is_name_char b) (Some (at (quiet m) l)) (if is_refused w then None else y) (Some (at (telling o m) l)) (if is_refused w then None else y2)
    (λ e. silent o (at m l))
    (λ e. tells_if o (is_refused w) None y None y2 (λ f. refl)
    (λ f. tells_if o (is_space b) (Some (at (quiet m) gap)) (tag_end (quiet m) w [] b) (Some (at (telling o m) gap)) (tag_end (telling o m) w [] b) (λ g. silent o (at m gap)) (λ g. tag_end_tells o m w [] b)))
tells_at c o (BeforeAttributeName w ts) m b =
    let l = BeforeAttributeName w ts in
    let new = AttributeName w ts (lower b ∷ []) in
    tells_if o (is_space b) (Some (at (quiet m) l)) (if is_attribute_name_char b then Some (at (quiet m) new) else tag_end (quiet m) w ts b) (Some (at (telling o m) l)) (if is_attribute_name_char b then Some (at (telling o m) new) else tag_end (telling o m) w ts b)
    (λ e. silent o (at m l))
    (λ e. tells_if o (is_attribute_name_char b) (Some (at (quiet m) new)) (tag_end (quiet m) w ts b) (Some (at (telling o m) new)) (tag_end (telling o m) w ts b) (λ f. silent o (at m new)) (λ f. tag_end_tells o m w ts b))
tells_at c o (AttributeName w ts k) m b =
    let us = with_attribute ts k [] in
    let l = AttributeName w ts (k ++ lower b ∷ []) in
    let eq = BeforeAttributeValue w ts k in
    let gap = AfterAttributeName w ts k in
    let z : Option Machine = if b == 61 then Some (at (quiet m) eq) else tag_end (quiet m) w us b in
    let z2 : Option Machine = if b == 61 then Some (at (telling o m) eq) else tag_end (telling o m) w us b in
    let y : Option Machine = if is_space b then Some (at (quiet m) gap) else z in
    let y2 : Option Machine = if is_space b then Some (at (telling o m) gap) else z2 in
    tells_if o (is_attribute_name_char b) (Some (at (quiet m) l)) (if has_attribute ts k then None else y) (Some (at (telling o m) l)) (if has_attribute ts k then None else y2)
    (λ e. silent o (at m l))
    (λ e. tells_if o (has_attribute ts k) None y None y2 (λ f. refl)
    (λ f. tells_if o (is_space b) (Some (at (quiet m) gap)) z (Some (at (telling o m) gap)) z2 (λ g. silent o (at m gap))
    (λ g. tells_if o (b == 61) (Some (at (quiet m) eq)) (tag_end (quiet m) w us b) (Some (at (telling o m) eq)) (tag_end (telling o m) w us b) (λ u. silent o (at m eq)) (λ u. tag_end_tells o m w us b))))
tells_at c o (AfterAttributeName w ts k) m b =
    let us = with_attribute ts k [] in
    let l = AfterAttributeName w ts k in
    let eq = BeforeAttributeValue w ts k in
    let new = AttributeName w us (lower b ∷ []) in
    let z : Option Machine = if is_attribute_name_char b then Some (at (quiet m) new) else tag_end (quiet m) w us b in
    let z2 : Option Machine = if is_attribute_name_char b then Some (at (telling o m) new) else tag_end (telling o m) w us b in
    tells_if o (is_space b) (Some (at (quiet m) l)) (if b == 61 then Some (at (quiet m) eq) else z) (Some (at (telling o m) l)) (if b == 61 then Some (at (telling o m) eq) else z2)
    (λ e. silent o (at m l))
    (λ e. tells_if o (b == 61) (Some (at (quiet m) eq)) z (Some (at (telling o m) eq)) z2 (λ f. silent o (at m eq))
    (λ f. tells_if o (is_attribute_name_char b) (Some (at (quiet m) new)) (tag_end (quiet m) w us b) (Some (at (telling o m) new)) (tag_end (telling o m) w us b) (λ g. silent o (at m new)) (λ g. tag_end_tells o m w us b)))
tells_at c o (BeforeAttributeValue w ts k) m b =
    let l = BeforeAttributeValue w ts k in
    let v = InAttributeValue w ts k b [] in
    tells_if o (is_space b) (Some (at (quiet m) l)) (if is_quote b then Some (at (quiet m) v) else None) (Some (at (telling o m) l)) (if is_quote b then Some (at (telling o m) v) else None)
    (λ e. silent o (at m l))
    (λ e. tells_if o (is_quote b) (Some (at (quiet m) v)) None (Some (at (telling o m) v)) None (λ f. silent o (at m v)) (λ f. refl))
tells_at c o (InAttributeValue w ts k q v) m b =
    let l : Lexical = if b == 38 then ValueReference w ts k q v Amp else InAttributeValue w ts k q (v ++ b ∷ []) in
    let l2 = AfterAttributeValue w (with_attribute ts k v) in
    tells_if o (b == q) (Some (at (quiet m) l2)) (Some (at (quiet m) l)) (Some (at (telling o m) l2)) (Some (at (telling o m) l)) (λ e. silent o (at m l2)) (λ e. silent o (at m l))
tells_at c o (ValueReference w ts k q v r) m b = ref_tells o m (λ p. ValueReference w ts k q v p) (λ x. InAttributeValue w ts k q (v ++ x ∷ [])) (ref_step r b)
tells_at c o (AfterAttributeValue w ts) m b =
    let l = BeforeAttributeName w ts in
    tells_if o (is_space b) (Some (at (quiet m) l)) (tag_end (quiet m) w ts b) (Some (at (telling o m) l)) (tag_end (telling o m) w ts b) (λ e. silent o (at m l)) (λ e. tag_end_tells o m w ts b)
tells_at c o (SelfClosing w ts) m b = tells_if o (b == 62) (Some (started (quiet m) w ts)) None (Some (started (telling o m) w ts)) None (λ e. started_tells o m w ts) (λ e. refl)
tells_at c o (EndTagName []) m b =
    tells_if o (is_space b) (Some (at (quiet m) AfterEndTagName)) (if b == 62 then Some (after_end (quiet m)) else None) (Some (at (telling o m) AfterEndTagName)) (if b == 62 then Some (after_end (telling o m)) else None)
    (λ e. silent o (at m AfterEndTagName))
    (λ e. tells_if o (b == 62) (Some (after_end (quiet m))) None (Some (after_end (telling o m))) None (λ f. refl) (λ f. refl))
tells_at c o (EndTagName (x ∷ xs)) m b = tells_if o (lower b == x) (Some (at (quiet m) (EndTagName xs))) None (Some (at (telling o m) (EndTagName xs))) None (λ e. silent o (at m (EndTagName xs))) (λ e. refl)
tells_at c o AfterEndTagName m b =
    tells_if o (is_space b) (Some (at (quiet m) AfterEndTagName)) (if b == 62 then Some (after_end (quiet m)) else None) (Some (at (telling o m) AfterEndTagName)) (if b == 62 then Some (after_end (telling o m)) else None)
    (λ e. silent o (at m AfterEndTagName))
    (λ e. tells_if o (b == 62) (Some (after_end (quiet m))) None (Some (after_end (telling o m))) None (λ f. refl) (λ f. refl))

-- a step is that of the machine that has emitted nothing yet
pub step_tells : (c : ℕ) (m : Machine) (b : ℕ) → step c m b ≡ after_emitting m.out (step c (quiet m) b)
step_tells c m b = tells_at c m.out m.lex m b

flushed_at_tells : (l : Lexical) (m : Machine) → (flushed (at m l)).out ≡ m.out ++ (flushed (at (quiet m) l)).out
flushed_at_tells (InText t) m = refl
flushed_at_tells l m = sym (app_nil m.out)

pub told_tells : (m : Machine) → emitted m ≡ m.out ++ emitted (quiet m)
told_tells m = flushed_at_tells m.lex m
