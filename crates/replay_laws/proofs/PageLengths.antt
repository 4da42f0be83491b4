-- No text of a page has more characters than the page.
use Rattle.std.proofs.Common.{◌≡◌, ℕ, zero, suc, pred, ◌+◌, ◌<◌, ◌≤◌, Bool, true, false, List, [], ◌∷◌, ◌++◌, length, ap, inl, inr, arith, length-append}
use Rattle.std.specs.Bool.{MatchBool}
use Rattle.edit_model.specs.DomModel.declared.Content.{Content as Node}
use Rattle.edit_model.specs.DomModel.Contents.{char_length}
use Rattle.edit_model.specs.DomModel.Forest.{Forest}
use Rattle.edit_model.specs.DomModel.Forest.Forest.{Nil as NoTrees, Tree}
use Rattle.step_text.specs.PageGrammar.Names.{is_void}
use Rattle.step_text.specs.PageGrammar.Nodes.{nodes_of}
use Rattle.step_text.specs.PageGrammar.Page.{Siblings, Nil, TextNode, CommentNode, ElementNode, Attribute, Spaces, OneChar, Text, NameChars, ElementName, AttributeNameChars, AttributeValue, Attributes, TagEnd, StartTag, NameAgain, EndTag, CommentText, IsNil, Content, size}
use Rattle.grammar_laws.specs.Proper.{AllNodes}

-- ---- what is left is no longer

spaces_left : (n : ℕ) (s r : List ℕ) → Spaces n s r → length r ≤ length s
spaces_left zero s r h = omega (arith, ap length h)
spaces_left (suc n) s r (x, m, e, _, rest) = omega (arith, ap length e, spaces_left n m r rest)

char_left : (stop x : ℕ) (s r : List ℕ) → OneChar stop x s r → length r < length s
char_left stop x s r (inl h) = omega (arith, ap length h.0)
char_left stop x s r (inr (w, e, _)) = omega (arith, ap length e, length-append w (59 ∷ r))

text_left : (stop : ℕ) (xs s r : List ℕ) → Text stop xs s r → length xs + length r ≤ length s
text_left stop [] s r h = omega (arith, ap length h)
text_left stop (x ∷ xs) s r (m, one, rest) = omega (arith, char_left stop x s m one, text_left stop xs m r rest)

name_left : (xs s r : List ℕ) → NameChars xs s r → length r ≤ length s
name_left [] s r h = omega (arith, ap length h)
name_left (x ∷ xs) s r (b, m, e, _, _, rest) = omega (arith, ap length e, name_left xs m r rest)

element_left : (xs s r : List ℕ) → ElementName xs s r → length r ≤ length s
element_left [] s r h = absurd h
element_left (x ∷ xs) s r (b, m, e, _, _, rest) = omega (arith, ap length e, name_left xs m r rest)

key_left : (xs s r : List ℕ) → AttributeNameChars xs s r → length r ≤ length s
key_left [] s r h = omega (arith, ap length h)
key_left (x ∷ xs) s r (b, m, e, _, _, rest) = omega (arith, ap length e, key_left xs m r rest)

value_left : (v s r : List ℕ) → AttributeValue v s r → length r ≤ length s
value_left v s r (inl h) = omega (arith, ap length h.1)
value_left v s r (inr (n, a, i, q, b, first, second, _, text)) =
    omega (arith, spaces_left n s (61 ∷ a) first, spaces_left i a (q ∷ b) second, text_left q v b (q ∷ r) text)

attributes_left : (seen ts : List Attribute) (s r : List ℕ) → Attributes seen ts s r → length r ≤ length s
attributes_left seen [] s r h = omega (arith, ap length h)
attributes_left seen (t ∷ ts) s r (n, a, b, m, spaces, _, name, _, value, rest) =
    omega (arith, spaces_left (suc n) s a spaces, key_left t.name a b name, value_left t.value b m value, attributes_left (seen ++ t ∷ []) ts m r rest)

end_left : (w s r : List ℕ) → TagEnd w s r → length r ≤ length s
end_left w s r (n, m, spaces, inl e) = omega (arith, spaces_left n s m spaces, ap length e)
end_left w s r (n, m, spaces, inr (_, e)) = omega (arith, spaces_left n s m spaces, ap length e)

tag_left : (w : List ℕ) (ts : List Attribute) (s r : List ℕ) → StartTag w ts s r → length r ≤ length s
tag_left w ts s r (a, b, m, e, name, _, attributes, last) =
    omega (arith, ap length e, element_left w a b name, attributes_left [] ts b m attributes, end_left w m r last)

again_left : (xs s r : List ℕ) → NameAgain xs s r → length r ≤ length s
again_left [] s r h = omega (arith, ap length h)
again_left (x ∷ xs) s r (b, m, e, _, rest) = omega (arith, ap length e, again_left xs m r rest)

close_left : (w s r : List ℕ) → EndTag w s r → length r ≤ length s
close_left w s r (a, b, n, e, again, spaces) = omega (arith, ap length e, again_left w a b again, spaces_left n b (62 ∷ r) spaces)

comment_left : (xs s r : List ℕ) → CommentText xs s r → length xs + length r ≤ length s
comment_left [] s r h = omega (arith, ap length h)
comment_left (x ∷ xs) s r (m, e, _, rest) = omega (arith, ap length e, comment_left xs m r rest)

-- ---- the texts of nodes

abbrev pub IsNoLonger : ℕ → Node → Type 0
IsNoLonger bound c = char_length c ≤ bound

longer_bound : (low high : ℕ) (f : Forest Node) → low ≤ high → AllNodes (IsNoLonger low) f → AllNodes (IsNoLonger high) f
longer_bound low high NoTrees le h = h
longer_bound low high (Tree l c ks rest) le h = ((let own = h.0 in omega (arith, own, le)), longer_bound low high ks le h.1, longer_bound low high rest le h.2)

pub record Fits (f : Siblings) (s r : List ℕ) : Type 0 where
  pub left : length r ≤ length s
  pub short : AllNodes (IsNoLonger (length s)) (nodes_of f)

pub content_fits : (d c n : ℕ) (f : Siblings) (s r : List ℕ) → Content d c n f s r → Fits f s r
content_fits d c n Nil s r h = record { left = omega (arith, ap length h); short = tt }
content_fits d c n (TextNode l t f) s r (m, _, _, _, _, _, text, rest) =
    let more = content_fits d c (suc n) f m r rest in
    let own = text_left 60 t s m text in
    let left = more.left in
    record {
      left = omega (arith, left, own);
      short = (omega (arith, own), tt, longer_bound (length m) (length s) (nodes_of f) (omega (arith, own)) more.short);
    }
content_fits d c n (CommentNode l t f) s r (a, m, _, _, _, e, text, rest) =
    let more = content_fits d c (suc n) f m r rest in
    let own = comment_left t a m text in
    let left = more.left in
    let opens = ap length e in
    record {
      left = omega (arith, left, own, opens);
      short = (omega (arith, own, opens), tt, longer_bound (length m) (length s) (nodes_of f) (omega (arith, own, opens)) more.short);
    }
content_fits d c n (ElementNode l w ts k f) s r (a, b, m, _, _, _, tag, inner, rest) =
    let more = content_fits d c (suc n + size k) f m r rest in
    let first = tag_left w ts s a tag in
    let left = more.left in
    let inside = by_void (is_void w) (λ h. content_fits (pred d) c (suc n) k a b h) inner in
    let down = inside.left in
    record {
      left = omega (arith, left, first, down);
      short = (omega arith, longer_bound (length a) (length s) (nodes_of k) (omega (arith, first)) inside.short, longer_bound (length m) (length s) (nodes_of f) (omega (arith, first, down)) more.short);
    }
  where
    none : (k : Siblings) (bound : ℕ) → IsNil k → AllNodes (IsNoLonger bound) (nodes_of k)
    none Nil bound h = tt
    none (TextNode l t f) bound h = absurd h
    none (CommentNode l t f) bound h = absurd h
    none (ElementNode l w ts j f) bound h = absurd h

    by_void : (v : Bool) → (Content (pred d) c (suc n) k a b → Fits k a b) → MatchBool v (IsNil k × (a ≡ m)) (Content (pred d) c (suc n) k a b × EndTag w b m) → Fits k a m
    by_void true further h = record { left = omega (arith, ap length h.1); short = none k (length a) h.0 }
    by_void false further h =
        let into = further h.0 in
        let down = into.left in
        record { left = omega (arith, down, close_left w b m h.1); short = into.short }
