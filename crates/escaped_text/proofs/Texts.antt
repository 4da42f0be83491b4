-- One character more of a text that is appended.
use Rattle.std.proofs.Common.{◌≡◌, ℕ, ◌+◌, ◌<◌, List, [], ◌∷◌, ◌++◌, length, take, get_or, sym, ap, ◌∙◌, append_assoc, encode_utf8, encode_utf8_all}
use Rattle.std.specs.List.{flat_map}
use Rattle.std.proofs.lemmas.List.{take_more, append-nil}
use Rattle.std.proofs.lemmas.Str.{encodes-append}
use Rattle.std.proofs.lemmas.Grind.{flat_map-append}
use Rattle.escaped_text.specs.Escaped.{escape_of, escaped, escaped_bytes}

-- a list with the piece of one more element, after the pieces of those before it
more : (f : List ℕ → List ℕ) (g : ℕ → List ℕ) → ((a b : List ℕ) → f (a ++ b) ≡ f a ++ f b) → ((x : ℕ) → f (x ∷ []) ≡ g x) → (xs : List ℕ) (i x : ℕ) (old out new : List ℕ) → i < length xs → x ≡ get_or xs i x → out ≡ old ++ f (take i xs) → new ≡ out ++ g x → new ≡ old ++ f (take (i + 1) xs)
more f g splits single xs i x old out new within is before after =
    let one : take (i + 1) xs ≡ take i xs ++ x ∷ [] = take_more xs i x within ∙ ap (λ y. take i xs ++ y ∷ []) (sym is) in
    let joined : f (take i xs) ++ g x ≡ f (take (i + 1) xs) =
    ap (λ y. f (take i xs) ++ y) (sym (single x)) ∙ sym (splits (take i xs) (x ∷ [])) ∙ ap f (sym one) in
    let regrouped : (old ++ f (take i xs)) ++ g x ≡ old ++ (f (take i xs) ++ g x) = append_assoc old (f (take i xs)) (g x) in
    after ∙ ap (λ y. y ++ g x) before ∙ regrouped ∙ ap (λ y. old ++ y) joined

pub chars-more : (xs : List ℕ) (i x : ℕ) (old out new : List ℕ) → i < length xs → x ≡ get_or xs i x → out ≡ old ++ encode_utf8_all (take i xs) → new ≡ out ++ encode_utf8 x → new ≡ old ++ encode_utf8_all (take (i + 1) xs)
chars-more = more encode_utf8_all encode_utf8 encodes-append (λ x. append-nil (encode_utf8 x))

escaped_bytes-append : (a b : List ℕ) → escaped_bytes (a ++ b) ≡ escaped_bytes a ++ escaped_bytes b
unfolding escaped_bytes escaped
escaped_bytes-append a b = ap encode_utf8_all (flat_map-append escape_of a b) ∙ encodes-append (flat_map escape_of a) (flat_map escape_of b)

escaped_bytes-one : (x : ℕ) → escaped_bytes (x ∷ []) ≡ encode_utf8_all (escape_of x)
unfolding escaped_bytes escaped
escaped_bytes-one x = ap encode_utf8_all (append-nil (escape_of x))

pub escaped_bytes-nil : (old : List ℕ) → old ≡ old ++ escaped_bytes []
unfolding escaped_bytes escaped
escaped_bytes-nil old = sym (append-nil old)

pub escapes-more : (xs : List ℕ) (i x : ℕ) (old out new : List ℕ) → i < length xs → x ≡ get_or xs i x → out ≡ old ++ escaped_bytes (take i xs) → new ≡ out ++ encode_utf8_all (escape_of x) → new ≡ old ++ escaped_bytes (take (i + 1) xs)
escapes-more = more escaped_bytes (λ x. encode_utf8_all (escape_of x)) escaped_bytes-append escaped_bytes-one
