-- Tests of bytes, bytes that don't stand in the UTF-8 of characters, and texts between two bytes.
use Rattle.std.proofs.Common.{◌≡◌, ◌≢◌, ◌⊎◌, inl, inr, ℕ, suc, ◌+◌, ◌-◌, ◌<◌, Bool, true, false, ◌==◌, List, [], ◌∷◌, ◌++◌, length, take, get_or, Some, None, refl, sym, ap, subst, ◌∙◌, arith, append-nil}
use Rattle.std.specs.Bool.{Decides}
use Rattle.std.specs.Str.{NonePass, IsUtf8, chars, is_utf8}
use Rattle.std.proofs.Math.Seq.{take-append_seam}
use Rattle.std.proofs.Math.Utf8.{encode, encodes, scalars}
use Rattle.std.proofs.lemmas.Bool.Decides.{Decides-eqb}
use Rattle.std.proofs.lemmas.List.{length_push}
use Rattle.std.proofs.lemmas.Str.{chars-encodes, scalars-chars, is_utf8-from_IsUtf8, IsUtf8-from_is_utf8}
use Rattle.std.proofs.lemmas.Str.Pattern.{NoCharPasses-char}
use Rattle.script_read.proofs.Tests.{differs}
use Rattle.script_read.proofs.Cutting.{Avoids}
use Rattle.step_text.specs.StepLine.{is_attribute_text, is_attribute_name}
use Rattle.step_text.specs.StepReading.{within, decoded}

pub tested : (b k : ℕ) → (b ≡ k) ⊎ ((b == k) ≡ false)
tested b k =
    elim (b == k) as (λ (t : Bool). Decides t (b ≡ k) → (b ≡ k) ⊎ (t ≡ false)) [
      | true ↦ λ d. inl (d.0 refl)
      | false ↦ λ d. inr refl
    ] (Decides-eqb b k)

-- ---- UTF-8

avoids_by_index : (k : ℕ) (bs : List ℕ) → ((i : ℕ) → i < length bs → get_or bs i 0 ≢ k) → Avoids k bs
avoids_by_index k [] h = tt
avoids_by_index k (b ∷ bs) h = (differs b k (h 0 (omega arith)), avoids_by_index k bs (λ i l. h (suc i) (omega arith)))

none_pass : (k : ℕ) (cs : List ℕ) → Avoids k cs → NonePass (λ d. d == k) cs
none_pass k [] h = tt
none_pass k (c ∷ cs) h = (h.0, none_pass k cs h.1)

-- an ASCII byte stands in the UTF-8 of a text only as its character
pub encodes_avoid : (k : ℕ) (cs : List ℕ) → k < 128 → Avoids k cs → Avoids k (encodes cs)
encodes_avoid k cs low h =
    avoids_by_index k (encodes cs) (λ i l. NoCharPasses-char k (encodes cs) i (cs, refl, none_pass k cs h) low l)

pub encode_avoids : (k c : ℕ) → k < 128 → (c == k) ≡ false → Avoids k (encode c)
encode_avoids k c low h = subst (Avoids k) (append-nil (encode c)) (encodes_avoid k (c ∷ []) low (h, tt))

pub decoded_back : (cs : List ℕ) → scalars cs ≡ true → decoded (encodes cs) ≡ Some cs
decoded_back cs all = rw (is_utf8-from_IsUtf8 (encodes cs) (cs, (all, refl)), chars-encodes cs all) refl

-- ---- texts between two bytes

pub within_back : (a b : ℕ) (xs : List ℕ) → within (a ∷ (xs ++ b ∷ [])) ≡ xs
within_back a b xs =
    let shorter : length (a ∷ (xs ++ b ∷ [])) - 2 ≡ length xs = omega (arith, length_push xs b) in
    ap (λ n. take n (xs ++ b ∷ [])) shorter ∙ take-append_seam xs (b ∷ [])

-- ---- texts in UTF-8

pub decoded_is : (bytes text cs : List ℕ) → text ≡ bytes → IsUtf8 bytes → cs ≡ chars text → decoded bytes ≡ Some cs
decoded_is bytes text cs e utf8 is = rw (is_utf8-from_IsUtf8 bytes utf8) (ap Some (ap chars (sym e) ∙ sym is))

not_utf8 : (bytes : List ℕ) → ¬ (IsUtf8 bytes) → is_utf8 bytes ≡ false
not_utf8 bytes lacks =
    elim (is_utf8 bytes) as (λ (t : Bool). (t ≡ true → IsUtf8 bytes) → t ≡ false) [
      | true ↦ λ from. absurd (lacks (from refl))
      | false ↦ λ from. refl
    ] (IsUtf8-from_is_utf8 bytes)

pub decoded_not : (bytes : List ℕ) → ¬ (IsUtf8 bytes) → decoded bytes ≡ None
decoded_not bytes lacks = rw (not_utf8 bytes lacks) refl

pub decoded_scalars : (bytes text cs : List ℕ) → text ≡ bytes → IsUtf8 bytes → cs ≡ chars text → scalars cs ≡ true
decoded_scalars bytes text cs e utf8 is = ap scalars (is ∙ ap chars e) ∙ scalars-chars bytes utf8

pub attribute_name_is : (name text : List ℕ) (r : Bool) → text ≡ name → IsUtf8 name → r ≡ is_attribute_text text → r ≡ is_attribute_name name
unfolding is_attribute_name
attribute_name_is name text r e utf8 is = rw (is_utf8-from_IsUtf8 name utf8) (is ∙ ap is_attribute_text e)

pub attribute_name_not : (name : List ℕ) → ¬ (IsUtf8 name) → false ≡ is_attribute_name name
unfolding is_attribute_name
attribute_name_not name lacks = rw (not_utf8 name lacks) refl
