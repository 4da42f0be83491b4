-- Paths and points: what is read is in the grammar, and what is in the grammar is read.
use Rattle.std.proofs.Common.{◌≡◌, ℕ, Bool, true, false, cond, ◌==◌, List, [], ◌∷◌, ◌++◌, codes, Option, Some, None, length, ◌<◌, append_assoc, arith, refl, sym, ap, subst, ◌∙◌}
use Rattle.std.specs.Bool.{Decides}
use Rattle.std.specs.Char.{is_ascii_digit}
use Rattle.std.specs.Option.{option_map}
use Rattle.std.specs.List.{join_with_byte}
use Rattle.std.specs.Str.{bytes_eq}
use Rattle.std.proofs.lemmas.Slice.Eq.{bytes_eq-Decides}
use Rattle.std.proofs.lemmas.List.{length-append}
use Rattle.script_read.specs.declared.act.Place.{Place}
use Rattle.script_read.specs.Acts.{AreNumbers, IsPath, IsPoint}
use Rattle.script_read.specs.Reading.{◌>>=◌, cut, split, number_of, numbers_of, indexes_of, path_of, point_of, place_at}
use Rattle.script_read.proofs.Tests.{some-is, bound, mapped}
use Rattle.script_read.proofs.Cutting.{Avoids, Avoids-append, EachAvoids, cut-found, cut-parts, split-cut, split-uncut, split-joined, split-is}
use Rattle.script_read.proofs.Numbers.{number_back, number_sound, number_avoids}

-- ---- numbers in a row

numbers_back : (texts : List (List ℕ)) (ns : List ℕ) → AreNumbers texts ns → numbers_of texts ≡ Some ns
numbers_back [] [] are = refl
numbers_back [] (n ∷ ns) are = absurd are
numbers_back (text ∷ texts) [] are = absurd are
numbers_back (text ∷ texts) (n ∷ ns) are = rw (number_back text n are.0, numbers_back texts ns are.1) refl

numbers_sound : (texts : List (List ℕ)) (ns : List ℕ) → numbers_of texts ≡ Some ns → AreNumbers texts ns
numbers_sound [] ns e = subst (AreNumbers []) (some-is e) tt
numbers_sound (text ∷ texts) ns e =
    let b = bound (number_of text) (λ n. option_map (λ ns. n ∷ ns) (numbers_of texts)) ns e in
    let m = mapped (numbers_of texts) (λ ns. b.value ∷ ns) ns b.gives in
    subst (AreNumbers (text ∷ texts)) m.gives (number_sound text b.value b.was, numbers_sound texts m.value m.was)

numbers_avoid : (c : ℕ) → is_ascii_digit c ≡ false → (texts : List (List ℕ)) (ns : List ℕ) → AreNumbers texts ns → EachAvoids c texts
numbers_avoid c lacks [] [] are = tt
numbers_avoid c lacks [] (n ∷ ns) are = tt
numbers_avoid c lacks (text ∷ texts) [] are = absurd are
numbers_avoid c lacks (text ∷ texts) (n ∷ ns) are = (number_avoids c lacks text n are.0, numbers_avoid c lacks texts ns are.1)

joined_avoids : (c d : ℕ) → (d == c) ≡ false → (texts : List (List ℕ)) → EachAvoids c texts → Avoids c (join_with_byte d texts)
joined_avoids c d lacks [] each = tt
joined_avoids c d lacks (text ∷ []) each = each.0
joined_avoids c d lacks (text ∷ (next ∷ texts)) each =
    Avoids-append c text (d ∷ join_with_byte d (next ∷ texts)) each.0 (lacks, joined_avoids c d lacks (next ∷ texts) each.1)

none_before : (o : Option (List ℕ)) → option_map (λ later. [] ++ later) o ≡ o
none_before None = refl
none_before (Some later) = refl

regroup : (items : List ℕ) (n : ℕ) (o : Option (List ℕ)) → option_map (λ later. items ++ later) (option_map (λ ns. n ∷ ns) o) ≡ option_map (λ later. (items ++ n ∷ []) ++ later) o
regroup items n None = refl
regroup items n (Some later) = ap Some (sym (append_assoc items (n ∷ []) later))

-- ---- paths

not_dot : (text : List ℕ) → Avoids 46 text → bytes_eq text (codes ".") ≡ false
not_dot text lacks =
    elim (bytes_eq text (codes ".")) as (λ (t : Bool). Decides t (text ≡ codes ".") → t ≡ false) [
      | true ↦ λ d. let a : Avoids 46 (codes ".") = subst (Avoids 46) (d.0 refl) lacks in absurd (let e = a.0 in cc)
      | false ↦ λ d. refl
    ] (bytes_eq-Decides text (codes "."))

pub path_back : (text path : List ℕ) → IsPath text path → path_of text ≡ Some path
unfolding path_of indexes_of
path_back text [] is = rw is refl
path_back text (n ∷ ns) ([], e, are) = absurd are
path_back text (n ∷ ns) (first ∷ others, e, are) =
    let texts = first ∷ others in
    let dotless = not_dot text (subst (Avoids 46) (sym e) (joined_avoids 46 47 refl texts (numbers_avoid 46 refl texts (n ∷ ns) are))) in
    let parts : split 47 text ≡ texts = ap (split 47) e ∙ split-joined 47 first others (numbers_avoid 47 refl texts (n ∷ ns) are) in
    rw (dotless, parts) (numbers_back texts (n ∷ ns) are)

pub path_avoids : (c : ℕ) → is_ascii_digit c ≡ false → (47 == c) ≡ false → (46 == c) ≡ false → (text path : List ℕ) → IsPath text path → Avoids c text
path_avoids c lacks slash dot text [] is = subst (Avoids c) (sym is) (dot, tt)
path_avoids c lacks slash dot text (n ∷ ns) (texts, e, are) =
    subst (Avoids c) (sym e) (joined_avoids c 47 slash texts (numbers_avoid c lacks texts (n ∷ ns) are))

split_path : (text path first : List ℕ) (others : List (List ℕ)) → join_with_byte 47 (first ∷ others) ≡ text → AreNumbers (first ∷ others) path → IsPath text path
split_path text [] first others joined are = absurd are
split_path text (n ∷ ns) first others joined are = (first ∷ others, sym joined, are)

indexes_sound : (text path : List ℕ) → indexes_of text ≡ Some path → IsPath text path
unfolding indexes_of
indexes_sound text path e =
    let s = split-is 47 text in
    split_path text path s.first s.others s.joined (numbers_sound (s.first ∷ s.others) path (ap numbers_of (sym s.is) ∙ e))

path_by : (text path : List ℕ) (t : Bool) → Decides t (text ≡ codes ".") → cond t (Some []) (indexes_of text) ≡ Some path → IsPath text path
path_by text path true d e = subst (IsPath text) (some-is e) (d.0 refl)
path_by text path false d e = indexes_sound text path e

pub path_sound : (text path : List ℕ) → path_of text ≡ Some path → IsPath text path
unfolding path_of
path_sound text path e = path_by text path (bytes_eq text (codes ".")) (bytes_eq-Decides text (codes ".")) e

-- ---- points

pub point_back : (text : List ℕ) (place : Place) → IsPoint text place → point_of text ≡ Some place
unfolding point_of
point_back text place (path, offset, e, is_path, is_offset) =
    let parts : cut 58 text ≡ Some (path, offset) = ap (cut 58) e ∙ cut-found 58 path offset (path_avoids 58 refl refl refl path place.path is_path) in
    rw parts (rw (number_back offset place.offset is_offset) (rw (path_back path place.path is_path) refl))

pub point_sound : (text : List ℕ) (place : Place) → point_of text ≡ Some place → IsPoint text place
unfolding point_of
point_sound text place e =
    let c = bound (cut 58 text) (λ parts. number_of parts.1 >>= λ offset. path_of parts.0 >>= λ path. Some (place_at path offset)) place e in
    let o = bound (number_of c.value.1) (λ offset. path_of c.value.0 >>= λ path. Some (place_at path offset)) place c.gives in
    let p = bound (path_of c.value.0) (λ path. Some (place_at path o.value)) place o.gives in
    subst (IsPoint text) (some-is p.gives)
    (c.value.0, c.value.1, cut-parts 58 text c.value c.was, path_sound c.value.0 p.value p.was, number_sound c.value.1 o.value o.was)

pub point_avoids_space : (text : List ℕ) (place : Place) → IsPoint text place → Avoids 32 text
point_avoids_space text place (path, offset, e, is_path, is_offset) =
    subst (Avoids 32) (sym e) (Avoids-append 32 path (58 ∷ offset) (path_avoids 32 refl refl refl path place.path is_path) (refl, number_avoids 32 refl offset place.offset is_offset))

-- ---- indexes, one after the other

-- what is read, followed by the indexes of the rest
abbrev pub Follows : List ℕ → List ℕ → Option (List ℕ) → Type 0
Follows items rest total = option_map (λ later. items ++ later) (indexes_of rest) ≡ total

pub Follows-first : (text : List ℕ) → Follows [] text (indexes_of text)
Follows-first text = none_before (indexes_of text)

pub Follows-more : (items digits more rest : List ℕ) (n : ℕ) (total : Option (List ℕ)) → Some (digits, more) ≡ cut 47 rest → Some n ≡ number_of digits → Follows items rest total → Follows (items ++ n ∷ []) more total
unfolding indexes_of
Follows-more items digits more rest n total c e follows =
    let is : split 47 rest ≡ digits ∷ split 47 more = split-cut 47 rest (digits, more) (sym c) in
    let one : numbers_of (split 47 rest) ≡ option_map (λ ns. n ∷ ns) (numbers_of (split 47 more)) = rw is (rw (← e) refl) in
    sym (regroup items n (numbers_of (split 47 more))) ∙ ap (option_map (λ later. items ++ later)) (sym one) ∙ follows

pub Follows-bad : (items digits more rest : List ℕ) (total : Option (List ℕ)) → Some (digits, more) ≡ cut 47 rest → None ≡ number_of digits → Follows items rest total → total ≡ None
unfolding indexes_of
Follows-bad items digits more rest total c e follows =
    let is : split 47 rest ≡ digits ∷ split 47 more = split-cut 47 rest (digits, more) (sym c) in
    let one : numbers_of (split 47 rest) ≡ None = rw is (rw (← e) refl) in
    sym follows ∙ ap (option_map (λ later. items ++ later)) one

pub Follows-last : (items rest : List ℕ) (n : ℕ) (total : Option (List ℕ)) → None ≡ cut 47 rest → Some n ≡ number_of rest → Follows items rest total → total ≡ Some (items ++ n ∷ [])
unfolding indexes_of
Follows-last items rest n total c e follows =
    let one : numbers_of (split 47 rest) ≡ Some (n ∷ []) = rw (split-uncut 47 rest (sym c)) (rw (← e) refl) in
    sym follows ∙ ap (option_map (λ later. items ++ later)) one

pub Follows-bad_last : (items rest : List ℕ) (total : Option (List ℕ)) → None ≡ cut 47 rest → None ≡ number_of rest → Follows items rest total → total ≡ None
unfolding indexes_of
Follows-bad_last items rest total c e follows =
    let one : numbers_of (split 47 rest) ≡ None = rw (split-uncut 47 rest (sym c)) (rw (← e) refl) in
    sym follows ∙ ap (option_map (λ later. items ++ later)) one

pub shorter : (digits more rest : List ℕ) → Some (digits, more) ≡ cut 47 rest → length more < length rest
shorter digits more rest c =
    let is = cut-parts 47 rest (digits, more) (sym c) in
    rw is (rw (length-append digits (47 ∷ more)) (omega arith))
