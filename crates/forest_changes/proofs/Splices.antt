-- A splice of the characters of a node, and the whole characters that it makes.
use Rattle.std.proofs.Common.{◌≡◌, ◌^◌, ℕ, ◌+◌, ◌<◌, true, false, List, [], ◌++◌, length, take, drop, Option, Some, None, unwrap_or, refl, sym, ap, ◌∙◌, arith, append_assoc, length-append, take_at, drop_at}
use Rattle.std.specs.Option.{option_map_or, option_and_then}
use Rattle.dom_model.specs.declared.Content.{Content}
use Rattle.dom_model.specs.declared.Content.TheVariants.{Document, Element, Words, Remark}
use Rattle.dom_model.specs.Contents.{has_chars, has_chars_at, chars_in, chars_of, with_chars}
use Rattle.dom_model.specs.Forest.{Forest, content_of}
use Rattle.dom_model.specs.Revised.{revised}
use Rattle.dom_model.specs.Room.{spliced}
use Rattle.forest_changes.specs.Change.{IsForest, HasPart, spliced_at}
use Rattle.forest_changes.proofs.Contents.{chars_set, chars_there}

pub spliced_between : (front taken back put : List ℕ) (at count : ℕ) → length front ≡ at → length taken ≡ count → spliced (front ++ (taken ++ back)) at count put ≡ front ++ (put ++ back)
spliced_between front taken back put at count long gone =
    let a : take at (front ++ (taken ++ back)) ≡ front = take_at front (taken ++ back) at long in
    let far : length (front ++ taken) ≡ at + count = omega (arith, length-append front taken, long, gone) in
    let b : drop (at + count) (front ++ (taken ++ back)) ≡ back = ap (drop (at + count)) (sym (append_assoc front taken back)) ∙ drop_at (front ++ taken) back (at + count) far in
    λ i. a i ++ (put ++ b i)

chars_kind : (c : Content) (old : List ℕ) → chars_in c ≡ Some old → has_chars c ≡ true
chars_kind Document old e = absurd (let e' : None ≡ Some old = e in cc)
chars_kind (Element name list) old e = absurd (let e' : None ≡ Some old = e in cc)
chars_kind (Words chars) old e = refl
chars_kind (Remark chars) old e = refl

-- a node whose characters are known has some
pub has_chars_there : (f : Forest Content) (n : ℕ) (old : List ℕ) → chars_of f n ≡ Some old → has_chars_at f n ≡ true
has_chars_there f n old e = by_content (content_of f n) e
  where
    by_content : (o : Option Content) → option_and_then chars_in o ≡ Some old → option_map_or has_chars o false ≡ true
    by_content None e = absurd (let e' : None ≡ Some old = e in cc)
    by_content (Some c) e = chars_kind c old e

-- where a node has the same characters, a splice finds the same part
pub HasPart-same : (f g : Forest Content) (n at rest : ℕ) (taken put : List ℕ) → chars_of g n ≡ chars_of f n → HasPart f n at rest taken put → HasPart g n at rest taken put
HasPart-same f g n at rest taken put e h = record {
  front = h.front;
  back = h.back;
  chars = e ∙ h.chars;
  front_long = h.front_long;
  back_long = h.back_long;
  short = h.short;
}

pub spliced_at-same : (f g : Forest Content) (n at count : ℕ) (put : List ℕ) → chars_of g n ≡ chars_of f n → spliced_at g n at count put ≡ spliced_at f n at count put
spliced_at-same f g n at count put e = ap (λ o. spliced (unwrap_or o []) at count put) e

module _ (f : Forest Content) (n at rest : ℕ) (taken put : List ℕ) (h : HasPart f n at rest taken put) where
  pub part_chars : has_chars_at f n ≡ true
  part_chars = has_chars_there f n (h.front ++ (taken ++ h.back)) h.chars

  pub words_are : spliced_at f n at (length taken) put ≡ h.front ++ (put ++ h.back)
  words_are = ap (λ o. spliced (unwrap_or o []) at (length taken) put) h.chars ∙ spliced_between h.front taken h.back put at (length taken) h.front_long refl

  pub words_short : length (spliced_at f n at (length taken) put) < 2 ^ 32
  words_short = omega (arith, ap length words_are, length-append h.front (put ++ h.back), length-append put h.back, h.front_long, h.back_long, h.short)

  -- afterwards those that were put can give way to those that were taken
  pub part_back : IsForest f → HasPart (revised f n (with_chars (spliced_at f n at (length taken) put))) n at rest put taken
  part_back ok =
      let there = chars_there f n ok.distinct ok.nodes part_chars in
      let e : Some there.0 ≡ Some (h.front ++ (taken ++ h.back)) = sym there.1 ∙ h.chars in
      let same : there.0 ≡ h.front ++ (taken ++ h.back) = cc in
      record {
        front = h.front;
        back = h.back;
        chars = chars_set f n (spliced_at f n at (length taken) put) part_chars ∙ ap Some words_are;
        front_long = h.front_long;
        back_long = h.back_long;
        short = omega (arith, there.2, ap length same, length-append h.front (taken ++ h.back), length-append taken h.back, h.front_long, h.back_long);
      }

-- and then the node has the same characters again
pub words_back : (f : Forest Content) (n at rest : ℕ) (taken put : List ℕ) (h : HasPart f n at rest taken put) → IsForest f → spliced_at (revised f n (with_chars (spliced_at f n at (length taken) put))) n at (length put) taken ≡ h.front ++ (taken ++ h.back)
unfolding part_back
words_back f n at rest taken put h ok = words_are (revised f n (with_chars (spliced_at f n at (length taken) put))) n at rest put taken (part_back f n at rest taken put h ok)
