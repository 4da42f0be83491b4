-- Lists with some items given way to others.
use Rattle.std.proofs.Common.{◌≡◌, ℕ, ◌+◌, ◌-◌, ◌<◌, ◌≤◌, List, [], ◌∷◌, ◌++◌, length, take, drop, refl, sym, ap, ◌∙◌, arith, append_assoc, length-append, length-drop, length-take-le, take-append-drop, drop-drop, take_all, take_at, drop_at}
use Rattle.dom_model.specs.Room.{spliced}

-- a list in three parts, where the first and the second have these lengths
pub record Parts (xs : List ℕ) (at count : ℕ) : Type 0 where
  pub front : List ℕ
  pub taken : List ℕ
  pub back : List ℕ
  pub is : xs ≡ front ++ (taken ++ back)
  pub front_long : length front ≡ at
  pub taken_long : length taken ≡ count

pub parts : (xs : List ℕ) (at count : ℕ) → at + count ≤ length xs → Parts xs at count
parts xs at count h = record {
  front = take at xs;
  taken = take count (drop at xs);
  back = drop count (drop at xs);
  is = sym (ap (λ t. take at xs ++ t) (take-append-drop count (drop at xs)) ∙ take-append-drop at xs);
  front_long = length-take-le at xs (omega (arith, h));
  taken_long = length-take-le count (drop at xs) (omega (arith, h, length-drop at xs));
}

pub spliced_parts : (a b c put : List ℕ) (at count : ℕ) → length a ≡ at → length b ≡ count
    → spliced (a ++ (b ++ c)) at count put ≡ a ++ (put ++ c)
spliced_parts a b c put at count ea eb =
    λ i. take_at a (b ++ c) at ea i ++ (put ++ dropped i)
  where
    dropped : drop (at + count) (a ++ (b ++ c)) ≡ c
    dropped =
        sym (drop-drop count at (a ++ (b ++ c)))
        ∙ (ap (drop count) (drop_at a (b ++ c) at ea) ∙ drop_at b c count eb)

pub spliced_is : (xs put : List ℕ) (at count : ℕ) (p : Parts xs at count)
    → spliced xs at count put ≡ p.front ++ (put ++ p.back)
spliced_is xs put at count p =
    ap (λ l. spliced l at count put) p.is
    ∙ spliced_parts p.front p.taken p.back put at count p.front_long p.taken_long

pub spliced_long : (xs put : List ℕ) (at count : ℕ) → at + count ≤ length xs
    → length (spliced xs at count put) + count ≡ length xs + length put
spliced_long xs put at count h =
    let p = parts xs at count h in
    let was = ap length p.is in
    let is = ap length (spliced_is xs put at count p) in
    omega (
      arith,
      was,
      is,
      p.front_long,
      p.taken_long,
      length-append p.front (p.taken ++ p.back),
      length-append p.taken p.back,
      length-append p.front (put ++ p.back),
      length-append put p.back,
    )

-- what goes, and what comes, in two parts
pub spliced_twice : (xs put : List ℕ) (at count shared : ℕ) → at + count ≤ length xs
    → shared ≤ count → shared ≤ length put
    → spliced (spliced (spliced xs at shared (take shared put)) (at + shared) (count - shared) []) (at + shared) 0
    (drop shared put) ≡ spliced xs at count put
spliced_twice xs put at count shared within s1 s2 =
    let p = parts xs at count within in
    let a = p.front in
    let b1 = take shared p.taken in
    let b2 = drop shared p.taken in
    let p1 = take shared put in
    let p2 = drop shared put in
    let c = p.back in
    let first_long : length b1 ≡ shared = length-take-le shared p.taken (omega (arith, s1, p.taken_long)) in
    let second_long : length b2 ≡ count - shared = omega (arith, length-drop shared p.taken, p.taken_long) in
    let put_long : length p1 ≡ shared = length-take-le shared put s2 in
    let head_long : length (a ++ p1) ≡ at + shared = omega (arith, length-append a p1, put_long, p.front_long) in
    let split : xs ≡ a ++ (b1 ++ (b2 ++ c)) =
    p.is ∙ ap (λ t. a ++ t) (ap (λ t. t ++ c) (sym (take-append-drop shared p.taken)) ∙ append_assoc b1 b2 c) in
    let one : spliced xs at shared p1 ≡ (a ++ p1) ++ (b2 ++ c) =
    ap (λ l. spliced l at shared p1) split
    ∙ (spliced_parts a b1 (b2 ++ c) p1 at shared p.front_long first_long ∙ sym (append_assoc a p1 (b2 ++ c))) in
    let two : spliced (spliced xs at shared p1) (at + shared) (count - shared) [] ≡ (a ++ p1) ++ c =
    ap (λ l. spliced l (at + shared) (count - shared) []) one
    ∙ spliced_parts (a ++ p1) b2 c [] (at + shared) (count - shared) head_long second_long in
    let three = ap (λ l. spliced l (at + shared) 0 p2) two ∙ spliced_parts (a ++ p1) [] c p2 (at + shared) 0 head_long refl in
    three
    ∙ (append_assoc a p1 (p2 ++ c)
    ∙ (ap (λ t. a ++ t) (sym (append_assoc p1 p2 c) ∙ ap (λ t. t ++ c) (take-append-drop shared put))
    ∙ sym (spliced_is xs put at count p)))

-- the same in three steps, each from what the one before left
module _ (xs put : List ℕ) (at count shared : ℕ) (within : at + count ≤ length xs) (s1 : shared ≤ count) (s2 : shared ≤ length put) where
  come : take (length put - shared) (drop shared put) ≡ drop shared put
  come = take_all (length put - shared) (drop shared put) (omega (arith, length-drop shared put))

  module _ (ys zs : List ℕ) (one : ys ≡ spliced xs at (length (take shared put)) (take shared put)) (two : zs ≡ spliced ys (at + shared) (count - shared) []) where
    first : ys ≡ spliced xs at shared (take shared put)
    first = one ∙ ap (λ n. spliced xs at n (take shared put)) (length-take-le shared put s2)

    second : zs ≡ spliced (spliced xs at shared (take shared put)) (at + shared) (count - shared) []
    second = two ∙ ap (λ l. spliced l (at + shared) (count - shared) []) first

    -- as long as the list afterwards
    pub long_enough : length zs + length (take (length put - shared) (drop shared put)) ≡ length (spliced xs at count put)
    long_enough =
        let a = spliced_long xs (take shared put) at shared (omega (arith, within, s1)) in
        let b = length-take-le shared put s2 in
        let same = ap length first in
        let c = spliced_long ys [] (at + shared) (count - shared) (omega (arith, a, b, same, within, s1)) in
        let d = spliced_long xs put at count within in
        let same2 = ap length two in
        let e = ap length come in
        omega (arith, a, b, same, c, d, same2, e, length-drop shared put, s1, s2)

    pub in_steps : (ws : List ℕ) → ws ≡ spliced zs (at + shared) 0 (take (length put - shared) (drop shared put)) → ws ≡ spliced xs at count put
    in_steps ws three =
        three
        ∙ ((λ i. spliced (second i) (at + shared) 0 (come i))
        ∙ spliced_twice xs put at count shared within s1 s2)
