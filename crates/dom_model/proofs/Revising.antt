-- What stands in a forest after the content of one label is changed.
use Rattle.std.proofs.Common.{◌≡◌, ℕ, ◌+◌, cond, [], ◌∷◌, Option, Some, None, refl, ap, ◌∙◌, inl, inr, arith, eqb}
use Rattle.std.proofs.lemmas.Bool.Decides.{eqb_tells}
use Rattle.std.specs.Option.{option_map, option_map_or, option_and_then}
use Rattle.dom_model.specs.Forest.{Forest, Seen, tops, total, seek, parent_of, children_of, content_of, either, RisesFrom}
use Rattle.dom_model.specs.Forest.Forest.{Nil, Tree}
use Rattle.dom_model.specs.Revised.{revised, revised_seen}

map_either : {A B : Type 0} (h : A → B) (o p : Option A) → either (option_map h o) (option_map h p) ≡ option_map h (either o p)
map_either h None p = refl
map_either h (Some x) p = refl

module _ {C : Type 0} (l : ℕ) (g : C → C) where
  pub tops-revised : (f : Forest C) → tops (revised f l g) ≡ tops f
  tops-revised Nil = refl
  tops-revised (Tree m c ks rest) = ap (λ xs. m ∷ xs) (tops-revised rest)

  -- a sum that looks at labels alone stays
  pub total-revised : (w : ℕ → ℕ) (f : Forest C) → total (λ m _. w m) (revised f l g) ≡ total (λ m _. w m) f
  total-revised w Nil = refl
  total-revised w (Tree m c ks rest) = omega (arith, total-revised w ks, total-revised w rest)

  pub seek-revised : (q : Option ℕ) (f : Forest C) (k : ℕ) → seek q (revised f l g) k ≡ option_map (revised_seen l g k) (seek q f k)
  seek-revised q Nil k = refl
  seek-revised q (Tree m c ks rest) k =
      elim (eqb_tells m k) [
        | inl (t, is) ↦ rw (t, tops-revised ks, is) refl
        | inr (t, _) ↦ rw (t, seek-revised (Some m) ks k, seek-revised q rest k) (map_either (revised_seen l g k) (seek (Some m) ks k) (seek q rest k))
      ]

  pub RisesFrom-revised : (f : Forest C) (low : ℕ) → RisesFrom low f → RisesFrom low (revised f l g)
  RisesFrom-revised Nil low h = tt
  RisesFrom-revised (Tree m c ks rest) low h = (h.0, RisesFrom-revised rest (m + 1) h.1)

  pub parent_of-revised : (f : Forest C) (k : ℕ) → parent_of (revised f l g) k ≡ parent_of f k
  parent_of-revised f k = ap (option_and_then (λ (s : Seen C). s.parent)) (seek-revised None f k) ∙ by_seen (seek None f k)
    where
      by_seen : (o : Option (Seen C)) → option_and_then (λ (s : Seen C). s.parent) (option_map (revised_seen l g k) o) ≡ option_and_then (λ (s : Seen C). s.parent) o
      by_seen None = refl
      by_seen (Some s) = refl

  pub children_of-revised : (f : Forest C) (k : ℕ) → children_of (revised f l g) k ≡ children_of f k
  children_of-revised f k = ap (λ o. option_map_or (λ (s : Seen C). s.children) o []) (seek-revised None f k) ∙ by_seen (seek None f k)
    where
      by_seen : (o : Option (Seen C)) → option_map_or (λ (s : Seen C). s.children) (option_map (revised_seen l g k) o) [] ≡ option_map_or (λ (s : Seen C). s.children) o []
      by_seen None = refl
      by_seen (Some s) = refl

  pub content_of-revised : (f : Forest C) (k : ℕ) → content_of (revised f l g) k ≡ option_map (λ c. cond (eqb l k) (g c) c) (content_of f k)
  content_of-revised f k = ap (option_map (λ (s : Seen C). s.content)) (seek-revised None f k) ∙ by_seen (seek None f k)
    where
      by_seen : (o : Option (Seen C)) → option_map (λ (s : Seen C). s.content) (option_map (revised_seen l g k) o) ≡ option_map (λ c. cond (eqb l k) (g c) c) (option_map (λ (s : Seen C). s.content) o)
      by_seen None = refl
      by_seen (Some s) = refl
