-- Sums over the nodes of a forest in tree order: from a label on, and after the tree of a label.
use Rattle.std.specs.Prelude.{ℕ, ◌+◌, if◌then◌else◌, ◌==◌, nat_lt}
use Rattle.dom_model.specs.Forest.{Forest, total, count_of}
use Rattle.dom_model.specs.Forest.Forest.{Nil, Tree}

module _ {C : Type 0} where
  -- of l and all that comes after it
  abbrev pub total_from : (ℕ → C → ℕ) → Forest C → ℕ → ℕ
  total_from w Nil l = 0
  total_from w (Tree m c ks rest) l =
      if m == l then total w (Tree m c ks rest)
      else if nat_lt 0 (count_of ks l) then total_from w ks l + total w rest
      else total_from w rest l

  -- of all that comes after the tree of l
  abbrev pub total_after : (ℕ → C → ℕ) → Forest C → ℕ → ℕ
  total_after w Nil l = 0
  total_after w (Tree m c ks rest) l =
      if m == l then total w rest
      else if nat_lt 0 (count_of ks l) then total_after w ks l + total w rest
      else total_after w rest l
