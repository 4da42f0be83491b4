-- A forest with the content of one label changed.
use Rattle.std.specs.Prelude.{ℕ, if◌then◌else◌, ◌==◌}
use Rattle.dom_model.specs.Forest.{Forest, Seen}
use Rattle.dom_model.specs.Forest.Forest.{Nil, Tree}

module _ {C : Type 0} where
  abbrev pub revised : Forest C → ℕ → (C → C) → Forest C
  revised Nil l g = Nil
  revised (Tree m c ks rest) l g =
      Tree m (if l == m then g c else c) (revised ks l g) (revised rest l g)

  -- what is seen of k afterwards
  abbrev pub revised_seen : ℕ → (C → C) → ℕ → Seen C → Seen C
  revised_seen l g k s = record {
    parent = s.parent;
    content = if l == k then g s.content else s.content;
    children = s.children;
  }
