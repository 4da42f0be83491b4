-- What a walk over a tree looks for. No public clause cites this module.
use Rattle.std.specs.Prelude.{◌≡◌, ℕ, zero, suc, ◌<◌, ◌≤◌, ◌==◌, ◌⊎◌, Bool, true, false, List, [], ◌∷◌, Option, Some, None, IfSome, if◌then◌else◌}
use Rattle.std.specs.List.{slice_get}
use Rattle.node_styles.specs.DomModel.declared.Content.{Content}
use Rattle.node_styles.specs.DomModel.Forest.{Forest, IsWithin, parent_of}
use Rattle.node_styles.specs.DomModel.Forest.Forest.{Nil}
use Rattle.node_styles.specs.DomModel.Places.{index_of, onward}
use Rattle.point_order.specs.LiveRange.declared.places.Point.{Point}
use Rattle.node_styles.specs.NodeArena.declared.NodeRef.{NodeRef}
use Rattle.node_styles.specs.NodeArena.Held.{label}
use Rattle.node_tests.specs.declared.listing.Lines.{Lines}
use Rattle.node_tests.specs.declared.listing.Reach.{Reach}
use Rattle.node_tests.specs.declared.listing.Sides.{Sides}
use Rattle.node_tests.specs.declared.listing.Wanted.{Wanted}
use Rattle.node_tests.specs.declared.listing.Wanted.TheVariants.{Contained, Effective}
use Rattle.point_order.specs.PointOrder.{is_before}
use Rattle.node_tests.specs.Ranges.{is_contained, is_effectively_contained}

unfoldable pub is_wanted : Wanted → Forest Content → Point → Point → ℕ → Bool
is_wanted Contained f start end l = is_contained f start end l
is_wanted Effective f start end l = is_effectively_contained f start end l

-- the node alone, where it passes
abbrev pub only_if : (ℕ → Bool) → ℕ → List ℕ
only_if test l = if test l then l ∷ [] else []

-- the tree of a label with those of its later siblings
abbrev pub siblings : Forest Content → Option ℕ → Forest Content
siblings f None = Nil
siblings f (Some k) = onward f k

abbrev pub is_at : Option ℕ → ℕ → Bool
is_at None l = false
is_at (Some k) l = k == l

-- whether a node is listed in whose tree an end of the range stands
abbrev pub is_listed : Wanted → Bool → Bool → Bool
is_listed Contained contained effective = contained
is_listed Effective contained effective = effective

-- each place in the tree of a node comes before a point, or after it
pub record LiesBefore (f : Forest Content) (p : Point) (k : ℕ) : Type 0 where
  pub comes : (x o : ℕ) → IsWithin f k x → is_before f (record { label = x; offset = o }) p ≡ true
  pub none : (x o : ℕ) → IsWithin f k x → is_before f p (record { label = x; offset = o }) ≡ false

pub record LiesAfter (f : Forest Content) (p : Point) (k : ℕ) : Type 0 where
  pub comes : (x o : ℕ) → IsWithin f k x → is_before f p (record { label = x; offset = o }) ≡ true
  pub none : (x o : ℕ) → IsWithin f k x → is_before f (record { label = x; offset = o }) p ≡ false

-- a point of a node's tree, outside a child of the node: the child follows the point, or precedes
-- it
abbrev pub Follows : Forest Content → Point → ℕ → ℕ → Type 0
Follows f p top k =
    ((p.label ≡ top) × (p.offset ≤ index_of f k))
    ⊎ ((m : ℕ) × (parent_of f m ≡ Some top) × IsWithin f m p.label × (index_of f m < index_of f k))

abbrev pub Precedes : Forest Content → Point → ℕ → ℕ → Type 0
Precedes f p top k =
    ((p.label ≡ top) × (index_of f k < p.offset))
    ⊎ ((m : ℕ) × (parent_of f m ≡ Some top) × IsWithin f m p.label × (index_of f k < index_of f m))

-- a child comes before another one, if there is one
abbrev pub IsAhead : Forest Content → ℕ → Option ℕ → Type 0
IsAhead f k None = Unit {0}
IsAhead f k (Some m) = index_of f k < index_of f m

-- how the children of a node lie to a point
pub record Reaches (holds : NodeRef → Type 0) (f : Forest Content) (p : Point) (top : ℕ)
    (reach : Reach) : Type 0 where
  pub held : IfSome reach.child (λ r. holds r)
  pub under : (m : ℕ) → label reach.child ≡ Some m → parent_of f m ≡ Some top
  pub before : (k : ℕ) → parent_of f k ≡ Some top → IsAhead f k (label reach.child)
      → LiesBefore f p k
      × (IsWithin f top p.label → Precedes f p top k)
  pub after : (k m : ℕ) → parent_of f k ≡ Some top → label reach.child ≡ Some m
      → index_of f m < index_of f k
      → LiesAfter f p k × (IsWithin f top p.label → Follows f p top k)
  pub inside : (m : ℕ) → label reach.child ≡ Some m → reach.holds ≡ true → IsWithin f m p.label
  pub beyond : (m : ℕ) → label reach.child ≡ Some m → reach.holds ≡ false → LiesAfter f p m
      × (IsWithin f top p.label → Follows f p top m)

-- the first child that lies after the point
pub record Ends (holds : NodeRef → Type 0) (f : Forest Content) (p : Point) (top : ℕ)
    (reach : Reach)
    (stop : Option NodeRef) : Type 0 where
  pub held : IfSome stop (λ r. holds r)
  pub under : (s : ℕ) → label stop ≡ Some s → parent_of f s ≡ Some top
  pub after : (k s : ℕ) → parent_of f k ≡ Some top → label stop ≡ Some s
      → index_of f s ≤ index_of f k
      → LiesAfter f p k × (IsWithin f top p.label → Follows f p top k)
  pub near : (k m : ℕ) → parent_of f k ≡ Some top → IsAhead f k (label stop) → label reach.child
      ≡ Some m
      → (k ≡ m → reach.holds ≡ true) × (index_of f k ≤ index_of f m)

-- what is known of the tree of a node is so
pub record Lies (f : Forest Content) (start end : Point) (sides : Sides) (k : ℕ) : Type 0 where
  pub after : sides.after ≡ true → LiesAfter f start k
  pub before : sides.before ≡ true → LiesBefore f end k
  pub starts : sides.after ≡ false → IsWithin f k start.label
  pub ends : sides.before ≡ false → IsWithin f k end.label

-- so many nodes lead up from a node to one above it: the last of them is a child of that one, and
-- each other a child of the next
abbrev pub Leads : (NodeRef → Type 0) → Forest Content → List NodeRef → ℕ → ℕ → ℕ → Type 0
Leads holds f line l zero top = l ≡ top
Leads holds f line l (suc n) top =
    (r : NodeRef) × (slice_get line n ≡ Some r) × holds r × (parent_of f r.label ≡ Some top)
    × IsWithin f r.label l
    × Leads holds f line l n r.label

-- where an end of the range stands in the tree of a node, the nodes that are left lead up from it
-- to the node
pub record Lined (holds : NodeRef → Type 0) (f : Forest Content) (start end : Point) (lines : Lines)
    (sides : Sides) (k : ℕ) : Type 0 where
  pub from : sides.after ≡ false → Leads holds f lines.start.items start.label sides.start_left k
  pub upto : sides.before ≡ false → Leads holds f lines.end.items end.label sides.end_left k
