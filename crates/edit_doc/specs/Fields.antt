-- What calls do to the fields of a running command and of what stands beside entries. No public
-- clause cites this module.
use Rattle.std.specs.Prelude.{◌≡◌, ℕ, ◌+◌, ◌≤◌, min, if◌then◌else◌, Bool, true, false, ◌||◌, ◌&&◌, not, nat_le, List, [], ◌∷◌, take, drop, slice_get, Option, None}
use Rattle.edit_model.specs.DomModel.declared.Content.{Content}
use Rattle.edit_model.specs.DomModel.Forest.{Forest, depth_of, tree_of}
use Rattle.edit_model.specs.DomModel.Places.{levels}
use Rattle.edit_model.specs.LiveRange.declared.places.Places.{Places}
use Rattle.edit_model.specs.LiveRange.LivePoints.{LivePoints}
use Rattle.edit_model.specs.LiveRange.PointsEdit.{has_label}
use Rattle.edit_model.specs.LiveRange.Names.{shown, IsOver}
use Rattle.edit_model.specs.NodeArena.declared.NodeRef.{NodeRef}
use Rattle.edit_model.specs.PointOrder.PointOrder.{is_in_document}
use Rattle.edit_model.specs.declared.settings.Setting.{Setting}
use Rattle.edit_model.specs.declared.settings.Flags.{Flags}
use Rattle.edit_model.specs.Gives.{labels_of}
use Rattle.edit_parts.specs.declared.Counts.{Counts}
use Rattle.edit_doc.specs.declared.command.EntrySnapshot.{EntrySnapshot}
use Rattle.edit_doc.specs.declared.command.EntrySpan.{EntrySpan}
use Rattle.edit_doc.specs.declared.command.Kept.{Kept}
use Rattle.edit_doc.specs.declared.command.Command.{Command}
use Rattle.edit_doc.specs.declared.history.Way.{Way}
use Rattle.edit_doc.specs.declared.history.Way.TheVariants.{Back, Forth}

-- what a command keeps as it begins
pub record IsKept (points : LivePoints) (overrides : List Setting) (flags : Flags) (counts : Counts)
    (k : Kept) : Type 0 where
  pub shown : shown points.names k.places ≡ points
  pub over : IsOver points.names k.places
  pub overrides_are : k.overrides ≡ overrides
  pub flags_are : k.flags ≡ flags
  pub counts_are : k.counts ≡ counts

-- nothing of a command is there
pub record IsEnded (next : ℕ) (c : Command) : Type 0 where
  pub start : c.start ≡ next
  pub host : c.host ≡ None
  pub keeping : c.keeping ≡ false
  pub resumed : c.resumed ≡ false
  pub named : c.named.items ≡ []
  pub detached : c.detached.items ≡ []
  pub detached_before : c.detached_before ≡ 0

-- the places of all points but the scratch pair
pub record AreResting (points : LivePoints) (p : Places) : Type 0 where
  pub shown : shown points.names p ≡ record points { scratch = None }
  pub over : IsOver points.names p
  pub resting : p.scratch ≡ None

-- the detached trees of the first entry and those of the command are exchanged
abbrev pub SwapsLeft : List EntrySnapshot → List EntrySnapshot → Command → Command → Type 0
SwapsLeft [] us c d = ⊥
SwapsLeft (b ∷ bs) us c d =
    (us ≡ record b { detached = c.detached } ∷ bs) × (d ≡ record c { detached = b.detached })

-- what the command detached is forgotten, and a resumed entry has its detached trees again
abbrev pub ForgetsIn : Bool → List EntrySnapshot → List EntrySnapshot → List NodeRef → Type 0
ForgetsIn false us new ls = new ≡ us
ForgetsIn true [] new ls = ⊥
ForgetsIn true (b ∷ bs) [] ls = ⊥
ForgetsIn true (b ∷ bs) (b' ∷ bs') ls = (bs' ≡ bs) × ((b'.span ≡ b.span) × (b'.detached.items ≡ ls))

abbrev pub Forgets : List EntrySnapshot → List EntrySnapshot → Command → Type 0
Forgets us new c = ForgetsIn c.resumed us new (take c.detached_before c.detached.items)

-- the command made the node of the label, or detached its tree
abbrev pub has_newly_detached : Command → ℕ → Bool
has_newly_detached c l =
    nat_le c.start l || has_label (labels_of (drop c.detached_before c.detached.items)) l

-- the places and the numbers to which an entry leads
abbrev pub places_along : Way → EntrySpan → Places
places_along Back s = s.before
places_along Forth s = s.after

abbrev pub counts_along : Way → EntrySpan → Counts
counts_along Back s =
    record { nodes = s.nodes_before; chars = s.chars_before; depth = s.depth_before }
counts_along Forth s =
    record { nodes = s.nodes_after; chars = s.chars_after; depth = s.depth_after }

-- the span of an entry that a command makes, and of one that it joins
abbrev pub made_span : Command → Places → Counts → EntrySpan
made_span c p counts = record {
  before = c.kept.places;
  after = p;
  first_label = c.start;
  nodes_before = c.kept.counts.nodes;
  nodes_after = counts.nodes;
  chars_before = c.kept.counts.chars;
  chars_after = counts.chars;
  depth_before = c.kept.counts.depth;
  depth_after = counts.depth;
}

abbrev pub joined_span : EntrySpan → Places → Counts → EntrySpan
joined_span s p counts = record s {
  after = p;
  nodes_after = counts.nodes;
  chars_after = counts.chars;
  depth_after = counts.depth;
}

-- The command's entry is the first, in place of the one that it resumed, with these detached trees.
-- Where there are too many the oldest goes out.
abbrev pub EntersIn : Bool → EntrySpan → List NodeRef → Places → Counts → ℕ → List EntrySnapshot
    → List EntrySnapshot → Option EntrySnapshot → Type 0
EntersIn false s detached p counts room us new out = (b : EntrySnapshot) × (b.span ≡ s)
    × (b.detached.items ≡ detached) × (new ≡ take room (b ∷ us)) × (out ≡ slice_get (b ∷ us) room)
EntersIn true s detached p counts room [] new out = ⊥
EntersIn true s detached p counts room (b ∷ bs) [] out = ⊥
EntersIn true s detached p counts room (b ∷ bs) (b' ∷ bs') out = (bs' ≡ bs)
    × ((b'.span ≡ joined_span b.span p counts) × ((b'.detached.items ≡ detached) × (out ≡ None)))

abbrev pub Enters : Command → List NodeRef → Places → Counts → ℕ → List EntrySnapshot
    → List EntrySnapshot
    → Option EntrySnapshot → Type 0
Enters c detached p counts room us new out =
    EntersIn c.resumed (made_span c p counts) detached p counts room
    us new out

-- a number of the document, with that of a tree if that comes into it
abbrev pub with_more : Bool → ℕ → ℕ → ℕ
with_more enters n more = if enters then n + more else n

-- whether a tree that moves to a parent comes into the document
abbrev pub comes_in : Forest Content → ℕ → ℕ → Bool
comes_in f n p = not (is_in_document f n) && is_in_document f p

-- the bound on the depth is no less than before, and no less than how deep the tree of n is below p
-- if it comes to stand there in the document
pub record IsRaised (f : Forest Content) (p n : ℕ) (there : Bool) (old new : ℕ) : Type 0 where
  pub stays : old ≤ new
  pub reach : there ≡ true → min (depth_of f p + levels (tree_of f n)) 4294967295 ≤ new
