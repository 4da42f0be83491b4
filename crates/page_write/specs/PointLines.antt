-- The listing of the kept points: the selection's two, and the marks in their order, each by path
-- and offset.
use Rattle.std.specs.Prelude.{ℕ, List, ◌++◌, Option, Some, None, codes, IfSome}
use Rattle.std.specs.List.{flat_map, All}
use Rattle.std.specs.Fmt.{decimal}
use Rattle.node_paths.specs.DomModel.declared.Content.{Content}
use Rattle.node_paths.specs.DomModel.Forest.{Forest, IsWithin}
use Rattle.live_range.specs.declared.places.Point.{Point}
use Rattle.live_range.specs.declared.places.Pair.{Pair}
use Rattle.live_range.specs.LivePoints.{LivePoints}
use Rattle.node_paths.specs.Paths.{node_text}

-- `PATH:OFFSET`
abbrev pub point_text : Forest Content → Point → List ℕ
point_text f p = node_text f p.label ++ codes ":" ++ decimal p.offset

abbrev pub selection_lines : Forest Content → Option Pair → List ℕ
selection_lines f None = codes "none\n"
selection_lines f (Some pair) = codes "anchor " ++ point_text f pair.anchor ++ codes "\nfocus "
    ++ point_text f pair.focus ++ codes "\n"

abbrev pub mark_line : Forest Content → List ℕ × Pair → List ℕ
mark_line f m = codes "mark " ++ m.0 ++ codes " " ++ point_text f m.1.anchor ++ codes " "
    ++ point_text f m.1.focus ++ codes "\n"

unfoldable pub mark_lines : Forest Content → List (List ℕ × Pair) → List ℕ
mark_lines f marks = flat_map (mark_line f) marks

unfoldable pub point_lines : Forest Content → LivePoints → List ℕ
point_lines f points = selection_lines f points.selection ++ mark_lines f points.marks

-- ---- what the listing needs: the nodes of the points are in the document

abbrev pub IsIn : Forest Content → Pair → Type 0
IsIn f pair = IsWithin f 0 pair.anchor.label × IsWithin f 0 pair.focus.label

pub record AreIn (f : Forest Content) (points : LivePoints) : Type 0 where
  pub selection : IfSome points.selection (IsIn f)
  pub marks : All (λ m. IsIn f m.1) points.marks
