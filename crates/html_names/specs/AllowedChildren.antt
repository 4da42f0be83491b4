-- Which element may stand in which, by their names alone (HTML Editing APIs, "allowed child").
use Rattle.std.specs.Prelude.{ℕ, Bool, not, ◌||◌, ◌&&◌, List, [], ◌∷◌, Option, Some, None, codes, find}
use Rattle.std.specs.Str.{bytes_eq}
use Rattle.html_names.specs.ElementNames.{is_one_of, is_heading, is_prohibited_child, has_inline_contents}

-- each row: these parents, whose children are the listed and no others
unfoldable pub contents : List (List (List ℕ) × List (List ℕ))
contents =
    ((codes "colgroup" ∷ []), (codes "col" ∷ []))
    ∷ (
      (codes "table" ∷ []),
      (codes "caption" ∷ codes "col" ∷ codes "colgroup" ∷ codes "tbody" ∷ codes "td"
          ∷ codes "tfoot" ∷ codes "th" ∷ codes "thead" ∷ codes "tr" ∷ []),
    )
    ∷ (
      (codes "tbody" ∷ codes "tfoot" ∷ codes "thead" ∷ []),
      (codes "td" ∷ codes "th" ∷ codes "tr" ∷ []),
    )
    ∷ ((codes "tr" ∷ []), (codes "td" ∷ codes "th" ∷ []))
    ∷ ((codes "dl" ∷ []), (codes "dt" ∷ codes "dd" ∷ []))
    ∷ (
      (codes "dir" ∷ codes "ol" ∷ codes "ul" ∷ []),
      (codes "dir" ∷ codes "li" ∷ codes "ol" ∷ codes "ul" ∷ []),
    )
    ∷ (
      (codes "hgroup" ∷ []),
      (codes "h1" ∷ codes "h2" ∷ codes "h3" ∷ codes "h4" ∷ codes "h5" ∷ codes "h6" ∷ []),
    )
    ∷ []

-- the children of a parent that lists them
unfoldable pub listed_children : List ℕ → Option (List (List ℕ) × List (List ℕ))
listed_children parent = find (λ row. is_one_of row.0 parent) contents

-- an element of these names stands only where a row of `contents` lists it
unfoldable pub bound_names : List (List ℕ)
bound_names =
    codes "body"
    ∷ codes "caption"
    ∷ codes "col"
    ∷ codes "colgroup"
    ∷ codes "frame"
    ∷ codes "frameset"
    ∷ codes "head"
    ∷ codes "html"
    ∷ codes "tbody"
    ∷ codes "td"
    ∷ codes "tfoot"
    ∷ codes "th"
    ∷ codes "thead"
    ∷ codes "tr"
    ∷ codes "dd"
    ∷ codes "dt"
    ∷ codes "li"
    ∷ []

-- both are elements of this name
abbrev pub both : List ℕ → List ℕ → List ℕ → Bool
both name child parent = bytes_eq child name && bytes_eq parent name

-- the child may not stand in this parent, though no row of `contents` speaks of either
unfoldable pub is_kept_out : List ℕ → List ℕ → Bool
is_kept_out child parent =
    both (codes "a") child parent
    || (is_heading child && is_heading parent)
    || both (codes "nobr") child parent
    || (is_prohibited_child child && has_inline_contents parent)

abbrev allowed_in : Option (List (List ℕ) × List (List ℕ)) → List ℕ → List ℕ → Bool
allowed_in (Some row) child parent = is_one_of row.1 child
allowed_in None child parent = not (is_one_of bound_names child || is_kept_out child parent)

-- an element of the one name is an allowed child of the other name
unfoldable pub allowed_child : List ℕ → List ℕ → Bool
allowed_child child parent = allowed_in (listed_children parent) child parent
