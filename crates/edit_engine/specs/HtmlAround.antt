-- The HTML of trees, before and after that of the children of a node.
use Rattle.std.specs.Prelude.{◌≡◌, ℕ, List, [], ◌++◌, nat_lt, if◌then◌else◌, ◌==◌, Option, Some, None}
use Rattle.edit_model.specs.DomModel.declared.Content.{Content}
use Rattle.edit_model.specs.DomModel.Forest.{Forest, count_of}
use Rattle.edit_model.specs.DomModel.Forest.Forest.{Nil, Tree}
use Rattle.page_write.specs.Html.{opening, closing, html_of, document_html}
use Rattle.edit_laws.specs.BelowHost.{below}

-- up to the start tag of h, which is in it
abbrev pub html_before : Forest Content → ℕ → List ℕ
html_before Nil h = []
html_before (Tree m c kids rest) h =
    if m == h then opening c
    else (if nat_lt 0 (count_of kids h) then opening c ++ html_before kids h
    else opening c ++ html_of kids ++ closing c ++ html_before rest h)

-- from the end tag of h on
abbrev pub html_after : Forest Content → ℕ → List ℕ
html_after Nil h = []
html_after (Tree m c kids rest) h =
    if m == h then closing c ++ html_of rest
    else (if nat_lt 0 (count_of kids h) then html_after kids h ++ closing c ++ html_of rest
    else html_after rest h)

-- The HTML of a document is that of the children of h between what stands before and after them.
-- So is that of another document, with the same before and after them.
pub record DiffersInside (f g : Forest Content) (h : ℕ) : Type 0 where
  pub first : document_html f ≡ html_before f h ++ html_of (below f h) ++ html_after f h
  pub second : document_html g ≡ html_before f h ++ html_of (below g h) ++ html_after f h

-- without a host the HTML is the same
abbrev pub KeepsHtmlAround : Option ℕ → Forest Content → Forest Content → Type 0
KeepsHtmlAround None f g = document_html g ≡ document_html f
KeepsHtmlAround (Some h) f g = DiffersInside f g h
