-- What a walk over trees writes at a node: what lies below it and after it.
use Rattle.std.proofs.Common.{◌≡◌, ℕ, ◌+◌, ◌<◌, ◌≤◌, Option, Some, refl, ap, ◌∙◌, arith, List, [], ◌++◌, append_assoc, codes, ◌^◌}
use Rattle.page_write.specs.Listing.{lines_of, node_line, indent, document_lines}
use Rattle.page_write.specs.Html.{opening, closing, html_of, document_html}
use Rattle.node_paths.specs.DomModel.declared.Content.{Content}
use Rattle.node_paths.specs.DomModel.Forest.{Forest, total, first_of, next_of}
use Rattle.node_paths.specs.DomModel.Forest.Forest.{Nil, Tree}
use Rattle.node_paths.specs.DomModel.ArenaState.{ArenaState, IsValid}
use Rattle.node_paths.specs.DomModel.Places.{kids_in}
use Rattle.node_paths.specs.NodeArena.declared.NodeRef.{NodeRef}
use Rattle.node_paths.specs.NodeArena.Held.{NamesHeld, label}
use Rattle.node_paths.specs.Onward.{onward_at, IsInner}
use Rattle.node_paths.proofs.Visiting.{Visit, size_from, led, size_led, size_here, document_leads, document_inner}

-- ---- a walk

-- a link from the node that a walk has come to leads to inner nodes, from which on there are fewer
pub leads_on : (a : ArenaState) (at : Option NodeRef) (node : NodeRef) → at ≡ Some node
    → (link : Option NodeRef) (named : Option ℕ) → NamesHeld a link named
    → size_from a.trees named < size_from a.trees (Some node.label) → IsInner a.trees named
    → (size_from a.trees (label link) < size_from a.trees (label at)) × IsInner a.trees (label link)
leads_on a at node is link named names fewer inner =
    let there = size_led a link named names in
    let here = size_here a at node is in
    (omega (arith, there, fewer, here), led a link named names inner)

-- ---- HTML text

-- what is written before a node's children, then for them, then after them, is what was to be written for the node and all behind it
pub html_written : (a : ArenaState) (l : ℕ) (c : Content) → Visit a.trees l c → (down right here : Option ℕ)
    → down ≡ first_of a.trees l → right ≡ next_of a.trees l → here ≡ Some l
    → (b0 b1 b2 b3 whole : List ℕ) → b0 ++ html_of (onward_at a.trees here) ≡ whole
    → b1 ≡ b0 ++ opening c → b2 ≡ b1 ++ html_of (onward_at a.trees down) → b3 ≡ b2 ++ closing c
    → b3 ++ html_of (onward_at a.trees right) ≡ whole
html_written a l c v down right here d r h b0 b1 b2 b3 whole before one two three =
    let text : html_of (onward_at a.trees here) ≡ opening c ++ html_of (onward_at a.trees down) ++ closing c ++ html_of (onward_at a.trees right) =
    ap (λ o. html_of (onward_at a.trees o)) h ∙ ap html_of v.is ∙ rw (d, r) refl in
    rw (three, two, one, ← before, text) (simp append_assoc)

-- the text of all below the document
pub html_whole : (a : ArenaState) (document : ℕ) → IsValid a → document ≡ 0 → (first : Option NodeRef)
    → NamesHeld a first (first_of a.trees document) → (none bytes : List ℕ) → none ≡ []
    → bytes ≡ none ++ html_of (onward_at a.trees (label first)) → bytes ≡ document_html a.trees
html_whole a document valid is first names none bytes empty text =
    let at : label first ≡ first_of a.trees 0 = rw (← is) names.is in
    text ∙ rw (empty, at, document_leads a valid) refl

pub inner_document : (a : ArenaState) (document : ℕ) → IsValid a → document ≡ 0 → (first : Option NodeRef)
    → NamesHeld a first (first_of a.trees document) → IsInner a.trees (label first)
inner_document a document valid is first names = led a first (first_of a.trees document) names (rw is (document_inner a valid))

-- ---- listings

-- a node's line, then the lines below it, are what was to be written for it before what comes behind it
pub lines_written : (a : ArenaState) (l : ℕ) (c : Content) → Visit a.trees l c → (level : ℕ)
    → (down right here : Option ℕ) → down ≡ first_of a.trees l → right ≡ next_of a.trees l → here ≡ Some l
    → (b0 b1 b2 whole : List ℕ) → b0 ++ lines_of level (onward_at a.trees here) ≡ whole
    → b1 ≡ b0 ++ (indent level ++ node_line c ++ codes "\n") → b2 ≡ b1 ++ lines_of (level + 1) (onward_at a.trees down)
    → b2 ++ lines_of level (onward_at a.trees right) ≡ whole
lines_written a l c v level down right here d r h b0 b1 b2 whole before one two =
    let text : lines_of level (onward_at a.trees here) ≡ indent level ++ node_line c ++ codes "\n" ++ lines_of (level + 1) (onward_at a.trees down) ++ lines_of level (onward_at a.trees right) =
    ap (λ o. lines_of level (onward_at a.trees o)) h ∙ ap (lines_of level) v.is ∙ rw (d, r) refl in
    rw (two, one, ← before, text) (simp append_assoc)

-- the listing of all below the document
pub lines_whole : (a : ArenaState) (document : ℕ) → IsValid a → document ≡ 0 → (first : Option NodeRef)
    → NamesHeld a first (first_of a.trees document) → (none bytes : List ℕ) → none ≡ []
    → bytes ≡ none ++ lines_of 0 (onward_at a.trees (label first)) → bytes ≡ document_lines a.trees
lines_whole a document valid is first names none bytes empty text =
    let at : label first ≡ first_of a.trees 0 = rw (← is) names.is in
    text ∙ rw (empty, at, document_leads a valid) refl

-- the listing's levels stay below a number that the labels do not reach
kids_few : (f : Forest Content) → total (λ _ _. 1) (kids_in f) ≤ total (λ _ _. 1) f
kids_few Nil = omega arith
kids_few (Tree m c ks rest) = omega arith

pub room_whole : (a : ArenaState) (document : ℕ) → IsValid a → document ≡ 0 → (first : Option NodeRef)
    → NamesHeld a first (first_of a.trees document) → 0 + size_from a.trees (label first) < 2 ^ 64
room_whole a document valid is first names =
    let at : label first ≡ first_of a.trees 0 = rw (← is) names.is in
    let all : size_from a.trees (label first) ≡ total (λ _ _. 1) (kids_in a.trees) = rw (at, document_leads a valid) refl in
    omega (arith, all, kids_few a.trees, valid.few, valid.capped, valid.small)
