-- The document that calls leave, printed as HTML and read again.
use Rattle.std.specs.Prelude.{◌≡◌, ℕ, ◌≤◌, Bool, true, false, List, length}
use Rattle.edit_model.specs.DomModel.declared.Content.{Content}
use Rattle.edit_model.specs.DomModel.declared.Content.TheVariants.{Element}
use Rattle.edit_model.specs.DomModel.ArenaState.{ArenaState as Arena}
use Rattle.edit_model.specs.DomModel.Document.{page_depth}
use Rattle.edit_model.specs.DomModel.Forest.{Forest}
use Rattle.edit_model.specs.DomModel.Forest.Forest.{Nil, Tree}
use Rattle.edit_model.specs.DomModel.Places.{kids_in}
use Rattle.step_text.specs.PageGrammar.Kind.{page_limit}
use Rattle.step_text.specs.PageGrammar.Names.{is_void}
use Rattle.step_text.specs.PageGrammar.Nodes.{nodes_of}
use Rattle.step_text.specs.PageGrammar.Page.{Siblings}
use Rattle.step_text.specs.PageGrammar.Reading.{Children, page_reading}
use Rattle.page_laws.specs.Tidy.{label_after, tidied, numbered}
use Rattle.page_write.specs.Html.{document_html}
use Rattle.edit_engine.specs.Editing.{Editing}
use Rattle.replay_laws.specs.Calls.{IsOfCalls}
use Rattle.replay_laws.specs.Texts.{IsReadAs}

-- an element for which HTML has no end tag
abbrev pub is_void_element : Content → Bool
is_void_element (Element name attributes) = is_void name
is_void_element _ = false

-- none of these has children
abbrev pub VoidsAreEmpty : Forest Content → Type 0
VoidsAreEmpty Nil = Unit {0}
VoidsAreEmpty (Tree l c ks rest) =
    (is_void_element c ≡ true → ks ≡ Nil) × VoidsAreEmpty ks × VoidsAreEmpty rest

-- the document, printed as HTML, is read as the same nodes in the same order, but that texts side by
-- side are joined, empty texts gone, and labels drawn anew
pub record IsReadBack (d c : ℕ) (f : Forest Content) : Type 0 where
  pub children : Siblings
  pub nodes : nodes_of children ≡ numbered 1 (tidied (kids_in f))
  pub reading : page_reading d c (document_html f) ≡ Children children

-- So it is after all calls, from a page that was read, where no void element has children,
-- no node is deeper than the reader allows, labels below its cap suffice, and the HTML isn't longer
-- than a page may be.
abbrev pub CallsReadBack : Arena → Editing → Type 0
CallsReadBack page e =
    (bytes : List ℕ) → IsReadAs bytes page → IsOfCalls page e → VoidsAreEmpty e.state.trees
    → (d c : ℕ) → page_depth e.state.trees ≤ d → label_after 1 (tidied (kids_in e.state.trees)) ≤ c
    → length (document_html e.state.trees) ≤ page_limit → IsReadBack d c e.state.trees

-- labels below the cap of the page always suffice
abbrev pub LabelsSuffice : Arena → Editing → Type 0
LabelsSuffice page e = IsOfCalls page e → label_after 1 (tidied (kids_in e.state.trees)) ≤ page.cap
