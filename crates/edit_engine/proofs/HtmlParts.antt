-- The HTML of documents that differ in the children of one node alone.
use Rattle.std.proofs.Common.{◌≡◌, ℕ, ◌<◌, List, ◌++◌, Option, Some, None, refl, sym, ap, ◌∙◌, append_assoc}
use Rattle.std.proofs.lemmas.List.{append-nil}
use Rattle.edit_model.specs.DomModel.declared.Content.{Content}
use Rattle.edit_model.specs.DomModel.declared.Content.TheVariants.{Document}
use Rattle.edit_model.specs.DomModel.Forest.{Forest, seek, tops, count_of, tree_of}
use Rattle.edit_model.specs.DomModel.Forest.Forest.{Nil, Tree}
use Rattle.page_write.specs.Html.{opening, closing, html_of, document_html}
use Rattle.edit_model.specs.Outside.{hollowed, outside_by}
use Rattle.edit_model.specs.Valid.{IsForest}
use Rattle.edit_model.proofs.Documents.{document_shape}
use Rattle.edit_laws.specs.BelowHost.{below}
use Rattle.edit_laws.proofs.HostParts.{told, lead, trail, parts, parts_again}
use Rattle.edit_engine.specs.HtmlAround.{html_before, html_after, DiffersInside, KeepsHtmlAround}

opens : ℕ → Content → List ℕ
opens m c = opening c

closes : ℕ → Content → List ℕ
closes m c = closing c

html_told : (f : Forest Content) → html_of f ≡ told opens closes f
unfolding opens closes
html_told Nil = refl
html_told (Tree m c ks rest) = rw (html_told ks, html_told rest) (simp append_assoc)

before_lead : (h : ℕ) (f : Forest Content) → html_before f h ≡ lead opens closes h f
unfolding opens closes
before_lead h Nil = refl
before_lead h (Tree m c ks rest) = rw (html_told ks, before_lead h ks, before_lead h rest) (simp append_assoc)

after_trail : (h : ℕ) (f : Forest Content) → html_after f h ≡ trail opens closes h f
unfolding opens closes
after_trail h Nil = refl
after_trail h (Tree m c ks rest) = rw (html_told rest, after_trail h ks, after_trail h rest) (simp append_assoc)

-- what is told in three parts is the HTML in three parts
told_html : (h : ℕ) (f g : Forest Content) → told opens closes g ≡ lead opens closes h f ++ (told opens closes (below g h) ++ trail opens closes h f) → html_of g ≡ html_before f h ++ (html_of (below g h) ++ html_after f h)
told_html h f g e =
    html_told g
    ∙ (e
    ∙ (ap (λ x. x ++ (told opens closes (below g h) ++ trail opens closes h f)) (sym (before_lead h f))
    ∙ ap (λ x. html_before f h ++ x) (ap (λ x. x ++ trail opens closes h f) (sym (html_told (below g h))) ∙ ap (λ x. html_of (below g h) ++ x) (sym (after_trail h f)))))

-- ---- of a document that stands alone

document_text : (f : Forest Content) (next : ℕ) → IsForest f next → tree_of f 0 ≡ f → document_html f ≡ html_of f
document_text f next is alone =
    let d = document_shape f next is in
    let shape : f ≡ Tree 0 d.0 d.1 Nil = sym alone ∙ ap (λ x. tree_of x 0) d.3 in
    let found : seek None f 0 ≡ Some (record { parent = None; content = d.0; children = tops d.1 }) = ap (λ x. seek None x 0) shape in
    let root : d.0 ≡ Document = (is.nodes 0 (record { parent = None; content = d.0; children = tops d.1 }) found).document.1 refl in
    let shape' : f ≡ Tree 0 Document d.1 Nil = shape ∙ ap (λ x. Tree 0 x d.1 Nil) root in
    let alone_text : html_of (Tree 0 Document d.1 Nil) ≡ html_of d.1 = simp (append_assoc, append-nil) in
    ap document_html shape' ∙ (sym alone_text ∙ sym (ap html_of shape'))

module _ (f g : Forest Content) (next later : ℕ) (is_f : IsForest f next) (is_g : IsForest g later) (alone_f : tree_of f 0 ≡ f) (alone_g : tree_of g 0 ≡ g) where
  differs_inside : (h : ℕ) → 0 < count_of f h → 0 < count_of g h → hollowed g h ≡ hollowed f h → DiffersInside f g h
  differs_inside h in_f in_g same = record {
    first = document_text f next is_f alone_f ∙ (told_html h f f (parts opens closes h f is_f.distinct in_f) ∙ sym (append_assoc (html_before f h) (html_of (below f h)) (html_after f h)));
    second = document_text g later is_g alone_g ∙ (told_html h f g (parts_again opens closes h f g is_f.distinct is_g.distinct in_f in_g same) ∙ sym (append_assoc (html_before f h) (html_of (below g h)) (html_after f h)));
  }

  pub html_around : (host : Option ℕ) → ((h : ℕ) → host ≡ Some h → (0 < count_of f h) × (0 < count_of g h)) → outside_by host g ≡ outside_by host f → KeepsHtmlAround host f g
  html_around None there same = ap document_html (sym alone_g ∙ (same ∙ alone_f))
  html_around (Some h) there same =
      let t = there h refl in
      differs_inside h t.0 t.1 (ap (λ x. hollowed x h) (sym alone_g) ∙ (same ∙ ap (λ x. hollowed x h) alone_f))
