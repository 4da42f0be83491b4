-- What is written is read back.
use Rattle.std.proofs.Common.{◌≡◌, ℕ, pred, ◌≤◌, List, [], ◌∷◌, length, refl, sym, ap, ◌∙◌, subst}
use Rattle.std.specs.List.{AllByRecursion}
use Rattle.std.proofs.lemmas.List.{append-nil}
use Rattle.page_grammar.specs.DomModel.declared.attributes.Attribute.{Attribute}
use Rattle.page_grammar.specs.DomModel.declared.Content.{Content}
use Rattle.page_grammar.specs.DomModel.declared.Content.TheVariants.{Document, Element, Words, Remark}
use Rattle.page_grammar.specs.DomModel.Forest.{Forest}
use Rattle.page_grammar.specs.DomModel.Forest.Forest.{Nil, Tree}
use Rattle.page_grammar.specs.DomModel.Places.{kids_in}
use Rattle.page_grammar.specs.Page as page
use Rattle.page_grammar.specs.Bytes.{PageBytes}
use Rattle.page_grammar.specs.Kind.{page_limit}
use Rattle.page_grammar.specs.Nodes.{attributes_of, nodes_of, document_of}
use Rattle.page_grammar.specs.Reading.{Children, page_reading, IsReading}
use Rattle.page_grammar.proofs.Telling.{reading_is, only_reading}
use Rattle.page_write.specs.Html.{html_of, document_html}
use Rattle.page_laws.specs.Writable.{IsAttribute, IsWritable}
use Rattle.page_laws.specs.Tidy.{IsTidy, label_after, IsNumbered, tidied, numbered}
use Rattle.page_laws.proofs.Spelling.{spell, spelled_reads}
use Rattle.page_laws.proofs.Printing.{spelled_bytes, spelled_scalars}
use Rattle.page_laws.proofs.Grammatical.{IsRead, tree_back}
use Rattle.page_laws.proofs.Tidying.{tidied_html, numbered_html, tidied_writable, numbered_writable, tidied_tidy, numbered_tidy, numbered_fits}

pub page_tree : (d c : ℕ) (s : List ℕ) (f : page.Siblings) → PageBytes d c s f → IsRead d c 1 f []
page_tree d c s f (cs, plain, same, content) = tree_back d c 1 f cs [] content plain

written_page : (d c : ℕ) (f : page.Siblings) → IsWritable d (nodes_of f) → IsTidy (nodes_of f) → IsNumbered c 1 (nodes_of f) → PageBytes d c (html_of (nodes_of f)) f
written_page d c f h t l =
    (spell f [], spelled_scalars d f [] h refl, spelled_bytes d f [] h ∙ append-nil (html_of (nodes_of f)), spelled_reads d c 1 f [] h t l)

pub page_back : (d c : ℕ) (s : List ℕ) (f : page.Siblings) → PageBytes d c s f → PageBytes d c (document_html (document_of f)) f
page_back d c s f h = let r = page_tree d c s f h in written_page d c f r.writable r.tidy r.labelled

reads : (d c : ℕ) (s : List ℕ) (f : page.Siblings) → PageBytes d c s f → length s ≤ page_limit → page_reading d c s ≡ Children f
reads d c s f h k = sym (only_reading d c s (Children f) (h, k))

pub reading_back : (d c : ℕ) (s : List ℕ) (f : page.Siblings) → page_reading d c s ≡ Children f → length (document_html (document_of f)) ≤ page_limit → page_reading d c (document_html (document_of f)) ≡ Children f
reading_back d c s f e k =
    let h = subst (λ z. IsReading d c s z) e (reading_is d c s) in
    reads d c (document_html (document_of f)) f (page_back d c s f h.0) k

-- ---- documents

abbrev attribute : List ℕ → List ℕ → Attribute
attribute name value = record { name = name; value = value }

attributes_from : (list : List Attribute) → AllByRecursion IsAttribute list → (ts : List page.Attribute) × (attributes_of ts ≡ list)
attributes_from [] h = ([], refl)
attributes_from (a ∷ list) h =
    let t : page.Attribute = record { name = h.0.chars; value = a.value } in
    let ih = attributes_from list h.1 in
    (t ∷ ih.0, ap (λ z. attribute z a.value ∷ attributes_of ih.0) h.0.utf8 ∙ ap (λ z. a ∷ z) ih.1)

-- a tree that can be written is the nodes of what a page stands for
siblings_from : (d : ℕ) (f : Forest Content) → IsWritable d f → (g : page.Siblings) × (nodes_of g ≡ f)
siblings_from d Nil h = (page.Nil, refl)
siblings_from d (Tree l Document ks f) h = elim h.1 [ ]
siblings_from d (Tree l (Element w list) ks f) h =
    let ts = attributes_from list h.1.attributes in
    let k = siblings_from (pred d) ks h.2 in
    let g = siblings_from d f h.3 in (
      page.ElementNode l w ts.0 k.0 g.0,
      ap (λ z. Tree l (Element w z) (nodes_of k.0) (nodes_of g.0)) ts.1
          ∙ ap (λ z. Tree l (Element w list) z (nodes_of g.0)) k.1
          ∙ ap (λ z. Tree l (Element w list) ks z) g.1,
    )
siblings_from d (Tree l (Words t) ks f) h =
    let g = siblings_from d f h.3 in
    (page.TextNode l t g.0, ap (λ z. Tree l (Words t) Nil z) g.1 ∙ ap (λ z. Tree l (Words t) z f) (sym h.1.1))
siblings_from d (Tree l (Remark t) ks f) h =
    let g = siblings_from d f h.3 in
    (page.CommentNode l t g.0, ap (λ z. Tree l (Remark t) Nil z) g.1 ∙ ap (λ z. Tree l (Remark t) z f) (sym h.1.2))

pub written_tree : (d c : ℕ) (f : Forest Content) → IsWritable d f → IsTidy f → IsNumbered c 1 f → (g : page.Siblings) × (nodes_of g ≡ f) × PageBytes d c (html_of f) g
written_tree d c f h t l =
    let x = siblings_from d f h in
    let g = x.0 in
    let e : f ≡ nodes_of g = sym x.1 in
    let there = written_page d c g (subst (λ z. IsWritable d z) e h) (subst (λ z. IsTidy z) e t) (subst (λ z. IsNumbered c 1 z) e l) in
    (g, x.1, subst (λ z. PageBytes d c (html_of z) g) x.1 there)

pub document_back : (d c : ℕ) (f : Forest Content) → IsWritable d (kids_in f) → label_after 1 (tidied (kids_in f)) ≤ c → (g : page.Siblings) × (nodes_of g ≡ numbered 1 (tidied (kids_in f))) × PageBytes d c (document_html f) g
document_back d c f h k =
    let ks = kids_in f in
    let js = tidied ks in
    let same : html_of (numbered 1 js) ≡ html_of ks = numbered_html 1 js ∙ tidied_html d ks h in
    let x = written_tree d c (numbered 1 js) (numbered_writable d 1 js (tidied_writable d ks h)) (numbered_tidy 1 js (tidied_tidy ks)) (numbered_fits c 1 js k) in
    (x.0, x.1, subst (λ z. PageBytes d c z x.0) same x.2)

pub document_reading_back : (d c : ℕ) (f : Forest Content) → IsWritable d (kids_in f) → label_after 1 (tidied (kids_in f)) ≤ c → length (document_html f) ≤ page_limit → (g : page.Siblings) × (nodes_of g ≡ numbered 1 (tidied (kids_in f))) × (page_reading d c (document_html f) ≡ Children g)
document_reading_back d c f h k fits =
    let x = document_back d c f h k in
    (x.0, x.1, reads d c (document_html f) x.0 x.2 fits)
