-- Small trees, to show what the definitions say of them.
use Rattle.std.specs.Prelude.{ℕ, List, [], ◌∷◌, codes}
use Rattle.node_styles.specs.DomModel.declared.Content.{Content}
use Rattle.node_styles.specs.DomModel.declared.Content.TheVariants.{Document, Element, Words}
use Rattle.node_styles.specs.DomModel.Forest.{Forest}
use Rattle.node_styles.specs.DomModel.Forest.Forest.{Nil, Tree}

-- a document with one child
abbrev pub page : Content → Forest Content → Forest Content
page child below = Tree 0 Document (Tree 1 child below Nil) Nil

abbrev pub text_node : ℕ → List ℕ → Forest Content → Forest Content
text_node l chars rest = Tree l (Words chars) Nil rest

abbrev pub plain : List ℕ → Content
plain name = Element name []

-- <b>x</b>
abbrev pub bold_page : Forest Content
bold_page = page (plain (codes "b")) (text_node 2 (codes "x") Nil)

-- <sub>a<sup>b</sup></sub>
abbrev pub script_page : Forest Content
script_page = page (plain (codes "sub")) (text_node 2 (codes "a")
    (Tree 3 (plain (codes "sup")) (text_node 4 (codes "b") Nil) Nil))

-- <font size="+1">x</font>
abbrev pub size_page : Forest Content
size_page = page (Element (codes "font") (record {
  name = codes "size";
  value = codes "+1";
} ∷ [])) (text_node 2 (codes "x") Nil)
