-- The numbers of the document alone, without the loose trees.
use Rattle.std.specs.Prelude.{ℕ}
use Rattle.dom_model.specs.declared.Content.{Content}
use Rattle.dom_model.specs.Contents.{words_length}
use Rattle.dom_model.specs.Forest.{Forest, total, tree_of}
use Rattle.dom_model.specs.Places.{levels, kids_in}

-- how many nodes the document has, the Document among them
abbrev pub node_count : Forest Content → ℕ
node_count f = total (λ _ _. 1) (tree_of f 0)

-- how many characters the Words of the document have
abbrev pub char_count : Forest Content → ℕ
char_count f = total (λ _ c. words_length c) (tree_of f 0)

-- how deep the deepest node of the document is below the Document
abbrev pub page_depth : Forest Content → ℕ
page_depth f = levels (kids_in (tree_of f 0))
