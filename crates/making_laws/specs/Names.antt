-- The names of the elements that commands make of themselves, and of the attributes that they set.
use Rattle.std.specs.Prelude.{ℕ, Bool, List, [], ◌∷◌, codes}
use Rattle.edit_model.specs.HtmlNames.ElementNames.{is_one_of}

-- the elements
unfoldable pub made_names : List (List ℕ)
made_names =
    codes "a"
    ∷ codes "address"
    ∷ codes "b"
    ∷ codes "blockquote"
    ∷ codes "br"
    ∷ codes "dd"
    ∷ codes "div"
    ∷ codes "dl"
    ∷ codes "dt"
    ∷ codes "font"
    ∷ codes "h1"
    ∷ codes "h2"
    ∷ codes "h3"
    ∷ codes "h4"
    ∷ codes "h5"
    ∷ codes "h6"
    ∷ codes "hr"
    ∷ codes "i"
    ∷ codes "img"
    ∷ codes "li"
    ∷ codes "ol"
    ∷ codes "p"
    ∷ codes "pre"
    ∷ codes "s"
    ∷ codes "span"
    ∷ codes "sub"
    ∷ codes "sup"
    ∷ codes "u"
    ∷ codes "ul"
    ∷ []

-- the attributes
unfoldable pub set_names : List (List ℕ)
set_names =
    codes "color"
    ∷ codes "face"
    ∷ codes "href"
    ∷ codes "size"
    ∷ codes "src"
    ∷ codes "style"
    ∷ []

unfoldable pub is_made_name : List ℕ → Bool
is_made_name name = is_one_of made_names name

unfoldable pub is_set_name : List ℕ → Bool
is_set_name name = is_one_of set_names name
