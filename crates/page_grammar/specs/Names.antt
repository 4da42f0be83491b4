-- Names with a meaning in the grammar. The tables of elements are those of html_names.
use Rattle.std.specs.Prelude.{ℕ, Bool, List}
use Rattle.std.specs.Str.{bytes_eq}
use Rattle.html_names.specs.ElementNames.{is_one_of, refused_names}
pub use Rattle.html_names.specs.ElementNames.{is_one_of}
unfoldable pub use Rattle.html_names.specs.ElementNames.{void_names, refused_names, is_void}

-- equal texts, which std compares number by number
abbrev pub same_text : List ℕ → List ℕ → Bool
same_text xs ys = bytes_eq xs ys

-- a page may not have such an element
unfoldable pub is_refused : List ℕ → Bool
is_refused w = is_one_of refused_names w
