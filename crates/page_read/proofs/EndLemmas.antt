-- The end of the characters.
use Rattle.std.proofs.Common.{◌≡◌, ℕ, true, false, List, [], ◌∷◌, refl}
use Rattle.page_grammar.specs.Page as page
use Rattle.page_grammar.specs.Machine.{IsReady, is_none_open, is_some_open}
use Rattle.page_read.specs.declared.scanner.Lexical.{Lexical}
use Rattle.page_read.specs.declared.scanner.Lexical.TheVariants.{Data, InText}
use Rattle.page_read.specs.View.{lexical_of}

pub none_open : (ws : List (List ℕ)) → is_some_open ws ≡ false → is_none_open ws
none_open [] h = tt
none_open (w ∷ ws) h = cc

pub still_open : (ws : List (List ℕ)) → is_some_open ws ≡ true → is_none_open ws → ⊥
still_open [] h n = cc
still_open (w ∷ ws) h n = n

pub not_ready : (l : Lexical) (t w : List ℕ) (ts : List page.Attribute) (k v : List ℕ) (ws : List (List ℕ)) → (l ≡ Data → ⊥) → (l ≡ InText → ⊥) → IsReady (lexical_of l t w ts k v ws) → ⊥
not_ready Data t w ts k v ws a b h = a refl
not_ready InText t w ts k v ws a b h = b refl
not_ready _ t w ts k v ws a b h = h
