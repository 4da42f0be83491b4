-- The types of the nodes of a list.
use Rattle.std.proofs.Common.{◌≡◌, ℕ, Bool, true, false, not, ◌||◌, List, ◌∷◌, Some, refl, bytes_eq}
use Rattle.std.proofs.lemmas.Slice.Eq.{bytes_eq-Decides}
use Rattle.edit_model.specs.DomModel.declared.Content.{Content}
use Rattle.edit_model.specs.DomModel.Forest.{Forest}
use Rattle.edit_query.specs.BlockTypes.{block_at, type_in, type_of, has_other_type}

pub same_text : (xs ys : List ℕ) → xs ≡ ys → bytes_eq xs ys ≡ true
same_text xs ys is = (bytes_eq-Decides xs ys).1 is

pub text_same : (xs ys : List ℕ) → not (bytes_eq xs ys) ≡ false → xs ≡ ys
text_same xs ys off = (bytes_eq-Decides xs ys).0 (told (bytes_eq xs ys) off)
  where
    told : (b : Bool) → not b ≡ false → b ≡ true
    told true off = refl
    told false off = absurd (let t = off in cc)

-- the first node of a list has the type of its block
pub other_first : (f : Forest Content) (host l b : ℕ) (type ls : List ℕ) → block_at f host l ≡ Some b →
    has_other_type f host type (l ∷ ls) ≡ (not (bytes_eq (type_in f host b) type) || has_other_type f host type ls)
unfolding type_of
other_first f host l b type ls at = rw at refl
