-- What the list of a style's declarations says of one name.
use Rattle.std.proofs.Common.{◌≡◌, ℕ, Bool, true, false, cond, List, [], ◌∷◌, Option, Some, None, refl, sym, ap, subst, ◌∙◌, fold, bytes_eq}
use Rattle.std.proofs.lemmas.Slice.Eq.{bytes_eq-Decides}
use Rattle.css_value.specs.StyleText.{Declaration, stated}
use Rattle.css_value.specs.DeclarationList.{value_of, set_in, with_declaration, declarations_in}

-- the value of the last declaration of a name, or what was found before
abbrev pub last_value : Option (List ℕ) → List ℕ → List Declaration → Option (List ℕ)
last_value found name [] = found
last_value found name (d ∷ list) = last_value (cond (bytes_eq name d.name) (Some d.value) found) name list

pub value_of-set_in : (list : List Declaration) (n v name : List ℕ) → value_of (set_in list n v) name ≡ cond (bytes_eq name n) (Some v) (value_of list name)
value_of-set_in [] n v name = refl
value_of-set_in (d ∷ list) n v name = split (bytes_eq n d.name) refl (value_of-set_in list n v name)
  where
    apart : (a b : Bool) → bytes_eq n d.name ≡ false → bytes_eq name d.name ≡ a → bytes_eq name n ≡ b → cond a (Some d.value) (cond b (Some v) (value_of list name)) ≡ cond b (Some v) (cond a (Some d.value) (value_of list name))
    apart true true h e f =
        let same : n ≡ d.name = sym ((bytes_eq-Decides name n).0 f) ∙ (bytes_eq-Decides name d.name).0 e in
        let is : bytes_eq n d.name ≡ true = (bytes_eq-Decides n d.name).1 same in
        cc
    apart true false h e f = refl
    apart false true h e f = refl
    apart false false h e f = refl

    split : (b : Bool) → bytes_eq n d.name ≡ b → value_of (set_in list n v) name ≡ cond (bytes_eq name n) (Some v) (value_of list name) → value_of (cond b (record { name = d.name; value = v } ∷ list) (d ∷ set_in list n v)) name ≡ cond (bytes_eq name n) (Some v) (cond (bytes_eq name d.name) (Some d.value) (value_of list name))
    split true h further =
        let same : n ≡ d.name = (bytes_eq-Decides n d.name).0 h in
        let again : (b : Bool) → cond b (Some v) (value_of list name) ≡ cond b (Some v) (cond b (Some d.value) (value_of list name)) = λ b. elim b as (λ b. cond b (Some v) (value_of list name) ≡ cond b (Some v) (cond b (Some d.value) (value_of list name))) [ true ↦ refl | false ↦ refl ] in
        subst (λ m. cond (bytes_eq name d.name) (Some v) (value_of list name) ≡ cond (bytes_eq name m) (Some v) (cond (bytes_eq name d.name) (Some d.value) (value_of list name))) (sym same) (again (bytes_eq name d.name))
    split false h further = ap (λ x. cond (bytes_eq name d.name) (Some d.value) x) further ∙ apart (bytes_eq name d.name) (bytes_eq name n) h refl refl

pub last_value-is : (list acc : List Declaration) (name : List ℕ) → last_value (value_of acc name) name list ≡ value_of (fold with_declaration acc list) name
last_value-is [] acc name = refl
last_value-is (d ∷ list) acc name = ap (λ found. last_value found name list) (sym (value_of-set_in acc d.name d.value name)) ∙ last_value-is list (with_declaration acc d) name

pub last_value-all : (text name : List ℕ) → last_value None name (stated text) ≡ value_of (declarations_in text) name
unfolding declarations_in
last_value-all text name = last_value-is (stated text) [] name
