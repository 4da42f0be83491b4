-- What the names of a style's declarations are, from the names as they stand in its text.
use Rattle.std.proofs.Common.{◌≡◌, ℕ, Bool, true, false, cond, not, ◌&&◌, ◌||◌, List, [], ◌∷◌, Option, Some, None, is_some, true≢false, refl, sym, ap, subst, ◌∙◌, fold, bytes_eq}
use Rattle.std.specs.Prelude.{map}
use Rattle.std.specs.List.{list_all, list_any}
use Rattle.std.specs.Option.{MatchOption}
use Rattle.std.proofs.lemmas.Slice.Eq.{bytes_eq-Decides}
use Rattle.css_value.specs.StyleText.{Declaration, stated}
use Rattle.css_value.specs.DeclarationList.{set_in, with_declaration, declarations_in, names_of}
use Rattle.css_value.specs.OnlyGroup.{is_nothing, is_one, is_only}

pub same-name : (a b : List ℕ) → bytes_eq a b ≡ true → a ≡ b
same-name a b h = (bytes_eq-Decides a b).0 h

pub name-is : (a : List ℕ) → bytes_eq a a ≡ true
name-is a = (bytes_eq-Decides a a).1 refl

and-true : (a : Bool) → (a && true) ≡ a
and-true true = refl
and-true false = refl

and-twice : (a b : Bool) → ((a && b) && a) ≡ (a && b)
and-twice true true = refl
and-twice true false = refl
and-twice false b = refl

and-assoc : (a b c : Bool) → (a && (b && c)) ≡ ((a && b) && c)
and-assoc true b c = refl
and-assoc false b c = refl

-- what an optional answer decides
pub none-test : {X : Type 0} (r : Option X) (b t : Bool) (N : Type 0) (S : X → Type 0) → MatchOption r N S → is_some r ≡ not b → (N → t ≡ true) → ((x : X) → S x → t ≡ false) → b ≡ t
none-test None true t N S h is none some = sym (none h)
none-test None false t N S h is none some = absurd (true≢false (sym is))
none-test (Some x) true t N S h is none some = absurd (true≢false is)
none-test (Some x) false t N S h is none some = sym (some x h)

all-set_in : (p : List ℕ → Bool) (list : List Declaration) (n v : List ℕ) → list_all p (names_of (set_in list n v)) ≡ (list_all p (names_of list) && p n)
all-set_in p [] n v = and-true (p n)
all-set_in p (d ∷ list) n v = split (bytes_eq n d.name) refl (all-set_in p list n v)
  where
    split : (b : Bool) → bytes_eq n d.name ≡ b → list_all p (names_of (set_in list n v)) ≡ (list_all p (names_of list) && p n) → list_all p (names_of (cond b (record { name = d.name; value = v } ∷ list) (d ∷ set_in list n v))) ≡ ((p d.name && list_all p (names_of list)) && p n)
    split true h further = sym (ap (λ m. (p d.name && list_all p (names_of list)) && p m) (same-name n d.name h) ∙ and-twice (p d.name) (list_all p (names_of list)))
    split false h further = ap (λ b. p d.name && b) further ∙ and-assoc (p d.name) (list_all p (names_of list)) (p n)

all-folded : (p : List ℕ → Bool) (list acc : List Declaration) → list_all p (names_of (fold with_declaration acc list)) ≡ (list_all p (names_of acc) && list_all p (names_of list))
all-folded p [] acc = sym (and-true (list_all p (names_of acc)))
all-folded p (d ∷ list) acc =
    all-folded p list (with_declaration acc d)
    ∙ ap (λ b. b && list_all p (names_of list)) (all-set_in p acc d.name d.value)
    ∙ sym (and-assoc (list_all p (names_of acc)) (p d.name) (list_all p (names_of list)))

-- all names pass where all names that stand in the text do
pub all-names : (p : List ℕ → Bool) (text : List ℕ) → list_all p (names_of (declarations_in text)) ≡ list_all p (names_of (stated text))
unfolding declarations_in
all-names p text = all-folded p (stated text) []

-- a list of two declarations or more stays one
more-folded : (test : List (List ℕ) → Bool) → ((a b : Declaration) (rest : List Declaration) → test (names_of (a ∷ b ∷ rest)) ≡ false) → (list : List Declaration) (a b : Declaration) (rest : List Declaration) → test (names_of (fold with_declaration (a ∷ b ∷ rest) list)) ≡ false
more-folded test is [] a b rest = is a b rest
more-folded test is (d ∷ list) a b rest = split (bytes_eq d.name a.name) (bytes_eq d.name b.name) (more-folded test is list)
  where
    split : (x y : Bool) → ((a b : Declaration) (rest : List Declaration) → test (names_of (fold with_declaration (a ∷ b ∷ rest) list)) ≡ false) → test (names_of (fold with_declaration (cond x (record { name = a.name; value = d.value } ∷ b ∷ rest) (a ∷ cond y (record { name = b.name; value = d.value } ∷ rest) (b ∷ set_in rest d.name d.value))) list)) ≡ false
    split true y further = further (record { name = a.name; value = d.value }) b rest
    split false true further = further a (record { name = b.name; value = d.value }) rest
    split false false further = further a b (set_in rest d.name d.value)

one-folded : (list : List Declaration) (m : Declaration) → is_one (names_of (fold with_declaration (m ∷ []) list)) ≡ list_all (λ n. bytes_eq m.name n) (names_of list)
one-folded [] m = refl
one-folded (d ∷ list) m = split (bytes_eq d.name m.name) refl (one-folded list)
  where
    split : (b : Bool) → bytes_eq d.name m.name ≡ b → ((m : Declaration) → is_one (names_of (fold with_declaration (m ∷ []) list)) ≡ list_all (λ n. bytes_eq m.name n) (names_of list)) → is_one (names_of (fold with_declaration (cond b (record { name = m.name; value = d.value } ∷ []) (m ∷ record { name = d.name; value = d.value } ∷ [])) list)) ≡ (bytes_eq m.name d.name && list_all (λ n. bytes_eq m.name n) (names_of list))
    split true h further =
        let is : bytes_eq m.name d.name ≡ true = subst (λ n. bytes_eq m.name n ≡ true) (sym (same-name d.name m.name h)) (name-is m.name) in
        further (record { name = m.name; value = d.value }) ∙ ap (λ b. b && list_all (λ n. bytes_eq m.name n) (names_of list)) (sym is)
    split false h further =
        more-folded is_one (λ a b rest. refl) list m (record { name = d.name; value = d.value }) []
        ∙ ap (λ b. b && list_all (λ n. bytes_eq m.name n) (names_of list)) (sym (other (bytes_eq m.name d.name) refl))
      where
        other : (b : Bool) → bytes_eq m.name d.name ≡ b → b ≡ false
        other true e =
            let is : bytes_eq d.name m.name ≡ true = subst (λ n. bytes_eq d.name n ≡ true) (sym (same-name m.name d.name e)) (name-is d.name) in
            cc
        other false e = refl

only-folded : (w : List ℕ) (list : List Declaration) (m : Declaration) → is_only w (names_of (fold with_declaration (m ∷ []) list)) ≡ (bytes_eq w m.name && list_all (λ n. bytes_eq w n) (names_of list))
only-folded w [] m = sym (and-true (bytes_eq w m.name))
only-folded w (d ∷ list) m = split (bytes_eq d.name m.name) refl (only-folded w list)
  where
    split : (b : Bool) → bytes_eq d.name m.name ≡ b → ((m : Declaration) → is_only w (names_of (fold with_declaration (m ∷ []) list)) ≡ (bytes_eq w m.name && list_all (λ n. bytes_eq w n) (names_of list))) → is_only w (names_of (fold with_declaration (cond b (record { name = m.name; value = d.value } ∷ []) (m ∷ record { name = d.name; value = d.value } ∷ [])) list)) ≡ (bytes_eq w m.name && (bytes_eq w d.name && list_all (λ n. bytes_eq w n) (names_of list)))
    split true h further = further (record { name = m.name; value = d.value }) ∙ again (bytes_eq w m.name) ∙ ap (λ n. bytes_eq w m.name && (bytes_eq w n && list_all (λ n. bytes_eq w n) (names_of list))) (sym (same-name d.name m.name h))
      where
        again : (b : Bool) → (b && list_all (λ n. bytes_eq w n) (names_of list)) ≡ (b && (b && list_all (λ n. bytes_eq w n) (names_of list)))
        again true = refl
        again false = refl
    split false h further =
        more-folded (is_only w) (λ a b rest. refl) list m (record { name = d.name; value = d.value }) []
        ∙ sym (neither (bytes_eq w m.name) (bytes_eq w d.name) refl refl)
      where
        neither : (a b : Bool) → bytes_eq w m.name ≡ a → bytes_eq w d.name ≡ b → (a && (b && list_all (λ n. bytes_eq w n) (names_of list))) ≡ false
        neither true true e f =
            let same : d.name ≡ m.name = sym (same-name w d.name f) ∙ same-name w m.name e in
            let is : bytes_eq d.name m.name ≡ true = (bytes_eq-Decides d.name m.name).1 same in
            cc
        neither true false e f = refl
        neither false b e f = refl

nothing-folded : (list : List Declaration) (a : Declaration) (rest : List Declaration) → is_nothing (names_of (fold with_declaration (a ∷ rest) list)) ≡ false
nothing-folded [] a rest = refl
nothing-folded (d ∷ list) a rest = split (bytes_eq d.name a.name) (nothing-folded list)
  where
    split : (b : Bool) → ((a : Declaration) (rest : List Declaration) → is_nothing (names_of (fold with_declaration (a ∷ rest) list)) ≡ false) → is_nothing (names_of (fold with_declaration (cond b (record { name = a.name; value = d.value } ∷ rest) (a ∷ set_in rest d.name d.value)) list)) ≡ false
    split true further = further (record { name = a.name; value = d.value }) rest
    split false further = further a (set_in rest d.name d.value)

-- a text that declares nothing, or declares d first and then what the list says
pub none-in : (text : List ℕ) → stated text ≡ [] → declarations_in text ≡ []
unfolding declarations_in
none-in text h = ap (fold with_declaration []) h

pub some-in : (text : List ℕ) (d : Declaration) (list : List Declaration) → stated text ≡ d ∷ list → is_nothing (names_of (declarations_in text)) ≡ false
unfolding declarations_in
some-in text d list h = ap (λ ds. is_nothing (names_of (fold with_declaration [] ds))) h ∙ nothing-folded list (record { name = d.name; value = d.value }) []

pub one-in : (text : List ℕ) (d : Declaration) (list : List Declaration) → stated text ≡ d ∷ list → is_one (names_of (declarations_in text)) ≡ list_all (λ n. bytes_eq d.name n) (names_of list)
unfolding declarations_in
one-in text d list h = ap (λ ds. is_one (names_of (fold with_declaration [] ds))) h ∙ one-folded list (record { name = d.name; value = d.value })

pub only-in : (text w : List ℕ) (d : Declaration) (list : List Declaration) → stated text ≡ d ∷ list → is_only w (names_of (declarations_in text)) ≡ (bytes_eq w d.name && list_all (λ n. bytes_eq w n) (names_of list))
unfolding declarations_in
only-in text w d list h = ap (λ ds. is_only w (names_of (fold with_declaration [] ds))) h ∙ only-folded w list (record { name = d.name; value = d.value })

-- a test of what each is mapped to
pub any_mapped : {X Y : Type 0} (g : X → Y) (p : Y → Bool) (xs : List X) → list_any p (map g xs) ≡ list_any (λ x. p (g x)) xs
any_mapped g p [] = refl
any_mapped g p (x ∷ xs) = ap (λ b. p (g x) || b) (any_mapped g p xs)
