-- Pairs in order and the list of declarations that they stand for change together.
use Rattle.std.proofs.Common.{◌≡◌, ℕ, zero, suc, ◌+◌, Bool, true, false, true≢false, cond, List, [], ◌∷◌, ◌++◌, take, drop, slice_get, Some, refl, sym, ap, subst, ◌∙◌, arith, bytes_eq, fold, Result, Ok, Err, OnOk, OnErr}
use Rattle.std.specs.List.{remove}
use Rattle.std.specs.Option.{option_map}
use Rattle.std.specs.declared.vec.Vec.{Vec}
use Rattle.css_value.specs.StyleText.{Declaration, stated, trimmed}
use Rattle.css_value.specs.DeclarationList.{value_of, set_in, unset_in, set_property, with_declaration, declarations_in, reads_back}
use Rattle.css_value.specs.DeclarationMap.{declarations_of, is_entry, EachReadsBack}
use Rattle.css_value.proofs.Names.{same-name}
use Rattle.css_value.proofs.ReadBack.{stated-back}

module _ {A B : Type 0} where
  -- the list without a name, as far as the entries before a place were looked at
  abbrev pub unset_from : List ℕ → ℕ → List (Vec ℕ A × Vec ℕ B) → List Declaration
  unset_from name i es = declarations_of (take i es) ++ unset_in (declarations_of (drop i es)) name

  -- an entry of another name
  other-value : (name : List ℕ) (i : ℕ) (es : List (Vec ℕ A × Vec ℕ B)) → is_entry name (slice_get es i) ≡ false → value_of (declarations_of (drop (suc i) es)) name ≡ value_of (declarations_of (drop i es)) name
  other-value name zero [] h = refl
  other-value name zero (e ∷ es) h = sym (ap (λ b. cond b (Some e.1.items) (value_of (declarations_of es) name)) h)
  other-value name (suc i) [] h = refl
  other-value name (suc i) (e ∷ es) h = other-value name i es h

  other-left : (name : List ℕ) (i : ℕ) (es : List (Vec ℕ A × Vec ℕ B)) → is_entry name (slice_get es i) ≡ false → unset_from name (suc i) es ≡ unset_from name i es
  other-left name zero [] h = refl
  other-left name zero (e ∷ es) h =
      let d : Declaration = record { name = e.0.items; value = e.1.items } in
      sym (ap (λ b. cond b (declarations_of es) (d ∷ unset_in (declarations_of es) name)) h)
  other-left name (suc i) [] h = refl
  other-left name (suc i) (e ∷ es) h =
      let d : Declaration = record { name = e.0.items; value = e.1.items } in
      ap (λ list. d ∷ list) (other-left name i es h)

  -- the entry of the name
  found-value : (name : List ℕ) (i : ℕ) (es : List (Vec ℕ A × Vec ℕ B)) → is_entry name (slice_get es i) ≡ true → value_of (declarations_of (drop i es)) name ≡ option_map (λ e. e.1.items) (slice_get es i)
  found-value name zero [] h = refl
  found-value name zero (e ∷ es) h = ap (λ b. cond b (Some e.1.items) (value_of (declarations_of es) name)) h
  found-value name (suc i) [] h = refl
  found-value name (suc i) (e ∷ es) h = found-value name i es h

  found-left : (name : List ℕ) (i : ℕ) (es : List (Vec ℕ A × Vec ℕ B)) → is_entry name (slice_get es i) ≡ true → unset_from name i es ≡ declarations_of (remove es i)
  found-left name zero [] h = absurd (true≢false (sym h))
  found-left name zero (e ∷ es) h =
      let d : Declaration = record { name = e.0.items; value = e.1.items } in
      ap (λ b. cond b (declarations_of es) (d ∷ unset_in (declarations_of es) name)) h
  found-left name (suc i) [] h = absurd (true≢false (sym h))
  found-left name (suc i) (e ∷ es) h =
      let d : Declaration = record { name = e.0.items; value = e.1.items } in
      ap (λ list. d ∷ list) (found-left name i es h)

  pub other-step : (name : List ℕ) (i : ℕ) (es : List (Vec ℕ A × Vec ℕ B)) → is_entry name (slice_get es i) ≡ false → (value_of (declarations_of (drop (i + 1) es)) name ≡ value_of (declarations_of (drop i es)) name) × (unset_from name (i + 1) es ≡ unset_from name i es)
  other-step name i es h =
      let next : i + 1 ≡ suc i = omega arith in
      (ap (λ k. value_of (declarations_of (drop k es)) name) next ∙ other-value name i es h, ap (λ k. unset_from name k es) next ∙ other-left name i es h)

  pub found-at : (name : List ℕ) (i : ℕ) (es : List (Vec ℕ A × Vec ℕ B)) → is_entry name (slice_get es i) ≡ true → value_of (declarations_of (drop i es)) name ≡ value_of (declarations_of es) name → unset_from name i es ≡ unset_in (declarations_of es) name → (value_of (declarations_of es) name ≡ option_map (λ e. e.1.items) (slice_get es i)) × (unset_in (declarations_of es) name ≡ declarations_of (remove es i))
  found-at name i es h value left = (sym value ∙ found-value name i es h, sym left ∙ found-left name i es h)

pub back-set_in : (list : List Declaration) (d : Declaration) → EachReadsBack list → reads_back d ≡ true → EachReadsBack (set_in list d.name d.value)
back-set_in [] d h k = (k, tt)
back-set_in (e ∷ list) d h k = split (bytes_eq d.name e.name) refl (back-set_in list d h.1 k)
  where
    split : (b : Bool) → bytes_eq d.name e.name ≡ b → EachReadsBack (set_in list d.name d.value) → EachReadsBack (cond b (record { name = e.name; value = d.value } ∷ list) (e ∷ set_in list d.name d.value))
    split true g further = (ap (λ n. reads_back (record { name = n; value = d.value })) (sym (same-name d.name e.name g)) ∙ k, h.1)
    split false g further = (h.0, further)

pub back-unset_in : (list : List Declaration) (name : List ℕ) → EachReadsBack list → EachReadsBack (unset_in list name)
back-unset_in [] name h = tt
back-unset_in (e ∷ list) name h = split (bytes_eq name e.name) (back-unset_in list name h.1)
  where
    split : (b : Bool) → EachReadsBack (unset_in list name) → EachReadsBack (cond b list (e ∷ unset_in list name))
    split true further = h.1
    split false further = (h.0, further)

-- one declaration more that is read into a map
pub read-step : (rest later : List ℕ) (list next all : List Declaration) (d : Declaration) (name value : List ℕ) → stated rest ≡ d ∷ stated later → name ≡ d.name → value ≡ d.value → next ≡ set_in list name value → fold with_declaration list (stated rest) ≡ all → EachReadsBack list → (fold with_declaration next (stated later) ≡ all) × EachReadsBack next
read-step rest later list next all d name value first is_name is_value put left back =
    let now : next ≡ set_in list d.name d.value = put ∙ ap (λ n. set_in list n value) is_name ∙ ap (set_in list d.name) is_value in
    let own : reads_back d ≡ true = (subst EachReadsBack first (stated-back rest)).0 in
    (ap (λ x. fold with_declaration x (stated later)) now ∙ ap (fold with_declaration list) (sym first) ∙ left, subst EachReadsBack (sym now) (back-set_in list d back own))

pub read-start : (text : List ℕ) (list : List Declaration) → list ≡ [] → (fold with_declaration list (stated text) ≡ declarations_in text) × EachReadsBack list
unfolding declarations_in
read-start text list h = (ap (λ x. fold with_declaration x (stated text)) h, subst EachReadsBack (sym h) tt)

-- setting a property, or failing to
pub put-back : {X E : Type 0} (r : Result X E) (old new : List Declaration) (name value : List ℕ) → OnOk r (new ≡ set_in old name value) → OnErr r (new ≡ old) → EachReadsBack old → reads_back (record { name = name; value = value }) ≡ true → EachReadsBack new
put-back (Ok x) old new name value ok err h k = subst EachReadsBack (sym ok) (back-set_in old (record { name = name; value = value }) h k)
put-back (Err e) old new name value ok err h k = subst EachReadsBack (sym err) h

pub set-true : (list : List Declaration) (name value : List ℕ) → reads_back (record { name = name; value = trimmed value }) ≡ true → set_property list name value ≡ set_in list name (trimmed value)
unfolding set_property
set-true list name value h = ap (λ b. cond b (set_in list name (trimmed value)) list) h

pub set-false : (list : List Declaration) (name value : List ℕ) → reads_back (record { name = name; value = trimmed value }) ≡ false → set_property list name value ≡ list
unfolding set_property
set-false list name value h = ap (λ b. cond b (set_in list name (trimmed value)) list) h
