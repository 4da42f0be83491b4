-- Contents exchanged twice are as they were.
use Rattle.std.proofs.Common.{◌≡◌, ◌^◌, ℕ, ◌<◌, Bool, true, false, true≢false, List, length, Option, Some, None, IfSome, refl, sym, ap, ◌∙◌, inl, inr}
use Rattle.std.proofs.lemmas.Bool.Decides.{eqb_tells}
use Rattle.std.specs.Option.{option_map, option_map_or, option_and_then}
use Rattle.dom_model.specs.declared.attributes.Attribute.{Attribute}
use Rattle.dom_model.specs.declared.Content.{Content}
use Rattle.dom_model.specs.declared.Content.TheVariants.{Document, Element, Words, Remark}
use Rattle.dom_model.specs.AttributeList.{IsDistinctNames}
use Rattle.dom_model.specs.Contents.{IsNode, has_chars, has_chars_at, is_element, is_element_at, chars_in, attributes_in, chars_of, attributes_of, with_chars, with_attributes, char_length}
use Rattle.dom_model.specs.Forest.{Forest, Seen, seek, count_of, IsDistinct, content_of}
use Rattle.dom_model.specs.Forest.Forest.{Nil, Tree}
use Rattle.dom_model.specs.Revised.{revised}
use Rattle.dom_model.proofs.Links.{eqb_refl_true, found_count}
use Rattle.dom_model.proofs.Revising.{content_of-revised}
use Rattle.dom_model.proofs.Stands.{Stands, seek_Stands}

module _ {C : Type 0} (n : ℕ) (g h : C → C) where
  undone_at : (q : Option ℕ) (f : Forest C) → ((s : Seen C) → Stands q f n s → h (g s.content) ≡ s.content) → revised (revised f n g) n h ≡ f
  undone_at q Nil same = refl
  undone_at q (Tree m c ks rest) same =
      let one = undone_at (Some m) ks (λ s st. same s (inr (inl st))) in
      let two = undone_at q rest (λ s st. same s (inr (inr st))) in
      elim (eqb_tells n m) [
        | inl (t, is) ↦ (let own : h (g c) ≡ c = same _ (inl (sym is, refl)) in rw t (λ i. Tree m (own i) (one i) (two i)))
        | inr (t, _) ↦ rw t (λ i. Tree m c (one i) (two i))
      ]

pub revised_back : {C : Type 0} (f : Forest C) (n : ℕ) (g h : C → C) → IsDistinct f → ((s : Seen C) → seek None f n ≡ Some s → h (g s.content) ≡ s.content) → revised (revised f n g) n h ≡ f
revised_back f n g h once same = undone_at n g h None f (λ s st. same s (seek_Stands None f n s (once n) st))

pub chars_back : (c : Content) (words old : List ℕ) → chars_in c ≡ Some old → with_chars old (with_chars words c) ≡ c
chars_back Document words old e = refl
chars_back (Element name list) words old e = refl
chars_back (Words chars) words old e = (let e' : Some chars ≡ Some old = e in let same : chars ≡ old = cc in ap Words (sym same))
chars_back (Remark chars) words old e = (let e' : Some chars ≡ Some old = e in let same : chars ≡ old = cc in ap Remark (sym same))

pub attributes_back : (c : Content) (list old : List Attribute) → attributes_in c ≡ Some old → with_attributes old (with_attributes list c) ≡ c
attributes_back Document list old e = refl
attributes_back (Element name own) list old e = (let e' : Some own ≡ Some old = e in let same : own ≡ old = cc in ap (Element name) (sym same))
attributes_back (Words chars) list old e = refl
attributes_back (Remark chars) list old e = refl

-- ---- what a content has

chars_are : (c : Content) → has_chars c ≡ true → char_length c < 2 ^ 32 → (old : List ℕ) × (chars_in c ≡ Some old) × (length old < 2 ^ 32)
chars_are Document t short = absurd (true≢false (sym t))
chars_are (Element name list) t short = absurd (true≢false (sym t))
chars_are (Words chars) t short = (chars, refl, short)
chars_are (Remark chars) t short = (chars, refl, short)

attributes_are : (c : Content) → is_element c ≡ true → IfSome (attributes_in c) IsDistinctNames → (old : List Attribute) × (attributes_in c ≡ Some old) × IsDistinctNames old
attributes_are Document t names = absurd (true≢false (sym t))
attributes_are (Element name list) t names = (list, refl, names)
attributes_are (Words chars) t names = absurd (true≢false (sym t))
attributes_are (Remark chars) t names = absurd (true≢false (sym t))

chars_new : (c : Content) (words : List ℕ) → has_chars c ≡ true → chars_in (with_chars words c) ≡ Some words
chars_new Document words t = absurd (true≢false (sym t))
chars_new (Element name list) words t = absurd (true≢false (sym t))
chars_new (Words chars) words t = refl
chars_new (Remark chars) words t = refl

attributes_new : (c : Content) (list : List Attribute) → is_element c ≡ true → attributes_in (with_attributes list c) ≡ Some list
attributes_new Document list t = absurd (true≢false (sym t))
attributes_new (Element name own) list t = refl
attributes_new (Words chars) list t = absurd (true≢false (sym t))
attributes_new (Remark chars) list t = absurd (true≢false (sym t))

chars_kind : (c : Content) (words : List ℕ) → has_chars (with_chars words c) ≡ has_chars c
chars_kind Document words = refl
chars_kind (Element name list) words = refl
chars_kind (Words chars) words = refl
chars_kind (Remark chars) words = refl

attributes_kind : (c : Content) (list : List Attribute) → is_element (with_attributes list c) ≡ is_element c
attributes_kind Document list = refl
attributes_kind (Element name own) list = refl
attributes_kind (Words chars) list = refl
attributes_kind (Remark chars) list = refl

-- ---- what a label has

pub here_is : (b : Content → Bool) (o : Option Content) → option_map_or b o false ≡ true → (c : Content) × (o ≡ Some c) × (b c ≡ true)
here_is b None t = absurd (true≢false (sym t))
here_is b (Some c) t = (c, refl, t)

-- a label with a content of some kind stands in the forest
pub stands : (f : Forest Content) (n : ℕ) (b : Content → Bool) → option_map_or b (content_of f n) false ≡ true → 0 < count_of f n
stands f n b t = by_seen (seek None f n) refl t
  where
    by_seen : (o : Option (Seen Content)) → seek None f n ≡ o → option_map_or b (option_map (λ (s : Seen Content). s.content) o) false ≡ true → 0 < count_of f n
    by_seen None e u = absurd (true≢false (sym u))
    by_seen (Some s) e u = found_count f n s e

-- the content after a change of it
content_changed : (f : Forest Content) (n : ℕ) (g : Content → Content) (c : Content) → content_of f n ≡ Some c → content_of (revised f n g) n ≡ Some (g c)
content_changed f n g c e = content_of-revised n g f n ∙ rw (e, eqb_refl_true n) refl

pub chars_there : (f : Forest Content) (n : ℕ) → IsDistinct f → ((l : ℕ) (s : Seen Content) → seek None f l ≡ Some s → IsNode l s) → has_chars_at f n ≡ true → (old : List ℕ) × (chars_of f n ≡ Some old) × (length old < 2 ^ 32)
chars_there f n once nodes t = by_seen (seek None f n) refl t
  where
    by_seen : (o : Option (Seen Content)) → seek None f n ≡ o → option_map_or has_chars (option_map (λ (s : Seen Content). s.content) o) false ≡ true → (old : List ℕ) × (chars_of f n ≡ Some old) × (length old < 2 ^ 32)
    by_seen None e u = absurd (true≢false (sym u))
    by_seen (Some s) e u = (let r = chars_are s.content u (nodes n s e).short in (r.0, ap (λ o. option_and_then chars_in (option_map (λ (x : Seen Content). x.content) o)) e ∙ r.1, r.2))

pub attributes_there : (f : Forest Content) (n : ℕ) → ((l : ℕ) (s : Seen Content) → seek None f l ≡ Some s → IsNode l s) → is_element_at f n ≡ true → (old : List Attribute) × (attributes_of f n ≡ Some old) × IsDistinctNames old
attributes_there f n nodes t = by_seen (seek None f n) refl t
  where
    by_seen : (o : Option (Seen Content)) → seek None f n ≡ o → option_map_or is_element (option_map (λ (s : Seen Content). s.content) o) false ≡ true → (old : List Attribute) × (attributes_of f n ≡ Some old) × IsDistinctNames old
    by_seen None e u = absurd (true≢false (sym u))
    by_seen (Some s) e u = (let r = attributes_are s.content u (nodes n s e).names in (r.0, ap (λ o. option_and_then attributes_in (option_map (λ (x : Seen Content). x.content) o)) e ∙ r.1, r.2))

pub chars_set : (f : Forest Content) (n : ℕ) (words : List ℕ) → has_chars_at f n ≡ true → chars_of (revised f n (with_chars words)) n ≡ Some words
chars_set f n words t =
    let c = here_is has_chars (content_of f n) t in
    ap (option_and_then chars_in) (content_changed f n (with_chars words) c.0 c.1) ∙ chars_new c.0 words c.2

pub attributes_set : (f : Forest Content) (n : ℕ) (list : List Attribute) → is_element_at f n ≡ true → attributes_of (revised f n (with_attributes list)) n ≡ Some list
attributes_set f n list t =
    let c = here_is is_element (content_of f n) t in
    ap (option_and_then attributes_in) (content_changed f n (with_attributes list) c.0 c.1) ∙ attributes_new c.0 list c.2

pub still_chars : (f : Forest Content) (n : ℕ) (words : List ℕ) → has_chars_at f n ≡ true → has_chars_at (revised f n (with_chars words)) n ≡ true
still_chars f n words t =
    let c = here_is has_chars (content_of f n) t in
    ap (λ o. option_map_or has_chars o false) (content_changed f n (with_chars words) c.0 c.1) ∙ (chars_kind c.0 words ∙ c.2)

pub still_element : (f : Forest Content) (n : ℕ) (list : List Attribute) → is_element_at f n ≡ true → is_element_at (revised f n (with_attributes list)) n ≡ true
still_element f n list t =
    let c = here_is is_element (content_of f n) t in
    ap (λ o. option_map_or is_element o false) (content_changed f n (with_attributes list) c.0 c.1) ∙ (attributes_kind c.0 list ∙ c.2)
