-- Where nodes stand after a change: only the node that it moves has another parent.
use Rattle.std.proofs.Common.{◌≡◌, ◌≢◌, ◌⊎◌, ℕ, ◌<◌, cond, eqb, List, [], ◌∷◌, length, Option, Some, None, unwrap_or, refl, sym, ap, subst, ◌∙◌, inl, inr, arith}
use Rattle.std.specs.Option.{option_and_then}
use Rattle.std.proofs.lemmas.Bool.Decides.{eqb_tells}
use Rattle.edit_model.specs.DomModel.declared.Content.{Content}
use Rattle.edit_model.specs.DomModel.Contents.{with_chars, with_attributes}
use Rattle.edit_model.specs.DomModel.Forest.{Forest, Seen, seek, tops, times, count_of, IsDistinct, parent_of, unlink, link}
use Rattle.edit_model.specs.DomModel.ArenaState.{CanLink}
use Rattle.edit_model.proofs.DomModel.Links.{seen as seen_at, parent_of-link, parent_of-unlink, eqb_refl_true}
use Rattle.edit_model.proofs.DomModel.Revising.{parent_of-revised}
use Rattle.edit_model.proofs.DomModel.Stands.{times-tops, parent_stands}
use Rattle.edit_model.proofs.DomModel.Totals.{total-unlink}
use Rattle.step_edits.specs.ForestChanges.Change.{Change, Remove, Insert, Move, SetText, Splice, SetAttributes, IsForest, Fits, applied, spliced_at}
use Rattle.step_edits.specs.ForestChanges.Named.{named, Each}
use Rattle.step_edits.proofs.ForestChanges.Twice.{given_parent, IsForest-unlink, IsForest-applied, count_of-applied}
use Rattle.edit_doc.proofs.HiddenTrees.{top_loose}

-- the node that a change is about
abbrev pub node_of : Change → ℕ
node_of (Remove n) = n
node_of (Insert n p b) = n
node_of (Move n p b) = n
node_of (SetText n words) = n
node_of (Splice n at rest taken put) = n
node_of (SetAttributes n list) = n

-- the tree that it makes loose, if it does
abbrev pub loosed : Change → List ℕ
loosed (Remove n) = n ∷ []
loosed (Insert n p b) = []
loosed (Move n p b) = []
loosed (SetText n words) = []
loosed (Splice n at rest taken put) = []
loosed (SetAttributes n list) = []

pub named_node : (P : ℕ → Type 0) (x : Change) → Each P (named x) → P (node_of x)
named_node P (Remove n) h = h.0
named_node P (Insert n p b) h = h.0
named_node P (Move n p b) h = h.0
named_node P (SetText n words) h = h.0
named_node P (Splice n at rest taken put) h = h.0
named_node P (SetAttributes n list) h = h.0

pub each_loosed : (P : ℕ → Type 0) (x : Change) → P (node_of x) → Each P (loosed x)
each_loosed P (Remove n) h = (h, tt)
each_loosed P (Insert n p b) h = tt
each_loosed P (Move n p b) h = tt
each_loosed P (SetText n words) h = tt
each_loosed P (Splice n at rest taken put) h = tt
each_loosed P (SetAttributes n list) h = tt

pub root_top : (f : Forest Content) (l : ℕ) → IsDistinct f → 0 < count_of f l → parent_of f l ≡ None → 0 < times (tops f) l
root_top f l once here root =
    let s = seen_at f l once here in
    let own : s.0.parent ≡ None = rw s.2 at root in
    elim (parent_stands None f l s.0 s.1) [ inl (_, h) ↦ h | inr (q, _, up, _, _) ↦ absurd (let e : Some q ≡ None = sym up ∙ own in cc) ]

other_label : {A : Type 0} (n l : ℕ) (a b : A) → n ≢ l → cond (eqb n l) a b ≡ b
other_label n l a b off = elim (eqb_tells n l) [ inl (_, same) ↦ absurd (off same) | inr (e, _) ↦ rw e refl ]

same_label : {A : Type 0} (n : ℕ) (a b : A) → cond (eqb n n) a b ≡ a
same_label n a b = rw (eqb_refl_true n) refl

parent_is : (f : Forest Content) (l : ℕ) (s : Seen Content) → seek None f l ≡ Some s → parent_of f l ≡ s.parent
parent_is f l s e = ap (option_and_then (λ (r : Seen Content). r.parent)) e

parent-unlink : (f : Forest Content) (n l : ℕ) → IsForest f → parent_of f n ≡ Some (unwrap_or (parent_of f n) 0) → 0 < count_of f l → n ≢ l → parent_of (unlink f n) l ≡ parent_of f l
parent-unlink f n l is child here off =
    let s = seen_at f l is.distinct here in
    parent_of-unlink f (unwrap_or (parent_of f n) 0) n is.distinct child l s.0 s.2 ∙ (other_label n l None s.0.parent off ∙ sym (parent_is f l s.0 s.2))

parent-link : (f : Forest Content) (n p : ℕ) (b : Option ℕ) (l : ℕ) → IsForest f → CanLink f p b n → 0 < count_of f l → n ≢ l → parent_of (link f p b n) l ≡ parent_of f l
parent-link f n p b l is can here off =
    let s = seen_at f l is.distinct here in
    parent_of-link f p b n is.distinct can.place l s.0 s.2 ∙ (other_label n l (Some p) s.0.parent off ∙ sym (parent_is f l s.0 s.2))

linked : (f : Forest Content) (n p : ℕ) (b : Option ℕ) → IsForest f → CanLink f p b n → parent_of (link f p b n) n ≡ Some p
linked f n p b is can =
    let s = seen_at f n is.distinct can.place.node in
    parent_of-link f p b n is.distinct can.place n s.0 s.2 ∙ same_label n (Some p) s.0.parent

pub parent_other : (x : Change) (f : Forest Content) (l : ℕ) → Fits x f → 0 < count_of f l → node_of x ≢ l → parent_of (applied x f) l ≡ parent_of f l
unfolding applied
parent_other (Remove n) f l h here off = parent-unlink f n l h.forest (given_parent f n h.here) here off
parent_other (Insert n p b) f l h here off = parent-link f n p b l h.forest h.here here off
parent_other (Move n p b) f l h here off =
    let child = given_parent f n h.here.0 in
    let g = IsForest-unlink f (unwrap_or (parent_of f n) 0) n h.forest child in
    parent-link (unlink f n) n p b l g h.here.1 (omega (arith, here, total-unlink (λ m _. cond (eqb m l) 1 0) f n)) off ∙ parent-unlink f n l h.forest child here off
parent_other (SetText n words) f l h here off = parent_of-revised n (with_chars words) f l
parent_other (Splice n at rest taken put) f l h here off = parent_of-revised n (with_chars (spliced_at f n at (length taken) put)) f l
parent_other (SetAttributes n list) f l h here off = parent_of-revised n (with_attributes list) f l

-- the tree of the node is loose after the change: it was loose before, or is made so
own_root : (x : Change) (f : Forest Content) → Fits x f → parent_of (applied x f) (node_of x) ≡ None → (parent_of f (node_of x) ≡ None) ⊎ (loosed x ≡ node_of x ∷ [])
unfolding applied
own_root (Remove n) f h root = inr refl
own_root (Insert n p b) f h root = absurd (let e : Some p ≡ None = sym (linked f n p b h.forest h.here) ∙ root in cc)
own_root (Move n p b) f h root =
    let g = IsForest-unlink f (unwrap_or (parent_of f n) 0) n h.forest (given_parent f n h.here.0) in
    absurd (let e : Some p ≡ None = sym (linked (unlink f n) n p b g h.here.1) ∙ root in cc)
own_root (SetText n words) f h root = inl (sym (parent_of-revised n (with_chars words) f n) ∙ root)
own_root (Splice n at rest taken put) f h root = inl (sym (parent_of-revised n (with_chars (spliced_at f n at (length taken) put)) f n) ∙ root)
own_root (SetAttributes n list) f h root = inl (sym (parent_of-revised n (with_attributes list) f n) ∙ root)

-- ---- roots

pub root_stays : (x : Change) (f : Forest Content) (l : ℕ) → Fits x f → node_of x ≢ l → 0 < times (tops f) l → 0 < times (tops (applied x f)) l
root_stays x f l h off top =
    let here : 0 < count_of f l = omega (arith, top, times-tops f l) in
    root_top (applied x f) l (IsForest-applied x f h).distinct (omega (arith, here, count_of-applied x f h l))
    (parent_other x f l h here off ∙ top_loose f l h.forest.distinct top)

pub root_was : (x : Change) (f : Forest Content) (l : ℕ) → Fits x f → 0 < times (tops (applied x f)) l → (0 < times (tops f) l) ⊎ (loosed x ≡ l ∷ [])
root_was x f l h top =
    let here : 0 < count_of f l = omega (arith, top, times-tops (applied x f) l, count_of-applied x f h l) in
    let root = top_loose (applied x f) l (IsForest-applied x f h).distinct top in
    elim (eqb_tells (node_of x) l) [
      | inl (_, same) ↦ (let root' : parent_of (applied x f) (node_of x) ≡ None = rw same root in
          elim (own_root x f h root') [
            | inl was ↦ inl (root_top f l h.forest.distinct here (subst (λ m. parent_of f m ≡ None) same was))
            | inr loose ↦ inr (loose ∙ ap (λ m. m ∷ []) same)
          ])
      | inr (_, off) ↦ inl (root_top f l h.forest.distinct here (sym (parent_other x f l h here off) ∙ root))
    ]
