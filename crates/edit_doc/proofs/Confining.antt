-- The tests on edits, as the fields of a document give them.
use Rattle.std.proofs.Common.{◌≡◌, ℕ, Bool, true, false, Option, Some, None, IfSome, refl, sym, ap, subst, ◌∙◌, inl, inr, eqb}
use Rattle.std.specs.Prelude.{◌||◌, nat_le}
use Rattle.std.proofs.lemmas.Bool.Decides.{eqb_tells}
use Rattle.std.specs.Option.{option_map_or}
use Rattle.edit_model.specs.DomModel.Editing.{is_editable}
use Rattle.edit_model.specs.DomModel.Forest.{is_label}
use Rattle.edit_model.specs.DomModel.ArenaState.{ArenaState as Arena}
use Rattle.edit_model.specs.NodeArena.declared.NodeRef.{NodeRef}
use Rattle.edit_model.specs.Confined.{is_editable_for, is_inside, is_made, is_open, is_own}
use Rattle.edit_model.specs.Gives.{label_of}
use Rattle.edit_doc.specs.declared.Doc.TheInside.{Inside}
use Rattle.edit_doc.specs.Whole.{Whole}
use Rattle.edit_doc.specs.Held.{Holds, Finds}
use Rattle.edit_doc.specs.Shows.{Shows}
use Rattle.edit_doc.specs.History.{other}
use Rattle.edit_doc.proofs.Inner.{seen}
use Rattle.edit_doc.proofs.SeenNodes.{editable_seen}

or_inverse : (a b : Bool) → (a || b) ≡ (b || a)
or_inverse true true = refl
or_inverse true false = refl
or_inverse false true = refl
or_inverse false false = refl

pub same_label : (n l : ℕ) → n ≡ l → eqb n l ≡ true
same_label n l e = elim (eqb_tells n l) [ inl (t, _) ↦ t | inr (_, ne) ↦ absurd (ne e) ]

pub other_label : (n l : ℕ) → (n ≡ l → ⊥) → eqb n l ≡ false
other_label n l ne = elim (eqb_tells n l) [ inl (_, e) ↦ absurd (ne e) | inr (t, _) ↦ t ]

module _ {v : Whole} {host : Option NodeRef} (finds : Finds v host v.state.host) where
  host_is : (o : Option NodeRef) → host ≡ o → v.state.host ≡ label_of o
  host_is o e = sym finds.is ∙ ap label_of e

  pub host_held : (h : NodeRef) → host ≡ Some h → Holds v h
  host_held h e = subst (λ o. IfSome o (λ r. Holds v r)) e finds.held

  pub editable_by : {a : Arena} → Shows v a → (node : NodeRef) → Holds v node → (h : NodeRef) → host ≡ Some h → is_editable_for v.state node.label ≡ is_editable a.trees h.label node.label
  unfolding is_editable_for
  editable_by s node holds h e =
      ap (λ o. option_map_or (λ j. is_editable v.state.trees j node.label) o false) (host_is (Some h) e) ∙ editable_seen s node holds h.label

  pub editable_none : (l : ℕ) → host ≡ None → is_editable_for v.state l ≡ false
  unfolding is_editable_for
  editable_none l e = ap (λ o. option_map_or (λ j. is_editable v.state.trees j l) o false) (host_is None e)

  pub inside_host : (l : ℕ) (h : NodeRef) → host ≡ Some h → h.label ≡ l → is_inside v.state l ≡ true
  unfolding is_inside
  inside_host l h e same = ap (λ o. is_label o l || is_editable_for v.state l) (host_is (Some h) e) ∙ ap (λ b. b || is_editable_for v.state l) (same_label h.label l same)

  pub inside_other : (l : ℕ) (h : NodeRef) → host ≡ Some h → (h.label ≡ l → ⊥) → is_inside v.state l ≡ is_editable_for v.state l
  unfolding is_inside
  inside_other l h e other = ap (λ o. is_label o l || is_editable_for v.state l) (host_is (Some h) e) ∙ ap (λ b. b || is_editable_for v.state l) (other_label h.label l other)

  pub inside_none : (l : ℕ) → host ≡ None → is_inside v.state l ≡ is_editable_for v.state l
  unfolding is_inside
  inside_none l e = ap (λ o. is_label o l || is_editable_for v.state l) (host_is None e)

pub made_by : (d : Inside) (v : Whole) → seen d ≡ v → (l : ℕ) → nat_le d.command.start l ≡ is_made v.state l
unfolding is_made
made_by d v is l = ap (λ (w : Whole). nat_le w.state.start l) is

pub open_made : (v : Whole) (l : ℕ) → is_made v.state l ≡ true → is_open v.state l ≡ true
unfolding is_open
open_made v l e = or_inverse (is_inside v.state l) (is_made v.state l) ∙ ap (λ b. b || is_inside v.state l) e

pub open_other : (v : Whole) (l : ℕ) → is_made v.state l ≡ false → is_open v.state l ≡ is_inside v.state l
unfolding is_open
open_other v l e = or_inverse (is_inside v.state l) (is_made v.state l) ∙ ap (λ b. b || is_inside v.state l) e

pub own_made : (v : Whole) (l : ℕ) → is_made v.state l ≡ true → is_own v.state l ≡ true
unfolding is_own
own_made v l e = or_inverse (is_editable_for v.state l) (is_made v.state l) ∙ ap (λ b. b || is_editable_for v.state l) e

pub own_other : (v : Whole) (l : ℕ) → is_made v.state l ≡ false → is_own v.state l ≡ is_editable_for v.state l
unfolding is_own
own_other v l e = or_inverse (is_editable_for v.state l) (is_made v.state l) ∙ ap (λ b. b || is_editable_for v.state l) e
