-- The entry that a run leaves leads from its document to that after it, and so does one that the run makes longer.
use Rattle.std.proofs.Common.{◌≡◌, ◌⊎◌, ℕ, ◌+◌, ◌<◌, ◌≤◌, Bool, true, false, true≢false, eqb, List, [], ◌∷◌, ◌++◌, Option, Some, None, refl, sym, ap, subst, ◌∙◌, inl, inr, arith}
use Rattle.std.specs.Prelude.{◌&&◌, nat_le}
use Rattle.std.proofs.lemmas.Bool.Decides.{eqb_tells, nat_tests}
use Rattle.edit_model.specs.DomModel.declared.Content.{Content}
use Rattle.edit_model.specs.DomModel.Forest.{Forest, count_of, parent_of, with_leaf}
use Rattle.edit_model.specs.DomModel.Forest.Forest.{Nil, Tree}
use Rattle.edit_model.specs.DomModel.Pruned.{pruned, IsWhole}
use Rattle.edit_model.specs.LiveRange.PointsEdit.{has_label}
use Rattle.edit_model.proofs.DomModel.Links.{eqb_refl_true, parent_count, parent_of-with_leaf}
use Rattle.edit_model.proofs.DomModel.Pruning.{whole_stays}
use Rattle.edit_model.proofs.DomModel.Stands.{true_or_false}
use Rattle.inline_value.specs.UndoLog.Turning.{forth, FitsForth}
use Rattle.inline_value.specs.ForestChanges.Change.{Change, IsForest, Fits, applied}
use Rattle.inline_value.specs.ForestChanges.Down.{Prunes, IsLeft}
use Rattle.inline_value.specs.ForestChanges.Leaves.{IsBelow, IsMade}
use Rattle.inline_value.specs.ForestChanges.Named.{Each, named_in}
use Rattle.inline_value.proofs.ForestChanges.BesideLeaf.{fresh}
use Rattle.inline_value.proofs.ForestChanges.ChangeLists.{each_join, forth_down, forth_fits_up}
use Rattle.inline_value.proofs.ForestChanges.DownChange.{prunes_roots}
use Rattle.inline_value.proofs.ForestChanges.ManyLeaves.{pruned-with_leaf}
use Rattle.edit_model.specs.History.{document_of, used}
use Rattle.inline_value.specs.EditDoc.History.{is_hidden}
use Rattle.inline_value.specs.EditDoc.Onward.{with_made, RiseFrom, next_past}
use Rattle.inline_value.proofs.EditDoc.Downs.{forth_forest, forth_labels}
use Rattle.inline_value.proofs.EditDoc.HiddenTrees.{pruned-none, hidden_is, top_loose, model_forest, seen_at_rest, le_false}
use Rattle.inline_value.proofs.EditDoc.Leading.{same_document}
use Rattle.inline_value.proofs.EditDoc.MadeApart.{each_used, is_unnamed}
use Rattle.inline_value.proofs.EditDoc.Onwards.{rise_weaker, past_weaker}
use Rattle.replay_laws.proofs.MadeBeside.{fits_join, forth_join, with_made-join, rise_join, past_join, one_made, has_nodes, fit_beside}
use Rattle.replay_laws.proofs.RunsFit.{LeadTo}

-- ---- nodes that are used

used_rise : (xs : List Change) (ns : List (ℕ × Content)) (next from : ℕ) → next ≤ from → RiseFrom from ns → RiseFrom next (used xs ns)
unfolding used
used_rise xs [] next from le rise = tt
used_rise xs (n ∷ ns) next from le rise = elim (true_or_false (has_label (named_in xs) n.0)) [
  | inl t ↦ rw t ((let low = rise.0 in omega (arith, le, low)), used_rise xs ns (n.0 + 1) (n.0 + 1) (omega arith) rise.1)
  | inr t ↦ rw t (used_rise xs ns next (n.0 + 1) (let low = rise.0 in omega (arith, le, low)) rise.1)
]

used_past : (xs : List Change) (ns : List (ℕ × Content)) (next : ℕ) → RiseFrom next ns → next_past next (used xs ns) ≤ next_past next ns
unfolding used
used_past xs [] next rise = omega arith
used_past xs (n ∷ ns) next rise =
    let more = used_past xs ns (n.0 + 1) rise.1 in
    elim (true_or_false (has_label (named_in xs) n.0)) [
      | inl t ↦ rw t more
      | inr t ↦ rw t (
          let low = rise.0 in
          let less = past_weaker (used xs ns) next (n.0 + 1) (omega (arith, low)) in
          omega (arith, more, less))
    ]

-- ---- trees that go

pruned_leaf : (k : ℕ → Bool) (l : ℕ) (c : Content) → k l ≡ true → (f : Forest Content) → pruned k (with_leaf f l c) ≡ pruned k f
pruned_leaf k l c gone Nil = rw gone refl
pruned_leaf k l c gone (Tree j d ks rest) = elim (true_or_false (k j)) [
  | inl t ↦ rw t (pruned_leaf k l c gone rest)
  | inr t ↦ rw t (ap (Tree j d ks) (pruned_leaf k l c gone rest))
]

pruned_old : (k : ℕ → Bool) (f : Forest Content) → ((l : ℕ) → 0 < count_of f l → k l ≡ false) → pruned k f ≡ f
pruned_old k Nil old = refl
pruned_old k (Tree j d ks rest) old =
    let own : k j ≡ false = old j (let t = eqb_refl_true j in rw t (omega arith)) in
    rw own (ap (Tree j d ks) (pruned_old k rest (λ l here. old l (omega (arith, here)))))

-- those that no change names
used_stay : (xs : List Change) (first : ℕ) (ns : List (ℕ × Content)) (g : Forest Content) (next : ℕ) → first ≤ next → RiseFrom next ns → pruned (is_unnamed (named_in xs) first) (with_made g ns) ≡ with_made (pruned (is_unnamed (named_in xs) first) g) (used xs ns)
unfolding used
used_stay xs first [] g next le rise = refl
used_stay xs first (n ∷ ns) g next le rise =
    let low = rise.0 in
    let new : nat_le first n.0 ≡ true = at_least first n.0 (omega (arith, le, low)) in
    let more = used_stay xs first ns (with_leaf g n.0 n.1) (n.0 + 1) (omega (arith, le, low)) rise.1 in
    elim (true_or_false (has_label (named_in xs) n.0)) [
      | inl t ↦ (
          let out : is_unnamed (named_in xs) first n.0 ≡ false = rw (new, t) refl in
          let kept = pruned-with_leaf (is_unnamed (named_in xs) first) n.0 n.1 out g in
          rw t (more ∙ ap (λ (w : Forest Content). with_made w (used xs ns)) kept))
      | inr t ↦ (
          let gone : is_unnamed (named_in xs) first n.0 ≡ true = rw (new, t) refl in
          let less = pruned_leaf (is_unnamed (named_in xs) first) n.0 n.1 gone g in
          rw t (more ∙ ap (λ (w : Forest Content). with_made w (used xs ns)) less))
    ]
  where
    at_least : (a b : ℕ) → a ≤ b → nat_le a b ≡ true
    at_least a b h = grind (arith, nat_tests)

-- where all these labels are kept, the nodes stay
made_stay : (k : ℕ → Bool) (first : ℕ) → ((l : ℕ) → first ≤ l → k l ≡ false) → (ns : List (ℕ × Content)) (g : Forest Content) (next : ℕ) → first ≤ next → RiseFrom next ns → pruned k (with_made g ns) ≡ with_made (pruned k g) ns
made_stay k first out [] g next le rise = refl
made_stay k first out (n ∷ ns) g next le rise =
    let low = rise.0 in
    made_stay k first out ns (with_leaf g n.0 n.1) (n.0 + 1) (omega (arith, le, low)) rise.1
    ∙ ap (λ (w : Forest Content). with_made w ns) (pruned-with_leaf k n.0 n.1 (out n.0 (omega (arith, le, low))) g)

-- a node that was made is no parent and has none
parents : (ns : List (ℕ × Content)) (g : Forest Content) (next : ℕ) → IsForest g → IsBelow g next → RiseFrom next ns → Each (λ (n : ℕ × Content). IsMade n.1) ns → (l : ℕ) → parent_of (with_made g ns) l ≡ parent_of g l
parents [] g next is low rise made l = refl
parents (n ∷ ns) g next is low rise made l =
    let o = one_made n.0 n.1 g next is low rise.0 made.0 in
    parents ns (with_leaf g n.0 n.1) (n.0 + 1) o.forest o.below rise.1 made.1 l ∙ parent_of-with_leaf g n.0 n.1 (fresh n.0 n.1 g o.own) l

-- ---- labels that changes name

each_with : (P Q : ℕ → Type 0) (ls : List ℕ) → ((l : ℕ) → has_label ls l ≡ true → P l → Q l) → Each P ls → Each Q ls
each_with P Q [] go h = tt
each_with P Q (l ∷ ls) go h = (go l own h.0, each_with P Q ls (λ m t. go m (later m t)) h.1)
  where
    own : has_label (l ∷ ls) l ≡ true
    own = (let t : eqb l l ≡ true = grind (arith, nat_tests) in rw t refl)

    later : (m : ℕ) → has_label ls m ≡ true → has_label (l ∷ ls) m ≡ true
    later m t = elim (eqb_tells l m) [ inl (e, _) ↦ rw e refl | inr (e, _) ↦ rw e t ]

names_there : (xs : List Change) (g : Forest Content) → IsForest g → FitsForth applied Fits xs g → Each (λ (l : ℕ). 0 < count_of g l) (named_in xs)
names_there xs g is fits =
    let k : ℕ → Bool = λ _. false in
    let prunes : Prunes k g = prunes_roots k g is refl (λ l t. absurd (true≢false (sym t))) in
    let same : pruned k g ≡ g = pruned-none g in
    let all = (forth_fits_up k xs g prunes is (subst (λ (w : Forest Content). FitsForth applied Fits xs w) (sym same) fits)).1 in
    subst (λ (w : Forest Content). Each (λ (l : ℕ). 0 < count_of w l) (named_in xs)) same all

-- ---- what is true of the used nodes alone

pub record UsedLead (f : Forest Content) (first : ℕ) (xs : List Change) (ns : List (ℕ × Content)) (last : Forest Content) : Type 0 where
  pub rise : RiseFrom first (used xs ns)
  pub past : next_past first (used xs ns) ≤ next_past first ns
  pub made : Each (λ (n : ℕ × Content). IsMade n.1) (used xs ns)
  pub fits : FitsForth applied Fits xs (with_made f (used xs ns))
  pub after : document_of (forth applied xs (with_made f (used xs ns))) ≡ document_of last

module _ (f : Forest Content) (first : ℕ) (is : IsForest f) (low : IsBelow f first) (xs : List Change) (ns : List (ℕ × Content)) (last : Forest Content) (next : ℕ) (lead : LeadTo f first last xs ns next) where
  abbrev g : Forest Content
  g = with_made f ns

  abbrev u : ℕ → Bool
  u = is_unnamed (named_in xs) first

  isg : IsForest g
  isg = (has_nodes ns f first is low lead.rise lead.made).forest

  old_stay : (l : ℕ) → l < first → u l ≡ false
  old_stay l lt = (let t : nat_le first l ≡ false = le_false first l lt in rw t refl)

  first_some : 0 < first
  first_some = low.below 0 is.document

  no_parent : (l : ℕ) → u l ≡ true → parent_of g l ≡ None
  no_parent l t = parents ns f first is low lead.rise lead.made l ∙ by_parent (parent_of f l) refl
    where
      by_parent : (o : Option ℕ) → parent_of f l ≡ o → o ≡ None
      by_parent None e = refl
      by_parent (Some p) e = absurd (
          let here = parent_count f l p is.distinct e in
          true≢false (sym t ∙ old_stay l (low.below l here.0)))

  whole : IsWhole u g
  whole = record {
    same = λ l p up. (
        let up' : parent_of f l ≡ Some p = sym (parents ns f first is low lead.rise lead.made l) ∙ up in
        let here = parent_count f l p is.distinct up' in
        old_stay l (low.below l here.0) ∙ sym (old_stay p (low.below p here.1)));
  }

  prunes : Prunes u g
  prunes = prunes_roots u g isg (old_stay 0 first_some) no_parent

  names : Each (IsLeft u g) (named_in xs)
  names = each_with (λ (l : ℕ). 0 < count_of g l) (IsLeft u g) (named_in xs) (λ l t here. (
      let named : u l ≡ false = rw t (and_false (nat_le first l)) in
      let same = whole_stays u g isg.distinct whole l named in
      omega (arith, here, same))) (names_there xs g isg lead.fits)
    where
      and_false : (a : Bool) → (a && false) ≡ false
      and_false true = refl
      and_false false = refl

  left : pruned u g ≡ with_made f (used xs ns)
  left = used_stay xs first ns f first (omega arith) lead.rise ∙ ap (λ (w : Forest Content). with_made w (used xs ns)) (pruned_old u f (λ l here. old_stay l (low.below l here)))

  pub used_lead : UsedLead f first xs ns last
  used_lead =
      let down = forth_down u xs g prunes lead.fits names in
      record {
        rise = used_rise xs ns first first (omega arith) lead.rise;
        past = used_past xs ns first lead.rise;
        made = each_used (λ (n : ℕ × Content). IsMade n.1) xs ns lead.made;
        fits = subst (λ (w : Forest Content). FitsForth applied Fits xs w) left down.fits;
        after = ap (λ (w : Forest Content). document_of (forth applied xs w)) (sym left)
            ∙ (ap document_of (sym down.same)
            ∙ (same_document u (forth applied xs g) (old_stay 0 first_some) (forth_forest xs g lead.fits isg)
            ∙ ap document_of lead.same));
      }

-- ---- a longer entry

-- the changes ys, on d with the nodes ms, give the document f, and those of xs lead on from there
module _ (d : Forest Content) (from : ℕ) (isd : IsForest d) (lowd : IsBelow d from) (ys : List Change) (ms : List (ℕ × Content)) (rise : RiseFrom from ms) (made : Each (λ (n : ℕ × Content). IsMade n.1) ms)
    (fits : FitsForth applied Fits ys (with_made d ms)) (f : Forest Content) (there : document_of (forth applied ys (with_made d ms)) ≡ f) (first : ℕ) (past : next_past from ms ≤ first)
    (xs : List Change) (ns : List (ℕ × Content)) (last : Forest Content) (own : UsedLead f first xs ns last) where
  abbrev b : Forest Content
  b = with_made d ms

  abbrev c : Forest Content
  c = forth applied ys b

  abbrev new : List (ℕ × Content)
  new = used xs ns

  lowb : IsBelow b first
  lowb = record { below = λ l here. (let lt = (has_nodes ms d from isd lowd rise made).below.below l here in omega (arith, lt, past)) }

  isb : IsForest b
  isb = (has_nodes ms d from isd lowd rise made).forest

  isc : IsForest c
  isc = forth_forest ys b fits isb

  lowc : IsBelow c first
  lowc = record { below = λ l here. (let same = forth_labels ys b l fits in lowb.below l (omega (arith, here, same))) }

  abbrev k : ℕ → Bool
  k = is_hidden c first

  k_high : (l : ℕ) → first ≤ l → k l ≡ false
  k_high l high = by_true (true_or_false (k l))
    where
      by_true : (k l ≡ true) ⊎ (k l ≡ false) → k l ≡ false
      by_true (inr t) = t
      by_true (inl t) = absurd (let old = (hidden_is c first l t).old in omega (arith, old, high))

  isd' : IsForest (with_made c new)
  isd' = (has_nodes new c first isc lowc own.rise own.made).forest

  prunes_c : Prunes k (with_made c new)
  prunes_c = prunes_roots k (with_made c new) isd' refl (λ l t. parents new c first isc lowc own.rise own.made l ∙ top_loose c l isc.distinct (hidden_is c first l t).root)

  seen : pruned k (with_made c new) ≡ with_made f new
  seen =
      made_stay k first k_high new c first (omega arith) own.rise
      ∙ ap (λ (w : Forest Content). with_made w new) (seen_at_rest c first (model_forest c isc first lowc.below) ∙ there)

  beside : with_made d (ms ++ new) ≡ with_made b new
  beside = with_made-join ms new d

  led_beside : forth applied ys (with_made b new) ≡ with_made c new
  led_beside = (fit_beside new ys b first isb lowb own.rise own.made fits).same

  pub longer_fits : FitsForth applied Fits (ys ++ xs) (with_made d (ms ++ new))
  longer_fits =
      let up = forth_fits_up k xs (with_made c new) prunes_c isd' (subst (λ (w : Forest Content). FitsForth applied Fits xs w) (sym seen) own.fits) in
      subst (λ (w : Forest Content). FitsForth applied Fits (ys ++ xs) w) (sym beside)
      (fits_join ys xs (with_made b new) (fit_beside new ys b first isb lowb own.rise own.made fits).fits (subst (λ (w : Forest Content). FitsForth applied Fits xs w) (sym led_beside) up.0))

  pub longer_after : document_of (forth applied (ys ++ xs) (with_made d (ms ++ new))) ≡ document_of last
  longer_after =
      let up = forth_fits_up k xs (with_made c new) prunes_c isd' (subst (λ (w : Forest Content). FitsForth applied Fits xs w) (sym seen) own.fits) in
      let down = forth_down k xs (with_made c new) prunes_c up.0 up.1 in
      ap (λ (w : Forest Content). document_of (forth applied (ys ++ xs) w)) beside
      ∙ (ap document_of (forth_join ys xs (with_made b new) ∙ ap (forth applied xs) led_beside)
      ∙ (sym (same_document k (forth applied xs (with_made c new)) refl (forth_forest xs (with_made c new) up.0 isd'))
      ∙ (ap document_of (down.same ∙ ap (forth applied xs) seen) ∙ own.after)))

  pub longer_rise : RiseFrom from (ms ++ new)
  longer_rise = rise_join ms new from rise (rise_weaker new (next_past from ms) first past own.rise)

  pub longer_made : Each (λ (n : ℕ × Content). IsMade n.1) (ms ++ new)
  longer_made = each_join (λ (n : ℕ × Content). IsMade n.1) ms new made own.made

  pub longer_past : next_past from (ms ++ new) ≤ next_past first new
  longer_past = (let e = past_join ms new from in let le = past_weaker new (next_past from ms) first past in omega (arith, e, le))
