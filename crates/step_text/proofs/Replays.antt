-- The lines of changes fit where the changes do, and the document comes to be too deep exactly where a line says so.
use Rattle.std.proofs.Common.{◌≡◌, ◌≢◌, ℕ, zero, suc, cond, ◌+◌, ◌<◌, ◌≤◌, ◌↔◌, true, false, true≢false, not, ◌&&◌, eqb, List, [], ◌∷◌, ◌++◌, length, Option, Some, None, IfSome, unwrap_or, Result, Ok, Err, add-zero, refl, sym, ap, subst, ◌∙◌, inl, inr, arith}
use Rattle.std.specs.Prelude.{is_some, is_none, nat_le, nat_lt, bytes_eq}
use Rattle.std.specs.Option.{option_map_or, option_and_then}
use Rattle.std.proofs.lemmas.Bool.{and_parts, lt-ltb, le-leb, ltb-true, ne_eqb}
use Rattle.std.proofs.lemmas.Bool.Decides.{eqb_tells, nat_tests}
use Rattle.std.proofs.lemmas.Slice.Eq.{bytes_eq-Decides}
use Rattle.page_grammar.specs.DomModel.declared.Content.{Content}
use Rattle.page_grammar.specs.DomModel.Contents.{has_name, is_parent_at, may_have_children, name_of, with_attributes, with_chars}
use Rattle.page_grammar.specs.DomModel.Document.{page_depth}
use Rattle.page_grammar.specs.DomModel.Forest.{Forest, Seen, is_label, count_of, parent_of, tree_of, link, unlink, with_leaf}
use Rattle.page_grammar.specs.DomModel.Revised.{revised}
use Rattle.page_grammar.specs.DomModel.ArenaState.{CanLink}
use Rattle.page_grammar.proofs.DomModel.Heights.{page_depth-revised, page_depth-unlink, page_depth-with_leaf}
use Rattle.page_grammar.proofs.DomModel.Kept.{content_of-unlink}
use Rattle.page_grammar.proofs.DomModel.Links.{seen, eqb_refl_true, parent_count, parent_of-unlink, IsDistinct-unlink}
use Rattle.page_grammar.proofs.DomModel.Move.{tree_of-unlink}
use Rattle.page_grammar.proofs.DomModel.Stands.{true_or_false}
use Rattle.page_grammar.proofs.DomModel.Totals.{total-unlink}
use Rattle.page_grammar.proofs.DomModel.Walks.{document_first}
use Rattle.edit_parts.specs.EditModel.Confined.{is_there, is_place}
use Rattle.edit_parts.specs.EditModel.Heights.{reach_of}
use Rattle.edit_steps.specs.ForestChanges.Change.{Change, Fits, IsForest, applied}
use Rattle.page_grammar.specs.DomModel.Change as change
use Rattle.edit_steps.proofs.ForestChanges.Contents.{stands as there_by}
use Rattle.edit_steps.proofs.ForestChanges.Twice.{given_parent}
use Rattle.edit_parts.specs.PointOrder.PointOrder.{is_within, is_in_document}
use Rattle.step_text.specs.declared.line.Made.{Made}
use Rattle.step_text.specs.declared.line.StepFault.{StepFault}
use Rattle.step_text.specs.declared.line.StepFault.TheVariants.{TooDeep}
use Rattle.step_text.specs.declared.line.StepLine.{StepLine}
use Rattle.step_text.specs.declared.line.StepLine.TheVariants.{Entry, Make, Insert, Remove, Move, Words, Tag}
use Rattle.step_text.specs.Applying.{Labelled, can_stand, fault_of, has_labels, has_place, has_room, has_room_under, is_loose, is_there_or_end, line_applied, made_content, refused_or, replayed_from, trees_after}
use Rattle.step_text.specs.Replaying.{CanSay, LeadsTo, line_of}
use Rattle.step_text.proofs.Deep.{link-unlink_same, no_deeper, too_deep_in, within_limit}
use Rattle.step_text.proofs.Fitting.{attach_fits, both, fine, shift_fits, too_deep}

-- ---- the tests pass where a change fits

there : (f : Forest Content) (l : ℕ) → 0 < count_of f l → is_there f l ≡ true
there f l h = lt-ltb 0 (count_of f l) h

not_same : (m n : ℕ) → m ≢ n → not (eqb m n) ≡ true
not_same m n off = ap not (ne_eqb m n off)

-- b is a child of p other than n
abbrev Beside : Forest Content → ℕ → Option ℕ → ℕ → Type 0
Beside f p b n = IfSome b (λ m. (parent_of f m ≡ Some p) × (m ≢ n))

beside_there : (f : Forest Content) (p : ℕ) (b : Option ℕ) (n : ℕ) → IsForest f → Beside f p b n → is_there_or_end f b ≡ true
beside_there f p None n ok h = refl
beside_there f p (Some m) n ok h = there f m (parent_count f m p ok.distinct h.0).0

beside_place : (f : Forest Content) (p : ℕ) (b : Option ℕ) (n : ℕ) → Beside f p b n → is_place f p b n ≡ true
beside_place f p None n h = refl
beside_place f p (Some m) n h =
    both (is_label (parent_of f m) p) (not (eqb m n)) (ap (λ o. is_label o p) h.0 ∙ eqb_refl_true p) (not_same m n h.1)

stands_there : (f : Forest Content) (n p : ℕ) (b : Option ℕ) → is_parent_at f p ≡ true → count_of (tree_of f n) p ≡ 0 → Beside f p b n → can_stand f n p b ≡ true
unfolding can_stand
stands_there f n p b parent apart before =
    both (is_parent_at f p) (not (is_within f n p) && is_place f p b n) parent
    (both (not (is_within f n p)) (is_place f p b n) (ap (λ k. not (nat_lt 0 k)) apart) (beside_place f p b n before))

labels_there : (f : Forest Content) (n p : ℕ) (b : Option ℕ) → IsForest f → 0 < count_of f n → 0 < count_of f p → Beside f p b n → (is_there f n && (is_there f p && is_there_or_end f b)) ≡ true
labels_there f n p b ok here parent before =
    both (is_there f n) (is_there f p && is_there_or_end f b) (there f n here)
    (both (is_there f p) (is_there_or_end f b) (there f p parent) (beside_there f p b n ok before))

-- where a loose tree is linked
beside_loose : (f : Forest Content) (p : ℕ) (b : Option ℕ) (n : ℕ) → parent_of f n ≡ None → IfSome b (λ m. parent_of f m ≡ Some p) → Beside f p b n
beside_loose f p None n loose h = tt
beside_loose f p (Some m) n loose h = (h, λ same. (let own : parent_of f n ≡ Some p = subst (λ k. parent_of f k ≡ Some p) same h in let t : None ≡ Some p = sym loose ∙ own in absurd (cc)))

-- where a child is linked that was made loose
beside_child : (f : Forest Content) (o p : ℕ) (b : Option ℕ) (n : ℕ) → IsForest f → parent_of f n ≡ Some o → IfSome b (λ m. (0 < count_of f m) × (parent_of (unlink f n) m ≡ Some p)) → Beside f p b n
beside_child f o p None n ok child h = tt
beside_child f o p (Some m) n ok child h =
    let s = seen f m ok.distinct h.0 in
    let is = parent_of-unlink f o n ok.distinct child m s.0 s.2 in
    elim (eqb_tells n m) [
      | inl (t, _) ↦ absurd (let e : None ≡ Some p = sym (is ∙ rw t refl) ∙ h.1 in cc)
      | inr (t, off) ↦ (
          let own : s.0.parent ≡ Some p = sym (is ∙ rw t refl) ∙ h.1 in
          (ap (option_and_then (λ (x : Seen Content). x.parent)) s.2 ∙ own, λ e. off (sym e)))
    ]

-- ---- room

nat_le_true : (i k : ℕ) → i ≤ k → nat_le i k ≡ true
nat_le_true i k h = le-leb i k h

le_tells : (i k : ℕ) → (nat_le i k ≡ false) ↔ (k < i)
le_tells i k = (one, two)
  where
    one : nat_le i k ≡ false → k < i
    one h = grind (arith, nat_tests)

    two : k < i → nat_le i k ≡ false
    two h = grind (arith, nat_tests)

module _ (f : Forest Content) (ok : IsForest f) (n p : ℕ) (b : Option ℕ) (inner : 0 < n) (apart : count_of (tree_of f n) p ≡ 0) where
  has_room_there : page_depth (link f p b n) ≤ 1000 → has_room_under f n p ≡ true
  unfolding has_room_under
  has_room_there low =
      let d = document_first f ok.distinct ok.rising ok.document ok.root in
      elim (true_or_false (is_in_document f p)) [
        | inl t ↦ rw t (nat_le_true (reach_of p n f) 1000 (within_limit f d.0 d.1 d.2 d.3 ok.distinct p b n inner 1000 apart (ltb-true 0 (count_of (tree_of f 0) p) t) low))
        | inr t ↦ rw t refl
      ]

  room_tells : page_depth f ≤ 1000 → (has_room_under f n p ≡ false) ↔ (1000 < page_depth (link f p b n))
  unfolding has_room_under
  room_tells low =
      let d = document_first f ok.distinct ok.rising ok.document ok.root in
      elim (true_or_false (is_in_document f p)) [
        | inl t ↦ (
            let test = le_tells (reach_of p n f) 1000 in
            let deep = too_deep_in f d.0 d.1 d.2 d.3 ok.distinct p b n inner 1000 low apart (ltb-true 0 (count_of (tree_of f 0) p) t) in
            rw t (λ e. deep.0 (test.0 e), λ h. test.1 (deep.1 h)))
        | inr t ↦ (
            let stays = no_deeper f d.0 d.1 d.2 d.3 ok.distinct p b n inner 1000 low (none_of (count_of (tree_of f 0) p) t) in
            rw t (λ e. absurd (true≢false e), λ h. absurd (omega (arith, h, stays))))
      ]
    where
      none_of : (k : ℕ) → nat_lt 0 k ≡ false → k ≡ 0
      none_of k h = grind (arith, nat_tests)

-- ---- a child that goes elsewhere

child_inner : (f : Forest Content) (n : ℕ) → IsForest f → is_some (parent_of f n) ≡ true → 0 < n
child_inner f n ok child = by_number n child
  where
    by_number : (k : ℕ) → is_some (parent_of f k) ≡ true → 0 < k
    by_number zero h = absurd (true≢false (sym h ∙ ap is_some ok.root))
    by_number (suc k) h = omega arith

module _ (f : Forest Content) (o n p : ℕ) (b : Option ℕ) (ok : IsForest f) (child : parent_of f n ≡ Some o) where
  moved_same : 0 < n → link (unlink f n) p b n ≡ link f p b n
  moved_same inner = let d = document_first f ok.distinct ok.rising ok.document ok.root in link-unlink_same f d.0 d.1 d.2 d.3 ok.distinct p b n inner o child

  record MovesThere : Type 0 where
    bears : is_parent_at f p ≡ true
    apart : count_of (tree_of f n) p ≡ 0
    here : 0 < count_of f p
    beside : Beside f p b n

  moves_there : CanLink (unlink f n) p b n → MovesThere
  moves_there can =
      let count : (l : ℕ) → count_of (unlink f n) l ≡ count_of f l = λ l. total-unlink (λ m _. cond (eqb m l) 1 0) f n in
      let kept = content_of-unlink f o n p ok.distinct child in
      record {
        bears = sym (ap (λ c. option_map_or may_have_children c false) kept) ∙ can.parent;
        apart = subst (λ t. count_of t p ≡ 0) (tree_of-unlink f o n ok.distinct child) can.place.apart;
        here = subst (λ k. 0 < k) (count p) can.place.parent;
        beside = beside_child f o p b n ok child (by_before b count can.place.before);
      }
    where
      by_before : (b : Option ℕ) → ((l : ℕ) → count_of (unlink f n) l ≡ count_of f l) → IfSome b (λ m. parent_of (unlink f n) m ≡ Some p) → IfSome b (λ m. (0 < count_of f m) × (parent_of (unlink f n) m ≡ Some p))
      by_before None count h = tt
      by_before (Some m) count h = (subst (λ k. 0 < k) (count m) (parent_count (unlink f n) m p (IsDistinct-unlink f o n ok.distinct child) h).0, h)

-- ---- the line of a change

bytes_same : (a : List ℕ) → bytes_eq a a ≡ true
bytes_same a = (bytes_eq-Decides a a).1 refl

named : (f : Forest Content) (n : ℕ) (name : List ℕ) → name_of f n ≡ Some name → has_name f n name ≡ true
named f n name is = ap (λ o. option_map_or (λ own. bytes_eq own name) o false) is ∙ bytes_same name

pub change_led : (x : Change) (name : List ℕ) (d : Labelled) → Fits x d.trees → CanSay x name d.trees → page_depth (applied x d.trees) ≤ 1000 → LeadsTo (line_of x name) d (record d { trees = applied x d.trees })
unfolding applied has_labels has_place has_room trees_after line_applied
change_led (change.Remove n) name d h say low =
    let c = parent_count d.trees n (unwrap_or (parent_of d.trees n) 0) h.forest.distinct (given_parent d.trees n h.here) in
    record { fine = fine (Remove n) d (there d.trees n c.0) h.here refl; applied = refl }
change_led (change.Insert n p b) name d h say low =
    let f = d.trees in
    let can = h.here.place in
    let before = beside_loose f p b n can.loose can.before in
    let loose : is_loose f n ≡ true = both (is_none (parent_of f n)) (not (eqb n 0)) (ap is_none can.loose) (not_same n 0 (λ e. (let i = can.inner in omega (arith, e, i)))) in
    record {
      fine = fine (Insert n p b) d (labels_there f n p b h.forest can.node can.parent before)
          (both (is_loose f n) (can_stand f n p b) loose (stands_there f n p b h.here.parent can.apart before))
          (has_room_there f h.forest n p b can.inner can.apart low);
      applied = refl;
    }
change_led (change.Move n p b) name d h say low =
    let f = d.trees in
    let o = unwrap_or (parent_of f n) 0 in
    let child = given_parent f n h.here.0 in
    let m = moves_there f o n p b h.forest child h.here.1 in
    record {
      fine = fine (Move n p b) d (labels_there f n p b h.forest (parent_count f n o h.forest.distinct child).0 m.here m.beside)
          (both (is_some (parent_of f n)) (can_stand f n p b) h.here.0 (stands_there f n p b m.bears m.apart m.beside))
          (has_room_there f h.forest n p b h.here.1.place.inner m.apart (subst (λ g. page_depth g ≤ 1000) (moved_same f o n p b h.forest child h.here.1.place.inner) low));
      applied = refl;
    }
change_led (change.SetText n words) name d h say low =
    record { fine = fine (Words n words) d (there d.trees n (there_by d.trees n _ say)) say refl; applied = refl }
change_led (change.Splice n at rest taken put) name d h say low = absurd say
change_led (change.SetAttributes n list) name d h say low =
    record { fine = fine (Tag n name list) d (there d.trees n (there_by d.trees n _ h.here.0)) (named d.trees n name say) refl; applied = refl }

pub make_led : (l : ℕ) (made : Made) (d : Labelled) → d.next ≤ l → l < d.cap → LeadsTo (Make l made) d (record d { trees = with_leaf d.trees l (made_content made); next = l + 1 })
unfolding has_labels has_place has_room trees_after line_applied
make_led l made d low high = record {
  fine = fine (Make l made) d (both (nat_le d.next l) (nat_lt l d.cap) (nat_le_true d.next l low) (lt-ltb l d.cap high)) refl refl;
  applied = refl;
}

pub entry_led : (d : Labelled) → LeadsTo Entry d d
unfolding has_labels has_place has_room trees_after line_applied
entry_led d = record { fine = fine Entry d refl refl refl; applied = refl }

-- ---- how deep the document may come to be

settled : (fault : Option StepFault) (k : ℕ) → fault ≡ None → k ≤ 1000 → (fault ≡ Some TooDeep) ↔ (1000 < k)
settled fault k none low = (λ e. absurd (let t : ◌≡◌ {A = Option StepFault} None (Some TooDeep) = sym none ∙ e in cc), λ h. absurd (omega (arith, h, low)))

-- the fault is the room's, where the rest fits
room_alone : (x : StepLine) (d : Labelled) → has_labels x d ≡ true → has_place x d.trees ≡ true → (fault_of x d ≡ Some TooDeep) ↔ (has_room x d.trees ≡ false)
room_alone x d labels place = elim (true_or_false (has_room x d.trees)) [
  | inl t ↦ (λ e. absurd (let u : ◌≡◌ {A = Option StepFault} None (Some TooDeep) = sym (fine x d labels place t) ∙ e in cc), λ h. absurd (true≢false (sym t ∙ h)))
  | inr t ↦ (λ _. t, λ _. too_deep x d labels place t)
]

pub bounded : (x : StepLine) (d : Labelled) → IsForest d.trees → page_depth d.trees ≤ 1000 → has_labels x d ≡ true → has_place x d.trees ≡ true → (fault_of x d ≡ Some TooDeep) ↔ (1000 < page_depth (trees_after x d.trees))
unfolding applied has_labels has_place has_room trees_after
bounded Entry d ok low labels place = settled (fault_of Entry d) (page_depth d.trees) (fine Entry d labels place refl) low
bounded (Make l made) d ok low labels place =
    let s = document_first d.trees ok.distinct ok.rising ok.document ok.root in
    let same = page_depth-with_leaf d.trees s.0 s.1 s.2 l (made_content made) s.3 in
    settled (fault_of (Make l made) d) (page_depth (with_leaf d.trees l (made_content made))) (fine (Make l made) d labels place refl) (omega (arith, same, low))
bounded (Remove l) d ok low labels place =
    let f = d.trees in
    let s = document_first f ok.distinct ok.rising ok.document ok.root in
    let lower = page_depth-unlink f s.0 s.1 s.2 l s.3 (child_inner f l ok place) in
    settled (fault_of (Remove l) d) (page_depth (unlink f l)) (fine (Remove l) d labels place refl) (omega (arith, lower, low))
bounded (Words l words) d ok low labels place =
    let s = document_first d.trees ok.distinct ok.rising ok.document ok.root in
    let same = page_depth-revised d.trees s.0 s.1 s.2 l (with_chars words) s.3 in
    settled (fault_of (Words l words) d) (page_depth (revised d.trees l (with_chars words))) (fine (Words l words) d labels place refl) (omega (arith, same, low))
bounded (Tag l name list) d ok low labels place =
    let s = document_first d.trees ok.distinct ok.rising ok.document ok.root in
    let same = page_depth-revised d.trees s.0 s.1 s.2 l (with_attributes list) s.3 in
    settled (fault_of (Tag l name list) d) (page_depth (revised d.trees l (with_attributes list))) (fine (Tag l name list) d labels place refl) (omega (arith, same, low))
bounded (Insert l p b) d ok low labels place =
    let f = d.trees in
    let here = (and_parts (is_there f l) _ labels).0 in
    let may = and_parts (is_loose f l) (can_stand f l p b) place in
    let can = (attach_fits f l p b ok (ltb-true 0 (count_of f l) here) may.0 may.1).here.place in
    let fault = room_alone (Insert l p b) d labels place in
    let room = room_tells f ok l p b can.inner can.apart low in
    (λ e. room.0 (fault.0 e), λ h. fault.1 (room.1 h))
bounded (Move l p b) d ok low labels place =
    let f = d.trees in
    let may = and_parts (is_some (parent_of f l)) (can_stand f l p b) place in
    let can = (shift_fits f l p b ok may.0 may.1).here.1.place in
    let o = unwrap_or (parent_of f l) 0 in
    let child = given_parent f l may.0 in
    let apart : count_of (tree_of f l) p ≡ 0 = subst (λ t. count_of t p ≡ 0) (tree_of-unlink f o l ok.distinct child) can.apart in
    let fault = room_alone (Move l p b) d labels place in
    let room = room_tells f ok l p b can.inner apart low in
    let same = moved_same f o l p b ok child can.inner in
    (λ e. subst (λ g. 1000 < page_depth g) (sym same) (room.0 (fault.0 e)), λ h. fault.1 (room.1 (subst (λ g. 1000 < page_depth g) same h)))

-- ---- lists of lines

pub one_led : (number : ℕ) (x : StepLine) (xs : List StepLine) (d e : Labelled) → LeadsTo x d e → replayed_from number (x ∷ xs) d ≡ replayed_from (number + 1) xs e
unfolding replayed_from
one_led number x xs d e h = rw h.fine (ap (replayed_from (number + 1) xs) h.applied)

same_ok : (d e : Labelled) → ◌≡◌ {A = Result Labelled (ℕ × StepFault)} (Ok d) (Ok e) → d ≡ e
same_ok d e h = cc

-- where the first line is applied, what the rest gives
by_fault : (number : ℕ) (o : Option StepFault) (rest more last : Result Labelled (ℕ × StepFault)) (e : Labelled) → (rest ≡ Ok e → more ≡ last) → refused_or number o rest ≡ Ok e → refused_or number o more ≡ last
by_fault number None rest more last e onward h = onward h
by_fault number (Some fault) rest more last e onward h = absurd (let h' : ◌≡◌ {A = Result Labelled (ℕ × StepFault)} (Err (number, fault)) (Ok e) = h in cc)

pub many_led : (number : ℕ) (xs ys : List StepLine) (d e : Labelled) → replayed_from number xs d ≡ Ok e → replayed_from number (xs ++ ys) d ≡ replayed_from (number + length xs) ys e
unfolding replayed_from
many_led number [] ys d e h = rw add-zero (ap (replayed_from number ys) (same_ok d e h))
many_led number (x ∷ xs) ys d e h = by_fault number (fault_of x d) (replayed_from (number + 1) xs (line_applied x d)) (replayed_from (number + 1) (xs ++ ys) (line_applied x d)) (replayed_from (number + length (x ∷ xs)) ys e) e
    (λ ih. many_led (number + 1) xs ys (line_applied x d) e ih ∙ ap (λ k. replayed_from k ys e) (let later : number + 1 + length xs ≡ number + length (x ∷ xs) = omega arith in later)) h
