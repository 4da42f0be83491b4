-- A change made and taken back leaves the forest and the change as they were.
use Rattle.std.proofs.Common.{◌≡◌, ◌≢◌, ◌^◌, ℕ, zero, suc, ◌<◌, ◌≤◌, true, false, cond, List, ◌++◌, length, Option, Some, None, IsSome, IfSome, unwrap_or, refl, sym, ap, subst, ◌∙◌, inl, inr, arith, eqb}
use Rattle.std.specs.Option.{option_map, option_map_or, option_and_then}
use Rattle.dom_model.specs.declared.attributes.Attribute.{Attribute}
use Rattle.dom_model.specs.declared.Content.{Content}
use Rattle.dom_model.specs.AttributeList.{IsDistinctNames}
use Rattle.dom_model.specs.Contents.{IsNode, may_have_children, is_parent_at, chars_in, attributes_in, chars_of, attributes_of, with_chars, with_attributes}
use Rattle.dom_model.specs.Forest.{Forest, Seen, tops, count_of, IsDistinct, times, parent_of, next_of, after_in, tree_of, without, link, unlink, CanPut, IsWithin}
use Rattle.dom_model.specs.Revised.{revised}
use Rattle.dom_model.specs.ArenaState.{ArenaState, CanLink, IsValid}
use Rattle.dom_model.proofs.Totals.{total-unlink}
use Rattle.dom_model.proofs.Lists.{is_label_after, after_not_self}
use Rattle.dom_model.proofs.Rising.{RisesFrom-without, RisesFrom-put_under, RisesFrom-put_rising}
use Rattle.dom_model.proofs.Stands.{Stands, true_or_false, parent_stands, times-children, times-tops}
use Rattle.dom_model.proofs.Links.{seen, eqb_refl_true, tree_is, parent_count, child_of_parent, parent_of_child, IsDistinct-link, IsDistinct-unlink, total-link, parent_of-link, parent_of-link_root, next_of-link, parent_of-unlink_root, gone_n, tree_n, count-n, not_left, p_left}
use Rattle.dom_model.proofs.Kept.{content_of-unlink}
use Rattle.dom_model.proofs.Move.{CanPut-unlink, parent_apart, tree_of-unlink}
use Rattle.dom_model.proofs.Revising.{total-revised, RisesFrom-revised, parent_of-revised}
use Rattle.dom_model.proofs.NodesKept.{nodes-link, nodes-unlink, nodes-revised, chars_node, attributes_node}
use Rattle.undo_log.specs.Turning.{FitsBack, FitsForth, TurnsBack, TurnsForth}
use Rattle.undo_log.proofs.Turns.{turns_back, turns_forth}
use Rattle.forest_changes.specs.Change.{Change, IsForest, Fits, spliced_at, applied, inverse, Turns}
use Rattle.dom_model.specs.Change as change
use Rattle.forest_changes.proofs.Places.{without-put_under, tree_of-put_under, without-put_rising, put_rising_back, put_under_back}
use Rattle.forest_changes.proofs.Contents.{revised_back, chars_back, attributes_back, chars_set, attributes_set, chars_there, attributes_there, still_chars, still_element, stands}
use Rattle.forest_changes.proofs.Splices.{words_short, part_back, words_back}

-- a linked tree made loose again
pub unlink-link : (f : Forest Content) (p : ℕ) (b : Option ℕ) (n : ℕ) → IsForest f → CanPut f p b n → unlink (link f p b n) n ≡ f
unlink-link f p b n ok can =
    let g = without f n in
    let t = tree_is f n (count-n f p b n ok.distinct can) in
    let none = not_left f p b n ok.distinct can in
    let s = seen f n ok.distinct can.node in
    let up = parent_stands None f n s.0 s.1 in
    let own : s.0.parent ≡ None = rw s.2 at can.loose in
    let top : 0 < times (tops f) n = elim up [ inl (_, h) ↦ h | inr (q, _, is, _, _) ↦ absurd (let e : Some q ≡ None = sym is ∙ own in cc) ] in
    let a : without (link f p b n) n ≡ g = rw t.2 (without-put_under g p b n t.0 t.1 none) in
    let d : tree_of (link f p b n) n ≡ tree_of f n = rw t.2 (tree_of-put_under g p b n t.0 t.1 none (p_left f p b n ok.distinct can)) in
    rw (a, d) (put_rising_back f 0 n ok.distinct ok.rising top)

-- a child made loose and linked at its place again
pub link-unlink : (f : Forest Content) (p n : ℕ) → IsDistinct f → parent_of f n ≡ Some p → link (unlink f n) p (next_of f n) n ≡ f
link-unlink f p n once child =
    let t = tree_n f p n once child in
    let none = gone_n f p n once child in
    let r = child_of_parent f n p once child in
    let a : without (unlink f n) n ≡ without f n = rw t.2 (without-put_rising (without f n) n t.0 t.1 none) in
    let d = tree_of-unlink f p n once child in
    let b : next_of f n ≡ after_in r.0.children n = rw (child, r.2) refl in
    rw (a, d, b) (put_under_back None f p n r.0 once r.1 r.3)

-- a node with a child may have children
pub bears : (f : Forest Content) (p n : ℕ) → IsForest f → parent_of f n ≡ Some p → is_parent_at f p ≡ true
bears f p n ok child =
    let r = child_of_parent f n p ok.distinct child in
    ap (λ o. option_map_or may_have_children (option_map (λ (s : Seen Content). s.content) o) false) r.2
    ∙ elim (true_or_false (may_have_children r.0.content)) [
      | inl t ↦ t
      | inr t ↦ absurd (let none = (ok.nodes p r.0 r.2).leaf t in let h = rw none at r.3 in omega (arith, h))
    ]

-- the place that a child had is one where it can be put
pub place_back : (f : Forest Content) (p n : ℕ) → IsForest f → parent_of f n ≡ Some p → CanPut (unlink f n) p (next_of f n) n
place_back f p n ok child =
    let r = child_of_parent f n p ok.distinct child in
    let b : next_of f n ≡ after_in r.0.children n = rw (child, r.2) refl in
    let once_r : (k : ℕ) → times r.0.children k ≤ 1 = λ k. omega (arith, times-children None f p r.0 k r.1, ok.distinct k) in
    CanPut-unlink f p n p (next_of f n) ok.distinct child (inner n refl) (parent_count f n p ok.distinct child).1
    (parent_apart f n p ok.distinct child)
    (rw b (by_case (after_in r.0.children n) r.0 refl r.1 once_r))
  where
    inner : (k : ℕ) → n ≡ k → 0 < n
    inner zero e = absurd (let root = ok.root in let h : parent_of f 0 ≡ Some p = subst (λ k. parent_of f k ≡ Some p) e child in let q : Some p ≡ None = sym h ∙ root in cc)
    inner (suc k) e = omega (arith, e)

    in_list : (xs : List ℕ) (m : ℕ) → after_in xs n ≡ Some m → 0 < times xs m
    in_list xs m e = by_count (times xs m) refl
      where
        by_count : (k : ℕ) → times xs m ≡ k → 0 < times xs m
        by_count zero z = absurd (let h = is_label_after xs n m z in let h' = rw e at h in let own = eqb_refl_true m in cc)
        by_count (suc k) z = omega (arith, z)

    by_case : (o : Option ℕ) (r : Seen Content) → after_in r.children n ≡ o → Stands None f p r → ((k : ℕ) → times r.children k ≤ 1) → IfSome o (λ m. (parent_of f m ≡ Some p) × (m ≢ n))
    by_case None r e st once_r = tt
    by_case (Some m) r e st once_r = (
      parent_of_child f p m r ok.distinct st (in_list r.children m e),
      λ same. (let h = after_not_self r.children n (once_r n) in let h' = rw e at h in let own : eqb m n ≡ true = rw same (eqb_refl_true n) in cc),
    )

pub IsForest-link : (f : Forest Content) (p : ℕ) (b : Option ℕ) (n : ℕ) → IsForest f → CanLink f p b n → IsForest (link f p b n)
IsForest-link f p b n ok canlink =
    let can = canlink.place in
    let bears = canlink.parent in
    record {
      distinct = IsDistinct-link f p b n ok.distinct can;
      rising = RisesFrom-put_under (without f n) 0 p b (tree_of f n) (RisesFrom-without f 0 n ok.rising);
      document = omega (arith, ok.document, total-link f p b n ok.distinct can (λ m _. cond (eqb m 0) 1 0));
      root = parent_of-link_root f p b n ok.distinct can 0 (λ e. (let inner = can.inner in let none = rw e at inner in omega (arith, none))) ok.root;
      nodes = nodes-link f p b n ok.distinct can bears ok.nodes;
    }

pub IsForest-unlink : (f : Forest Content) (p n : ℕ) → IsForest f → parent_of f n ≡ Some p → IsForest (unlink f n)
IsForest-unlink f p n ok child =
    let t = tree_n f p n ok.distinct child in
    let none = gone_n f p n ok.distinct child in
    record {
      distinct = IsDistinct-unlink f p n ok.distinct child;
      rising = rw t.2 (RisesFrom-put_rising (without f n) 0 n t.0 t.1 (RisesFrom-without f 0 n ok.rising) (omega arith) (omega (arith, times-tops (without f n) n, none)));
      document = omega (arith, ok.document, total-unlink (λ m _. cond (eqb m 0) 1 0) f n);
      root = parent_of-unlink_root f p n ok.distinct child 0 ok.root;
      nodes = nodes-unlink f p n ok.distinct child ok.nodes;
    }

pub given_parent : (f : Forest Content) (n : ℕ) → IsSome (parent_of f n) → parent_of f n ≡ Some (unwrap_or (parent_of f n) 0)
given_parent f n some = by_case (parent_of f n) some
  where
    by_case : (o : Option ℕ) → IsSome o → o ≡ Some (unwrap_or o 0)
    by_case None h = absurd (let h' = h in cc)
    by_case (Some p) h = refl

-- the place that a child had is one where it can be linked
pub can_go_back : (f : Forest Content) (p n : ℕ) → IsForest f → parent_of f n ≡ Some p → CanLink (unlink f n) p (next_of f n) n
can_go_back f p n ok child = record {
  place = place_back f p n ok child;
  parent = ap (λ o. option_map_or may_have_children o false) (content_of-unlink f p n p ok.distinct child) ∙ bears f p n ok child;
}

-- a change of content that keeps each node one that may be
IsForest-revised : (f : Forest Content) (n : ℕ) (g : Content → Content) → ((l : ℕ) (o : Seen Content) → IsNode l o → IsNode l (record { parent = o.parent; content = g o.content; children = o.children })) → IsForest f → IsForest (revised f n g)
IsForest-revised f n g keeps ok = record {
  distinct = λ l. rw (total-revised n g (λ m. cond (eqb m l) 1 0) f) (ok.distinct l);
  rising = RisesFrom-revised n g f 0 ok.rising;
  document = rw (total-revised n g (λ m. cond (eqb m 0) 1 0) f) ok.document;
  root = parent_of-revised n g f 0 ∙ ok.root;
  nodes = nodes-revised f n g (λ o _. keeps n o) ok.nodes;
}

pub IsForest-rewritten : (f : Forest Content) (n : ℕ) (words : List ℕ) → length words < 2 ^ 32 → IsForest f → IsForest (revised f n (with_chars words))
IsForest-rewritten f n words short ok = IsForest-revised f n (with_chars words) (λ l o. chars_node l words o short) ok

pub IsForest-redressed : (f : Forest Content) (n : ℕ) (list : List Attribute) → IsDistinctNames list → IsForest f → IsForest (revised f n (with_attributes list))
IsForest-redressed f n list distinct ok = IsForest-revised f n (with_attributes list) (λ l o. attributes_node l list o distinct) ok

pub turns : (x : Change) (f : Forest Content) → Fits x f → Turns x f
unfolding applied inverse
turns (change.Remove n) f h =
    let p = unwrap_or (parent_of f n) 0 in
    let child = given_parent f n h.here in
    record {
      fits = record { forest = IsForest-unlink f p n h.forest child; here = can_go_back f p n h.forest child };
      back = link-unlink f p n h.forest.distinct child;
      same = refl;
    }
turns (change.Insert n p b) f h =
    let put = h.here.place in
    let s = seen f n h.forest.distinct put.node in
    let up : parent_of (link f p b n) n ≡ Some p = parent_of-link f p b n h.forest.distinct put n s.0 s.2 ∙ rw (eqb_refl_true n) refl in
    let after : next_of (link f p b n) n ≡ b = next_of-link f p b n h.forest.distinct put n s.0 s.2 ∙ rw (eqb_refl_true n) refl in
    record {
      fits = record { forest = IsForest-link f p b n h.forest h.here; here = rw up refl };
      back = unlink-link f p b n h.forest put;
      same = λ i. change.Insert n (unwrap_or (up i) 0) (after i);
    }
turns (change.Move n p b) f h =
    let q = unwrap_or (parent_of f n) 0 in
    let child = given_parent f n h.here.0 in
    let g = IsForest-unlink f q n h.forest child in
    let put = h.here.1.place in
    let s = seen (unlink f n) n g.distinct put.node in
    let up : parent_of (link (unlink f n) p b n) n ≡ Some p = parent_of-link (unlink f n) p b n g.distinct put n s.0 s.2 ∙ rw (eqb_refl_true n) refl in
    let after : next_of (link (unlink f n) p b n) n ≡ b = next_of-link (unlink f n) p b n g.distinct put n s.0 s.2 ∙ rw (eqb_refl_true n) refl in
    let e = unlink-link (unlink f n) p b n g put in
    record {
      fits = record { forest = IsForest-link (unlink f n) p b n g h.here.1; here = (rw up refl, rw e (can_go_back f q n h.forest child)) };
      back = rw e (link-unlink f q n h.forest.distinct child);
      same = λ i. change.Move n (unwrap_or (up i) 0) (after i);
    }
turns (change.SetText n words) f h =
    let there = chars_there f n h.forest.distinct h.forest.nodes h.here.0 in
    let old : chars_of f n ≡ Some there.0 = there.1 in
    let now : chars_of (revised f n (with_chars words)) n ≡ Some words = chars_set f n words h.here.0 in
    record {
      fits = record { forest = IsForest-rewritten f n words h.here.1 h.forest; here = (still_chars f n words h.here.0, rw old there.2) };
      back = rw old (revised_back f n (with_chars words) (with_chars there.0) h.forest.distinct (λ s e. chars_back s.content words there.0 (sym (ap (λ o. option_and_then chars_in (option_map (λ (t : Seen Content). t.content) o)) e) ∙ old)));
      same = λ i. change.SetText n (unwrap_or (now i) (unwrap_or (chars_of f n) words));
    }
turns (change.Splice n at rest taken put) f h =
    let words = spliced_at f n at (length taken) put in
    let old = h.here.front ++ (taken ++ h.here.back) in
    let again : spliced_at (revised f n (with_chars words)) n at (length put) taken ≡ old = words_back f n at rest taken put h.here h.forest in
    record {
      fits = record { forest = IsForest-rewritten f n words (words_short f n at rest taken put h.here) h.forest; here = part_back f n at rest taken put h.here h.forest };
      back = ap (λ chars. revised (revised f n (with_chars words)) n (with_chars chars)) again ∙ revised_back f n (with_chars words) (with_chars old) h.forest.distinct (λ s e. chars_back s.content words old (sym (ap (λ o. option_and_then chars_in (option_map (λ (t : Seen Content). t.content) o)) e) ∙ h.here.chars));
      same = refl;
    }
turns (change.SetAttributes n list) f h =
    let there = attributes_there f n h.forest.nodes h.here.0 in
    let old : attributes_of f n ≡ Some there.0 = there.1 in
    let now : attributes_of (revised f n (with_attributes list)) n ≡ Some list = attributes_set f n list h.here.0 in
    record {
      fits = record { forest = IsForest-redressed f n list h.here.1 h.forest; here = (still_element f n list h.here.0, rw old there.2) };
      back = rw old (revised_back f n (with_attributes list) (with_attributes there.0) h.forest.distinct (λ s e. attributes_back s.content list there.0 (sym (ap (λ o. option_and_then attributes_in (option_map (λ (t : Seen Content). t.content) o)) e) ∙ old)));
      same = λ i. change.SetAttributes n (unwrap_or (now i) (unwrap_or (attributes_of f n) list));
    }

-- each label stands as often as before
pub count_of-applied : (x : Change) (f : Forest Content) → Fits x f → (l : ℕ) → count_of (applied x f) l ≡ count_of f l
unfolding applied
count_of-applied (change.Remove n) f h l = total-unlink (λ m _. cond (eqb m l) 1 0) f n
count_of-applied (change.Insert n p b) f h l = total-link f p b n h.forest.distinct h.here.place (λ m _. cond (eqb m l) 1 0)
count_of-applied (change.Move n p b) f h l =
    let g = IsForest-unlink f (unwrap_or (parent_of f n) 0) n h.forest (given_parent f n h.here.0) in
    total-link (unlink f n) p b n g.distinct h.here.1.place (λ m _. cond (eqb m l) 1 0) ∙ total-unlink (λ m _. cond (eqb m l) 1 0) f n
count_of-applied (change.SetText n words) f h l = total-revised n (with_chars words) (λ m. cond (eqb m l) 1 0) f
count_of-applied (change.Splice n at rest taken put) f h l = total-revised n (with_chars (spliced_at f n at (length taken) put)) (λ m. cond (eqb m l) 1 0) f
count_of-applied (change.SetAttributes n list) f h l = total-revised n (with_attributes list) (λ m. cond (eqb m l) 1 0) f

pub IsForest-applied : (x : Change) (f : Forest Content) → Fits x f → IsForest (applied x f)
IsForest-applied x f h = (turns x f h).fits.forest

pub forest_of : (s : ArenaState) → IsValid s → IsForest s.trees
forest_of s law = record { distinct = law.distinct; rising = law.rising; document = law.document; root = law.root; nodes = law.nodes }

pub back_turns : (xs : List Change) (f : Forest Content) → FitsBack applied Fits xs f → TurnsBack applied inverse Fits xs f
back_turns = turns_back applied inverse Fits (λ x f h. (turns x f h).fits) (λ x f h. (turns x f h).back) (λ x f h. (turns x f h).same)

pub forth_turns : (xs : List Change) (f : Forest Content) → FitsForth applied Fits xs f → TurnsForth applied inverse Fits xs f
forth_turns = turns_forth applied inverse Fits (λ x f h. (turns x f h).fits) (λ x f h. (turns x f h).back) (λ x f h. (turns x f h).same)

-- ---- a move

below_root : (f : Forest Content) (p n k : ℕ) → IsForest f → parent_of f n ≡ Some p → n ≡ k → 0 < n
below_root f p n zero ok child e = absurd (let root = ok.root in let h : parent_of f 0 ≡ Some p = subst (λ k. parent_of f k ≡ Some p) e child in let q : Some p ≡ None = sym h ∙ root in cc)
below_root f p n (suc k) ok child e = omega (arith, e)

pub can_shift : (f : Forest Content) (n p q : ℕ) (b : Option ℕ) → IsForest f → parent_of f n ≡ Some p → is_parent_at f q ≡ true → (IsWithin f n q → ⊥) → IfSome b (λ m. (parent_of f m ≡ Some q) × (m ≢ n)) → Fits (change.Move n q b) f
can_shift f n p q b ok child parent off before = record {
  forest = ok;
  here = (
    rw child refl,
    record {
      place = CanPut-unlink f p n q b ok.distinct child (below_root f p n n ok child refl) (stands f q may_have_children parent) off before;
      parent = ap (λ o. option_map_or may_have_children o false) (content_of-unlink f p n q ok.distinct child) ∙ parent;
    },
  );
}
