-- The writes of a link keep the slots sound, for the linked nested list.
use Rattle.std.proofs.Common.{◌≡◌, ℕ, zero, suc, ◌<◌, Bool, true, false, cond, List, [], ◌∷◌, get_or, map, Option, Some, None, IfSome, is_none, refl, sym, ap, subst, ◌∙◌, inl, inr, arith, eqb}
use Rattle.std.proofs.lemmas.Bool.Decides.{eqb_tells, nat_tests}
use Rattle.dom_model.specs.declared.Content.{Content}
use Rattle.dom_model.specs.Forest.{Seen, count_of, seek, parent_of, children_of, first_of, last_of, prev_of, next_of, is_label, prior_in, times, link, CanPut, relinked}
use Rattle.dom_model.proofs.Links.{seen, found_count, times-children_of_le, parent_count, absent_n, is_label_b, first_of-link, last_of-link, prev_of-link, next_of-link}
use Rattle.dom_model.proofs.Lists.{is_label_prior}
use Rattle.node_arena.specs.declared.Node.{Node}
use Rattle.node_arena.specs.declared.NodeRef.{NodeRef}
use Rattle.node_arena.specs.Nodes.{label_in, link_to, node_for}
use Rattle.node_arena.specs.Sound.{IsSoundArena}
use Rattle.node_arena.specs.Change.{change, placed, with_first, with_last, with_prev, with_next, next_changed, prev_changed, linked_slots}
use Rattle.node_arena.proofs.ChangeLemmas.{get_or-change}
use Rattle.node_arena.proofs.Merge.{mark, next_step, prev_step, after_link, merge_link}

pub get_or-map-label_in : (slots : List (Option Node)) (k : ℕ) → get_or (map label_in slots) k None ≡ label_in (get_or slots k None)
get_or-map-label_in [] k = refl
get_or-map-label_in (o ∷ slots) zero = refl
get_or-map-label_in (o ∷ slots) (suc k) = get_or-map-label_in slots k

pub changed_at : (slots : List (Option Node)) (k j : ℕ) (g : Node → Node) (x : Node) (v : Bool) → get_or slots j None ≡ Some x → eqb k j ≡ v → get_or (change slots k g) j None ≡ Some (cond v (g x) x)
changed_at slots k j g x true e t = rw (get_or-change slots k j g, t, e) refl
changed_at slots k j g x false e t = rw (get_or-change slots k j g, t, e) refl

module _ (slots : List (Option Node)) (next cap : ℕ) (sound : IsSoundArena slots next cap) where
  -- a slot with a label has the node that the nested list says
  pub held_node : (slot label : ℕ) → get_or (map label_in slots) slot None ≡ Some label → (s : Seen Content) × (seek None sound.trees label ≡ Some s) × (slot ≡ sound.at label) × (get_or slots slot None ≡ Some (node_for sound.trees sound.at label s))
  held_node slot label held = by_slot (get_or slots slot None) refl (sym (get_or-map-label_in slots slot) ∙ held)
    where
      by_slot : (o : Option Node) → get_or slots slot None ≡ o → label_in o ≡ Some label → (s : Seen Content) × (seek None sound.trees label ≡ Some s) × (slot ≡ sound.at label) × (get_or slots slot None ≡ Some (node_for sound.trees sound.at label s))
      by_slot None e h = absurd (let h' = h in cc)
      by_slot (Some n) e h =
          let is : n.label ≡ label = (let h' = h in cc) in
          let b = sound.back slot n e in
          let here' : 0 < count_of sound.trees label = subst (λ m. 0 < count_of sound.trees m) is b.0 in
          let place : slot ≡ sound.at label = b.1 ∙ ap sound.at is in
          let r = seen sound.trees label sound.distinct here' in
          (r.0, r.2, place, ap (λ k. get_or slots k None) place ∙ sound.stored label r.0 r.2)

  pub at_apart : (a b : ℕ) → 0 < count_of sound.trees a → 0 < count_of sound.trees b → eqb (sound.at a) (sound.at b) ≡ eqb a b
  at_apart a b ha hb =
      elim (eqb_tells a b) [
        | inl (t, same) ↦ rw (same) (grind (arith, nat_tests))
        | inr (t, other) ↦ rw t (elim (eqb_tells (sound.at a) (sound.at b)) [
          | inl (_, both) ↦ absurd (
              let ra = seen sound.trees a sound.distinct ha in
              let rb = seen sound.trees b sound.distinct hb in
              let ea = sound.stored a ra.0 ra.2 in
              let eb = sound.stored b rb.0 rb.2 in
              let ea' = rw both at ea in
              let nodes : Some (node_for sound.trees sound.at a ra.0) ≡ Some (node_for sound.trees sound.at b rb.0) = sym ea' ∙ eb in
              other (let labels : Some a ≡ Some b = ap (λ o. label_in o) nodes in cc))
          | inr (u, _) ↦ u
        ])
      ]

  -- the step at the later neighbour of a label, or at its parent's front, seen at l
  pub next_changed_at : (xs : List (Option Node)) (p l : ℕ) (q : Option ℕ) (to : Option NodeRef) (x : Node) → 0 < count_of sound.trees p → 0 < count_of sound.trees l → IfSome q (λ k. 0 < count_of sound.trees k) → get_or xs (sound.at l) None ≡ Some x → get_or (next_changed xs (record { slot = sound.at p; label = p }) (link_to sound.at q) to) (sound.at l) None ≡ Some (next_step (link_to sound.at q) to (eqb p l) (is_label q l) x)
  next_changed_at xs p l None to x hp hl hq e = changed_at xs (sound.at p) (sound.at l) (with_first to) x (eqb p l) e (at_apart p l hp hl)
  next_changed_at xs p l (Some q) to x hp hl hq e = changed_at xs (sound.at q) (sound.at l) (with_next to) x (eqb q l) e (at_apart q l hq hl)

  pub prev_changed_at : (xs : List (Option Node)) (p l : ℕ) (q : Option ℕ) (to : Option NodeRef) (x : Node) → 0 < count_of sound.trees p → 0 < count_of sound.trees l → IfSome q (λ k. 0 < count_of sound.trees k) → get_or xs (sound.at l) None ≡ Some x → get_or (prev_changed xs (record { slot = sound.at p; label = p }) (link_to sound.at q) to) (sound.at l) None ≡ Some (prev_step (link_to sound.at q) to (eqb p l) (is_label q l) x)
  prev_changed_at xs p l None to x hp hl hq e = changed_at xs (sound.at p) (sound.at l) (with_last to) x (eqb p l) e (at_apart p l hp hl)
  prev_changed_at xs p l (Some q) to x hp hl hq e = changed_at xs (sound.at q) (sound.at l) (with_prev to) x (eqb q l) e (at_apart q l hq hl)

-- ---- the node after a link is what the linked list says

pub same_node : {x y : Node} → x.label ≡ y.label → x.content ≡ y.content → x.parent ≡ y.parent → x.first ≡ y.first → x.last ≡ y.last → x.prev ≡ y.prev → x.next ≡ y.next → x ≡ y
same_node a b c d e f g i = record { label = a i; content = b i; parent = c i; first = d i; last = e i; prev = f i; next = g i }

pub link_to-cond : (at : ℕ → ℕ) (v : Bool) (a b : Option ℕ) → link_to at (cond v a b) ≡ cond v (link_to at a) (link_to at b)
link_to-cond at true a b = refl
link_to-cond at false a b = refl

pub is_none-link_to : (at : ℕ → ℕ) (o : Option ℕ) → is_none (link_to at o) ≡ is_none o
is_none-link_to at None = refl
is_none-link_to at (Some l) = refl

pub mark-link_to : (at : ℕ → ℕ) (o : Option ℕ) (l : ℕ) → mark (link_to at o) (is_label o l) ≡ is_label o l
mark-link_to at None l = refl
mark-link_to at (Some k) l = refl

pub pick_inner : (at : ℕ → ℕ) (v w w' : Bool) (a b c : Option ℕ) → w ≡ w' → cond v (cond w (link_to at a) (link_to at b)) (link_to at c) ≡ link_to at (cond v (cond w' a b) c)
pick_inner at true w w' a b c e = rw e (sym (link_to-cond at w' a b))
pick_inner at false w w' a b c e = refl

pub pick_outer : (at : ℕ → ℕ) (v w w' : Bool) (a b c : Option ℕ) → w ≡ w' → cond v (link_to at a) (cond w (link_to at b) (link_to at c)) ≡ link_to at (cond v a (cond w' b c))
pick_outer at true w w' a b c e = refl
pick_outer at false w w' a b c e = rw e (sym (link_to-cond at w' b c))

module _ (slots : List (Option Node)) (next cap : ℕ) (sound : IsSoundArena slots next cap) (p : ℕ) (b : Option ℕ) (n : ℕ) (can : CanPut sound.trees p b n) where
  abbrev ref : ℕ → NodeRef
  ref l = record { slot = sound.at l; label = l }

  abbrev pub prior : Option ℕ
  prior = prior_in (children_of sound.trees p) b

  abbrev pub new_slots : List (Option Node)
  new_slots = linked_slots slots (ref p) (link_to sound.at prior) (link_to sound.at b) (ref n)

  pub b_here : IfSome b (λ k. 0 < count_of sound.trees k)
  b_here = by_case b can.before
    where
      by_case : (o : Option ℕ) → IfSome o (λ m. parent_of sound.trees m ≡ Some p) → IfSome o (λ k. 0 < count_of sound.trees k)
      by_case None h = tt
      by_case (Some m) h = (parent_count sound.trees m p sound.distinct h).0

  pub prior_here : IfSome prior (λ k. 0 < count_of sound.trees k)
  prior_here = by_case prior refl
    where
      by_case : (o : Option ℕ) → prior_in (children_of sound.trees p) b ≡ o → IfSome o (λ k. 0 < count_of sound.trees k)
      by_case None e = tt
      by_case (Some k) e = by_count (times (children_of sound.trees p) k) refl
        where
          by_count : (c : ℕ) → times (children_of sound.trees p) k ≡ c → 0 < count_of sound.trees k
          by_count zero t = absurd (let off = is_label_prior (children_of sound.trees p) b k t in let off' = rw e at off in grind (arith, nat_tests))
          by_count (suc c) t = omega (arith, t, times-children_of_le sound.trees p k sound.distinct)

  pub linked_at : (l : ℕ) (s : Seen Content) → seek None sound.trees l ≡ Some s → get_or new_slots (sound.at l) None ≡ Some (node_for (link sound.trees p b n) sound.at l (relinked p b n l s))
  linked_at l s e =
      let hl = found_count sound.trees l s e in
      let one = changed_at slots (sound.at n) (sound.at l) (placed (Some (ref p)) (link_to sound.at prior) (link_to sound.at b)) (node_for sound.trees sound.at l s) (eqb n l) (sound.stored l s e) (at_apart slots next cap sound n l can.node hl) in
      let two = next_changed_at slots next cap sound _ p l prior (Some (ref n)) _ can.parent hl prior_here one in
      let three = prev_changed_at slots next cap sound _ p l b (Some (ref n)) _ can.parent hl b_here two in
      three ∙ ap Some (merged ∙ fields)
    where
      same : eqb n l ≡ true → n ≡ l
      same t = elim (eqb_tells n l) [ inl (_, is) ↦ is | inr (u, _) ↦ absurd cc ]

      merged : prev_step (link_to sound.at b) (Some (ref n)) (eqb p l) (is_label b l) (next_step (link_to sound.at prior) (Some (ref n)) (eqb p l) (is_label prior l) (cond (eqb n l) (placed (Some (ref p)) (link_to sound.at prior) (link_to sound.at b) (node_for sound.trees sound.at l s)) (node_for sound.trees sound.at l s))) ≡ after_link (ref p) (ref n) (link_to sound.at prior) (link_to sound.at b) (eqb n l) (eqb p l) (is_label prior l) (is_label b l) (node_for sound.trees sound.at l s)
      merged = merge_link (ref p) (ref n) (link_to sound.at prior) (link_to sound.at b) (eqb n l) (eqb p l) (is_label prior l) (is_label b l) (node_for sound.trees sound.at l s)
          (λ t. mark-link_to sound.at prior l ∙ (rw (← same t) (is_label_prior (children_of sound.trees p) b n (absent_n sound.trees p b n sound.distinct can))))
          (λ t. mark-link_to sound.at b l ∙ (rw (← same t) (is_label_b sound.trees p b n sound.distinct can n (absent_n sound.trees p b n sound.distinct can))))

      fields : after_link (ref p) (ref n) (link_to sound.at prior) (link_to sound.at b) (eqb n l) (eqb p l) (is_label prior l) (is_label b l) (node_for sound.trees sound.at l s) ≡ node_for (link sound.trees p b n) sound.at l (relinked p b n l s)
      fields =
          same_node
          refl
          refl
          (sym (link_to-cond sound.at (eqb n l) (Some p) s.parent))
          (pick_inner sound.at (eqb p l) _ _ (Some n) (first_of sound.trees l) (first_of sound.trees l) (is_none-link_to sound.at prior) ∙ ap (link_to sound.at) (sym (first_of-link sound.trees p b n sound.distinct can l)))
          (pick_inner sound.at (eqb p l) _ _ (Some n) (last_of sound.trees l) (last_of sound.trees l) (is_none-link_to sound.at b) ∙ ap (link_to sound.at) (sym (last_of-link sound.trees p b n sound.distinct can l)))
          (pick_outer sound.at (eqb n l) _ _ prior (Some n) (prev_of sound.trees l) (mark-link_to sound.at b l) ∙ ap (link_to sound.at) (sym (prev_of-link sound.trees p b n sound.distinct can l s e)))
          (pick_outer sound.at (eqb n l) _ _ b (Some n) (next_of sound.trees l) (mark-link_to sound.at prior l) ∙ ap (link_to sound.at) (sym (next_of-link sound.trees p b n sound.distinct can l s e)))
