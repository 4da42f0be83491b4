-- A tree with its later siblings is a part of its forest. The parts from a node's first child and from
-- its next sibling on are its children and what comes after it.
use Rattle.std.proofs.Common.{◌≡◌, ◌⊎◌, ℕ, ◌+◌, ◌<◌, ◌≤◌, true, false, List, [], ◌∷◌, ◌++◌, Option, Some, None, refl, sym, ap, subst, ◌∙◌, inl, inr, arith, nat_lt}
use Rattle.std.proofs.lemmas.Bool.Decides.{eqb_tells, nat_tests}
use Rattle.std.specs.Option.{option_map, option_map_or, option_and_then}
use Rattle.dom_model.specs.Forest.{Forest, Seen, tops, total, count_of, IsDistinct, parent_of, children_of, content_of, first_of, next_of, first_in, after_in, times}
use Rattle.dom_model.specs.Forest.Forest.{Nil, Tree}
use Rattle.dom_model.specs.Places.{onward}
use Rattle.dom_model.specs.TreeOrder.{total_from, total_after}
use Rattle.dom_model.proofs.Stands.{Stands, seek_Stands}
use Rattle.dom_model.proofs.Lists.{times-append, after_in-middle}
use Rattle.dom_model.proofs.Links.{times-children_of, eqb_refl_true}

some_below : (n : ℕ) → 0 < n → nat_lt 0 n ≡ true
some_below n h = grind (arith, nat_tests)

none_below : (n : ℕ) → n ≡ 0 → nat_lt 0 n ≡ false
none_below n h = grind (arith, nat_tests)

module _ {C : Type 0} where
  -- g is a part of f, and the nodes that come after g in f weigh n
  abbrev pub Part : (ℕ → C → ℕ) → Forest C → Forest C → ℕ → Type 0
  Part w Nil g n = ⊥
  Part w (Tree m c ks rest) g n =
      ((Tree m c ks rest ≡ g) × (n ≡ 0))
      ⊎ (((k : ℕ) × Part w ks g k × (n ≡ k + total w rest)) ⊎ Part w rest g n)

  pub Part-through : (w : ℕ → C → ℕ) (f g h : Forest C) (n k : ℕ) → Part w f g n → Part w g h k → Part w f h (k + n)
  Part-through w Nil g h n k a b = absurd a
  Part-through w (Tree m c ks rest) g h n k (inl (e, none)) b =
      let at : k ≡ k + n = omega (arith, none) in
      subst (Part w (Tree m c ks rest) h) at (subst (λ x. Part w x h k) (sym e) b)
  Part-through w (Tree m c ks rest) g h n k (inr (inl (j, a, e))) b =
      inr (inl (k + j, Part-through w ks g h j k a b, omega (arith, e)))
  Part-through w (Tree m c ks rest) g h n k (inr (inr a)) b = inr (inr (Part-through w rest g h n k a b))

  -- the children of the first tree of a part, and its later trees, are parts
  pub Part-kids : (w : ℕ → C → ℕ) (f : Forest C) (l : ℕ) (c : C) (ks rest : Forest C) (n k : ℕ) → first_in (tops ks) ≡ Some k → Part w f (Tree l c ks rest) n → Part w f ks (total w rest + n)
  Part-kids w f l c Nil rest n k e p = absurd (let e' = e in cc)
  Part-kids w f l c (Tree m d js more) rest n k e p =
      Part-through w f (Tree l c (Tree m d js more) rest) (Tree m d js more) n (total w rest) p (inr (inl (0, inl (refl, refl), omega arith)))

  pub Part-rest : (w : ℕ → C → ℕ) (f : Forest C) (l : ℕ) (c : C) (ks rest : Forest C) (n k : ℕ) → first_in (tops rest) ≡ Some k → Part w f (Tree l c ks rest) n → Part w f rest n
  Part-rest w f l c ks Nil n k e p = absurd (let e' = e in cc)
  Part-rest w f l c ks (Tree m d js more) n k e p =
      let at : 0 + n ≡ n = omega arith in
      subst (Part w f (Tree m d js more)) at (Part-through w f (Tree l c ks (Tree m d js more)) (Tree m d js more) n 0 p (inr (inr (inl (refl, refl)))))

  -- a later sibling begins a part, after which as much comes
  pub Part-sibling : (w : ℕ → C → ℕ) (f g : Forest C) (n l : ℕ) → Part w f g n → 0 < times (tops g) l → (c : C) × (ks : Forest C) × (rest : Forest C) × Part w f (Tree l c ks rest) n
  Part-sibling w f Nil n l p some = absurd (omega (arith, some))
  Part-sibling w f (Tree m c ks Nil) n l p some =
      elim (eqb_tells m l) [
        | inl (_, is) ↦ (c, ks, Nil, subst (λ k. Part w f (Tree k c ks Nil) n) is p)
        | inr (t, _) ↦ absurd (let some' = rw t at some in omega (arith, some'))
      ]
  Part-sibling w f (Tree m c ks (Tree k d js more)) n l p some =
      elim (eqb_tells m l) [
        | inl (_, is) ↦ (c, ks, Tree k d js more, subst (λ x. Part w f (Tree x c ks (Tree k d js more)) n) is p)
        | inr (t, _) ↦ (let some' = rw t at some in Part-sibling w f (Tree k d js more) n l (Part-rest w f m c ks (Tree k d js more) n k refl p) (omega (arith, some')))
      ]

  pub Part_count : (w : ℕ → C → ℕ) (f : Forest C) (l : ℕ) (c : C) (ks rest : Forest C) (n : ℕ) → Part w f (Tree l c ks rest) n → 0 < count_of f l
  Part_count w Nil l c ks rest n p = absurd p
  Part_count w (Tree m d js more) l c ks rest n (inl (e, _)) =
      let is : m ≡ l = (let e' = e in cc) in
      elim (eqb_tells m l) [ inl (t, _) ↦ rw t (omega arith) | inr (_, off) ↦ absurd (off is) ]
  Part_count w (Tree m d js more) l c ks rest n (inr (inl (k, p, _))) = omega (arith, Part_count w js l c ks rest k p)
  Part_count w (Tree m d js more) l c ks rest n (inr (inr p)) = omega (arith, Part_count w more l c ks rest n p)

  pub Part_here : (w : ℕ → C → ℕ) (f : Forest C) (l : ℕ) → 0 < count_of f l → (c : C) × (ks : Forest C) × (rest : Forest C) × (n : ℕ) × Part w f (Tree l c ks rest) n
  Part_here w Nil l h = absurd (omega (arith, h))
  Part_here w (Tree m c ks rest) l h =
      elim (eqb_tells m l) [
        | inl (_, is) ↦ (c, ks, rest, 0, inl (ap (λ k. Tree k c ks rest) is, refl))
        | inr (t, _) ↦ (let h' = rw t at h in
            elim (either_positive (count_of ks l) (count_of rest l) h') [
              | inl below ↦ (let r = Part_here w ks l below in (r.0, r.1, r.2, r.3 + total w rest, inr (inl (r.3, r.4, refl))))
              | inr after ↦ (let r = Part_here w rest l after in (r.0, r.1, r.2, r.3, inr (inr r.4)))
            ])
      ]
    where
      either_positive : (a b : ℕ) → 0 < 0 + (a + b) → (0 < a) ⊎ (0 < b)
      either_positive a b h = grind arith

  -- ---- what the look-ups give

  pub onward_absent : (f : Forest C) (l : ℕ) → count_of f l ≡ 0 → onward f l ≡ Nil
  onward_absent Nil l none = refl
  onward_absent (Tree m c ks rest) l none =
      elim (eqb_tells m l) [
        | inl (t, _) ↦ absurd (let none' = rw t at none in omega (arith, none'))
        | inr (t, _) ↦ (let none' = rw t at none in rw (t, onward_absent ks l (omega (arith, none'))) (onward_absent rest l (omega (arith, none'))))
      ]

  pub onward_Part : (w : ℕ → C → ℕ) (f : Forest C) (l : ℕ) (c : C) (ks rest : Forest C) (n : ℕ) → count_of f l ≤ 1 → Part w f (Tree l c ks rest) n → onward f l ≡ Tree l c ks rest
  onward_Part w Nil l c ks rest n once p = absurd p
  onward_Part w (Tree m d js more) l c ks rest n once (inl (e, _)) =
      let is : m ≡ l = (let e' = e in cc) in
      elim (eqb_tells m l) [ inl (t, _) ↦ rw t e | inr (_, off) ↦ absurd (off is) ]
  onward_Part w (Tree m d js more) l c ks rest n once (inr (inl (k, p, _))) =
      let here = Part_count w js l c ks rest k p in
      elim (eqb_tells m l) [
        | inl (t, _) ↦ absurd (let once' = rw t at once in omega (arith, once', here))
        | inr (t, _) ↦ rw (t, onward_Part w js l c ks rest k (omega (arith, once)) p) refl
      ]
  onward_Part w (Tree m d js more) l c ks rest n once (inr (inr p)) =
      let here = Part_count w more l c ks rest n p in
      elim (eqb_tells m l) [
        | inl (t, _) ↦ absurd (let once' = rw t at once in omega (arith, once', here))
        | inr (t, _) ↦ rw (t, onward_absent js l (omega (arith, once, here))) (onward_Part w more l c ks rest n (omega (arith, once)) p)
      ]

  pub total_from_Part : (w : ℕ → C → ℕ) (f : Forest C) (l : ℕ) (c : C) (ks rest : Forest C) (n : ℕ) → count_of f l ≤ 1 → Part w f (Tree l c ks rest) n → total_from w f l ≡ total w (Tree l c ks rest) + n
  total_from_Part w Nil l c ks rest n once p = absurd p
  total_from_Part w (Tree m d js more) l c ks rest n once (inl (e, none)) =
      let is : m ≡ l = (let e' = e in cc) in
      elim (eqb_tells m l) [ inl (t, _) ↦ rw t (omega (arith, none, ap (total w) e)) | inr (_, off) ↦ absurd (off is) ]
  total_from_Part w (Tree m d js more) l c ks rest n once (inr (inl (k, p, e))) =
      let here = Part_count w js l c ks rest k p in
      elim (eqb_tells m l) [
        | inl (t, _) ↦ absurd (let once' = rw t at once in omega (arith, once', here))
        | inr (t, _) ↦ rw (t, some_below (count_of js l) here) (omega (arith, e, total_from_Part w js l c ks rest k (omega (arith, once)) p))
      ]
  total_from_Part w (Tree m d js more) l c ks rest n once (inr (inr p)) =
      let here = Part_count w more l c ks rest n p in
      elim (eqb_tells m l) [
        | inl (t, _) ↦ absurd (let once' = rw t at once in omega (arith, once', here))
        | inr (t, _) ↦ rw (t, none_below (count_of js l) (omega (arith, once, here))) (total_from_Part w more l c ks rest n (omega (arith, once)) p)
      ]

  pub total_after_Part : (w : ℕ → C → ℕ) (f : Forest C) (l : ℕ) (c : C) (ks rest : Forest C) (n : ℕ) → count_of f l ≤ 1 → Part w f (Tree l c ks rest) n → total_after w f l ≡ total w rest + n
  total_after_Part w Nil l c ks rest n once p = absurd p
  total_after_Part w (Tree m d js more) l c ks rest n once (inl (e, none)) =
      let is : m ≡ l = (let e' = e in cc) in
      let same : more ≡ rest = (let e' = e in cc) in
      elim (eqb_tells m l) [ inl (t, _) ↦ rw t (omega (arith, none, ap (total w) same)) | inr (_, off) ↦ absurd (off is) ]
  total_after_Part w (Tree m d js more) l c ks rest n once (inr (inl (k, p, e))) =
      let here = Part_count w js l c ks rest k p in
      elim (eqb_tells m l) [
        | inl (t, _) ↦ absurd (let once' = rw t at once in omega (arith, once', here))
        | inr (t, _) ↦ rw (t, some_below (count_of js l) here) (omega (arith, e, total_after_Part w js l c ks rest k (omega (arith, once)) p))
      ]
  total_after_Part w (Tree m d js more) l c ks rest n once (inr (inr p)) =
      let here = Part_count w more l c ks rest n p in
      elim (eqb_tells m l) [
        | inl (t, _) ↦ absurd (let once' = rw t at once in omega (arith, once', here))
        | inr (t, _) ↦ rw (t, none_below (count_of js l) (omega (arith, once, here))) (total_after_Part w more l c ks rest n (omega (arith, once)) p)
      ]

  -- the labels of a part end the list of the forest's trees or of a node's children
  abbrev pub Ends : Option ℕ → Forest C → Forest C → Option ℕ → Type 0
  Ends q f g p =
      ((p ≡ q) × (pre : List ℕ) × (tops f ≡ pre ++ tops g))
      ⊎ ((k : ℕ) × (r : Seen C) × (p ≡ Some k) × Stands q f k r × (pre : List ℕ) × (r.children ≡ pre ++ tops g))

  pub Part_stands : (w : ℕ → C → ℕ) (q : Option ℕ) (f : Forest C) (l : ℕ) (c : C) (ks rest : Forest C) (n : ℕ) → Part w f (Tree l c ks rest) n → (p : Option ℕ) × Stands q f l (record { parent = p; content = c; children = tops ks }) × Ends q f (Tree l c ks rest) p
  Part_stands w q Nil l c ks rest n p = absurd p
  Part_stands w q (Tree m d js more) l c ks rest n (inl (e, _)) =
      subst (λ x. (p : Option ℕ) × Stands q x l (record { parent = p; content = c; children = tops ks }) × Ends q x (Tree l c ks rest) p) (sym e) (q, inl (refl, refl), inl (refl, [], refl))
  Part_stands w q (Tree m d js more) l c ks rest n (inr (inl (k, p, _))) =
      let r = Part_stands w (Some m) js l c ks rest k p in (
        r.0,
        inr (inl r.1),
        elim r.2 [
          | inl (at, pre, e) ↦ inr (m, record { parent = q; content = d; children = tops js }, at, inl (refl, refl), pre, e)
          | inr (j, s, at, st, pre, e) ↦ inr (j, s, at, inr (inl st), pre, e)
        ],
      )
  Part_stands w q (Tree m d js more) l c ks rest n (inr (inr p)) =
      let r = Part_stands w q more l c ks rest n p in (
        r.0,
        inr (inr r.1),
        elim r.2 [
          | inl (at, pre, e) ↦ inl (at, m ∷ pre, ap (λ xs. m ∷ xs) e)
          | inr (j, s, at, st, pre, e) ↦ inr (j, s, at, inr (inr st), pre, e)
        ],
      )

-- what is known of a label that is there: its tree with its later siblings, and the same of its first
-- child and its next sibling
pub record At {C : Type 0} (f : Forest C) (l : ℕ) : Type 0 where
  pub content : C
  pub kids : Forest C
  pub rest : Forest C
  pub is : onward f l ≡ Tree l content kids rest
  pub content_is : content_of f l ≡ Some content
  pub children_is : children_of f l ≡ tops kids
  pub next_is : (p : ℕ) → parent_of f l ≡ Some p → next_of f l ≡ first_in (tops rest)
  pub first : (k : ℕ) → first_of f l ≡ Some k → onward f k ≡ kids
  pub next : (k : ℕ) → next_of f l ≡ Some k → onward f k ≡ rest
  pub parts : (w : ℕ → C → ℕ) → (n : ℕ) × Part w f (Tree l content kids rest) n

module _ {C : Type 0} (f : Forest C) (once : IsDistinct f) where
  zero_weight : ℕ → C → ℕ
  zero_weight = λ _ _. 0

  part_next : (l p : ℕ) (c : C) (ks rest : Forest C) (n : ℕ) → Part zero_weight f (Tree l c ks rest) n → parent_of f l ≡ Some p → next_of f l ≡ first_in (tops rest)
  part_next l p c ks rest n part child =
      let r = Part_stands zero_weight None f l c ks rest n part in
      let found = seek_Stands None f l _ (once l) r.1 in
      let own : parent_of f l ≡ r.0 = ap (option_and_then (λ (s : Seen C). s.parent)) found in
      elim r.2 [
        | inl (at, _, _) ↦ absurd (let t : None ≡ Some p = sym at ∙ sym own ∙ child in cc)
        | inr (k, s, at, st, pre, e) ↦ (
            let same : k ≡ p = (let t : Some k ≡ Some p = sym at ∙ sym own ∙ child in cc) in
            let kids : children_of f k ≡ pre ++ l ∷ tops rest = ap (λ o. option_map_or (λ (x : Seen C). x.children) o []) (seek_Stands None f k s (once k) st) ∙ e in
            let kids' : children_of f p ≡ pre ++ l ∷ tops rest = subst (λ j. children_of f j ≡ pre ++ l ∷ tops rest) same kids in
            let few = times-children_of f p l once in
            let few' = rw (kids', times-append pre (l ∷ tops rest) l) at few in
            let one : 0 < times (l ∷ tops rest) l = (let t = eqb_refl_true l in rw t (omega arith)) in
            ap (option_and_then (λ j. after_in (children_of f j) l)) child ∙ (ap (λ xs. after_in xs l) kids' ∙ after_in-middle pre l (tops rest) (omega (arith, few', one))))
      ]

  onward_first : (g : Forest C) (n k : ℕ) → Part zero_weight f g n → first_in (tops g) ≡ Some k → onward f k ≡ g
  onward_first Nil n k p e = absurd (let e' = e in cc)
  onward_first (Tree m c ks rest) n k p e =
      let is : m ≡ k = (let e' = e in cc) in
      subst (λ j. onward f j ≡ Tree m c ks rest) is (onward_Part zero_weight f m c ks rest n (once m) p)

  pub at_label : (l : ℕ) → 0 < count_of f l → At f l
  at_label l h =
      let p = Part_here zero_weight f l h in
      let c = p.0 in
      let ks = p.1 in
      let rest = p.2 in
      let is = onward_Part zero_weight f l c ks rest p.3 (once l) p.4 in
      let r = Part_stands zero_weight None f l c ks rest p.3 p.4 in
      let found = seek_Stands None f l _ (once l) r.1 in
      let kids : children_of f l ≡ tops ks = ap (λ o. option_map_or (λ (x : Seen C). x.children) o []) found in
      record {
        content = c;
        kids = ks;
        rest = rest;
        is = is;
        content_is = ap (option_map (λ (x : Seen C). x.content)) found;
        children_is = kids;
        next_is = λ q child. part_next l q c ks rest p.3 p.4 child;
        first = λ k e. (let e' : first_in (tops ks) ≡ Some k = ap first_in (sym kids) ∙ e in onward_first ks (total zero_weight rest + p.3) k (Part-kids zero_weight f l c ks rest p.3 k e' p.4) e');
        next = λ k e. by_parent (parent_of f l) refl k e c ks rest p.3 p.4;
        parts = λ w. same_part w l c ks rest is (Part_here w f l h);
      }
    where
      by_parent : (o : Option ℕ) → parent_of f l ≡ o → (k : ℕ) → next_of f l ≡ Some k → (c : C) (ks rest : Forest C) (n : ℕ) → Part zero_weight f (Tree l c ks rest) n → onward f k ≡ rest
      by_parent None e k next c ks rest n part = absurd (let t : next_of f l ≡ None = ap (option_and_then (λ j. after_in (children_of f j) l)) e in let u = next in cc)
      by_parent (Some q) e k next c ks rest n part =
          let e' : first_in (tops rest) ≡ Some k = sym (part_next l q c ks rest n part e) ∙ next in
          onward_first rest n k (Part-rest zero_weight f l c ks rest n k e' part) e'

      same_part : (w : ℕ → C → ℕ) (l : ℕ) (c : C) (ks rest : Forest C) → onward f l ≡ Tree l c ks rest → (d : C) × (js : Forest C) × (more : Forest C) × (n : ℕ) × Part w f (Tree l d js more) n → (n : ℕ) × Part w f (Tree l c ks rest) n
      same_part w l c ks rest is p =
          let same : Tree l p.0 p.1 p.2 ≡ Tree l c ks rest = sym (onward_Part w f l p.0 p.1 p.2 p.3 (once l) p.4) ∙ is in
          (p.3, subst (λ g. Part w f g p.3) same p.4)
