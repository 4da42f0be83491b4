-- A new item beside the last of a list of items: it stays together, also where the new one takes in hidden ones before it.
use Rattle.std.proofs.Common.{◌≡◌, ◌≢◌, ◌⊎◌, ℕ, ◌+◌, ◌<◌, ◌≤◌, zero, suc, Bool, true, false, if◌then◌else◌, List, [], ◌∷◌, ◌++◌, Option, Some, None, refl, sym, ap, subst, ◌∙◌, inl, inr, arith, append_assoc, nat_lt}
use Rattle.std.specs.Prelude.{codes}
use Rattle.std.proofs.lemmas.Bool.{ne_eqb, lt-ltb}
use Rattle.std.proofs.lemmas.Bool.Decides.{eqb_tells}
use Rattle.std.proofs.lemmas.List.{append-nil}
use Rattle.edit_model.specs.DomModel.Contents.{has_name}
use Rattle.edit_model.specs.DomModel.Forest.{is_label, times, first_in, parent_of, children_of, content_of}
use Rattle.edit_model.proofs.DomModel.Lists.{times-append}
use Rattle.edit_model.proofs.DomModel.Links.{times-children_of, eqb_refl_true}
use Rattle.edit_model.specs.State.{State}
use Rattle.edit_model.specs.Valid.{IsValid}
use Rattle.edit_model.proofs.Trees.{none_or_some}
use Rattle.edit_laws.proofs.Around.{self_one}
use Rattle.edit_laws.proofs.Fronts.{child_by}
use Rattle.edit_laws.proofs.Slides.{parent_other}
use Rattle.inline_value.specs.EditActions.Siblings.{members, until}
use Rattle.command_laws.proofs.Copies.{until_front}
use Rattle.command_laws.proofs.Together.{members-append, members-one, members-other, members-same}
use Rattle.command_laws.proofs.Widening.{Siblings, pushed-last}
use Rattle.command_laws.proofs.Growing.{Piece, siblings_as, piece_of, only, members-loose, Grown, same_named}

-- ---- lists

-- the members that are none of the list, and those that are
abbrev pub less : List ℕ → List ℕ → List ℕ
less list [] = []
less list (x ∷ xs) = if nat_lt 0 (times list x) then less list xs else x ∷ less list xs

abbrev pub common : List ℕ → List ℕ → List ℕ
common list [] = []
common list (x ∷ xs) = if nat_lt 0 (times list x) then x ∷ common list xs else common list xs

is_in : (list : List ℕ) (x : ℕ) → 0 < times list x → nat_lt 0 (times list x) ≡ true
is_in list x h = lt-ltb 0 (times list x) h

is_out : (list : List ℕ) (x : ℕ) → times list x ≡ 0 → nat_lt 0 (times list x) ≡ false
is_out list x e = ap (nat_lt 0) e

less-append : (list xs ys : List ℕ) → less list (xs ++ ys) ≡ less list xs ++ less list ys
less-append list [] ys = refl
less-append list (x ∷ xs) ys = by (nat_lt 0 (times list x)) (less-append list xs ys)
  where
    by : (v : Bool) → less list (xs ++ ys) ≡ less list xs ++ less list ys → (if v then less list (xs ++ ys) else x ∷ less list (xs ++ ys)) ≡ (if v then less list xs else x ∷ less list xs) ++ less list ys
    by true more = more
    by false more = ap (λ k. x ∷ k) more

common-append : (list xs ys : List ℕ) → common list (xs ++ ys) ≡ common list xs ++ common list ys
common-append list [] ys = refl
common-append list (x ∷ xs) ys = by (nat_lt 0 (times list x)) (common-append list xs ys)
  where
    by : (v : Bool) → common list (xs ++ ys) ≡ common list xs ++ common list ys → (if v then x ∷ common list (xs ++ ys) else common list (xs ++ ys)) ≡ (if v then x ∷ common list xs else common list xs) ++ common list ys
    by true more = ap (λ k. x ∷ k) more
    by false more = more

less-none : (list xs : List ℕ) → ((l : ℕ) → 0 < times xs l → times list l ≡ 0) → less list xs ≡ xs
less-none list [] out = refl
less-none list (x ∷ xs) out = rw (is_out list x (out x (omega (arith, self_one x))), less-none list xs (λ l h. out l (omega (arith, h)))) refl

less-all : (list xs : List ℕ) → ((l : ℕ) → 0 < times xs l → 0 < times list l) → less list xs ≡ []
less-all list [] inside = refl
less-all list (x ∷ xs) inside = rw (is_in list x (inside x (omega (arith, self_one x)))) (less-all list xs (λ l h. inside l (omega (arith, h))))

common-none : (list xs : List ℕ) → ((l : ℕ) → 0 < times xs l → times list l ≡ 0) → common list xs ≡ []
common-none list [] out = refl
common-none list (x ∷ xs) out = rw (is_out list x (out x (omega (arith, self_one x)))) (common-none list xs (λ l h. out l (omega (arith, h))))

common-all : (list xs : List ℕ) → ((l : ℕ) → 0 < times xs l → 0 < times list l) → common list xs ≡ xs
common-all list [] inside = refl
common-all list (x ∷ xs) inside = rw (is_in list x (inside x (omega (arith, self_one x))), common-all list xs (λ l h. inside l (omega (arith, h)))) refl

tail_in : List ℕ → List ℕ
tail_in [] = []
tail_in (x ∷ xs) = xs

-- where two lists join to the same, the first of one begins the first of the other
append_split : (a b c d : List ℕ) → a ++ b ≡ c ++ d → ((k : List ℕ) × ((c ≡ a ++ k) × (b ≡ k ++ d))) ⊎ ((k : List ℕ) × ((a ≡ c ++ k) × (d ≡ k ++ b)))
unfolding tail_in
append_split [] b c d e = inl (c, (refl, e))
append_split (x ∷ a) b [] d e = inr (x ∷ a, (refl, sym e))
append_split (x ∷ a) b (y ∷ c) d e =
    let heads : Some x ≡ Some y = ap first_in e in
    let head : x ≡ y = (let h = heads in cc) in
    by head (append_split a b c d (ap tail_in e))
  where
    by : x ≡ y → ((k : List ℕ) × ((c ≡ a ++ k) × (b ≡ k ++ d))) ⊎ ((k : List ℕ) × ((a ≡ c ++ k) × (d ≡ k ++ b))) → ((k : List ℕ) × ((y ∷ c ≡ (x ∷ a) ++ k) × (b ≡ k ++ d))) ⊎ ((k : List ℕ) × ((x ∷ a ≡ (y ∷ c) ++ k) × (d ≡ k ++ b)))
    by head (inl r) = inl (r.0, (ap (λ h. h ∷ c) (sym head) ∙ ap (λ m. x ∷ m) r.1.0, r.1.1))
    by head (inr r) = inr (r.0, (ap (λ h. h ∷ a) head ∙ ap (λ m. y ∷ m) r.1.0, r.1.1))

-- what comes before a node in a list that has it once
pub before_same : (a b c d : List ℕ) (x : ℕ) → times a x ≡ 0 → times c x ≡ 0 → a ++ x ∷ b ≡ c ++ x ∷ d → a ≡ c
before_same a b c d x none other e = sym (until_front a b x none) ∙ (ap (until x) e ∙ until_front c d x other)

-- ---- members that went

module _ (s u : State) (q p : ℕ) (list : List ℕ) (off : q ≢ p) (under : (l : ℕ) → 0 < times list l → parent_of s.trees l ≡ Some q) (moved : (l : ℕ) → 0 < times list l → parent_of u.trees l ≡ Some p) where
  left_members : (xs : List ℕ) → ((l : ℕ) → 0 < times xs l → times list l ≡ 0 → parent_of u.trees l ≡ parent_of s.trees l) → members u q xs ≡ less list (members s q xs)
  unfolding members
  left_members [] stays = refl
  left_members (x ∷ xs) stays = elim (none_or_some (times list x)) [
    | inl none ↦ rw (stays x (omega (arith, self_one x)) none) (by_label (is_label (parent_of s.trees x) q) none (left_members xs (λ l h. stays l (omega (arith, h)))))
    | inr some ↦ rw (moved x some, under x some, ne_eqb p q (λ e. off (sym e)), eqb_refl_true q, is_in list x some) (left_members xs (λ l h. stays l (omega (arith, h))))
  ]
    where
      by_label : (v : Bool) → times list x ≡ 0 → members u q xs ≡ less list (members s q xs) → (if v then x ∷ members u q xs else members u q xs) ≡ less list (if v then x ∷ members s q xs else members s q xs)
      by_label true none more = rw (is_out list x none) (ap (λ k. x ∷ k) more)
      by_label false none more = more

  went_members : (xs : List ℕ) → ((l : ℕ) → 0 < times xs l → times list l ≡ 0 → parent_of u.trees l ≡ parent_of s.trees l) → ((l : ℕ) → 0 < times xs l → is_label (parent_of s.trees l) p ≡ false) → members u p xs ≡ common list (members s q xs)
  unfolding members
  went_members [] stays new = refl
  went_members (x ∷ xs) stays new = elim (none_or_some (times list x)) [
    | inl none ↦ rw (stays x (omega (arith, self_one x)) none, new x (omega (arith, self_one x))) (by_label (is_label (parent_of s.trees x) q) none (went_members xs (λ l h. stays l (omega (arith, h))) (λ l h. new l (omega (arith, h)))))
    | inr some ↦ rw (moved x some, under x some, eqb_refl_true p, eqb_refl_true q, is_in list x some) (ap (λ k. x ∷ k) (went_members xs (λ l h. stays l (omega (arith, h))) (λ l h. new l (omega (arith, h)))))
  ]
    where
      by_label : (v : Bool) → times list x ≡ 0 → members u p xs ≡ common list (members s q xs) → members u p xs ≡ common list (if v then x ∷ members s q xs else members s q xs)
      by_label true none more = rw (is_out list x none) more
      by_label false none more = more

  other_members : (o : ℕ) → q ≢ o → p ≢ o → (xs : List ℕ) → ((l : ℕ) → 0 < times xs l → times list l ≡ 0 → parent_of u.trees l ≡ parent_of s.trees l) → members u o xs ≡ members s o xs
  unfolding members
  other_members o no_q no_p [] stays = refl
  other_members o no_q no_p (x ∷ xs) stays = elim (none_or_some (times list x)) [
    | inl none ↦ rw (stays x (omega (arith, self_one x)) none) (ap (λ m. if is_label (parent_of s.trees x) o then x ∷ m else m) (other_members o no_q no_p xs (λ l h. stays l (omega (arith, h)))))
    | inr some ↦ rw (moved x some, under x some, ne_eqb p o no_p, ne_eqb q o no_q) (other_members o no_q no_p xs (λ l h. stays l (omega (arith, h))))
  ]

-- ---- a new item p takes in a list of siblings, and stands where they stood

pub record TakenIn (s u : State) (q p : ℕ) (front list rest : List ℕ) : Type 0 where
  pub own : parent_of u.trees p ≡ Some q
  pub moved : (l : ℕ) → 0 < times list l → parent_of u.trees l ≡ Some p
  pub stays : (l : ℕ) → times list l ≡ 0 → p ≢ l → parent_of u.trees l ≡ parent_of s.trees l
  pub above : children_of u.trees q ≡ front ++ p ∷ rest
  pub inner : children_of u.trees p ≡ list
  pub others : (o : ℕ) → q ≢ o → p ≢ o → children_of u.trees o ≡ children_of s.trees o
  pub content : (l : ℕ) → p ≢ l → content_of u.trees l ≡ content_of s.trees l
  pub named : has_name u.trees p (codes "li") ≡ true
  pub more : p < u.next

module _ (s : State) (is : IsValid s) (items : List ℕ) (q n : ℕ) (g : Grown s items q n) (fresh_child : (l r : ℕ) → parent_of s.trees l ≡ Some r → s.next ≢ l) (fresh_parent : (l r : ℕ) → parent_of s.trees l ≡ Some r → s.next ≢ r) (near : q ≢ s.next) where
  pub no_item : times items s.next ≡ 0
  no_item = by (times items s.next) refl
    where
      by : (k : ℕ) → times items s.next ≡ k → times items s.next ≡ 0
      by zero e = e
      by (suc k) e = absurd (omega (arith, g.together.known s.next (omega (arith, e))))

  item_other : (l : ℕ) → 0 < times items l → s.next ≢ l
  item_other l h e = let k = ap (times items) e in omega (arith, k, h, no_item)

  never_under : (l : ℕ) → is_label (parent_of s.trees l) s.next ≡ false
  never_under l = by (parent_of s.trees l) refl
    where
      by : (o : Option ℕ) → parent_of s.trees l ≡ o → is_label o s.next ≡ false
      by None e = refl
      by (Some r) e = ne_eqb r s.next (λ same. fresh_parent l r e (sym same))

  module _ (u : State) (ahead behind front rest : List ℕ) (kids : children_of s.trees q ≡ front ++ ((ahead ++ behind) ++ rest)) (w : Piece (members s q items) (children_of s.trees q)) (start : w.front ++ members s q items ≡ front ++ ahead) (t : TakenIn s u q s.next front (ahead ++ behind) rest) where
    many : (l : ℕ) → times (children_of s.trees q) l ≡ times front l + (times (ahead ++ behind) l + times rest l)
    many l = ap (λ m. times m l) kids ∙ (times-append front ((ahead ++ behind) ++ rest) l ∙ ap (λ k. times front l + k) (times-append (ahead ++ behind) rest l))

    under : (l : ℕ) → 0 < times (ahead ++ behind) l → parent_of s.trees l ≡ Some q
    under l h = child_by s is q l (omega (arith, many l, h))

    stay_items : (l : ℕ) → 0 < times items l → times (ahead ++ behind) l ≡ 0 → parent_of u.trees l ≡ parent_of s.trees l
    stay_items l h none = t.stays l none (item_other l h)

    -- which of the items are taken in
    data Parted : Type 0 where
      within : (stay : List ℕ) → front ≡ w.front ++ stay → members s q items ≡ stay ++ ahead → Parted
      beyond : (hidden : List ℕ) → ahead ≡ hidden ++ members s q items → Parted

    parted : Parted
    parted = elim (append_split w.front (members s q items) front ahead start) [
      | inl r ↦ within r.0 r.1.0 r.1.1
      | inr r ↦ beyond r.0 r.1.1
    ]

    at_q : members u q items ≡ less (ahead ++ behind) (members s q items)
    at_q = left_members s u q s.next (ahead ++ behind) near under t.moved items stay_items

    at_p : members u s.next items ≡ common (ahead ++ behind) (members s q items)
    at_p = went_members s u q s.next (ahead ++ behind) near under t.moved items stay_items (λ l _. never_under l)

    all_q : members u q (items ++ s.next ∷ []) ≡ members u q items ++ s.next ∷ []
    all_q = members-append u q items (s.next ∷ []) ∙ ap (λ m. members u q items ++ m) (members-one u q s.next t.own)

    all_other : (o : ℕ) → q ≢ o → members u o (items ++ s.next ∷ []) ≡ members u o items
    all_other o off = members-append u o items (s.next ∷ []) ∙ (ap (λ m. members u o items ++ m) (members-other u o q s.next t.own off) ∙ append-nil (members u o items))

    first_inside : (l : ℕ) → 0 < times ahead l → 0 < times (ahead ++ behind) l
    first_inside l h = omega (arith, h, times-append ahead behind l)

    siblings_q : Parted → Siblings u q (members u q (items ++ s.next ∷ []))
    siblings_q (within stay fronts own) =
        let out : (l : ℕ) → 0 < times stay l → times (ahead ++ behind) l ≡ 0 = λ l h. (let k = ap (λ m. times m l) fronts in omega (arith, k, h, times-append w.front stay l, many l, times-children_of s.trees q l is.forest.distinct)) in
        let kept : members u q items ≡ stay =
        at_q ∙ (ap (less (ahead ++ behind)) own
        ∙ (less-append (ahead ++ behind) stay ahead
        ∙ (ap (λ m. m ++ less (ahead ++ behind) ahead) (less-none (ahead ++ behind) stay out) ∙ (ap (λ m. stay ++ m) (less-all (ahead ++ behind) ahead first_inside) ∙ append-nil stay)))) in
        let shape : children_of u.trees q ≡ w.front ++ ((stay ++ s.next ∷ []) ++ rest) =
        t.above ∙ (ap (λ m. m ++ s.next ∷ rest) fronts ∙ (append_assoc w.front stay (s.next ∷ rest) ∙ ap (λ m. w.front ++ m) (sym (append_assoc stay (s.next ∷ []) rest)))) in
        siblings_as u q (members u q (items ++ s.next ∷ [])) (stay ++ s.next ∷ []) (w.front ++ ((stay ++ s.next ∷ []) ++ rest)) shape (all_q ∙ ap (λ m. m ++ s.next ∷ []) kept) (record { front = w.front; rest = rest; is = refl })
    siblings_q (beyond hidden aheads) =
        let inside : (l : ℕ) → 0 < times (members s q items) l → 0 < times (ahead ++ behind) l = λ l h. (let k = ap (λ m. times m l) aheads in first_inside l (omega (arith, k, h, times-append hidden (members s q items) l))) in
        let kept : members u q items ≡ [] = at_q ∙ less-all (ahead ++ behind) (members s q items) inside in
        siblings_as u q (members u q (items ++ s.next ∷ [])) (s.next ∷ []) (front ++ s.next ∷ rest) t.above (all_q ∙ ap (λ m. m ++ s.next ∷ []) kept) (record { front = front; rest = rest; is = refl })

    siblings_p : Parted → Siblings u s.next (members u s.next (items ++ s.next ∷ []))
    siblings_p (within stay fronts own) =
        let out : (l : ℕ) → 0 < times stay l → times (ahead ++ behind) l ≡ 0 = λ l h. (let k = ap (λ m. times m l) fronts in omega (arith, k, h, times-append w.front stay l, many l, times-children_of s.trees q l is.forest.distinct)) in
        let went : members u s.next items ≡ ahead =
        at_p ∙ (ap (common (ahead ++ behind)) own
        ∙ (common-append (ahead ++ behind) stay ahead
        ∙ (ap (λ m. m ++ common (ahead ++ behind) ahead) (common-none (ahead ++ behind) stay out) ∙ common-all (ahead ++ behind) ahead first_inside))) in
        siblings_as u s.next (members u s.next (items ++ s.next ∷ [])) ahead (ahead ++ behind) t.inner (all_other s.next near ∙ went) (record { front = []; rest = behind; is = refl })
    siblings_p (beyond hidden aheads) =
        let inside : (l : ℕ) → 0 < times (members s q items) l → 0 < times (ahead ++ behind) l = λ l h. (let k = ap (λ m. times m l) aheads in first_inside l (omega (arith, k, h, times-append hidden (members s q items) l))) in
        let went : members u s.next items ≡ members s q items = at_p ∙ common-all (ahead ++ behind) (members s q items) inside in
        let shape : ahead ++ behind ≡ hidden ++ (members s q items ++ behind) = ap (λ m. m ++ behind) aheads ∙ append_assoc hidden (members s q items) behind in
        siblings_as u s.next (members u s.next (items ++ s.next ∷ [])) (members s q items) (ahead ++ behind) t.inner (all_other s.next near ∙ went) (record { front = hidden; rest = behind; is = shape })

    pub taken_grown : Grown u (items ++ s.next ∷ []) q n
    taken_grown = record {
      together = record {
        known = λ l h. by_count l (times items l) refl h;
        siblings = λ o. elim (eqb_tells q o) [
          | inl (_, same) ↦ subst (λ r. Siblings u r (members u r (items ++ s.next ∷ []))) same (siblings_q parted)
          | inr (_, no_q) ↦ elim (eqb_tells s.next o) [
            | inl (_, same) ↦ subst (λ r. Siblings u r (members u r (items ++ s.next ∷ []))) same (siblings_p parted)
            | inr (_, no_p) ↦
                siblings_as u o (members u o (items ++ s.next ∷ [])) (members s o items) (children_of s.trees o) (t.others o no_q no_p)
                (all_other o no_q ∙ other_members s u q s.next (ahead ++ behind) near under t.moved o no_q no_p items stay_items) (piece_of s o (members s o items) (g.together.siblings o))
          ]
        ];
      };
      below = omega (arith, g.below, t.more);
      above = λ r up. g.above r (sym (t.stays q not_itself (λ e. near (sym e))) ∙ up);
      apart = λ l r h up. by_item l r (times items l) refl h up;
      last = λ z r e up. (
          let same : s.next ≡ z = (let k : Some s.next ≡ Some z = sym (pushed-last None items s.next) ∙ e in let k' = k in cc) in
          let own : Some q ≡ Some r = sym t.own ∙ (ap (λ l. parent_of u.trees l) same ∙ up) in
          sym (let k = own in cc));
    }
      where
        by_count : (l k : ℕ) → times items l ≡ k → 0 < times (items ++ s.next ∷ []) l → l < u.next
        by_count l zero e h =
            let sum = times-append items (s.next ∷ []) l in
            let same : s.next ≡ l = only s.next l (omega (arith, e, h, sum)) in
            subst (λ m. m < u.next) same t.more
        by_count l (suc k) e h = omega (arith, g.together.known l (omega (arith, e)), t.more)

        not_itself : times (ahead ++ behind) q ≡ 0
        not_itself = by (times (ahead ++ behind) q) refl
          where
            by : (k : ℕ) → times (ahead ++ behind) q ≡ k → times (ahead ++ behind) q ≡ 0
            by zero e = e
            by (suc k) e = absurd (let up : parent_of s.trees q ≡ Some q = under q (omega (arith, e)) in parent_other s.trees is.forest.distinct q q up refl)

        by_item : (l r k : ℕ) → times items l ≡ k → 0 < times (items ++ s.next ∷ []) l → parent_of u.trees l ≡ Some r → (r ≡ q) ⊎ ((n ≤ r) × (has_name u.trees r (codes "li") ≡ true))
        by_item l r zero e h up =
            let sum = times-append items (s.next ∷ []) l in
            let same : s.next ≡ l = only s.next l (omega (arith, e, h, sum)) in
            let own : Some q ≡ Some r = sym t.own ∙ (ap (λ m. parent_of u.trees m) same ∙ up) in
            inl (sym (let k = own in cc))
        by_item l r (suc k) e h up = elim (none_or_some (times (ahead ++ behind) l)) [
          | inr some ↦ (
              let own : Some s.next ≡ Some r = sym (t.moved l some) ∙ up in
              let same : s.next ≡ r = (let o = own in cc) in
              inr (subst (λ m. n ≤ m) same g.below, subst (λ m. has_name u.trees m (codes "li") ≡ true) same t.named))
          | inl none ↦ (
              let before : parent_of s.trees l ≡ Some r = sym (stay_items l (omega (arith, e)) none) ∙ up in
              elim (g.apart l r (omega (arith, e)) before) [
                | inl same ↦ inl same
                | inr made ↦ inr (made.0, same_named s.trees u.trees r (codes "li") (t.content r (fresh_parent l r before)) made.1)
              ])
        ]

  -- ---- a new item that stays loose

  pub loose_grown : (u : State) → ((l : ℕ) → parent_of u.trees l ≡ parent_of s.trees l) → ((o : ℕ) → children_of u.trees o ≡ children_of s.trees o) → ((l : ℕ) → s.next ≢ l → content_of u.trees l ≡ content_of s.trees l) → parent_of u.trees s.next ≡ None → s.next < u.next
      → Grown u (items ++ s.next ∷ []) q n
  loose_grown u parent children content root more = record {
    together = record {
      known = λ l h. by_count l (times items l) refl h;
      siblings = λ o. (
          let same : members u o items ≡ members s o items = members-same s u o items (λ l _. parent l) in
          let all : members u o (items ++ s.next ∷ []) ≡ members u o items = members-append u o items (s.next ∷ []) ∙ (ap (λ m. members u o items ++ m) (members-loose u o s.next root) ∙ append-nil (members u o items)) in
          siblings_as u o (members u o (items ++ s.next ∷ [])) (members s o items) (children_of s.trees o) (children o) (all ∙ same) (piece_of s o (members s o items) (g.together.siblings o)));
    };
    below = omega (arith, g.below, more);
    above = λ r up. g.above r (sym (parent q) ∙ up);
    apart = λ l r h up. by_item l r (times items l) refl h up;
    last = λ z r e up. (
        let same : s.next ≡ z = (let k : Some s.next ≡ Some z = sym (pushed-last None items s.next) ∙ e in let k' = k in cc) in
        absurd (let k : None ≡ Some r = sym root ∙ (ap (λ l. parent_of u.trees l) same ∙ up) in cc));
  }
    where
      by_count : (l k : ℕ) → times items l ≡ k → 0 < times (items ++ s.next ∷ []) l → l < u.next
      by_count l zero e h =
          let sum = times-append items (s.next ∷ []) l in
          let same : s.next ≡ l = only s.next l (omega (arith, e, h, sum)) in
          subst (λ m. m < u.next) same more
      by_count l (suc k) e h = omega (arith, g.together.known l (omega (arith, e)), more)

      by_item : (l r k : ℕ) → times items l ≡ k → 0 < times (items ++ s.next ∷ []) l → parent_of u.trees l ≡ Some r → (r ≡ q) ⊎ ((n ≤ r) × (has_name u.trees r (codes "li") ≡ true))
      by_item l r zero e h up =
          let sum = times-append items (s.next ∷ []) l in
          let same : s.next ≡ l = only s.next l (omega (arith, e, h, sum)) in
          absurd (let k : None ≡ Some r = sym root ∙ (ap (λ m. parent_of u.trees m) same ∙ up) in cc)
      by_item l r (suc k) e h up =
          let before : parent_of s.trees l ≡ Some r = sym (parent l) ∙ up in
          elim (g.apart l r (omega (arith, e)) before) [
            | inl same ↦ inl same
            | inr made ↦ inr (made.0, same_named s.trees u.trees r (codes "li") (content r (fresh_parent l r before)) made.1)
          ]
