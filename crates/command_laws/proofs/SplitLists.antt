-- A list that is together stays so where the parent of its first member is split: what goes to just before the parent, or to just
-- after it, goes in order, whatever of it is left.
use Rattle.std.proofs.Common.{◌≡◌, ◌≢◌, ◌⊎◌, ℕ, ◌+◌, ◌<◌, ◌≤◌, zero, suc, Bool, true, false, cond, eqb, if◌then◌else◌, List, [], ◌∷◌, ◌++◌, reverse, Option, Some, None, refl, sym, ap, subst, ◌∙◌, inl, inr, arith, append_assoc, true≢false}
use Rattle.std.specs.Option.{option_and_then}
use Rattle.std.proofs.lemmas.Bool.{ne_eqb}
use Rattle.std.proofs.lemmas.Bool.Decides.{eqb_tells}
use Rattle.std.proofs.lemmas.List.{append-nil, reverse-append, reverse-reverse}
use Rattle.edit_model.specs.DomModel.Forest.{is_label, times, put_in, first_in, after_in, parent_of, children_of, next_of}
use Rattle.edit_model.proofs.DomModel.Lists.{times-append, after_in-middle}
use Rattle.edit_model.proofs.DomModel.Links.{times-children_of, eqb_refl_true}
use Rattle.edit_model.specs.State.{State}
use Rattle.edit_model.specs.Confined.{may_move}
use Rattle.edit_model.specs.Edit.{Move, edited}
use Rattle.edit_model.specs.Valid.{IsValid}
use Rattle.edit_model.specs.Moves.{move_before, move_after, move_all_before, move_all_after}
use Rattle.edit_model.specs.Run.{final, edit, for_each}
use Rattle.edit_model.proofs.Steps.{final-answer, final-bind, final-edit, final_next, for_each-cons, for_each-nil}
use Rattle.edit_model.proofs.Tests.{label_is}
use Rattle.edit_model.proofs.Trees.{none_or_some}
use Rattle.edit_laws.proofs.Around.{self_one}
use Rattle.edit_laws.proofs.Fronts.{child_by}
use Rattle.edit_laws.proofs.Lifting.{final_move_before, move_stays}
use Rattle.edit_laws.proofs.Slides.{parent_other}
use Rattle.edit_laws.proofs.ReversedBefore.{final_move_after}
use Rattle.inline_value.specs.EditActions.Siblings.{members}
use Rattle.command_laws.proofs.SteadySplits.{valid_final}
use Rattle.command_laws.proofs.Together.{dropped, dropped-append, dropped-absent, members-append, members-one, members-other, members-same, Together, put_in-seam}
use Rattle.command_laws.proofs.Widening.{Siblings}
use Rattle.command_laws.proofs.Wrapping.{put_in-middle}
use Rattle.command_laws.proofs.Growing.{siblings_as, piece_of, moved_to, child_parted}

pub times-reverse : (xs : List ℕ) (l : ℕ) → times (reverse xs) l ≡ times xs l
times-reverse [] l = refl
times-reverse (x ∷ xs) l = ap (λ m. times m l) (reverse-append (x ∷ []) xs) ∙ (times-append (reverse xs) (x ∷ []) l ∙ omega (arith, times-reverse xs l))

-- ---- members of a list

pub member_owned : (s : State) (o : ℕ) (list : List ℕ) (l : ℕ) → 0 < times (members s o list) l → parent_of s.trees l ≡ Some o
unfolding members
member_owned s o [] l h = absurd (omega (arith, h))
member_owned s o (x ∷ xs) l h = by (is_label (parent_of s.trees x) o) refl h (member_owned s o xs l)
  where
    by : (v : Bool) → is_label (parent_of s.trees x) o ≡ v → 0 < times (if v then x ∷ members s o xs else members s o xs) l → (0 < times (members s o xs) l → parent_of s.trees l ≡ Some o) → parent_of s.trees l ≡ Some o
    by false e h more = more h
    by true e h more = elim (eqb_tells x l) [
      | inl (_, same) ↦ subst (λ k. parent_of s.trees k ≡ Some o) same (label_is (parent_of s.trees x) o e)
      | inr (t, _) ↦ (let h' = rw t at h in more (omega (arith, h')))
    ]

pub member_among : (s : State) (o : ℕ) (list : List ℕ) (l : ℕ) → 0 < times list l → parent_of s.trees l ≡ Some o → 0 < times (members s o list) l
unfolding members
member_among s o [] l h up = absurd (omega (arith, h))
member_among s o (x ∷ xs) l h up = elim (eqb_tells x l) [
  | inl (t, same) ↦ (
      let own : is_label (parent_of s.trees x) o ≡ true = ap (λ k. is_label (parent_of s.trees k) o) same ∙ (ap (λ p. is_label p o) up ∙ eqb_refl_true o) in
      rw own (omega (arith, subst (λ v. 0 < cond v 1 0) (sym t) (omega arith))))
  | inr (t, _) ↦ (let h' = rw t at h in by (is_label (parent_of s.trees x) o) (member_among s o xs l (omega (arith, h')) up))
]
  where
    by : (v : Bool) → 0 < times (members s o xs) l → 0 < times (if v then x ∷ members s o xs else members s o xs) l
    by true more = omega (arith, more)
    by false more = more

-- the members under r are those of the members under o, where no other comes to stand there
through : (s t : State) (o r : ℕ) (list : List ℕ) → ((l : ℕ) → 0 < times list l → is_label (parent_of s.trees l) o ≡ false → is_label (parent_of t.trees l) r ≡ false) → members t r list ≡ members t r (members s o list)
unfolding members
through s t o r [] off = refl
through s t o r (x ∷ xs) off = by (is_label (parent_of s.trees x) o) refl (off x (omega (arith, self_one x))) (through s t o r xs (λ l h. off l (omega (arith, h))))
  where
    by : (v : Bool) → is_label (parent_of s.trees x) o ≡ v → (is_label (parent_of s.trees x) o ≡ false → is_label (parent_of t.trees x) r ≡ false) → members t r xs ≡ members t r (members s o xs)
        → (if is_label (parent_of t.trees x) r then x ∷ members t r xs else members t r xs) ≡ members t r (if v then x ∷ members s o xs else members s o xs)
    by true e out more = ap (λ m. if is_label (parent_of t.trees x) r then x ∷ m else m) more
    by false e out more = rw (out e) more

pub alike : (s t : State) (r : ℕ) (list : List ℕ) → ((l : ℕ) → 0 < times list l → is_label (parent_of t.trees l) r ≡ is_label (parent_of s.trees l) r) → members t r list ≡ members s r list
unfolding members
alike s t r [] same = refl
alike s t r (x ∷ xs) same = rw (same x (omega (arith, self_one x)), alike s t r xs (λ l h. same l (omega (arith, h)))) refl

pub not_labelled : (o : Option ℕ) (l : ℕ) → (o ≡ Some l → ⊥) → is_label o l ≡ false
not_labelled None l off = refl
not_labelled (Some m) l off = ne_eqb m l (λ e. off (ap Some e))

-- ---- since the state s the members of a list went from o to its parent q, or stayed

pub record Since (s t : State) (o q : ℕ) (list : List ℕ) : Type 0 where
  pub valid : IsValid t
  pub up : parent_of t.trees o ≡ Some q
  pub next : s.next ≤ t.next
  pub same : (l : ℕ) → times list l ≡ 0 → parent_of t.trees l ≡ parent_of s.trees l
  pub apart : (r : ℕ) → o ≢ r → q ≢ r → children_of t.trees r ≡ children_of s.trees r

module _ (s t : State) (o q k : ℕ) (b : Option ℕ) (list : List ℕ) (inside : 0 < times list k) (w : Since s t o q list) (child : parent_of t.trees k ≡ Some o) where
  step_other : k ≢ o
  step_other e = parent_other t.trees w.valid.forest.distinct k o child (sym e)

  since_moved : may_move t k q b ≡ true → Since s (edited (Move k q b) t) o q list
  since_moved may =
      let u : State = edited (Move k q b) t in
      let g = moved_to k q b t w.valid may in
      let from : g.from ≡ o = (let e : Some g.from ≡ Some o = sym g.child ∙ child in let e' = e in cc) in
      record {
        valid = subst IsValid (final-edit (Move k q b) t) (valid_final (edit (Move k q b)) t w.valid);
        up = g.parent o step_other ∙ w.up;
        next = omega (arith, w.next, subst (λ v. t.next ≤ v.next) (final-edit (Move k q b) t) (final_next (edit (Move k q b)) t));
        same = λ l none. g.parent l (λ e. (let m = ap (times list) e in omega (arith, m, none, inside))) ∙ w.same l none;
        apart = λ r no_o no_q. g.children r ∙ (ap (λ f. cond (eqb q r) (put_in (cond (eqb f r) (dropped (children_of t.trees r) k) (children_of t.trees r)) b k) (cond (eqb f r) (dropped (children_of t.trees r) k) (children_of t.trees r))) from
            ∙ rw (ne_eqb q r no_q, ne_eqb o r no_o) (w.apart r no_o no_q));
      }

-- what a child of o leaves there and meets in q
module _ (t : State) (is : IsValid t) (o q k : ℕ) (b : Option ℕ) (up : parent_of t.trees o ≡ Some q) (child : parent_of t.trees k ≡ Some o) (may : may_move t k q b ≡ true) where
  apart_q : q ≢ o
  apart_q = parent_other t.trees is.forest.distinct o q up

  was_in : (r : ℕ) → children_of (edited (Move k q b) t).trees r ≡ cond (eqb q r) (put_in (cond (eqb o r) (dropped (children_of t.trees r) k) (children_of t.trees r)) b k) (cond (eqb o r) (dropped (children_of t.trees r) k) (children_of t.trees r))
  was_in r =
      let g = moved_to k q b t is may in
      let from : g.from ≡ o = (let e : Some g.from ≡ Some o = sym g.child ∙ child in let e' = e in cc) in
      subst (λ f. children_of (edited (Move k q b) t).trees r ≡ cond (eqb q r) (put_in (cond (eqb f r) (dropped (children_of t.trees r) k) (children_of t.trees r)) b k) (cond (eqb f r) (dropped (children_of t.trees r) k) (children_of t.trees r))) from (g.children r)

  children_o : children_of (edited (Move k q b) t).trees o ≡ dropped (children_of t.trees o) k
  children_o = was_in o ∙ rw (ne_eqb q o apart_q, eqb_refl_true o) refl

  children_q : children_of (edited (Move k q b) t).trees q ≡ put_in (children_of t.trees q) b k
  children_q = was_in q ∙ rw (eqb_refl_true q, ne_eqb o q (λ e. apart_q (sym e))) refl

  own_k : parent_of (edited (Move k q b) t).trees k ≡ Some q
  own_k = (moved_to k q b t is may).own

  others_k : (l : ℕ) → k ≢ l → parent_of (edited (Move k q b) t).trees l ≡ parent_of t.trees l
  others_k = (moved_to k q b t is may).parent

-- ---- to just before o: the members that were taken stand before it or stayed, and the others follow these

record Before (t : State) (o q : ℕ) (taken others : List ℕ) : Type 0 where
  ahead : List ℕ
  behind : List ℕ
  stays : children_of t.trees o ≡ ahead ++ (members t o taken ++ (others ++ behind))
  front : List ℕ
  rest : List ℕ
  above : children_of t.trees q ≡ front ++ (members t q taken ++ o ∷ rest)
  from : (l : ℕ) → 0 < times taken l → (parent_of t.trees l ≡ Some o) ⊎ (parent_of t.trees l ≡ Some q)

module _ (t : State) (is : IsValid t) (o q : ℕ) (up : parent_of t.trees o ≡ Some q) (taken : List ℕ) (k : ℕ) (others : List ℕ) (once : (n : ℕ) → times (taken ++ k ∷ others) n ≤ 1) (w : Before t o q taken (k ∷ others)) where
  counts : (l : ℕ) → times (children_of t.trees o) l ≡ times w.ahead l + (times (members t o taken) l + (times (k ∷ others) l + times w.behind l))
  counts l =
      ap (λ c. times c l) w.stays
      ∙ (times-append w.ahead (members t o taken ++ ((k ∷ others) ++ w.behind)) l
      ∙ ap (λ m. times w.ahead l + m) (times-append (members t o taken) ((k ∷ others) ++ w.behind) l ∙ ap (λ m. times (members t o taken) l + m) (times-append (k ∷ others) w.behind l)))

  child : parent_of t.trees k ≡ Some o
  child = child_by t is o k (omega (arith, counts k, self_one k))

  off : o ≢ q
  off e = parent_other t.trees is.forest.distinct o q up (sym e)

  none : times taken k ≡ 0
  none = omega (arith, once k, times-append taken (k ∷ others) k, self_one k)

  before_left : Before t o q (taken ++ k ∷ []) others
  before_left =
      let own : members t o (taken ++ k ∷ []) ≡ members t o taken ++ k ∷ [] = members-append t o taken (k ∷ []) ∙ ap (λ m. members t o taken ++ m) (members-one t o k child) in
      let over : members t q (taken ++ k ∷ []) ≡ members t q taken = members-append t q taken (k ∷ []) ∙ (ap (λ m. members t q taken ++ m) (members-other t q o k child off) ∙ append-nil (members t q taken)) in
      record {
        ahead = w.ahead;
        behind = w.behind;
        stays = w.stays ∙ ap (λ m. w.ahead ++ m) (sym (append_assoc (members t o taken) (k ∷ []) (others ++ w.behind)) ∙ ap (λ m. m ++ (others ++ w.behind)) (sym own));
        front = w.front;
        rest = w.rest;
        above = w.above ∙ ap (λ m. w.front ++ (m ++ o ∷ w.rest)) (sym over);
        from = λ l h. elim (eqb_tells k l) [
          | inl (_, same) ↦ inl (subst (λ n. parent_of t.trees n ≡ Some o) same child)
          | inr (e, _) ↦ w.from l (let sum = times-append taken (k ∷ []) l in let sum' = rw e at sum in omega (arith, h, sum'))
        ];
      }

  before_gone : may_move t k q (Some o) ≡ true → Before (edited (Move k q (Some o)) t) o q (taken ++ k ∷ []) others
  before_gone may =
      let u : State = edited (Move k q (Some o)) t in
      let own = own_k t is o q k (Some o) up child may in
      let other = others_k t is o q k (Some o) up child may in
      let same : (p : ℕ) → members u p taken ≡ members t p taken = λ p. members-same t u p taken (λ l h. other l (λ e. (let c = ap (times taken) e in omega (arith, c, h, none)))) in
      let at_o : members u o (taken ++ k ∷ []) ≡ members t o taken =
      members-append u o taken (k ∷ []) ∙ (ap (λ m. members u o taken ++ m) (members-other u o q k own (λ e. off (sym e))) ∙ (append-nil (members u o taken) ∙ same o)) in
      let at_q : members u q (taken ++ k ∷ []) ≡ members t q taken ++ k ∷ [] = members-append u q taken (k ∷ []) ∙ (ap (λ m. members u q taken ++ m) (members-one u q k own) ∙ ap (λ m. m ++ k ∷ []) (same q)) in
      let m = members t o taken in
      let one = times-children_of t.trees o k is.forest.distinct in
      let no_ahead : dropped w.ahead k ≡ w.ahead = dropped-absent w.ahead k (omega (arith, counts k, one, self_one k)) in
      let no_member : dropped m k ≡ m = dropped-absent m k (omega (arith, counts k, one, self_one k)) in
      let no_other : dropped others k ≡ others = dropped-absent others k (omega (arith, counts k, one, self_one k)) in
      let no_behind : dropped w.behind k ≡ w.behind = dropped-absent w.behind k (omega (arith, counts k, one, self_one k)) in
      let last : dropped ((k ∷ others) ++ w.behind) k ≡ others ++ w.behind = rw (eqb_refl_true k) (dropped-append others w.behind k ∙ (ap (λ c. c ++ dropped w.behind k) no_other ∙ ap (λ c. others ++ c) no_behind)) in
      let rests : dropped (w.ahead ++ (m ++ ((k ∷ others) ++ w.behind))) k ≡ w.ahead ++ (m ++ (others ++ w.behind)) =
      dropped-append w.ahead (m ++ ((k ∷ others) ++ w.behind)) k
      ∙ (ap (λ c. c ++ dropped (m ++ ((k ∷ others) ++ w.behind)) k) no_ahead
      ∙ ap (λ c. w.ahead ++ c) (dropped-append m ((k ∷ others) ++ w.behind) k ∙ (ap (λ c. c ++ dropped ((k ∷ others) ++ w.behind) k) no_member ∙ ap (λ c. m ++ c) last))) in
      let before = w.front ++ members t q taken in
      let shape : children_of t.trees q ≡ before ++ o ∷ w.rest = w.above ∙ sym (append_assoc w.front (members t q taken) (o ∷ w.rest)) in
      let c = ap (λ x. times x o) shape in
      let clear : times before o ≡ 0 = omega (arith, c, times-append before (o ∷ w.rest) o, self_one o, times-children_of t.trees q o is.forest.distinct) in
      let put : put_in (children_of t.trees q) (Some o) k ≡ w.front ++ ((members t q taken ++ k ∷ []) ++ o ∷ w.rest) =
      ap (λ x. put_in x (Some o) k) shape
      ∙ (put_in-middle before w.rest o k clear
      ∙ (append_assoc w.front (members t q taken) (k ∷ o ∷ w.rest) ∙ ap (λ x. w.front ++ x) (sym (append_assoc (members t q taken) (k ∷ []) (o ∷ w.rest))))) in
      record {
        ahead = w.ahead;
        behind = w.behind;
        stays = children_o t is o q k (Some o) up child may ∙ (ap (λ x. dropped x k) w.stays ∙ (rests ∙ ap (λ x. w.ahead ++ (x ++ (others ++ w.behind))) (sym at_o)));
        front = w.front;
        rest = w.rest;
        above = children_q t is o q k (Some o) up child may ∙ (put ∙ ap (λ x. w.front ++ (x ++ o ∷ w.rest)) (sym at_q));
        from = λ l h. elim (eqb_tells k l) [
          | inl (_, here) ↦ inr (subst (λ n. parent_of u.trees n ≡ Some q) here own)
          | inr (e, elsewhere) ↦ (
              let sum = times-append taken (k ∷ []) l in
              let sum' = rw e at sum in
              subst (λ p. (p ≡ Some o) ⊎ (p ≡ Some q)) (sym (other l elsewhere)) (w.from l (omega (arith, h, sum'))))
        ];
      }

before_all : (others taken list : List ℕ) (o q : ℕ) (s t : State) → Since s t o q list → ((l : ℕ) → 0 < times others l → 0 < times list l) → ((n : ℕ) → times (taken ++ others) n ≤ 1) → Before t o q taken others
    → Since s (final (for_each others (move_before o)) t) o q list × Before (final (for_each others (move_before o)) t) o q (taken ++ others) []
before_all [] taken list o q s t w inside once h = rw (for_each-nil, final-answer) (w, subst (λ l. Before t o q l []) (sym (append-nil taken)) h)
before_all (k ∷ others) taken list o q s t w inside once h =
    rw (for_each-cons, final-bind, final_move_before o k q t w.up)
    (by_test (may_move t k q (Some o)) refl (child t w.valid o q w.up taken k others once h)
    (λ u since goes. subst (λ l. Since s (final (for_each others (move_before o)) u) o q list × Before (final (for_each others (move_before o)) u) o q l []) shape
    (before_all others (taken ++ k ∷ []) list o q s u since (λ l i. inside l (omega (arith, i))) (λ n. subst (λ l. times l n ≤ 1) (sym shape) (once n)) goes)))
  where
    shape : (taken ++ k ∷ []) ++ others ≡ taken ++ k ∷ others
    shape = append_assoc taken (k ∷ []) others

    by_test : (v : Bool) → may_move t k q (Some o) ≡ v → parent_of t.trees k ≡ Some o
        → ((u : State) → Since s u o q list → Before u o q (taken ++ k ∷ []) others → Since s (final (for_each others (move_before o)) u) o q list × Before (final (for_each others (move_before o)) u) o q (taken ++ k ∷ others) [])
        → Since s (final (for_each others (move_before o)) (edited (Move k q (Some o)) t)) o q list × Before (final (for_each others (move_before o)) (edited (Move k q (Some o)) t)) o q (taken ++ k ∷ others) []
    by_test true e own more = more (edited (Move k q (Some o)) t) (since_moved s t o q k (Some o) list (inside k (omega (arith, self_one k))) w own e) (before_gone t w.valid o q w.up taken k others once h e)
    by_test false e own more = rw (move_stays k q (Some o) t e) (more t w (before_left t w.valid o q w.up taken k others once h))

-- ---- to just after o, from the last one on: the members that were taken stand after it or stayed, and the others come before these

record After (t : State) (o q : ℕ) (taken others : List ℕ) : Type 0 where
  ahead : List ℕ
  behind : List ℕ
  stays : children_of t.trees o ≡ ahead ++ (others ++ (members t o taken ++ behind))
  front : List ℕ
  rest : List ℕ
  above : children_of t.trees q ≡ front ++ o ∷ (members t q taken ++ rest)
  from : (l : ℕ) → 0 < times taken l → (parent_of t.trees l ≡ Some o) ⊎ (parent_of t.trees l ≡ Some q)

module _ (t : State) (is : IsValid t) (o q : ℕ) (up : parent_of t.trees o ≡ Some q) (taken : List ℕ) (k : ℕ) (others : List ℕ) (once : (n : ℕ) → times ((others ++ k ∷ []) ++ taken) n ≤ 1) (w : After t o q taken (others ++ k ∷ [])) where
  counts' : (l : ℕ) → times (children_of t.trees o) l ≡ times w.ahead l + ((times others l + times (k ∷ []) l) + (times (members t o taken) l + times w.behind l))
  counts' l =
      ap (λ c. times c l) w.stays
      ∙ (times-append w.ahead ((others ++ k ∷ []) ++ (members t o taken ++ w.behind)) l
      ∙ ap (λ m. times w.ahead l + m)
      (times-append (others ++ k ∷ []) (members t o taken ++ w.behind) l
      ∙ (ap (λ m. m + times (members t o taken ++ w.behind) l) (times-append others (k ∷ []) l) ∙ ap (λ m. (times others l + times (k ∷ []) l) + m) (times-append (members t o taken) w.behind l))))

  child' : parent_of t.trees k ≡ Some o
  child' = child_by t is o k (omega (arith, counts' k, self_one k))

  off' : o ≢ q
  off' e = parent_other t.trees is.forest.distinct o q up (sym e)

  none' : times taken k ≡ 0
  none' = omega (arith, once k, times-append (others ++ k ∷ []) taken k, times-append others (k ∷ []) k, self_one k)

  after_left : After t o q (k ∷ taken) others
  after_left =
      let own : members t o (k ∷ taken) ≡ k ∷ members t o taken = members-append t o (k ∷ []) taken ∙ ap (λ m. m ++ members t o taken) (members-one t o k child') in
      let over : members t q (k ∷ taken) ≡ members t q taken = members-append t q (k ∷ []) taken ∙ ap (λ m. m ++ members t q taken) (members-other t q o k child' off') in
      record {
        ahead = w.ahead;
        behind = w.behind;
        stays = w.stays ∙ ap (λ m. w.ahead ++ m) (append_assoc others (k ∷ []) (members t o taken ++ w.behind) ∙ ap (λ m. others ++ (m ++ w.behind)) (sym own));
        front = w.front;
        rest = w.rest;
        above = w.above ∙ ap (λ m. w.front ++ o ∷ (m ++ w.rest)) (sym over);
        from = λ l h. elim (eqb_tells k l) [
          | inl (_, same) ↦ inl (subst (λ n. parent_of t.trees n ≡ Some o) same child')
          | inr (e, _) ↦ w.from l (let h' = rw e at h in omega (arith, h'))
        ];
      }

  after_gone : may_move t k q (next_of t.trees o) ≡ true → After (edited (Move k q (next_of t.trees o)) t) o q (k ∷ taken) others
  after_gone may =
      let b = next_of t.trees o in
      let u : State = edited (Move k q b) t in
      let own = own_k t is o q k b up child' may in
      let other = others_k t is o q k b up child' may in
      let same : (p : ℕ) → members u p taken ≡ members t p taken = λ p. members-same t u p taken (λ l h. other l (λ e. (let c = ap (times taken) e in omega (arith, c, h, none')))) in
      let at_o : members u o (k ∷ taken) ≡ members t o taken = members-append u o (k ∷ []) taken ∙ (ap (λ m. m ++ members u o taken) (members-other u o q k own (λ e. off' (sym e))) ∙ same o) in
      let at_q : members u q (k ∷ taken) ≡ k ∷ members t q taken = members-append u q (k ∷ []) taken ∙ (ap (λ m. m ++ members u q taken) (members-one u q k own) ∙ ap (λ m. k ∷ m) (same q)) in
      let m = members t o taken in
      let one = times-children_of t.trees o k is.forest.distinct in
      let no_ahead : dropped w.ahead k ≡ w.ahead = dropped-absent w.ahead k (omega (arith, counts' k, one, self_one k)) in
      let no_member : dropped m k ≡ m = dropped-absent m k (omega (arith, counts' k, one, self_one k)) in
      let no_other : dropped others k ≡ others = dropped-absent others k (omega (arith, counts' k, one, self_one k)) in
      let no_behind : dropped w.behind k ≡ w.behind = dropped-absent w.behind k (omega (arith, counts' k, one, self_one k)) in
      let alone : dropped (k ∷ []) k ≡ [] = rw (eqb_refl_true k) refl in
      let last : dropped (others ++ k ∷ []) k ≡ others = dropped-append others (k ∷ []) k ∙ (ap (λ c. c ++ dropped (k ∷ []) k) no_other ∙ (ap (λ c. others ++ c) alone ∙ append-nil others)) in
      let rests : dropped (w.ahead ++ ((others ++ k ∷ []) ++ (m ++ w.behind))) k ≡ w.ahead ++ (others ++ (m ++ w.behind)) =
      dropped-append w.ahead ((others ++ k ∷ []) ++ (m ++ w.behind)) k
      ∙ (ap (λ c. c ++ dropped ((others ++ k ∷ []) ++ (m ++ w.behind)) k) no_ahead
      ∙ ap (λ c. w.ahead ++ c)
      (dropped-append (others ++ k ∷ []) (m ++ w.behind) k
      ∙ (ap (λ c. c ++ dropped (m ++ w.behind) k) last ∙ ap (λ c. others ++ c) (dropped-append m w.behind k ∙ (ap (λ c. c ++ dropped w.behind k) no_member ∙ ap (λ c. m ++ c) no_behind))))) in
      let tail = members t q taken ++ w.rest in
      let c = ap (λ x. times x o) w.above in
      let clear : times w.front o ≡ 0 = omega (arith, c, times-append w.front (o ∷ tail) o, self_one o, times-children_of t.trees q o is.forest.distinct) in
      let next : next_of t.trees o ≡ first_in tail = ap (λ x. option_and_then (λ p. after_in (children_of t.trees p) o) x) up ∙ (ap (λ x. after_in x o) w.above ∙ after_in-middle w.front o tail clear) in
      let parts : children_of t.trees q ≡ (w.front ++ o ∷ []) ++ tail = w.above ∙ sym (append_assoc w.front (o ∷ []) tail) in
      let once_q : (n : ℕ) → times ((w.front ++ o ∷ []) ++ tail) n ≤ 1 = λ n. subst (λ x. times x n ≤ 1) parts (times-children_of t.trees q n is.forest.distinct) in
      let put : put_in (children_of t.trees q) b k ≡ w.front ++ o ∷ ((k ∷ members t q taken) ++ w.rest) =
      ap (λ x. put_in (children_of t.trees q) x k) next
      ∙ (ap (λ x. put_in x (first_in tail) k) parts ∙ (put_in-seam (w.front ++ o ∷ []) tail k once_q ∙ append_assoc w.front (o ∷ []) (k ∷ tail))) in
      record {
        ahead = w.ahead;
        behind = w.behind;
        stays = children_o t is o q k b up child' may ∙ (ap (λ x. dropped x k) w.stays ∙ (rests ∙ ap (λ x. w.ahead ++ (others ++ (x ++ w.behind))) (sym at_o)));
        front = w.front;
        rest = w.rest;
        above = children_q t is o q k b up child' may ∙ (put ∙ ap (λ x. w.front ++ o ∷ (x ++ w.rest)) (sym at_q));
        from = λ l h. elim (eqb_tells k l) [
          | inl (_, here) ↦ inr (subst (λ n. parent_of u.trees n ≡ Some q) here own)
          | inr (e, elsewhere) ↦ (let h' = rw e at h in subst (λ p. (p ≡ Some o) ⊎ (p ≡ Some q)) (sym (other l elsewhere)) (w.from l (omega (arith, h'))))
        ];
      }

-- turns are the others, from the last one on
after_all : (turns taken list : List ℕ) (o q : ℕ) (s t : State) → Since s t o q list → ((l : ℕ) → 0 < times turns l → 0 < times list l) → ((n : ℕ) → times (reverse turns ++ taken) n ≤ 1) → After t o q taken (reverse turns)
    → Since s (final (for_each turns (move_after o)) t) o q list × After (final (for_each turns (move_after o)) t) o q (reverse turns ++ taken) []
after_all [] taken list o q s t w inside once h = rw (for_each-nil, final-answer) (w, h)
after_all (k ∷ turns) taken list o q s t w inside once h =
    let h' = subst (λ l. After t o q taken l) shape h in
    let once' : (n : ℕ) → times ((reverse turns ++ k ∷ []) ++ taken) n ≤ 1 = λ n. subst (λ l. times (l ++ taken) n ≤ 1) shape (once n) in
    rw (for_each-cons, final-bind, final_move_after o k q t w.up)
    (by_test (may_move t k q (next_of t.trees o)) refl h' once'
    (λ u since goes. subst (λ l. Since s (final (for_each turns (move_after o)) u) o q list × After (final (for_each turns (move_after o)) u) o q l []) all
    (after_all turns (k ∷ taken) list o q s u since (λ l i. inside l (omega (arith, i))) (λ n. subst (λ l. times l n ≤ 1) (sym all) (once n)) goes)))
  where
    shape : reverse (k ∷ turns) ≡ reverse turns ++ k ∷ []
    shape = reverse-append (k ∷ []) turns

    all : reverse turns ++ (k ∷ taken) ≡ reverse (k ∷ turns) ++ taken
    all = sym (append_assoc (reverse turns) (k ∷ []) taken) ∙ ap (λ l. l ++ taken) (sym shape)

    by_test : (v : Bool) → may_move t k q (next_of t.trees o) ≡ v → After t o q taken (reverse turns ++ k ∷ []) → ((n : ℕ) → times ((reverse turns ++ k ∷ []) ++ taken) n ≤ 1)
        → ((u : State) → Since s u o q list → After u o q (k ∷ taken) (reverse turns) → Since s (final (for_each turns (move_after o)) u) o q list × After (final (for_each turns (move_after o)) u) o q (reverse (k ∷ turns) ++ taken) [])
        → Since s (final (for_each turns (move_after o)) (edited (Move k q (next_of t.trees o)) t)) o q list × After (final (for_each turns (move_after o)) (edited (Move k q (next_of t.trees o)) t)) o q (reverse (k ∷ turns) ++ taken) []
    by_test true e h' once' more =
        more (edited (Move k q (next_of t.trees o)) t) (since_moved s t o q k (next_of t.trees o) list (inside k (omega (arith, self_one k))) w (child' t w.valid o q w.up taken k (reverse turns) once' h') e)
        (after_gone t w.valid o q w.up taken k (reverse turns) once' h' e)
    by_test false e h' once' more = rw (move_stays k q (next_of t.trees o) t e) (more t w (after_left t w.valid o q w.up taken k (reverse turns) once' h'))

-- those that stand after o stand side by side
behind_siblings : (u : State) (o q : ℕ) (m : List ℕ) → After u o q m [] → Siblings u q (members u q m)
behind_siblings u o q m h = record { front = h.front ++ o ∷ []; rest = h.rest; is = h.above ∙ sym (append_assoc h.front (o ∷ []) (members u q m ++ h.rest)) }

-- ---- then all of the list is together

-- what the moves of the members under o leave, told of those that went
pub record Led (s t : State) (o q : ℕ) (list : List ℕ) : Type 0 where
  pub since : Since s t o q (members s o list)
  pub at_o : Siblings t o (members t o (members s o list))
  pub at_q : Siblings t q (members t q (members s o list))
  pub from : (l : ℕ) → 0 < times (members s o list) l → (parent_of t.trees l ≡ Some o) ⊎ (parent_of t.trees l ≡ Some q)

module _ (s : State) (is : IsValid s) (o q : ℕ) (up : parent_of s.trees o ≡ Some q) (list : List ℕ) (w : Together s list) (elsewhere : (l : ℕ) → 0 < times list l → parent_of s.trees l ≡ Some q → ⊥) where
  here : Siblings s o (members s o list)
  here = w.siblings o

  inside_once : (n : ℕ) → times (members s o list) n ≤ 1
  inside_once n =
      let k = ap (λ c. times c n) here.is in
      omega (arith, k, times-append here.front (members s o list ++ here.rest) n, times-append (members s o list) here.rest n, times-children_of s.trees o n is.forest.distinct)

  starts : Since s s o q (members s o list)
  starts = record { valid = is; up = up; next = omega arith; same = λ l _. refl; apart = λ r _ _. refl }

  pub led_before : Led s (final (move_all_before (members s o list) o) s) o q list
  unfolding move_all_before members
  led_before =
      let m = members s o list in
      let p = child_parted s is o q up in
      let first : Before s o q [] m = record { ahead = here.front; behind = here.rest; stays = here.is; front = p.0; rest = p.1; above = p.2; from = λ l h. absurd (omega (arith, h)) } in
      let r = before_all m [] m o q s s starts (λ l h. h) inside_once first in
      record {
        since = r.0;
        at_o = record { front = r.1.ahead; rest = r.1.behind; is = r.1.stays };
        at_q = record { front = r.1.front; rest = o ∷ r.1.rest; is = r.1.above };
        from = r.1.from;
      }

  pub led_after : Led s (final (move_all_after (members s o list) o) s) o q list
  unfolding move_all_after members
  led_after =
      let m = members s o list in
      let p = child_parted s is o q up in
      let u : State = final (for_each (reverse m) (move_after o)) s in
      let twice : reverse (reverse m) ≡ m = reverse-reverse m in
      let first : After s o q [] m = record { ahead = here.front; behind = here.rest; stays = here.is; front = p.0; rest = p.1; above = p.2; from = λ l h. absurd (omega (arith, h)) } in
      let r = after_all (reverse m) [] m o q s s starts (λ l h. omega (arith, h, times-reverse m l)) (λ n. omega (arith, inside_once n, times-append (reverse (reverse m)) [] n, ap (λ c. times c n) twice)) (subst (λ l. After s o q [] l) (sym twice) first) in
      let h = subst (λ l. After u o q l []) (append-nil (reverse (reverse m)) ∙ twice) r.1 in
      record {
        since = r.0;
        at_o = record { front = h.ahead; rest = h.behind; is = h.stays };
        at_q = behind_siblings u o q m h;
        from = h.from;
      }

  module _ (t : State) (r : Led s t o q list) where
    outside : (l : ℕ) → 0 < times list l → (parent_of s.trees l ≡ Some o → ⊥) → parent_of t.trees l ≡ parent_of s.trees l
    outside l h off = r.since.same l (by (times (members s o list) l) refl)
      where
        by : (k : ℕ) → times (members s o list) l ≡ k → times (members s o list) l ≡ 0
        by zero e = e
        by (suc k) e = absurd (off (member_owned s o list l (omega (arith, e))))

    label_off : (l : ℕ) → is_label (parent_of s.trees l) o ≡ false → parent_of s.trees l ≡ Some o → ⊥
    label_off l e up_l = true≢false (sym (ap (λ p. is_label p o) up_l ∙ eqb_refl_true o) ∙ e)

    pub led_together : Together t list
    led_together = record {
      known = λ l h. omega (arith, w.known l h, r.since.next);
      siblings = λ x. elim (eqb_tells o x) [
        | inl (_, same) ↦ subst (λ y. Siblings t y (members t y list)) same
            (siblings_as t o (members t o list) (members t o (members s o list)) (children_of t.trees o) refl
            (through s t o o list (λ l h e. ap (λ p. is_label p o) (outside l h (label_off l e)) ∙ e)) (piece_of t o _ r.at_o))
        | inr (_, no_o) ↦ elim (eqb_tells q x) [
          | inl (_, same) ↦ subst (λ y. Siblings t y (members t y list)) same
              (siblings_as t q (members t q list) (members t q (members s o list)) (children_of t.trees q) refl
              (through s t o q list (λ l h e. ap (λ p. is_label p q) (outside l h (label_off l e)) ∙ not_labelled (parent_of s.trees l) q (elsewhere l h))) (piece_of t q _ r.at_q))
          | inr (_, no_q) ↦
              siblings_as t x (members t x list) (members s x list) (children_of s.trees x) (r.since.apart x no_o no_q) (alike s t x list (λ l h. same_label x no_o no_q l h)) (piece_of s x (members s x list) (w.siblings x))
        ]
      ];
    }
      where
        same_label : (x : ℕ) → o ≢ x → q ≢ x → (l : ℕ) → 0 < times list l → is_label (parent_of t.trees l) x ≡ is_label (parent_of s.trees l) x
        same_label x no_o no_q l h = elim (none_or_some (times (members s o list) l)) [
          | inl none ↦ ap (λ p. is_label p x) (r.since.same l none)
          | inr some ↦ (
              let was : is_label (parent_of s.trees l) x ≡ false = ap (λ p. is_label p x) (member_owned s o list l some) ∙ ne_eqb o x no_o in
              elim (r.from l some) [ inl e ↦ ap (λ p. is_label p x) e ∙ (ne_eqb o x no_o ∙ sym was) | inr e ↦ ap (λ p. is_label p x) e ∙ (ne_eqb q x no_q ∙ sym was) ])
        ]
