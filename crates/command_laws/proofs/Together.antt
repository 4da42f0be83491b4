-- Lists of nodes that stay together: of the members that have one parent, all stand side by side among its children, in order.
use Rattle.std.proofs.Common.{◌≡◌, ◌≢◌, ℕ, ◌<◌, ◌≤◌, ◌⊎◌, zero, suc, Bool, true, false, cond, eqb, if◌then◌else◌, List, [], ◌∷◌, ◌++◌, Option, Some, None, refl, sym, ap, subst, ◌∙◌, inl, inr, arith, append_assoc}
use Rattle.std.specs.Option.{option_map, option_and_then}
use Rattle.std.proofs.lemmas.Bool.{cases_Bool, ne_eqb}
use Rattle.std.proofs.lemmas.Bool.Decides.{eqb_tells}
use Rattle.std.proofs.lemmas.List.{append-nil}
use Rattle.edit_model.specs.DomModel.declared.Content.{Content}
use Rattle.edit_model.specs.DomModel.Forest.{Forest, Seen, is_label, times, taken_from, put_in, first_in, count_of, IsDistinct, CanPut, seek, parent_of, children_of, link, unlink, relinked, unlinked}
use Rattle.edit_model.proofs.DomModel.Lists.{times-append}
use Rattle.edit_model.proofs.DomModel.Links.{missing_count, seek-link, seek-unlink, times-children_of, parent_of-with_leaf, children_of-link, children_of-unlink, children_of-with_leaf, eqb_refl_true}
use Rattle.edit_model.specs.State.{State}
use Rattle.edit_model.specs.Edit.{Edit, Insert, Remove, is_made_edit, trees_after, edited}
use Rattle.edit_model.specs.Confined.{may_insert, may_remove}
use Rattle.edit_model.specs.Valid.{IsValid}
use Rattle.edit_model.specs.Action.{made}
use Rattle.edit_model.specs.Moves.{insert_before}
use Rattle.edit_model.specs.Run.{Run, final, value, ◌>>=◌, answer, look, given, edit, remove}
use Rattle.edit_model.proofs.Forests.{fresh}
use Rattle.edit_model.proofs.IslandRuns.{trees_made, trees_left}
use Rattle.edit_model.proofs.Steps.{final-answer, final-bind, final-look, final-edit, final_next}
use Rattle.edit_model.proofs.Tests.{inserts, removes}
use Rattle.edit_laws.proofs.Around.{self_one, off_by}
use Rattle.edit_laws.proofs.Fronts.{child_by}
use Rattle.edit_laws.proofs.Renaming.{made_trees}
use Rattle.inline_value.specs.EditActions.Siblings.{members}
use Rattle.command_laws.proofs.SteadySplits.{valid_final}
use Rattle.command_laws.proofs.Widening.{Siblings}
use Rattle.command_laws.proofs.Wrapping.{put_in-middle}

-- ---- lists without a node

abbrev pub dropped : List ℕ → ℕ → List ℕ
dropped [] n = []
dropped (x ∷ xs) n = if eqb x n then dropped xs n else x ∷ dropped xs n

pub dropped-append : (xs ys : List ℕ) (n : ℕ) → dropped (xs ++ ys) n ≡ dropped xs n ++ dropped ys n
dropped-append [] ys n = refl
dropped-append (x ∷ xs) ys n = by (eqb x n) (dropped-append xs ys n)
  where
    by : (v : Bool) → dropped (xs ++ ys) n ≡ dropped xs n ++ dropped ys n → (if v then dropped (xs ++ ys) n else x ∷ dropped (xs ++ ys) n) ≡ (if v then dropped xs n else x ∷ dropped xs n) ++ dropped ys n
    by true more = more
    by false more = ap (λ k. x ∷ k) more

pub dropped-absent : (xs : List ℕ) (n : ℕ) → times xs n ≡ 0 → dropped xs n ≡ xs
dropped-absent [] n none = refl
dropped-absent (x ∷ xs) n none = rw (off_by x n (omega (arith, none)), dropped-absent xs n (omega (arith, none))) refl

pub taken-dropped : (xs : List ℕ) (n : ℕ) → times xs n ≤ 1 → taken_from xs n ≡ dropped xs n
taken-dropped [] n once = refl
taken-dropped (x ∷ xs) n once = elim (eqb_tells x n) [
  | inl (t, _) ↦ (let once' = rw t at once in rw t (sym (dropped-absent xs n (omega (arith, once')))))
  | inr (t, _) ↦ (let once' = rw t at once in rw t (ap (λ k. x ∷ k) (taken-dropped xs n (omega (arith, once')))))
]

-- ---- parents after an edit

module _ (f : Forest Content) (once : IsDistinct f) where
  pub parent-unlinked : (p n l : ℕ) → parent_of f n ≡ Some p → parent_of (unlink f n) l ≡ cond (eqb n l) None (parent_of f l)
  parent-unlinked p n l child = rw (seek-unlink f p n once child l) (by_seen (seek None f l))
    where
      by_test : (v : Bool) (o : Option ℕ) → o ≡ None → o ≡ cond v None o
      by_test true o e = e
      by_test false o e = refl

      by_seen : (o : Option (Seen Content)) → option_and_then (λ (y : Seen Content). y.parent) (option_map (unlinked p n l) o) ≡ cond (eqb n l) None (option_and_then (λ (y : Seen Content). y.parent) o)
      by_seen None = by_test (eqb n l) None refl
      by_seen (Some o) = refl

  pub parent-linked : (p : ℕ) (b : Option ℕ) (n l : ℕ) → CanPut f p b n → parent_of (link f p b n) l ≡ cond (eqb n l) (Some p) (parent_of f l)
  parent-linked p b n l can = rw (seek-link f p b n once can l) (by_seen (seek None f l) refl)
    where
      by_seen : (o : Option (Seen Content)) → seek None f l ≡ o → option_and_then (λ (y : Seen Content). y.parent) (option_map (relinked p b n l) o) ≡ cond (eqb n l) (Some p) (option_and_then (λ (y : Seen Content). y.parent) o)
      by_seen None e = elim (eqb_tells n l) [
        | inl (_, same) ↦ absurd (let k = ap (count_of f) same in omega (arith, k, can.node, missing_count f l once e))
        | inr (t, _) ↦ rw t refl
      ]
      by_seen (Some o) e = refl

-- ---- the members that have a parent

pub members-append : (s : State) (o : ℕ) (xs ys : List ℕ) → members s o (xs ++ ys) ≡ members s o xs ++ members s o ys
unfolding members
members-append s o [] ys = refl
members-append s o (x ∷ xs) ys = by (is_label (parent_of s.trees x) o) (members-append s o xs ys)
  where
    by : (v : Bool) → members s o (xs ++ ys) ≡ members s o xs ++ members s o ys → (if v then x ∷ members s o (xs ++ ys) else members s o (xs ++ ys)) ≡ (if v then x ∷ members s o xs else members s o xs) ++ members s o ys
    by true more = ap (λ k. x ∷ k) more
    by false more = more

pub members-one : (s : State) (o x : ℕ) → parent_of s.trees x ≡ Some o → members s o (x ∷ []) ≡ x ∷ []
unfolding members
members-one s o x up = rw (up, eqb_refl_true o) refl

pub members-other : (s : State) (o q x : ℕ) → parent_of s.trees x ≡ Some q → q ≢ o → members s o (x ∷ []) ≡ []
unfolding members
members-other s o q x up off = rw (up, ne_eqb q o off) refl

-- where the members of a list have other parents, there are none
pub members-none : (s : State) (o : ℕ) (list : List ℕ) → ((l : ℕ) → 0 < times list l → is_label (parent_of s.trees l) o ≡ false) → members s o list ≡ []
unfolding members
members-none s o [] off = refl
members-none s o (x ∷ xs) off = rw (off x (omega (arith, self_one x))) (members-none s o xs (λ l h. off l (omega (arith, h))))

pub members-same : (s t : State) (o : ℕ) (list : List ℕ) → ((l : ℕ) → 0 < times list l → parent_of t.trees l ≡ parent_of s.trees l) → members t o list ≡ members s o list
unfolding members
members-same s t o [] same = refl
members-same s t o (x ∷ xs) same = rw (same x (omega (arith, self_one x)), members-same s t o xs (λ l h. same l (omega (arith, h)))) refl

pub members-few : (s : State) (o : ℕ) (list : List ℕ) (n : ℕ) → times (members s o list) n ≤ times list n
unfolding members
members-few s o [] n = omega arith
members-few s o (x ∷ xs) n = by (is_label (parent_of s.trees x) o) (members-few s o xs n)
  where
    by : (v : Bool) → times (members s o xs) n ≤ times xs n → times (if v then x ∷ members s o xs else members s o xs) n ≤ times (x ∷ xs) n
    by true more = omega (arith, more)
    by false more = omega (arith, more)

-- a node that lost its parent is no member any more
members-dropped : (s t : State) (o n : ℕ) (list : List ℕ) → ((l : ℕ) → n ≢ l → parent_of t.trees l ≡ parent_of s.trees l) → parent_of t.trees n ≡ None → members t o list ≡ dropped (members s o list) n
unfolding members
members-dropped s t o n [] others root = refl
members-dropped s t o n (x ∷ xs) others root = by_node (eqb_tells x n) (members-dropped s t o n xs others root)
  where
    gone : (v : Bool) → eqb x n ≡ true → members t o xs ≡ dropped (members s o xs) n → members t o xs ≡ dropped (if v then x ∷ members s o xs else members s o xs) n
    gone true e more = rw e more
    gone false e more = more

    stays : (v : Bool) → eqb x n ≡ false → members t o xs ≡ dropped (members s o xs) n → (if v then x ∷ members t o xs else members t o xs) ≡ dropped (if v then x ∷ members s o xs else members s o xs) n
    stays true e more = rw e (ap (λ k. x ∷ k) more)
    stays false e more = more

    by_node : ((eqb x n ≡ true) × (x ≡ n)) ⊎ ((eqb x n ≡ false) × (x ≢ n)) → members t o xs ≡ dropped (members s o xs) n
        → (if is_label (parent_of t.trees x) o then x ∷ members t o xs else members t o xs) ≡ dropped (if is_label (parent_of s.trees x) o then x ∷ members s o xs else members s o xs) n
    by_node (inl (e, same)) more = rw (ap (parent_of t.trees) same ∙ root) (gone (is_label (parent_of s.trees x) o) e more)
    by_node (inr (e, off)) more = rw (others x (λ k. off (sym k))) (stays (is_label (parent_of s.trees x) o) e more)

-- ---- together

pub record Together (s : State) (list : List ℕ) : Type 0 where
  pub known : (l : ℕ) → 0 < times list l → l < s.next
  pub siblings : (o : ℕ) → Siblings s o (members s o list)

-- where the trees stay
pub together-same : (s t : State) (list : List ℕ) → t.trees ≡ s.trees → s.next ≤ t.next → Together s list → Together t list
together-same s t list same more w = record {
  known = λ l h. omega (arith, w.known l h, more);
  siblings = λ o. (
      let k = w.siblings o in
      record { front = k.front; rest = k.rest; is = ap (λ f. children_of f o) same ∙ (k.is ∙ ap (λ m. k.front ++ (m ++ k.rest)) (sym (members-same s t o list (λ l _. ap (λ f. parent_of f l) same)))) });
}

pub next_edited : (e : Edit) (s : State) → s.next ≤ (edited e s).next
next_edited e s = subst (λ t. s.next ≤ t.next) (final-edit e s) (final_next (edit e) s)

-- ---- a node that goes

children_without : (s : State) → IsValid s → (p n o : ℕ) → parent_of s.trees n ≡ Some p → cond (eqb p o) (taken_from (children_of s.trees o) n) (children_of s.trees o) ≡ dropped (children_of s.trees o) n
children_without s is p n o child = elim (eqb_tells p o) [
  | inl (t, _) ↦ rw t (taken-dropped (children_of s.trees o) n (times-children_of s.trees o n is.forest.distinct))
  | inr (t, off) ↦ rw t (sym (dropped-absent (children_of s.trees o) n (none_of (times (children_of s.trees o) n) refl off)))
]
  where
    none_of : (k : ℕ) → times (children_of s.trees o) n ≡ k → p ≢ o → times (children_of s.trees o) n ≡ 0
    none_of zero e off = e
    none_of (suc k) e off = absurd (off (let same : Some p ≡ Some o = sym child ∙ child_by s is o n (omega (arith, e)) in cc))

pub together_removed : (list : List ℕ) (n : ℕ) (s : State) → IsValid s → Together s list → Together (edited (Remove n) s) list
unfolding is_made_edit trees_after
together_removed list n s is w = elim (cases_Bool (may_remove s n)) [
  | inr off ↦ together-same s (edited (Remove n) s) list (trees_left (Remove n) s off) (next_edited (Remove n) s) w
  | inl may ↦ (
      let t : State = edited (Remove n) s in
      let r = removes s n may in
      let now : t.trees ≡ unlink s.trees n = trees_made (Remove n) s may in
      let once = is.forest.distinct in
      let parent : (l : ℕ) → parent_of t.trees l ≡ cond (eqb n l) None (parent_of s.trees l) = λ l. ap (λ f. parent_of f l) now ∙ parent-unlinked s.trees once r.from n l r.child in
      let others : (l : ℕ) → n ≢ l → parent_of t.trees l ≡ parent_of s.trees l = λ l off. parent l ∙ rw (ne_eqb n l off) refl in
      let root : parent_of t.trees n ≡ None = parent n ∙ rw (eqb_refl_true n) refl in
      record {
        known = λ l h. omega (arith, w.known l h, next_edited (Remove n) s);
        siblings = λ o. (
            let k = w.siblings o in
            let children : children_of t.trees o ≡ dropped (children_of s.trees o) n = ap (λ f. children_of f o) now ∙ (children_of-unlink s.trees r.from n once r.child o ∙ children_without s is r.from n o r.child) in
            let parts : dropped (k.front ++ (members s o list ++ k.rest)) n ≡ dropped k.front n ++ (dropped (members s o list) n ++ dropped k.rest n) =
            dropped-append k.front (members s o list ++ k.rest) n ∙ ap (λ m. dropped k.front n ++ m) (dropped-append (members s o list) k.rest n) in
            record {
              front = dropped k.front n;
              rest = dropped k.rest n;
              is = children ∙ (ap (λ m. dropped m n) k.is ∙ (parts ∙ ap (λ m. dropped k.front n ++ (m ++ dropped k.rest n)) (sym (members-dropped s t o n list others root))));
            });
      })
]

-- ---- a new node beside them

module _ (c : Content) (list : List ℕ) (s : State) (is : IsValid s) (w : Together s list) where
  absent : count_of s.trees s.next ≡ 0
  absent = fresh s.trees s.next is.forest

  pub together_made : Together (made c s) list
  unfolding made
  together_made = record {
    known = λ l h. omega (arith, w.known l h);
    siblings = λ o. (
        let k = w.siblings o in
        let same = members-same s (made c s) o list (λ l _. ap (λ f. parent_of f l) (made_trees c s) ∙ parent_of-with_leaf s.trees s.next c absent l) in
        record {
          front = k.front;
          rest = k.rest;
          is = ap (λ f. children_of f o) (made_trees c s) ∙ (children_of-with_leaf s.trees s.next c absent o ∙ (k.is ∙ ap (λ m. k.front ++ (m ++ k.rest)) (sym same)));
        });
  }

  pub next_no_member : times list s.next ≡ 0
  next_no_member = by_count (times list s.next) refl
    where
      by_count : (k : ℕ) → times list s.next ≡ k → times list s.next ≡ 0
      by_count zero e = e
      by_count (suc k) e = absurd (omega (arith, w.known s.next (omega (arith, e))))

-- x comes to stand among the children of q, outside the members that are there
module _ (list : List ℕ) (x q : ℕ) (b : Option ℕ) (s : State) (is : IsValid s) (apart : times list x ≡ 0) (w : Together s list) where
  pub together_put : ((front rest : List ℕ) → children_of s.trees q ≡ front ++ (members s q list ++ rest) → (first : List ℕ) × (last : List ℕ) × (put_in (children_of s.trees q) b x ≡ first ++ (members s q list ++ last))) → Together (edited (Insert q b x) s) list
  unfolding is_made_edit trees_after
  together_put beside = elim (cases_Bool (may_insert s q b x)) [
    | inr off ↦ together-same s (edited (Insert q b x) s) list (trees_left (Insert q b x) s off) (next_edited (Insert q b x) s) w
    | inl may ↦ (
        let t : State = edited (Insert q b x) s in
        let now : t.trees ≡ link s.trees q b x = trees_made (Insert q b x) s may in
        let once = is.forest.distinct in
        let can = (inserts s q b x may).can in
        let other : (l : ℕ) → 0 < times list l → x ≢ l = λ l h e. (let k = ap (times list) e in omega (arith, k, h, apart)) in
        let parent : (l : ℕ) → 0 < times list l → parent_of t.trees l ≡ parent_of s.trees l = λ l h. ap (λ f. parent_of f l) now ∙ (parent-linked s.trees once q b x l can ∙ rw (ne_eqb x l (other l h)) refl) in
        let same : (o : ℕ) → members t o list ≡ members s o list = λ o. members-same s t o list parent in
        let children : (o : ℕ) → children_of t.trees o ≡ cond (eqb q o) (put_in (children_of s.trees o) b x) (children_of s.trees o) = λ o. ap (λ f. children_of f o) now ∙ children_of-link s.trees q b x once can o in
        let v = w.siblings q in
        let r = beside v.front v.rest v.is in
        let at_q : Siblings t q (members t q list) = record { front = r.0; rest = r.1; is = children q ∙ rw (eqb_refl_true q) (r.2 ∙ ap (λ m. r.0 ++ (m ++ r.1)) (sym (same q))) } in
        record {
          known = λ l h. omega (arith, w.known l h, next_edited (Insert q b x) s);
          siblings = λ o. elim (eqb_tells q o) [
            | inl (_, here) ↦ subst (λ p. Siblings t p (members t p list)) here at_q
            | inr (e, _) ↦ (let k = w.siblings o in record { front = k.front; rest = k.rest; is = children o ∙ rw e (k.is ∙ ap (λ m. k.front ++ (m ++ k.rest)) (sym (same o))) })
          ];
        })
  ]

-- ---- runs that keep a list together

pub record Holding (list : List ℕ) {T : Type 0} (m : Run T) : Type 0 where
  pub holds : (s : State) → IsValid s → Together s list → Together (final m s) list

pub holding_answer : (list : List ℕ) {A : Type 0} (a : A) → Holding list (answer a)
holding_answer list a = record { holds = λ s is w. rw (final-answer a s) w }

pub holding_bind : (list : List ℕ) {A B : Type 0} (m : Run A) (k : A → Run B) → Holding list m → ((a : A) → Holding list (k a)) → Holding list (m >>= k)
holding_bind list m k p q = record { holds = λ s is w. rw (final-bind m k s) ((q (value m s)).holds (final m s) (valid_final m s is) (p.holds s is w)) }

pub holding_look : (list : List ℕ) {A : Type 0} (k : State → Run A) → ((s : State) → Holding list (k s)) → Holding list (look k)
holding_look list k p = record { holds = λ s is w. rw (final-look k s) ((p s).holds s is w) }

pub holding_if : (list : List ℕ) {A : Type 0} (v : Bool) (m n : Run A) → Holding list m → Holding list n → Holding list (if v then m else n)
holding_if list true m n p q = p
holding_if list false m n p q = q

pub holding_given : (list : List ℕ) {A B : Type 0} (o : Option A) (n : Run B) (f : A → Run B) → Holding list n → ((a : A) → Holding list (f a)) → Holding list (given o n f)
holding_given list None n f p q = p
holding_given list (Some a) n f p q = q a

pub holding_remove : (list : List ℕ) (n : ℕ) → Holding list (remove n)
holding_remove list n = record { holds = λ s is w. rw (final-edit (Remove n) s) (together_removed list n s is w) }

pub ruleset holding = (holding_answer, holding_bind, holding_look, holding_if, holding_given, holding_remove)

-- ---- places beside the members

-- before the first one
pub first_beside : (s : State) → IsValid s → (a x q : ℕ) (l front rest : List ℕ) → parent_of s.trees a ≡ Some q → children_of s.trees q ≡ front ++ (members s q (a ∷ l) ++ rest)
    → (first : List ℕ) × (last : List ℕ) × (put_in (children_of s.trees q) (Some a) x ≡ first ++ (members s q (a ∷ l) ++ last))
first_beside s is a x q l front rest up kids =
    let m = members s q l in
    let own : members s q (a ∷ l) ≡ a ∷ m = members-append s q (a ∷ []) l ∙ ap (λ k. k ++ m) (members-one s q a up) in
    let shape : children_of s.trees q ≡ front ++ a ∷ (m ++ rest) = kids ∙ ap (λ k. front ++ (k ++ rest)) own in
    let k = ap (λ c. times c a) shape in
    let none : times front a ≡ 0 = omega (arith, k, times-append front (a ∷ (m ++ rest)) a, self_one a, times-children_of s.trees q a is.forest.distinct) in
    (front ++ x ∷ [], rest, ap (λ c. put_in c (Some a) x) shape ∙ (put_in-middle front (m ++ rest) a x none ∙ (sym (append_assoc front (x ∷ []) (a ∷ (m ++ rest))) ∙ ap (λ k. (front ++ x ∷ []) ++ (k ++ rest)) (sym own))))

pub before_nothing : (o x : ℕ) (s : State) → parent_of s.trees o ≡ None → final (insert_before o x) s ≡ s
unfolding insert_before
before_nothing o x s root = rw (final-look, root, final-answer) refl

-- ---- lists with a node put in

pub put_in-end : (xs : List ℕ) (x : ℕ) → put_in xs None x ≡ xs ++ x ∷ []
put_in-end [] x = refl
put_in-end (y ∷ xs) x = ap (λ k. y ∷ k) (put_in-end xs x)

pub put_in-seam : (xs rest : List ℕ) (x : ℕ) → ((n : ℕ) → times (xs ++ rest) n ≤ 1) → put_in (xs ++ rest) (first_in rest) x ≡ xs ++ x ∷ rest
put_in-seam xs [] x once = put_in-end (xs ++ []) x ∙ ap (λ k. k ++ x ∷ []) (append-nil xs)
put_in-seam xs (y ∷ rest) x once = put_in-middle xs rest y x (omega (arith, once y, times-append xs (y ∷ rest) y, self_one y))
