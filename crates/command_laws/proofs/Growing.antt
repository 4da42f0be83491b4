-- Lists of items that grow: they stay together while nodes are put beside them, leave and go.
use Rattle.std.proofs.Common.{◌≡◌, ◌≢◌, ◌⊎◌, ℕ, ◌+◌, ◌<◌, ◌≤◌, zero, suc, Bool, true, false, cond, eqb, if◌then◌else◌, List, [], ◌∷◌, ◌++◌, Option, Some, None, refl, sym, ap, subst, ◌∙◌, inl, inr, arith, append_assoc}
use Rattle.std.specs.Option.{option_map_or, option_and_then}
use Rattle.std.specs.Prelude.{codes, bytes_eq}
use Rattle.std.proofs.lemmas.Bool.{cases_Bool, ne_eqb}
use Rattle.std.proofs.lemmas.Bool.Decides.{eqb_tells}
use Rattle.std.proofs.lemmas.List.{append-nil}
use Rattle.edit_model.specs.DomModel.declared.Content.{Content}
use Rattle.edit_model.specs.DomModel.Contents.{name_in, has_name}
use Rattle.edit_model.specs.DomModel.Forest.{Forest, Seen, times, put_in, last_in, after_in, parent_of, children_of, next_of, content_of, link, unlink}
use Rattle.edit_model.proofs.DomModel.Lists.{times-append}
use Rattle.edit_model.proofs.DomModel.Neighbours.{parent_of-next}
use Rattle.edit_model.proofs.DomModel.Links.{child_of_parent, parent_count, times-children_of, children_of-link, children_of-unlink, eqb_refl_true}
use Rattle.edit_model.proofs.DomModel.Kept.{content_of-link, content_of-unlink}
use Rattle.edit_model.specs.State.{State}
use Rattle.edit_model.specs.Confined.{may_remove, may_move}
use Rattle.edit_model.specs.Edit.{Insert, Remove, Move, is_made_edit, trees_after, edited}
use Rattle.edit_model.specs.Valid.{IsValid}
use Rattle.edit_model.specs.Moves.{move_last}
use Rattle.edit_model.specs.Run.{Run, final, value, ◌>>=◌, answer, look, given, remove, for_each}
use Rattle.edit_model.proofs.Forests.{forest-unlink, can_go}
use Rattle.edit_model.proofs.IslandRuns.{trees_made, trees_left}
use Rattle.edit_model.proofs.Steps.{final-answer, final-bind, final-look, final-edit, for_each-cons, for_each-nil}
use Rattle.edit_model.proofs.Tests.{goes, removes, parent_there}
use Rattle.edit_laws.proofs.Around.{self_one}
use Rattle.edit_laws.proofs.Handing.{final_move_last}
use Rattle.edit_laws.proofs.Lifting.{move_stays}
use Rattle.inline_value.specs.EditActions.Siblings.{members}
use Rattle.command_laws.proofs.Splitting.{parted}
use Rattle.command_laws.proofs.SteadySplits.{valid_final}
use Rattle.command_laws.proofs.Together.{dropped, dropped-append, dropped-absent, taken-dropped, parent-unlinked, parent-linked, members-append, members-one, members-other, members-same, members-few, Together, together-same, together_removed, together_put, put_in-end, next_edited}
use Rattle.command_laws.proofs.Widening.{Siblings, last_parted, pushed-last, one_after}

-- ---- lists that have another one in one piece

pub record Piece (list whole : List ℕ) : Type 0 where
  pub front : List ℕ
  pub rest : List ℕ
  pub is : whole ≡ front ++ (list ++ rest)

pub piece_none : (whole : List ℕ) → Piece [] whole
piece_none whole = record { front = whole; rest = []; is = sym (append-nil whole) }

pub piece_dropped : (list whole : List ℕ) (k : ℕ) → times list k ≡ 0 → Piece list whole → Piece list (dropped whole k)
piece_dropped list whole k none w = record {
  front = dropped w.front k;
  rest = dropped w.rest k;
  is =
      ap (λ m. dropped m k) w.is
      ∙ (dropped-append w.front (list ++ w.rest) k
      ∙ ap (λ m. dropped w.front k ++ m) (dropped-append list w.rest k ∙ ap (λ m. m ++ dropped w.rest k) (dropped-absent list k none)));
}

pub piece_end : (list whole : List ℕ) (k : ℕ) → Piece list whole → Piece list (put_in whole None k)
piece_end list whole k w = record {
  front = w.front;
  rest = w.rest ++ k ∷ [];
  is =
      put_in-end whole k
      ∙ (ap (λ m. m ++ k ∷ []) w.is
      ∙ (append_assoc w.front (list ++ w.rest) (k ∷ []) ∙ ap (λ m. w.front ++ m) (append_assoc list w.rest (k ∷ []))));
}

pub piece_if : (list : List ℕ) (v : Bool) (a b : List ℕ) → Piece list a → Piece list b → Piece list (cond v a b)
piece_if list true a b p q = p
piece_if list false a b p q = q

pub siblings_as : (s : State) (o : ℕ) (list other whole : List ℕ) → children_of s.trees o ≡ whole → list ≡ other → Piece other whole → Siblings s o list
siblings_as s o list other whole kids same w = record { front = w.front; rest = w.rest; is = kids ∙ (w.is ∙ ap (λ m. w.front ++ (m ++ w.rest)) (sym same)) }

pub piece_of : (s : State) (o : ℕ) (list : List ℕ) → Siblings s o list → Piece list (children_of s.trees o)
piece_of s o list w = record { front = w.front; rest = w.rest; is = w.is }

-- ---- none, and one

pub together_none : (s : State) → Together s []
unfolding members
together_none s = record { known = λ l h. absurd (omega (arith, h)); siblings = λ o. siblings_as s o [] [] (children_of s.trees o) refl refl (piece_none (children_of s.trees o)) }

pub only : (x l : ℕ) → 0 < times (x ∷ []) l → x ≡ l
only x l h = elim (eqb_tells x l) [ inl (_, same) ↦ same | inr (t, _) ↦ (let h' = rw t at h in absurd (omega (arith, h'))) ]

pub members-loose : (s : State) (o x : ℕ) → parent_of s.trees x ≡ None → members s o (x ∷ []) ≡ []
unfolding members
members-loose s o x root = rw root refl

pub child_parted : (s : State) → IsValid s → (x o : ℕ) → parent_of s.trees x ≡ Some o → (front : List ℕ) × (rest : List ℕ) × (children_of s.trees o ≡ front ++ x ∷ rest)
child_parted s is x o up =
    let w = child_of_parent s.trees x o is.forest.distinct up in
    let own : children_of s.trees o ≡ w.0.children = ap (λ (k : Option (Seen Content)). option_map_or (λ (y : Seen Content). y.children) k []) w.2 in
    let p = parted w.0.children x w.3 in
    (p.0, p.1, own ∙ p.2)

pub together_one : (s : State) → IsValid s → (x : ℕ) → x < s.next → Together s (x ∷ [])
together_one s is x known = record { known = λ l h. subst (λ k. k < s.next) (only x l h) known; siblings = λ o. by_parent o (parent_of s.trees x) refl }
  where
    by_parent : (o : ℕ) (p : Option ℕ) → parent_of s.trees x ≡ p → Siblings s o (members s o (x ∷ []))
    by_parent o None root = siblings_as s o (members s o (x ∷ [])) [] (children_of s.trees o) refl (members-loose s o x root) (piece_none (children_of s.trees o))
    by_parent o (Some q) up = elim (eqb_tells q o) [
      | inl (_, same) ↦ (
          let up' : parent_of s.trees x ≡ Some o = up ∙ ap Some same in
          let p = child_parted s is x o up' in
          siblings_as s o (members s o (x ∷ [])) (x ∷ []) (front_of p) (p.2) (members-one s o x up') (record { front = p.0; rest = p.1; is = refl }))
      | inr (_, off) ↦ siblings_as s o (members s o (x ∷ [])) [] (children_of s.trees o) refl (members-other s o q x up off) (piece_none (children_of s.trees o))
    ]
      where
        front_of : ((front : List ℕ) × (rest : List ℕ) × (children_of s.trees o ≡ front ++ x ∷ rest)) → List ℕ
        front_of p = p.0 ++ x ∷ p.1

-- ---- one more, the next sibling of the last

pub next_parent : (s : State) → IsValid s → (z x : ℕ) → next_of s.trees z ≡ Some x → (q : ℕ) × (parent_of s.trees z ≡ Some q) × (parent_of s.trees x ≡ Some q)
next_parent s is z x next = by_parent (parent_of s.trees z) refl
  where
    by_parent : (o : Option ℕ) → parent_of s.trees z ≡ o → (q : ℕ) × (parent_of s.trees z ≡ Some q) × (parent_of s.trees x ≡ Some q)
    by_parent None root = absurd (let k : None ≡ Some x = sym (ap (λ p. option_and_then (λ q. after_in (children_of s.trees q) z) p) root) ∙ next in cc)
    by_parent (Some q) up = (q, up, parent_of-next s.trees is.forest.distinct z x q up next)

pub together_next : (s : State) → IsValid s → (list : List ℕ) (z x : ℕ) → last_in list ≡ Some z → next_of s.trees z ≡ Some x → Together s list → Together s (list ++ x ∷ [])
together_next s is list z x last next w =
    let up = next_parent s is z x next in
    let q = up.0 in
    let here : x < s.next = is.forest.below x (parent_count s.trees x q is.forest.distinct up.2).0 in
    record {
      known = λ l h. by_count l (times list l) refl (times-append list (x ∷ []) l) h here;
      siblings = λ o. elim (eqb_tells q o) [
        | inl (_, same) ↦ subst (λ p. Siblings s p (members s p (list ++ x ∷ []))) same (at_parent q up.1 up.2)
        | inr (_, off) ↦ siblings_as s o (members s o (list ++ x ∷ [])) (members s o list) (children_of s.trees o) refl (others o q up.2 off) (piece_of s o (members s o list) (w.siblings o))
      ];
    }
  where
    by_count : (l k : ℕ) → times list l ≡ k → times (list ++ x ∷ []) l ≡ times list l + times (x ∷ []) l → 0 < times (list ++ x ∷ []) l → x < s.next → l < s.next
    by_count l zero e sum h here = subst (λ k. k < s.next) (only x l (omega (arith, e, sum, h))) here
    by_count l (suc k) e sum h here = w.known l (omega (arith, e))

    others : (o q : ℕ) → parent_of s.trees x ≡ Some q → q ≢ o → members s o (list ++ x ∷ []) ≡ members s o list
    others o q up off = members-append s o list (x ∷ []) ∙ (ap (λ m. members s o list ++ m) (members-other s o q x up off) ∙ append-nil (members s o list))

    at_parent : (q : ℕ) → parent_of s.trees z ≡ Some q → parent_of s.trees x ≡ Some q → Siblings s q (members s q (list ++ x ∷ []))
    at_parent q up_z up_x =
        let i = last_parted list z last in
        let own : members s q list ≡ members s q i.0 ++ z ∷ [] = ap (λ l. members s q l) i.1 ∙ (members-append s q i.0 (z ∷ []) ∙ ap (λ m. members s q i.0 ++ m) (members-one s q z up_z)) in
        let ends : last_in (members s q list) ≡ Some z = ap last_in own ∙ pushed-last None (members s q i.0) z in
        let more = one_after s is q (members s q list) z x (w.siblings q) ends next in
        let all : members s q (list ++ x ∷ []) ≡ members s q list ++ x ∷ [] = members-append s q list (x ∷ []) ∙ ap (λ m. members s q list ++ m) (members-one s q x up_x) in
        siblings_as s q (members s q (list ++ x ∷ [])) (members s q list ++ x ∷ []) (children_of s.trees q) refl all (piece_of s q (members s q list ++ x ∷ []) more)

-- ---- what is moved or put in elsewhere

-- where the nodes stand as they did
pub together_shaped : (s t : State) (list : List ℕ) → s.next ≤ t.next → ((l : ℕ) → parent_of t.trees l ≡ parent_of s.trees l) → ((l : ℕ) → children_of t.trees l ≡ children_of s.trees l) → Together s list → Together t list
together_shaped s t list more parent children w = record {
  known = λ l h. omega (arith, w.known l h, more);
  siblings = λ o. siblings_as t o (members t o list) (members s o list) (children_of s.trees o) (children o) (members-same s t o list (λ l _. parent l)) (piece_of s o (members s o list) (w.siblings o));
}

-- a new node comes to stand where none of the list stands
pub together_apart : (list : List ℕ) (x q : ℕ) (b : Option ℕ) (s : State) → IsValid s → times list x ≡ 0 → members s q list ≡ [] → Together s list → Together (edited (Insert q b x) s) list
together_apart list x q b s is apart none w =
    together_put list x q b s is apart w
    (λ front rest kids. (put_in (children_of s.trees q) b x, [], sym (append-nil (put_in (children_of s.trees q) b x)) ∙ ap (λ m. put_in (children_of s.trees q) b x ++ (m ++ [])) (sym none)))

-- what a move does to look-ups
pub record MovedTo (s t : State) (k p : ℕ) (b : Option ℕ) : Type 0 where
  pub from : ℕ
  pub child : parent_of s.trees k ≡ Some from
  pub own : parent_of t.trees k ≡ Some p
  pub parent : (l : ℕ) → k ≢ l → parent_of t.trees l ≡ parent_of s.trees l
  pub children : (o : ℕ) → children_of t.trees o ≡ cond (eqb p o) (put_in (cond (eqb from o) (dropped (children_of s.trees o) k) (children_of s.trees o)) b k) (cond (eqb from o) (dropped (children_of s.trees o) k) (children_of s.trees o))
  pub content : (l : ℕ) → content_of t.trees l ≡ content_of s.trees l

pub moved_to : (k p : ℕ) (b : Option ℕ) (s : State) → IsValid s → may_move s k p b ≡ true → MovedTo s (edited (Move k p b) s) k p b
unfolding is_made_edit trees_after
moved_to k p b s is may =
    let t : State = edited (Move k p b) s in
    let f = s.trees in
    let distinct = is.forest.distinct in
    let g = goes s k p b may in
    let loose = forest-unlink f s.next is.forest g.from k g.child in
    let can = can_go f s.next is.forest g.from k p b g.child g.apart g.parent (parent_there f p g.parent) g.before in
    let now : t.trees ≡ link (unlink f k) p b k = trees_made (Move k p b) s may in
    let parents : (l : ℕ) → parent_of t.trees l ≡ cond (eqb k l) (Some p) (cond (eqb k l) None (parent_of f l)) = λ l.
    ap (λ h. parent_of h l) now ∙ (parent-linked (unlink f k) loose.distinct p b k l can ∙ ap (cond (eqb k l) (Some p)) (parent-unlinked f distinct g.from k l g.child)) in
    record {
      from = g.from;
      child = g.child;
      own = parents k ∙ rw (eqb_refl_true k) refl;
      parent = λ l off. parents l ∙ rw (ne_eqb k l off) refl;
      children = λ o. (
          let out : children_of (unlink f k) o ≡ cond (eqb g.from o) (dropped (children_of f o) k) (children_of f o) =
          children_of-unlink f g.from k distinct g.child o ∙ ap (λ c. cond (eqb g.from o) c (children_of f o)) (taken-dropped (children_of f o) k (times-children_of f o k distinct)) in
          ap (λ h. children_of h o) now ∙ (children_of-link (unlink f k) p b k loose.distinct can o ∙ ap (λ c. cond (eqb p o) (put_in c b k) c) out));
      content = λ l. ap (λ h. content_of h l) now ∙ (content_of-link (unlink f k) p b k l loose.distinct can ∙ content_of-unlink f g.from k l distinct g.child);
    }

-- a node that is none of the list goes to the end of another one
pub together_moved : (list : List ℕ) (k p : ℕ) (s : State) → IsValid s → times list k ≡ 0 → Together s list → Together (edited (Move k p None) s) list
together_moved list k p s is none w = elim (cases_Bool (may_move s k p None)) [
  | inr off ↦ subst (λ t. Together t list) (sym (move_stays k p None s off)) w
  | inl may ↦ (
      let t : State = edited (Move k p None) s in
      let g = moved_to k p None s is may in
      record {
        known = λ l h. omega (arith, w.known l h, next_edited (Move k p None) s);
        siblings = λ o. (
            let m = members s o list in
            let few : times m k ≡ 0 = omega (arith, members-few s o list k, none) in
            let same : members t o list ≡ m = members-same s t o list (λ l h. g.parent l (λ e. (let c = ap (times list) e in omega (arith, c, h, none)))) in
            let first = piece_of s o m (w.siblings o) in
            let out = piece_if m (eqb g.from o) (dropped (children_of s.trees o) k) (children_of s.trees o) (piece_dropped m (children_of s.trees o) k few first) first in
            siblings_as t o (members t o list) m _ (g.children o) same
            (piece_if m (eqb p o) _ _ (piece_end m (cond (eqb g.from o) (dropped (children_of s.trees o) k) (children_of s.trees o)) k out) out));
      })
]

-- ---- a list of items that grows under q: the others of it stand in items that were made since the labels from n on are drawn

pub record Grown (s : State) (list : List ℕ) (q n : ℕ) : Type 0 where
  pub together : Together s list
  pub below : n ≤ s.next
  pub above : (r : ℕ) → parent_of s.trees q ≡ Some r → r < n
  pub apart : (l r : ℕ) → 0 < times list l → parent_of s.trees l ≡ Some r → (r ≡ q) ⊎ ((n ≤ r) × (has_name s.trees r (codes "li") ≡ true))
  pub last : (z r : ℕ) → last_in list ≡ Some z → parent_of s.trees z ≡ Some r → r ≡ q

-- what nodes have stays, and no node comes to another parent but those that are none of the list
pub grown_by : (s t : State) (list : List ℕ) (q n : ℕ) → s.next ≤ t.next → Together t list
    → ((r : ℕ) → parent_of t.trees q ≡ Some r → parent_of s.trees q ≡ Some r)
    → ((l r : ℕ) → 0 < times list l → parent_of t.trees l ≡ Some r → parent_of s.trees l ≡ Some r)
    → ((r : ℕ) → has_name s.trees r (codes "li") ≡ true → has_name t.trees r (codes "li") ≡ true)
    → Grown s list q n → Grown t list q n
grown_by s t list q n more together above parents names w = record {
  together = together;
  below = omega (arith, w.below, more);
  above = λ r up. w.above r (above r up);
  apart = λ l r h up. elim (w.apart l r h (parents l r h up)) [ inl e ↦ inl e | inr k ↦ inr (k.0, names r k.1) ];
  last = λ z r e up. w.last z r e (parents z r (last_among list z e) up);
}
  where
    last_among : (list : List ℕ) (z : ℕ) → last_in list ≡ Some z → 0 < times list z
    last_among list z e = let i = last_parted list z e in let k = ap (λ l. times l z) i.1 in omega (arith, k, times-append i.0 (z ∷ []) z, self_one z)

pub same_named : (f g : Forest Content) (l : ℕ) (name : List ℕ) → content_of g l ≡ content_of f l → has_name f l name ≡ true → has_name g l name ≡ true
same_named f g l name same h = ap (λ (c : Option Content). option_map_or (λ own. bytes_eq own name) (option_and_then name_in c) false) same ∙ h

pub grown_same : (s t : State) (list : List ℕ) (q n : ℕ) → t.trees ≡ s.trees → s.next ≤ t.next → Grown s list q n → Grown t list q n
grown_same s t list q n same more w =
    grown_by s t list q n more (together-same s t list same more w.together) (λ r up. sym (ap (λ f. parent_of f q) same) ∙ up) (λ l r _ up. sym (ap (λ f. parent_of f l) same) ∙ up)
    (λ r h. ap (λ f. has_name f r (codes "li")) same ∙ h) w

pub grown_removed : (list : List ℕ) (q n k : ℕ) (s : State) → IsValid s → Grown s list q n → Grown (edited (Remove k) s) list q n
unfolding is_made_edit trees_after
grown_removed list q n k s is w = elim (cases_Bool (may_remove s k)) [
  | inr off ↦ grown_same s (edited (Remove k) s) list q n (trees_left (Remove k) s off) (next_edited (Remove k) s) w
  | inl may ↦ (
      let t : State = edited (Remove k) s in
      let r = removes s k may in
      let now : t.trees ≡ unlink s.trees k = trees_made (Remove k) s may in
      let parents : (l : ℕ) → parent_of t.trees l ≡ cond (eqb k l) None (parent_of s.trees l) = λ l. ap (λ f. parent_of f l) now ∙ parent-unlinked s.trees is.forest.distinct r.from k l r.child in
      let fewer : (l p : ℕ) → parent_of t.trees l ≡ Some p → parent_of s.trees l ≡ Some p = λ l p up. by (eqb k l) (parent_of s.trees l) p (sym (parents l) ∙ up) in
      grown_by s t list q n (next_edited (Remove k) s) (together_removed list k s is w.together) (λ p up. fewer q p up) (λ l p _ up. fewer l p up)
      (λ l h. same_named s.trees t.trees l (codes "li") (ap (λ f. content_of f l) now ∙ content_of-unlink s.trees r.from k l is.forest.distinct r.child) h) w)
]
  where
    by : (v : Bool) (o : Option ℕ) (p : ℕ) → cond v None o ≡ Some p → o ≡ Some p
    by true o p e = absurd (let k : None ≡ Some p = e in cc)
    by false o p e = e

-- ---- runs that keep it grown

pub record Growing (list : List ℕ) (q n : ℕ) {T : Type 0} (m : Run T) : Type 0 where
  pub grows : (s : State) → IsValid s → Grown s list q n → Grown (final m s) list q n

pub growing_answer : (list : List ℕ) (q n : ℕ) {A : Type 0} (a : A) → Growing list q n (answer a)
growing_answer list q n a = record { grows = λ s is w. rw (final-answer a s) w }

pub growing_bind : (list : List ℕ) (q n : ℕ) {A B : Type 0} (m : Run A) (k : A → Run B) → Growing list q n m → ((a : A) → Growing list q n (k a)) → Growing list q n (m >>= k)
growing_bind list q n m k h g = record { grows = λ s is w. rw (final-bind m k s) ((g (value m s)).grows (final m s) (valid_final m s is) (h.grows s is w)) }

pub growing_look : (list : List ℕ) (q n : ℕ) {A : Type 0} (k : State → Run A) → ((s : State) → Growing list q n (k s)) → Growing list q n (look k)
growing_look list q n k h = record { grows = λ s is w. rw (final-look k s) ((h s).grows s is w) }

pub growing_if : (list : List ℕ) (q n : ℕ) {A : Type 0} (v : Bool) (m k : Run A) → Growing list q n m → Growing list q n k → Growing list q n (if v then m else k)
growing_if list q n true m k h g = h
growing_if list q n false m k h g = g

pub growing_given : (list : List ℕ) (q n : ℕ) {A B : Type 0} (o : Option A) (m : Run B) (f : A → Run B) → Growing list q n m → ((a : A) → Growing list q n (f a)) → Growing list q n (given o m f)
growing_given list q n None m f h g = h
growing_given list q n (Some a) m f h g = g a

pub growing_remove : (list : List ℕ) (q n k : ℕ) → Growing list q n (remove k)
growing_remove list q n k = record { grows = λ s is w. rw (final-edit (Remove k) s) (grown_removed list q n k s is w) }

pub ruleset growing = (growing_answer, growing_bind, growing_look, growing_if, growing_given, growing_remove)

-- ---- nodes that are none of the list, nor q, go to the end of another one

grown_moved : (list : List ℕ) (q n k p : ℕ) (s : State) → IsValid s → times list k ≡ 0 → k ≢ q → Grown s list q n → Grown (edited (Move k p None) s) list q n
grown_moved list q n k p s is none off w = elim (cases_Bool (may_move s k p None)) [
  | inr shut ↦ subst (λ t. Grown t list q n) (sym (move_stays k p None s shut)) w
  | inl may ↦ (
      let t : State = edited (Move k p None) s in
      let g = moved_to k p None s is may in
      grown_by s t list q n (next_edited (Move k p None) s) (together_moved list k p s is none w.together) (λ r up. sym (g.parent q off) ∙ up)
      (λ l r h up. sym (g.parent l (λ e. (let c = ap (times list) e in omega (arith, c, h, none)))) ∙ up)
      (λ l h. same_named s.trees t.trees l (codes "li") (g.content l) h) w)
]

pub growing_moves : (list : List ℕ) (q n p : ℕ) (nodes : List ℕ) → ((k : ℕ) → 0 < times nodes k → (times list k ≡ 0) × (k ≢ q)) → Growing list q n (for_each nodes (move_last p))
growing_moves list q n p [] apart = record { grows = λ s is w. rw (for_each-nil, final-answer) w }
growing_moves list q n p (k ∷ nodes) apart = record {
  grows = λ s is w. (
      let a = apart k (omega (arith, self_one k)) in
      rw (for_each-cons, final-bind)
      ((growing_moves list q n p nodes (λ l h. apart l (omega (arith, h)))).grows (final (move_last p k) s) (valid_final (move_last p k) s is)
      (rw (final_move_last p k s) (grown_moved list q n k p s is a.0 a.1 w))));
}
