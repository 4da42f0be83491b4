-- Splitting the parent of a list keeps the order.
use Rattle.std.proofs.Common.{◌≡◌, ℕ, ◌+◌, ◌<◌, ◌≤◌, Bool, true, false, ◌&&◌, ◌||◌, not, cond, eqb, if◌then◌else◌, List, [], ◌∷◌, ◌++◌, Option, Some, None, is_none, refl, sym, ap, subst, ◌∙◌, inl, inr, arith, true≢false}
use Rattle.std.specs.Option.{option_map, option_map_or, option_and_then}
use Rattle.std.proofs.lemmas.Bool.{cases_Bool, eq-eqb, eqb-true}
use Rattle.std.proofs.lemmas.List.{append-nil}
use Rattle.edit_model.specs.DomModel.declared.Content.{Content}
use Rattle.edit_model.specs.DomModel.declared.Content.TheVariants.{Document, Element, Words, Remark}
use Rattle.edit_model.specs.DomModel.Contents.{may_have_children, name_in}
use Rattle.edit_model.specs.DomModel.Forest.{Seen, times, first_in, last_in, last_or, parent_of, children_of, first_of, content_of}
use Rattle.edit_model.proofs.DomModel.Lists.{times-append}
use Rattle.edit_model.proofs.DomModel.Links.{seen, times-children_of, child_of_parent, parent_count}
use Rattle.inline_value.specs.NodeTests.LineBreaks.{follows_break, precedes_break}
use Rattle.edit_model.specs.State.{State}
use Rattle.edit_model.specs.Kept.{borne_by, is_thing}
use Rattle.edit_model.specs.Confined.{is_editable_for}
use Rattle.edit_model.specs.Valid.{IsValid}
use Rattle.edit_model.specs.Moves.{move_all_before, move_all_after}
use Rattle.edit_model.specs.Run.{Run, final, value, ◌>>=◌, ◌>>◌, done, look, remove}
use Rattle.edit_model.proofs.Steps.{final-bind, final-answer, final-look}
use Rattle.edit_laws.specs.Order.{KeepsOrder, IsKeeping}
use Rattle.edit_laws.specs.MoveLaws.{IsBare}
use Rattle.edit_laws.specs.OrderPreserving.{OrderPreserving}
use Rattle.edit_laws.proofs.Subsequences.{keeps_refl, keeps_trans}
use Rattle.edit_laws.proofs.QuietActions.{keeping_final}
use Rattle.edit_laws.proofs.OrderPreserving.{order_preserving, order_preserving_answer, order_preserving_bind, order_preserving_remove}
use Rattle.edit_laws.proofs.Around.{self_one}
use Rattle.edit_laws.proofs.Fronts.{child_by}
use Rattle.edit_laws.proofs.MoveLaws.{go_before, go_after}
use Rattle.inline_value.specs.EditActions.Siblings.{first_parent, members, is_among, has, starts_in, ends_in}
use Rattle.inline_value.specs.WrapSplit.Breaks.{breaks_before, breaks_at_end}
use Rattle.inline_value.specs.WrapSplit.Split.{break_before, break_after, clear_before, copied, copy_front, drop_first_break, close, tidy_after, split_end, split_rest, split_marked, is_void_thing, split_at, split_members, split_parent, split_around, remove_keeping_children}
use Rattle.command_laws.proofs.Breaks.{order_preserving_breaks_before, order_preserving_breaks_at_end}
use Rattle.command_laws.proofs.SplitParts.{order_preserving_break_before, order_preserving_break_after, order_preserving_drop_first_break, order_preserving_tidy_after, order_preserving_close}
use Rattle.command_laws.proofs.Cleared.{cleared}
use Rattle.command_laws.proofs.Copies.{copied_keeps}

-- a run that is known at a state, and order-preserving runs after it
pub then_order_preserving : {A B : Type 0} (m : Run A) (n : Run B) (s : State) → IsKeeping s → KeepsOrder s (final m s) → OrderPreserving n → KeepsOrder s (final (m >>= (λ _. n)) s)
then_order_preserving m n s is k t = rw final-bind (keeps_trans k (t.keeps (final m s) (keeping_final m s is)))

-- and where they go on with its answer
pub then_order_preserving_on : {A B : Type 0} (m : Run A) (k : A → Run B) (s : State) → IsKeeping s → KeepsOrder s (final m s) → ((a : A) → OrderPreserving (k a)) → KeepsOrder s (final (m >>= k) s)
then_order_preserving_on m k s is keeps t = rw (final-bind m k s) (keeps_trans keeps ((t (value m s)).keeps (final m s) (keeping_final m s is)))

-- ---- which members stand at the ends

among_times : (n : ℕ) (list : List ℕ) → is_among n list ≡ true → 0 < times list n
among_times n [] h = absurd (true≢false (sym h))
among_times n (x ∷ list) h = by_label (eqb n x) refl h (among_times n list)
  where
    by_label : (v : Bool) → eqb n x ≡ v → (v || is_among n list) ≡ true → (is_among n list ≡ true → 0 < times list n) → 0 < cond (eqb x n) 1 0 + times list n
    by_label true e k more = rw (eq-eqb x n (sym (eqb-true n x e))) (omega arith)
    by_label false e k more = omega (arith, more k)

-- the first child is a member only where the members come first
no_front : (front list rest : List ℕ) → ((n : ℕ) → times (front ++ (list ++ rest)) n ≤ 1) → has list (first_in (front ++ (list ++ rest))) ≡ true → front ≡ []
no_front [] list rest once h = refl
no_front (m ∷ front) list rest once h =
    absurd (let k = among_times m list h in omega (arith, once m, self_one m, times-append front (list ++ rest) m, times-append list rest m, k))

last_times : (o : Option ℕ) (x : ℕ) (xs : List ℕ) (n : ℕ) → last_or o (x ∷ xs) ≡ Some n → 0 < times (x ∷ xs) n
last_times o x [] n e = let same : x ≡ n = (let e' = e in cc) in rw (eq-eqb x n same) (omega arith)
last_times o x (y ∷ xs) n e = omega (arith, last_times (Some x) y xs n e)

pub last_some : (o : Option ℕ) (x : ℕ) (xs : List ℕ) → (n : ℕ) × (last_or o (x ∷ xs) ≡ Some n)
last_some o x [] = (x, refl)
last_some o x (y ∷ xs) = last_some (Some x) y xs

last-append : (o : Option ℕ) (xs ys : List ℕ) → last_or o (xs ++ ys) ≡ last_or (last_or o xs) ys
last-append o [] ys = refl
last-append o (x ∷ xs) ys = last-append (Some x) xs ys

no_rest : (front list rest : List ℕ) → ((n : ℕ) → times (front ++ (list ++ rest)) n ≤ 1) → has list (last_in (front ++ (list ++ rest))) ≡ true → rest ≡ []
no_rest front list [] once h = refl
no_rest front list (y ∷ rest) once h =
    let z = last_some (last_or (last_or None front) list) y rest in
    let is : last_in (front ++ (list ++ y ∷ rest)) ≡ Some z.0 = last-append None front (list ++ y ∷ rest) ∙ (last-append (last_or None front) list (y ∷ rest) ∙ z.1) in
    let k = among_times z.0 list (sym (ap (has list) is) ∙ h) in
    absurd (omega (arith, k, once z.0, last_times (last_or (last_or None front) list) y rest z.0 z.1, times-append front (list ++ y ∷ rest) z.0, times-append list (y ∷ rest) z.0))

-- ---- the parts

tail_order_preserving : (o a z : ℕ) (before after : Bool) → OrderPreserving (break_before before a >> (drop_first_break o z >> (close o z after >> tidy_after z)))
tail_order_preserving o a z before after = search (order_preserving, order_preserving_break_before, order_preserving_drop_first_break, order_preserving_close, order_preserving_tidy_after)

end_order_preserving : (o z : ℕ) (wanted : Bool) → OrderPreserving (break_after wanted z >> breaks_at_end o)
end_order_preserving o z wanted = search (order_preserving, order_preserving_break_after, order_preserving_breaks_at_end)

module _ (s : State) (is : IsKeeping s) (o q : ℕ) (up : parent_of s.trees o ≡ Some q) (bare : IsBare s o) (front l rest : List ℕ) (a : ℕ) (kids : children_of s.trees o ≡ front ++ (a ∷ (l ++ rest))) where
  once : (n : ℕ) → times (front ++ ((a ∷ l) ++ rest)) n ≤ 1
  once n = subst (λ k. times k n ≤ 1) kids (times-children_of s.trees o n is.valid.forest.distinct)

  moved_before : (v : Bool) → starts_in s o (a ∷ l) ≡ v → KeepsOrder s (final (move_all_before (a ∷ l) o) (final (if v then done else copied o a) s))
  unfolding starts_in
  moved_before true e =
      let first : front ≡ [] = no_front front (a ∷ l) rest once (sym (ap (λ k. has (a ∷ l) (first_in k)) kids) ∙ e) in
      let start : children_of s.trees o ≡ (a ∷ l) ++ rest = kids ∙ ap (λ k. k ++ (a ∷ (l ++ rest))) first in
      rw final-answer (go_before s is (a ∷ l) rest o start bare)
  moved_before false e = copied_keeps s is o q up bare front l rest a kids

  rest_keeps : (z : ℕ) (before after : Bool) → KeepsOrder s (final (split_rest o (a ∷ l) a z before after) s)
  unfolding split_rest copy_front
  rest_keeps z before after =
      let m : Run (Unit {0}) = if starts_in s o (a ∷ l) then done else copied o a in
      let t : State = final m s in
      let u : State = final (move_all_before (a ∷ l) o) t in
      rw (final-bind, final-look, final-bind)
      (keeps_trans (moved_before (starts_in s o (a ∷ l)) refl) ((tail_order_preserving o a z before after).keeps u (keeping_final (move_all_before (a ∷ l) o) t (keeping_final m s is))))

  end_keeps : (z : ℕ) (wanted : Bool) → ends_in s o (a ∷ l) ≡ true → KeepsOrder s (final (split_end o (a ∷ l) z wanted) s)
  unfolding split_end ends_in
  end_keeps z wanted e =
      let none : rest ≡ [] = no_rest front (a ∷ l) rest once (sym (ap (λ k. has (a ∷ l) (last_in k)) kids) ∙ e) in
      let end : children_of s.trees o ≡ front ++ (a ∷ l) = kids ∙ (ap (λ k. front ++ (a ∷ (l ++ k))) none ∙ ap (λ k. front ++ (a ∷ k)) (append-nil l)) in
      then_order_preserving (move_all_after (a ∷ l) o) (break_after wanted z >> breaks_at_end o) s is
      (go_after s is front (a ∷ l) o end) (end_order_preserving o z wanted)

  marked_keeps : (z : ℕ) → KeepsOrder s (final (split_marked o (a ∷ l) a z) s)
  unfolding split_marked
  marked_keeps z = rw final-look (by_ends (starts_in s o (a ∷ l)) (ends_in s o (a ∷ l)) refl (starts_in s o (a ∷ l) && follows_break s.trees o) (ends_in s o (a ∷ l) && precedes_break s.trees o))
    where
      by_ends : (v w : Bool) → ends_in s o (a ∷ l) ≡ w → (before after : Bool) → KeepsOrder s (final (if not v && w then split_end o (a ∷ l) z after else split_rest o (a ∷ l) a z before after) s)
      by_ends true w e before after = rest_keeps z before after
      by_ends false true e before after = end_keeps z after e
      by_ends false false e before after = rest_keeps z before after

-- ---- a node that may be split

-- a node with children that is no image and no rule bears nothing itself
void_bare : (s : State) → IsValid s → (o n : ℕ) → is_void_thing s o ≡ false → 0 < times (children_of s.trees o) n → IsBare s o
unfolding borne_by
void_bare s is o n plain among = by_content
  where
    by_content : (c : Content) → content_of s.trees o ≡ Some c → borne_by o c ≡ []
    by_content Document e = refl
    by_content (Element name attributes) e =
        let t : is_thing name ≡ false = sym (ap (λ (k : Option Content). option_map_or is_thing (option_and_then name_in k) false) e) ∙ plain in
        rw t refl
    by_content (Remark chars) e = refl
    by_content (Words chars) e =
        let w = seen s.trees o is.forest.distinct (parent_count s.trees n o is.forest.distinct (child_by s is o n among)).1 in
        let same : w.0.content ≡ Words chars = (let t : Some w.0.content ≡ Some (Words chars) = ap (option_map (λ (y : Seen Content). y.content)) (sym w.2) ∙ e in cc) in
        let own : children_of s.trees o ≡ w.0.children = ap (λ (k : Option (Seen Content)). option_map_or (λ (y : Seen Content). y.children) k []) w.2 in
        let none = ap (λ k. times k n) (own ∙ (is.forest.nodes o w.0 w.2).leaf (ap may_have_children same)) in
        absurd (omega (arith, none, among))

at_keeps : (o a z : ℕ) (front l rest : List ℕ) (s : State) → IsKeeping s → children_of s.trees o ≡ front ++ (a ∷ (l ++ rest)) → KeepsOrder s (final (split_at o (a ∷ l) a z) s)
unfolding split_at clear_before
at_keeps o a z front l rest s is kids = rw final-look (by_parent (parent_of s.trees o) refl (not (is_editable_for s o)) (is_void_thing s o) refl)
  where
    among : 0 < times (children_of s.trees o) a
    among = let k = ap (λ c. times c a) kids in omega (arith, k, self_one a, times-append front (a ∷ (l ++ rest)) a)

    by_start : (q : ℕ) → parent_of s.trees o ≡ Some q → IsBare s o → (v : Bool) → KeepsOrder s (final (split_marked o (a ∷ l) a z) (final (if v then breaks_before o else done) s))
    by_start q up bare true =
        let t : State = final (breaks_before o) s in
        let u = cleared o s is.valid in
        keeps_trans ((order_preserving_breaks_before o).keeps s is)
        (marked_keeps t (keeping_final (breaks_before o) s is) o q (u.parent q up) (λ c h. bare c (sym u.content ∙ h)) front l rest a (u.children ∙ kids) z)
    by_start q up bare false = rw final-answer (marked_keeps s is o q up bare front l rest a kids z)

    by_parent : (p : Option ℕ) → parent_of s.trees o ≡ p → (v w : Bool) → is_void_thing s o ≡ w
        → KeepsOrder s (final (if v || (is_none p || w) then done else (look (λ t. if starts_in t o (a ∷ l) then breaks_before o else done) >> split_marked o (a ∷ l) a z)) s)
    by_parent p up true w e = rw final-answer (keeps_refl _)
    by_parent None up false w e = rw final-answer (keeps_refl _)
    by_parent (Some q) up false true e = rw final-answer (keeps_refl _)
    by_parent (Some q) up false false e = rw (final-bind, final-look) (by_start q up (void_bare s is.valid o a e among) (starts_in s o (a ∷ l)))

-- ---- of a list

pub all_members : (s : State) (o : ℕ) (list : List ℕ) → ((n : ℕ) → 0 < times list n → parent_of s.trees n ≡ Some o) → members s o list ≡ list
unfolding members
all_members s o [] owned = refl
all_members s o (x ∷ list) owned =
    let up : parent_of s.trees x ≡ Some o = owned x (omega (arith, self_one x)) in
    rw (up, eq-eqb o o refl) (ap (λ k. x ∷ k) (all_members s o list (λ n h. owned n (omega (arith, h)))))

pub split_keeps : (front list rest : List ℕ) (o : ℕ) (s : State) → IsKeeping s → children_of s.trees o ≡ front ++ (list ++ rest) → KeepsOrder s (final (split_parent list) s)
unfolding split_parent first_parent split_members
split_keeps front [] rest o s is kids = rw (final-look, final-answer) (keeps_refl _)
split_keeps front (a ∷ l) rest o s is kids =
    let owned : (n : ℕ) → 0 < times (a ∷ l) n → parent_of s.trees n ≡ Some o = λ n h. child_by s is.valid o n (let k = ap (λ c. times c n) kids in omega (arith, k, h, times-append front (a ∷ (l ++ rest)) n, times-append (a ∷ l) rest n)) in
    let up : parent_of s.trees a ≡ Some o = owned a (omega (arith, self_one a)) in
    let z = last_some None a l in
    rw (final-look, up, all_members s o (a ∷ l) owned, z.1) (at_keeps o a z.0 front l rest s is kids)

-- a list with a member in it
pub parted : (list : List ℕ) (n : ℕ) → 0 < times list n → (front : List ℕ) × (rest : List ℕ) × (list ≡ front ++ n ∷ rest)
parted [] n h = absurd (omega (arith, h))
parted (x ∷ list) n h = elim (cases_Bool (eqb x n)) [
  | inl t ↦ ([], list, ap (λ k. k ∷ list) (eqb-true x n t))
  | inr t ↦ (let h' = rw t at h in let r = parted list n (omega (arith, h')) in (x ∷ r.0, r.1, ap (λ k. x ∷ k) r.2))
]

rootless : (n : ℕ) (s : State) → parent_of s.trees n ≡ None → KeepsOrder s (final (split_parent (n ∷ [])) s)
unfolding split_parent first_parent
rootless n s root = rw (final-look, root, final-answer) (keeps_refl _)

one_keeps : (n : ℕ) (s : State) → IsKeeping s → KeepsOrder s (final (split_parent (n ∷ [])) s)
one_keeps n s is = by_parent (parent_of s.trees n) refl
  where
    by_parent : (o : Option ℕ) → parent_of s.trees n ≡ o → KeepsOrder s (final (split_parent (n ∷ [])) s)
    by_parent None root = rootless n s root
    by_parent (Some o) up =
        let r = child_of_parent s.trees n o is.valid.forest.distinct up in
        let own : children_of s.trees o ≡ r.0.children = ap (λ (k : Option (Seen Content)). option_map_or (λ (y : Seen Content). y.children) k []) r.2 in
        let p = parted r.0.children n r.3 in
        split_keeps p.0 (n ∷ []) p.1 o s is (own ∙ p.2)

pub order_preserving_split_one : (n : ℕ) → OrderPreserving (split_parent (n ∷ []))
order_preserving_split_one n = record { keeps = λ s is. one_keeps n s is }

pub order_preserving_split_around : (n : ℕ) → OrderPreserving (split_around n)
unfolding split_around
order_preserving_split_around n = search (order_preserving, order_preserving_split_one)

unwrap_keeps : (n : ℕ) (s : State) → IsKeeping s → (v : Bool) → KeepsOrder s (final (if v then remove n >> done else split_parent (children_of s.trees n)) s)
unwrap_keeps n s is true = (order_preserving_bind (remove n) (λ _. done) (order_preserving_remove n) (λ _. order_preserving_answer tt)).keeps s is
unwrap_keeps n s is false = split_keeps [] (children_of s.trees n) [] n s is (sym (append-nil (children_of s.trees n)))

pub order_preserving_unwrap : (n : ℕ) → OrderPreserving (remove_keeping_children n)
unfolding remove_keeping_children
order_preserving_unwrap n = record { keeps = λ s is. rw final-look (unwrap_keeps n s is (is_none (first_of s.trees n))) }
