-- Collecting items keeps the order, and the items that it answers are together.
use Rattle.std.proofs.Common.{◌≡◌, ℕ, ◌<◌, ◌≤◌, zero, suc, Bool, true, false, ◌||◌, if◌then◌else◌, List, [], ◌∷◌, ◌++◌, take, drop, Option, Some, None, refl, sym, ap, subst, ◌∙◌, arith, add-one, true≢false}
use Rattle.std.specs.Prelude.{codes}
use Rattle.std.proofs.lemmas.List.{append-nil}
use Rattle.edit_model.specs.DomModel.Contents.{has_name}
use Rattle.edit_model.specs.DomModel.Forest.{times, first_in, last_in, parent_of, next_of}
use Rattle.edit_model.proofs.DomModel.Links.{parent_count}
use Rattle.edit_model.specs.State.{State}
use Rattle.edit_model.specs.Compositions.{set_tag_name}
use Rattle.edit_model.specs.Valid.{IsValid}
use Rattle.edit_model.specs.Run.{final, value, ◌>>=◌, answer, while_at_most}
use Rattle.edit_model.proofs.Steps.{final-answer, final-look, value-answer, value-bind, value-look, final_next}
use Rattle.edit_model.proofs.Tests.{label_is}
use Rattle.edit_laws.specs.MoveLaws.{IsBare}
use Rattle.edit_laws.specs.Order.{IsKeeping}
use Rattle.edit_laws.specs.Steady.{Steady}
use Rattle.edit_laws.proofs.Around.{self_one}
use Rattle.edit_laws.proofs.Renaming.{tag_name_keeps}
use Rattle.edit_laws.proofs.SteadyRuns.{steady_parts}
use Rattle.inline_value.specs.EditActions.Siblings.{first_parent}
use Rattle.inline_value.specs.BlockExtend.Series.{count_after, is_next}
use Rattle.inline_value.specs.WrapSplit.declared.rule.Criterion.{Criterion}
use Rattle.inline_value.specs.WrapSplit.declared.rule.Criterion.TheVariants.{Never}
use Rattle.inline_value.specs.WrapSplit.declared.rule.Recipe.{Recipe}
use Rattle.inline_value.specs.WrapSplit.declared.rule.Recipe.TheVariants.{Make}
use Rattle.inline_value.specs.WrapSplit.Walks.{turn_bound}
use Rattle.inline_value.specs.WrapSplit.Wrap.{wrap, one_of}
use Rattle.inline_value.specs.Wrappers.{bare}
use Rattle.list_indent.specs.Sublists.{is_list, is_item}
use Rattle.list_toggle.specs.Collecting.{Made, Collected, is_container, made_one, goes_on_line, wrap_line, make_item, follows, goes_on, collect_next, collect_items}
use Rattle.command_laws.proofs.Criteria.{first_part, named_bare}
use Rattle.command_laws.proofs.ListWalks.{Consecutive, alone, among, consecutive_keeps, series_consecutive}
use Rattle.command_laws.proofs.Splitting.{last_some}
use Rattle.command_laws.proofs.SteadyWraps.{steady_wrap}
use Rattle.command_laws.proofs.Widening.{Siblings, member}
use Rattle.command_laws.proofs.Growing.{Grown, together_none, together_one, together_next, next_parent, child_parted, only}
use Rattle.command_laws.proofs.ItemTurns.{Turn, kept_grown, renamed_grown}
use Rattle.command_laws.proofs.ItemWraps.{wrapped_grown}
use Rattle.command_laws.proofs.SublistRuns.{Ends, ends_answer, ends_look, ends_bind}

-- ---- a turn

-- the items with what a turn made are together
pub Grew : List ℕ → State → Option ℕ → Type 0
Grew items t made = (q : ℕ) × (n : ℕ) × Grown t (items ++ one_of made) q n

fresh_grown : (s : State) → IsValid s → (q : ℕ) → Grown s [] q s.next
fresh_grown s is q = record {
  together = together_none s;
  below = omega arith;
  above = λ r up. is.forest.below r (parent_count s.trees q r is.forest.distinct up).1;
  apart = λ l r h up. absurd (omega (arith, h));
  last = λ z r e up. absurd (let k : None ≡ Some z = e in cc);
}

-- one node without a parent
root_grown : (s : State) → IsValid s → (x : ℕ) → x < s.next → parent_of s.trees x ≡ None → Grown s (x ∷ []) 0 s.next
root_grown s is x known root = record {
  together = together_one s is x known;
  below = omega arith;
  above = λ r up. is.forest.below r (parent_count s.trees 0 r is.forest.distinct up).1;
  apart = λ l r h up. absurd (let k : None ≡ Some r = sym root ∙ (ap (parent_of s.trees) (only x l h) ∙ up) in cc);
  last = λ z r e up. absurd (
      let same : x ≡ z = (let k : Some x ≡ Some z = e in let k' = k in cc) in
      let k : None ≡ Some r = sym root ∙ (ap (parent_of s.trees) same ∙ up) in
      cc);
}

-- the node that comes next stands under the parent of the items, or there are none yet and it has no parent
data Next (s : State) (items : List ℕ) (x : ℕ) : Type 0 where
  rooted : items ≡ [] → parent_of s.trees x ≡ None → Next s items x
  turned : (q n : ℕ) → Turn s items x q n → Next s items x

no_last : (items : List ℕ) → last_in items ≡ None → items ≡ []
no_last [] e = refl
no_last (x ∷ xs) e = absurd (let z = last_some None x xs in let k : None ≡ Some z.0 = sym e ∙ z.1 in cc)

next_of_items : (s : State) → IsValid s → (items : List ℕ) (x q n : ℕ) → Grown s items q n → x < s.next → follows s (last_in items) (Some x) ≡ true → Next s items x
unfolding is_next
next_of_items s is items x q n g known goes = by_last (last_in items) refl goes
  where
    by_parent : items ≡ [] → (p : Option ℕ) → parent_of s.trees x ≡ p → Next s items x
    by_parent none None root = rooted none root
    by_parent none (Some r) up = subst (λ l. Next s l x) (sym none) (turned r s.next (record { is = is; grown = fresh_grown s is r; up = up; with = together_one s is x known }))

    by_last : (o : Option ℕ) → last_in items ≡ o → follows s o (Some x) ≡ true → Next s items x
    by_last None e h = by_parent (no_last items e) (parent_of s.trees x) refl
    by_last (Some z) e h =
        let next : next_of s.trees z ≡ Some x = label_is (next_of s.trees z) x h in
        let p = next_parent s is z x next in
        let same : p.0 ≡ q = g.last z p.0 e p.1 in
        turned q n (record { is = is; grown = g; up = p.2 ∙ ap Some same; with = together_next s is items z x e next g.together })

container_bare : (s : State) (l : ℕ) → is_container s l ≡ true → IsBare s l
unfolding is_container
container_bare s l h = by (has_name s.trees l (codes "p")) refl h
  where
    by : (v : Bool) → has_name s.trees l (codes "p") ≡ v → (v || has_name s.trees l (codes "div")) ≡ true → IsBare s l
    by true e k = named_bare s l (codes "p") refl e
    by false e k = named_bare s l (codes "div") refl k

next_on_line : (s : State) (y z : ℕ) → goes_on_line s y z ≡ true → next_of s.trees y ≡ Some z
unfolding goes_on_line is_next
next_on_line s y z h = label_is (next_of s.trees y) z (first_part (is_next s.trees y z) _ h)

-- a node without a parent keeps its name
rootless : (x : ℕ) (s : State) → parent_of s.trees x ≡ None → (final (set_tag_name x (codes "li")) s ≡ s) × (value (set_tag_name x (codes "li")) s ≡ x)
unfolding set_tag_name
rootless x s root = (rw (final-look, root, final-answer) refl, rw (value-look, root, value-answer) refl)

tail_of : List ℕ → List ℕ
tail_of [] = []
tail_of (x ∷ xs) = xs

single_root : (s : State) (x : ℕ) (line : List ℕ) → parent_of s.trees x ≡ None → line ≡ [] → first_parent s (x ∷ line) ≡ None
unfolding first_parent
single_root s x line root empty = rw (root, empty) refl

-- a series of siblings that has no parent has no place for a wrap
nothing_wrapped : (c : Criterion) (r : Recipe) (list : List ℕ) (s : State) → first_parent s list ≡ None → (final (wrap c r list) s ≡ s) × (value (wrap c r list) s ≡ None)
unfolding wrap
nothing_wrapped c r list s none = (rw (final-look, none, final-answer) refl, rw (value-look, none, value-answer) refl)

module _ (s : State) (is : IsKeeping s) (items : List ℕ) (x : ℕ) (known : x < s.next) (next : Next s items x) where
  -- what the turn answers
  Told : State → Made → Type 0
  Told t made = Grew items t made.0

  keeps_one : (list : List ℕ) → Ends s Told (made_one list x)
  unfolding Told Grew
  keeps_one list = ends_answer (λ t made. Grew items t made.0) (Some x, drop 1 list) s (by next)
    where
      by : Next s items x → (q : ℕ) × (n : ℕ) × Grown s (items ++ x ∷ []) q n
      by (rooted none root) = (0, s.next, subst (λ l. Grown s (l ++ x ∷ []) 0 s.next) (sym none) (root_grown s is.valid x known root))
      by (turned q n w) = (q, n, kept_grown s items x q n w)

  renames : (list : List ℕ) → is_container s x ≡ true → Ends s Told (set_tag_name x (codes "li") >>= made_one list)
  unfolding is_container Told Grew
  renames list container =
      ends_bind (λ t y. (q : ℕ) × (n : ℕ) × Grown t (items ++ y ∷ []) q n) (λ t made. (q : ℕ) × (n : ℕ) × Grown t (items ++ one_of made.0) q n) (set_tag_name x (codes "li")) (made_one list) s is
      (record { order = tag_name_keeps x (codes "li") s is (container_bare s x container) refl; holds = by next })
      (λ t is_t y h. ends_answer (λ t made. (q : ℕ) × (n : ℕ) × Grown t (items ++ one_of made.0) q n) (Some y, drop 1 list) t h)
    where
      by : Next s items x → (q : ℕ) × (n : ℕ) × Grown (final (set_tag_name x (codes "li")) s) (items ++ value (set_tag_name x (codes "li")) s ∷ []) q n
      by (rooted none root) = let r = rootless x s root in rw (r.0, r.1) (0, s.next, subst (λ l. Grown s (l ++ x ∷ []) 0 s.next) (sym none) (root_grown s is.valid x known root))
      by (turned q n w) = (q, n, renamed_grown s items x q n w container)

  wraps : (rest line : List ℕ) → Consecutive s (x ∷ line) → Ends s Told (wrap Never (Make (bare (codes "li"))) (x ∷ line) >>= (λ item. answer (item, rest)))
  unfolding Told Grew tail_of
  wraps rest line series =
      ends_bind (λ t y. (q : ℕ) × (n : ℕ) × Grown t (items ++ one_of y) q n) (λ t made. (q : ℕ) × (n : ℕ) × Grown t (items ++ one_of made.0) q n) (wrap Never (Make (bare (codes "li"))) (x ∷ line)) (λ item. answer (item, rest)) s is
      (record { order = consecutive_keeps Never (Make (bare (codes "li"))) tt refl s is (x ∷ line) series; holds = by next series })
      (λ t is_t y h. ends_answer (λ t made. (q : ℕ) × (n : ℕ) × Grown t (items ++ one_of made.0) q n) (y, rest) t h)
    where
      unchanged : first_parent s (x ∷ line) ≡ None → (q n : ℕ) → Grown s items q n → (q : ℕ) × (n : ℕ) × Grown (final (wrap Never (Make (bare (codes "li"))) (x ∷ line)) s) (items ++ one_of (value (wrap Never (Make (bare (codes "li"))) (x ∷ line)) s)) q n
      unchanged none q n g =
          let w = nothing_wrapped Never (Make (bare (codes "li"))) (x ∷ line) s none in
          rw (w.0, w.1) (q, n, subst (λ l. Grown s l q n) (sym (append-nil items)) g)

      siblings_of : (q : ℕ) → parent_of s.trees x ≡ Some q → Consecutive s (x ∷ line) → Siblings s q (x ∷ line)
      siblings_of q up (alone y e) =
          let p = child_parted s is.valid x q up in
          let same : x ≡ y = (let k : Some x ≡ Some y = ap first_in e in let k' = k in cc) in
          subst (λ l. Siblings s q l) (ap (λ m. m ∷ []) same ∙ sym e) (record { front = p.0; rest = p.1; is = p.2 })
      siblings_of q up (among o w) =
          let own : parent_of s.trees x ≡ Some o = member s is.valid o w.front (x ∷ line) w.rest w.is x (omega (arith, self_one x)) in
          let same : o ≡ q = (let k : Some o ≡ Some q = sym own ∙ up in let k' = k in cc) in
          subst (λ r. Siblings s r (x ∷ line)) same w

      no_parent : parent_of s.trees x ≡ None → Consecutive s (x ∷ line) → first_parent s (x ∷ line) ≡ None
      no_parent root (alone y e) = single_root s x line root (ap tail_of e)
      no_parent root (among o w) = absurd (let k : None ≡ Some o = sym root ∙ member s is.valid o w.front (x ∷ line) w.rest w.is x (omega (arith, self_one x)) in cc)

      by : Next s items x → Consecutive s (x ∷ line) → (q : ℕ) × (n : ℕ) × Grown (final (wrap Never (Make (bare (codes "li"))) (x ∷ line)) s) (items ++ one_of (value (wrap Never (Make (bare (codes "li"))) (x ∷ line)) s)) q n
      by (rooted none root) k = unchanged (no_parent root k) 0 s.next (subst (λ l. Grown s l 0 s.next) (sym none) (fresh_grown s is.valid 0))
      by (turned q n w) k = (q, n, wrapped_grown s items x q n w line (siblings_of q w.up k))

  turn_ends : (xs : List ℕ) → Ends s Told (make_item (x ∷ xs) x)
  unfolding make_item wrap_line Told Grew
  turn_ends xs = ends_look (λ t made. (q : ℕ) × (n : ℕ) × Grown t (items ++ one_of made.0) q n) _ s (by_container (is_container s x) refl)
    where
      by_item : (v : Bool) → Ends s (λ t made. (q : ℕ) × (n : ℕ) × Grown t (items ++ one_of made.0) q n) (if v then made_one (x ∷ xs) x else wrap_line (x ∷ xs))
      by_item true = keeps_one (x ∷ xs)
      by_item false =
          let on = goes_on_line s in
          let k = count_after on x xs in
          ends_look (λ t made. (q : ℕ) × (n : ℕ) × Grown t (items ++ one_of made.0) q n) _ s
          (rw (add-one) (wraps (drop k xs) (take k xs) (series_consecutive s is.valid on (λ y z h. next_on_line s y z h) x xs)))

      by_container : (v : Bool) → is_container s x ≡ v → Ends s (λ t made. (q : ℕ) × (n : ℕ) × Grown t (items ++ one_of made.0) q n) (if v then (set_tag_name x (codes "li") >>= made_one (x ∷ xs)) else (if is_item s x || is_list s x then made_one (x ∷ xs) x else wrap_line (x ∷ xs)))
      by_container true e = renames (x ∷ xs) e
      by_container false e = by_item (is_item s x || is_list s x)

-- ---- the loop

pub record Items (s : State) (c : Collected) : Type 0 where
  pub q : ℕ
  pub n : ℕ
  pub grown : Grown s c.0 q n
  pub known : (l : ℕ) → 0 < times c.1 l → l < s.next

times-drop : (k : ℕ) (xs : List ℕ) (l : ℕ) → times (drop k xs) l ≤ times xs l
times-drop zero xs l = omega arith
times-drop (suc k) [] l = omega arith
times-drop (suc k) (x ∷ xs) l = omega (arith, times-drop k xs l)

-- what is left is of the list
few_left : (list : List ℕ) (x : ℕ) (s : State) (l : ℕ) → times (value (make_item list x) s).1 l ≤ times list l
unfolding make_item wrap_line
few_left list x s l = rw value-look (by (is_container s x) (is_item s x || is_list s x))
  where
    by : (v w : Bool) → times (value (if v then (set_tag_name x (codes "li") >>= made_one list) else (if w then made_one list x else wrap_line list)) s).1 l ≤ times list l
    by true w = rw (value-bind, value-answer) (times-drop 1 list l)
    by false true = rw value-answer (times-drop 1 list l)
    by false false = rw (value-look, value-bind, value-answer) (times-drop _ list l)

next_ends : (s : State) → IsKeeping s → (c : Collected) → Items s c → goes_on s c ≡ true → Ends s Items (collect_next c)
unfolding collect_next goes_on Told Grew
next_ends s is (items, []) w goes = absurd (no_more (last_in items) goes)
  where
    no_more : (o : Option ℕ) → follows s o None ≡ true → ⊥
    no_more None h = true≢false (sym h)
    no_more (Some z) h = true≢false (sym h)
next_ends s is (items, x ∷ xs) w goes =
    let known : x < s.next = w.known x (omega (arith, self_one x)) in
    let turn = turn_ends s is items x known (next_of_items s is.valid items x w.q w.n w.grown known goes) xs in
    ends_bind (λ t made. Grew items t made.0 × ((l : ℕ) → times made.1 l ≤ times (x ∷ xs) l) × (s.next ≤ t.next)) Items (make_item (x ∷ xs) x) (λ made. answer (items ++ one_of made.0, made.1)) s is
    (record { order = turn.order; holds = (turn.holds, few_left (x ∷ xs) x s, final_next (make_item (x ∷ xs) x) s) })
    (λ t is_t made h. ends_answer Items (items ++ one_of made.0, made.1) t
    (record { q = h.0.0; n = h.0.1; grown = h.0.2; known = λ l k. omega (arith, w.known l (omega (arith, k, h.1 l)), h.2) }))

collect_turns : (bound : ℕ) (s : State) → IsKeeping s → (c : Collected) → Items s c → Ends s Items (while_at_most bound goes_on collect_next c)
unfolding while_at_most
collect_turns zero s is c w = ends_answer Items c s w
collect_turns (suc bound) s is c w = ends_look Items _ s (by_test (goes_on s c) refl (λ t is_t d v. collect_turns bound t is_t d v))
  where
    by_test : (v : Bool) → goes_on s c ≡ v → ((t : State) → IsKeeping t → (d : Collected) → Items t d → Ends t Items (while_at_most bound goes_on collect_next d)) → Ends s Items (if v then (collect_next c >>= while_at_most bound goes_on collect_next) else answer c)
    by_test true e more = ends_bind Items Items (collect_next c) (while_at_most bound goes_on collect_next) s is (next_ends s is c w e) more
    by_test false e more = ends_answer Items c s w

pub collect_ends : (s : State) → IsKeeping s → (list : List ℕ) → ((l : ℕ) → 0 < times list l → l < s.next) → Ends s Items (collect_items list)
unfolding collect_items
collect_ends s is list known = ends_look Items _ s (collect_turns (turn_bound s) s is ([], list) (record { q = 0; n = s.next; grown = fresh_grown s is.valid 0; known = known }))

-- ---- the states of contenteditable

steady_wrap_line : (list : List ℕ) → Steady (wrap_line list)
unfolding wrap_line
steady_wrap_line list = search (steady_parts, steady_wrap Never (Make (bare (codes "li"))) refl)

steady_make_item : (list : List ℕ) (x : ℕ) → Steady (make_item list x)
unfolding make_item
steady_make_item list x = search (steady_parts, steady_wrap_line) depth 8

steady_collect_next : (c : Collected) → Steady (collect_next c)
unfolding collect_next
steady_collect_next c = search (steady_parts, steady_make_item)

pub steady_collect : (list : List ℕ) → Steady (collect_items list)
unfolding collect_items
steady_collect list = search (steady_parts, steady_collect_next)
