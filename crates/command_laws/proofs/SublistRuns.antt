-- Normalizing sublists keeps the order, and leaves the states of contenteditable: what leaves an item goes to just after it, or
-- to the front of the item that follows it.
use Rattle.std.proofs.Common.{◌≡◌, ℕ, zero, suc, Bool, true, false, if◌then◌else◌, [], ◌∷◌, Option, Some, None, refl, ap, subst, ◌∙◌}
use Rattle.std.specs.Prelude.{codes}
use Rattle.edit_model.specs.DomModel.Forest.{last_in, last_of}
use Rattle.edit_model.specs.State.{State}
use Rattle.edit_model.specs.Moves.{move_after, move_first, move_all_after}
use Rattle.edit_model.specs.Run.{Run, final, value, ◌>>=◌, ◌>>◌, answer, done, look, given, while_at_most, for_each, make_element}
use Rattle.edit_model.proofs.Steps.{final-bind, final-answer, final-look, final-make_element, value-bind, value-answer, value-look, value-make_element, for_each-cons, for_each-nil}
use Rattle.edit_laws.specs.Order.{KeepsOrder, IsKeeping}
use Rattle.edit_laws.specs.Steady.{Steady}
use Rattle.edit_laws.specs.OrderPreserving.{OrderPreserving}
use Rattle.edit_laws.proofs.MoveLaws.{go_after}
use Rattle.edit_laws.proofs.QuietActions.{keeping_final}
use Rattle.edit_laws.proofs.SteadyRuns.{steady_parts, steady_make_element}
use Rattle.edit_laws.proofs.Subsequences.{keeps_refl, keeps_trans}
use Rattle.edit_laws.proofs.OrderPreserving.{order_preserving_answer}
use Rattle.inline_value.specs.WrapSplit.Walks.{turn_bound}
use Rattle.list_indent.specs.Sublists.{has_sublist, leaves, make_follower, follower_of, handed_on, part_last, is_normalizable, normalize_sublists}
use Rattle.command_laws.proofs.Followers.{Follows, goes_on, stands_after}
use Rattle.command_laws.proofs.Splitting.{then_order_preserving}
use Rattle.command_laws.proofs.SteadyMoves.{steady_moves, steady_move_after, steady_move_first}
use Rattle.command_laws.proofs.Fits.{Fit, fit}
use Rattle.command_laws.proofs.Widening.{last_parted}

-- ---- what is known of the state and the answer that a run ends with

pub record Ends {A : Type 0} (s : State) (P : State → A → Type 0) (m : Run A) : Type 0 where
  pub order : KeepsOrder s (final m s)
  pub holds : P (final m s) (value m s)

pub ends_answer : {A : Type 0} (P : State → A → Type 0) (a : A) (s : State) → P s a → Ends s P (answer a)
ends_answer P a s h = record { order = rw (final-answer a s) (keeps_refl _); holds = rw (final-answer a s, value-answer a s) h }

pub ends_look : {A : Type 0} (P : State → A → Type 0) (k : State → Run A) (s : State) → Ends s P (k s) → Ends s P (look k)
ends_look P k s h = record { order = rw (final-look k s) h.order; holds = rw (final-look k s, value-look k s) h.holds }

pub ends_bind : {A B : Type 0} (Q : State → A → Type 0) (P : State → B → Type 0) (m : Run A) (k : A → Run B) (s : State) → IsKeeping s → Ends s Q m
    → ((t : State) → IsKeeping t → (a : A) → Q t a → Ends t P (k a)) → Ends s P (m >>= k)
ends_bind Q P m k s is h more =
    let g = more (final m s) (keeping_final m s is) (value m s) h.holds in
    record { order = rw (final-bind m k s) (keeps_trans h.order g.order); holds = rw (final-bind m k s, value-bind m k s) g.holds }

-- ---- a turn

module _ (item : ℕ) where
  -- the item that follows is told where there is one
  Followed : State → Option ℕ → Type 0
  Followed s None = Unit {0}
  Followed s (Some n) = Follows s item n

  one_after : (c : ℕ) (s : State) → final (for_each (c ∷ []) (move_after item)) s ≡ final (move_after item c) s
  one_after c s = rw (for_each-cons, final-bind, for_each-nil, final-answer) refl

  parts : (c : ℕ) (s : State) → IsKeeping s → last_of s.trees item ≡ Some c → Ends s Followed (move_after item c >> answer None)
  unfolding move_all_after Followed
  parts c s is last =
      let l = last_parted _ c last in
      let goes : KeepsOrder s (final (move_after item c) s) = subst (λ t. KeepsOrder s t) (one_after c s) (go_after s is l.0 (c ∷ []) item l.1) in
      ends_bind (λ _ _. Unit {0}) Followed (move_after item c) (λ _. answer None) s is (record { order = goes; holds = tt }) (λ t _ _ _. ends_answer Followed None t tt)

  -- an item that the child c may go to
  Ready : ℕ → State → ℕ → Type 0
  Ready c s n = (last_of s.trees item ≡ Some c) × Follows s item n

  new_ready : (c : ℕ) (s : State) → IsKeeping s → last_of s.trees item ≡ Some c → Ends s (Ready c) (make_follower item)
  unfolding make_follower Ready
  new_ready c s is last =
      let w = stands_after s is (codes "li") refl item in
      record {
        order = rw (final-bind, final-make_element, value-make_element, final-bind, final-answer) w.0;
        holds = rw (final-bind, final-make_element, value-make_element, final-bind, final-answer, value-bind, value-make_element, final-make_element, value-bind, value-answer) (ap last_in w.1.1 ∙ last, w.1.0);
      }

  ready : (c : ℕ) (s : State) → IsKeeping s → last_of s.trees item ≡ Some c → (follower : Option ℕ) → Followed s follower → Ends s (Ready c) (follower_of item follower)
  unfolding follower_of Followed Ready
  ready c s is last None h = new_ready c s is last
  ready c s is last (Some n) h = ends_answer (Ready c) n s (last, h)

  hands : (c : ℕ) (t : State) → IsKeeping t → (n : ℕ) → Ready c t n → Ends t Followed (handed_on c n)
  unfolding handed_on Ready Followed
  hands c t is n h =
      let w = goes_on t is item n c h.0 h.1 in
      ends_bind (λ u _. Follows u item n) Followed (move_first n c) (λ _. answer (Some n)) t is (record { order = w.0; holds = w.1 }) (λ u _ _ k. ends_answer Followed (Some n) u k)

  parted : (c : ℕ) (s : State) → IsKeeping s → last_of s.trees item ≡ Some c → (follower : Option ℕ) → Followed s follower → (v : Bool)
      → Ends s Followed (if v then (move_after item c >> answer None) else (follower_of item follower >>= handed_on c))
  parted c s is last follower h true = parts c s is last
  parted c s is last follower h false = ends_bind (Ready c) Followed (follower_of item follower) (handed_on c) s is (ready c s is last follower h) (λ t is_t n k. hands c t is_t n k)

  turn : (s : State) → IsKeeping s → (follower : Option ℕ) → Followed s follower → Ends s Followed (part_last item follower)
  unfolding part_last
  turn s is follower h = ends_look Followed _ s (by_last (last_of s.trees item) refl)
    where
      by_last : (o : Option ℕ) → last_of s.trees item ≡ o
          → Ends s Followed (given o (answer follower) (λ c. if leaves s follower c then (move_after item c >> answer None) else (follower_of item follower >>= handed_on c)))
      by_last None e = ends_answer Followed follower s h
      by_last (Some c) e = parted c s is e follower h (leaves s follower c)

  turns : (bound : ℕ) (s : State) → IsKeeping s → (follower : Option ℕ) → Followed s follower → KeepsOrder s (final (while_at_most bound (has_sublist item) (part_last item) follower) s)
  unfolding while_at_most
  turns zero s is follower h = (order_preserving_answer follower).keeps s is
  turns (suc n) s is follower h =
      let w = turn s is follower h in
      let m = part_last item follower in
      rw final-look (by_test (has_sublist item s follower) (keeps_trans w.order (turns n (final m s) (keeping_final m s is) (value m s) w.holds)))
    where
      more : Run (Option ℕ)
      more = part_last item follower >>= while_at_most n (has_sublist item) (part_last item)

      by_test : (v : Bool) → KeepsOrder s (final (while_at_most n (has_sublist item) (part_last item) (value (part_last item follower) s)) (final (part_last item follower) s))
          → KeepsOrder s (final (if v then more else answer follower) s)
      by_test true rest = rw final-bind rest
      by_test false rest = (order_preserving_answer follower).keeps s is

  whole : (s : State) → IsKeeping s → (v : Bool) → KeepsOrder s (final (if v then (while_at_most (turn_bound s) (has_sublist item) (part_last item) None >> done) else done) s)
  unfolding Followed
  whole s is true = then_order_preserving _ _ s is (turns _ s is None tt) (order_preserving_answer tt)
  whole s is false = (order_preserving_answer tt).keeps s is

  order_preserving_sublists : OrderPreserving (normalize_sublists item)
  unfolding normalize_sublists
  order_preserving_sublists = record { keeps = λ s is. rw final-look (whole s is (is_normalizable s item)) }

-- ---- the states of contenteditable

steady_leaves : (item c : ℕ) → Steady {T = Option ℕ} (move_after item c >> answer None)
steady_leaves item c = search (steady_parts, steady_move_after)

steady_new : Steady (make_element (codes "li") [])
steady_new = steady_make_element (codes "li") [] refl

steady_follower : (item : ℕ) (follower : Option ℕ) → Steady (follower_of item follower)
unfolding follower_of make_follower
steady_follower item follower = search (steady_parts, steady_moves, steady_new)

steady_handed : (c n : ℕ) → Steady (handed_on c n)
unfolding handed_on
steady_handed c n = search (steady_parts, steady_move_first)

steady_last : (item : ℕ) (follower : Option ℕ) → Steady (part_last item follower)
unfolding part_last
steady_last item follower = search (steady_parts, steady_leaves, steady_follower, steady_handed) depth 8

steady_sublists : (item : ℕ) → Steady (normalize_sublists item)
unfolding normalize_sublists
steady_sublists item = search (steady_parts, steady_last) depth 8

-- ---- both

pub fit_normalize : (n : ℕ) → Fit (normalize_sublists n)
fit_normalize n = fit (order_preserving_sublists n) (steady_sublists n)
