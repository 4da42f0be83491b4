-- Runs that leave the points in the host, by their parts: those of which no action places a point by itself, and those in which
-- each point that is placed is near.
use Rattle.std.proofs.Common.{◌≡◌, ◌≢◌, ℕ, zero, suc, ◌+◌, ◌≤◌, Bool, true, false, if◌then◌else◌, List, [], ◌∷◌, Option, Some, None, IfSome, refl, arith}
use Rattle.edit_model.specs.DomModel.declared.Content.{Content}
use Rattle.edit_model.specs.DomModel.declared.attributes.Attribute.{Attribute}
use Rattle.edit_model.specs.DomModel.Forest.{Forest, parent_of}
use Rattle.edit_model.specs.LiveRange.declared.places.Pair.{Pair}
use Rattle.edit_model.specs.State.{State}
use Rattle.edit_model.specs.Edit.{Edit}
use Rattle.edit_model.specs.Action as action
use Rattle.edit_model.specs.Action.{Action, acted}
use Rattle.edit_model.specs.Compositions.{points_sent, split_under, split_words}
use Rattle.edit_model.specs.Run.{Reaches, here, onward, Run, final, value, ◌>>=◌, ◌>>◌, act, answer, done, look, given, for_each, while_at_most, edit, make_element, make_words, perform, send, grow}
use Rattle.edit_model.proofs.Each.{Each, EachOn, each_bind, each_answer, each_look, each_if, each_given, each_for_each, each_while, each_act, each_edit, each_make_element, each_make_words, each_perform}
use Rattle.edit_laws.specs.InHost.{IsNear, IsInHost, IsCalm, StaysInHost}
use Rattle.edit_laws.proofs.Nearness.{IsNearing, stands_acted, near_drawn, drawn_other}

-- ---- runs of calm actions

abbrev Calming : Action → State → Type 0
Calming a s = IsCalm a

pub record Calm {T : Type 0} (m : Run T) : Type 0 where
  pub each : Each Calming m

pub calm_answer : {A : Type 0} (a : A) → Calm (answer a)
calm_answer a = record { each = each_answer Calming a }

pub calm_bind : {A B : Type 0} (m : Run A) (k : A → Run B) → Calm m → ((a : A) → Calm (k a)) → Calm (m >>= k)
calm_bind m k h g = record { each = each_bind Calming m k h.each (λ a. (g a).each) }

pub calm_look : {A : Type 0} (k : State → Run A) → ((s : State) → Calm (k s)) → Calm (look k)
calm_look k h = record { each = each_look Calming k (λ s _. (h s).each) }

pub calm_if : {A : Type 0} (b : Bool) (m n : Run A) → Calm m → Calm n → Calm (if b then m else n)
calm_if b m n h g = record { each = each_if Calming b m n h.each g.each }

pub calm_given : {A B : Type 0} (o : Option A) (n : Run B) (f : A → Run B) → Calm n → ((a : A) → Calm (f a)) → Calm (given o n f)
calm_given o n f h g = record { each = each_given Calming o n f h.each (λ a. (g a).each) }

pub calm_each : {A : Type 0} (xs : List A) (f : A → Run (Unit {0})) → ((x : A) → Calm (f x)) → Calm (for_each xs f)
calm_each xs f h = record { each = each_for_each Calming xs f (λ x. (h x).each) }

pub calm_while : {A : Type 0} (n : ℕ) (test : State → A → Bool) (body : A → Run A) (a : A) → ((a : A) → Calm (body a)) → Calm (while_at_most n test body a)
calm_while n test body a h = record { each = each_while Calming n test body a (λ x. (h x).each) }

pub calm_act : {A : Type 0} (a : Action) (tells : State → A) → IsCalm a → Calm (act a tells)
calm_act a tells h = record { each = each_act Calming a tells (λ s is. h) }

pub calm_edit : (e : Edit) → Calm (edit e)
calm_edit e = record { each = each_edit Calming e (λ s is. tt) }

pub calm_make_element : (name : List ℕ) (attributes : List Attribute) → Calm (make_element name attributes)
calm_make_element name attributes = record { each = each_make_element Calming name attributes (λ s is. tt) }

pub calm_make_words : (chars : List ℕ) → Calm (make_words chars)
calm_make_words chars = record { each = each_make_words Calming chars (λ s is. tt) }

pub calm_perform : (a : Action) → IsCalm a → Calm (perform a)
calm_perform a h = record { each = each_perform Calming a (λ s is. h) }

-- with these a run is calm by its parts alone
pub ruleset calm_parts = (calm_answer, calm_bind, calm_look, calm_if, calm_given, calm_each, calm_while, calm_edit, calm_make_element, calm_make_words, calm_perform)

-- ---- runs from a state in which the points are in the host, which lead to one: with any answer, or with an answer of which
-- something holds

pub record Stays (outer : Forest Content) (h : ℕ) (kept : Bool) {T : Type 0} (m : Run T) : Type 0 where
  pub stays : (s : State) → IsInHost outer h kept s → IsInHost outer h kept (final m s)

pub record StaysWith (outer : Forest Content) (h : ℕ) (kept : Bool) {T : Type 0} (Q : T → Type 0) (m : Run T) : Type 0 where
  pub gives : (s : State) → IsInHost outer h kept s → IsInHost outer h kept (final m s) × Q (value m s)

-- a label that is near, of another node than the host
abbrev pub IsBelow : Forest Content → ℕ → ℕ → Type 0
IsBelow outer h l = IsNear outer h l × (l ≢ h)

module _ (outer : Forest Content) (h : ℕ) (kept : Bool) where
  calm_nears : (a : Action) → IsCalm a → IsNearing outer h kept a
  calm_nears (action.Select anchor focus) calm = absurd calm
  calm_nears (action.Extend focus) calm = absurd calm
  calm_nears (action.Send node at tail) calm = absurd calm
  calm_nears (action.Scratch pair) calm = absurd calm
  calm_nears (action.Change e) calm = tt
  calm_nears (action.MakeElement name attributes) calm = tt
  calm_nears (action.MakeWords chars) calm = tt
  calm_nears action.Unselect calm = tt
  calm_nears (action.Grow at) calm = tt
  calm_nears (action.Override command setting) calm = tt
  calm_nears (action.Flag flags) calm = tt
  calm_nears (action.Extract from end target) calm = tt

  calm_along : {s t : State} (r : Reaches s t) → EachOn Calming r → IsInHost outer h kept s → IsInHost outer h kept t
  calm_along here calm is = is
  calm_along (onward {t = t} q a) calm is = stands_acted outer h kept t (calm_along q calm.0 is) a (calm_nears a calm.1)

  pub stays_calm : {T : Type 0} (m : Run T) → Calm m → Stays outer h kept m
  unfolding final
  stays_calm m calm = record { stays = λ s is. calm_along (m.by_actions s) (calm.each.on s is.valid) is }

  -- ---- by parts

  pub stays_answer : {A : Type 0} (a : A) → Stays outer h kept (answer a)
  unfolding answer final
  stays_answer a = record { stays = λ s is. is }

  pub stays_bind : {A B : Type 0} (m : Run A) (k : A → Run B) → Stays outer h kept m → ((a : A) → Stays outer h kept (k a)) → Stays outer h kept (m >>= k)
  unfolding ◌>>=◌ final value
  stays_bind m k first next = record { stays = λ s is. (next (value m s)).stays (final m s) (first.stays s is) }

  pub stays_look : {A : Type 0} (k : State → Run A) → ((s : State) → IsInHost outer h kept s → Stays outer h kept (k s)) → Stays outer h kept (look k)
  unfolding look final
  stays_look k each = record { stays = λ s is. (each s is).stays s is }

  -- the same where the state in which it looks matters
  pub stays_here : {A : Type 0} (k : State → Run A) → ((s : State) → IsInHost outer h kept s → IsInHost outer h kept (final (k s) s)) → Stays outer h kept (look k)
  unfolding look final
  stays_here k each = record { stays = λ s is. each s is }

  -- the same where nothing is asked of the state
  pub stays_look_at : {A : Type 0} (k : State → Run A) → ((s : State) → Stays outer h kept (k s)) → Stays outer h kept (look k)
  stays_look_at k each = stays_look k (λ s _. each s)

  pub stays_if : {A : Type 0} (b : Bool) (m n : Run A) → Stays outer h kept m → Stays outer h kept n → Stays outer h kept (if b then m else n)
  stays_if true m n on off = on
  stays_if false m n on off = off

  -- the same where the choice tells something
  pub stays_choice : {A : Type 0} (b : Bool) (m n : Run A) → (b ≡ true → Stays outer h kept m) → (b ≡ false → Stays outer h kept n) → Stays outer h kept (if b then m else n)
  stays_choice true m n on off = on refl
  stays_choice false m n on off = off refl

  pub stays_given : {A B : Type 0} (o : Option A) (n : Run B) (f : A → Run B) → Stays outer h kept n → ((a : A) → Stays outer h kept (f a)) → Stays outer h kept (given o n f)
  stays_given None n f none some = none
  stays_given (Some a) n f none some = some a

  -- the same where something holds of what there is
  pub stays_known : {A B : Type 0} (P : A → Type 0) (o : Option A) (n : Run B) (f : A → Run B) → IfSome o P → Stays outer h kept n → ((a : A) → P a → Stays outer h kept (f a)) → Stays outer h kept (given o n f)
  stays_known P None n f known none some = none
  stays_known P (Some a) n f known none some = some a known

  pub stays_each : {A : Type 0} (xs : List A) (f : A → Run (Unit {0})) → ((x : A) → Stays outer h kept (f x)) → Stays outer h kept (for_each xs f)
  unfolding for_each
  stays_each [] f each = stays_answer tt
  stays_each (x ∷ xs) f each = stays_bind (f x) (λ _. for_each xs f) (each x) (λ _. stays_each xs f each)

  pub stays_while : {A : Type 0} (n : ℕ) (test : State → A → Bool) (body : A → Run A) (a : A) → ((a : A) → Stays outer h kept (body a)) → Stays outer h kept (while_at_most n test body a)
  unfolding while_at_most
  stays_while zero test body a each = stays_answer a
  stays_while (suc n) test body a each =
      stays_look_at (λ s. if test s a then (body a >>= while_at_most n test body) else answer a)
      (λ s. stays_if (test s a) (body a >>= while_at_most n test body) (answer a) (stays_bind (body a) (while_at_most n test body) (each a) (λ b. stays_while n test body b each)) (stays_answer a))

  pub stays_act : {A : Type 0} (a : Action) (tells : State → A) → IsNearing outer h kept a → Stays outer h kept (act a tells)
  unfolding act final
  stays_act a tells near = record { stays = λ s is. stands_acted outer h kept s is a near }

  pub stays_perform : (a : Action) → IsNearing outer h kept a → Stays outer h kept (perform a)
  unfolding perform act final
  stays_perform a near = record { stays = λ s is. stands_acted outer h kept s is a near }

  -- ---- with an answer

  pub gives_stays : {A : Type 0} (Q : A → Type 0) (m : Run A) → StaysWith outer h kept Q m → Stays outer h kept m
  gives_stays Q m given = record { stays = λ s is. (given.gives s is).0 }

  pub gives_answer : {A : Type 0} (Q : A → Type 0) (a : A) → Q a → StaysWith outer h kept Q (answer a)
  unfolding answer final value
  gives_answer Q a holds = record { gives = λ s is. (is, holds) }

  pub gives_bind : {A B : Type 0} (Q : A → Type 0) (R : B → Type 0) (m : Run A) (k : A → Run B) → StaysWith outer h kept Q m → ((a : A) → Q a → StaysWith outer h kept R (k a)) → StaysWith outer h kept R (m >>= k)
  unfolding ◌>>=◌ final value
  gives_bind Q R m k first next = record { gives = λ s is. (let x = first.gives s is in (next (value m s) x.1).gives (final m s) x.0) }

  -- where what goes before tells nothing
  pub gives_after : {A B : Type 0} (R : B → Type 0) (m : Run A) (k : A → Run B) → Stays outer h kept m → ((a : A) → StaysWith outer h kept R (k a)) → StaysWith outer h kept R (m >>= k)
  unfolding ◌>>=◌ final value
  gives_after R m k first next = record { gives = λ s is. (next (value m s)).gives (final m s) (first.stays s is) }

  pub stays_from : {A B : Type 0} (Q : A → Type 0) (m : Run A) (k : A → Run B) → StaysWith outer h kept Q m → ((a : A) → Q a → Stays outer h kept (k a)) → Stays outer h kept (m >>= k)
  unfolding ◌>>=◌ final value
  stays_from Q m k first next = record { stays = λ s is. (let x = first.gives s is in (next (value m s) x.1).stays (final m s) x.0) }

  pub gives_look : {A : Type 0} (Q : A → Type 0) (k : State → Run A) → ((s : State) → IsInHost outer h kept s → StaysWith outer h kept Q (k s)) → StaysWith outer h kept Q (look k)
  unfolding look final value
  gives_look Q k each = record { gives = λ s is. (each s is).gives s is }

  pub gives_if : {A : Type 0} (Q : A → Type 0) (b : Bool) (m n : Run A) → StaysWith outer h kept Q m → StaysWith outer h kept Q n → StaysWith outer h kept Q (if b then m else n)
  gives_if Q true m n on off = on
  gives_if Q false m n on off = off

  pub gives_given : {A B : Type 0} (Q : B → Type 0) (o : Option A) (n : Run B) (f : A → Run B) → StaysWith outer h kept Q n → ((a : A) → StaysWith outer h kept Q (f a)) → StaysWith outer h kept Q (given o n f)
  gives_given Q None n f none some = none
  gives_given Q (Some a) n f none some = some a

  pub gives_known : {A B : Type 0} (P : A → Type 0) (Q : B → Type 0) (o : Option A) (n : Run B) (f : A → Run B) → IfSome o P → StaysWith outer h kept Q n → ((a : A) → P a → StaysWith outer h kept Q (f a)) → StaysWith outer h kept Q (given o n f)
  gives_known P Q None n f known none some = none
  gives_known P Q (Some a) n f known none some = some a known

  pub gives_while : {A : Type 0} (Q : A → Type 0) (n : ℕ) (test : State → A → Bool) (body : A → Run A) (a : A) → ((a : A) → Q a → StaysWith outer h kept Q (body a)) → Q a → StaysWith outer h kept Q (while_at_most n test body a)
  unfolding while_at_most
  gives_while Q zero test body a each holds = gives_answer Q a holds
  gives_while Q (suc n) test body a each holds =
      gives_look Q (λ s. if test s a then (body a >>= while_at_most n test body) else answer a)
      (λ s _. gives_if Q (test s a) (body a >>= while_at_most n test body) (answer a) (gives_bind Q Q (body a) (while_at_most n test body) (each a holds) (λ b holds'. gives_while Q n test body b each holds')) (gives_answer Q a holds))

  -- ---- nodes that are made

  drawn_next : (s : State) → IsInHost outer h kept s → IsBelow outer h s.next
  drawn_next s is = let started = is.valid.started in (near_drawn outer h kept s is s.next started, drawn_other outer h kept s is s.next started)

  pub gives_element : (name : List ℕ) (attributes : List Attribute) → StaysWith outer h kept (IsBelow outer h) (make_element name attributes)
  unfolding make_element act final value
  gives_element name attributes = record {
    gives = λ s is. (stands_acted outer h kept s is (action.MakeElement name attributes) tt, drawn_next s is);
  }

  pub gives_words : (chars : List ℕ) → StaysWith outer h kept (IsBelow outer h) (make_words chars)
  unfolding make_words act final value
  gives_words chars = record {
    gives = λ s is. (stands_acted outer h kept s is (action.MakeWords chars) tt, drawn_next s is);
  }

  -- ---- splitting a text

  sent_near : (p i n at tail : ℕ) (inserted : Bool) → IsNear outer h tail → Stays outer h kept (points_sent p i n at tail inserted)
  unfolding points_sent
  sent_near p i n at tail inserted near =
      stays_if inserted (send n at tail >> grow (record { label = p; offset = i + 1 })) done
      (stays_bind (send n at tail) (λ _. grow (record { label = p; offset = i + 1 })) (stays_perform (action.Send n at tail) near) (λ _. stays_perform (action.Grow (record { label = p; offset = i + 1 })) tt))
      (stays_answer tt)

  calm_edit_stays : (e : Edit) → Stays outer h kept (edit e)
  calm_edit_stays e = stays_calm (edit e) (calm_edit e)

  gives_split_under : (p : ℕ) (s : State) (n at : ℕ) → StaysWith outer h kept (IsNear outer h) (split_under p s n at)
  unfolding split_under
  gives_split_under p s n at =
      gives_bind (IsBelow outer h) (IsNear outer h) _ _ (gives_words _)
      (λ tail below. gives_after (IsNear outer h) _ _ (calm_edit_stays _)
      (λ inserted. gives_after (IsNear outer h) _ _ (sent_near p _ n at tail inserted below.0)
      (λ _. gives_after (IsNear outer h) _ _ (calm_edit_stays _)
      (λ _. gives_answer (IsNear outer h) tail below.0))))

  pub stays_split : (n at : ℕ) → Stays outer h kept (split_words n at)
  unfolding split_words
  stays_split n at =
      stays_look_at _ (λ s. stays_given (parent_of s.trees n) (answer n) _ (stays_answer n) (λ p. gives_stays (IsNear outer h) _ (gives_split_under p s n at)))

  pub gives_split : (n at : ℕ) → IsNear outer h n → StaysWith outer h kept (IsNear outer h) (split_words n at)
  unfolding split_words
  gives_split n at near =
      gives_look (IsNear outer h) _
      (λ s _. gives_given (IsNear outer h) (parent_of s.trees n) (answer n) _ (gives_answer (IsNear outer h) n near) (λ p. gives_split_under p s n at))

-- with these a run stays by its parts alone, where no part places a point
pub ruleset stays_parts = (stays_answer, stays_bind, stays_look_at, stays_if, stays_given, stays_each, stays_while, stays_split)

-- ---- whatever lies outside

pub in_host : {T : Type 0} (kept : Bool) (m : Run T) → ((outer : Forest Content) (h : ℕ) → Stays outer h kept m) → StaysInHost kept m
in_host kept m each = record { stays = λ outer h s is. (each outer h).stays s is }

pub of_host : {T : Type 0} (kept : Bool) (m : Run T) → StaysInHost kept m → (outer : Forest Content) (h : ℕ) → Stays outer h kept m
of_host kept m all outer h = record { stays = λ s is. all.stays outer h s is }

pub host_calm : {T : Type 0} (kept : Bool) (m : Run T) → Calm m → StaysInHost kept m
host_calm kept m calm = in_host kept m (λ outer h. stays_calm outer h kept m calm)
