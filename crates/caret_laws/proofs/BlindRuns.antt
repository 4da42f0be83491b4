-- Runs that end alike whether the command keeps contents or not: splitting a text is such, so it keeps the order in any command.
use Rattle.std.proofs.Common.{◌≡◌, ℕ, ◌+◌, ◌-◌, Bool, true, false, if◌then◌else◌, List, [], length, drop, Option, Some, None, refl, sym, ap, subst, ◌∙◌}
use Rattle.edit_model.specs.DomModel.declared.Content.TheVariants.{Words}
use Rattle.edit_model.specs.DomModel.Forest.{IsWithin, parent_of, next_of, content_of}
use Rattle.edit_model.specs.DomModel.Places.{index_of}
use Rattle.edit_model.specs.LiveRange.declared.places.Point.{Point}
use Rattle.edit_model.specs.LiveRange.LivePoints.{mapped}
use Rattle.edit_model.specs.LiveRange.PointsEdit as range
use Rattle.edit_model.specs.State.{State}
use Rattle.edit_model.specs.Compositions.{characters_of, points_sent, split_under, split_words}
use Rattle.edit_model.specs.Confined.{is_editable_for, is_inside, is_made, is_open, is_own, may_insert, may_replace, may_grow, may_send}
use Rattle.edit_model.specs.Edit.{Edit, Insert, Replace, is_made_edit, trees_after, points_after, overrides_after, changed, change_of, with_change, edited}
use Rattle.edit_model.specs.Action as action
use Rattle.edit_model.specs.Action.{made, grown, sent, acted}
use Rattle.edit_model.specs.Run.{Run, ◌>>=◌, final, value, answer, look, given, make_words, perform, send, grow, insert, replace}
use Rattle.edit_model.specs.Valid.{IsValid}
use Rattle.edit_model.proofs.Steps.{final-bind, value-bind, final-answer, value-answer, final-look, value-look, final-edit, value-edit, final-make_words, value-make_words, final-perform}
use Rattle.edit_laws.specs.Order.{KeepsOrder}
use Rattle.edit_laws.proofs.Splitting.{split_keeps}

-- the same state while a command runs that keeps contents
abbrev pub kept : State → State
kept s = record s { keeping = true }

pub record Blind {T : Type 0} (m : Run T) : Type 0 where
  pub ends : (s : State) → final m (kept s) ≡ kept (final m s)
  pub tells : (s : State) → value m (kept s) ≡ value m s

blind_answer : {A : Type 0} (a : A) → Blind (answer a)
blind_answer a = record {
  ends = λ s. final-answer a (kept s) ∙ ap kept (sym (final-answer a s));
  tells = λ s. value-answer a (kept s) ∙ sym (value-answer a s);
}

blind_bind : {A B : Type 0} (m : Run A) (k : A → Run B) → Blind m → ((a : A) → Blind (k a)) → Blind (m >>= k)
blind_bind m k h g = record {
  ends = λ s.
      final-bind m k (kept s)
      ∙ (ap (λ a. final (k a) (final m (kept s))) (h.tells s)
      ∙ (ap (λ t. final (k (value m s)) t) (h.ends s)
      ∙ ((g (value m s)).ends (final m s) ∙ ap kept (sym (final-bind m k s)))));
  tells = λ s.
      value-bind m k (kept s)
      ∙ (ap (λ a. value (k a) (final m (kept s))) (h.tells s)
      ∙ (ap (λ t. value (k (value m s)) t) (h.ends s)
      ∙ ((g (value m s)).tells (final m s) ∙ sym (value-bind m k s))));
}

blind_look : {A : Type 0} (k : State → Run A) → ((s : State) → k (kept s) ≡ k s) → ((s : State) → Blind (k s)) → Blind (look k)
blind_look k same h = record {
  ends = λ s. final-look k (kept s) ∙ (ap (λ m. final m (kept s)) (same s) ∙ ((h s).ends s ∙ ap kept (sym (final-look k s))));
  tells = λ s. value-look k (kept s) ∙ (ap (λ m. value m (kept s)) (same s) ∙ ((h s).tells s ∙ sym (value-look k s)));
}

blind_if : {A : Type 0} (v : Bool) (m n : Run A) → Blind m → Blind n → Blind (if v then m else n)
blind_if true m n h g = h
blind_if false m n h g = g

blind_given : {A B : Type 0} (o : Option A) (n : Run B) (f : A → Run B) → Blind n → ((a : A) → Blind (f a)) → Blind (given o n f)
blind_given None n f h g = h
blind_given (Some a) n f h g = g a

either_kept : (v : Bool) (s t : State) → (if v then kept s else kept t) ≡ kept (if v then s else t)
either_kept true s t = refl
either_kept false s t = refl

insert_kept : (p : ℕ) (b : Option ℕ) (n : ℕ) (s : State) → edited (Insert p b n) (kept s) ≡ kept (edited (Insert p b n) s)
unfolding edited is_made_edit may_insert is_open is_inside is_editable_for is_made with_change changed overrides_after trees_after points_after change_of
insert_kept p b n s =
    let e : Edit = Insert p b n in
    either_kept (may_insert s p b n) (with_change (change_of e s.trees) (changed s (trees_after e s.trees) (points_after e s.trees s.points))) s

insert_same : (p : ℕ) (b : Option ℕ) (n : ℕ) (s : State) → is_made_edit (Insert p b n) (kept s) ≡ is_made_edit (Insert p b n) s
unfolding is_made_edit may_insert is_open is_inside is_editable_for is_made
insert_same p b n s = refl

replace_same : (n at count : ℕ) (put : List ℕ) (s : State) → is_made_edit (Replace n at count put) (kept s) ≡ is_made_edit (Replace n at count put) s
unfolding is_made_edit may_replace is_own is_editable_for is_made
replace_same n at count put s = refl

replace_kept : (n at count : ℕ) (put : List ℕ) (s : State) → edited (Replace n at count put) (kept s) ≡ kept (edited (Replace n at count put) s)
unfolding edited is_made_edit may_replace is_own is_editable_for is_made with_change changed overrides_after trees_after points_after change_of
replace_kept n at count put s =
    let e : Edit = Replace n at count put in
    either_kept (may_replace s n at count put) (with_change (change_of e s.trees) (changed s (trees_after e s.trees) (points_after e s.trees s.points))) s

blind_insert : (p : ℕ) (b : Option ℕ) (n : ℕ) → Blind (insert p b n)
blind_insert p b n = record {
  ends = λ s. final-edit (Insert p b n) (kept s) ∙ (insert_kept p b n s ∙ ap kept (sym (final-edit (Insert p b n) s)));
  tells = λ s. value-edit (Insert p b n) (kept s) ∙ (insert_same p b n s ∙ sym (value-edit (Insert p b n) s));
}

blind_replace : (n at count : ℕ) (put : List ℕ) → Blind (replace n at count put)
blind_replace n at count put = record {
  ends = λ s. final-edit (Replace n at count put) (kept s) ∙ (replace_kept n at count put s ∙ ap kept (sym (final-edit (Replace n at count put) s)));
  tells = λ s. value-edit (Replace n at count put) (kept s) ∙ (replace_same n at count put s ∙ sym (value-edit (Replace n at count put) s));
}

words_kept : (chars : List ℕ) (s : State) → final (make_words chars) (kept s) ≡ kept (final (make_words chars) s)
unfolding made
words_kept chars s = final-make_words chars (kept s) ∙ ap kept (sym (final-make_words chars s))

blind_words : (chars : List ℕ) → Blind (make_words chars)
blind_words chars = record {
  ends = words_kept chars;
  tells = λ s. value-make_words chars (kept s) ∙ sym (value-make_words chars s);
}

grow_kept : (at : Point) (s : State) → acted (action.Grow at) (kept s) ≡ kept (acted (action.Grow at) s)
unfolding acted grown may_grow is_open is_inside is_editable_for is_made changed overrides_after
grow_kept at s = either_kept (may_grow s at) (changed s s.trees (mapped (range.Grown at) s.points)) s

send_kept : (n at tail : ℕ) (s : State) → acted (action.Send n at tail) (kept s) ≡ kept (acted (action.Send n at tail) s)
unfolding acted sent may_send is_own is_editable_for is_made changed overrides_after
send_kept n at tail s = either_kept (may_send s n at tail) (changed s s.trees (mapped (range.Split n at tail n 0) s.points)) s

value-perform : (a : action.Action) (s : State) → value (perform a) s ≡ tt
value-perform a s = unit (value (perform a) s)
  where
    unit : (u : Unit {0}) → u ≡ tt
    unit u = refl

blind_grow : (at : Point) → Blind (grow at)
blind_grow at = record {
  ends = λ s. final-perform (action.Grow at) (kept s) ∙ (grow_kept at s ∙ ap kept (sym (final-perform (action.Grow at) s)));
  tells = λ s. value-perform (action.Grow at) (kept s) ∙ sym (value-perform (action.Grow at) s);
}

blind_send : (n at tail : ℕ) → Blind (send n at tail)
blind_send n at tail = record {
  ends = λ s. final-perform (action.Send n at tail) (kept s) ∙ (send_kept n at tail s ∙ ap kept (sym (final-perform (action.Send n at tail) s)));
  tells = λ s. value-perform (action.Send n at tail) (kept s) ∙ sym (value-perform (action.Send n at tail) s);
}

blind_sent : (p i n at tail : ℕ) (inserted : Bool) → Blind (points_sent p i n at tail inserted)
unfolding points_sent
blind_sent p i n at tail inserted =
    blind_if inserted _ _ (blind_bind (send n at tail) _ (blind_send n at tail) (λ _. blind_grow (record { label = p; offset = i + 1 }))) (blind_answer tt)

blind_under : (p : ℕ) (s : State) (n at : ℕ) → Blind (split_under p s n at)
unfolding split_under
blind_under p s n at =
    blind_bind (make_words (drop at (characters_of s.trees n))) _ (blind_words (drop at (characters_of s.trees n))) (λ tail.
    blind_bind (insert p (next_of s.trees n) tail) _ (blind_insert p (next_of s.trees n) tail) (λ inserted.
    blind_bind (points_sent p (index_of s.trees n) n at tail inserted) _ (blind_sent p (index_of s.trees n) n at tail inserted) (λ _.
    blind_bind (replace n at (length (characters_of s.trees n) - at) []) _ (blind_replace n at (length (characters_of s.trees n) - at) []) (λ _.
    blind_answer tail))))

blind_split : (n at : ℕ) → Blind (split_words n at)
unfolding split_words split_under
blind_split n at = blind_look _ (λ s. refl) (λ s. blind_given (parent_of s.trees n) (answer n) _ (blind_answer n) (λ p. blind_under p s n at))

pub kept_valid : (s : State) → IsValid s → IsValid (kept s)
kept_valid s is = record { forest = is.forest; placed = is.placed; started = is.started; settings = is.settings }

kept_editable : (s : State) (n : ℕ) → is_editable_for s n ≡ true → is_editable_for (kept s) n ≡ true
unfolding is_editable_for
kept_editable s n h = h

-- so splitting a text keeps the order in any command
pub split_ordered : (n at : ℕ) (chars : List ℕ) (s : State) → IsValid s → content_of s.trees n ≡ Some (Words chars) → (IsWithin s.trees 0 n → is_editable_for s n ≡ true)
    → KeepsOrder s (final (split_words n at) s)
split_ordered n at chars s is text editable =
    subst (λ t. KeepsOrder (kept s) t) ((blind_split n at).ends s)
    (split_keeps n at chars (kept s) (record { valid = kept_valid s is; keeping = refl }) text (λ inside. kept_editable s n (editable inside)))
