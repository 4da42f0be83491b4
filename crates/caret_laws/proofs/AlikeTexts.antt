-- Splitting a text is the same whether the command keeps contents or not, where nothing is taken out that is kept.
use Rattle.std.proofs.Common.{◌≡◌, ◌+◌, ◌-◌, ◌<◌, ◌^◌, ℕ, Bool, true, false, if◌then◌else◌, [], drop, length, Option, Some, None, refl, ap, ◌∙◌, arith}
use Rattle.std.specs.Prelude.{unwrap_or}
use Rattle.std.specs.Option.{option_and_then}
use Rattle.std.proofs.lemmas.List.{length-drop}
use Rattle.edit_model.specs.DomModel.declared.Content.{Content}
use Rattle.edit_model.specs.DomModel.Contents.{chars_in}
use Rattle.edit_model.specs.DomModel.Forest.{content_of, next_of, parent_of}
use Rattle.edit_model.specs.DomModel.Places.{index_of}
use Rattle.inline_value.specs.NodeTests.CollapsedWhitespace.{is_words}
use Rattle.edit_model.specs.Compositions.{characters_of, points_sent, split_words, split_under}
use Rattle.edit_model.specs.Run.{Run, final, value, ◌>>=◌, ◌>>◌, answer, look, given, insert, replace}
use Rattle.edit_model.specs.State.{State}
use Rattle.edit_model.specs.Valid.{IsValid}
use Rattle.edit_model.proofs.ValidRuns.{valid_along}
use Rattle.caret_laws.specs.SolidOrder.{HasRoomFor}
use Rattle.caret_laws.specs.Sparing.{SparesOn}
use Rattle.caret_laws.proofs.BlindRuns.{kept}
use Rattle.caret_laws.proofs.SparingRuns.{Alike, alike_answer, alike_parts, spares_first, spares_then, words_end, words_tell, words_room}
use Rattle.caret_laws.proofs.TextRoom.{words_there}

alike_points_sent : (p i n at tail : ℕ) (inserted : Bool) → Alike (points_sent p i n at tail inserted)
unfolding points_sent
alike_points_sent p i n at tail inserted = search alike_parts

abbrev put_tail : ℕ → State → ℕ → ℕ → ℕ → Run ℕ
put_tail p s n at tail = do
  inserted ← insert p (next_of s.trees n) tail
  points_sent p (index_of s.trees n) n at tail inserted
  replace n at (length (characters_of s.trees n) - at) []
  answer tail

alike_put_tail : (p : ℕ) (s : State) (n at tail : ℕ) → Alike (put_tail p s n at tail)
alike_put_tail p s n at tail = search (alike_parts, alike_points_sent) depth 8

-- the characters of a text, from one on
tail_short : (r : ℕ) (s : State) (n at : ℕ) → is_words s.trees n ≡ true → HasRoomFor r s → length (drop at (characters_of s.trees n)) + r < 2 ^ 32
unfolding is_words
tail_short r s n at words room =
    let text = words_there (content_of s.trees n) words in
    let own : characters_of s.trees n ≡ text.0 = ap (λ (o : Option Content). unwrap_or (option_and_then chars_in o) []) text.1 in
    let low = room n text.0 text.1 in
    omega (arith, low, length-drop at (characters_of s.trees n), ap length own)

module _ (n at : ℕ) where
  split_end : (s : State) → SparesOn ((split_words n at).by_actions s) → final (split_words n at) (kept s) ≡ kept (final (split_words n at) s)
  unfolding split_words split_under look final
  split_end s spares = by (parent_of s.trees n) spares
    where
      by : (o : Option ℕ) → SparesOn ((given o (answer n) λ p. split_under p s n at).by_actions s) → final (given o (answer n) λ p. split_under p s n at) (kept s) ≡ kept (final (given o (answer n) λ p. split_under p s n at) s)
      by None h = (alike_answer n).ends s h
      by (Some p) h = words_end (drop at (characters_of s.trees n)) (put_tail p s n at) (alike_put_tail p s n at) s h

  split_tell : (s : State) → SparesOn ((split_words n at).by_actions s) → value (split_words n at) (kept s) ≡ value (split_words n at) s
  unfolding split_words split_under look value
  split_tell s spares = by (parent_of s.trees n) spares
    where
      by : (o : Option ℕ) → SparesOn ((given o (answer n) λ p. split_under p s n at).by_actions s) → value (given o (answer n) λ p. split_under p s n at) (kept s) ≡ value (given o (answer n) λ p. split_under p s n at) s
      by None h = (alike_answer n).tells s h
      by (Some p) h = words_tell (drop at (characters_of s.trees n)) (put_tail p s n at) (alike_put_tail p s n at) s h

  split_room : (r : ℕ) (s : State) → IsValid s → is_words s.trees n ≡ true → HasRoomFor r s → HasRoomFor r (final (split_words n at) s)
  unfolding split_words split_under look final
  split_room r s is words room = by (parent_of s.trees n)
    where
      by : (o : Option ℕ) → HasRoomFor r (final (given o (answer n) λ p. split_under p s n at) s)
      by None = (alike_answer n).room r s is room
      by (Some p) = words_room (drop at (characters_of s.trees n)) (put_tail p s n at) (alike_put_tail p s n at) r s is (tail_short r s n at words room) room

-- ---- at one state

pub record AlikeAt {T : Type 0} (s : State) (m : Run T) : Type 0 where
  pub ends : SparesOn (m.by_actions s) → final m (kept s) ≡ kept (final m s)
  pub tells : SparesOn (m.by_actions s) → value m (kept s) ≡ value m s
  pub room : (r : ℕ) → IsValid s → HasRoomFor r s → HasRoomFor r (final m s)

pub alike_at : {T : Type 0} (s : State) (m : Run T) → Alike m → AlikeAt s m
alike_at s m h = record { ends = h.ends s; tells = h.tells s; room = λ r is room. h.room r s is room }

pub if_at : {T : Type 0} (s : State) (v : Bool) (m n : Run T) → (v ≡ true → AlikeAt s m) → AlikeAt s n → AlikeAt s (if v then m else n)
if_at s true m n h g = h refl
if_at s false m n h g = g

pub given_at : {A B : Type 0} (s : State) (o : Option A) (n : Run B) (f : A → Run B) → AlikeAt s n → ((a : A) → AlikeAt s (f a)) → AlikeAt s (given o n f)
given_at s None n f h g = h
given_at s (Some a) n f h g = g a

pub alike_look_at : {T : Type 0} (k : State → Run T) → ((s : State) → k (kept s) ≡ k s) → ((s : State) → AlikeAt s (k s)) → Alike (look k)
unfolding look final value
alike_look_at k same h = record {
  ends = λ s spares. ap (λ m. final m (kept s)) (same s) ∙ (h s).ends spares;
  tells = λ s spares. ap (λ m. value m (kept s)) (same s) ∙ (h s).tells spares;
  room = λ r s is room. (h s).room r is room;
}

-- where it is a text, and so has room
module _ {T : Type 0} (n at : ℕ) (k : ℕ → Run T) (h : (x : ℕ) → Alike (k x)) (s : State) (words : is_words s.trees n ≡ true) where
  pub split_at : AlikeAt s (split_words n at >>= k)
  unfolding ◌>>=◌ final value
  split_at =
      let first = spares_first ((split_words n at).by_actions s) ((k (value (split_words n at) s)).by_actions (final (split_words n at) s)) in
      let rest = spares_then ((split_words n at).by_actions s) ((k (value (split_words n at) s)).by_actions (final (split_words n at) s)) in
      let more = h (value (split_words n at) s) in
      let t = final (split_words n at) s in
      record {
        ends = λ spares.
            ap (λ v. final (k v) (final (split_words n at) (kept s))) (split_tell n at s (first spares))
            ∙ (ap (final (k (value (split_words n at) s))) (split_end n at s (first spares)) ∙ more.ends t (rest spares));
        tells = λ spares.
            ap (λ v. value (k v) (final (split_words n at) (kept s))) (split_tell n at s (first spares))
            ∙ (ap (value (k (value (split_words n at) s))) (split_end n at s (first spares)) ∙ more.tells t (rest spares));
        room = λ r is room. more.room r t (valid_along ((split_words n at).by_actions s) is) (split_room n at r s is words room);
      }
