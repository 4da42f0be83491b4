-- How a run goes on, a step at a time.
use Rattle.std.proofs.Common.{◌≡◌, ℕ, suc, zero, ◌+◌, ◌-◌, ◌<◌, ◌≤◌, Bool, true, false, if◌then◌else◌, List, [], ◌∷◌, Option, Some, None, ◌++◌, length, drop, take, reverse, get_or, refl, sym, ◌∙◌, subst, ap, add-one, drop-cons, arith, Result, Ok, Err}
use Rattle.std.proofs.lemmas.List.{take_more, reverse-append}
use Rattle.std.proofs.Math.Seq.{take-length}
use Rattle.std.proofs.Math.ListN.{drop_of_length-le}
use Rattle.std.specs.Result.{IsErrAnd}
use Rattle.std.specs.Prelude.{insert}
use Rattle.point_order.specs.DomModel.declared.attributes.Attribute.{Attribute}
use Rattle.point_order.specs.DomModel.Forest.{first_in, last_or, last_in}
use Rattle.point_order.specs.LiveRange.declared.places.Pair.{Pair}
use Rattle.point_order.specs.LiveRange.declared.places.Point.{Point}
use Rattle.point_order.specs.NodeArena.declared.NodeRef.{NodeRef}
use Rattle.edit_model.specs.declared.settings.EditFault.{EditFault}
use Rattle.edit_model.specs.declared.settings.EditFault.TheVariants.{Full, Memory}
use Rattle.edit_model.specs.State.{State, IsPastCap}
use Rattle.edit_model.specs.Edit.{Edit, is_made_edit, edited, changed, with_change}
use Rattle.edit_model.specs.Action as action
use Rattle.edit_model.specs.Action.{Action, made, applied, words_content, element_content, with_selection, with_scratch, selected, extended_from, extended, grown, sent, scratched, acted}
use Rattle.edit_model.specs.Run.{Reaches, here, onward, Run, final, value, act, answer, look, ◌>>=◌, for_each, while_at_most, edit, make_element, make_words, perform}
use Rattle.edit_model.specs.Gives.{labels_of, Fails, Gives, GivesNode, GivesMaybe}
use Rattle.edit_model.proofs.TailSteps.{extracted_keeps}

-- ---- the parts of a run

pub final-bind : {A B : Type 0} (m : Run A) (k : A → Run B) (s : State) → final (m >>= k) s ≡ final (k (value m s)) (final m s)
unfolding ◌>>=◌ final value
final-bind m k s = refl

pub value-bind : {A B : Type 0} (m : Run A) (k : A → Run B) (s : State) → value (m >>= k) s ≡ value (k (value m s)) (final m s)
unfolding ◌>>=◌ final value
value-bind m k s = refl

pub final-answer : {A : Type 0} (a : A) (s : State) → final (answer a) s ≡ s
unfolding answer final
final-answer a s = refl

pub value-answer : {A : Type 0} (a : A) (s : State) → value (answer a) s ≡ a
unfolding answer value
value-answer a s = refl

pub final-look : {A : Type 0} (k : State → Run A) (s : State) → final (look k) s ≡ final (k s) s
unfolding look final
final-look k s = refl

pub value-look : {A : Type 0} (k : State → Run A) (s : State) → value (look k) s ≡ value (k s) s
unfolding look value
value-look k s = refl

-- ---- the runs of one action

pub final-act : {A : Type 0} (a : Action) (tells : State → A) (s : State) → final (act a tells) s ≡ acted a s
unfolding act final
final-act a tells s = refl

pub value-act : {A : Type 0} (a : Action) (tells : State → A) (s : State) → value (act a tells) s ≡ tells s
unfolding act value
value-act a tells s = refl

pub final-edit : (e : Edit) (s : State) → final (edit e) s ≡ edited e s
unfolding edit act final acted
final-edit e s = refl

pub value-edit : (e : Edit) (s : State) → value (edit e) s ≡ is_made_edit e s
unfolding edit act value
value-edit e s = refl

pub final-make_element : (name : List ℕ) (attributes : List Attribute) (s : State) →
    final (make_element name attributes) s ≡ made (element_content name attributes) s
unfolding make_element act final acted
final-make_element name attributes s = refl

pub value-make_element : (name : List ℕ) (attributes : List Attribute) (s : State) → value (make_element name attributes) s ≡ s.next
unfolding make_element act value
value-make_element name attributes s = refl

pub final-make_words : (chars : List ℕ) (s : State) → final (make_words chars) s ≡ made (words_content chars) s
unfolding make_words act final acted
final-make_words chars s = refl

pub value-make_words : (chars : List ℕ) (s : State) → value (make_words chars) s ≡ s.next
unfolding make_words act value
value-make_words chars s = refl

pub final-perform : (a : Action) (s : State) → final (perform a) s ≡ acted a s
unfolding perform act final
final-perform a s = refl

-- ---- what every action keeps, every run keeps

pub along : (P : State → Type 0) → ((a : Action) (s : State) → P s → P (acted a s)) → {s t : State} → Reaches s t → P s → P t
along P step here p = p
along P step (onward {t = t} r a) p = step a t (along P step r p)

pub final_keeps : (P : State → Type 0) → ((a : Action) (s : State) → P s → P (acted a s)) → {T : Type 0} (m : Run T) (s : State) → P s → P (final m s)
unfolding final
final_keeps P step m s p = along P step (m.by_actions s) p

-- ---- labels are never drawn back, and a run past the cap stays past it

pub either_way : (P : State → Type 0) (b : Bool) {s t : State} → P s → P t → P (if b then s else t)
either_way P true p q = p
either_way P false p q = q

next-edited : (e : Edit) (s : State) → (edited e s).next ≡ s.next
unfolding edited with_change changed
next-edited e s = let P : State → Type 0 = λ t. t.next ≡ s.next in either_way P (is_made_edit e s) refl refl

next-extended_from : (o : Option Pair) (at : Point) (s : State) → (extended_from o at s).next ≡ s.next
unfolding changed
next-extended_from None at s = refl
next-extended_from (Some pair) at s = let P : State → Type 0 = λ t. t.next ≡ s.next in either_way P _ refl refl

next-extracted : (n : ℕ) (from : Point) (end target : ℕ) (s : State) → n ≤ s.next → n ≤ (acted (action.Extract from end target) s).next
unfolding acted made applied with_change changed
next-extracted n from end target s h = let P : State → Type 0 = λ t. n ≤ t.next in extracted_keeps P (λ c t k. omega (arith, k)) (λ e t k. k) from end target s h

-- an action never draws a label back
pub next_acted : (n : ℕ) (a : Action) (s : State) → n ≤ s.next → n ≤ (acted a s).next
unfolding acted made selected extended grown sent scratched changed
next_acted n (action.Change e) s h = rw (next-edited e s) h
next_acted n (action.MakeElement name attributes) s h = omega arith
next_acted n (action.MakeWords chars) s h = omega arith
next_acted n (action.Select anchor focus) s h = let P : State → Type 0 = λ t. n ≤ t.next in either_way P _ h h
next_acted n (action.Extend focus) s h = rw (next-extended_from s.points.selection focus s) h
next_acted n action.Unselect s h = h
next_acted n (action.Grow at) s h = let P : State → Type 0 = λ t. n ≤ t.next in either_way P _ h h
next_acted n (action.Send node at tail) s h = let P : State → Type 0 = λ t. n ≤ t.next in either_way P _ h h
next_acted n (action.Scratch pair) s h = let P : State → Type 0 = λ t. n ≤ t.next in either_way P _ h h
next_acted n (action.Override command setting) s h = h
next_acted n (action.Flag flags) s h = h
next_acted n (action.Extract from end target) s h = next-extracted n from end target s h

cap-edited : (e : Edit) (s : State) → (edited e s).cap ≡ s.cap
unfolding edited with_change changed
cap-edited e s = let P : State → Type 0 = λ t. t.cap ≡ s.cap in either_way P (is_made_edit e s) refl refl

cap-extended_from : (o : Option Pair) (at : Point) (s : State) → (extended_from o at s).cap ≡ s.cap
unfolding changed
cap-extended_from None at s = refl
cap-extended_from (Some pair) at s = let P : State → Type 0 = λ t. t.cap ≡ s.cap in either_way P _ refl refl

cap-extracted : (from : Point) (end target : ℕ) (s : State) → (acted (action.Extract from end target) s).cap ≡ s.cap
unfolding acted made applied with_change changed
cap-extracted from end target s = let P : State → Type 0 = λ t. t.cap ≡ s.cap in extracted_keeps P (λ c t k. k) (λ e t k. k) from end target s refl

-- no action changes the cap
pub cap-acted : (a : Action) (s : State) → (acted a s).cap ≡ s.cap
unfolding acted made selected extended grown sent scratched changed
cap-acted (action.Change e) s = cap-edited e s
cap-acted (action.MakeElement name attributes) s = refl
cap-acted (action.MakeWords chars) s = refl
cap-acted (action.Select anchor focus) s = let P : State → Type 0 = λ t. t.cap ≡ s.cap in either_way P _ refl refl
cap-acted (action.Extend focus) s = cap-extended_from s.points.selection focus s
cap-acted action.Unselect s = refl
cap-acted (action.Grow at) s = let P : State → Type 0 = λ t. t.cap ≡ s.cap in either_way P _ refl refl
cap-acted (action.Send node at tail) s = let P : State → Type 0 = λ t. t.cap ≡ s.cap in either_way P _ refl refl
cap-acted (action.Scratch pair) s = let P : State → Type 0 = λ t. t.cap ≡ s.cap in either_way P _ refl refl
cap-acted (action.Override command setting) s = refl
cap-acted (action.Flag flags) s = refl
cap-acted (action.Extract from end target) s = cap-extracted from end target s

pub next_along : {s t : State} → Reaches s t → s.next ≤ t.next
next_along {s = s} r = let P : State → Type 0 = λ t. s.next ≤ t.next in along P (next_acted s.next) r (omega arith)

pub final_next : {T : Type 0} (m : Run T) (s : State) → s.next ≤ (final m s).next
final_next m s = let P : State → Type 0 = λ t. s.next ≤ t.next in final_keeps P (next_acted s.next) m s (omega arith)

pub final_cap : {T : Type 0} (m : Run T) (s : State) → (final m s).cap ≡ s.cap
final_cap m s = let P : State → Type 0 = λ t. t.cap ≡ s.cap in final_keeps P (λ a t h. cap-acted a t ∙ h) m s refl

pub over_acted : (a : Action) (s : State) → IsPastCap s → IsPastCap (acted a s)
over_acted a s h = record { past = rw (cap-acted a s) (next_acted (suc s.cap) a s h.past) }

pub final_over : {T : Type 0} (m : Run T) (s : State) → IsPastCap s → IsPastCap (final m s)
final_over m s h = final_keeps IsPastCap over_acted m s h

-- a run whose first step ends past the cap ends past it
pub over-bind : {A B : Type 0} (m : Run A) (k : A → Run B) (s : State) → IsPastCap (final m s) → IsPastCap (final (m >>= k) s)
over-bind m k s h = rw (final-bind m k s) (final_over (k (value m s)) (final m s) h)

pub over-look : {A : Type 0} (k : State → Run A) (s : State) → IsPastCap (final (k s) s) → IsPastCap (final (look k) s)
over-look k s h = rw (final-look k s) h

pub fails-bind : {A B : Type 0} (e : EditFault) (m : Run A) (k : A → Run B) (s : State) → Fails e (final m s) → Fails e (final (m >>= k) s)
fails-bind Full m k s h = over-bind m k s h
fails-bind Memory m k s h = tt

-- how runs go on, for code that composes calls
pub ruleset steps = (final-bind, value-bind, final-answer, value-answer, final-look, value-look, over-bind)

-- the runs of one action too, for the code of those calls
pub ruleset actions = (steps, final-edit, value-edit, final-make_element, value-make_element, final-make_words, value-make_words, final-perform)

-- ---- a loop over a list

pub for_each-cons : {A : Type 0} (x : A) (xs : List A) (f : A → Run (Unit {0})) → for_each (x ∷ xs) f ≡ (f x >>= (λ _. for_each xs f))
unfolding for_each
for_each-cons x xs f = refl

pub for_each-nil : {A : Type 0} (f : A → Run (Unit {0})) → for_each [] f ≡ answer tt
unfolding for_each
for_each-nil f = refl

pub labels_of-append : (xs ys : List NodeRef) → labels_of (xs ++ ys) ≡ labels_of xs ++ labels_of ys
labels_of-append [] ys = refl
labels_of-append (x ∷ xs) ys = ap (λ r. x.label ∷ r) (labels_of-append xs ys)

-- the labels from a place on are the label there and those after it
pub labels_of_drop : (xs : List NodeRef) (i : ℕ) → i < length xs →
    labels_of (drop i xs) ≡ (get_or xs i record { slot = 0; label = 0 }).label ∷ labels_of (drop (i + 1) xs)
labels_of_drop xs i h = rw (add-one, drop-cons xs i record { slot = 0; label = 0 })

pub labels_of_end : (xs : List NodeRef) (i : ℕ) → length xs ≤ i → labels_of (drop i xs) ≡ []
labels_of_end xs i h = rw (drop_of_length-le xs h)

-- one more reference before what follows
pub labels_of_push : (xs : List NodeRef) (x : NodeRef) (rest : List ℕ) → labels_of (xs ++ x ∷ []) ++ rest ≡ labels_of xs ++ x.label ∷ rest
labels_of_push [] x rest = refl
labels_of_push (y ∷ xs) x rest = ap (λ r. y.label ∷ r) (labels_of_push xs x rest)

pub append_none : (xs : List ℕ) → xs ++ [] ≡ xs
append_none [] = refl
append_none (x ∷ xs) = ap (λ r. x ∷ r) (append_none xs)

pub labels_of_push_end : (xs : List NodeRef) (x : NodeRef) → labels_of (xs ++ x ∷ []) ≡ labels_of xs ++ x.label ∷ []
labels_of_push_end xs x = labels_of-append xs (x ∷ [])

pub labels_of_insert : (xs : List NodeRef) (x : NodeRef) → labels_of (insert xs 0 x) ≡ x.label ∷ labels_of xs
labels_of_insert xs x = refl

pub labels_of_take : (xs : List NodeRef) (i : ℕ) (rest : List ℕ) → i < length xs →
    labels_of (take (i + 1) xs) ++ rest ≡ labels_of (take i xs) ++ (get_or xs i record { slot = 0; label = 0 }).label ∷ rest
labels_of_take xs i rest h = rw (take_more xs i record { slot = 0; label = 0 } h) (labels_of_push (take i xs) _ rest)

pub length-labels_of : (xs : List NodeRef) → length (labels_of xs) ≡ length xs
length-labels_of [] = refl
length-labels_of (x ∷ xs) = ap suc (length-labels_of xs)

-- a turn of a loop over a list of references
pub each_turn : (xs : List NodeRef) (i : ℕ) (f : ℕ → Run (Unit {0})) → i < length xs →
    for_each (labels_of (drop i xs)) f ≡ (f (get_or xs i record { slot = 0; label = 0 }).label >>= (λ _. for_each (labels_of (drop (i + 1) xs)) f))
each_turn xs i f h = rw (labels_of_drop xs i h, for_each-cons)

pub each_end : (xs : List NodeRef) (i : ℕ) (f : ℕ → Run (Unit {0})) → length xs ≤ i →
    for_each (labels_of (drop i xs)) f ≡ answer tt
each_end xs i f h = rw (labels_of_end xs i h, for_each-nil)

pub ruleset eachs = (steps, each_turn, each_end)

suc-sub-one : (n : ℕ) → suc n - 1 ≡ n
suc-sub-one n = omega arith

-- the first and the last label of a list of references
pub first_label : (xs : List NodeRef) → 0 < length xs → first_in (labels_of xs) ≡ Some (get_or xs 0 record { slot = 0; label = 0 }).label
first_label [] h = absurd (omega arith)
first_label (x ∷ xs) h = refl

last_label_at : (o : Option ℕ) (xs : List NodeRef) (i : ℕ) → length xs ≡ i + 1 →
    last_or o (labels_of xs) ≡ Some (get_or xs i record { slot = 0; label = 0 }).label
last_label_at o [] i h = absurd (omega arith)
last_label_at o (x ∷ []) zero h = refl
last_label_at o (x ∷ []) (suc i) h = absurd (omega arith)
last_label_at o (x ∷ y ∷ r) zero h = absurd (omega arith)
last_label_at o (x ∷ y ∷ r) (suc i) h = last_label_at (Some x.label) (y ∷ r) i (omega arith)

pub last_label : (xs : List NodeRef) → 0 < length xs → last_in (labels_of xs) ≡ Some (get_or xs (length xs - 1) record { slot = 0; label = 0 }).label
last_label xs h = last_label_at None xs (length xs - 1) (omega arith)

pub no_label : (xs : List NodeRef) → length xs ≡ 0 → first_in (labels_of xs) ≡ None
no_label [] h = refl
no_label (x ∷ xs) h = absurd (omega arith)

pub no_last_label : (xs : List NodeRef) → length xs ≡ 0 → last_in (labels_of xs) ≡ None
no_last_label [] h = refl
no_last_label (x ∷ xs) h = absurd (omega arith)

pub ruleset ends = (first_label, last_label, no_label, no_last_label)

-- a turn of a loop over a list of references from its end, and its end
back_at : (xs : List NodeRef) (i : ℕ) → i < length xs →
    reverse (labels_of (take (i + 1) xs)) ≡ (get_or xs i record { slot = 0; label = 0 }).label ∷ reverse (labels_of (take i xs))
back_at xs i h = rw (take_more xs i record { slot = 0; label = 0 } h, labels_of-append, reverse-append)

pub back_turn : (xs : List NodeRef) (k : ℕ) (f : ℕ → Run (Unit {0})) → 0 < k → k ≤ length xs →
    for_each (reverse (labels_of (take k xs))) f
    ≡ (f (get_or xs (k - 1) record { slot = 0; label = 0 }).label >>= (λ _. for_each (reverse (labels_of (take (k - 1) xs))) f))
back_turn xs zero f p h = absurd (omega arith)
back_turn xs (suc i) f p h = rw (suc-sub-one i, ← (add-one i), back_at xs i h, for_each-cons)

pub back_end : (xs : List NodeRef) (k : ℕ) (f : ℕ → Run (Unit {0})) → k ≤ 0 → for_each (reverse (labels_of (take k xs))) f ≡ answer tt
back_end xs zero f h = for_each-nil f
back_end xs (suc i) f h = absurd (omega arith)

pub back_start : (xs : List NodeRef) → take (length xs) xs ≡ xs
back_start xs = take-length xs

pub ruleset backs = (steps, back_turn, back_end, back_start)

-- ---- a turn of a loop that edits, and its two ends

while-on : {A : Type 0} (n : ℕ) (test : State → A → Bool) (body : A → Run A) (a : A) → 0 < n →
    while_at_most n test body a ≡ look (λ s. if test s a then (body a >>= while_at_most (n - 1) test body) else answer a)
unfolding while_at_most
while-on zero test body a h = absurd (omega arith)
while-on (suc n) test body a h = rw (suc-sub-one n)

pub final_while_turn : {A : Type 0} (n : ℕ) (test : State → A → Bool) (body : A → Run A) (a : A) (s : State) → 0 < n → test s a ≡ true →
    final (while_at_most n test body a) s ≡ final (body a >>= while_at_most (n - 1) test body) s
final_while_turn n test body a s h t = rw (while-on n test body a h, final-look, t)

pub value_while_turn : {A : Type 0} (n : ℕ) (test : State → A → Bool) (body : A → Run A) (a : A) (s : State) → 0 < n → test s a ≡ true →
    value (while_at_most n test body a) s ≡ value (body a >>= while_at_most (n - 1) test body) s
value_while_turn n test body a s h t = rw (while-on n test body a h, value-look, t)

pub final_while_stop : {A : Type 0} (n : ℕ) (test : State → A → Bool) (body : A → Run A) (a : A) (s : State) → test s a ≡ false →
    final (while_at_most n test body a) s ≡ s
unfolding while_at_most
final_while_stop zero test body a s t = final-answer a s
final_while_stop (suc n) test body a s t = rw (final-look, t) (final-answer a s)

pub value_while_stop : {A : Type 0} (n : ℕ) (test : State → A → Bool) (body : A → Run A) (a : A) (s : State) → test s a ≡ false →
    value (while_at_most n test body a) s ≡ a
unfolding while_at_most
value_while_stop zero test body a s t = value-answer a s
value_while_stop (suc n) test body a s t = rw (value-look, t) (value-answer a s)

pub while_end : {A : Type 0} (n : ℕ) (test : State → A → Bool) (body : A → Run A) (a : A) → n ≤ 0 → while_at_most n test body a ≡ answer a
unfolding while_at_most
while_end zero test body a h = refl
while_end (suc n) test body a h = absurd (omega arith)

pub ruleset whiles = (steps, final_while_turn, value_while_turn, final_while_stop, value_while_stop, while_end)

-- ---- the exit of a `?`: the fault that is handed on is the callee's

pub exit : {T : Type 0} (r : Result T EditFault) (e : EditFault) (s t : State) (m : Run T) →
    IsErrAnd r (λ y. y ≡ e) → Fails e (final m s) → Gives r s t m
exit (Ok v) e s t m h f = absurd h
exit (Err y) e s t m h f = subst (λ x. Fails x (final m s)) (sym h) f

pub exit_node : (r : Result NodeRef EditFault) (e : EditFault) (s t : State) (m : Run ℕ) →
    IsErrAnd r (λ y. y ≡ e) → Fails e (final m s) → GivesNode r s t m
exit_node (Ok v) e s t m h f = absurd h
exit_node (Err y) e s t m h f = subst (λ x. Fails x (final m s)) (sym h) f

pub exit_maybe : (r : Result (Option NodeRef) EditFault) (e : EditFault) (s t : State) (m : Run (Option ℕ)) →
    IsErrAnd r (λ y. y ≡ e) → Fails e (final m s) → GivesMaybe r s t m
exit_maybe (Ok v) e s t m h f = absurd h
exit_maybe (Err y) e s t m h f = subst (λ x. Fails x (final m s)) (sym h) f

pub ruleset exits = (steps, fails-bind, exit, exit_node, exit_maybe)
