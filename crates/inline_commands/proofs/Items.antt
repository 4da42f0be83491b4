-- A turn of a loop over a list of any items, and its end.
use Rattle.std.proofs.Common.{◌≡◌, ℕ, ◌+◌, ◌<◌, ◌≤◌, List, length, drop, get_or, sym, ap, ◌∙◌, subst, add-one, drop-cons, arith}
use Rattle.std.proofs.Math.ListN.{drop_of_length-le}
use Rattle.edit_model.specs.HtmlNames.declared.commands.Command.{Command}
use Rattle.edit_model.specs.HtmlNames.declared.commands.Command.TheVariants.{Bold}
use Rattle.edit_model.specs.declared.settings.EditFault.{EditFault}
use Rattle.edit_model.specs.State.{State}
use Rattle.edit_model.specs.Gives.{Fails}
use Rattle.edit_model.specs.Run.{Run, final, ◌>>=◌, answer, for_each}
use Rattle.edit_model.proofs.Steps.{final-bind, fails-bind, for_each-cons, for_each-nil}

at_turn : {A : Type 0} (d : A) (xs : List A) (i : ℕ) (f : A → Run (Unit {0})) → i < length xs →
    for_each (drop i xs) f ≡ (f (get_or xs i d) >>= (λ _. for_each (drop (i + 1) xs) f))
at_turn d xs i f h = rw (add-one, drop-cons xs i d, for_each-cons)

-- ---- over commands

pub command_turn : (xs : List Command) (i : ℕ) (f : Command → Run (Unit {0})) → i < length xs →
    for_each (drop i xs) f ≡ (f (get_or xs i Bold) >>= (λ _. for_each (drop (i + 1) xs) f))
command_turn = at_turn Bold

pub command_end : (xs : List Command) (i : ℕ) (f : Command → Run (Unit {0})) → length xs ≤ i → for_each (drop i xs) f ≡ answer tt
command_end xs i f h = rw (drop_of_length-le xs h, for_each-nil)

pub ruleset commands = (command_turn, command_end)

-- ---- over items that are told by their place

item_turn : {A : Type 0} (xs : List A) (i : ℕ) (x : A) (f : A → Run (Unit {0})) → i < length xs → x ≡ get_or xs i x →
    for_each (drop i xs) f ≡ (f x >>= (λ _. for_each (drop (i + 1) xs) f))
item_turn xs i x f h is = at_turn x xs i f h ∙ ap (λ y. f y >>= (λ _. for_each (drop (i + 1) xs) f)) (sym is)

pub each_turned : {A : Type 0} (xs : List A) (i : ℕ) (x : A) (f : A → Run (Unit {0})) (s t w : State) → i < length xs → x ≡ get_or xs i x →
    final (f x) s ≡ t → final (for_each (drop i xs) f) s ≡ w → final (for_each (drop (i + 1) xs) f) t ≡ w
each_turned xs i x f s t w h is to whole =
    let k : Unit {0} → Run (Unit {0}) = λ _. for_each (drop (i + 1) xs) f in
    ap (final (for_each (drop (i + 1) xs) f)) (sym to) ∙ (sym (final-bind (f x) k s) ∙ (ap (λ m. final m s) (sym (item_turn xs i x f h is)) ∙ whole))

pub each_fails : {A : Type 0} (e : EditFault) (xs : List A) (i : ℕ) (x : A) (f : A → Run (Unit {0})) (s w : State) → i < length xs → x ≡ get_or xs i x →
    Fails e (final (f x) s) → final (for_each (drop i xs) f) s ≡ w → Fails e w
each_fails e xs i x f s w h is fails whole =
    let k : Unit {0} → Run (Unit {0}) = λ _. for_each (drop (i + 1) xs) f in
    subst (Fails e) (ap (λ m. final m s) (sym (item_turn xs i x f h is)) ∙ whole) (fails-bind e (f x) k s fails)

pub item_end : {A : Type 0} (xs : List A) (i : ℕ) (f : A → Run (Unit {0})) → length xs ≤ i → for_each (drop i xs) f ≡ answer tt
item_end xs i f h = rw (drop_of_length-le xs h, for_each-nil)
