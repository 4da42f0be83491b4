-- Lists of recorded values, a member at a time.
use Rattle.std.proofs.Common.{◌≡◌, ℕ, zero, suc, ◌+◌, ◌<◌, ◌≤◌, List, [], ◌∷◌, ◌++◌, length, map, drop, get_or, refl, sym, ap, ◌∙◌, subst, append_assoc, add-one, drop-cons, arith}
use Rattle.std.proofs.Math.ListN.{drop_of_length-le}
use Rattle.edit_model.specs.NodeArena.declared.NodeRef.{NodeRef}
use Rattle.edit_model.specs.Gives.{labels_of, Fails}
use Rattle.edit_model.specs.State.{State}
use Rattle.edit_model.proofs.Steps.{labels_of_drop, labels_of_end}
use Rattle.edit_model.specs.Run.{Run, ◌>>=◌, answer, for_each, final}
use Rattle.edit_model.proofs.Steps.{for_each-cons, for_each-nil, final-bind, fails-bind}
use Rattle.edit_model.specs.declared.settings.EditFault.{EditFault}
use Rattle.wrap_split.specs.EditDoc.Whole.{Whole}
use Rattle.wrap_split.specs.EditDoc.Held.{Holds, EachHeld}
use Rattle.inline_value.specs.declared.recording.Value.{Value}
use Rattle.inline_value.specs.Recording.{Recorded, values_at, values_of}
use Rattle.inline_value.specs.Records.{entry_of, entries_of, nodes_of}

-- ---- the values that are recorded

pub recorded_turn : (s : State) (xs : List NodeRef) (i : ℕ) → i < length xs →
    values_of s (labels_of (drop i xs)) ≡ values_at s (get_or xs i record { slot = 0; label = 0 }).label ++ values_of s (labels_of (drop (i + 1) xs))
unfolding values_of
recorded_turn s xs i low = rw (labels_of_drop xs i low) refl

pub recorded_end : (s : State) (xs : List NodeRef) (i : ℕ) → length xs ≤ i → values_of s (labels_of (drop i xs)) ≡ []
unfolding values_of
recorded_end s xs i high = rw (labels_of_end xs i high) refl

pub recorded_on : (s : State) (xs : List NodeRef) (i : ℕ) → i < length xs → (old new whole : List Recorded) →
    new ≡ old ++ values_at s (get_or xs i record { slot = 0; label = 0 }).label → old ++ values_of s (labels_of (drop i xs)) ≡ whole →
    new ++ values_of s (labels_of (drop (i + 1) xs)) ≡ whole
recorded_on s xs i low old new whole more before =
    rw more (append_assoc old _ _ ∙ (ap (λ r. old ++ r) (sym (recorded_turn s xs i low)) ∙ before))

-- ---- the entries

pub no_entries : (xs : List Value) → xs ≡ [] → entries_of xs ≡ []
unfolding entries_of
no_entries xs is = rw is refl

pub no_nodes : (d : Whole) (xs : List Value) → xs ≡ [] → EachHeld d (nodes_of xs)
unfolding nodes_of
no_nodes d xs is = subst (λ ys. EachHeld d (map (λ (v : Value). v.node) ys)) (sym is) (λ k low. absurd (omega (arith, low)))

pub entries_pushed : (xs : List Value) (v : Value) → entries_of (xs ++ v ∷ []) ≡ entries_of xs ++ entry_of v ∷ []
unfolding entries_of
entries_pushed [] v = refl
entries_pushed (x ∷ xs) v = ap (λ r. entry_of x ∷ r) (entries_pushed xs v)

pub nodes_pushed : (xs : List Value) (v : Value) → nodes_of (xs ++ v ∷ []) ≡ nodes_of xs ++ v.node ∷ []
unfolding nodes_of
nodes_pushed [] v = refl
nodes_pushed (x ∷ xs) v = ap (λ r. x.node ∷ r) (nodes_pushed xs v)

entries_drop : (xs : List Value) (i : ℕ) (d : Value) → i < length xs → entries_of (drop i xs) ≡ entry_of (get_or xs i d) ∷ entries_of (drop (i + 1) xs)
unfolding entries_of
entries_drop xs i d h = rw (add-one, drop-cons xs i d)

-- a turn of a loop over entries, and its end
pub entry_turn : (xs : List Value) (i : ℕ) (v : Value) (f : Recorded → Run (Unit {0})) → v ≡ get_or xs i v → i < length xs →
    for_each (entries_of (drop i xs)) f ≡ (f (entry_of v) >>= (λ _. for_each (entries_of (drop (i + 1) xs)) f))
entry_turn xs i v f is low =
    ap (λ es. for_each es f) (entries_drop xs i v low)
    ∙ (for_each-cons (entry_of (get_or xs i v)) (entries_of (drop (i + 1) xs)) f
    ∙ ap (λ u. f (entry_of u) >>= (λ _. for_each (entries_of (drop (i + 1) xs)) f)) (sym is))

pub entry_end : (xs : List Value) (i : ℕ) (f : Recorded → Run (Unit {0})) → length xs ≤ i → for_each (entries_of (drop i xs)) f ≡ answer tt
unfolding entries_of
entry_end xs i f high = rw (drop_of_length-le xs high, for_each-nil)

-- what a loop still has to do after a turn ends where the whole ends, or the turn's fault is the whole's
pub turn_ends : (all first rest : Run (Unit {0})) (s t w : State) → all ≡ (first >>= (λ _. rest)) → final all s ≡ w → final first s ≡ t → final rest t ≡ w
turn_ends all first rest s t w is whole turn =
    ap (final rest) (sym turn) ∙ (sym (final-bind first (λ _. rest) s) ∙ (ap (λ m. final m s) (sym is) ∙ whole))

pub turn_fails : (all first rest : Run (Unit {0})) (s w : State) (e : EditFault) → all ≡ (first >>= (λ _. rest)) → final all s ≡ w → Fails e (final first s) → Fails e w
turn_fails all first rest s w e is whole fails =
    subst (Fails e) (ap (λ m. final m s) (sym is) ∙ whole) (fails-bind e first (λ _. rest) s fails)

-- the node of each entry is held
node_at : (d : Whole) (xs : List Value) (i : ℕ) (v : Value) → EachHeld d (nodes_of xs) → i < length xs → Holds d (get_or xs i v).node
unfolding nodes_of
node_at d [] i v h low = absurd (omega (arith, low))
node_at d (x ∷ xs) zero v h low = h 0 (omega arith)
node_at d (x ∷ xs) (suc i) v h low = node_at d xs i v (λ k less. h (suc k) (omega (arith, less))) (omega (arith, low))

pub node_held : (d : Whole) (xs : List Value) (i : ℕ) (v : Value) → v ≡ get_or xs i v → EachHeld d (nodes_of xs) → i < length xs → Holds d v.node
node_held d xs i v is h low = subst (λ u. Holds d u.node) (sym is) (node_at d xs i v h low)
