-- No order of a session has a cap above the greatest.
use Rattle.std.proofs.Common.{◌≡◌, ℕ, ◌≤◌, Bool, true, false, ◌&&◌, cond, List, [], ◌∷◌, Option, Some, None, IfSome, refl, sym, subst, arith, unwrap_or}
use Rattle.std.specs.Prelude.{nat_lt, nat_le}
use Rattle.std.specs.Option.{option_map, option_and_then}
use Rattle.std.proofs.lemmas.Bool.{and_parts, leb-true}
use Rattle.step_text.specs.ScriptRead.Reading.{number_of}
use Rattle.edit_session.specs.Denials.{names_of}
use Rattle.edit_session.specs.Words.{Limits, Run, Choice, CapAt, UndoUpTo, Denying, Given, amount_of, choice_of, greatest_cap, greatest_undo, with_choice, none_given, AreSettings, order_of}
use Rattle.edit_session.specs.declared.words.Setting.{Setting}
use Rattle.edit_session.specs.declared.words.Setting.TheVariants.{Cap, Undo, Deny}
use Rattle.edit_session.proofs.Grammars.{rests}

picked : (b : Bool) (k n : ℕ) → cond b (Some k) None ≡ Some n → (b ≡ true) × (k ≡ n)
picked true k n e = (refl, let e' : Some k ≡ Some n = e in cc)
picked false k n e = absurd (let e' : None ≡ Some n = e in cc)

amount_low : (greatest : ℕ) (o : Option ℕ) (n : ℕ) → option_and_then (λ k. cond (nat_lt 0 k && nat_le k greatest) (Some k) None) o ≡ Some n → n ≤ greatest
amount_low greatest None n e = absurd (let e' : None ≡ Some n = e in cc)
amount_low greatest (Some k) n e =
    let p = picked (nat_lt 0 k && nat_le k greatest) k n e in
    let low = leb-true k greatest (and_parts (nat_lt 0 k) (nat_le k greatest) p.0).1 in
    let same = p.1 in
    omega (arith, low, same)

abbrev IsLow : Choice → Type 0
IsLow (CapAt n) = n ≤ greatest_cap
IsLow (UndoUpTo n) = Unit {0}
IsLow (Denying names) = Unit {0}

mapped : {A : Type 0} (f : A → Choice) (o : Option A) (x : Choice) → option_map f o ≡ Some x → (n : A) × (o ≡ Some n) × (f n ≡ x)
mapped f None x e = absurd (let e' : None ≡ Some x = e in cc)
mapped f (Some n) x e = (n, refl, let e' : Some (f n) ≡ Some x = e in cc)

choice_low : (s : Setting) (text : List ℕ) (x : Choice) → choice_of s text ≡ Some x → IsLow x
choice_low Cap text x e =
    let m = mapped CapAt (amount_of greatest_cap text) x e in
    subst IsLow m.2 (amount_low greatest_cap (number_of text) m.0 m.1)
choice_low Undo text x e = subst IsLow (mapped UndoUpTo (amount_of greatest_undo text) x e).2 tt
choice_low Deny text x e = subst IsLow (mapped Denying (names_of text) x e).2 tt

settings_low : (xs : List (Setting × Choice)) (words : List (List ℕ)) (before after : Given) → AreSettings xs words before after → IfSome before.cap (λ n. n ≤ greatest_cap) → IfSome after.cap (λ n. n ≤ greatest_cap)
settings_low [] words before after s low = subst (λ (g : Given). IfSome g.cap (λ n. n ≤ greatest_cap)) s.1 low
settings_low (x ∷ xs) words before after s low = settings_low xs s.0 (with_choice before x.1) after s.3 (one x.1 (choice_low x.0 s.1.0 x.1 s.1.1))
  where
    one : (c : Choice) → IsLow c → IfSome (with_choice before c).cap (λ n. n ≤ greatest_cap)
    one (CapAt n) own = own
    one (UndoUpTo n) own = low
    one (Denying names) own = low

usual_low : (o : Option ℕ) → IfSome o (λ n. n ≤ greatest_cap) → unwrap_or o greatest_cap ≤ greatest_cap
usual_low None h = omega arith
usual_low (Some n) h = h

pub cap_low : (words : List (List ℕ)) (limits : Limits) → order_of words ≡ Some (Run limits) → limits.cap ≤ greatest_cap
cap_low words limits order =
    let is = (rests.orders words (Run limits)).0 order in
    let low = usual_low is.2.cap (settings_low is.0 is.1 none_given is.2 is.4 tt) in
    subst (λ (l : Limits). l.cap ≤ greatest_cap) (sym is.5) low
