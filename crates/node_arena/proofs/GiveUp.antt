-- The slots emptied so far.
use Rattle.std.proofs.Common.{◌≡◌, ◌≢◌, ℕ, ◌+◌, ◌<◌, ◌≤◌, Bool, true, false, List, length, get_or, Option, Some, None, nat_lt, refl, sym, ap, subst, ◌∙◌, inl, inr, arith, eqb}
use Rattle.std.proofs.lemmas.Bool.Decides.{eqb_tells, nat_tests}
use Rattle.std.specs.Prelude.{◌&&◌, nat_le, if◌then◌else◌}
use Rattle.node_arena.specs.declared.Node.{Node}
use Rattle.node_arena.specs.Made.{kept_but, kept_outside, kept_below}
use Rattle.node_arena.specs.Sound.{IsIndexed}

nothing_between : (first : ℕ) (o : Option Node) → kept_outside first first o ≡ o
nothing_between first None = refl
nothing_between first (Some n) = (let e : (nat_le first n.label && nat_lt n.label first) ≡ false = apart first n.label in rw e refl)
  where
    apart : (a b : ℕ) → (nat_le a b && nat_lt b a) ≡ false
    apart a b = grind (arith, nat_tests)

pub give_up_start : (first : ℕ) (slots : List (Option Node)) (j : ℕ) → get_or slots j None ≡ kept_outside first first (get_or slots j None)
give_up_start first slots j = sym (nothing_between first (get_or slots j None))

one_more : (a b c : ℕ) → b ≢ c → (nat_le a b && nat_lt b (c + 1)) ≡ (nat_le a b && nat_lt b c)
one_more a b c off = grind (arith, nat_tests)

own_one : (a c : ℕ) → a ≤ c → (nat_le a c && nat_lt c (c + 1)) ≡ true
own_one a c le = grind (arith, nat_tests)

not_yet : (a c : ℕ) → (nat_le a c && nat_lt c c) ≡ false
not_yet a c = grind (arith, nat_tests)

module _ (old : List (Option Node)) (index : List ℕ) (ok : IsIndexed old index) (first key : ℕ) (le : first ≤ key) (now new : ℕ → Option Node)
    (inv : (j : ℕ) → now j ≡ kept_outside first key (get_or old j None)) (at : new (get_or index key 0) ≡ kept_but key (now (get_or index key 0)))
    (others : (j : ℕ) → j ≢ get_or index key 0 → new j ≡ now j) where
  pub give_up_turn : (j : ℕ) → new j ≡ kept_outside first (key + 1) (get_or old j None)
  give_up_turn j = by_old (get_or old j None) refl
    where
      same : now j ≡ kept_outside first key (get_or old j None)
      same = inv j

      emptied : j ≡ get_or index key 0 → new j ≡ kept_but key (now j)
      emptied e = subst (λ i. new i ≡ kept_but key (now i)) (sym e) at

      by_old : (o : Option Node) → get_or old j None ≡ o → new j ≡ kept_outside first (key + 1) o
      by_old None e =
          let none : now j ≡ None = same ∙ ap (kept_outside first key) e in
          elim (eqb_tells j (get_or index key 0)) [
            | inl (_, is) ↦ emptied is ∙ ap (kept_but key) none
            | inr (_, off) ↦ others j off ∙ none
          ]
      by_old (Some n) e =
          let seen : now j ≡ kept_outside first key (Some n) = same ∙ ap (kept_outside first key) e in
          elim (eqb_tells n.label key) [
            | inl (t, is) ↦ (
                let place : j ≡ get_or index key 0 = sym (ok.at j n e) ∙ ap (λ l. get_or index l 0) is in
                let own : (nat_le first n.label && nat_lt n.label (key + 1)) ≡ true = rw is (own_one first key le) in
                let yet : (nat_le first n.label && nat_lt n.label key) ≡ false = rw is (not_yet first key) in
                let full : now j ≡ Some n = seen ∙ rw yet refl in
                rw own (emptied place ∙ (ap (kept_but key) full ∙ rw t refl)))
            | inr (t, off) ↦ (
                let more : (nat_le first n.label && nat_lt n.label (key + 1)) ≡ (nat_le first n.label && nat_lt n.label key) = one_more first n.label key off in
                let keeps : kept_but key (kept_outside first key (Some n)) ≡ kept_outside first key (Some n) = stays (nat_le first n.label && nat_lt n.label key) t in
                rw more (elim (eqb_tells j (get_or index key 0)) [
                  | inl (_, is) ↦ emptied is ∙ (ap (kept_but key) seen ∙ keeps)
                  | inr (_, apart) ↦ others j apart ∙ seen
                ]))
          ]
        where
          stays : (v : Bool) → eqb n.label key ≡ false → (let x : Option Node = if v then None else Some n in kept_but key x ≡ x)
          stays true t = refl
          stays false t = rw t refl

all_low : (first key l : ℕ) → l < key → (nat_le first l && nat_lt l key) ≡ nat_le first l
all_low first key l lt = grind (arith, nat_tests)

pub give_up_end : (old : List (Option Node)) (index : List ℕ) → IsIndexed old index → (first key : ℕ) → length index ≤ key → (new : ℕ → Option Node) → ((j : ℕ) → new j ≡ kept_outside first key (get_or old j None)) → (j : ℕ) → new j ≡ kept_below first (get_or old j None)
give_up_end old index ok first key le new inv j = inv j ∙ by_old (get_or old j None) refl
  where
    by_old : (o : Option Node) → get_or old j None ≡ o → kept_outside first key o ≡ kept_below first o
    by_old None e = refl
    by_old (Some n) e = (let low = ok.below j n e in let t = all_low first key n.label (omega (arith, low, le)) in rw t refl)
