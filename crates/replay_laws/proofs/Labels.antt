-- The labels of lines that are replayed are those of nodes, or below the cap.
use Rattle.std.proofs.Common.{◌≡◌, ◌⊎◌, ℕ, zero, suc, ◌+◌, ◌<◌, ◌≤◌, ◌^◌, Bool, true, false, cond, eqb, List, [], ◌∷◌, Option, Some, None, IfSome, Ok, refl, subst, ◌∙◌, inl, inr, arith}
use Rattle.std.specs.Prelude.{◌&&◌, nat_lt, nat_le}
use Rattle.std.specs.Str.{all_scalars}
use Rattle.std.proofs.lemmas.Bool.{and_parts, ltb-true, ne_eqb}
use Rattle.std.proofs.lemmas.Bool.Decides.{eqb_tells}
use Rattle.edit_model.specs.DomModel.declared.Content.{Content}
use Rattle.edit_model.specs.DomModel.Contents.{with_chars, with_attributes}
use Rattle.edit_model.specs.DomModel.Forest.{Forest, count_of, tree_of, without, put_before, put_under, link, unlink}
use Rattle.edit_model.specs.DomModel.Forest.Forest.{Nil, Tree}
use Rattle.edit_model.proofs.DomModel.Revising.{total-revised}
use Rattle.edit_model.proofs.DomModel.Totals.{total-join, total-without, total-put_before, total-unlink}
use Rattle.inline_value.specs.ForestChanges.Change.{applied}
use Rattle.inline_value.specs.ForestChanges.Named.{Each}
use Rattle.edit_model.specs.Confined.{is_there}
use Rattle.step_text.specs.Applying.{Labelled, is_there_or_end, has_labels, fault_of, made_content, trees_after, line_applied, replayed_from}
use Rattle.step_text.specs.StepLine.{IsLabel, IsMade, IsTag, IsStepLine}
use Rattle.step_text.specs.declared.line.StepLine.{StepLine}
use Rattle.step_text.specs.declared.line.StepLine.TheVariants.{Entry, Make, Insert, Remove, Move, Words, Tag}
use Rattle.replay_laws.proofs.Firsts.{line_fits, first_applied}

-- the names of elements and attributes are those of the grammar of pages, in lower case; characters are scalar values; and no element has two attributes of a name
abbrev pub IsInGrammar : StepLine → Type 0
IsInGrammar (Make label new) = IsMade new
IsInGrammar (Words label words) = all_scalars words ≡ true
IsInGrammar (Tag label name attributes) = IsTag name attributes
IsInGrammar _ = Unit {0}

abbrev is_at : ℕ → ℕ → Content → ℕ
is_at l m c = cond (eqb m l) 1 0

-- ---- a label that no node has

none_under : (f t : Forest Content) (p : ℕ) (b : Option ℕ) (l : ℕ) → count_of f l ≡ 0 → count_of t l ≡ 0 → count_of (put_under f p b t) l ≡ 0
none_under Nil t p b l none out = refl
none_under (Tree m c ks rest) t p b l none out = by_test (eqb m p) (none_under ks t p b l (omega (arith, none)) out) (none_under rest t p b l (omega (arith, none)) out)
  where
    by_test : (v : Bool) → count_of (put_under ks p b t) l ≡ 0 → count_of (put_under rest p b t) l ≡ 0 → count_of (cond v (Tree m c (put_before ks b t) rest) (Tree m c (put_under ks p b t) (put_under rest p b t))) l ≡ 0
    by_test true below beside = (let all = total-put_before (is_at l) ks b t in omega (arith, none, out, all))
    by_test false below beside = omega (arith, none, below, beside)

none_linked : (f : Forest Content) (p : ℕ) (b : Option ℕ) (n l : ℕ) → count_of f l ≡ 0 → count_of (link f p b n) l ≡ 0
none_linked f p b n l none =
    let parts = total-without (is_at l) f n in
    none_under (without f n) (tree_of f n) p b l (omega (arith, none, parts)) (omega (arith, none, parts))

none_unlinked : (f : Forest Content) (n l : ℕ) → count_of f l ≡ 0 → count_of (unlink f n) l ≡ 0
none_unlinked f n l none = total-unlink (is_at l) f n ∙ none

-- the line makes the node of the label
abbrev Makes : StepLine → ℕ → Type 0
Makes (Make l made) m = l ≡ m
Makes _ m = ⊥

none_after : (x : StepLine) (f : Forest Content) (m : ℕ) → (Makes x m → ⊥) → count_of f m ≡ 0 → count_of (trees_after x f) m ≡ 0
unfolding trees_after applied
none_after Entry f m other none = none
none_after (Make l made) f m other none =
    let off = ne_eqb l m other in
    let t = total-join (is_at m) f (Tree l (made_content made) Nil Nil) in
    let u = rw off at t in
    omega (arith, u, none)
none_after (Insert l p b) f m other none = none_linked f p b l m none
none_after (Remove l) f m other none = none_unlinked f l m none
none_after (Move l p b) f m other none = none_linked (unlink f l) p b l m (none_unlinked f l m none)
none_after (Words l words) f m other none = total-revised l (with_chars words) (λ j. cond (eqb j m) 1 0) f ∙ none
none_after (Tag l name attributes) f m other none = total-revised l (with_attributes attributes) (λ j. cond (eqb j m) 1 0) f ∙ none

makes_or_not : (x : StepLine) (m : ℕ) → Makes x m ⊎ (Makes x m → ⊥)
makes_or_not Entry m = inr (λ h. h)
makes_or_not (Make l made) m = elim (eqb_tells l m) [ inl (_, same) ↦ inl same | inr (_, off) ↦ inr off ]
makes_or_not (Insert l p b) m = inr (λ h. h)
makes_or_not (Remove l) m = inr (λ h. h)
makes_or_not (Move l p b) m = inr (λ h. h)
makes_or_not (Words l words) m = inr (λ h. h)
makes_or_not (Tag l name attributes) m = inr (λ h. h)

-- ---- labels of at most nine digits

pub record HasLabels (d : Labelled) : Type 0 where
  pub each : (l : ℕ) → 0 < count_of d.trees l → IsLabel l
  pub capped : d.cap ≤ 10 ^ 9

made_label : (x : StepLine) (d : Labelled) (m : ℕ) → HasLabels d → has_labels x d ≡ true → Makes x m → IsLabel m
unfolding has_labels
made_label Entry d m h fits makes = absurd makes
made_label (Make l made) d m h fits makes =
    let lt = ltb-true l d.cap (and_parts (nat_le d.next l) (nat_lt l d.cap) fits).1 in
    let low = h.capped in
    let small : l < 10 ^ 9 = omega (arith, lt, low) in
    subst IsLabel makes small
made_label (Insert l p b) d m h fits makes = absurd makes
made_label (Remove l) d m h fits makes = absurd makes
made_label (Move l p b) d m h fits makes = absurd makes
made_label (Words l words) d m h fits makes = absurd makes
made_label (Tag l name attributes) d m h fits makes = absurd makes

labels_after : (x : StepLine) (d : Labelled) → HasLabels d → has_labels x d ≡ true → HasLabels (line_applied x d)
unfolding line_applied
labels_after x d h fits = record { each = λ m there. by_count m there (count_of d.trees m) refl; capped = h.capped }
  where
    by_count : (m : ℕ) → 0 < count_of (trees_after x d.trees) m → (n : ℕ) → count_of d.trees m ≡ n → IsLabel m
    by_count m there (suc n) e = h.each m (omega (arith, e))
    by_count m there zero e = elim (makes_or_not x m) [
      | inl makes ↦ made_label x d m h fits makes
      | inr other ↦ absurd (let none = none_after x d.trees m other e in omega (arith, there, none))
    ]

there : (d : Labelled) (l : ℕ) → HasLabels d → is_there d.trees l ≡ true → IsLabel l
there d l h t = h.each l (ltb-true 0 (count_of d.trees l) t)

end_there : (d : Labelled) (b : Option ℕ) → HasLabels d → is_there_or_end d.trees b ≡ true → IfSome b IsLabel
end_there d None h t = tt
end_there d (Some m) h t = there d m h t

three_there : (d : Labelled) (l p : ℕ) (b : Option ℕ) → HasLabels d → (is_there d.trees l && (is_there d.trees p && is_there_or_end d.trees b)) ≡ true → IsLabel l × IsLabel p × IfSome b IsLabel
three_there d l p b h t =
    let first = and_parts (is_there d.trees l) (is_there d.trees p && is_there_or_end d.trees b) t in
    let rest = and_parts (is_there d.trees p) (is_there_or_end d.trees b) first.1 in
    (there d l h first.0, there d p h rest.0, end_there d b h rest.1)

line_is : (x : StepLine) (d : Labelled) → HasLabels d → has_labels x d ≡ true → IsInGrammar x → IsStepLine x
unfolding has_labels
line_is Entry d h fits g = tt
line_is (Make l made) d h fits g = (made_label (Make l made) d l h fits refl, g)
line_is (Insert l p b) d h fits g = three_there d l p b h fits
line_is (Remove l) d h fits g = there d l h fits
line_is (Move l p b) d h fits g = three_there d l p b h fits
line_is (Words l words) d h fits g = (there d l h fits, g)
line_is (Tag l name attributes) d h fits g = (there d l h fits, g)

-- lines that are refused nowhere are ones of steps, where their names and characters are those of the grammar
pub lines_are : (number : ℕ) (xs : List StepLine) (d last : Labelled) → replayed_from number xs d ≡ Ok last → HasLabels d → Each IsInGrammar xs → Each IsStepLine xs
unfolding replayed_from
lines_are number [] d last e h g = tt
lines_are number (x ∷ xs) d last e h g =
    let parts = first_applied number (fault_of x d) (replayed_from (number + 1) xs (line_applied x d)) last e in
    let fits = (line_fits x d parts.0).0 in
    (line_is x d h fits g.0, lines_are (number + 1) xs (line_applied x d) last parts.1 (labels_after x d h fits) g.1)
