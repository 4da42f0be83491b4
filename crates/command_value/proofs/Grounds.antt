-- The background behind an element, turn by turn, and the element of a node.
use Rattle.std.proofs.Common.{◌≡◌, ℕ, zero, suc, ◌<◌, ◌≤◌, Bool, true, false, cond, not, List, length, Option, Some, None, refl, sym, ap, ◌∙◌, arith}
use Rattle.std.specs.Option.{option_map_or, option_and_then}
use Rattle.node_styles.specs.DomModel.declared.Content.{Content}
use Rattle.node_styles.specs.DomModel.Contents.{is_element_at}
use Rattle.node_styles.specs.DomModel.Forest.{Forest, IsDistinct, count_of, parent_of}
use Rattle.node_styles.proofs.DomModel.Links.{parent_count}
use Rattle.node_styles.specs.CssValue.declared.colours.Colour.{Colour}
use Rattle.node_styles.specs.HtmlNames.declared.commands.Command.{Command}
use Rattle.node_styles.specs.Lineage.{Ancestor, lineage}
use Rattle.node_styles.specs.Resolved.{background_color}
use Rattle.command_value.specs.EffectiveValues.{if_element, element_above, background_at, value_at, element_of, effective}
use Rattle.command_value.specs.Lines.{lineage_of}
use Rattle.command_value.specs.Subjects.{subject}
use Rattle.command_value.proofs.Ancestors.{step_at}

pub opaque : (b : Bool) → not b ≡ true → b ≡ false
opaque true h = sym h
opaque false h = refl

pub transparent_one : (b : Bool) → not b ≡ false → b ≡ true
transparent_one true h = refl
transparent_one false h = sym h

module _ (f : Forest Content) where
  abbrev behind : ℕ → Option ℕ → Colour → Colour
  behind n o here = option_map_or (background_at n f) o here

  -- a background that isn't transparent shows
  pub shows_here : (n l : ℕ) → (background_color f l).clear ≡ false → background_color f l ≡ background_at n f l
  shows_here zero l solid = refl
  shows_here (suc n) l solid = sym (ap (λ b. cond b (behind n (element_above f l) (background_color f l)) (background_color f l)) solid)

  -- so does one with no element above
  pub top_shows : (n l : ℕ) → element_above f l ≡ None → background_color f l ≡ background_at n f l
  top_shows zero l none = refl
  top_shows (suc n) l none = sym (ap (λ o. cond (background_color f l).clear (behind n o (background_color f l)) (background_color f l)) none ∙ either_way (background_color f l).clear)
    where
      either_way : (b : Bool) → cond b (background_color f l) (background_color f l) ≡ background_color f l
      either_way true = refl
      either_way false = refl

  -- a transparent one shows what is behind it
  pub goes_up : (n l p : ℕ) → (background_color f l).clear ≡ true → element_above f l ≡ Some p → background_at (suc n) f l ≡ background_at n f p
  goes_up n l p clear is =
      ap (λ b. cond b (behind n (element_above f l) (background_color f l)) (background_color f l)) clear
      ∙ ap (λ o. behind n o (background_color f l)) is

  -- where there are turns enough, more of them change nothing
  module _ (once : IsDistinct f) where
    pub enough : (n m l : ℕ) → 0 < count_of f l → length (lineage f l) ≤ n → length (lineage f l) ≤ m → background_at n f l ≡ background_at m f l
    enough zero m l here a b =
        let s = step_at f once l here in
        absurd (omega (arith, a, ap (λ (x : List Ancestor). length x) s.2))
    enough (suc n) zero l here a b =
        let s = step_at f once l here in
        absurd (omega (arith, b, ap (λ (x : List Ancestor). length x) s.2))
    enough (suc n) (suc m) l here a b =
        let s = step_at f once l here in
        let long = ap (λ (x : List Ancestor). length x) s.2 in
        ap (λ colour. cond (background_color f l).clear colour (background_color f l))
        (above (λ p there low high. enough n m p there low high) (parent_of f l) refl (omega (arith, a, long)) (omega (arith, b, long)))
      where
        above : ((p : ℕ) → 0 < count_of f p → length (lineage f p) ≤ n → length (lineage f p) ≤ m → background_at n f p ≡ background_at m f p) → (o : Option ℕ) → parent_of f l ≡ o → length (lineage_of f o) ≤ n → length (lineage_of f o) ≤ m → behind n (if_element f o) (background_color f l) ≡ behind m (if_element f o) (background_color f l)
        above further None e low high = refl
        above further (Some p) e low high = by_element (is_element_at f p)
          where
            by_element : (b : Bool) → behind n (cond b (Some p) None) (background_color f l) ≡ behind m (cond b (Some p) None) (background_color f l)
            by_element true = further p (parent_count f l p once e).1 low high
            by_element false = refl

  -- ---- the value by the element

  pub value_some : (l e : ℕ) (k : Command) → element_of f l ≡ Some e → effective f l k ≡ value_at f e (subject k)
  unfolding effective
  value_some l e k is = ap (option_and_then (λ n. value_at f n (subject k))) is

  pub value_none : (l : ℕ) (k : Command) → element_of f l ≡ None → effective f l k ≡ None
  unfolding effective
  value_none l k is = ap (option_and_then (λ n. value_at f n (subject k))) is
