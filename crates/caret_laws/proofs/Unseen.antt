-- Where no node has display none and each rule is a block, a node that isn't visible bears blanks alone.
use Rattle.std.proofs.Common.{◌≡◌, ◌≢◌, ℕ, ◌+◌, ◌<◌, Bool, true, false, ◌||◌, ◌&&◌, not, cond, eqb, bytes_eq, List, [], ◌∷◌, map, Option, Some, None, refl, sym, ap, ◌∙◌, inl, inr, arith, true≢false}
use Rattle.std.specs.Prelude.{codes}
use Rattle.std.specs.List.{filter, list_all}
use Rattle.std.specs.Option.{option_map_or, option_and_then, unwrap_or}
use Rattle.std.proofs.lemmas.Bool.{and_parts, or_cases, cases_Bool}
use Rattle.inline_value.specs.CssValue.declared.values.Display.TheVariants as display_values
use Rattle.inline_value.specs.CssValue.declared.values.WhiteSpace.{WhiteSpace}
use Rattle.inline_value.specs.CssValue.declared.values.WhiteSpace.TheVariants as white_space_values
use Rattle.inline_value.specs.CssValue.StyleText as text
use Rattle.edit_model.specs.DomModel.declared.Content.{Content}
use Rattle.edit_model.specs.DomModel.declared.Content.TheVariants.{Document, Element, Words, Remark}
use Rattle.edit_model.specs.DomModel.Contents.{name_in, is_image}
use Rattle.edit_model.specs.DomModel.Forest.{Forest, join, count_of, tree_of, parent_of, content_of, IsDistinct}
use Rattle.edit_model.specs.DomModel.Forest.Forest.{Nil, Tree}
use Rattle.edit_model.proofs.DomModel.Links.{join-Nil, tree_of_absent, eqb_refl_true}
use Rattle.edit_model.proofs.DomModel.Totals.{total-without}
use Rattle.inline_value.specs.NodeStyles.Blocks.{is_no_box, is_block_content, is_block, is_hidden, collapses, is_whitespace_under, is_whitespace_in, is_whitespace}
use Rattle.inline_value.specs.NodeStyles.OwnStyles.{own_display}
use Rattle.inline_value.specs.NodeStyles.Resolved.{display, white_space}
use Rattle.inline_value.specs.NodeTests.CollapsedWhitespace.{is_words, is_words_content, is_collapsed_whitespace}
use Rattle.inline_value.specs.NodeTests.Visible.{shows, is_boxless, shows_in, is_visible}
use Rattle.edit_model.specs.Kept as bears
use Rattle.edit_model.specs.Kept.{Letter, borne_by, is_thing, is_kept, is_empty, leaves, kept_leaves, has_no_kept_leaves}
use Rattle.edit_model.proofs.Bearing.{bears-Tree}
use Rattle.edit_model.proofs.IslandRuns.{root_content}
use Rattle.edit_model.proofs.Trees.{tree_of-inside}

-- ---- what a content tells

-- an element has display none
abbrev pub hides : Option Content → Bool
hides o = is_no_box (unwrap_or (option_and_then own_display o) display_values.Inline)

abbrev pub is_rule_content : Option Content → Bool
is_rule_content o = option_map_or (λ own. bytes_eq own (codes "hr")) (option_and_then name_in o) false

-- it has a box, and is a block where it is a rule
pub record Appears (o : Option Content) : Type 0 where
  pub box : hides o ≡ false
  pub rule : is_rule_content o ≡ true → option_map_or is_block_content o false ≡ true

-- ---- characters that collapse

collapsing : (w : WhiteSpace) (c : ℕ) → collapses w c ≡ true → bears.is_blank c ≡ true
unfolding collapses
collapsing w c h = by w h
  where
    with_break : (a b c d : Bool) → ((a || c || d) || b) ≡ true → (a || (b || (c || d))) ≡ true
    with_break true b c d h = refl
    with_break false true c d h = refl
    with_break false false true d h = refl
    with_break false false false true h = refl
    with_break false false false false h = absurd (true≢false (sym h))

    without : (a b c d : Bool) → (a || c || d) ≡ true → (a || (b || (c || d))) ≡ true
    without true b c d h = refl
    without false true c d h = refl
    without false false true d h = refl
    without false false false true h = refl
    without false false false false h = absurd (true≢false (sym h))

    by : (w : WhiteSpace) → collapses w c ≡ true → bears.is_blank c ≡ true
    by white_space_values.Normal h = with_break (eqb c 9) (eqb c 10) (eqb c 13) (eqb c 32) h
    by white_space_values.NoWrap h = with_break (eqb c 9) (eqb c 10) (eqb c 13) (eqb c 32) h
    by white_space_values.PreLine h = without (eqb c 9) (eqb c 10) (eqb c 13) (eqb c 32) h
    by white_space_values.Pre h = absurd (true≢false (sym h))
    by white_space_values.PreWrap h = absurd (true≢false (sym h))

letters_bare : (w : WhiteSpace) (chars : List ℕ) → list_all (collapses w) chars ≡ true → is_empty (filter is_kept (map Letter chars)) ≡ true
letters_bare w [] h = refl
letters_bare w (x ∷ xs) h =
    let parts = and_parts (collapses w x) (list_all (collapses w) xs) h in
    ap (λ v. is_empty (cond (not v) (Letter x ∷ filter is_kept (map Letter xs)) (filter is_kept (map Letter xs)))) (collapsing w x parts.0)
    ∙ letters_bare w xs parts.1

no_letters : (chars : List ℕ) → text.is_empty chars ≡ true → is_empty (filter is_kept (map Letter chars)) ≡ true
no_letters [] h = refl
no_letters (x ∷ xs) h = absurd (true≢false (sym h))

white_bare : (o : Option ℕ) (f : Forest Content) (chars : List ℕ) → is_whitespace_under o f chars ≡ true → is_empty (filter is_kept (map Letter chars)) ≡ true
white_bare None f chars h = no_letters chars h
white_bare (Some p) f chars h = elim (or_cases (text.is_empty chars) (list_all (collapses (white_space f p)) chars) h) [
  | inl none ↦ no_letters chars none
  | inr all ↦ letters_bare (white_space f p) chars all
]

-- ---- nodes

not_or : (a b : Bool) → (a || b) ≡ false → (a ≡ false) × (b ≡ false)
not_or true b h = absurd (true≢false h)
not_or false b h = (refl, h)

none_of : (a b c d : Bool) → (a || b || c || d) ≡ false → (a ≡ false) × (b ≡ false) × (c ≡ false)
none_of false false false d h = (refl, refl, refl)
none_of true b c d h = absurd (true≢false (by b c d h))
  where
    by : (b c d : Bool) → (true || b || c || d) ≡ false → true ≡ false
    by true true true h = h
    by true true false h = h
    by true false true h = h
    by true false false h = h
    by false true true h = h
    by false true false h = h
    by false false true h = h
    by false false false h = h
none_of false true c d h = absurd (true≢false (by c d h))
  where
    by : (c d : Bool) → (false || true || c || d) ≡ false → true ≡ false
    by true true h = h
    by true false h = h
    by false true h = h
    by false false h = h
none_of false false true d h = absurd (true≢false (by d h))
  where
    by : (d : Bool) → (false || false || true || d) ≡ false → true ≡ false
    by true h = h
    by false h = h

-- nodes of these labels appear
module _ (D : ℕ → Type 0) (f : Forest Content) (once : IsDistinct f) (appear : (l : ℕ) → D l → Appears (content_of f l)) where
  -- a node that doesn't show bears blanks alone
  node_bare : (l : ℕ) (c : Content) → D l → content_of f l ≡ Some c → shows f l ≡ false → is_empty (filter is_kept (borne_by l c)) ≡ true
  unfolding shows is_block is_words is_collapsed_whitespace is_whitespace borne_by
  node_bare l c d e h = by c e (none_of (is_block f l) (is_words f l && not (is_collapsed_whitespace f l)) (is_image f l) _ h)
    where
      Parts : Type 0
      Parts = (is_block f l ≡ false) × ((is_words f l && not (is_collapsed_whitespace f l)) ≡ false) × (is_image f l ≡ false)

      fallen : (a b : Bool) → (a && not b) ≡ false → a ≡ true → b ≡ true
      fallen a true h t = refl
      fallen true false h t = absurd (true≢false h)
      fallen false false h t = absurd (true≢false (sym t))

      by : (c : Content) → content_of f l ≡ Some c → Parts → is_empty (filter is_kept (borne_by l c)) ≡ true
      by Document e h = refl
      by (Remark chars) e h = refl
      by (Words chars) e h =
          let words : is_words f l ≡ true = ap (λ o. option_map_or is_words_content o false) e in
          let gone = fallen (is_words f l) (is_collapsed_whitespace f l) h.1 words in
          let white : is_whitespace f l ≡ true = (and_parts (is_whitespace f l) _ gone).0 in
          white_bare (parent_of f l) f chars (sym (ap (λ o. option_map_or (is_whitespace_in f (parent_of f l)) o false) e) ∙ white)
      by (Element name attributes) e h = elim (cases_Bool (is_thing name)) [
        | inr off ↦ rw off refl
        | inl on ↦ absurd (elim (or_cases (bytes_eq name (codes "img")) (bytes_eq name (codes "hr")) on) [
          | inl img ↦ true≢false (sym img ∙ (sym (ap (λ o. option_map_or (λ own. bytes_eq own (codes "img")) (option_and_then name_in o) false) e) ∙ h.2))
          | inr hr ↦ (
              let rule : is_rule_content (content_of f l) ≡ true = ap is_rule_content e ∙ hr in
              true≢false (sym ((appear l d).rule rule) ∙ h.0))
        ])
      ]

  -- ---- trees

  -- each node of a forest has such a label, and the tree that it has in f
  abbrev Part : Forest Content → Type 0
  Part g = (m : ℕ) → 0 < count_of g m → D m × (tree_of g m ≡ tree_of f m)

  part_bare : (g : Forest Content) → IsDistinct g → Part g → shows_in f g ≡ false → has_no_kept_leaves g ≡ true
  unfolding is_boxless display has_no_kept_leaves kept_leaves leaves
  part_bare Nil once_g part h = refl
  part_bare (Tree l c ks rest) once_g part h =
      let own : eqb l l ≡ true = eqb_refl_true l in
      let here : 0 < count_of (Tree l c ks rest) l = rw own (omega arith) in
      let top : tree_of (Tree l c ks rest) l ≡ Tree l c ks Nil = rw own refl in
      let content : content_of f l ≡ Some c = root_content f l c ks once (sym (part l here).1 ∙ top) in
      let halves = not_or (not (is_boxless f l) && (shows f l || shows_in f ks)) (shows_in f rest) h in
      let boxed : is_boxless f l ≡ false = (appear l (part l here).0).box in
      let parts = not_or (shows f l) (shows_in f ks) (sym (ap (λ v. not v && (shows f l || shows_in f ks)) boxed) ∙ halves.0) in
      let kids = part_bare ks (λ m. (let one = once_g m in omega (arith, one))) (λ m some. inner m some) parts.1 in
      let others = part_bare rest (λ m. (let one = once_g m in omega (arith, one))) (λ m some. outer m some) halves.1 in
      bears-Tree l c ks rest ∙ rw (node_bare l c (part l here).0 content parts.0, kids, others) refl
    where
      off : (m : ℕ) → 0 < count_of ks m + count_of rest m → eqb l m ≡ false
      off m some = elim (cases_Bool (eqb l m)) [
        | inr e ↦ e
        | inl e ↦ absurd (let one = once_g m in let one' = rw e at one in omega (arith, one', some))
      ]

      inner : (m : ℕ) → 0 < count_of ks m → D m × (tree_of ks m ≡ tree_of f m)
      inner m some =
          let apart = off m (omega (arith, some)) in
          let none : count_of rest m ≡ 0 = (let one = once_g m in omega (arith, one, some)) in
          let there : 0 < count_of (Tree l c ks rest) m = omega (arith, some) in
          let tree : tree_of (Tree l c ks rest) m ≡ tree_of ks m = rw apart (ap (join (tree_of ks m)) (tree_of_absent rest m none) ∙ join-Nil (tree_of ks m)) in
          ((part m there).0, sym tree ∙ (part m there).1)

      outer : (m : ℕ) → 0 < count_of rest m → D m × (tree_of rest m ≡ tree_of f m)
      outer m some =
          let apart = off m (omega (arith, some)) in
          let none : count_of ks m ≡ 0 = (let one = once_g m in omega (arith, one, some)) in
          let there : 0 < count_of (Tree l c ks rest) m = omega (arith, some) in
          let tree : tree_of (Tree l c ks rest) m ≡ tree_of rest m = rw apart (ap (λ g. join g (tree_of rest m)) (tree_of_absent ks m none)) in
          ((part m there).0, sym tree ∙ (part m there).1)

  pub unseen_bare : (l : ℕ) → ((m : ℕ) → 0 < count_of (tree_of f l) m → D m) → is_hidden f l ≡ false → is_visible f l ≡ false → has_no_kept_leaves (tree_of f l) ≡ true
  unfolding is_visible
  unseen_bare l within unhidden h =
      let unseen : shows_in f (tree_of f l) ≡ false = sym (ap (λ v. not v && shows_in f (tree_of f l)) unhidden) ∙ h in
      part_bare (tree_of f l) (λ m. (let one = once m in omega (arith, one, total-without (λ j _. cond (eqb j m) 1 0) f l))) (λ m inside. (within m inside, tree_of-inside f l m once inside)) unseen
