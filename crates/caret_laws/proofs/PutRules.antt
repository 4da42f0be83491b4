-- Inserting a rule at a caret: what is erased is blanks, an hr comes, and its ancestors are fixed in order.
use Rattle.std.proofs.Common.{◌≡◌, ◌⊎◌, ℕ, ◌<◌, Bool, true, false, if◌then◌else◌, [], ◌∷◌, Option, Some, None, refl, sym, ap, subst, ◌∙◌}
use Rattle.std.specs.Prelude.{codes}
use Rattle.std.specs.Option.{option_map, option_and_then}
use Rattle.edit_model.specs.DomModel.declared.Content.{Content}
use Rattle.edit_model.specs.DomModel.declared.Content.TheVariants as content
use Rattle.edit_model.specs.DomModel.declared.Content.TheVariants.{Element}
use Rattle.edit_model.specs.DomModel.Contents.{name_in, name_of}
use Rattle.edit_model.specs.DomModel.Forest.{tree_of, content_of, IsWithin}
use Rattle.edit_model.specs.LiveRange.declared.places.Point.{Point}
use Rattle.edit_model.specs.State.{State}
use Rattle.edit_model.specs.Action.{made}
use Rattle.edit_model.specs.Confined.{is_inside}
use Rattle.edit_model.specs.History.{begun}
use Rattle.edit_model.specs.Kept.{Thing, borne_by}
use Rattle.edit_model.specs.Run.{Run, here, ◌>>=◌, ◌>>◌, final, value, answer, given, make_element}
use Rattle.edit_model.specs.Valid.{IsValid}
use Rattle.edit_model.proofs.Steps.{final-bind, final-answer, final-look, final-make_element}
use Rattle.edit_model.proofs.ValidRuns.{valid_along}
use Rattle.edit_laws.specs.Kinds.{Kind, kind_in, kind_of}
use Rattle.edit_laws.specs.Kinds as kinds
use Rattle.edit_laws.specs.Order.{KeepsOrder}
use Rattle.edit_laws.specs.Steady.{Steady}
use Rattle.edit_laws.proofs.StayingKinds.{kind_there, kind_along}
use Rattle.edit_laws.proofs.SteadyRuns.{steady_make_element}
use Rattle.inline_value.specs.Ancestors.{fix_ancestors}
use Rattle.command_laws.proofs.AncestorRuns.{order_preserving_fix_ancestors}
use Rattle.command_laws.proofs.DeleteRuns.{steady_erase}
use Rattle.delete_core.specs.declared.deletion.TheConstants.Manner.{KEEP_BLOCKS}
use Rattle.text_insertion.specs.Start.{if_point_inside, start_inside, erase}
use Rattle.insert_objects.specs.Putting.{from_start_inside, collapse_after, put}
use Rattle.insert_objects.specs.Rule.{widen_range, put_rule, insert_horizontal_rule}
use Rattle.caret_laws.specs.ParagraphOrder.{StandsInNoThing}
use Rattle.caret_laws.specs.RuleLaws.{StaysWhenWidened, IsFilled, PuttingSpares}
use Rattle.caret_laws.specs.SolidOrder.{solid_leaves, AddsThing, KeepsOrderUpToBlanks, StandsAt, HasRoom}
use Rattle.caret_laws.specs.Sparing.{SparesOn}
use Rattle.caret_laws.proofs.BareCarets.{left_any}
use Rattle.caret_laws.proofs.AlikeAncestors.{alike_fix_ancestors}
use Rattle.caret_laws.proofs.CaretErasing.{caret_inside}
use Rattle.caret_laws.proofs.InsideRuns.{Began, Underway, near_inside, valid_way}
use Rattle.caret_laws.proofs.OneMores.{one_same}
use Rattle.caret_laws.proofs.PutElements.{after_trees, start_caret}
use Rattle.caret_laws.proofs.PutImages.{caret_begun, room_begun}
use Rattle.caret_laws.proofs.PutThings.{put_adds, put_stands}
use Rattle.caret_laws.proofs.Solid.{solid_order}
use Rattle.caret_laws.proofs.SparingRuns.{sparing_ordered, spares_first, spares_then}
use Rattle.caret_laws.proofs.Underways.{way_steady}
use Rattle.caret_laws.proofs.WidenedCarets.{way_wide}

-- ---- an element keeps its name

named_by : (name : _) (o : Option Content) → option_map kind_in o ≡ Some (kinds.Element name) → option_and_then name_in o ≡ Some name
named_by name None e = absurd (let t : None ≡ Some (kinds.Element name) = e in cc)
named_by name (Some content.Document) e = absurd (let t : Some kinds.Document ≡ Some (kinds.Element name) = e in cc)
named_by name (Some (Element own list)) e = let t : Some (kinds.Element own) ≡ Some (kinds.Element name) = e in cc
named_by name (Some (content.Words chars)) e = absurd (let t : Some kinds.Text ≡ Some (kinds.Element name) = e in cc)
named_by name (Some (content.Remark chars)) e = absurd (let t : Some kinds.Comment ≡ Some (kinds.Element name) = e in cc)

-- an hr that is there stays one, whatever is done
rule_stays : {T : Type 0} (m : Run T) (u : State) (n : ℕ) → IsValid u → kind_of u.trees n ≡ Some (kinds.Element (codes "hr")) → name_of (final m u).trees n ≡ Some (codes "hr")
unfolding final
rule_stays m u n is e =
    let low : n < u.next = is.forest.below n (kind_there u.trees n (kinds.Element (codes "hr")) e) in
    named_by (codes "hr") (content_of (m.run u).0.trees n) (kind_along n (m.by_actions u) is low ∙ e)

-- ---- the hr

abbrev Hr : Content
Hr = Element (codes "hr") []

hr_made : (u : State) → final (make_element (codes "hr") []) u ≡ made Hr u
hr_made u = final-make_element (codes "hr") [] u

steady_hr : Steady (make_element (codes "hr") [])
steady_hr = steady_make_element (codes "hr") [] refl

hr_borne : (n : ℕ) → borne_by n Hr ≡ Thing n ∷ []
unfolding borne_by
hr_borne n = refl

valid_after : {T : Type 0} (m : Run T) (u : State) → IsValid u → IsValid (final m u)
unfolding final
valid_after m u is = valid_along (m.by_actions u) is

-- what the run adds
pub record AddsRule (t u : State) : Type 0 where
  pub label : ℕ
  pub adds : AddsThing label t u
  pub named : name_of u.trees label ≡ Some (codes "hr")

rule_later : (t u v : State) → KeepsOrderUpToBlanks t u → AddsRule u v → AddsRule t v
rule_later t u v same k = record {
  label = k.label;
  adds = one_same (Thing k.label) (solid_leaves (tree_of u.trees 0)) (solid_leaves (tree_of t.trees 0)) (solid_leaves (tree_of v.trees 0)) (solid_leaves (tree_of v.trees 0)) same refl k.adds;
  named = k.named;
}

module _ (s : State) (h : ℕ) (b : Began s h) where
  -- what is done once the hr is put
  abbrev Fixing : ℕ → Run Bool
  Fixing n = fix_ancestors n >> (collapse_after n >> answer true)

  fixed : (n : ℕ) (v : State) → IsValid v → SparesOn ((Fixing n).by_actions v) → KeepsOrder v (final (fix_ancestors n) v)
  unfolding ◌>>=◌ final value
  fixed n v is spares =
      sparing_ordered (fix_ancestors n) v (alike_fix_ancestors n) (order_preserving_fix_ancestors n) is
      (spares_first ((fix_ancestors n).by_actions v) ((collapse_after n >> answer true).by_actions (final (fix_ancestors n) v)) spares)

  fixing_trees : (n : ℕ) (v : State) → (final (Fixing n) v).trees ≡ (final (fix_ancestors n) v).trees
  fixing_trees n v =
      let run : final (Fixing n) v ≡ final (collapse_after n) (final (fix_ancestors n) v) = rw (final-bind, final-bind, final-answer) refl in
      ap (λ (w : State). w.trees) run ∙ after_trees n (final (fix_ancestors n) v)

  put_spares : (t : State) → SparesOn (put_rule.by_actions t) → SparesOn ((Fixing (value (put (codes "hr") []) t)).by_actions (final (put (codes "hr") []) t))
  unfolding put_rule ◌>>=◌ final value
  put_spares t spares = spares_then ((put (codes "hr") []).by_actions t) ((Fixing (value (put (codes "hr") []) t)).by_actions (final (put (codes "hr") []) t)) spares

  rule_put : (t : State) → Underway s h false t → (p : Point) → StandsAt t p → is_inside t p.label ≡ true → SparesOn (put_rule.by_actions t) → AddsRule t (final put_rule t)
  unfolding put_rule
  rule_put t way p caret held spares =
      let v = final (put (codes "hr") []) t in
      let n = value (put (codes "hr") []) t in
      let w = final (fix_ancestors n) v in
      let is_v : IsValid v = valid_after (put (codes "hr") []) t (valid_way s h false b t way) in
      let adds = put_adds s h b (codes "hr") [] Hr hr_made steady_hr hr_borne t way p caret held in
      let stands = put_stands s h b (codes "hr") [] Hr hr_made steady_hr hr_borne t way p caret held in
      let keeps : KeepsOrderUpToBlanks v w = solid_order v w (fixed n v is_v (put_spares t spares)) in
      let trees : (final put_rule t).trees ≡ w.trees = ap (λ (u : State). u.trees) (final-bind (put (codes "hr") []) Fixing t) ∙ fixing_trees n v in
      record {
        label = t.next;
        adds = one_same (Thing t.next) (solid_leaves (tree_of t.trees 0)) (solid_leaves (tree_of t.trees 0)) (solid_leaves (tree_of v.trees 0)) (solid_leaves (tree_of (final put_rule t).trees 0)) refl (sym keeps ∙ ap (λ f. solid_leaves (tree_of f 0)) (sym trees)) adds;
        named = ap (λ f. name_of f t.next) trees ∙ rule_stays (fix_ancestors n) v t.next is_v (ap (option_map kind_in) stands);
      }

  rule_shown : (t : State) → Underway s h false t → (p : Point) → StandsAt t p → is_inside t p.label ≡ true → SparesOn (put_rule.by_actions t) → AddsRule t (final (from_start_inside λ q. put_rule) t)
  unfolding start_inside
  rule_shown t way p caret held spares =
      let start : final (from_start_inside λ q. put_rule) t ≡ final put_rule t =
      final-look _ t ∙ (ap (λ o. final (given (if_point_inside t o) (answer true) (λ q. put_rule)) t) (start_caret t p caret) ∙ ap (λ v. final (given (if v then Some p else None) (answer true) (λ q. put_rule)) t) held) in
      subst (AddsRule t) (sym start) (rule_put t way p caret held spares)

  -- ---- the whole

  kept_apart : KEEP_BLOCKS.block_merging ≡ false
  kept_apart = refl

  rule_inserted : (t : State) → Underway s h false t → (p : Point) → StandsAt t p → is_inside t p.label ≡ true → HasRoom t → StaysWhenWidened t p ⊎ (IsFilled t p.label ⊎ StandsInNoThing t p.label)
      → SparesOn (put_rule.by_actions (final (erase KEEP_BLOCKS) (final widen_range t))) → AddsRule t (final insert_horizontal_rule t)
  unfolding insert_horizontal_rule
  rule_inserted t way p caret held room wide spares =
      let v = final widen_range t in
      let u = final (erase KEEP_BLOCKS) v in
      let k = left_any s h b t way p caret held room KEEP_BLOCKS kept_apart wide in
      let way_u = way_steady s h b (erase KEEP_BLOCKS) v (steady_erase KEEP_BLOCKS) (way_wide s h b t way p caret held room) in
      let there : IsWithin u.trees 0 k.place.label = caret_inside u k.place (valid_way s h false b u way_u) k.caret in
      let held_u = near_inside s h false b u way_u k.place.label k.near there in
      let run : final (widen_range >> (erase KEEP_BLOCKS >> from_start_inside λ q. put_rule)) t ≡ final (from_start_inside λ q. put_rule) u = final-bind widen_range (λ _. erase KEEP_BLOCKS >> from_start_inside λ q. put_rule) t ∙ final-bind (erase KEEP_BLOCKS) (λ _. from_start_inside λ q. put_rule) v in
      subst (AddsRule t) (sym run)
      (rule_later t u (final (from_start_inside λ q. put_rule) u) k.order (rule_shown u way_u k.place k.caret held_u spares))

  -- ---- the beginning of a command

  adds_begun : (t : State) → AddsRule (begun (Some h) false s) t → AddsRule s t
  unfolding begun
  adds_begun t k = record { label = k.label; adds = k.adds; named = k.named }

  wide_begun : (p : Point) → StaysWhenWidened (begun (Some h) false s) p ⊎ (IsFilled s p.label ⊎ StandsInNoThing s p.label) → StaysWhenWidened (begun (Some h) false s) p ⊎ (IsFilled (begun (Some h) false s) p.label ⊎ StandsInNoThing (begun (Some h) false s) p.label)
  unfolding begun
  wide_begun p wide = wide

  pub rule_added : (p : Point) → HasRoom s → StandsAt s p → is_inside (begun (Some h) false s) p.label ≡ true → StaysWhenWidened (begun (Some h) false s) p ⊎ (IsFilled s p.label ⊎ StandsInNoThing s p.label) → PuttingSpares (begun (Some h) false s) → AddsRule s (final insert_horizontal_rule (begun (Some h) false s))
  rule_added p room caret held wide spares =
      let u = begun (Some h) false s in
      adds_begun (final insert_horizontal_rule u)
      (rule_inserted u (record { way = here; leaves = tt }) p (caret_begun s h b p caret) held (room_begun s h b room) (wide_begun p wide) spares)
