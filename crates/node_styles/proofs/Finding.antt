-- What follows from the nearest node that was found, or not found.
use Rattle.std.proofs.Common.{◌≡◌, ℕ, Bool, Option, Some, None, IfSome, IfNone, sym, ap, ◌∙◌}
use Rattle.std.specs.Option.{option_and_then, option_map, unwrap_or, is_some}
use Rattle.node_arena.specs.DomModel.declared.Content.{Content}
use Rattle.node_arena.specs.DomModel.Forest.{Forest, content_of}
use Rattle.node_arena.specs.Reads.{Names}
use Rattle.node_arena.specs.declared.NodeRef.{NodeRef}
use Rattle.node_styles.specs.Lineage.{Ancestor, nearest, nearest_label, has_in_lineage}
use Rattle.node_styles.specs.Resolved.{inherited}
use Rattle.node_styles.specs.Traits.{IsNearest}
use Rattle.node_styles.proofs.Lineages.{has_in_lineage_nearest}

module _ (test : Content → Bool) (holds : NodeRef → Type 0) (f : Forest Content) (l : ℕ) where
  -- whether one was found
  pub found_any : (o : Option NodeRef) → IfSome o (λ r. IsNearest test holds f l r) → IfNone o (nearest test f l ≡ None) → is_some o ≡ has_in_lineage test f l
  found_any None found none = sym (has_in_lineage_nearest test f l ∙ ap is_some none)
  found_any (Some r) found none = sym (has_in_lineage_nearest test f l ∙ ap is_some found.is)

  -- which was found
  pub found_named : (o : Option NodeRef) → IfSome o (λ r. IsNearest test holds f l r) → IfNone o (nearest test f l ≡ None) → Names holds o (nearest_label test f l)
  found_named None found none = record { is = sym (ap (option_map (λ (k : Ancestor). k.label)) none); held = tt }
  found_named (Some r) found none = record { is = sym (ap (option_map (λ (k : Ancestor). k.label)) found.is); held = found.held }

module _ {V : Type 0} (own : Content → Option V) (initial : V) (holds : NodeRef → Type 0) (f : Forest Content) (l : ℕ) where
  -- the inherited value is the own value of the one that was found, else the initial one
  pub inherited_found : (r : NodeRef) (c : Content) → IsNearest (λ d. is_some (own d)) holds f l r → content_of f r.label ≡ Some c → inherited own initial f l ≡ unwrap_or (own c) initial
  inherited_found r c found at =
      let same : found.content ≡ c = (let t : Some found.content ≡ Some c = sym found.at ∙ at in cc) in
      ap (λ (o : Option Ancestor). unwrap_or (option_and_then (λ k. own k.content) o) initial) found.is ∙ ap (λ d. unwrap_or (own d) initial) same

  pub inherited_initial : nearest (λ d. is_some (own d)) f l ≡ None → inherited own initial f l ≡ initial
  inherited_initial none = ap (λ (o : Option Ancestor). unwrap_or (option_and_then (λ k. own k.content) o) initial) none
