-- A walk over the trees from a node on, that looks for a node that passes a test.
use Rattle.std.proofs.Common.{◌≡◌, ℕ, ◌<◌, Bool, true, false, ◌||◌, Option, Some, IfSome, refl, sym, ap, subst, ◌∙◌}
use Rattle.node_paths.specs.DomModel.declared.Content.{Content}
use Rattle.node_paths.specs.DomModel.Forest.{Forest, count_of, first_of, next_of}
use Rattle.node_paths.proofs.DomModel.Parts.{at_label}
use Rattle.node_paths.specs.NodeArena.declared.NodeRef.{NodeRef}
use Rattle.node_paths.specs.NodeArena.Held.{label}
use Rattle.node_paths.specs.NodeArena.Reads.{IsValid, Names}
use Rattle.node_paths.specs.Onward.{onward_at, IsInner}
use Rattle.node_paths.proofs.Visiting.{Visit, visit, size_from, inner_first}
use Rattle.block_extend.specs.Descendants.{has_in}

-- where a walk stands: at a node that has a parent, or past the last one
pub record At (holds : NodeRef → Type 0) (f : Forest Content) (o : Option NodeRef) : Type 0 where
  pub held : IfSome o holds
  pub inner : IsInner f (label o)

or_true : (a : Bool) → (a || true) ≡ true
or_true true = refl
or_true false = refl

module _ {holds : NodeRef → Type 0} {f : Forest Content} {upper : ℕ} (law : IsValid holds f upper) (r : NodeRef) (at : At holds f (Some r)) where
  abbrev here : 0 < count_of f r.label
  here = law.here r at.held

  abbrev content : Content
  content = (at_label f law.distinct r.label here).content

  v : Visit f r.label content
  v = visit f r.label content law.distinct here at.inner (at_label f law.distinct r.label here).content_is

  pub first_at : (o : Option NodeRef) → Names holds o (first_of f r.label) → At holds f o
  first_at o named = record { held = named.held; inner = rw named.is v.first }

  pub next_at : (o : Option NodeRef) → Names holds o (next_of f r.label) → At holds f o
  next_at o named = record { held = named.held; inner = rw named.is v.next }

  pub first_smaller : (o : Option NodeRef) → Names holds o (first_of f r.label) → size_from f (label o) < size_from f (Some r.label)
  first_smaller o named = rw named.is v.below

  pub next_smaller : (o : Option NodeRef) → Names holds o (next_of f r.label) → size_from f (label o) < size_from f (Some r.label)
  next_smaller o named = rw named.is v.after

  module _ (test : ℕ → Bool) where
    abbrev from : Option ℕ → Bool
    from o = has_in test (onward_at f o)

    abbrev first : Option ℕ
    first = first_of f r.label

    abbrev next : Option ℕ
    next = next_of f r.label

    searched : from (Some r.label) ≡ (test r.label || (from first || from next))
    searched = ap (has_in test) v.is

    pub found_here : test r.label ≡ true → true ≡ from (Some r.label)
    found_here e = sym (searched ∙ ap (λ b. b || (from first || from next)) e)

    pub found_below : (o : Option NodeRef) → Names holds o first → from (label o) ≡ true → true ≡ from (Some r.label)
    found_below o named e =
        let below : from first ≡ true = ap from (sym named.is) ∙ e in
        sym (searched ∙ ap (λ b. test r.label || (b || from next)) below ∙ or_true (test r.label))

    pub none_here : (o n : Option NodeRef) → Names holds o first → Names holds n next → test r.label ≡ false → from (label o) ≡ false → from (Some r.label) ≡ from (label n)
    none_here o n at_first at_next not_own not_below =
        let under : from first ≡ false = ap from (sym at_first.is) ∙ not_below in
        searched
        ∙ ap (λ b. b || (from first || from next)) not_own
        ∙ ap (λ b. b || from next) under
        ∙ ap from (sym at_next.is)

-- where the first child passes, a descendant does
module _ {holds : NodeRef → Type 0} {f : Forest Content} {upper : ℕ} (law : IsValid holds f upper) where
  pub begins : (test : ℕ → Bool) (r child : NodeRef) → holds r → Names holds (Some child) (first_of f r.label) → test child.label ≡ true → has_in test (onward_at f (first_of f r.label)) ≡ true
  begins test r child held named passes =
      let is : Some child.label ≡ first_of f r.label = named.is in
      let inner : IsInner f (Some child.label) = subst (IsInner f) (sym is) (inner_first f r.label law.distinct (law.here r held)) in
      ap (λ o. has_in test (onward_at f o)) (sym is) ∙ sym (found_here law child (record { held = named.held; inner = inner }) test passes)
