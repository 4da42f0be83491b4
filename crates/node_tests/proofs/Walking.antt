-- The walk to the solid neighbour on a side of a node.
use Rattle.std.proofs.Common.{◌≡◌, ℕ, ◌<◌, Bool, true, false, cond, Option, Some, None, IfSome, length, refl, sym, ap, ◌∙◌, arith}
use Rattle.std.specs.Option.{option_or, unwrap_or}
use Rattle.node_styles.specs.DomModel.declared.Content.{Content}
use Rattle.node_styles.specs.DomModel.Contents.{is_break}
use Rattle.node_styles.specs.DomModel.Forest.{Forest, tops, count_of, tree_of, parent_of, children_of, first_in}
use Rattle.node_styles.specs.DomModel.Forest.Forest.{Nil, Tree}
use Rattle.node_styles.proofs.DomModel.Indexes.{children_of-none}
use Rattle.node_styles.specs.NodeArena.declared.NodeRef.{NodeRef}
use Rattle.node_styles.specs.NodeArena.Held.{label}
use Rattle.node_styles.specs.NodeArena.Reads.{IsValid, Names}
use Rattle.node_styles.specs.Blocks.{is_block}
use Rattle.node_tests.specs.declared.neighbours.Neighbour.{Neighbour}
use Rattle.node_tests.specs.declared.neighbours.Neighbour.TheVariants.{BlockEdge, LineBreak, Solid}
use Rattle.node_tests.specs.declared.sides.Side.{Side}
use Rattle.node_tests.specs.declared.sides.Side.TheVariants.{Before, After}
use Rattle.node_tests.specs.CollapsedWhitespace.{is_solid}
use Rattle.node_tests.specs.Sides.{sibling, near_child, inward, trees}
use Rattle.node_tests.specs.SolidNeighbours.{met, first_met, neighbour_on}
use Rattle.node_tests.proofs.Around.{content_at, own_tree}
use Rattle.node_tests.proofs.Meeting.{first_met-joined, first_met-tree}
use Rattle.node_tests.proofs.Joined.{joined, joined-Nil}
use Rattle.node_tests.proofs.Steps.{step, step_in, step_out, root_alone, around}
use Rattle.node_tests.proofs.Tags.{left_from, left_past, left_in, near_parent, near_alone, in_less, over_less, up_less}

-- what is ahead of a walk that has passed l: the trees on this side, which begin with that of the node that comes next
abbrev pub ahead : Side → Forest Content → ℕ → Option ℕ → Forest Content
ahead side f l None = trees side f l
ahead side f l (Some k) = joined side (tree_of f k) (trees side f k)

-- a walk that has passed a node, and what it meets
pub record Walked (holds : NodeRef → Type 0) (f : Forest Content) (side : Side) (at : NodeRef) (next : Option NodeRef) (answer : Neighbour) : Type 0 where
  pub held : holds at
  pub next_held : IfSome next (λ r. holds r)
  pub last : label next ≡ None → sibling side f at.label ≡ None
  pub same : unwrap_or (first_met side f (ahead side f at.label (label next))) BlockEdge ≡ answer

or_second : (a b : Option ℕ) → option_or a b ≡ None → b ≡ None
or_second None b e = e
or_second (Some x) b e = absurd (let t = e in cc)

module _ (f : Forest Content) where
  no_block : (k : ℕ) → None ≡ met f k → is_block f k ≡ false
  unfolding met
  no_block k e = by_test (is_block f k) e
    where
      by_test : (b : Bool) → None ≡ cond b (Some BlockEdge) (cond (is_break f k) (Some LineBreak) (cond (is_solid f k) (Some Solid) None)) → b ≡ false
      by_test true e = absurd (let t = e in cc)
      by_test false e = refl

module _ {holds : NodeRef → Type 0} {f : Forest Content} {upper : ℕ} (law : IsValid holds f upper) where
  pub no_kids : (side : Side) (l : ℕ) (ks : Forest Content) → children_of f l ≡ tops ks → near_child side f l ≡ None → ks ≡ Nil
  no_kids side l Nil children none = refl
  no_kids Before l (Tree m c ks rest) children none = absurd (omega (arith, children_of-none f law.distinct l none, ap length children))
  no_kids After l (Tree m c ks rest) children none = absurd (let t : Some m ≡ None = sym (ap first_in children) ∙ none in cc)

module _ {holds : NodeRef → Type 0} {f : Forest Content} {upper : ℕ} (law : IsValid holds f upper) (side : Side) where
  ahead_beside : (l : ℕ) (o : Option ℕ) → o ≡ sibling side f l → trees side f l ≡ ahead side f l o
  ahead_beside l None e = refl
  ahead_beside l (Some k) e = step f law.distinct side l k (sym e)

  -- ---- a step in

  ahead_in : (k : ℕ) (c : Content) (ks : Forest Content) → tree_of f k ≡ Tree k c ks Nil → children_of f k ≡ tops ks → is_block f k ≡ false → joined side ks (trees side f k) ≡ ahead side f k (inward side f k)
  ahead_in k c ks tree children inline = by_child (near_child side f k) refl
    where
      by_child : (o : Option ℕ) → near_child side f k ≡ o → joined side ks (trees side f k) ≡ ahead side f k (option_or o (sibling side f k))
      by_child None e =
          ap (λ g. joined side g (trees side f k)) (no_kids law side k ks children e)
          ∙ joined-Nil side (trees side f k)
          ∙ ahead_beside k (sibling side f k) refl
      by_child (Some j) e = step_in f law.distinct side j k (near_parent law side k j e) (near_alone law side k j e) inline c ks tree

  met_on : (k : ℕ) → first_met side f (ahead side f k (Some k)) ≡ option_or (first_met side f (tree_of f k)) (first_met side f (trees side f k))
  met_on k = first_met-joined f side (tree_of f k) (trees side f k)

  met_in : (k : ℕ) → 0 < count_of f k → None ≡ met f k → first_met side f (ahead side f k (Some k)) ≡ first_met side f (ahead side f k (inward side f k))
  met_in k here none =
      let c = content_at f law.distinct k here in
      let own = own_tree f law.distinct k c.0 here c.1 in
      let ks = own.0 in
      met_on k
      ∙ ap (λ g. option_or (first_met side f g) (first_met side f (trees side f k))) own.1
      ∙ ap (λ o. option_or o (first_met side f (trees side f k))) (first_met-tree f side k c.0 ks ∙ ap (λ o. option_or o (first_met side f ks)) (sym none))
      ∙ sym (first_met-joined f side ks (trees side f k))
      ∙ ap (first_met side f) (ahead_in k c.0 ks own.1 own.2 (no_block f k none))

  met_at : (k : ℕ) → 0 < count_of f k → (m : Neighbour) → Some m ≡ met f k → first_met side f (ahead side f k (Some k)) ≡ Some m
  met_at k here m e =
      let c = content_at f law.distinct k here in
      let own = own_tree f law.distinct k c.0 here c.1 in
      met_on k
      ∙ ap (λ g. option_or (first_met side f g) (first_met side f (trees side f k))) own.1
      ∙ ap (λ o. option_or o (first_met side f (trees side f k))) (first_met-tree f side k c.0 own.0 ∙ ap (λ o. option_or o (first_met side f own.0)) (sym e))

  -- ---- the walk

  pub begun : (r : NodeRef) (o : Option NodeRef) → holds r → Names holds o (sibling side f r.label) → Walked holds f side r o (neighbour_on side f r.label)
  unfolding neighbour_on
  begun r o held named = record {
    held = held;
    next_held = named.held;
    last = λ none. sym named.is ∙ none;
    same = ap (λ g. unwrap_or (first_met side f g) BlockEdge) (sym (ahead_beside r.label (label o) named.is));
  }

  module _ (at k : NodeRef) (answer : Neighbour) (walked : Walked holds f side at (Some k) answer) where
    pub found : (m : Neighbour) → Some m ≡ met f k.label → m ≡ answer
    found m e = sym (ap (λ o. unwrap_or o BlockEdge) (met_at k.label (law.here k walked.next_held) m e)) ∙ walked.same

    pub gone_in : None ≡ met f k.label → (o : Option NodeRef) → Names holds o (inward side f k.label) → Walked holds f side k o answer
    gone_in none o named = record {
      held = walked.next_held;
      next_held = named.held;
      last = λ e. or_second (near_child side f k.label) (sibling side f k.label) (sym named.is ∙ e);
      same =
          ap (λ n. unwrap_or (first_met side f (ahead side f k.label n)) BlockEdge) named.is
          ∙ ap (λ o. unwrap_or o BlockEdge) (sym (met_in k.label (law.here k walked.next_held) none))
          ∙ walked.same;
    }

    pub in_nearer : (o : Option NodeRef) → Names holds o (inward side f k.label) → left_in side f k.label (label o) < left_from side f k.label
    in_nearer o named = rw named.is (by_child (near_child side f k.label) refl)
      where
        by_child : (o : Option ℕ) → near_child side f k.label ≡ o → left_in side f k.label (option_or o (sibling side f k.label)) < left_from side f k.label
        by_child None e = over_less law side k.label (law.here k walked.next_held)
        by_child (Some j) e = rw e at (in_less law side k.label (law.here k walked.next_held))

  module _ (at : NodeRef) (answer : Neighbour) (walked : Walked holds f side at None answer) where
    out : (p : ℕ) → parent_of f at.label ≡ Some p → unwrap_or (first_met side f (around f law.distinct p side)) BlockEdge ≡ answer
    out p child = ap (λ g. unwrap_or (first_met side f g) BlockEdge) (sym (step_out f law.distinct at.label p child side (walked.last refl))) ∙ walked.same

    pub gone_out : (p : NodeRef) → parent_of f at.label ≡ Some p.label → holds p → is_block f p.label ≡ false → (o : Option NodeRef) → Names holds o (sibling side f p.label) → Walked holds f side p o answer
    gone_out p child held inline o named = record {
      held = held;
      next_held = named.held;
      last = λ none. sym named.is ∙ none;
      same =
          ap (λ g. unwrap_or (first_met side f g) BlockEdge) (sym (ahead_beside p.label (label o) named.is))
          ∙ ap (λ b. unwrap_or (first_met side f (cond b Nil (trees side f p.label))) BlockEdge) (sym inline)
          ∙ out p.label child;
    }

    pub out_nearer : (p : ℕ) → parent_of f at.label ≡ Some p → (o : Option NodeRef) → Names holds o (sibling side f p) → left_in side f p (label o) < left_past side f at.label
    out_nearer p child o named = rw named.is (up_less law side at.label p child (walked.last refl))

    pub at_edge : (p : ℕ) → parent_of f at.label ≡ Some p → is_block f p ≡ true → BlockEdge ≡ answer
    at_edge p child block = ap (λ b. unwrap_or (first_met side f (cond b Nil (trees side f p))) BlockEdge) (sym block) ∙ out p child

    pub at_top : parent_of f at.label ≡ None → BlockEdge ≡ answer
    at_top root = ap (λ g. unwrap_or (first_met side f g) BlockEdge) (sym (root_alone f law.distinct at.label (law.here at walked.held) root side)) ∙ walked.same
