use Rattle.std.proofs.Common.{◌≡◌, ◌+◌, ◌++◌, ◌<◌, ◌&&◌, not, length, drop, [], ◌∷◌, Some, None, true, false, sym, ap, ◌∙◌, subst, arith}
use Rattle.std.specs.List.{All, filter}
use Rattle.std.specs.Prelude.{IfSome}
use Rattle.block_extend.specs.Gaps.{is_below, top_of, IsTaken}
use Rattle.block_extend.specs.Gather.{gather}
use Rattle.block_extend.proofs.Nesting.{gather_after, gather_in_order}
use Rattle.block_extend.proofs.Taking.{labels, member, pushed_held, passed_over, taken_in, with_inside, same_top, came_inside, just_taken}
use Rattle.block_extend.proofs.gathering.gather.Goals as goal
use Rattle.block_extend.proofs.gathering.gather.Goals.{then-is_below, else-is_below+then-chooses_next+in_ok-push, else-is_below+else-chooses_next}

pub loop-node-init : goal.loop-node-init
unfolding gather
loop-node-init g c =
    let f = g.N.Nodes.trees c.args.nodes.now in
    let test = g.C.Choice.chosen c.args.choice.now c.args.nodes.now in
    let chosen = filter test (labels c.args.list.now) in
    let empty : c.new-kept.result.items ≡ [] = c.new-kept.ensures.items in
    record {
      held = λ k d low. absurd (omega (arith, ap length empty, low));
      last = tt;
      known = tt;
      same = ap (λ ys. labels ys ++ gather_after f None chosen) empty ∙ sym (gather_in_order f c.valid.ensures.distinct chosen c.requires.order.among);
    }

pub loop-node-preserved : goal.loop-node-preserved
loop-node-preserved g c =
    let f = g.N.Nodes.trees c.args.nodes.now in
    let holds = g.N.Nodes.holds c.args.nodes.now in
    let test = g.C.Choice.chosen c.args.choice.now c.args.nodes.now in
    let knows = g.C.Choice.knows c.args.choice.now c.args.nodes.now in
    let xs = c.args.list.now in
    let i = c.loop-node.node-index in
    let low : i < length xs = c.loop-node-test.true in
    let last = c.loop-node.last in
    let below : is_below f (top_of last) (member xs i).label ≡ c.is_below.result = sym c.is_below.ensures in
    let before = c.loop-node.invariant in
    let kept = c.loop-node.kept.items in
    let whole = gather f (filter test (labels xs)) in
    let rest = filter test (labels (drop (i + 1) xs)) in
    elim c.if-is_below.branch [
      | then-is_below w ↦ (
          let on : is_below f (top_of last) (member xs i).label ≡ true = below ∙ w.if-is_below.true in
          let new : c.if-is_below.last ≡ with_inside last (member xs i) = w.last-is ∙ w.with_inside-last.ensures in
          record {
            held = subst (λ v. All holds v.items) (sym w.kept-is) before.held;
            last = subst (IsTaken holds f) (sym new) (came_inside c.valid.ensures last (member xs i) before.last on);
            known = subst (λ o. IfSome o knows) (sym w.known-is) before.known;
            same =
                ap (λ v. labels v.items ++ gather_after f (top_of c.if-is_below.last) rest) w.kept-is
                ∙ ap (λ o. labels kept ++ gather_after f (top_of o) rest) new
                ∙ ap (λ o. labels kept ++ gather_after f o rest) (same_top last (member xs i))
                ∙ passed_over f test xs i low (top_of last) kept whole before.same (ap (λ b. not b && test (member xs i).label) on);
          })
      | else-is_below+then-chooses_next+in_ok-push w ↦ (
          let off : is_below f (top_of last) (member xs i).label ≡ false = below ∙ w.if-is_below.false in
          let passes : test (member xs i).label ≡ true = (let told = w.if-chooses_next.ensures.chosen in let is = w.if-chooses_next.true in cc) in
          let new : c.if-is_below.kept.items ≡ kept ++ member xs i ∷ [] = ap (λ v. v.items) w.kept-is ∙ w.in_ok-push.ensures.items in
          let taken : c.if-is_below.last ≡ Some (record { top = member xs i; inside = member xs i }) = w.last-is in
          record {
            held = pushed_held holds kept c.if-is_below.kept.items (member xs i) before.held (c.requires.held i _ low) new;
            last = subst (IsTaken holds f) (sym taken) (just_taken c.valid.ensures (member xs i) (c.requires.held i _ low));
            known = subst (λ o. IfSome o knows) (sym w.known-is) w.if-chooses_next.ensures.known;
            same =
                ap (λ o. labels c.if-is_below.kept.items ++ gather_after f (top_of o) rest) taken
                ∙ taken_in f test xs i low (top_of last) kept whole before.same c.if-is_below.kept.items new (ap (λ b. not b && test (member xs i).label) off ∙ passes);
          })
      | else-is_below+else-chooses_next w ↦ (
          let off : is_below f (top_of last) (member xs i).label ≡ false = below ∙ w.if-is_below.false in
          let fails : test (member xs i).label ≡ false = (let told = w.if-chooses_next.ensures.chosen in let is = w.if-chooses_next.false in cc) in
          record {
            held = subst (λ v. All holds v.items) (sym w.kept-is) before.held;
            last = subst (IsTaken holds f) (sym w.last-is) before.last;
            known = subst (λ o. IfSome o knows) (sym w.known-is) w.if-chooses_next.ensures.known;
            same =
                ap (λ v. labels v.items ++ gather_after f (top_of c.if-is_below.last) rest) w.kept-is
                ∙ ap (λ o. labels kept ++ gather_after f (top_of o) rest) w.last-is
                ∙ passed_over f test xs i low (top_of last) kept whole before.same (ap (λ b. not b && test (member xs i).label) off ∙ fails);
          })
    ]
