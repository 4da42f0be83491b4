use Rattle.std.proofs.Common.{◌≡◌, ℕ, ◌+◌, ◌-◌, ◌<◌, ◌≤◌, ◌++◌, map, Bool, false, List, length, get_or, Vec, Global, sym, ap, ◌∙◌, arith, append-nil}
use Rattle.std.proofs.lemmas.List.{get_or_default}
use Rattle.edit_model.specs.LiveRange.PointsEdit.{has_label}
use Rattle.step_edits.specs.ForestChanges.Named.{named_in}
use Rattle.step_edits.proofs.ForestChanges.ChangeLists.{each_of}
use Rattle.edit_model.specs.History.{used}
use Rattle.step_edits.specs.EditSteps.Step.{changes_of}
use Rattle.edit_doc.specs.declared.logged.MadeNode.{MadeNode}
use Rattle.edit_doc.specs.History.{roots_from}
use Rattle.edit_doc.specs.Logged.{made_node, node_at, TellNamed}
use Rattle.edit_doc.proofs.LoggedNodes.{used_step, used_past, listed_one}
use Rattle.edit_doc.proofs.logged.made_nodes.Goals as goal
use Rattle.edit_doc.proofs.logged.made_nodes.Goals.{then-index+in_ok-push_node, else-index}

told : (marks : List Bool) (ls : List ℕ) (first end n : ℕ) (b : Bool) → length marks + first ≡ end → TellNamed first ls marks → first ≤ n → n < end → b ≡ get_or marks (n - first) b → b ≡ has_label ls n
told marks ls first end n b count tell low lt is =
    let inside : n - first < length marks = omega (arith, count, low, lt) in
    let back : first + (n - first) ≡ n = omega (arith, low) in
    is ∙ (get_or_default marks (n - first) b false inside ∙ (tell (n - first) inside ∙ ap (has_label ls) back))

pub loop-label-preserved : goal.loop-label-preserved
loop-label-preserved c =
    let f = c.args.arena.now.trees in
    let xs = changes_of c.args.steps.now in
    let n = c.loop-label.label in
    let b = c.index.result.now in
    let low = c.loop-label.auto.label in
    let marks = c.in_ok-marks.ensures in
    let tells : b ≡ has_label (named_in xs) n = told c.in_ok-marks.marks.items (named_in xs) c.args.first c.args.end n b marks.count marks.marked low c.loop-label-test.true c.index.ensures in
    let step = used_step xs f n b c.valid.ensures.distinct c.valid.ensures.rising (c.requires.fresh.loose n low) tells in
    let one = listed_one c.loop-label.nodes.items b (node_at f n) (used xs (roots_from (n + 1) f)) (used xs (roots_from n f)) step c.if-index.nodes.items in
    one (elim c.if-index.branch [
      | then-index+in_ok-push_node w ↦ rw w.if-index.true (ap (λ (v : Vec MadeNode Global). v.items) w.nodes-is ∙ w.in_ok-push_node.ensures)
      | else-index w ↦ rw w.if-index.false (ap (λ (v : Vec MadeNode Global). v.items) w.nodes-is)
    ]) ∙ c.loop-label.invariant

pub returns : goal.returns
returns c =
    let f = c.args.arena.now.trees in
    let xs = changes_of c.args.steps.now in
    let done = c.loop-label-test.false in
    let none = used_past xs c.loop-label.label f (each_of (λ l. l < c.args.end) (λ l. l < c.loop-label.label) (named_in xs) (λ l h. omega (arith, h, done)) c.requires.within) in
    sym (append-nil c.loop-label.nodes.items) ∙ (ap (λ r. c.loop-label.nodes.items ++ map made_node r) (sym none) ∙ c.loop-label.invariant)
