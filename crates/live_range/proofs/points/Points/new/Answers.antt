use Rattle.live_range.proofs.RowLists.{nothing_listed, none_over}
use Rattle.live_range.proofs.points.Points.new.Goals as goal

pub invariant_of-result : goal.invariant_of-result
invariant_of-result c =
    let p = c.empty_places.result in
    let pairs = c.empty_places.ensures.pairs in
    record {
      over = none_over c.new-2.result p c.empty_places.ensures.count;
      listed = nothing_listed p c.in_ok-nodes.nodes pairs.0 pairs.1 c.empty_places.ensures.count c.in_ok-nodes.ensures;
    }
