use Rattle.std.proofs.Common.{◌≡◌, ◌+◌, Some, sym, ap, ◌∙◌, subst, arith}
use Rattle.std.specs.Option.{option_map}
use Rattle.node_paths.specs.DomModel.Forest.{parent_of}
use Rattle.node_paths.specs.DomModel.Places.{index_of}
use Rattle.block_extend.specs.BlockExtend.{out_of}
use Rattle.block_extend.specs.Gaps.{Stands}
use Rattle.block_extend.proofs.Stepping.{stands_after, index_fits}
use Rattle.block_extend.proofs.places.place_after.Goals as goal

pub overflow_add-result : goal.overflow_add-result
overflow_add-result g c = omega (arith, index_fits c.valid.ensures c.args.node c.requires.held, c.index_from.ensures)

pub returns-in-Some : goal.returns-in-Some
returns-in-Some g c =
    let f = g.N.Nodes.trees c.args.nodes.now in
    let l = c.args.node.label in
    let p = c.in-Some.parent in
    let named = rw c.in-Some.is at c.parent.ensures in
    let child : parent_of f l ≡ Some p.label = sym named.is in
    let index : c.index_from.result ≡ index_of f l = c.index_from.ensures in
    let to : out_of f l 1 ≡ Some (record { label = p.label; offset = c.index_from.result + 1 }) =
    ap (option_map (λ q. record { label = q; offset = index_of f l + 1 })) child ∙ ap (λ n. Some (record { label = p.label; offset = n + 1 })) (sym index) in
    (to, subst (λ n. Stands (g.N.Nodes.holds c.args.nodes.now) f (record { node = p; offset = n + 1; before = Some c.args.node; after = c.next.result })) (sym index) (stands_after c.valid.ensures c.args.node p child c.requires.held named.held c.next.result c.next.ensures))
