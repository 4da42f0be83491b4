use Rattle.std.proofs.Common.{◌≡◌, ◌+◌, Some, sym, ap, ◌∙◌, add-zero, subst}
use Rattle.std.specs.Option.{option_map}
use Rattle.node_paths.specs.DomModel.Forest.{parent_of}
use Rattle.node_paths.specs.DomModel.Places.{index_of}
use Rattle.block_extend.specs.BlockExtend.{out_of}
use Rattle.block_extend.specs.Gaps.{Stands}
use Rattle.block_extend.proofs.Stepping.{stands_before}
use Rattle.block_extend.proofs.places.place_before.Goals as goal

pub returns-in-Some : goal.returns-in-Some
returns-in-Some g c =
    let f = g.N.Nodes.trees c.args.nodes.now in
    let l = c.args.node.label in
    let p = c.in-Some.parent in
    let named = rw c.in-Some.is at c.parent.ensures in
    let child : parent_of f l ≡ Some p.label = sym named.is in
    let index : c.index.result ≡ index_of f l = c.index.ensures in
    let to : out_of f l 0 ≡ Some (record { label = p.label; offset = c.index.result }) =
    ap (option_map (λ q. record { label = q; offset = index_of f l + 0 })) child ∙ ap (λ n. Some (record { label = p.label; offset = n })) (rw add-zero (sym index)) in
    (to, subst (λ n. Stands (g.N.Nodes.holds c.args.nodes.now) f (record { node = p; offset = n; before = c.prev.result; after = Some c.args.node })) (sym index) (stands_before c.valid.ensures c.args.node p child c.requires named.held c.prev.result c.prev.ensures))
