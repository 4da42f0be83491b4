use Rattle.std.proofs.Common.{ap, refl}
use Rattle.node_paths.specs.NodeArena.Held.{label}
use Rattle.block_extend.proofs.Stepping.{before_child}
use Rattle.block_extend.proofs.places.is_before_end.Goals as goal

pub returns-in-Some : goal.returns-in-Some
returns-in-Some g c =
    let low = (before_child c.valid.ensures c.args.at c.requires c.in-Some.field-0.label (ap label c.in-Some.is)).1 in
    (λ _. low, λ _. refl)
