use Rattle.std.proofs.Common.{rules, ◌≡◌, ◌∙◌, ap, false, ◌∷◌, [], ◌++◌, map}
use Rattle.std.specs.List.{list_any}
use Rattle.std.specs.Str.{bytes_eq}
use Rattle.live_range.proofs.Positions.{names_after}
use Rattle.live_range.proofs.names.Names.add.Goals as goal

pub invariant_of-self-2 : goal.invariant_of-self-2
invariant_of-self-2 c =
    let before = c.self.inside.list.items in
    let none : list_any (bytes_eq c.args.name.now) (map (λ v. v.items) before) ≡ false = rw c.self.view_is c.requires in
    names_after before c.push_reserved.new.self.items c.in_ok-own.own c.in_ok-key.key c.args.name.now c.self.inside.positions.entries c.insert.new.self.entries c.len-position.result
    (c.push_reserved.ensures.items ∙ ap (λ vs. vs ++ c.in_ok-own.own ∷ []) c.reserve.ensures.items) c.in_ok-insert.ensures.entries (search rules) (search rules)
    (search rules) none c.self.invariant
