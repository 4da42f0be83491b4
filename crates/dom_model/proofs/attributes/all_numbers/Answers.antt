use Rattle.std.proofs.Common.{sym, ap, ◌∙◌, option_map}
use Rattle.std.specs.Map.Iter.{deref_pair}
use Rattle.dom_model.proofs.AttributeLemmas.{next-known}
use Rattle.dom_model.proofs.attributes.all_numbers.Goals as goal

pub loop-place-preserved : goal.loop-place-preserved
loop-place-preserved c =
    next-known c.loop-place.tree.entries c.insert.new.self.entries c.in_ok-name.name c.unwrap.result.0.now c.args.rows.now.entries c.loop-place.place c.unwrap.result.0.now c.unwrap.result.1.now
    c.in_ok-insert.ensures.entries (c.in_ok-name.ensures.items ∙ c.as_slice.ensures)
    (sym c.get_index.ensures.entry ∙ ap (option_map deref_pair) c.unwrap.ensures) c.loop-place.invariant
