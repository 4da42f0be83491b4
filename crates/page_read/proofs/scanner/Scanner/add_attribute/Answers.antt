use Rattle.std.proofs.Common.{◌∙◌, ap, refl, arith}
use Rattle.std.proofs.Math.Utf8.{encodes}
use Rattle.page_read.proofs.AttributeLemmas.{added_parts}
use Rattle.page_read.proofs.scanner.Scanner.add_attribute.Goals as goal

pub returns-clause-added : goal.returns-clause-added
returns-clause-added c =
    let parts = added_parts c.args.self.now.attributes c.insert.new.self c.args.self.now.name.items c.args.self.now.value.items c.from_vec-name.result c.in_ok-value.value c.in_ok-insert.ensures.ok
    (c.from_vec-name.ensures ∙ c.in_ok-encoded.ensures ∙ ap encodes c.deref.ensures.value) (c.in_ok-value.ensures ∙ c.deref-2.ensures.value) c.requires.fresh c.requires.steady.scalar c.requires.steady.texts in
    record { added = parts.0; texts = parts.1; rest = refl }

pub returns-clause-steady : goal.returns-clause-steady
returns-clause-steady c =
    let parts = added_parts c.args.self.now.attributes c.insert.new.self c.args.self.now.name.items c.args.self.now.value.items c.from_vec-name.result c.in_ok-value.value c.in_ok-insert.ensures.ok
    (c.from_vec-name.ensures ∙ c.in_ok-encoded.ensures ∙ ap encodes c.deref.ensures.value) (c.in_ok-value.ensures ∙ c.deref-2.ensures.value) c.requires.fresh c.requires.steady.scalar c.requires.steady.texts in
    record {
      levels = omega (arith, c.requires.tag, c.requires.steady.levels);
      opens = c.requires.steady.opens;
      texts = parts.1;
      scalar = c.requires.steady.scalar;
      at = c.requires.below;
    }
