use Rattle.std.proofs.Common.{sym, ap, ◌∙◌}
use Rattle.css_value.specs.DeclarationList.{reads_back, set_in, set_property}
use Rattle.css_value.specs.DeclarationMap.{declarations_of}
use Rattle.css_value.proofs.Entries.{put-back, set-true, set-false}
use Rattle.css_value.proofs.Places.{put-distinct}
use Rattle.css_value.proofs.declarations.Declarations.set.Goals as goal

pub invariant_of-self-then-reads_as : goal.invariant_of-self-then-reads_as
invariant_of-self-then-reads_as c =
    let same = ap (λ n. reads_back (record { name = n; value = c.in_ok-copied.copied.items })) c.in_ok-key.ensures ∙ ap (λ v. reads_back (record { name = c.args.name.now; value = v })) c.in_ok-copied.ensures.items in (
      put-back c.put.result (declarations_of c.self.inside.list.items) (declarations_of c.put.new.list.items) c.in_ok-key.key.items c.in_ok-copied.copied.items
          c.put.ensures.ok c.put.ensures.err c.self.invariant.0 (same ∙ sym c.reads_as.ensures ∙ c.if-reads_as.true),
      put-distinct c.put.result (declarations_of c.self.inside.list.items) (declarations_of c.put.new.list.items) c.in_ok-key.key.items c.in_ok-copied.copied.items c.put.ensures.ok c.put.ensures.err c.self.invariant.1,
    )

pub returns-in_ok-put-clause-ok : goal.returns-in_ok-put-clause-ok
returns-in_ok-put-clause-ok c =
    let name = c.args.name.now in
    let old = declarations_of c.self.inside.list.items in
    c.in_ok-put.ensures.ok
    ∙ ap (λ n. set_in old n c.in_ok-copied.copied.items) c.in_ok-key.ensures
    ∙ ap (set_in old name) (c.in_ok-copied.ensures.items ∙ c.trimmed-value.ensures)
    ∙ sym (set-true old name c.args.value.now (ap (λ v. reads_back (record { name = name; value = v })) (sym c.trimmed-value.ensures) ∙ sym c.reads_as.ensures ∙ c.if-reads_as.true))
    ∙ ap (λ list. set_property list name c.args.value.now) c.self.view_is

pub returns-else-reads_as-clause-ok : goal.returns-else-reads_as-clause-ok
returns-else-reads_as-clause-ok c =
    sym (set-false c.args.self.now c.args.name.now c.args.value.now (ap (λ v. reads_back (record { name = c.args.name.now; value = v })) (sym c.trimmed-value.ensures) ∙ sym c.reads_as.ensures ∙ c.if-reads_as.false))
