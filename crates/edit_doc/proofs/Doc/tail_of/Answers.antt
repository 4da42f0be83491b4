use Rattle.std.proofs.Common.{◌≡◌, ℕ, List, [], Option, ap, ◌∙◌}
use Rattle.std.specs.Prelude.{unwrap_or}
use Rattle.std.specs.Option.{option_and_then}
use Rattle.edit_model.specs.DomModel.Contents.{chars_in}
use Rattle.edit_model.specs.Compositions.{characters_of}
use Rattle.edit_doc.proofs.SeenNodes.{chars_seen}
use Rattle.edit_doc.proofs.ShortTexts.{short_chars}
use Rattle.edit_doc.proofs.Doc.tail_of.Goals as goal

pub tail_of-requires : goal.tail_of-requires
tail_of-requires c = short_chars c.nodes.result.now c.nodes.ensures.law c.args.node.label c.content.result.now c.content.ensures

pub returns-clause-tail : goal.returns-clause-tail
returns-clause-tail c =
    let e : characters_of c.args.self.now.state.trees c.args.node.label ≡ unwrap_or (chars_in c.content.result.now) [] = ap (λ (o : Option (List ℕ)). unwrap_or o []) (chars_seen c.nodes.ensures c.args.node c.requires ∙ ap (option_and_then chars_in) c.content.ensures) in
    rw e c.tail_of.ensures.tail

pub returns-clause-count : goal.returns-clause-count
returns-clause-count c =
    let e : characters_of c.args.self.now.state.trees c.args.node.label ≡ unwrap_or (chars_in c.content.result.now) [] = ap (λ (o : Option (List ℕ)). unwrap_or o []) (chars_seen c.nodes.ensures c.args.node c.requires ∙ ap (option_and_then chars_in) c.content.ensures) in
    rw e c.tail_of.ensures.count
