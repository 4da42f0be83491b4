use Rattle.page_write.proofs.Visiting.{inner_document, html_whole}
use Rattle.page_write.proofs.html.write_html.Goals as goal

pub push_trees-requires-clause-inner : goal.push_trees-requires-clause-inner
push_trees-requires-clause-inner c = inner_document c.args.arena.now c.document.result.label c.valid.ensures c.document.ensures.label c.first_child.result c.first_child.ensures

pub returns : goal.returns
returns c = html_whole c.args.arena.now c.document.result.label c.valid.ensures c.document.ensures.label c.first_child.result c.first_child.ensures _ _ c.new-bytes.ensures.items c.in_ok-push_trees.ensures.ok
