use Rattle.page_write.proofs.Visiting.{inner_document, room_whole, lines_whole}
use Rattle.page_write.proofs.listing.write_tree.Goals as goal

pub push_lines-requires-clause-inner : goal.push_lines-requires-clause-inner
push_lines-requires-clause-inner c = inner_document c.args.arena.now c.document.result.label c.valid.ensures c.document.ensures.label c.first_child.result c.first_child.ensures

pub push_lines-requires-clause-room : goal.push_lines-requires-clause-room
push_lines-requires-clause-room c = room_whole c.args.arena.now c.document.result.label c.valid.ensures c.document.ensures.label c.first_child.result c.first_child.ensures

pub returns : goal.returns
returns c = lines_whole c.args.arena.now c.document.result.label c.valid.ensures c.document.ensures.label c.first_child.result c.first_child.ensures _ _ c.new-bytes.ensures.items c.in_ok-push_lines.ensures.ok
