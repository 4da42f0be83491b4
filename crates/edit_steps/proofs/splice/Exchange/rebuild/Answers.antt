use Rattle.std.proofs.Common.{◌≡◌, ◌+◌, ◌-◌, ◌≤◌, List, ℕ, [], length, take, drop, unwrap_or, sym, ap, subst, ◌∙◌, arith, rules, length-drop, length-take-le}
use Rattle.std.specs.Prelude.{vec_capacity, vec_len}
use Rattle.forest_changes.specs.DomModel.Contents.{chars_of}
use Rattle.forest_changes.specs.DomModel.Room.{room_of, spliced}
use Rattle.edit_steps.proofs.Rebuilding.{parts_fit}
use Rattle.edit_steps.proofs.splice.Exchange.rebuild.Goals as goal

pub unwrap-requires : goal.unwrap-requires
unwrap-requires c =
    let x = c.args.self.now in
    let words = c.as_slice-words.result.now in
    let same : unwrap_or (chars_of c.args.arena.now.trees c.args.node.label) [] ≡ words =
    ap (λ o. unwrap_or o []) c.words.ensures ∙ sym c.as_slice-words.ensures in
    let enough : room_of (length (spliced words c.args.at (length x.taken.items) x.put.items)) ≤ vec_capacity x.spare =
    subst (λ (l : List ℕ). room_of (length (spliced l c.args.at (length x.taken.items) x.put.items)) ≤ vec_capacity x.spare) same c.requires.spare in
    let fit = parts_fit words x.put.items c.args.at (length x.taken.items) (vec_capacity x.spare) enough in
    let room = c.clear.ensures.capacity ∙ ap vec_capacity c.replace-built.ensures.value in
    c.extend_from_slice.ensures.succeeds (omega (arith, fit, room, c.clear.ensures.len))

pub unwrap-requires-2 : goal.unwrap-requires-2
unwrap-requires-2 c =
    let x = c.args.self.now in
    let words = c.as_slice-words.result.now in
    let same : unwrap_or (chars_of c.args.arena.now.trees c.args.node.label) [] ≡ words =
    ap (λ o. unwrap_or o []) c.words.ensures ∙ sym c.as_slice-words.ensures in
    let enough : room_of (length (spliced words c.args.at (length x.taken.items) x.put.items)) ≤ vec_capacity x.spare =
    subst (λ (l : List ℕ). room_of (length (spliced l c.args.at (length x.taken.items) x.put.items)) ≤ vec_capacity x.spare) same c.requires.spare in
    let fit = parts_fit words x.put.items c.args.at (length x.taken.items) (vec_capacity x.spare) enough in
    let room = c.clear.ensures.capacity ∙ ap vec_capacity c.replace-built.ensures.value in
    let one = rw c.unwrap.ensures at c.extend_from_slice.ensures.len in
    c.extend_from_slice-2.ensures.succeeds
    (omega (arith, fit, room, c.clear.ensures.len, one, ap length c.as_slice.ensures.value, c.extend_from_slice.ensures.capacity))

pub unwrap-requires-3 : goal.unwrap-requires-3
unwrap-requires-3 c =
    let x = c.args.self.now in
    let words = c.as_slice-words.result.now in
    let same : unwrap_or (chars_of c.args.arena.now.trees c.args.node.label) [] ≡ words =
    ap (λ o. unwrap_or o []) c.words.ensures ∙ sym c.as_slice-words.ensures in
    let enough : room_of (length (spliced words c.args.at (length x.taken.items) x.put.items)) ≤ vec_capacity x.spare =
    subst (λ (l : List ℕ). room_of (length (spliced l c.args.at (length x.taken.items) x.put.items)) ≤ vec_capacity x.spare) same c.requires.spare in
    let fit = parts_fit words x.put.items c.args.at (length x.taken.items) (vec_capacity x.spare) enough in
    let room = c.clear.ensures.capacity ∙ ap vec_capacity c.replace-built.ensures.value in
    let one = rw c.unwrap.ensures at c.extend_from_slice.ensures.len in
    let two = rw c.unwrap-2.ensures at c.extend_from_slice-2.ensures.len in
    let gone : c.len.result ≡ length x.taken.items = search rules in
    let from = c.args.at + c.len.result in
    let last = length-take-le (length words - from) (drop from words) (omega (arith, length-drop from words)) in
    let behind = length-drop (c.args.at + length x.taken.items) words in
    c.extend_from_slice-3.ensures.succeeds
    (omega (arith, fit, room, c.clear.ensures.len, one, two, ap length c.as_slice.ensures.value, c.extend_from_slice.ensures.capacity, c.extend_from_slice-2.ensures.capacity, gone, last, behind))
