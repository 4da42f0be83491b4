use Rattle.std.proofs.Common.{ℕ, Bool, true, false, if◌then◌else◌, List, [], ◌∷◌}
use Rattle.std.specs.List.{All}
use Rattle.std.specs.Map.{remove_entry}
use Rattle.std.specs.Str.{bytes_eq}
use Rattle.edit_model.specs.LiveRange.declared.places.Pair.{Pair}
use Rattle.std.proofs.lemmas.List.Elements.{All-cons}
use Rattle.edit_model.proofs.LiveRange.Apart.{All-head, All-tail}
use Rattle.edit_model.specs.Valid.{IsPlacedPair}
use Rattle.edit_doc.specs.History.{seen_trees}
use Rattle.edit_doc.proofs.Chosen.{other_ok, scratch_at_rest}
use Rattle.edit_doc.proofs.Doc.unset_mark.Goals as goal

one_less : (P : List ℕ × Pair → Type 0) (e : List ℕ × Pair) (es rest : List (List ℕ × Pair)) (b : Bool) → P e → All P es → All P rest → All P (if b then es else e ∷ rest)
one_less P e es rest true h hs hr = hs
one_less P e es rest false h hs hr = All-cons P e rest h hr

all_detached : (test : List ℕ → Bool) (P : List ℕ × Pair → Type 0) (es : List (List ℕ × Pair)) → All P es → All P (remove_entry test es)
all_detached test P [] h = h
all_detached test P (e ∷ es) h = one_less P e es (remove_entry test es) (test e.0) (All-head P e es h) (All-tail P e es h) (all_detached test P es (All-tail P e es h))

pub invariant_of-self : goal.invariant_of-self
invariant_of-self c =
    let d = c.self.inside in
    let ok = c.self.invariant in
    let placed = ok.valid.placed in
    rw c.unset_mark.ensures.unset (other_ok d ok d.tree.points.selection d.tree.points.scratch (remove_entry (bytes_eq c.args.name.now) d.tree.points.marks) d.tree.overrides d.tree.flags
    (record { selection = placed.selection; scratch = placed.scratch; marks = all_detached (bytes_eq c.args.name.now) (λ m. IsPlacedPair (seen_trees d.history.log d.command.start d.tree.nodes.arena.trees) m.1) d.tree.points.marks placed.marks })
    ok.valid.settings (scratch_at_rest d ok))
