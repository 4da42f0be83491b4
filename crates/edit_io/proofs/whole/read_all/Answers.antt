use Rattle.std.proofs.Common.{sym, ◌∙◌, subst, vec_len, arith}
use Rattle.std.proofs.lemmas.Result.{err_from_is_err_and}
use Rattle.std.proofs.lemmas.List.{length-take}
use Rattle.std.specs.Io.KnownBytes.{Consumes}
use Rattle.std.proofs.KnownBytes.{Consumes-nil}
use Rattle.edit_io.proofs.Handed.{handed_longer, handed_whole}
use Rattle.edit_io.proofs.Told.{gives_none, gives_after, gives_beyond, gives_piece, gives_all, read_none, read_more, told_within}
use Rattle.edit_io.proofs.whole.read_all.Goals as goal

pub returns-in_err-store-clause-given : goal.returns-in_err-store-clause-given
returns-in_err-store-clause-given g c = gives_none _ _

pub loop-bytes-init : goal.loop-bytes-init
loop-bytes-init g c = record {
  some = omega (arith, c.in_ok-store.ensures, c.as_mut_slice-buffer.ensures.len);
  within = let e = c.new-bytes.ensures.len in omega arith;
  given = subst (Consumes _ _) (sym c.new-bytes.ensures.items) (Consumes-nil (g.I.Source.left c.args.input.now));
  counted = omega arith;
  amount = let e = c.new-bytes.ensures.len in λ more. omega arith;
  at_most = let e = c.new-bytes.ensures.len in omega arith;
}

pub returns-in_err-count-clause-too_long : goal.returns-in_err-count-clause-too_long
returns-in_err-count-clause-too_long g c =
    let p = err_from_is_err_and c.from_residual-in_err-count.result c.from_residual-in_err-count.ensures.1 in
    rw p.1 (λ t. gives_beyond _ _ _ c.loop-bytes.bytes.items c.args.limit _ c.loop-bytes.invariant.given (omega (arith, c.len.ensures, c.loop-bytes.bytes.ok)) (c.in_err-count.ensures.too_long (sym p.2 ∙ t)))

pub returns-in_err-count-clause-given : goal.returns-in_err-count-clause-given
returns-in_err-count-clause-given g c = gives_after _ _ _ c.loop-bytes.bytes.items _ _ c.loop-bytes.invariant.given (omega (arith, c.len.ensures, c.loop-bytes.invariant.within, c.loop-bytes.bytes.ok)) c.in_err-count.ensures.given

pub returns-then-count-eq0-clause-bytes : goal.returns-then-count-eq0-clause-bytes
returns-then-count-eq0-clause-bytes g c = read_none _ _ _ _ _ _ c.loop-bytes.invariant.given c.in_ok-count.ensures.bytes c.if-count-eq0.true

pub returns-then-count-eq0-clause-long : goal.returns-then-count-eq0-clause-long
returns-then-count-eq0-clause-long g c =
    told_within _ _ c.loop-bytes.bytes.items _ _
    (read_none _ _ _ _ _ _ c.loop-bytes.invariant.given c.in_ok-count.ensures.bytes c.if-count-eq0.true)
    (c.in_ok-count.ensures.end c.if-count-eq0.true)
    (omega (arith, c.loop-bytes.invariant.within, c.loop-bytes.bytes.ok))

pub returns-then-count-eq0-clause-given : goal.returns-then-count-eq0-clause-given
returns-then-count-eq0-clause-given g c =
    gives_all _ _ c.loop-bytes.bytes.items _
    (read_none _ _ _ _ _ _ c.loop-bytes.invariant.given c.in_ok-count.ensures.bytes c.if-count-eq0.true)
    (omega (arith, c.loop-bytes.invariant.within, c.loop-bytes.bytes.ok))

pub loop-bytes-preserved : goal.loop-bytes-preserved
loop-bytes-preserved g c = record {
  some = omega arith;
  within = omega (arith, c.loop-bytes.invariant.within, c.len.ensures, c.in_ok-count.ensures.room, c.in_ok-count.ensures.bound, c.in_ok-extend_from_slice.ensures.len, length-take c.in_ok-count.count c.read_piece.new.buffer);
  given = read_more _ _ _ _ _ _ c.loop-bytes.invariant.given c.in_ok-count.ensures.bytes c.in_ok-extend_from_slice.ensures.items;
  counted = omega (arith, c.loop-bytes.invariant.counted, c.in_ok-count.ensures.counted);
  amount = handed_longer _ _ _ (vec_len c.loop-bytes.bytes) c.in_ok-count.count _ c.loop-bytes.invariant.amount c.in_ok-count.ensures.amount (omega (arith, c.in_ok-count.ensures.bound, c.in_ok-extend_from_slice.ensures.len, length-take c.in_ok-count.count c.read_piece.new.buffer));
  at_most = omega (arith, c.loop-bytes.invariant.at_most, c.in_ok-count.ensures.amount, c.in_ok-count.ensures.bound, c.in_ok-extend_from_slice.ensures.len, length-take c.in_ok-count.count c.read_piece.new.buffer);
}

pub returns-in_err-extend_from_slice-clause-given : goal.returns-in_err-extend_from_slice-clause-given
returns-in_err-extend_from_slice-clause-given g c =
    gives_after _ _ _ c.loop-bytes.bytes.items _ _ c.loop-bytes.invariant.given (omega (arith, c.len.ensures, c.loop-bytes.invariant.within, c.loop-bytes.bytes.ok)) (gives_piece _ _ _ _ _ c.in_ok-count.ensures.bytes c.in_ok-count.ensures.room)

pub returns-in_err-count-clause-at_most : goal.returns-in_err-count-clause-at_most
returns-in_err-count-clause-at_most g c = omega (arith, c.loop-bytes.invariant.at_most, c.loop-bytes.invariant.within, c.len.ensures, c.loop-bytes.bytes.ok, c.in_err-count.ensures.at_most)

pub returns-in_err-count-clause-beyond : goal.returns-in_err-count-clause-beyond
returns-in_err-count-clause-beyond g c =
    let p = err_from_is_err_and c.from_residual-in_err-count.result c.from_residual-in_err-count.ensures.1 in
    rw p.1 (λ t. handed_whole _ _ _ (vec_len c.loop-bytes.bytes) _ _ c.loop-bytes.invariant.amount (c.in_err-count.ensures.beyond (sym p.2 ∙ t)) (omega (arith, c.loop-bytes.invariant.within, c.len.ensures, c.loop-bytes.bytes.ok)))

pub returns-then-count-eq0-clause-amount : goal.returns-then-count-eq0-clause-amount
returns-then-count-eq0-clause-amount g c = handed_whole _ _ _ (vec_len c.loop-bytes.bytes) _ _ c.loop-bytes.invariant.amount c.in_ok-count.ensures.amount (omega (arith, c.if-count-eq0.true))

pub returns-then-count-eq0-clause-at_most : goal.returns-then-count-eq0-clause-at_most
returns-then-count-eq0-clause-at_most g c = omega (arith, c.loop-bytes.invariant.at_most, c.loop-bytes.invariant.within, c.in_ok-count.ensures.amount, c.if-count-eq0.true, c.loop-bytes.bytes.ok)

pub returns-in_err-extend_from_slice-clause-at_most : goal.returns-in_err-extend_from_slice-clause-at_most
returns-in_err-extend_from_slice-clause-at_most g c = omega (arith, c.loop-bytes.invariant.at_most, c.loop-bytes.invariant.within, c.len.ensures, c.loop-bytes.bytes.ok, c.in_ok-count.ensures.amount, c.in_ok-count.ensures.room)
