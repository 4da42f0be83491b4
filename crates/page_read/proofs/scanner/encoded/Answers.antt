use Rattle.std.proofs.Common.{◌∙◌, sym, ap, arith, ◌++◌, List, ℕ}
use Rattle.std.specs.Char.{encode_utf8}
use Rattle.page_read.proofs.AttributeLemmas.{encode_more}
use Rattle.page_read.proofs.scanner.encoded.Goals as goal

pub loop-c-preserved : goal.loop-c-preserved
loop-c-preserved c =
    c.in_ok-push.ensures.bytes ∙ ap (λ (k : List ℕ). k ++ encode_utf8 c.c-item.result) c.loop-c.invariant ∙ sym (encode_more c.args.chars.now c.loop-c.c-index c.c-item.result (omega arith) c.c-item.is)
