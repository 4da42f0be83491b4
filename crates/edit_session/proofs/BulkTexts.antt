-- The paragraphs of a session of `bulk`, one by one.
use Rattle.std.proofs.Common.{◌≡◌, ℕ, suc, ◌+◌, List, ◌++◌, refl, sym, ap, ◌∙◌, append_assoc, append-nil, arith}
use Rattle.edit_session.specs.Bulk.{paragraph, paragraphs}

paragraphs_more : (n : ℕ) → paragraphs (n + 1) ≡ paragraphs n ++ paragraph (n + 1)
unfolding paragraphs
paragraphs_more n = let e : n + 1 ≡ suc n = omega arith in rw e refl

pub none_yet : (bytes : List ℕ) → bytes ≡ bytes ++ paragraphs 0
unfolding paragraphs
none_yet bytes = sym (append-nil bytes)

pub one_more : (n : ℕ) (start bytes new : List ℕ) → bytes ≡ start ++ paragraphs n → new ≡ bytes ++ paragraph (n + 1) → new ≡ start ++ paragraphs (n + 1)
one_more n start bytes new before after =
    after ∙ ap (λ b. b ++ paragraph (n + 1)) before ∙ append_assoc start (paragraphs n) (paragraph (n + 1))
    ∙ ap (λ b. start ++ b) (sym (paragraphs_more n))
