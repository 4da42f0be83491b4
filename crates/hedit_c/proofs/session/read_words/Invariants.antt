use Rattle.std.proofs.Common.{◌≡◌, ◌++◌, map, length, string_bytes}
use Rattle.hedit_c.specs.Session.{words_in}
use Rattle.hedit_c.proofs.session.read_words.Given as goal

-- the words so far are read, and those of the rest are still to be read
abbrev pub invariant-loop-rest : goal.invariant-loop-rest
invariant-loop-rest l = map string_bytes l.words.items ++ words_in l.rest ≡ words_in l.text

abbrev pub decreases-loop-rest : goal.decreases-loop-rest
decreases-loop-rest l = length l.rest
