use Rattle.std.proofs.Common.{◌≡◌, drop}
use Rattle.std.specs.List.{find}
use Rattle.std.specs.Str.{bytes_eq}
use Rattle.script_read.specs.Acts.{word_of}
use Rattle.script_read.proofs.verb.find_verb.Given as goal

-- the word is none of those so far
abbrev pub invariant-loop-verb : goal.invariant-loop-verb
invariant-loop-verb l =
    find (λ verb. bytes_eq (word_of verb) l.word) (drop l.verb-index l.table) ≡ find (λ verb. bytes_eq (word_of verb) l.word) l.table
