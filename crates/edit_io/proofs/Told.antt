-- How pieces that are read or written one after another join to one.
use Rattle.std.proofs.Common.{◌≡◌, ℕ, ◌+◌, ◌-◌, ◌<◌, ◌≤◌, List, [], ◌++◌, ap, ◌∙◌, subst, sym, take, drop, length, length-append, arith}
use Rattle.std.specs.Prelude.{Option, None, Some, IfSome}
use Rattle.std.specs.Io.KnownBytes.{Appends, Consumes, IsAtEnd, Keeps}
use Rattle.std.proofs.KnownBytes.{Appends-trans, Consumes-nil, Consumes-trans, Consumes-kept}
use Rattle.std.proofs.lemmas.List.{append-nil, take-take, drop-take, take-append-drop, take_rest, take_all, take-append-le, length-take}
use Rattle.std.proofs.Math.Seq.{take-append-add}
use Rattle.edit_io.specs.Told.{TakesPrefix, GivesAtMost, GivesMore}

-- the first i of a list, and then the first n of the rest
take-take_more : (i n : ℕ) (xs : List ℕ) → take i xs ++ take n (drop i xs) ≡ take (i + n) xs
take-take_more i n xs =
    let a = take-take i (i + n) xs (omega arith) in
    let b = drop-take i n xs in
    let d = take-append-drop i (take (i + n) xs) in
    cc

-- ---- what went from a source

-- a piece more is read
pub read_more : (start old new : Option (List ℕ)) (bytes piece more : List ℕ) → Consumes start old bytes → Consumes old new piece → more ≡ bytes ++ piece → Consumes start new more
read_more start old new bytes piece more h e m = subst (Consumes start new) (sym m) (Consumes-trans start old new bytes piece h e)

-- nothing more is read
pub read_none : (start old new : Option (List ℕ)) (bytes buffer : List ℕ) (n : ℕ) → Consumes start old bytes → Consumes old new (take n buffer) → n ≡ 0 → Consumes start new bytes
read_none start old new bytes buffer n h e z = read_more start old new bytes (take n buffer) bytes h e (sym (ap (λ k. bytes ++ take k buffer) z ∙ append-nil bytes))

-- nothing was taken
pub gives_none : (told : Option (List ℕ)) (limit : ℕ) → GivesAtMost told told limit
gives_none told limit = record { given = []; within = omega arith; left = Consumes-nil told }

-- nothing was taken
pub gives_kept : (old new : Option (List ℕ)) (limit : ℕ) → Keeps old new → GivesAtMost old new limit
gives_kept old new limit kept = record { given = []; within = omega arith; left = Consumes-kept old old new [] (Consumes-nil old) kept }

-- what was taken before, and what went now
pub gives_after : (start old new : Option (List ℕ)) (bytes : List ℕ) (limit more : ℕ) → Consumes start old bytes → length bytes + more ≤ limit → GivesAtMost old new more → GivesAtMost start new limit
gives_after start old new bytes limit more h k gives = record {
  given = bytes ++ gives.given;
  within = let e = length-append bytes gives.given in let w = gives.within in omega arith;
  left = Consumes-trans start old new bytes gives.given h gives.left;
}

-- what a buffer's first n bytes brought
pub gives_piece : (old new : Option (List ℕ)) (buffer : List ℕ) (n limit : ℕ) → Consumes old new (take n buffer) → n ≤ limit → GivesAtMost old new limit
gives_piece old new buffer n limit e h = record {
  given = take n buffer;
  within = let k = length-take n buffer in omega arith;
  left = e;
}

-- all that was left is read
pub gives_all : (start new : Option (List ℕ)) (bytes : List ℕ) (limit : ℕ) → Consumes start new bytes → length bytes ≤ limit → GivesAtMost start new limit
gives_all start new bytes limit e h = record { given = bytes; within = h; left = e }

-- where what was left is told, it is at least as long as what went from its front
told_beyond : (start new : Option (List ℕ)) (given : List ℕ) (limit : ℕ) → Consumes start new given → limit < length given → IfSome start (λ xs. limit < length xs)
told_beyond None new given limit e h = tt
told_beyond (Some xs) None given limit e h = absurd e
told_beyond (Some xs) (Some ys) given limit e h = let k = ap length e in let l = length-append given ys in omega arith

-- what was taken before, and more now than there was room for
pub gives_beyond : (start old new : Option (List ℕ)) (bytes : List ℕ) (limit room : ℕ) → Consumes start old bytes → limit ≤ length bytes + room → GivesMore old new room → IfSome start (λ xs. limit < length xs)
gives_beyond start old new bytes limit room h k gives =
    let e = length-append bytes gives.given in
    let w = gives.beyond in
    told_beyond start new (bytes ++ gives.given) limit (Consumes-trans start old new bytes gives.given h gives.left) (omega arith)

-- where all that was left is read, it is no longer than what was read
pub told_within : (start new : Option (List ℕ)) (bytes : List ℕ) (limit : ℕ) (P : Type 0) → Consumes start new bytes → IsAtEnd new → length bytes ≤ limit → IfSome start (λ xs. limit < length xs → P)
told_within None new bytes limit P e end h = tt
told_within (Some xs) None bytes limit P e end h = absurd e
told_within (Some xs) (Some ys) bytes limit P e end h = λ l.
    let k = ap length e in
    let m = length-append bytes ys in
    let none = ap length end in
    absurd (omega arith)

-- ---- what went into a sink

-- a piece more is written
pub write_more : (start old new : Option (List ℕ)) (piece : List ℕ) (at n : ℕ) → Appends start old (take at piece) → Appends old new (take n (take (length piece - at) (drop at piece))) → Appends start new (take (at + n) piece)
write_more start old new piece at n h e =
    let more = take n (take (length piece - at) (drop at piece)) in
    let joined : take at piece ++ more ≡ take (at + n) piece = ap (λ xs. take at piece ++ take n xs) (take_rest piece at) ∙ take-take_more at n piece in
    subst (Appends start new) joined (Appends-trans start old new (take at piece) more h e)

-- a piece that was taken whole is the first part of it
pub takes_whole : (old new : Option (List ℕ)) (piece : List ℕ) → Appends old new piece → TakesPrefix old new piece
takes_whole old new piece e = record {
  count = length piece;
  within = omega arith;
  taken = subst (Appends old new) (sym (take_all (length piece) piece (omega arith))) e;
}

-- the first part of a piece is that of a longer one
pub takes_longer : (old new : Option (List ℕ)) (piece more : List ℕ) → TakesPrefix old new piece → TakesPrefix old new (piece ++ more)
takes_longer old new piece more takes = record {
  count = takes.count;
  within = let k = length-append piece more in let w = takes.within in omega arith;
  taken = let w = takes.within in subst (Appends old new) (sym (take-append-le takes.count piece more w)) takes.taken;
}

-- the first part of what comes after a whole piece
pub takes_after : (start old new : Option (List ℕ)) (piece more : List ℕ) → Appends start old piece → TakesPrefix old new more → TakesPrefix start new (piece ++ more)
takes_after start old new piece more e takes = record {
  count = length piece + takes.count;
  within = let k = length-append piece more in let w = takes.within in omega arith;
  taken = subst (Appends start new) (sym (take-append-add piece more takes.count)) (Appends-trans start old new piece (take takes.count more) e takes.taken);
}
