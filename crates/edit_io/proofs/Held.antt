-- That what the forms in memory say of their fields is what a source and a sink owe.
use Rattle.std.proofs.Common.{◌≡◌, ℕ, ◌+◌, ◌-◌, ◌^◌, ◌<◌, ◌≤◌, ◌↔◌, min, List, [], ◌++◌, refl, sym, ap, ◌∙◌, inl, take, drop, length, length-append, arith}
use Rattle.std.specs.Io.KnownBytes.{Appends, Consumes, Keeps}
use Rattle.std.specs.Prelude.{Some, Result, Ok, Err, IfOk, IfErr, OnOk, OnErr, IsOk, IsErr, IsErrOf, IsTrue}
use Rattle.std.proofs.lemmas.List.{take_at, drop-drop, drop_all, length-take-le, length-drop, take-append-drop, take_all}
use Rattle.edit_io.specs.declared.streams.SinkFault.{SinkFault}
use Rattle.edit_io.specs.declared.streams.SinkFault.TheVariants.{Failed, Memory}
use Rattle.edit_io.specs.Faults.{Rose, next_call, fails_at, failed_below}
use Rattle.edit_io.specs.Handed.{handed_more}
use Rattle.edit_io.proofs.Faults.{failed_below-rises, failed_below-fails, failed_below-next, next_call-fails}

-- the bytes that a call hands out are as many as it says
pub handed_length : (bytes : List ℕ) (at n : ℕ) → n ≤ length bytes - at → length (take n (drop at bytes)) ≡ n
handed_length bytes at n h = length-take-le n (drop at bytes) (let e = length-drop at bytes in omega arith)

-- they went from the front of what was left
pub handed_out : (bytes old new : List ℕ) (at n : ℕ) → n ≤ length bytes - at → new ≡ take n (drop at bytes) ++ drop n old → Consumes (Some (drop at bytes)) (Some (drop (at + n) bytes)) (take n new)
handed_out bytes old new at n h e =
    let t : take n new ≡ take n (drop at bytes) = ap (take n) e ∙ take_at (take n (drop at bytes)) (drop n old) n (handed_length bytes at n h) in
    let d = drop-drop n at bytes in
    let a = take-append-drop n (drop at bytes) in
    cc

pub source_bound : {E : Type 0} (r : Result ℕ E) (bytes old new : List ℕ) (at most left : ℕ) → left ≡ length bytes - at → IfOk r (λ n. n ≡ min most left) → IfOk r (λ n. new ≡ take n (drop at bytes) ++ drop n old) → IfOk r (λ n. n ≤ length new)
source_bound (Ok n) bytes old new at most left l g w =
    let k = handed_length bytes at n (omega arith) in
    let m = length-append (take n (drop at bytes)) (drop n old) in
    rw w (omega arith)
source_bound (Err e) bytes old new at most left l g w = tt

pub source_bytes : {E : Type 0} (r : Result ℕ E) (bytes rest old new : List ℕ) (at after most left : ℕ) → rest ≡ bytes → left ≡ length bytes - at → IfOk r (λ n. n ≡ min most left) → IfOk r (λ n. after ≡ at + n) → IfOk r (λ n. new ≡ take n (drop at bytes) ++ drop n old) → IfOk r (λ n. Consumes (Some (drop at bytes)) (Some (drop after rest)) (take n new))
source_bytes (Ok n) bytes rest old new at after most left s l g m w = rw (s, m) (handed_out bytes old new at n (omega arith) w)
source_bytes (Err e) bytes rest old new at after most left s l g m w = tt

pub source_end : {E : Type 0} (r : Result ℕ E) (bytes rest : List ℕ) (at after most left : ℕ) → rest ≡ bytes → left ≡ length bytes - at → 0 < most → IfOk r (λ n. n ≡ min most left) → IfOk r (λ n. after ≡ at + n) → IfOk r (λ n. n ≡ 0 → drop after rest ≡ [])
source_end (Ok n) bytes rest at after most left s l p g m = λ z. rw (s, m) (drop_all (at + n) bytes (omega arith))
source_end (Err e) bytes rest at after most left s l p g m = tt

pub source_kept : {E : Type 0} (r : Result ℕ E) (bytes rest : List ℕ) (at after : ℕ) → rest ≡ bytes → OnErr r (after ≡ at) → OnErr r (Keeps (Some (drop at bytes)) (Some (drop after rest)))
source_kept (Ok n) bytes rest at after s k = tt
source_kept (Err e) bytes rest at after s k = rw (s, k) refl

pub counted : (failing failing' : List ℕ) (calls calls' : ℕ) → failing' ≡ failing → calls' ≡ next_call calls → failed_below failing calls ≤ failed_below failing' calls'
counted failing failing' calls calls' s n = rw (s, n) (failed_below-rises failing calls)

pub source_failed : {E : Type 0} (r : Result ℕ E) (failing failing' : List ℕ) (calls calls' : ℕ) → failing' ≡ failing → calls' ≡ next_call calls → (IsErr r ↔ IsTrue (fails_at failing calls)) → OnErr r (Rose (failed_below failing calls) (failed_below failing' calls'))
source_failed (Ok n) failing failing' calls calls' s n' f = tt
source_failed (Err e) failing failing' calls calls' s n f = rw (s, n) (inl (failed_below-fails failing calls (f.0 refl)))

pub source_amount : {E : Type 0} (r : Result ℕ E) (at after : ℕ) → IfOk r (λ n. after ≡ at + n) → after ≤ 2 ^ 64 - 1 → IfOk r (λ n. after ≡ handed_more at n)
source_amount (Ok n) at after m h = omega arith
source_amount (Err e) at after m h = tt

pub sink_some : {E : Type 0} (r : Result ℕ E) (most size : ℕ) → 0 < most → 0 < size → IfOk r (λ n. n ≡ min most size) → IfOk r (λ n. 0 < n)
sink_some (Ok n) most size p q g = omega arith
sink_some (Err e) most size p q g = tt

pub sink_bound : {E : Type 0} (r : Result ℕ E) (most size : ℕ) → IfOk r (λ n. n ≡ min most size) → IfOk r (λ n. n ≤ size)
sink_bound (Ok n) most size g = omega arith
sink_bound (Err e) most size g = tt

pub sink_counted : (r : Result ℕ SinkFault) (failing failing' : List ℕ) (calls calls' : ℕ) → failing' ≡ failing → OnOk r (calls' ≡ next_call calls) → IfErr r (λ e. e ≡ Failed → calls' ≡ calls + 1) → IfErr r (λ e. e ≡ Memory → calls' ≡ calls) → failed_below failing calls ≤ failed_below failing' calls'
sink_counted (Ok n) failing failing' calls calls' s ok f m = counted failing failing' calls calls' s ok
sink_counted (Err Failed) failing failing' calls calls' s ok f m = rw (s, f refl, failed_below-next) (omega arith)
sink_counted (Err Memory) failing failing' calls calls' s ok f m = rw (s, m refl) (omega arith)

pub sink_failed : (r : Result ℕ SinkFault) (failing failing' : List ℕ) (calls calls' : ℕ) → failing' ≡ failing → IfErr r (λ e. e ≡ Failed → calls' ≡ calls + 1) → (IsErrOf r Failed ↔ IsTrue (fails_at failing calls)) → IfErr r (λ e. e ≡ Failed → Rose (failed_below failing calls) (failed_below failing' calls'))
sink_failed (Ok n) failing failing' calls calls' s f h = tt
sink_failed (Err Failed) failing failing' calls calls' s f h = λ t.
    let k = h.0 refl in
    rw (s, f refl, ← next_call-fails failing calls k) (inl (failed_below-fails failing calls k))
sink_failed (Err Memory) failing failing' calls calls' s f h = λ t. cc

pub sink_memory : (r : Result ℕ SinkFault) (failing failing' : List ℕ) (calls calls' : ℕ) → failing' ≡ failing → IfErr r (λ e. e ≡ Memory → calls' ≡ calls) → IfErr r (λ e. e ≡ Memory → failed_below failing' calls' ≡ failed_below failing calls)
sink_memory (Ok n) failing failing' calls calls' s m = tt
sink_memory (Err e) failing failing' calls calls' s m = λ t. rw (s, m t) refl

-- a sink that never fails
pub sink_sure : (r : Result ℕ SinkFault) (P : Type 0) → IfErr r (λ e. e ≡ Memory) → IfErr r (λ e. e ≡ Failed → P)
sink_sure (Ok n) P m = tt
sink_sure (Err e) P m = λ t. cc

-- a source that never fails
pub sure : {E : Type 0} (r : Result ℕ E) (P : Type 0) → IsOk r → OnErr r P
sure (Ok n) P o = tt
sure (Err e) P o = cc

-- a sink that takes the whole piece
pub sure_some : {E : Type 0} (r : Result ℕ E) (size : ℕ) → 0 < size → IfOk r (λ n. n ≡ size) → IfOk r (λ n. 0 < n)
sure_some (Ok n) size p g = omega arith
sure_some (Err e) size p g = tt

pub sure_bound : {E : Type 0} (r : Result ℕ E) (size : ℕ) → IfOk r (λ n. n ≡ size) → IfOk r (λ n. n ≤ size)
sure_bound (Ok n) size g = omega arith
sure_bound (Err e) size g = tt

pub sure_bytes : {E : Type 0} (r : Result ℕ E) (old new piece : List ℕ) → IfOk r (λ n. n ≡ length piece) → OnOk r (new ≡ old ++ piece) → IfOk r (λ n. Appends (Some old) (Some new) (take n piece))
sure_bytes (Ok n) old new piece g w = w ∙ ap (λ xs. old ++ xs) (sym (take_all n piece (omega arith)))
sure_bytes (Err e) old new piece g w = tt

-- a count that stays 0
pub sure_memory : (r : Result ℕ SinkFault) → IfErr r (λ e. e ≡ Memory → ◌≡◌ {A = ℕ} 0 0)
sure_memory (Ok n) = tt
sure_memory (Err e) = λ t. refl
