-- That what a source over a reader and a sink over a writer pass on is what a source and a sink owe.
use Rattle.std.proofs.Common.{◌≡◌, ℕ, ◌+◌, ◌-◌, ◌^◌, ◌≤◌, true, false, List, take, arith}
use Rattle.std.specs.Prelude.{Option, Result, Ok, Err, IfOk, IfErr, OnOk, OnErr, nat_lt, if◌then◌else◌}
use Rattle.std.specs.Io.KnownBytes.{Appends, Consumes, Keeps, ReadConsumes, WriteAppends}
use Rattle.edit_io.specs.declared.streams.SinkFault.{SinkFault}
use Rattle.edit_io.specs.declared.streams.SinkFault.TheVariants.{Failed, Memory}
use Rattle.edit_io.specs.Faults.{next_call}

-- ---- the bytes

pub passed_bytes : {E : Type 0} (old new : Option (List ℕ)) (r : Result ℕ E) (buf : List ℕ) → ReadConsumes old new r buf → IfOk r (λ n. Consumes old new (take n buf))
passed_bytes old new (Ok n) buf passed = passed.0
passed_bytes old new (Err e) buf passed = tt

pub passed_kept : {E : Type 0} (old new : Option (List ℕ)) (r : Result ℕ E) (buf : List ℕ) → ReadConsumes old new r buf → OnErr r (Keeps old new)
passed_kept old new (Ok n) buf passed = tt
passed_kept old new (Err e) buf passed = passed

pub taken_bytes : {E : Type 0} (old new : Option (List ℕ)) (r : Result ℕ E) (piece : List ℕ) → WriteAppends old new r piece → IfOk r (λ n. Appends old new (take n piece))
taken_bytes old new (Ok n) piece passed = passed
taken_bytes old new (Err e) piece passed = tt

pub taken_kept : {E : Type 0} (old new : Option (List ℕ)) (r : Result ℕ E) (piece : List ℕ) → WriteAppends old new r piece → OnErr r (Keeps old new)
taken_kept old new (Ok n) piece passed = tt
taken_kept old new (Err e) piece passed = passed

-- ---- the counts

-- a count that stands still at its last value never falls
next_call-rises : (calls : ℕ) → calls ≤ next_call calls
next_call-rises calls = elim (nat_lt calls (2 ^ 64 - 1)) as (λ b. calls ≤ (if b then calls + 1 else calls)) [ true ↦ omega arith | false ↦ omega arith ]

pub count_rises : {E : Type 0} (r : Result ℕ E) (old new : ℕ) → OnOk r (new ≡ old) → OnErr r (new ≡ next_call old) → old ≤ new
count_rises (Ok n) old new s h = omega arith
count_rises (Err e) old new s h = rw h (next_call-rises old)

pub each_fault : (r : Result ℕ SinkFault) (P : Type 0) → OnErr r P → IfErr r (λ e. e ≡ Failed → P)
each_fault (Ok n) P p = tt
each_fault (Err e) P p = λ t. p

pub no_memory : (r : Result ℕ SinkFault) (P : Type 0) → IfErr r (λ e. e ≡ Failed) → IfErr r (λ e. e ≡ Memory → P)
no_memory (Ok n) P f = tt
no_memory (Err e) P f = λ t. cc
