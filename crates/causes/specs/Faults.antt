-- What a contract sees of faults of the outside: each object counts its own, and a fault is answered only where that count rose.
use Rattle.std.specs.Prelude.{ℕ, ◌+◌, ◌-◌, ◌^◌, ◌≤◌, min, Result, OnErr}
use Rattle.std.specs.Result.{IsErrOf}

-- the number after this one of a count of 64 bits, which stands still at its last number
abbrev pub counted : ℕ → ℕ
counted n = min (n + 1) (2 ^ 64 - 1)

-- a count went up, or stands at its last number
abbrev pub Rose : ℕ → ℕ → Type 0
Rose before now = counted before ≤ now

-- a call left the count where it was or higher, and raised it where the call failed
pub record HasCause {T E : Type 0} (before now : ℕ) (result : Result T E) : Type 0 where
  pub later : before ≤ now
  pub failed : OnErr result (Rose before now)

-- a call left the count where it was or higher, and raised it where the call was refused for this reason; of other reasons,
-- as want of memory, nothing is said
pub record HasFaultCause {T E : Type 0} (reason : E) (before now : ℕ) (result : Result T E) : Type 0 where
  pub later : before ≤ now
  pub failed : IsErrOf result reason → Rose before now
