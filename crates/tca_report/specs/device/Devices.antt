-- What a call does to a device: to its count of failures, and to the octets that it has left.
use Rattle.std.specs.Prelude.{◌≡◌, ◌⊎◌, ◌≤◌, ◌+◌, ◌-◌, ◌^◌, ℕ, List, length, Option, Result, Ok, Err}
use Rattle.std.specs.Io.KnownBytes.{Consumes}

-- the highest count, of failed calls or of reads, at which each call fails
abbrev pub most_failures : ℕ
most_failures = 2 ^ 64 - 1

-- one more was counted, or the count is the highest, at which each call fails
abbrev pub Rises : ℕ → ℕ → Type 0
Rises old new = (new ≡ old + 1) ⊎ ((old ≡ most_failures) × (new ≡ old))

-- the count rises exactly where the call failed
abbrev pub CountsFailure : {T E : Type 0} → Result T E → ℕ → ℕ → Type 0
CountsFailure (Ok x) old new = new ≡ old
CountsFailure (Err e) old new = Rises old new

-- how many reads one input may take
abbrev pub most_reads : ℕ
most_reads = 4194304

-- how many octets one read may take
abbrev pub read_size : ℕ
read_size = 65536

-- from a reader's known octets some were consumed, at least this many and at most that many
abbrev pub ConsumesWithin : ℕ → ℕ → Option (List ℕ) → Option (List ℕ) → Type 0
ConsumesWithin least most old new =
    (octets : List ℕ) × Consumes old new octets × (least ≤ length octets) × (length octets ≤ most)

-- a device of std, how many of its calls have failed, and how many reads there were
pub record Hosted (D : Type 0) : Type 0 where
  pub device : D
  pub failures : ℕ
  pub reads : ℕ
