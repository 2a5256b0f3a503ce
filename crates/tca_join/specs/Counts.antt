-- Counts: of two, the greater.
use Rattle.std.specs.Prelude.{ℕ, ◌<◌, ◌^◌, Bool, false, Option, None}

-- a count is a number of 32 bits
abbrev pub IsCount : ℕ → Type 0
IsCount n = n < 2 ^ 32

-- no two counts clash
abbrev pub count_clash : ℕ → ℕ → Option ℕ
count_clash a b = None

-- no join of counts is too large
abbrev pub count_full : ℕ → ℕ → Bool
count_full a b = false
