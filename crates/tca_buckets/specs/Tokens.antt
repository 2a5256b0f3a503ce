-- When the tokens of a rate arrive. A rate is in tokens per second, a time in milliseconds.
use Rattle.std.specs.Prelude.{ℕ, zero, suc, ◌+◌, ◌-◌, ◌*◌, ◌^◌, Bool, ◌&&◌, not, nat_le, List, [], ◌∷◌, length, filter}
use Rattle.std.specs.List.{list_all, list_any}

-- the first time, in milliseconds, that is too late for a packet
abbrev pub time_end : ℕ
time_end = 2 ^ 48

-- the most tokens per second of a rate, and the most tokens of a burst
abbrev pub most_rate : ℕ
most_rate = 1000000000000

-- so many numbers, from a first one on
unfoldable pub numbers_from : ℕ → ℕ → List ℕ
numbers_from first zero = []
numbers_from first (suc more) = first ∷ numbers_from (first + 1) more

-- whether a token, numbered from 1, has come by a time: rate * time is at least 1000 * token
abbrev pub has_come : ℕ → ℕ → ℕ → Bool
has_come rate token time = nat_le (1000 * token) (rate * time)

-- whether this is the least time by which the token has come
unfoldable pub arrives_at : ℕ → ℕ → ℕ → Bool
arrives_at rate token time = has_come rate token time && list_all (λ earlier. not (has_come rate token earlier)) (numbers_from 0 time)

-- the tokens that arrive after one time and at or before another; none of them has a number above rate * to
unfoldable pub due_tokens : ℕ → ℕ → ℕ → List ℕ
due_tokens rate from to = filter (λ token. list_any (arrives_at rate token) (numbers_from (from + 1) (to - from))) (numbers_from 1 (rate * to))

-- how many they are
unfoldable pub due : ℕ → ℕ → ℕ → ℕ
due rate from to = length (due_tokens rate from to)
