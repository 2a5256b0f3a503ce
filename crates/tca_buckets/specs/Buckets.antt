-- What a token bucket has, and what one token does to it.
use Rattle.std.specs.Prelude.{◌≡◌, ℕ, zero, suc, ◌+◌, ◌-◌, ◌≤◌, Bool, nat_lt, nat_le, Option, Some, None, if◌then◌else◌}

-- what contracts see of a bucket: its tokens, and its size
pub record TokenBucket : Type 0 where
  pub level : ℕ
  pub cap : ℕ

-- a bucket with so many tokens, where its size has room for them
abbrev pub bucket_of : ℕ → ℕ → Option TokenBucket
bucket_of level cap = if nat_le level cap then Some (record { level = level; cap = cap }) else None

-- a bucket of this size that can't have more
abbrev pub full_bucket : ℕ → TokenBucket
full_bucket cap = record { level = cap; cap = cap }

-- one token more
abbrev pub one_more : TokenBucket → TokenBucket
one_more b = record { level = b.level + 1; cap = b.cap }

-- one token, to one bucket: one more up to its size (RFC 2698 section 3, RFC 4115)
abbrev pub gain : TokenBucket → TokenBucket
gain b = if nat_lt b.level b.cap then one_more b else b

-- one token, to two buckets: to the first where it has room, else to the second where that has room, else lost (RFC 2697 section 3)
abbrev pub spill : TokenBucket × TokenBucket → TokenBucket × TokenBucket
spill p =
    if nat_lt p.0.level p.0.cap then (one_more p.0, p.1)
    else (if nat_lt p.1.level p.1.cap then (p.0, one_more p.1) else p)

-- a bucket of this size, and no more tokens in it than that
pub record IsOfSize (b : TokenBucket) (size : ℕ) : Type 0 where
  pub level : b.level ≤ size
  pub cap : b.cap ≡ size

-- a step taken so many times
unfoldable pub repeated : {A : Type 0} → ℕ → (A → A) → A → A
repeated zero step a = a
repeated (suc more) step a = repeated more step (step a)

-- whether a packet fits the tokens that there are, exactly or with one to spare
abbrev pub fits : TokenBucket → ℕ → Bool → Bool
fits b octets exact = if exact then nat_le octets b.level else nat_lt octets b.level

-- a bucket with a token less for each octet
abbrev pub after_spending : TokenBucket → ℕ → TokenBucket
after_spending b octets = record { level = b.level - octets; cap = b.cap }
