-- What the tokens that are due come to, while they are let in one at a time.
use Rattle.std.proofs.Common.{◌≡◌, ◌⊎◌, inl, inr, ℕ, ◌+◌, ◌-◌, ◌*◌, ◌/◌, ◌<◌, ◌≤◌, ◌^◌, sym, ◌∙◌, arith}
use Rattle.std.specs.Prelude.{min}
use Rattle.std.proofs.Math.Nat.{mul-le-mul_left}
use Rattle.tca_buckets.specs.Tokens.{due, most_rate}
use Rattle.tca_buckets.specs.Buckets.{TokenBucket, gain, repeated, spill}
use Rattle.tca_buckets.proofs.Due.{due_quotients}
use Rattle.tca_buckets.proofs.Steps.{repeated_gain, repeated_spill}

-- how many tokens have come by a time
abbrev pub come : ℕ → ℕ → ℕ
come rate time = rate * time / 1000

module _ (rate to : ℕ) where
  -- no number of a token is long
  pub short : rate ≤ most_rate → to < 2 ^ 48 → come rate to < 2 ^ 90
  short low time =
      let up : rate * to ≤ rate * 2 ^ 48 = mul-le-mul_left rate (omega arith) in
      omega (arith, up)

  pub rises : (from : ℕ) → from ≤ to → come rate from ≤ come rate to
  rises from h = let up : rate * from ≤ rate * to = mul-le-mul_left rate h in omega (arith, up)

  -- the tokens from the first that comes after a time up to the last are those that are due
  pub all_due : (from : ℕ) → from ≤ to → due rate from to + (come rate from + 1) ≡ come rate to + 1
  all_due from h = let up = rises from h in rw (due_quotients rate from to h) (omega (arith, up))

-- tokens from a first one up to a last one, let into a bucket until it is full
pub record AreIn (before after : TokenBucket) (first next last : ℕ) : Type 0 where
  pub start : first ≤ next
  pub finish : next ≤ last + 1
  pub level : after.level + first ≡ before.level + next
  pub size : after.cap ≡ before.cap
  pub within : after.level ≤ after.cap
  pub end : (next ≡ last + 1) ⊎ (after.level ≡ after.cap)

same_bucket : (a b : TokenBucket) → a.level ≡ b.level → a.cap ≡ b.cap → a ≡ b
same_bucket a b p q = λ i. record { level = p i; cap = q i }

pub gained : (b c : TokenBucket) (first next last n : ℕ) → n + first ≡ last + 1 → AreIn b c first next last → c ≡ repeated n gain b
gained b c first next last n all are =
    let level : c.level ≡ b.level + min n (b.cap - b.level) =
    elim are.end [
      | inl done ↦ omega (arith, done, all, are.start, are.level, are.size, are.within)
      | inr full ↦ omega (arith, full, all, are.start, are.finish, are.level, are.size, are.within)
    ] in
    same_bucket c (record { level = b.level + min n (b.cap - b.level); cap = b.cap }) level are.size ∙ sym (repeated_gain n b.level b.cap)

-- and then into a second one
pub spilled : (b b' c c' : TokenBucket) (first next next' last n : ℕ) → n + first ≡ last + 1 → AreIn b b' first next last → AreIn c c' next next' last → ◌≡◌ {A = TokenBucket × TokenBucket} (b', c') (repeated n spill (b, c))
spilled b b' c c' first next next' last n all one two =
    let level : b'.level ≡ b.level + min n (b.cap - b.level) =
    elim one.end [
      | inl done ↦ omega (arith, done, all, one.start, one.level, one.size, one.within)
      | inr full ↦ omega (arith, full, all, one.start, one.finish, one.level, one.size, one.within)
    ] in
    let rest : n - min n (b.cap - b.level) + next ≡ last + 1 = omega (arith, level, all, one.start, one.finish, one.level) in
    let level' : c'.level ≡ c.level + min (n - min n (b.cap - b.level)) (c.cap - c.level) =
    elim two.end [
      | inl done ↦ omega (arith, done, rest, two.start, two.level, two.size, two.within)
      | inr full ↦ omega (arith, full, rest, two.start, two.finish, two.level, two.size, two.within)
    ] in
    let first_is = same_bucket b' (record { level = b.level + min n (b.cap - b.level); cap = b.cap }) level one.size in
    let second_is = same_bucket c' (record { level = c.level + min (n - min n (b.cap - b.level)) (c.cap - c.level); cap = c.cap }) level' two.size in
    both (first_is, second_is) ∙ sym (repeated_spill n b.level b.cap c.level c.cap) where
      both : {x y z w : TokenBucket} → (x ≡ y) × (z ≡ w) → ◌≡◌ {A = TokenBucket × TokenBucket} (x, z) (y, w)
      both e = λ i. (e.0 i, e.1 i)
