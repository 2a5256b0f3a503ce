-- Many tokens at once leave what they leave one by one.
use Rattle.std.proofs.Common.{◌≡◌, ℕ, zero, suc, ◌+◌, ◌-◌, ◌<◌, refl, ◌∙◌, arith, inl, inr}
use Rattle.std.specs.Prelude.{min}
use Rattle.std.proofs.lemmas.Bool.{cases_lt, lt-ltb, le-ltb}
use Rattle.tca_buckets.specs.Buckets.{TokenBucket, IsOfSize, after_spending, full_bucket, repeated, gain, spill, one_more}

-- so many steps and then so many more
pub repeated_parts : {A : Type 0} (step : A → A) (n m : ℕ) (a : A) → repeated m step (repeated n step a) ≡ repeated (n + m) step a
unfolding repeated
repeated_parts step zero m a = let e : 0 + m ≡ m = omega arith in rw e refl
repeated_parts step (suc n) m a = let e : suc n + m ≡ suc (n + m) = omega arith in rw e (repeated_parts step n m (step a))

-- what each step keeps, all of them keep
pub repeated_keeps : {A : Type 0} (P : A → Type 0) (step : A → A) → ((a : A) → P a → P (step a)) → (n : ℕ) (a : A) → P a → P (repeated n step a)
unfolding repeated
repeated_keeps P step keeps zero a h = h
repeated_keeps P step keeps (suc n) a h = repeated_keeps P step keeps n (step a) (keeps a h)

abbrev bucket : ℕ → ℕ → TokenBucket
bucket level cap = record { level = level; cap = cap }

same_bucket : (a b cap : ℕ) → a ≡ b → ◌≡◌ {A = TokenBucket} (bucket a cap) (bucket b cap)
same_bucket a b cap p = cc

same_buckets : (a b c d cap cap' : ℕ) → a ≡ b → c ≡ d → ◌≡◌ {A = TokenBucket × TokenBucket} (bucket a cap, bucket c cap') (bucket b cap, bucket d cap')
same_buckets a b c d cap cap' p q = cc

-- so many tokens in one bucket
pub repeated_gain : (n level cap : ℕ) → repeated n gain (bucket level cap) ≡ bucket (level + min n (cap - level)) cap
unfolding repeated
repeated_gain zero level cap = same_bucket _ _ cap (omega arith)
repeated_gain (suc n) level cap =
    elim (cases_lt level cap) [
      | inl room ↦ rw (lt-ltb level cap room) (repeated_gain n (level + 1) cap ∙ same_bucket _ _ cap (omega arith))
      | inr full ↦ rw (le-ltb level cap full) (repeated_gain n level cap ∙ same_bucket _ _ cap (omega arith))
    ]

-- so many tokens in two buckets
pub repeated_spill : (n a cap b cap' : ℕ) → repeated n spill (bucket a cap, bucket b cap') ≡ (bucket (a + min n (cap - a)) cap, bucket (b + min (n - min n (cap - a)) (cap' - b)) cap')
unfolding repeated
repeated_spill zero a cap b cap' = same_buckets _ _ _ _ cap cap' (omega arith) (omega arith)
repeated_spill (suc n) a cap b cap' =
    elim (cases_lt a cap) [
      | inl room ↦ rw (lt-ltb a cap room) (repeated_spill n (a + 1) cap b cap' ∙ same_buckets _ _ _ _ cap cap' (omega arith) (omega arith))
      | inr full ↦ rw (le-ltb a cap full) (elim (cases_lt b cap') [
        | inl room ↦ rw (lt-ltb b cap' room) (repeated_spill n a cap (b + 1) cap' ∙ same_buckets _ _ _ _ cap cap' (omega arith) (omega arith))
        | inr both ↦ rw (le-ltb b cap' both) (repeated_spill n a cap b cap' ∙ same_buckets _ _ _ _ cap cap' (omega arith) (omega arith))
      ])
    ]

pub full_bucket_of_size : (size : ℕ) → IsOfSize (full_bucket size) size
full_bucket_of_size size = record { level = omega arith; cap = refl }

pub after_spending_of_size : (b : TokenBucket) (size octets : ℕ) → IsOfSize b size → IsOfSize (after_spending b octets) size
after_spending_of_size b size octets h = let level = h.level in record { level = omega arith; cap = h.cap }

one_more_of_size : (b : TokenBucket) (size : ℕ) → b.level < b.cap → IsOfSize b size → IsOfSize (one_more b) size
one_more_of_size b size room h = let cap = h.cap in record { level = omega arith; cap = h.cap }

gain_of_size : (size : ℕ) (b : TokenBucket) → IsOfSize b size → IsOfSize (gain b) size
gain_of_size size b h =
    elim (cases_lt b.level b.cap) [
      | inl room ↦ rw (lt-ltb b.level b.cap room) (one_more_of_size b size room h)
      | inr full ↦ rw (le-ltb b.level b.cap full) h
    ]

spill_of_size : (size size' : ℕ) (p : TokenBucket × TokenBucket) → IsOfSize p.0 size × IsOfSize p.1 size' → IsOfSize (spill p).0 size × IsOfSize (spill p).1 size'
spill_of_size size size' p h =
    elim (cases_lt p.0.level p.0.cap) [
      | inl room ↦ rw (lt-ltb p.0.level p.0.cap room) (one_more_of_size p.0 size room h.0, h.1)
      | inr full ↦ rw (le-ltb p.0.level p.0.cap full) (elim (cases_lt p.1.level p.1.cap) [
        | inl room ↦ rw (lt-ltb p.1.level p.1.cap room) (h.0, one_more_of_size p.1 size' room h.1)
        | inr both ↦ rw (le-ltb p.1.level p.1.cap both) h
      ])
    ]

-- however many tokens come, one bucket or two keep their sizes and stay within them
pub repeated_gain_of_size : (n size : ℕ) (b : TokenBucket) → IsOfSize b size → IsOfSize (repeated n gain b) size
repeated_gain_of_size n size b h = repeated_keeps (λ c. IsOfSize c size) gain (gain_of_size size) n b h

pub repeated_spill_of_size : (n size size' : ℕ) (p : TokenBucket × TokenBucket) → IsOfSize p.0 size × IsOfSize p.1 size' → IsOfSize (repeated n spill p).0 size × IsOfSize (repeated n spill p).1 size'
repeated_spill_of_size n size size' p h = repeated_keeps (λ q. IsOfSize q.0 size × IsOfSize q.1 size') spill (spill_of_size size size') n p h
