-- How many tokens are due, as a difference of two quotients, and that adjoining intervals have them in parts.
use Rattle.std.proofs.Common.{◌≡◌, ℕ, zero, suc, ◌+◌, ◌-◌, ◌*◌, ◌/◌, ◌<◌, ◌≤◌, Bool, not, ltb, leb, ◌&&◌, List, length, ap, ◌∙◌, arith, inl, inr}
use Rattle.std.specs.Prelude.{filter, max}
use Rattle.std.specs.List.{list_all, list_any}
use Rattle.std.proofs.Math.Nat.{mul-le-mul_left}
use Rattle.std.proofs.lemmas.Bool.{cases_lt, lt-ltb, le-ltb, le-leb, lt-leb}
use Rattle.std.proofs.lemmas.Bool.Decides.{nat_tests}
use Rattle.tca_buckets.specs.Tokens.{numbers_from, has_come, arrives_at, due_tokens, due}

rises : (rate s t : ℕ) → s ≤ t → rate * s ≤ rate * t
rises rate s t h = mul-le-mul_left rate h

-- whether a token had come at one of some milliseconds is seen at the last of them
none_before : (rate token n s : ℕ) → list_all (λ earlier. not (has_come rate token earlier)) (numbers_from s (suc n)) ≡ ltb (rate * (s + n)) (1000 * token)
unfolding numbers_from
none_before rate token zero s = let e : s + 0 ≡ s = omega arith in rw e (grind (arith, nat_tests))
none_before rate token (suc n) s =
    let e : s + suc n ≡ s + 1 + n = omega arith in
    let up : rate * s ≤ rate * (s + 1 + n) = rises rate s (s + 1 + n) (omega arith) in
    rw (none_before rate token n (s + 1), e) (grind (arith, nat_tests))

-- a token arrives just after s where it had not come at s
arrives_next : (rate token s : ℕ) → arrives_at rate token (s + 1) ≡ (leb (1000 * token) (rate * (s + 1)) && ltb (rate * s) (1000 * token))
unfolding arrives_at
arrives_next rate token s = let e : s + 1 ≡ suc s = omega arith in rw (e, none_before rate token s 0) (grind (arith, nat_tests))

-- a token arrives within n milliseconds after s
arrives_within : (rate token n s : ℕ) → list_any (arrives_at rate token) (numbers_from (s + 1) n) ≡ (ltb (rate * s) (1000 * token) && leb (1000 * token) (rate * (s + n)))
unfolding numbers_from
arrives_within rate token zero s = let e : s + 0 ≡ s = omega arith in rw e (grind (arith, nat_tests))
arrives_within rate token (suc n) s =
    let e : s + suc n ≡ s + 1 + n = omega arith in
    let up : rate * s ≤ rate * (s + 1) = rises rate s (s + 1) (omega arith) in
    let further : rate * (s + 1) ≤ rate * (s + 1 + n) = rises rate (s + 1) (s + 1 + n) (omega arith) in
    rw (arrives_next rate token s, arrives_within rate token n (s + 1), e) (grind (arith, nat_tests))

filter_alike : {X : Type 0} (p q : X → Bool) → ((x : X) → p x ≡ q x) → (xs : List X) → filter p xs ≡ filter q xs
filter_alike p q same xs = λ i. filter (λ x. same x i) xs

-- how many of n numbers from k on are above p and at most q
between : (p q n k : ℕ) → q < k + n → length (filter (λ token. ltb p token && leb token q) (numbers_from k n)) ≡ q + 1 - max (p + 1) k
unfolding numbers_from
between p q zero k h = omega arith
between p q (suc n) k h =
    elim (cases_lt p k) [
      | inl above ↦ elim (cases_lt q k) [
        | inl past ↦ rw (lt-ltb p k above, lt-leb k q past) (between p q n (k + 1) (omega arith) ∙ omega arith)
        | inr here ↦ rw (lt-ltb p k above, le-leb k q here) (ap suc (between p q n (k + 1) (omega arith)) ∙ omega arith)
      ]
      | inr below ↦ rw (le-ltb p k below) (between p q n (k + 1) (omega arith) ∙ omega arith)
    ]

-- a token against thousands, and against their quotients
in_thousands : (lo hi k : ℕ) → (ltb lo (1000 * k) && leb (1000 * k) hi) ≡ (ltb (lo / 1000) k && leb k (hi / 1000))
in_thousands lo hi k = grind (arith, nat_tests)

-- the tokens due are the thousands that rate * time passes
pub due_quotients : (rate from to : ℕ) → from ≤ to → due rate from to ≡ rate * to / 1000 - rate * from / 1000
unfolding due due_tokens
due_quotients rate from to h =
    let e : from + (to - from) ≡ to = omega arith in
    let tests : (token : ℕ) → list_any (arrives_at rate token) (numbers_from (from + 1) (to - from)) ≡ (ltb (rate * from / 1000) token && leb token (rate * to / 1000)) = λ token. arrives_within rate token (to - from) from ∙ rw e (in_thousands (rate * from) (rate * to) token) in
    ap length (filter_alike (λ token. list_any (arrives_at rate token) (numbers_from (from + 1) (to - from))) (λ token. ltb (rate * from / 1000) token && leb token (rate * to / 1000)) tests (numbers_from 1 (rate * to)))
    ∙ between (rate * from / 1000) (rate * to / 1000) (rate * to) 1 (omega arith)
    ∙ omega arith

-- nothing is due where no time passes
pub due_none : (rate time : ℕ) → due rate time time ≡ 0
due_none rate time = due_quotients rate time time (omega arith) ∙ omega arith

-- what is due in two adjoining intervals is due in the whole
pub due_parts : (rate a b c : ℕ) → a ≤ b → b ≤ c → due rate a b + due rate b c ≡ due rate a c
due_parts rate a b c h k =
    let first : rate * a ≤ rate * b = rises rate a b h in
    let second : rate * b ≤ rate * c = rises rate b c k in
    rw (due_quotients rate a b h, due_quotients rate b c k, due_quotients rate a c (omega arith)) (omega arith)

-- a rate of so many tokens per millisecond and so many more per second: only the latter need a quotient
pub due_apart : (whole part from to : ℕ) → from ≤ to → due (1000 * whole + part) from to ≡ whole * (to - from) + (part * to / 1000 - part * from / 1000)
due_apart whole part from to h =
    let split : (t : ℕ) → (1000 * whole + part) * t ≡ 1000 * (whole * t) + part * t = λ t. grind arith in
    let all : whole * to ≡ whole * from + whole * (to - from) = let e : to ≡ from + (to - from) = omega arith in ap (λ t. whole * t) e ∙ grind arith in
    let up : part * from ≤ part * to = rises part from to h in
    rw (due_quotients (1000 * whole + part) from to h, split to, split from) (omega (arith, all, up))
