-- A number stands before the first space.
use Rattle.std.proofs.Common.{◌≡◌, ◌≢◌, ◌<◌, ◌^◌, ◌++◌, ◌∷◌, ℕ, List, Option, Bor, length, get_or, arith, lit<}
use Rattle.std.specs.Prelude.{decimal}
use Rattle.std.specs.Option.{MatchOption}
use Rattle.std.specs.Str.Parse.{AllDigits, digits_value}
use Rattle.std.proofs.lemmas.Fmt.{digits_decimal}
use Rattle.std.proofs.lemmas.Str.Parse.{IsNumeralModel, numerals_by_value, tells_digits, not_in_digits}
use Rattle.std.proofs.lemmas.Str.Pattern.{IsSplitOnceResult, split_after}

own : IsNumeralModel (AllDigits 10) (digits_value 10)
own = numerals_by_value _ tells_digits

no_space : (n : ℕ) → n < 2 ^ 64 → (i : ℕ) → i < length (decimal n) → get_or (decimal n) i 0 ≢ 32
no_space n h = not_in_digits own (decimal n) 32 (digits_decimal own n h) (λ r. omega (arith, r.0))

pub cut : (bs : List ℕ) (n : ℕ) (rest : List ℕ) (r : Option (Bor (List ℕ) × Bor (List ℕ))) → IsSplitOnceResult 32 bs r → n < 2 ^ 64
    → bs ≡ decimal n ++ 32 ∷ rest → MatchOption r ⊥ (λ x. (x.0.now ≡ decimal n) × (x.1.now ≡ rest))
cut bs n rest r h small e = split_after 32 bs (decimal n) rest r h (lit< tt) e (no_space n small)

pub cut_word : (bs word rest : List ℕ) (r : Option (Bor (List ℕ) × Bor (List ℕ))) → IsSplitOnceResult 32 bs r
    → ((i : ℕ) → i < length word → get_or word i 0 ≢ 32) → bs ≡ word ++ 32 ∷ rest → MatchOption r ⊥ (λ x. (x.0.now ≡ word) × (x.1.now ≡ rest))
cut_word bs word rest r h apart e = split_after 32 bs word rest r h (lit< tt) e apart
