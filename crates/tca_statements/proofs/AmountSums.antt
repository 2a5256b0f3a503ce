-- Sums of amounts.
use Rattle.std.proofs.Common.{◌≡◌, ◌∙◌, ◌++◌, List, [], ◌∷◌, arith, ap}
use Rattle.std.proofs.lemmas.Int.{ints}
use Rattle.std.proofs.Common.{of_z, to_z, w64}
use Rattle.std.specs.Prelude.{ℤ, ◌-ℤ◌}
use Rattle.tca_statements.specs.declared.amount.Amount.{Amount}
use Rattle.tca_statements.specs.Issues.{AreOctets, IsOctets, less, plus, sum_of}

-- amounts that agree in each colour
pub same_amounts : (a b : Amount) → a.green ≡ b.green → a.yellow ≡ b.yellow → a.red ≡ b.red → a ≡ b
same_amounts a b green yellow red =
    ap (λ g. record { green = g; yellow = a.yellow; red = a.red }) green
    ∙ ap (λ y. record { green = b.green; yellow = y; red = a.red }) yellow
    ∙ ap (λ r. record { green = b.green; yellow = b.yellow; red = r }) red

plus_grouped : (a b c : Amount) → plus a (plus b c) ≡ plus (plus a b) c
plus_grouped a b c = same_amounts _ _ (omega (arith, ints)) (omega (arith, ints)) (omega (arith, ints))

plus_missing : (a b : Amount) → plus a (less b a) ≡ b
plus_missing a b = same_amounts _ _ (omega (arith, ints)) (omega (arith, ints)) (omega (arith, ints))

-- one amount more
sum_more : (amounts : List Amount) (a : Amount) → sum_of (amounts ++ a ∷ []) ≡ plus (sum_of amounts) a
sum_more [] a = same_amounts _ _ (omega (arith, ints)) (omega (arith, ints)) (omega (arith, ints))
sum_more (b ∷ others) a = ap (plus b) (sum_more others a) ∙ plus_grouped b (sum_of others) a

-- what is missing makes the sum what is due
pub sum_made : (amounts : List Amount) (due : Amount) → sum_of (amounts ++ less due (sum_of amounts) ∷ []) ≡ due
sum_made amounts due = sum_more amounts (less due (sum_of amounts)) ∙ plus_missing (sum_of amounts) due

-- octets less octets fit, so they aren't wrapped
less_fits : (x y s : ℤ) → IsOctets x → IsOctets y → s ≡ y → to_z w64 (of_z w64 (to_z w64 (of_z w64 x) -ℤ to_z w64 (of_z w64 y))) ≡ x -ℤ s
less_fits x y s low high same = omega (arith, ints)

-- what is missing as it is computed, from the sum that is kept
pub less_computed : (due sum : Amount) (amounts : List Amount) → AreOctets due → (sum_of amounts ≡ sum) × AreOctets sum
    → record {
      green = to_z w64 (of_z w64 (to_z w64 (of_z w64 due.green) -ℤ to_z w64 (of_z w64 sum.green)));
      yellow = to_z w64 (of_z w64 (to_z w64 (of_z w64 due.yellow) -ℤ to_z w64 (of_z w64 sum.yellow)));
      red = to_z w64 (of_z w64 (to_z w64 (of_z w64 due.red) -ℤ to_z w64 (of_z w64 sum.red)));
    } ≡ less due (sum_of amounts)
less_computed due sum amounts wanted kept = same_amounts _ _
    (less_fits due.green sum.green _ wanted.0 kept.1.0 (ap (λ (a : Amount). a.green) kept.0))
    (less_fits due.yellow sum.yellow _ wanted.1 kept.1.1 (ap (λ (a : Amount). a.yellow) kept.0))
    (less_fits due.red sum.red _ wanted.2 kept.1.2 (ap (λ (a : Amount). a.red) kept.0))
