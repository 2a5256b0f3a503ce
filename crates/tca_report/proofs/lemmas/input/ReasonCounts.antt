-- Counting the reasons why records make no report.
use Rattle.std.proofs.Common.{◌≡◌, ℕ, ◌+◌, ◌-◌, ◌≤◌, Bool, true, false, cond, List, [], ◌∷◌, ◌++◌, length, slice_index_or, slice_set, sym, ◌∙◌, arith}
use Rattle.std.specs.Prelude.{◌==◌}
use Rattle.tca_report.specs.Faults.{reason_number}
use Rattle.tca_report.specs.input.Inputs.{count_of_reason, counts_of}
use Rattle.tca_report.specs.declared.input.extraction.NotReport.{NotReport}
use Rattle.tca_report.specs.declared.input.extraction.NotReport.TheVariants.{Options, NoTime, NoSize, BadTime, BadSize, BadDscp, FieldLength}

one_at_most : (b : Bool) → cond b 1 0 ≤ 1
one_at_most true = omega arith
one_at_most false = omega arith

pub count_few : (n : ℕ) (reasons : List NotReport) → count_of_reason n reasons ≤ length reasons
count_few n [] = omega arith
count_few n (r ∷ rs) = let more = count_few n rs in let one = one_at_most (reason_number r == n) in omega (arith, more, one)

count_push : (n : ℕ) (reasons : List NotReport) (r : NotReport) → count_of_reason n (reasons ++ r ∷ []) ≡ count_of_reason n reasons + cond (reason_number r == n) 1 0
count_push n [] r = omega arith
count_push n (x ∷ xs) r = let more = count_push n xs r in omega (arith, more)

abbrev seven : ℕ → ℕ → ℕ → ℕ → ℕ → ℕ → ℕ → List ℕ
seven a b c d e f g = a ∷ (b ∷ (c ∷ (d ∷ (e ∷ (f ∷ (g ∷ []))))))

same_seven : {a b c d e f g h i j k l m n : ℕ} → a ≡ h → b ≡ i → c ≡ j → d ≡ k → e ≡ l → f ≡ m → g ≡ n → seven a b c d e f g ≡ seven h i j k l m n
same_seven p q r s t u v = λ z. seven (p z) (q z) (r z) (s z) (t z) (u z) (v z)

abbrev more : List NotReport → NotReport → ℕ → ℕ
more reasons r n = count_of_reason n reasons + cond (reason_number r == n) 1 0

-- one reason more
pub counts_push : (reasons : List NotReport) (r : NotReport)
    → slice_set (counts_of reasons) (reason_number r - 1) (slice_index_or (counts_of reasons) (reason_number r - 1) 0 + 1) ≡ counts_of (reasons ++ r ∷ [])
counts_push reasons r = added r ∙ sym (same_seven (count_push 1 reasons r) (count_push 2 reasons r) (count_push 3 reasons r) (count_push 4 reasons r) (count_push 5 reasons r) (count_push 6 reasons r) (count_push 7 reasons r))
  where
    added : (r : NotReport) → slice_set (counts_of reasons) (reason_number r - 1) (slice_index_or (counts_of reasons) (reason_number r - 1) 0 + 1)
        ≡ seven (more reasons r 1) (more reasons r 2) (more reasons r 3) (more reasons r 4) (more reasons r 5) (more reasons r 6) (more reasons r 7)
    added Options = same_seven (omega arith) (omega arith) (omega arith) (omega arith) (omega arith) (omega arith) (omega arith)
    added NoTime = same_seven (omega arith) (omega arith) (omega arith) (omega arith) (omega arith) (omega arith) (omega arith)
    added NoSize = same_seven (omega arith) (omega arith) (omega arith) (omega arith) (omega arith) (omega arith) (omega arith)
    added BadTime = same_seven (omega arith) (omega arith) (omega arith) (omega arith) (omega arith) (omega arith) (omega arith)
    added BadSize = same_seven (omega arith) (omega arith) (omega arith) (omega arith) (omega arith) (omega arith) (omega arith)
    added BadDscp = same_seven (omega arith) (omega arith) (omega arith) (omega arith) (omega arith) (omega arith) (omega arith)
    added FieldLength = same_seven (omega arith) (omega arith) (omega arith) (omega arith) (omega arith) (omega arith) (omega arith)

-- each place of the counts has at most as many as there are reasons
pub counts_few : (reasons : List NotReport) (r : NotReport) → slice_index_or (counts_of reasons) (reason_number r - 1) 0 ≤ length reasons
counts_few reasons Options = count_few 1 reasons
counts_few reasons NoTime = count_few 2 reasons
counts_few reasons NoSize = count_few 3 reasons
counts_few reasons BadTime = count_few 4 reasons
counts_few reasons BadSize = count_few 5 reasons
counts_few reasons BadDscp = count_few 6 reasons
counts_few reasons FieldLength = count_few 7 reasons
