-- The numbers of a meter's spec.
use Rattle.std.proofs.Common.{◌≡◌, ◌∙◌, ◌≤◌, ℕ, true, List, length, Result, arith, rules, ap, refl}
use Rattle.std.specs.List.{list_all}
use Rattle.std.specs.Char.{is_ascii_digit}
use Rattle.std.specs.Str.Parse.{ParsesUnsigned, digits_value}
use Rattle.std.specs.Result.{result_ok}
use Rattle.std.proofs.lemmas.Str.Parse.{IsNumeralModel, numerals_by_value, digits_value_short, parse_gives}
use Rattle.tca_meters.specs.MeterSpecs.{is_number, number_in}

own : IsNumeralModel (λ ds. list_all is_ascii_digit ds ≡ true) (digits_value 10)
own = numerals_by_value _ (search rules)

parts : (text : List ℕ) → is_number text ≡ true → (1 ≤ length text) × (length text ≤ 13) × (list_all is_ascii_digit text ≡ true)
parts text h = search rules

pub number_read : {E : Type 0} (text : List ℕ) (r : Result ℕ E) → is_number text ≡ true → ParsesUnsigned 64 10 text r → result_ok r ≡ number_in text
number_read text r is h =
    let all = parts text is in
    let short = digits_value_short own text 13 all.2 all.1 in
    ap result_ok (parse_gives own 64 text r h all.2 (omega (arith, all.0)) (omega (arith, short))) ∙ rw is refl
