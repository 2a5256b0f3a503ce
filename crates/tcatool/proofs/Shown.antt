-- What `jiff` shows of a moment is the date so many days after the start of 1970, and the time of that day.
use Rattle.std.proofs.Common.{◌≡◌, ◌≢◌, ◌∙◌, ℕ, zero, suc, ◌+◌, ◌-◌, ◌*◌, ◌/◌, ◌%◌, ◌<◌, ◌≤◌, ◌==◌, inl, inr, false, ◌∷◌, ◌++◌, None, pos, refl, sym, ap, arith}
use Rattle.std.proofs.lemmas.Bool.{cases_eq, cases_lt, le-ltb, lt-ltb}
use Rattle.std.proofs.lemmas.Bool.Decides.{nat_tests}
use Rattle.jiff_core.specs.declared.civil.date.Date.{Date}
use Rattle.jiff_core.specs.declared.civil.datetime.DateTime.{DateTime}
use Rattle.jiff_core.specs.Calendar.{days_from_civil, days_in_month}
use Rattle.jiff_core.specs.Date.{epoch_day}
use Rattle.jiff_core.specs.DateTime.{civil_nanos}
use Rattle.jiff_core.specs.Time.{time_nanos}
use Rattle.jiff_core.proofs.SignedLemmas.{signed_arith}
use Rattle.jiff_core.proofs.DateLemmas.{days_from_civil-day, days_from_civil-next_month, days_from_civil-next_year, epoch_day_injective, epoch_day_range}
use Rattle.jiff_core.proofs.DateTimeLemmas.{civil_nanos-parts, time_nanos_bound}
use Rattle.jiff_core.proofs.CalendarLemmas.{days_from_civil-day_count, days_in_month_bounds, day_count-day_of_year, day_count-later_year, day_count-next_year, day_count-end, day_count-epoch}
use Rattle.jiff_fmt.specs.Text.{datetime_text, fraction_part, places, trailing_zeros, zulu_text}
use Rattle.tcatool.specs.Moments.{CivilDate, date_after, day_after, fraction_text, shown_moment}

-- a date of the calendar from 1970 on
record IsFrom1970 (d : CivilDate) : Type 0 where
  year : 1970 ≤ d.year
  month : (1 ≤ d.month) × (d.month ≤ 12)
  day : (1 ≤ d.day) × (d.day ≤ days_in_month (pos d.year) d.month)

-- the date of day n
record IsDayN (n : ℕ) (d : CivilDate) : Type 0 where
  real : IsFrom1970 d
  number : days_from_civil (pos d.year) d.month d.day ≡ pos n

first_day : days_from_civil (pos 1970) 1 1 ≡ pos 0
first_day = omega (arith, signed_arith, days_from_civil-day_count (pos 1970) 1 1, day_count-epoch)

module _ (n : ℕ) (d : CivilDate) (h : IsDayN n d) where
  same_month : d.day < days_in_month (pos d.year) d.month → IsDayN (suc n) (record d { day = d.day + 1 })
  same_month lt = record {
    real = record { year = h.real.year; month = h.real.month; day = (omega arith, omega (arith, lt)) };
    number = omega (arith, signed_arith, h.number, days_from_civil-day (pos d.year) d.month (d.day + 1) d.day (omega arith) h.real.day.0);
  }

  next_month : days_in_month (pos d.year) d.month ≤ d.day → d.month < 12 → IsDayN (suc n) (record { year = d.year; month = d.month + 1; day = 1 })
  next_month last lt =
      let same : d.day ≡ days_in_month (pos d.year) d.month = omega (arith, last, h.real.day.1) in
      record {
        real = record { year = h.real.year; month = (omega arith, omega (arith, lt)); day = (omega arith, omega (arith, days_in_month_bounds (pos d.year) (d.month + 1))) };
        number = omega (arith, signed_arith, h.number, days_from_civil-next_month (pos d.year) d.month d.day h.real.month.0 same);
      }

  next_year : days_in_month (pos d.year) d.month ≤ d.day → 12 ≤ d.month → IsDayN (suc n) (record { year = d.year + 1; month = 1; day = 1 })
  next_year last ge =
      let month : d.month ≡ 12 = omega (arith, ge, h.real.month.1) in
      let long : days_in_month (pos d.year) d.month ≡ 31 = rw month refl in
      let day : d.day ≡ 31 = omega (arith, last, h.real.day.1, long) in
      let end : days_from_civil (pos d.year) d.month d.day ≡ days_from_civil (pos d.year) 12 31 = rw (month, day) refl in
      record {
        real = record { year = omega (arith, h.real.year); month = (omega arith, omega arith); day = (omega arith, omega (arith, days_in_month_bounds (pos (d.year + 1)) 1)) };
        number = omega (arith, signed_arith, h.number, end, days_from_civil-next_year (pos d.year) (pos (d.year + 1)) (omega (arith, signed_arith)) refl);
      }

next_is : (n : ℕ) (d : CivilDate) → IsDayN n d → IsDayN (suc n) (day_after d)
next_is n d h =
    elim (cases_lt d.day (days_in_month (pos d.year) d.month)) [
      | inl lt ↦ rw (lt-ltb d.day (days_in_month (pos d.year) d.month) lt) (same_month n d h lt)
      | inr last ↦ elim (cases_lt d.month 12) [
        | inl lt ↦ rw (le-ltb d.day (days_in_month (pos d.year) d.month) last, lt-ltb d.month 12 lt) (next_month n d h last lt)
        | inr ge ↦ rw (le-ltb d.day (days_in_month (pos d.year) d.month) last, le-ltb d.month 12 ge) (next_year n d h last ge)
      ]
    ]

day_is : (n : ℕ) → IsDayN n (date_after n)
unfolding date_after
day_is zero = record { real = record { year = omega arith; month = (omega arith, omega arith); day = (omega arith, omega (arith, days_in_month_bounds (pos 1970) 1)) }; number = first_day }
day_is (suc n) = next_is n (date_after n) (day_is n)

-- no date of the year 10000 or later is before the end of 9999
within_9999 : (n : ℕ) (d : CivilDate) → IsDayN n d → n ≤ 2_932_896 → d.year ≤ 9999
within_9999 n d h small =
    elim (cases_lt 9999 d.year) [
      | inr le ↦ le
      | inl gt ↦ absurd (omega (
        arith,
        signed_arith,
        h.number,
        small,
        h.real.day.0,
        days_from_civil-day_count (pos d.year) d.month d.day,
        day_count-day_of_year (pos d.year) d.month d.day h.real.day.0,
        day_count-later_year (pos 9999) (pos d.year) (omega (arith, signed_arith)) (omega (arith, signed_arith, gt)),
        day_count-next_year (pos 9999) (pos 10000) (omega (arith, signed_arith)) refl,
        day_count-end,
      ))
    ]

-- the date of a day of which `jiff` has a date
date_is : (date : Date) (n : ℕ) → epoch_day date ≡ pos n → (date.year ≡ pos (date_after n).year) × (date.month ≡ (date_after n).month) × (date.day ≡ (date_after n).day)
date_is date n e =
    let d = date_after n in
    let h = day_is n in
    let small : n ≤ 2_932_896 = omega (arith, signed_arith, e, epoch_day_range date) in
    let low = within_9999 n d h small in
    let same : Date = record { year = pos d.year; month = d.month; day = d.day; year_in = omega (arith, signed_arith, low); month_in = h.real.month; day_in = h.real.day } in
    epoch_day_injective date same (e ∙ sym h.number)

-- ten times as much has one 0 more at its end
one_zero : (k n : ℕ) → trailing_zeros (suc k) (n * 10) ≡ suc (trailing_zeros k n)
unfolding trailing_zeros
one_zero k n =
    let end : n * 10 % 10 ≡ 0 = omega arith in
    let front : n * 10 / 10 ≡ n = omega arith in
    rw (end, front) refl

zeros_is : (m z : ℕ) → trailing_zeros 2 m ≡ z → trailing_zeros 8 (m * 1_000_000) ≡ suc (suc (suc (suc (suc (suc z)))))
zeros_is m z e =
    let six : m * 1_000_000 ≡ m * 10 * 10 * 10 * 10 * 10 * 10 = omega arith in
    rw six (one_zero 7 (m * 10 * 10 * 10 * 10 * 10) ∙ ap suc (one_zero 6 (m * 10 * 10 * 10 * 10) ∙ ap suc (one_zero 5 (m * 10 * 10 * 10) ∙ ap suc (one_zero 4 (m * 10 * 10)
    ∙ ap suc (one_zero 3 (m * 10) ∙ ap suc (one_zero 2 m ∙ ap suc e))))))

-- a fraction of so many places
part_is : (m z : ℕ) → 0 < m → trailing_zeros 2 m ≡ z → fraction_part None (m * 1_000_000) ≡ 46 ∷ places (9 - suc (suc (suc (suc (suc (suc z)))))) 1_000_000_000 (m * 1_000_000)
part_is m z some e =
    let more : (m * 1_000_000 == 0) ≡ false = grind (arith, nat_tests) in
    rw (more, zeros_is m z e) refl

module _ (m : ℕ) (some : 0 < m) where
  more : (m == 0) ≡ false
  more = grind (arith, nat_tests)

  one_place : m % 100 ≡ 0 → fraction_part None (m * 1_000_000) ≡ fraction_text m
  unfolding trailing_zeros places
  one_place hundred =
      let last : m % 10 ≡ 0 = omega (arith, hundred) in
      let middle : m / 10 % 10 ≡ 0 = omega (arith, hundred) in
      let first : m * 1_000_000 / 100_000_000 ≡ m / 100 = omega arith in
      part_is m 2 some (rw (last, middle) refl) ∙ rw (first, more, hundred) refl

  two_places : m % 100 ≢ 0 → m % 10 ≡ 0 → fraction_part None (m * 1_000_000) ≡ fraction_text m
  unfolding trailing_zeros places
  two_places not_hundred last =
      let middle : (m / 10 % 10 == 0) ≡ false = grind (arith, nat_tests) in
      let hundred : (m % 100 == 0) ≡ false = grind (arith, nat_tests) in
      let first : m * 1_000_000 / 100_000_000 ≡ m / 10 / 10 = omega arith in
      let second : m * 1_000_000 % 100_000_000 / 10_000_000 ≡ m / 10 % 10 = omega arith in
      part_is m 1 some (rw (last, middle) refl) ∙ rw (first, second, more, hundred, last) refl

  three_places : m % 10 ≢ 0 → fraction_part None (m * 1_000_000) ≡ fraction_text m
  unfolding trailing_zeros places
  three_places not_ten =
      let last : (m % 10 == 0) ≡ false = grind (arith, nat_tests) in
      let hundred : (m % 100 == 0) ≡ false = grind (arith, nat_tests) in
      let first : m * 1_000_000 / 100_000_000 ≡ m / 100 = omega arith in
      let second : m * 1_000_000 % 100_000_000 / 10_000_000 ≡ m % 100 / 10 = omega arith in
      let third : m * 1_000_000 % 100_000_000 % 10_000_000 / 1_000_000 ≡ m % 100 % 10 = omega arith in
      part_is m 0 some (rw last refl) ∙ rw (first, second, third, more, hundred, last) refl

fraction_is : (m : ℕ) → fraction_part None (m * 1_000_000) ≡ fraction_text m
fraction_is m =
    elim (cases_eq m 0) [
      | inl none ↦ rw none refl
      | inr some ↦ elim (cases_eq (m % 100) 0) [
        | inl hundred ↦ one_place m (omega (arith, some)) hundred
        | inr not_hundred ↦ elim (cases_eq (m % 10) 0) [
          | inl last ↦ two_places m (omega (arith, some)) not_hundred last
          | inr not_ten ↦ three_places m (omega (arith, some)) not_ten
        ]
      ]
    ]

-- the whole text
pub shown_is : (dt : DateTime) (m : ℕ) → civil_nanos dt ≡ pos (m * 1_000_000) → datetime_text false 84 None dt ++ zulu_text false ≡ shown_moment m
shown_is dt m e =
    let parts = civil_nanos-parts dt in
    let bound = time_nanos_bound dt.time in
    let day : epoch_day dt.date ≡ pos (m / 86_400_000) = omega (arith, signed_arith, parts, e, bound) in
    let clock : time_nanos dt.time ≡ m % 86_400_000 * 1_000_000 = omega (arith, signed_arith, parts, e, bound) in
    let date = date_is dt.date (m / 86_400_000) day in
    let time = m % 86_400_000 in
    let hour : dt.time.hour ≡ time / 3_600_000 = omega (arith, clock) in
    let minute : dt.time.minute ≡ time / 60_000 % 60 = omega (arith, clock) in
    let second : dt.time.second ≡ time / 1000 % 60 = omega (arith, clock) in
    let rest : dt.time.subsec_nanosecond ≡ time % 1000 * 1_000_000 = omega (arith, clock) in
    rw (date.0, date.1, date.2, hour, minute, second, rest, fraction_is (time % 1000)) refl
