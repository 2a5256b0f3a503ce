-- Moments as texts for people: RFC 3339 in UTC, with `Z`.
use Rattle.std.specs.Prelude.{ℕ, zero, suc, ◌+◌, ◌/◌, ◌%◌, ◌==◌, pos, List, [], ◌∷◌, ◌++◌, codes, nat_lt, if◌then◌else◌, Option, Some, None}
use Rattle.jiff_core.specs.Calendar.{days_in_month}

-- a civil date of the Gregorian calendar
pub record CivilDate : Type 0 where
  pub year : ℕ
  pub month : ℕ
  pub day : ℕ

-- the day after: of the same month, else the first of the next month, else the first of the next year
abbrev pub day_after : CivilDate → CivilDate
day_after d =
    if nat_lt d.day (days_in_month (pos d.year) d.month) then record d { day = d.day + 1 }
    else (if nat_lt d.month 12 then record { year = d.year; month = d.month + 1; day = 1 }
    else record { year = d.year + 1; month = 1; day = 1 })

-- the date so many days after 1 January 1970
unfoldable pub date_after : ℕ → CivilDate
date_after zero = record { year = 1970; month = 1; day = 1 }
date_after (suc n) = day_after (date_after n)

-- a digit, and a number of two and of four digits, with zeros in front
abbrev pub digit : ℕ → List ℕ
digit n = (48 + n) ∷ []

abbrev pub two_digits : ℕ → List ℕ
two_digits n = digit (n / 10) ++ digit (n % 10)

abbrev pub four_digits : ℕ → List ℕ
four_digits n = two_digits (n / 100) ++ two_digits (n % 100)

-- as `2023-11-14`
abbrev pub date_text : CivilDate → List ℕ
date_text d = four_digits d.year ++ (codes "-" ++ (two_digits d.month ++ (codes "-" ++ two_digits d.day)))

-- a fraction of a second, in milliseconds: a dot and its places up to the last that isn't 0, or nothing
abbrev pub fraction_text : ℕ → List ℕ
fraction_text m =
    if m == 0 then []
    else (if m % 100 == 0 then codes "." ++ digit (m / 100)
    else (if m % 10 == 0 then codes "." ++ two_digits (m / 10)
    else codes "." ++ (digit (m / 100) ++ two_digits (m % 100))))

-- a time of day in milliseconds, as `22:00:00.25`
abbrev pub clock_text : ℕ → List ℕ
clock_text m =
    two_digits (m / 3_600_000)
    ++ (codes ":" ++ (two_digits (m / 60_000 % 60)
    ++ (codes ":" ++ (two_digits (m / 1000 % 60) ++ fraction_text (m % 1000)))))

-- the first second that `jiff` has no instant for: what is shown ends at 9999-12-30T22:00:00.999Z
abbrev pub first_unshown : ℕ
first_unshown = 253_402_207_201

-- the date and the time of a moment, in milliseconds from the start of 1970 (UTC), as `2023-11-14T22:00:00Z`
abbrev pub shown_moment : ℕ → List ℕ
shown_moment m = date_text (date_after (m / 86_400_000)) ++ (codes "T" ++ (clock_text (m % 86_400_000) ++ codes "Z"))

-- the same, up to the last second that is shown
unfoldable pub moment_text : ℕ → Option (List ℕ)
moment_text m = if nat_lt (m / 1000) first_unshown then Some (shown_moment m) else None
