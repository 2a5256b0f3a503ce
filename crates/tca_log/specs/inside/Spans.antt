-- Places of domains and sessions from the lowest to the highest: for private functions and their proofs alone.
use Rattle.std.specs.Prelude.{◌≡◌, ℕ, ◌+◌, ◌-◌, ◌≤◌, ◌⊎◌, Bool, true, false, List, [], ◌∷◌, ◌&&◌, if◌then◌else◌, nat_lt, nat_eq}
use Rattle.tca_report.specs.declared.report.Identity.{Identity}
use Rattle.tca_log.specs.declared.span.Span.{Span}

-- whether an identity is of the span's domain and session
abbrev pub is_of : Span → Identity → Bool
is_of span i = nat_eq i.domain span.domain && nat_eq i.session span.session

-- an identity with a place of the span
abbrev pub IsWithin : Span → Identity → Type 0
IsWithin span i = (is_of span i ≡ true) × (span.lowest ≤ i.place) × (i.place ≤ span.highest)

-- an identity with a place of the first span that is of its domain and session
unfoldable pub IsAmong : List Span → Identity → Type 0
IsAmong [] i = ⊥
IsAmong (span ∷ spans) i = IsWithin span i ⊎ ((is_of span i ≡ false) × IsAmong spans i)

-- how many places a span has
abbrev pub width : Span → ℕ
width span = (span.highest - span.lowest) + 1

-- how many places they have together
unfoldable pub widths : List Span → ℕ
widths [] = 0
widths (span ∷ spans) = width span + widths spans

-- the number of an identity's place, where the places of the spans are numbered one span after another
unfoldable pub slot : List Span → Identity → ℕ
slot [] i = 0
slot (span ∷ spans) i = if is_of span i then i.place - span.lowest else width span + slot spans i

-- a count that stays at 2
abbrev pub one_more : ℕ → ℕ
one_more n = if nat_lt n 2 then n + 1 else 2
