-- Numbers by whose marks identities that may stand twice are found: for private functions and their proofs alone.
use Rattle.std.specs.Prelude.{◌≡◌, ℕ, ◌+◌, ◌-◌, ◌*◌, ◌/◌, ◌%◌, ◌^◌, Bool, List, filter, get_or, length, min, nat_eq, nat_lt}
use Rattle.tca_report.specs.report.Reports.{PacketReport}
use Rattle.tca_report.specs.report.Identities.{identity_of}
use Rattle.tca_report.specs.declared.report.Identity.{Identity}

-- the number of an identity below a power of two: of its domain and session comes where its places begin
abbrev pub number : ℕ → Identity → ℕ
number bits i = ((i.domain * 1327217885 + i.session * 889516852) % 2147483648 / 2 ^ (31 - bits) + i.place) % (2 ^ bits)

-- how many reports have an identity of this number
unfoldable pub count_of : ℕ → ℕ → List PacketReport → ℕ
count_of bits n rs = length (filter (λ r. nat_eq (number bits (identity_of r)) n) rs)

-- each number is marked as often as reports have it, up to 2
pub record AreMarked (bits : ℕ) (rs : List PacketReport) (marks : List ℕ) : Type 0 where
  pub size : length marks ≡ 2 ^ bits
  pub counted : (i : Identity) → get_or marks (number bits i) 0 ≡ min 2 (count_of bits (number bits i) rs)

-- whether the number of an identity is marked twice
abbrev pub is_again : ℕ → List ℕ → Identity → Bool
is_again bits marks i = nat_lt 1 (get_or marks (number bits i) 0)
