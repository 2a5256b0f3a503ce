-- When a join is refused.
use Rattle.std.specs.Prelude.{◌≡◌, ℕ, Bool, true, false, Option, None, Some}
use Rattle.tca_join.specs.declared.fault.JoinFault.{JoinFault}
use Rattle.tca_join.specs.declared.fault.JoinFault.TheVariants.{Clash, Full, Memory}

-- the number that stands for a fault
abbrev pub fault_number : JoinFault → ℕ
fault_number (Clash key) = 1
fault_number Full = 2
fault_number Memory = 3

-- why two values have no join within each limit: what they clash at comes first
abbrev pub refusal : Option ℕ → Bool → Option JoinFault
refusal (Some key) full = Some (Clash key)
refusal None true = Some Full
refusal None false = None

-- a clash is answered only where the two clash, and names where; that the join is too large, only where they don't and it is; and
-- want of memory only where they have a join
abbrev pub IsJoinFault : Option ℕ → Bool → JoinFault → Type 0
IsJoinFault clash full (Clash key) = clash ≡ Some key
IsJoinFault clash full Full = (clash ≡ None) × (full ≡ true)
IsJoinFault clash full Memory = (clash ≡ None) × (full ≡ false)
