-- Where the numbers of usual records stand. Cited inside this crate alone.
use Rattle.std.specs.Prelude.{◌≡◌, ℕ, ◌+◌, ◌*◌, ◌/◌, ◌^◌, ◌≤◌, Bool, false, List, drop, slice_index, Option, Some, None, IfSome, ⊤}
use Rattle.byteorder.specs.Endian.{big_number}
use Rattle.tca_templates.specs.declared.layout.Spot.{Spot}
use Rattle.tca_templates.specs.declared.layout.Spots.{Spots}
use Rattle.tca_templates.specs.declared.numbers.Window.{Window}
use Rattle.tca_templates.specs.declared.numbers.Usual.{Usual}
use Rattle.tca_templates.specs.Chosen.{ip_diff_serv_code_point, observation_time_milliseconds}
use Rattle.tca_templates.specs.Numbers.{most_of}

-- The window of a spot of one octet to so many.
pub record IsWindow (most : ℕ) (s : Spot) (w : Window) : Type 0 where
  pub at : w.at ≡ s.at
  pub some : 1 ≤ s.length
  pub bound : s.length ≤ most
  pub shift : w.shift + 8 * s.length ≡ 64

-- the window of the number of octets
abbrev pub IsSizeWindow : Option Spot → Window → Type 0
IsSizeWindow None w = ⊥
IsSizeWindow (Some s) w = IsWindow (most_of s.element) s w

-- The spot of an element in one octet.
pub record IsOctet (element : ℕ) (s : Spot) (at : ℕ) : Type 0 where
  pub element_is : s.element ≡ element
  pub at_is : s.at ≡ at
  pub one : s.length ≡ 1

-- where the code point stands, if there is one
abbrev pub IsPointSpot : Option Spot → Option Spot → Option ℕ → Type 0
IsPointSpot None None None = ⊤
IsPointSpot None None (Some at) = ⊥
IsPointSpot None (Some section) place = ⊥
IsPointSpot (Some s) section None = ⊥
IsPointSpot (Some s) section (Some at) = IsOctet ip_diff_serv_code_point s at

-- the window of the interface, if there is one
abbrev pub IsInterfaceWindow : Option Spot → Option Window → Type 0
IsInterfaceWindow None None = ⊤
IsInterfaceWindow None (Some w) = ⊥
IsInterfaceWindow (Some s) None = ⊥
IsInterfaceWindow (Some s) (Some w) = IsWindow 4 s w

-- Here stand the numbers of records with these spots.
pub record IsUsual (options : Bool) (spots : Spots) (u : Usual) : Type 0 where
  pub plain : options ≡ false
  pub time : spots.time ≡ Some (record { element = observation_time_milliseconds; at = u.time; length = 8 })
  pub size : IsSizeWindow spots.size u.size
  pub code_point : IsPointSpot spots.code_point spots.section u.code_point
  pub interface : IsInterfaceWindow spots.interface u.interface
  pub time_reach : u.time + 8 ≤ u.reach
  pub size_reach : u.size.at + 8 ≤ u.reach
  pub code_point_reach : IfSome u.code_point (λ at. at + 8 ≤ u.reach)
  pub interface_reach : IfSome u.interface (λ w. w.at + 8 ≤ u.reach)

-- the number that stands in front in a window
abbrev pub number_in : Window → List ℕ → ℕ
number_in w octets = big_number 8 (drop w.at octets) / 2 ^ w.shift

-- the octet of this place, if it is one
abbrev pub point_in : Option ℕ → List ℕ → ℕ
point_in None octets = 0
point_in (Some at) octets = slice_index octets at
