-- The numbers that a usual record tells of its packet: each stands in a field of its own.
use Rattle.std.specs.Prelude.{◌≡◌, ◌≤◌, ◌==◌, ℕ, false, if◌then◌else◌, List, length, Option, Some, None}
use Rattle.byteorder.specs.Endian.{big_number}
use Rattle.tca_templates.specs.declared.numbers.Numbers.{Numbers}
use Rattle.tca_templates.specs.Records.{PlacedView}
use Rattle.tca_templates.specs.Chosen.{total_length_ipv4, ip_diff_serv_code_point, observation_time_milliseconds, times, sizes, code_points, interfaces, sections, choice}

-- octets that a field may have at most which tells the octets of a packet: unsigned16 or unsigned64
abbrev pub most_of : ℕ → ℕ
most_of element = if element == total_length_ipv4 then 2 else 8

-- The number of a field of one octet to so many.
pub record IsNumber (most : ℕ) (value : List ℕ) (n : ℕ) : Type 0 where
  pub some : 1 ≤ length value
  pub bound : length value ≤ most
  pub number : n ≡ big_number (length value) value

-- the number of octets, which some element tells
abbrev pub IsSize : Option (ℕ × List ℕ) → ℕ → Type 0
IsSize None n = ⊥
IsSize (Some x) n = IsNumber (most_of x.0) x.1 n

-- the code point of ipDiffServCodePoint, or 0 where neither an element nor the section of the packet tells one
abbrev pub IsPoint : Option (ℕ × List ℕ) → Option (ℕ × List ℕ) → ℕ → Type 0
IsPoint None None n = n ≡ 0
IsPoint None (Some section) n = ⊥
IsPoint (Some x) section n = (x.0 ≡ ip_diff_serv_code_point) × IsNumber 1 x.1 n

-- the interface, or 0 where no element tells one
abbrev pub IsInterface : Option (ℕ × List ℕ) → ℕ → Type 0
IsInterface None n = n ≡ 0
IsInterface (Some x) n = IsNumber 4 x.1 n

-- These are the numbers of a data record whose time is one of milliseconds.
pub record AreNumbers (r : PlacedView) (n : Numbers) : Type 0 where
  pub plain : r.options ≡ false
  pub value : List ℕ
  pub time_told : choice times r.fields ≡ Some (observation_time_milliseconds, value)
  pub time_length : length value ≡ 8
  pub time : n.time ≡ big_number 8 value
  pub size : IsSize (choice sizes r.fields) n.size
  pub code_point : IsPoint (choice code_points r.fields) (choice sections r.fields) n.code_point
  pub interface : IsInterface (choice interfaces r.fields) n.interface
