-- The numbers in the windows of a usual record are those of its fields.
use Rattle.std.proofs.Common.{◌≡◌, ℕ, zero, suc, ◌+◌, ◌-◌, ◌*◌, ◌/◌, ◌^◌, ◌<◌, ◌≤◌, Bool, true, false, cond, List, length, take, drop, Option, Some, None, refl, sym, ap, ap₂, subst, ◌∙◌, arith, pow-add}
use Rattle.std.proofs.Math.Nat.{add-mul, add_assoc, mul_assoc}
use Rattle.std.specs.Prelude.{◌==◌, slice_index, IfSome}
use Rattle.std.proofs.lemmas.List.{length-take, length-drop, get_or-drop}
use Rattle.std.proofs.lemmas.Nat.{div-mul-add}
use Rattle.byteorder.specs.Endian.{big_from, big_number}
use Rattle.byteorder.specs.Numbers.{big_from-take, big_from-lt}
use Rattle.byteorder.proofs.Bytes.{pow256}
use Rattle.tca_templates.specs.declared.layout.Spot.{Spot}
use Rattle.tca_templates.specs.declared.layout.Spots.{Spots}
use Rattle.tca_templates.specs.declared.numbers.Numbers.{Numbers}
use Rattle.tca_templates.specs.declared.numbers.Window.{Window}
use Rattle.tca_templates.specs.declared.numbers.Usual.{Usual}
use Rattle.tca_templates.specs.Chosen.{times, sizes, code_points, interfaces, sections, choice, observation_time_milliseconds}
use Rattle.tca_templates.specs.Records.{PlacedView}
use Rattle.tca_templates.specs.declared.template.FieldSpec.{FieldSpec}
use Rattle.tca_templates.specs.Numbers.{most_of, IsNumber, IsSize, IsPoint, IsInterface, AreNumbers}
use Rattle.tca_templates.specs.inside.Layouts.{IsFound, value_in, fields_in}
use Rattle.tca_templates.specs.inside.Windows.{IsWindow, IsSizeWindow, IsPointSpot, IsInterfaceWindow, IsUsual, number_in, point_in}
use Rattle.tca_templates.proofs.LayoutLaws.{time_within, size_within, code_point_within, interface_within, time_is, size_is, code_point_is, interface_is, section_is}

abbrev pub AreOctets : List ℕ → Type 0
AreOctets octets = (i : ℕ) → slice_index octets i < 256

dropped : (n : ℕ) (octets : List ℕ) → AreOctets octets → AreOctets (drop n octets)
dropped n octets h i = rw get_or-drop (h (n + i))

-- a number of two parts
two_parts : (i n k : ℕ) (xs : List ℕ) → big_from i (n + k) xs ≡ big_from i n xs * 256 ^ k + big_from (i + n) k xs
two_parts i zero k xs =
    let same : i + 0 ≡ i = omega arith in
    let whole : 0 + k ≡ k = omega arith in
    let front : big_from i (0 + k) xs ≡ big_from i k xs = ap (λ (n : ℕ). big_from i n xs) whole in
    let back : big_from (i + 0) k xs ≡ big_from i k xs = ap (λ (j : ℕ). big_from j k xs) same in
    let none : big_from i k xs ≡ 0 * 256 ^ k + big_from i k xs = omega arith in
    front ∙ none ∙ ap (λ (b : ℕ). 0 * 256 ^ k + b) (sym back)
two_parts i (suc n) k xs =
    let next : suc i + n ≡ i + suc n = omega arith in
    let longer : suc n + k ≡ suc (n + k) = omega arith in
    let x = slice_index xs i in
    let power : x * 256 ^ (n + k) ≡ (x * 256 ^ n) * 256 ^ k = ap (λ (p : ℕ). x * p) (pow-add 256 n k) ∙ sym (mul_assoc x (256 ^ n) (256 ^ k)) in
    ap (λ (m : ℕ). big_from i m xs) longer
    ∙ ap₂ (λ (a b : ℕ). a + b) power (two_parts (suc i) n k xs ∙ ap (λ (j : ℕ). big_from (suc i) n xs * 256 ^ k + big_from j k xs) next)
    ∙ sym (add_assoc ((x * 256 ^ n) * 256 ^ k) (big_from (suc i) n xs * 256 ^ k) (big_from (i + suc n) k xs))
    ∙ ap (λ (a : ℕ). a + big_from (i + suc n) k xs) (sym (add-mul (x * 256 ^ n) (big_from (suc i) n xs) (256 ^ k)))

-- the number in front of eight octets
in_front : (n shift : ℕ) (xs : List ℕ) → AreOctets xs → n ≤ 8 → shift + 8 * n ≡ 64 → big_number 8 xs / 2 ^ shift ≡ big_number n xs
in_front n shift xs octets le sum =
    let k = 8 - n in
    let eight : 8 ≡ n + k = omega arith in
    let bits : shift ≡ 8 * k = omega arith in
    let start : 0 + n ≡ n = omega arith in
    ap₂ (λ (m s : ℕ). big_number m xs / 2 ^ s) eight bits
    ∙ ap₂ (λ (a b : ℕ). a / b) (two_parts 0 n k xs ∙ ap (λ (j : ℕ). big_number n xs * 256 ^ k + big_from j k xs) start) (sym (pow256 k))
    ∙ div-mul-add (big_number n xs) (256 ^ k) (big_from n k xs) (big_from-lt n k xs octets)

-- the octets of a spot
taken_length : (s : Spot) (xs : List ℕ) → s.at + s.length ≤ length xs → length (take s.length (drop s.at xs)) ≡ s.length
taken_length s xs within = omega (arith, length-take s.length (drop s.at xs), length-drop s.at xs)

number_of : (s : Spot) (n : ℕ) (xs : List ℕ) → n ≡ s.length → big_number n (drop s.at xs) ≡ big_number n (take s.length (drop s.at xs))
number_of s n xs same = sym (big_from-take 0 n s.length (drop s.at xs) (omega arith))

-- the number of a window is that of its spot
window_number : (most : ℕ) (s : Spot) (w : Window) (xs : List ℕ) → AreOctets xs → most ≤ 8 → IsWindow most s w → s.at + s.length ≤ length xs
    → IsNumber most (take s.length (drop s.at xs)) (number_in w xs)
window_number most s w xs octets few window within =
    let long = taken_length s xs within in
    record {
      some = omega (arith, long, window.some);
      bound = omega (arith, long, window.bound);
      number = ap (λ (a : ℕ). big_number 8 (drop a xs) / 2 ^ w.shift) window.at
          ∙ in_front s.length w.shift (drop s.at xs) (dropped s.at xs octets) (omega (arith, window.bound, few)) window.shift
          ∙ number_of s s.length xs refl
          ∙ ap (λ (n : ℕ). big_number n (take s.length (drop s.at xs))) (sym long);
    }

most_few : (e : ℕ) → most_of e ≤ 8
most_few e = go (e == 190)
  where
    go : (b : Bool) → cond b 2 8 ≤ 8
    go true = omega arith
    go false = omega arith

sized : (o : Option Spot) (w : Window) (xs : List ℕ) → AreOctets xs → IsSizeWindow o w → IfSome o (λ s. s.at + s.length ≤ length xs) → IsSize (value_in xs o) (number_in w xs)
sized None w xs octets window within = absurd window
sized (Some s) w xs octets window within = window_number (most_of s.element) s w xs octets (most_few s.element) window within

pointed : (o section : Option Spot) (at : Option ℕ) (xs : List ℕ) → AreOctets xs → IsPointSpot o section at → IfSome o (λ s. s.at + s.length ≤ length xs)
    → IsPoint (value_in xs o) (value_in xs section) (point_in at xs)
pointed None None None xs octets spot within = refl
pointed None None (Some at) xs octets spot within = absurd spot
pointed None (Some t) at xs octets spot within = absurd spot
pointed (Some s) section None xs octets spot within = absurd spot
pointed (Some s) section (Some at) xs octets spot within =
    let long = taken_length s xs within in
    let one : length (take s.length (drop s.at xs)) ≡ 1 = long ∙ spot.one in
    let here : slice_index (drop s.at xs) 0 ≡ slice_index xs at = rw get_or-drop (ap (λ (i : ℕ). slice_index xs i) (omega (arith, spot.at_is))) in
    let number : slice_index xs at ≡ big_number 1 (drop s.at xs) = omega (arith, here) in (
      spot.element_is,
      record {
        some = omega (arith, one);
        bound = omega (arith, one);
        number = number ∙ number_of s 1 xs (sym spot.one) ∙ ap (λ (n : ℕ). big_number n (take s.length (drop s.at xs))) (sym one);
      },
    )

interfaced : (o : Option Spot) (w : Option Window) (xs : List ℕ) (n : ℕ) → AreOctets xs → IsInterfaceWindow o w → IfSome o (λ s. s.at + s.length ≤ length xs)
    → (w ≡ None → n ≡ 0) → IfSome w (λ w. n ≡ number_in w xs) → IsInterface (value_in xs o) n
interfaced None None xs n octets window within none some = none refl
interfaced None (Some w) xs n octets window within none some = absurd window
interfaced (Some s) None xs n octets window within none some = absurd window
interfaced (Some s) (Some w) xs n octets window within none some =
    subst (λ (m : ℕ). IsNumber 4 (take s.length (drop s.at xs)) m) (sym some) (window_number 4 s w xs octets (omega arith) window within)

-- What is read of a usual record are its numbers.
pub usual_numbers : (specs : List FieldSpec) (spots : Spots) (octets : List ℕ) (r : PlacedView) (u : Usual) (n : Numbers) → IsFound specs spots octets → r.fields ≡ fields_in specs octets → AreOctets octets
    → IsUsual r.options spots u → n.time ≡ big_number 8 (drop u.time octets) → n.size ≡ number_in u.size octets → n.code_point ≡ point_in u.code_point octets
    → (u.interface ≡ None → n.interface ≡ 0) → IfSome u.interface (λ w. n.interface ≡ number_in w octets) → AreNumbers r n
usual_numbers specs spots octets r u n found fields are usual time size point none some =
    let t : Spot = record { element = observation_time_milliseconds; at = u.time; length = 8 } in
    let within : u.time + 8 ≤ length octets = subst (λ (o : Option Spot). IfOf o) usual.time (time_within specs spots octets found) in
    record {
      plain = usual.plain;
      value = take 8 (drop u.time octets);
      time_told = ap (choice times) fields ∙ sym (time_is specs spots octets found) ∙ ap (value_in octets) usual.time;
      time_length = taken_length t octets within;
      time = time ∙ number_of t 8 octets refl;
      size = subst (λ (o : Option (ℕ × List ℕ)). IsSize o n.size) (size_is specs spots octets found ∙ ap (choice sizes) (sym fields))
          (subst (λ (m : ℕ). IsSize (value_in octets spots.size) m) (sym size) (sized spots.size u.size octets are usual.size (size_within specs spots octets found)));
      code_point = subst (λ (o : Option (ℕ × List ℕ)). IsPoint o (choice sections r.fields) n.code_point) (code_point_is specs spots octets found ∙ ap (choice code_points) (sym fields))
          (subst (λ (o : Option (ℕ × List ℕ)). IsPoint (value_in octets spots.code_point) o n.code_point) (section_is specs spots octets found ∙ ap (choice sections) (sym fields))
          (subst (λ (m : ℕ). IsPoint (value_in octets spots.code_point) (value_in octets spots.section) m) (sym point)
          (pointed spots.code_point spots.section u.code_point octets are usual.code_point (code_point_within specs spots octets found))));
      interface = subst (λ (o : Option (ℕ × List ℕ)). IsInterface o n.interface) (interface_is specs spots octets found ∙ ap (choice interfaces) (sym fields))
          (interfaced spots.interface u.interface octets n.interface are usual.interface (interface_within specs spots octets found) none some);
    }
  where
    IfOf : Option Spot → Type 0
    IfOf o = IfSome o (λ s. s.at + s.length ≤ length octets)
