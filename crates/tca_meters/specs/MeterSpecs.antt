-- The text that names a meter: its RFC, its parameters and its mode, with colons between.
use Rattle.std.specs.Prelude.{◌≡◌, ℕ, ◌≤◌, ◌==◌, Bool, true, false, not, ◌&&◌, nat_le, List, [], ◌∷◌, ◌++◌, length, codes, Option, Some, None, option_and_then, Result, Ok, Err, if◌then◌else◌}
use Rattle.std.specs.Str.{bytes_eq}
use Rattle.std.specs.List.{list_all, AllByRecursion}
use Rattle.std.specs.Char.{is_ascii_digit}
use Rattle.std.specs.Str.Parse.{digits_value}
use Rattle.tca_meters.specs.declared.any_meter.AnyMeter.{AnyMeter}
use Rattle.tca_meters.specs.declared.any_meter.AnyMeter.TheVariants.{SrTcm, TrTcm, Rfc4115}
use Rattle.tca_meters.specs.declared.fault.MeterFault.{MeterFault}
use Rattle.tca_meters.specs.declared.spec.SpecFault.{SpecFault}
use Rattle.tca_meters.specs.declared.spec.SpecFault.TheVariants.{Text, Meter}
use Rattle.tca_meters.specs.SrTcm.{srtcm_of}
use Rattle.tca_meters.specs.TrTcm.{trtcm_of}
use Rattle.tca_meters.specs.Rfc4115.{rfc4115_of}

-- one octet more at the front of the first part
abbrev pub onto_first : ℕ → List (List ℕ) → List (List ℕ)
onto_first c [] = (c ∷ []) ∷ []
onto_first c (part ∷ parts) = (c ∷ part) ∷ parts

-- what stands between the colons of a text
unfoldable pub parts_of : List ℕ → List (List ℕ)
parts_of [] = [] ∷ []
parts_of (c ∷ cs) = if c == 58 then [] ∷ parts_of cs else onto_first c (parts_of cs)

-- a part of a text has no colon
abbrev pub IsPart : List ℕ → Type 0
IsPart part = list_all (λ c. not (c == 58)) part ≡ true

-- these parts, with a colon between each two
unfoldable pub with_colons : List (List ℕ) → List ℕ
with_colons [] = []
with_colons (part ∷ []) = part
with_colons (part ∷ next ∷ parts) = part ++ (58 ∷ with_colons (next ∷ parts))

-- the parts of a text make it, with colons between, and are parts
abbrev pub PartsMakeText : Type 0
PartsMakeText = (text : List ℕ) → (with_colons (parts_of text) ≡ text) × AllByRecursion IsPart (parts_of text)

-- and no others do
abbrev pub OnlyParts : Type 0
OnlyParts = (parts : List (List ℕ)) → 1 ≤ length parts → AllByRecursion IsPart parts → parts_of (with_colons parts) ≡ parts

-- a number has 1 to 13 decimal digits
abbrev pub is_number : List ℕ → Bool
is_number text = nat_le 1 (length text) && (nat_le (length text) 13 && list_all is_ascii_digit text)

-- the value of a number
abbrev pub number_in : List ℕ → Option ℕ
number_in text = if is_number text then Some (digits_value 10 text) else None

-- a part that is one of two words, as the answer to whether it is the second
abbrev pub one_of : List ℕ → List ℕ → List ℕ → Option Bool
one_of first second text = if bytes_eq text first then Some false else (if bytes_eq text second then Some true else None)

-- whether precolours count
abbrev pub mode_in : List ℕ → Option Bool
mode_in = one_of (codes "blind") (codes "aware")

-- whether a packet may take all tokens of a bucket
abbrev pub fit_in : List ℕ → Option Bool
fit_in = one_of (codes "below") (codes "exact")

-- of what could be read
infixl 10 ◌>>=◌
abbrev pub ◌>>=◌ : {A B : Type 0} → Option A → (A → Option B) → Option B
read >>= f = option_and_then f read

-- a meter of one kind as one of any
abbrev pub as_any : {M : Type 0} → (M → AnyMeter) → Result M MeterFault → Result AnyMeter MeterFault
as_any kind (Ok meter) = Ok (kind meter)
as_any kind (Err fault) = Err fault

-- what follows the name of RFC 2697: the committed rate, the committed and the excess burst size, and the mode
abbrev pub srtcm_in : List (List ℕ) → Option (Result AnyMeter MeterFault)
srtcm_in (cir ∷ cbs ∷ ebs ∷ mode ∷ []) = do
  cir ← number_in cir
  cbs ← number_in cbs
  ebs ← number_in ebs
  aware ← mode_in mode
  Some (as_any SrTcm (srtcm_of cir cbs ebs aware))
srtcm_in _ = None

-- what follows the name of RFC 2698: the peak rate and burst size, the committed rate and burst size, and the mode
abbrev pub trtcm_in : List (List ℕ) → Option (Result AnyMeter MeterFault)
trtcm_in (pir ∷ pbs ∷ cir ∷ cbs ∷ mode ∷ []) = do
  pir ← number_in pir
  pbs ← number_in pbs
  cir ← number_in cir
  cbs ← number_in cbs
  aware ← mode_in mode
  Some (as_any TrTcm (trtcm_of pir pbs cir cbs aware))
trtcm_in _ = None

-- what follows the name of RFC 4115: the committed rate and burst size, the excess rate and burst size, the fit and the mode
abbrev pub rfc4115_in : List (List ℕ) → Option (Result AnyMeter MeterFault)
rfc4115_in (cir ∷ cbs ∷ eir ∷ ebs ∷ fit ∷ mode ∷ []) = do
  cir ← number_in cir
  cbs ← number_in cbs
  eir ← number_in eir
  ebs ← number_in ebs
  exact_fit ← fit_in fit
  aware ← mode_in mode
  Some (as_any Rfc4115 (rfc4115_of cir cbs eir ebs exact_fit aware))
rfc4115_in _ = None

-- the first part is the meter's name
abbrev pub meter_in : List (List ℕ) → Option (Result AnyMeter MeterFault)
meter_in (name ∷ parts) =
    if bytes_eq name (codes "rfc2697") then srtcm_in parts
    else (if bytes_eq name (codes "rfc2698") then trtcm_in parts
    else (if bytes_eq name (codes "rfc4115") then rfc4115_in parts
    else None))
meter_in [] = None

-- the meter of a form that the text has, or its fault as one of the text
abbrev pub as_spec : Option (Result AnyMeter MeterFault) → Result AnyMeter SpecFault
as_spec (Some (Ok meter)) = Ok meter
as_spec (Some (Err fault)) = Err (Meter fault)
as_spec None = Err Text

-- the meter that a text names, or why it names none
abbrev pub spec_in : List ℕ → Result AnyMeter SpecFault
spec_in text = as_spec (meter_in (parts_of text))
