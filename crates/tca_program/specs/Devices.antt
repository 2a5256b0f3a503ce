-- What goes out to the devices that a command writes to.
use Rattle.std.proofs.Common.{inl, inr}
use Rattle.std.specs.Prelude.{◌≡◌, ◌<◌, ◌⊎◌, ℕ, List, length, take, Option, Some, None, option_map}
use Rattle.std.specs.Borrow.{MutBor}
use Rattle.std.specs.Io.KnownBytes.{Appends}
use Rattle.tca_report.specs.device.Devices.{Rises}

-- a device as it stands: the octets that went out to it, where they are known, and how many of its calls have failed
pub record Device : Type 0 where
  pub written : Option (List ℕ)
  pub failures : ℕ

-- a writer as a device
abbrev pub device : {W : Type 0} → (W → Option (List ℕ)) → (W → ℕ) → W → Device
device written failures w = record { written = written w; failures = failures w }

-- a writer that may be given, as it comes in
abbrev pub before : {V : Type 0} → (V → Device) → Option (MutBor V) → Option Device
before seen writer = option_map (λ w. seen w.now) writer

-- and as it is left
abbrev pub after : {V : Type 0} → (V → Device) → Unit {0} ⊎ ((MutBor V × Unit {0}) ⊎ ⊥) → Option Device
after seen (inl none) = None
after seen (inr (inl writer)) = Some (seen writer.0.now)
after seen (inr (inr never)) = None

-- all these octets went out to a device, and no call of it failed
pub record Receives (octets : List ℕ) (old new : Device) : Type 0 where
  pub written : Appends old.written new.written octets
  pub calm : new.failures ≡ old.failures

-- a write of these octets failed: fewer than all of them went out, and the count of failures rises
pub record IsCutOff (octets : List ℕ) (old new : Device) : Type 0 where
  pub count : ℕ
  pub short : count < length octets
  pub written : Appends old.written new.written (take count octets)
  pub failed : Rises old.failures new.failures

-- the same of a device, if it was given
abbrev pub ReceivesIfGiven : List ℕ → Option Device → Option Device → Type 0
ReceivesIfGiven octets None None = Unit {0}
ReceivesIfGiven octets (Some old) (Some new) = Receives octets old new
ReceivesIfGiven octets None (Some new) = ⊥
ReceivesIfGiven octets (Some old) None = ⊥

-- a device was given, and a write of these octets to it failed
abbrev pub IsCutOffIfGiven : List ℕ → Option Device → Option Device → Type 0
IsCutOffIfGiven octets (Some old) (Some new) = IsCutOff octets old new
IsCutOffIfGiven octets None new = ⊥
IsCutOffIfGiven octets (Some old) None = ⊥
