-- What the command `meter` prints, and what it is refused for.
use Rattle.std.specs.Prelude.{◌≡◌, ℕ, false, List, Result, Ok, Err, IsOk, None}
use Rattle.tca_join.specs.Results.{◌>>=◌}
use Rattle.tca_report.specs.report.Reports.{PacketReport}
use Rattle.tca_meters.specs.declared.colour.Colour.TheVariants.{Green}
use Rattle.tca_meters.specs.declared.spec.SpecFault.{SpecFault}
use Rattle.tca_meters.specs.Packets.{colours}
use Rattle.tca_meters.specs.declared.any_meter.AnyMeter.{AnyMeter}
use Rattle.tca_meters.specs.AnyMeters.{any_rule}
use Rattle.tca_meters.specs.Faults.{spec_number}
use Rattle.tca_meters.specs.MeterSpecs.{spec_in}
use Rattle.tca_log.specs.Disputes.{undisputed}
use Rattle.tca_accounts.specs.Sums.{packet_of, sums_of}
use Rattle.tca_report.specs.input.Inputs.{InputView}
use Rattle.tca_program.specs.declared.fault.RunFault.{RunFault}
use Rattle.tca_program.specs.declared.fault.Family.TheVariants as family
use Rattle.tca_program.specs.Devices.{Device, IsCutOff, Receives}
use Rattle.tca_commands.specs.Texts.{meter_text}
use Rattle.tca_program.specs.Outcomes.{IsCommandRefused}
use Rattle.tca_program.specs.Unions.{IsInTurn, IsRefusedAs, IsUnion, is_family, is_write, refusal, united}

-- the lines of a set: the sums of its undisputed reports in order, with the colours that the meter gives them from time 0 on,
-- where the precolour of a code point that has none is green
abbrev pub metered_lines : AnyMeter → List PacketReport → List ℕ
metered_lines meter rs = meter_text (sums_of (colours (any_rule meter) (packet_of Green) (undisputed rs)))

-- a spec's meter, or its fault as a refusal
abbrev pub meter_or_refusal : {M : Type 0} → Result M SpecFault → Result M RunFault
meter_or_refusal (Ok meter) = Ok meter
meter_or_refusal (Err fault) = Err (refusal None family.Spec (spec_number fault))

-- the lines for a spec and inputs, or the first refusal: of the spec, then of the inputs in order
abbrev pub metering : List ℕ → List InputView → Result (List ℕ) RunFault
metering spec inputs = meter_or_refusal (spec_in spec) >>= (λ meter. united inputs >>= (λ rs. Ok (metered_lines meter rs)))

-- These are the lines for a spec and inputs: the spec names a meter, each input is a log export or a capture, and the lines are
-- those of the union of them all.
pub record AreMeterLines (spec : List ℕ) (inputs : List InputView) (lines : List ℕ) : Type 0 where
  pub meter : AnyMeter
  pub named : spec_in spec ≡ Ok meter
  pub reports : List PacketReport
  pub union : IsUnion inputs reports
  pub lines_are : lines ≡ metered_lines meter reports

-- The lines were written.
pub record IsMeterDone (spec : List ℕ) (inputs : List InputView) (old new : Device) : Type 0 where
  pub lines : List ℕ
  pub due : AreMeterLines spec inputs lines
  pub written : Receives lines old new

-- Of the lines only a part went out.
pub record IsMeterCutOff (spec : List ℕ) (inputs : List InputView) (old new : Device) : Type 0 where
  pub lines : List ℕ
  pub due : metering spec inputs ≡ Ok lines
  pub part : IsCutOff lines old new

-- Why there are no lines: the first refusal that is due, the spec's before those of the inputs in order, also where memory ran out.
pub record IsMeterUnmade (spec : List ℕ) (inputs : List InputView) (e : RunFault) : Type 0 where
  pub due : IsRefusedAs e (metering spec inputs)
  pub spec_first : is_family e.family family.Spec ≡ false → IsOk (spec_in spec)
  pub turn : is_family e.family family.Spec ≡ false → IsInTurn inputs e
  pub no_write : is_write e ≡ false

-- what a refusal is, and what it leaves of the device
abbrev pub IsMeterRefused : List ℕ → List InputView → Device → Device → RunFault → Type 0
IsMeterRefused spec inputs = IsCommandRefused (IsMeterUnmade spec inputs) (IsMeterCutOff spec inputs)
