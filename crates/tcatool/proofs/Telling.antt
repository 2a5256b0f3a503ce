-- How a command that tells of a statement ends once the text is made.
use Rattle.std.proofs.Common.{◌≡◌, ℕ, List, Result, Ok, Err, OnOk, IfErr}
use Rattle.tca_figures.specs.Figures.{Stated}
use Rattle.tca_figures.specs.Lines.{IsTextOf}
use Rattle.tca_program.specs.Devices.{Device, IsCutOff, Receives}
use Rattle.tca_program.specs.Unions.{write_refusal}
use Rattle.tca_program.specs.declared.fault.RunFault.{RunFault}
use Rattle.tca_program.proofs.Refusing.{cut_off}
use Rattle.tcatool.specs.Told.{HasNoText, IsTold, IsToldInPart, IsUntold}

module _ (text : Stated → List ℕ → Type 0) (octets : List ℕ) (s : Stated) (t : List ℕ) (old new : Device) (read : IsTextOf octets s) (is : text s t) where
  pub tells : (r : Result (Unit {0}) RunFault) → OnOk r (Receives t old new) → OnOk r (IsTold text octets old new)
  tells (Ok x) written = record { stated = s; read = read; told = t; is = is; written = written }
  tells (Err e) none = tt

  pub tells_in_part : (r : Result (Unit {0}) RunFault) → IfErr r (λ e. (e ≡ write_refusal) × IsCutOff t old new) → IfErr r (IsUntold text octets old new)
  tells_in_part (Ok x) none = tt
  tells_in_part (Err e) cut =
      cut_off (HasNoText octets) (IsToldInPart text octets) old new e cut.0
      (record { stated = s; read = read; told = t; text_is = is; part = cut.1 })
