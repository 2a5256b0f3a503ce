-- How `add` ends once its sum is made.
use Rattle.std.proofs.Common.{◌≡◌, ℕ, List, Result, Ok, Err, OnOk, IfErr, subst}
use Rattle.tca_figures.specs.Figures.{Stated}
use Rattle.tca_figures.specs.Lines.{statement_octets}
use Rattle.tca_figures.specs.Totals.{IsSumOf}
use Rattle.tca_program.specs.Devices.{Device, IsCutOff, Receives}
use Rattle.tca_program.specs.Unions.{write_refusal}
use Rattle.tca_program.specs.declared.fault.RunFault.{RunFault}
use Rattle.tca_program.proofs.Refusing.{cut_off}
use Rattle.tcatool.specs.Added.{IsAddCutOff, IsAddDone, IsAddRefused, IsSumRefused}

module _ (texts : List (List ℕ)) (sum : Stated) (text : List ℕ) (old new : Device) (sum_is : IsSumOf texts sum) (is : text ≡ statement_octets sum) where
  pub adds : (r : Result (Unit {0}) RunFault) → OnOk r (Receives text old new) → OnOk r (IsAddDone texts old new)
  adds (Ok x) written = record { sum = sum; sum_is = sum_is; written = subst (λ octets. Receives octets old new) is written }
  adds (Err e) none = tt

  -- a write failed
  pub adds_in_part : (r : Result (Unit {0}) RunFault) → IfErr r (λ e. (e ≡ write_refusal) × IsCutOff text old new) → IfErr r (IsAddRefused texts old new)
  adds_in_part (Ok x) none = tt
  adds_in_part (Err e) cut =
      cut_off (IsSumRefused texts) (IsAddCutOff texts) old new e cut.0
      (record { sum = sum; sum_is = sum_is; part = subst (λ octets. IsCutOff octets old new) is cut.1 })
