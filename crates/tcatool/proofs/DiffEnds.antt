-- How a `diff` ends: before its rows are made, and then.
use Rattle.std.proofs.Common.{◌≡◌, true, false, IsOk, Ok, Some, [], List, inr, refl, subst}
use Rattle.tca_report.specs.input.Inputs.{InputView, read_input}
use Rattle.tca_report.specs.report.Reports.{PacketReport}
use Rattle.tca_program.specs.Devices.{Device, IsCutOff, Receives}
use Rattle.tca_program.specs.Unions.{IsRefusedAs, MayLackMemory, is_log_memory, is_memory, is_write, memory_refusal, with_input, write_refusal}
use Rattle.tca_program.specs.declared.fault.RunFault.{RunFault}
use Rattle.tcatool.specs.Csv.{csv_text}
use Rattle.tca_program.proofs.Refusing.{cut_off}
use Rattle.tcatool.specs.Diffed.{IsComparingRefused, IsDiffCutOff, IsDiffDone, IsDiffRefused, IsDifference, compared, diff_header, diff_line}
use Rattle.tcatool.specs.declared.diff.Differences.{Differences}
use Rattle.tcatool.specs.declared.diff.LoneReport.{LoneReport}

module _ (a b : InputView) (old new : Device) (rows : List LoneReport) (counts : Differences) (told : IsDifference a b rows counts) where
  -- all rows went out
  pub all_out : Receives (csv_text diff_header diff_line rows) old new → IsDiffDone a b old new counts
  all_out written = record {
    first = told.first;
    first_is = told.first_is;
    second = told.second;
    second_is = told.second_is;
    written = subst (λ (rs : List LoneReport). Receives (csv_text diff_header diff_line rs) old new) told.rows_are written;
    counts = told.counts_are;
  }

  -- a write failed
  pub cut_short : (e : RunFault) → e ≡ write_refusal → IsCutOff (csv_text diff_header diff_line rows) old new → IsDiffRefused a b old new e
  cut_short e is part =
      cut_off (IsComparingRefused a b) (IsDiffCutOff a b) old new e is
      (record {
        sets = (told.first, told.second);
        due = told.due;
        part = subst (λ (rs : List LoneReport). IsCutOff (csv_text diff_header diff_line rs) old new) told.rows_are part;
      })

-- the second input is refused, where the first was taken
pub second_refused : (a b : InputView) (first : List PacketReport) (e : RunFault) → with_input 0 [] (read_input a) ≡ Ok first → IsRefusedAs e (with_input 1 [] (read_input b)) → e.input ≡ Some 1 → is_write e ≡ false
    → (is_log_memory e ≡ true → IsOk (with_input 1 [] (read_input b))) → (is_memory e ≡ true → MayLackMemory b) → IsComparingRefused a b e
second_refused a b first e taken due named no_write log_memory memory_last = record {
  due = λ no. rw taken (rw (due no) refl);
  turn = rw named (inr (refl, rw taken refl, record { log_memory = log_memory; memory_last = memory_last }));
  no_write = no_write;
}

-- want of memory where both were taken
pub lacks_memory : (a b : InputView) (sets : List PacketReport × List PacketReport) → compared a b ≡ Ok sets → IsComparingRefused a b memory_refusal
lacks_memory a b sets taken = record { due = λ no. absurd cc; turn = rw taken refl; no_write = refl }
