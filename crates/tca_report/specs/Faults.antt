-- The numbers that stand for faults in a program's messages.
use Rattle.std.specs.Prelude.{ℕ}
use Rattle.tca_report.specs.declared.device.octets.ReadFault.{ReadFault}
use Rattle.tca_report.specs.declared.device.octets.ReadFault.TheVariants as read
use Rattle.tca_report.specs.declared.export.ExportFault.{ExportFault}
use Rattle.tca_report.specs.declared.export.ExportFault.TheVariants as export
use Rattle.tca_report.specs.declared.input.extraction.NotReport.{NotReport}
use Rattle.tca_report.specs.declared.input.extraction.NotReport.TheVariants as reason
use Rattle.tca_report.specs.declared.input.InputFault.{InputFault}
use Rattle.tca_report.specs.declared.input.InputFault.TheVariants as input

abbrev pub read_number : ReadFault → ℕ
read_number read.Read = 1
read_number read.Turns = 2
read_number read.Memory = 3

abbrev pub export_number : ExportFault → ℕ
export_number export.Magic = 1
export_number (export.Version v) = 2
export_number export.Count = 3
export_number export.Cut = 4
export_number (export.Range n) = 5
export_number (export.Order n) = 6
export_number export.Memory = 7

abbrev pub reason_number : NotReport → ℕ
reason_number reason.Options = 1
reason_number reason.NoTime = 2
reason_number reason.NoSize = 3
reason_number reason.BadTime = 4
reason_number reason.BadSize = 5
reason_number reason.BadDscp = 6
reason_number reason.FieldLength = 7

abbrev pub input_number : InputFault → ℕ
input_number (input.Export fault) = 1
input_number (input.Wire at fault) = 2
input_number (input.Decode at fault) = 3
input_number input.Memory = 4
