use Rattle.std.proofs.Math.Facts.{Fits-lt-pow}
use Rattle.tca_wire.proofs.Walking.{gives_err}
use Rattle.tca_report.specs.export.Reading.{reading}
use Rattle.tca_report.specs.export.FirstFaults.{IsFaultyExport}
use Rattle.tca_report.specs.declared.export.ExportFault.{ExportFault}
use Rattle.tca_report.specs.declared.export.ExportFault.TheVariants.{Memory}
use Rattle.tca_report.proofs.lemmas.export.Spelling.{found_spelled, only_spelled}
use Rattle.tca_report.proofs.lemmas.export.FirstFaults.{export_fault, answers_fault, spells_some}
use Rattle.tca_report.proofs.export.reading.read_export.Goals as goal

pub returns-clause-found : goal.returns-clause-found
returns-clause-found c = found_spelled (λ v. v.items) c.read_whole.result c.args.octets.now (λ i. Fits-lt-pow (c.type_inv.octets i)) c.read_whole.ensures.exact

pub returns-clause-only : goal.returns-clause-only
returns-clause-only c = only_spelled (λ v. v.items) c.read_whole.result c.args.octets.now c.read_whole.ensures.exact

pub returns-clause-first : goal.returns-clause-first
returns-clause-first c =
    gives_err Memory (λ v. v.items) (λ (f : ExportFault). IsFaultyExport c.args.octets.now f) c.read_whole.result (reading c.args.octets.now)
    (λ f e. export_fault c.args.octets.now f (λ i. Fits-lt-pow (c.type_inv.octets i)) e) c.read_whole.ensures.exact

pub returns-clause-refused : goal.returns-clause-refused
returns-clause-refused c = answers_fault (λ v. v.items) c.read_whole.result c.args.octets.now c.read_whole.ensures.exact c.read_whole.ensures.memory

pub returns-clause-memory : goal.returns-clause-memory
returns-clause-memory c = λ memory. spells_some c.args.octets.now (λ i. Fits-lt-pow (c.type_inv.octets i)) (c.read_whole.ensures.memory memory)
