-- The faults of an audit by number.
use Rattle.std.specs.Prelude.{ℕ}
use Rattle.tca_audit.specs.declared.fault.AuditFault.{AuditFault}
use Rattle.tca_audit.specs.declared.fault.AuditFault.TheVariants.{Plan, Export, Memory}

-- the number of each fault
abbrev pub audit_number : AuditFault → ℕ
audit_number (Plan f) = 1
audit_number (Export f) = 2
audit_number Memory = 3
