-- The texts of refusals.
use Rattle.std.specs.Prelude.{ℕ, List, ◌++◌, codes}
use Rattle.std.specs.Fmt.{decimal}
use Rattle.tca_program.specs.declared.fault.Family.{Family}
use Rattle.tca_program.specs.declared.fault.Family.TheVariants as family
use Rattle.tca_program.specs.declared.fault.RunFault.{RunFault}

-- the name of a family
abbrev pub family_name : Family → List ℕ
family_name family.Read = codes "read"
family_name family.Export = codes "export"
family_name family.Wire = codes "wire"
family_name family.Decode = codes "decode"
family_name family.Plan = codes "plan"
family_name family.Spec = codes "spec"
family_name family.Log = codes "log"
family_name family.Share = codes "share"
family_name family.Work = codes "work"
family_name family.Close = codes "close"
family_name family.Absorb = codes "absorb"
family_name family.Statement = codes "statement"
family_name family.Limits = codes "limits"
family_name family.Write = codes "write"
family_name family.Memory = codes "memory"

-- the family and the number
abbrev pub fault_text : RunFault → List ℕ
fault_text e = family_name e.family ++ (codes " " ++ decimal e.number)
