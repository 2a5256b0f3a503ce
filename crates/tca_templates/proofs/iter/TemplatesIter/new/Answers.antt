use Rattle.std.proofs.Common.{ap, arith, length, ◌∙◌}
use Rattle.tca_templates.specs.Templates.{listed}
use Rattle.tca_templates.specs.Fields.{entries_of}
use Rattle.tca_templates.specs.inside.Slotted.{filled}
use Rattle.tca_templates.proofs.Stored.{length-templates, length-listed}
use Rattle.tca_templates.proofs.SlotLaws.{filled_few}
use Rattle.tca_templates.proofs.iter.TemplatesIter.new.Goals as goal

pub returns-clause-list : goal.returns-clause-list
returns-clause-list c = ap (λ ss. listed (entries_of (filled ss))) c.iter.ensures.rest ∙ ap (λ es. listed (entries_of es)) c.as_slice.ensures

pub returns-clause-fits : goal.returns-clause-fits
returns-clause-fits c =
    let ss = c.as_slice.result.now in
    let all = ap (λ ts. length (listed (entries_of (filled ts)))) c.iter.ensures.rest in
    omega (arith, all, length-listed (entries_of (filled ss)), length-templates (filled ss), filled_few ss, c.as_slice.type_inv.1)
