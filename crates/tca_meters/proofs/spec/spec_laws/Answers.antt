use Rattle.tca_meters.proofs.SpecParts.{parts_make_text, only_parts}
use Rattle.tca_meters.proofs.spec.spec_laws.Goals as goal

pub returns-clause-parts : goal.returns-clause-parts
returns-clause-parts c = parts_make_text

pub returns-clause-only : goal.returns-clause-only
returns-clause-only c = only_parts
