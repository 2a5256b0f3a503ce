use Rattle.tca_meters.proofs.SpecParts.{split_parts}
use Rattle.tca_meters.proofs.spec.split_part.Goals as goal

pub returns : goal.returns
returns c = split_parts c.args.text.now c.split_once.result c.split_once.ensures.cases
