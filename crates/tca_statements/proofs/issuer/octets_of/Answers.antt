use Rattle.tca_meters.specs.declared.colour.Colour.TheVariants.{Green, Yellow, Red}
use Rattle.tca_statements.proofs.OctetLimits.{amount_is, amount_limits, octets_fit}
use Rattle.tca_statements.proofs.issuer.octets_of.Goals as goal

pub overflow_cast-result : goal.overflow_cast-result
overflow_cast-result c = octets_fit c.args.sums.now c.octets.ensures.range c.octets.result c.octets.ensures.value Green

pub overflow_cast-result-2 : goal.overflow_cast-result-2
overflow_cast-result-2 c = octets_fit c.args.sums.now c.octets.ensures.range c.octets.result c.octets.ensures.value Yellow

pub overflow_cast-result-3 : goal.overflow_cast-result-3
overflow_cast-result-3 c = octets_fit c.args.sums.now c.octets.ensures.range c.octets.result c.octets.ensures.value Red

pub returns-clause-value : goal.returns-clause-value
returns-clause-value c = amount_is c.args.sums.now c.octets.ensures.range c.octets.result c.octets.ensures.value

pub returns-clause-range : goal.returns-clause-range
returns-clause-range c = amount_limits c.args.sums.now c.octets.ensures.range c.octets.result c.octets.ensures.value
