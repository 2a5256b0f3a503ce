use Rattle.std.proofs.Common.{arith, ap}
use Rattle.std.specs.BTreeMap.{is_at}
use Rattle.std.specs.List.{list_any}
use Rattle.std.specs.Ordering.{nat_cmp}
use Rattle.tca_split.specs.Parts.{domains_of}
use Rattle.tca_split.proofs.survey.Survey.new.Goals as goal

pub returns : goal.returns
unfolding domains_of
returns c = record { domains = c.new.ensures.items; known = λ d. ap (list_any (is_at (nat_cmp d))) c.new-2.ensures.empty; few = omega arith; count = omega arith }
