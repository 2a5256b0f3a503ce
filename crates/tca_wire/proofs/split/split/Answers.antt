use Rattle.std.proofs.Common.{rules, ap, sym, ◌∙◌}
use Rattle.tca_wire.specs.Messages.{message_of, sets_of}
use Rattle.tca_wire.proofs.Tiles.{sets_found}
use Rattle.tca_wire.proofs.split.split.Goals as goal

pub invariant_of-result-clause-tiled : goal.invariant_of-result-clause-tiled
invariant_of-result-clause-tiled c = sets_found _ c.in_ok-sets.sets.items (ap sets_of (sym c.split_at.ensures.back) ∙ sym (sym c.in_ok-sets.ensures.exact))

pub returns-then-octets-lt16-clause-exact : goal.returns-then-octets-lt16-clause-exact
unfolding message_of
returns-then-octets-lt16-clause-exact c = search rules

pub returns-in_err-header-clause-exact : goal.returns-in_err-header-clause-exact
unfolding message_of
returns-in_err-header-clause-exact c = search rules

pub returns-then-octets-length-clause-exact : goal.returns-then-octets-length-clause-exact
unfolding message_of
returns-then-octets-length-clause-exact c = search rules

pub returns-in_err-sets-clause-exact : goal.returns-in_err-sets-clause-exact
unfolding message_of
returns-in_err-sets-clause-exact c = search rules

pub returns-in_err-sets-clause-last : goal.returns-in_err-sets-clause-last
unfolding message_of
returns-in_err-sets-clause-last c = search rules

pub returns-clause-exact : goal.returns-clause-exact
unfolding message_of
returns-clause-exact c = search rules
