use Rattle.tca_meters.proofs.Apart.{are_apart, in_turn, is_plain}
use Rattle.tca_meters.proofs.Terms.{have_times}
use Rattle.tca_meters.proofs.termed.terms_apart.Goals as goal

pub returns-clause-times : goal.returns-clause-times
returns-clause-times g c = λ m h time. have_times m h time

pub returns-clause-apart : goal.returns-clause-apart
returns-clause-apart g c = λ m packet_of is items h. are_apart m packet_of is items h

pub returns-clause-in_turn : goal.returns-clause-in_turn
returns-clause-in_turn g c = λ m packet_of is items h. in_turn m packet_of is items h

pub returns-clause-plain : goal.returns-clause-plain
returns-clause-plain g c = λ first packet_of items. is_plain first packet_of items
