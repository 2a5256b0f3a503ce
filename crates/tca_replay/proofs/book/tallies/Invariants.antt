use Rattle.std.proofs.Common.{◌≡◌, take}
use Rattle.std.specs.Prelude.{map}
use Rattle.tca_replay.specs.Books.{lane_tally}
use Rattle.tca_replay.proofs.book.tallies.Given as goal

abbrev pub invariant-loop-lane : goal.invariant-loop-lane
invariant-loop-lane g l = l.list.items ≡ map lane_tally (take l.lane-index l.lanes)
