use Rattle.std.proofs.Common.{◌≡◌, ◌≤◌, take, map, length}
use Rattle.std.specs.Vec.{vec_capacity, vec_len}
use Rattle.tca_gossip.specs.Machines.{Machine}
use Rattle.tca_gossip.specs.Coupling.{IsCoupled, RunsTo}
use Rattle.tca_gossip.specs.Worlds.{step_view, reply_view}
use Rattle.tca_gossip.proofs.world.World.run.Given as goal

abbrev pub invariant-loop-step : goal.invariant-loop-step
invariant-loop-step l = record {
  run : (m : Machine) → IsCoupled m l.fn.self → RunsTo m (map step_view (take l.step-index l.steps)) (map reply_view l.replies.items) l.self;
  plan : l.self.plan ≡ l.fn.self.plan;
  count : vec_len l.replies ≡ l.step-index;
  room : length l.steps ≤ vec_capacity l.replies;
}
