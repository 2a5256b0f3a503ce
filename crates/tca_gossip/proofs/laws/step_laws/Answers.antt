use Rattle.tca_gossip.proofs.Deltas.{delta_runs}
use Rattle.tca_gossip.specs.Runs.{summary_count}
use Rattle.tca_gossip.proofs.Places.{shows_at, replica_at}
use Rattle.tca_gossip.proofs.Members.{take_step}
use Rattle.tca_gossip.proofs.Answering.{ask_step, answer_step, counts_are}
use Rattle.tca_gossip.proofs.Arriving.{deliver_step}
use Rattle.tca_gossip.proofs.MergesInWorlds.{merge_step, merge_itself, no_clash}
use Rattle.tca_gossip.proofs.Starts.{coupled_opened, run_more}
use Rattle.tca_gossip.specs.Coupling.{counts_of}
use Rattle.tca_gossip.proofs.laws.step_laws.Goals as goal

pub returns : goal.returns
returns c = record {
  starts = coupled_opened;
  take = take_step;
  ask = λ m w i v coupled at can. ask_step m w i v (counts_of v.chains) coupled at can (λ o. counts_are v.chains o (replica_at m w i v coupled at).rises);
  answer = λ m w i v number said coupled at there can proper. answer_step m w i v number said coupled at there can (delta_runs (summary_count said) v.chains proper);
  deliver = deliver_step;
  merge = λ eq itself exact m w i j v u coupled at other apart. (no_clash eq itself m u.name v u coupled.world (shows_at m w i v coupled at) (shows_at m w j u coupled other) (replica_at m w j u coupled other).rises, merge_step eq itself exact m w i j v u coupled at other apart);
  itself = merge_itself;
  more = run_more;
}
