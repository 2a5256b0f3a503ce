-- Refusals of a run, by the fault that they are of.
use Rattle.std.proofs.Common.{◌≡◌, ℕ, None, refl}
use Rattle.tca_gossip.specs.Answers.{absorb_number}
use Rattle.tca_gossip.specs.declared.fault.AbsorbFault.{AbsorbFault}
use Rattle.tca_ingest.specs.Faults.{close_number, share_number, work_number}
use Rattle.tca_ingest.specs.declared.fault.CloseFault.{CloseFault}
use Rattle.tca_ingest.specs.declared.fault.ShareFault.{ShareFault}
use Rattle.tca_ingest.specs.declared.fault.WorkFault.{WorkFault}
use Rattle.tca_ingest.specs.declared.fault.WorkFault.TheVariants.{Stranger}
use Rattle.tca_program.specs.declared.fault.RunFault.{RunFault}
use Rattle.tca_program.specs.declared.fault.Family.{Family}
use Rattle.tca_program.specs.declared.fault.Family.TheVariants as family
use Rattle.tca_commands.specs.Replicated.{IsReadingNumber, IsReadingRefused, IsExchangeNumber, IsExchangeRefused, stranger_refusal}
use Rattle.tca_program.specs.Unions.{refusal}

pub of_share : (e : RunFault) (fault : ShareFault) → e ≡ refusal None family.Share (share_number fault) → IsReadingRefused e
of_share e fault is = rw is (refl, (fault, refl))

pub of_work : (e : RunFault) (fault : WorkFault) → e ≡ refusal None family.Work (work_number fault) → IsReadingRefused e
of_work e fault is = rw is (refl, (fault, refl))

pub of_close : (e : RunFault) (fault : CloseFault) → e ≡ refusal None family.Close (close_number fault) → IsReadingRefused e
of_close e fault is = rw is (refl, (fault, refl))

pub of_absorb : (e : RunFault) (fault : AbsorbFault) → e ≡ refusal None family.Absorb (absorb_number fault) → IsExchangeRefused e
of_absorb e fault is = rw is (refl, (fault, refl))

pub of_stranger : (e : RunFault) → e ≡ stranger_refusal → IsReadingRefused e
of_stranger e is = rw is (refl, (Stranger 0, refl))

reading_number : (f : Family) (n : ℕ) → IsReadingNumber f n → IsExchangeNumber f n
reading_number family.Read n h = absurd h
reading_number family.Export n h = absurd h
reading_number family.Wire n h = absurd h
reading_number family.Decode n h = absurd h
reading_number family.Plan n h = absurd h
reading_number family.Spec n h = absurd h
reading_number family.Log n h = absurd h
reading_number family.Share n h = h
reading_number family.Work n h = h
reading_number family.Close n h = h
reading_number family.Absorb n h = absurd h
reading_number family.Statement n h = absurd h
reading_number family.Limits n h = absurd h
reading_number family.Write n h = absurd h
reading_number family.Memory n h = h

-- what is refused while inputs are read is refused in the run
pub in_run : (e : RunFault) → IsReadingRefused e → IsExchangeRefused e
in_run e h = (h.0, reading_number e.family e.number h.1)
