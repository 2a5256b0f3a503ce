-- Why replicas don't close, or don't agree.
use Rattle.std.specs.Prelude.{List}
use Rattle.tca_gossip.specs.Replicas.{ReplicaView}
use Rattle.tca_ingest.specs.Entries.{EntryView}
use Rattle.tca_ingest.specs.Passes.{PassView, AreMissing, IsDiffering}
use Rattle.tca_ingest.specs.Closed.{IsLeastClash}
use Rattle.tca_ingest.specs.declared.fault.CloseFault.{CloseFault}
use Rattle.tca_ingest.specs.declared.fault.CloseFault.TheVariants.{Missing, Differs, Clash}

-- what each fault says of a journal and the passes that were given
abbrev pub IsCloseFault : List EntryView → List PassView → CloseFault → Type 0
IsCloseFault journal passes (Missing counted given) = AreMissing journal passes counted given
IsCloseFault journal passes (Differs pass) = IsDiffering journal passes pass
IsCloseFault journal passes (Clash origin) = ⊥

-- closed replicas are refused for a clash alone
abbrev pub IsClashFault : List ReplicaView → CloseFault → Type 0
IsClashFault vs (Missing counted given) = ⊥
IsClashFault vs (Differs pass) = ⊥
IsClashFault vs (Clash origin) = IsLeastClash vs origin
