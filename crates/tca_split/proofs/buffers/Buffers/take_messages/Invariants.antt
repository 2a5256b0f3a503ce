use Rattle.std.proofs.Common.{◌≡◌, length}
use Rattle.tca_split.specs.inside.Buffering.{buffered, HasTaken, SameDomains}
use Rattle.tca_split.proofs.buffers.Buffers.take_messages.Given as goal

-- the messages so far were taken
abbrev pub invariant-loop-length : goal.invariant-loop-length
invariant-loop-length g l = record {
  same : SameDomains (buffered l.initial.self) (buffered l.self);
  taken : HasTaken l.octets l.rest (buffered l.initial.self) (g.F.Folder.files l.initial.folder) (buffered l.self) (g.F.Folder.files l.folder);
  calm : g.F.Folder.failures l.folder ≡ g.F.Folder.failures l.initial.folder;
}

abbrev pub decreases-loop-length : goal.decreases-loop-length
decreases-loop-length g l = length l.rest
