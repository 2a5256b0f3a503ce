use Rattle.std.proofs.Common.{◌≡◌, ◌+◌, ◌<◌, ◌≤◌, ℕ, List, Some, length, vec_capacity, vec_len}
use Rattle.tca_wire.specs.Frames.{Holds}
use Rattle.tca_split.specs.inside.Buffering.{buffered, SameDomains, HasRead}
use Rattle.tca_split.proofs.buffers.Buffers.take_all.Given as goal

-- what was read so far was taken, each turn by one read, and nothing failed
abbrev pub invariant-loop-turn : goal.invariant-loop-turn
invariant-loop-turn g l = record {
  room : length l.piece.items ≡ 65536;
  few : vec_len l.held < 65536;
  space : 131071 ≤ vec_capacity l.held;
  same : SameDomains (buffered l.initial.self) (buffered l.self);
  so_far : (octets : List ℕ) → g.R.Read.left l.initial.reader ≡ Some octets
      → HasRead octets (g.R.Read.left l.reader) (Holds l.held.items) (buffered l.initial.self) (g.F.Folder.files l.initial.folder) (buffered l.self) (g.F.Folder.files l.folder);
  calm : g.F.Folder.failures l.folder ≡ g.F.Folder.failures l.initial.folder;
  quiet : g.R.Read.failures l.reader ≡ g.R.Read.failures l.initial.reader;
  turns : g.R.Read.reads l.reader ≡ g.R.Read.reads l.initial.reader + l._turn;
}
