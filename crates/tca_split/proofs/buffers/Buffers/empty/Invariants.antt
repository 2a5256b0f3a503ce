use Rattle.std.proofs.Common.{◌≡◌, ℕ, List, [], Some, true, take}
use Rattle.tca_split.specs.Surveys.{is_among}
use Rattle.tca_split.specs.inside.Buffering.{buffered, Takes, SameDomains}
use Rattle.tca_split.proofs.buffers.Buffers.empty.Given as goal

-- the buffers of the first domains are empty
abbrev pub invariant-loop-domain : goal.invariant-loop-domain
invariant-loop-domain g l = record {
  same : SameDomains (buffered l.initial.self) (buffered l.self);
  taken : Takes [] (buffered l.initial.self) (g.F.Folder.files l.initial.folder) (buffered l.self) (g.F.Folder.files l.folder);
  emptied : (d : ℕ) (kept : List ℕ) → is_among d (take l.domain-index l.domains) ≡ true → buffered l.self d ≡ Some kept → kept ≡ [];
  calm : g.F.Folder.failures l.folder ≡ g.F.Folder.failures l.initial.folder;
}
