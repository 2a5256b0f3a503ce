use Rattle.std.proofs.Common.{◌≡◌, take}
use Rattle.tca_split.specs.Folders.{Creates}
use Rattle.tca_split.proofs.folder.create_all.Given as goal

-- a file of each of the first domains was made
abbrev pub invariant-loop-domain : goal.invariant-loop-domain
invariant-loop-domain g l = record {
  made : Creates (take l.domain-index l.domains) (g.F.Folder.files l.initial.folder) (g.F.Folder.files l.folder);
  calm : g.F.Folder.failures l.folder ≡ g.F.Folder.failures l.initial.folder;
}
