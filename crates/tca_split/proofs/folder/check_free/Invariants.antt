use Rattle.std.proofs.Common.{◌≡◌, ℕ, Some, None, true, take}
use Rattle.tca_split.specs.Surveys.{is_among}
use Rattle.tca_split.specs.Folders.{Files}
use Rattle.tca_split.proofs.folder.check_free.Given as goal

-- the first domains have no file
abbrev pub invariant-loop-domain : goal.invariant-loop-domain
invariant-loop-domain g l = record {
  same : g.F.Folder.files l.folder ≡ g.F.Folder.files l.initial.folder;
  free : (all : Files) → g.F.Folder.files l.initial.folder ≡ Some all → (d : ℕ) → is_among d (take l.domain-index l.domains) ≡ true → all d ≡ None;
  calm : g.F.Folder.failures l.folder ≡ g.F.Folder.failures l.initial.folder;
}
