use Rattle.std.proofs.Common.{length, ◌-◌, ◌≡◌, ◌≤◌, take}
use Rattle.tca_split.specs.Folders.{Lengthens}
use Rattle.tca_split.proofs.folder.append_all.Given as goal

-- the octets before `done` were written, and nothing failed
abbrev pub invariant-loop-done : goal.invariant-loop-done
invariant-loop-done g l = record {
  within : l.done ≤ length l.octets;
  written : Lengthens l.domain (take l.done l.octets) (g.F.Folder.files l.initial.folder) (g.F.Folder.files l.folder);
  calm : g.F.Folder.failures l.folder ≡ g.F.Folder.failures l.initial.folder;
}

abbrev pub decreases-loop-done : goal.decreases-loop-done
decreases-loop-done g l = length l.octets - l.done
