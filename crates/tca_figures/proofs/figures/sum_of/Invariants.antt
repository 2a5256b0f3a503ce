use Rattle.std.proofs.Common.{◌≡◌, take}
use Rattle.tca_figures.specs.Figures.{AllFit64, all_of}
use Rattle.tca_figures.proofs.figures.sum_of.Given as goal

abbrev pub invariant-loop-span : goal.invariant-loop-span
invariant-loop-span l = (l.sum ≡ all_of (take l.span-index l.spans)) × AllFit64 l.sum
