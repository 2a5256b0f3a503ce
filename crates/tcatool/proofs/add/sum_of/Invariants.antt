use Rattle.std.proofs.Common.{◌∷◌, take}
use Rattle.tca_figures.specs.Totals.{IsSumOf}
use Rattle.tcatool.specs.Added.{texts_of}
use Rattle.tcatool.proofs.add.sum_of.Given as goal

abbrev pub invariant-loop-before : goal.invariant-loop-before
invariant-loop-before l = IsSumOf (l.first ∷ take l.before (texts_of l.others)) l.sum
