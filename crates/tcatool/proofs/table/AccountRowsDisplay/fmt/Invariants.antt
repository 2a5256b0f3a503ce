use Rattle.std.proofs.Common.{◌∷◌, map, take}
use Rattle.std.specs.Fmt.{HasWritten, IsPlainFormatter}
use Rattle.tca_figures.specs.Lines.{octets_of}
use Rattle.tcatool.specs.Table.{span_row, total_row}
use Rattle.tcatool.proofs.table.AccountRowsDisplay.fmt.Given as goal

abbrev pub invariant-loop-span : goal.invariant-loop-span
invariant-loop-span g l = IsPlainFormatter l.fn.f → HasWritten g.W.Write.write_str_gives l.fn.f
    (octets_of (total_row l.self.account.now ∷ map (span_row l.period l.name) (take l.span-index l.spans))) l.f
