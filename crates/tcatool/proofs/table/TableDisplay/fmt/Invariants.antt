use Rattle.std.proofs.Common.{◌∷◌, take}
use Rattle.std.specs.Fmt.{HasWritten, IsPlainFormatter}
use Rattle.std.specs.List.{flat_map}
use Rattle.tca_figures.specs.Lines.{octets_of}
use Rattle.tcatool.specs.Table.{account_rows, header_row}
use Rattle.tcatool.proofs.table.TableDisplay.fmt.Given as goal

abbrev pub invariant-loop-account : goal.invariant-loop-account
invariant-loop-account g l = IsPlainFormatter l.fn.f → HasWritten g.W.Write.write_str_gives l.fn.f
    (octets_of (header_row ∷ flat_map (account_rows l.period) (take l.account-index l.accounts))) l.f
