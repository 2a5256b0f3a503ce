use Rattle.std.proofs.Common.{◌≡◌, ◌++◌, ℕ, List, take}
use Rattle.tca_program.specs.Devices.{Receives, device}
use Rattle.tcatool.specs.Csv.{csv_text}
use Rattle.tcatool.proofs.row.put_rows.Given as goal

-- what went out, and what waits, are the header and the lines of the rows so far
abbrev pub invariant-loop-row : goal.invariant-loop-row
invariant-loop-row g l =
    (sent : List ℕ)
    × (sent ++ l.buffer.items ≡ csv_text l.header (g.T.Row.line l.common) (take l.row-index l.rows))
    × Receives sent (device g.W.Write.written g.W.Write.failures l.initial.out) (device g.W.Write.written g.W.Write.failures l.out)
