use Rattle.std.proofs.Common.{◌≡◌, ◌≤◌, ◌+◌, ◌*◌, ◌++◌, codes, length, map, take}
use Rattle.std.specs.List.{flat_map}
use Rattle.tcatool.specs.Csv.{cell_text}
use Rattle.tcatool.proofs.cell.append_line.Given as goal

-- the fields so far, with the commas between
abbrev pub invariant-loop-other : goal.invariant-loop-other
invariant-loop-other l = record {
  fields : l.buffer.items ≡ l.fn.buffer.items ++ (cell_text l.first ++ flat_map (λ o. codes "," ++ o) (map cell_text (take l.other-index l.others)));
  room : length l.buffer.items ≤ length l.fn.buffer.items + (32 + 33 * l.other-index);
}
