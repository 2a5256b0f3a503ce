use Rattle.std.proofs.Common.{◌≡◌, ◌≤◌, ◌+◌, ◌-◌, ◌*◌, length}
use Rattle.std.specs.Io.KnownBytes.{Consumes}
use Rattle.tca_report.proofs.device.octets.read_all.Given as goal

-- each read took at least one octet and at most a buffer, and nothing failed
abbrev pub invariant-loop-from : goal.invariant-loop-from
invariant-loop-from g l = record {
  taken : Consumes (g.R.Read.left l.initial.from.reader.now) (g.R.Read.left l.from.reader.now) l.octets.items;
  quiet : g.R.Read.failures l.from.reader.now ≡ g.R.Read.failures l.initial.from.reader.now;
  counted : g.R.Read.reads l.from.reader.now ≡ g.R.Read.reads l.initial.from.reader.now + (l.initial.from.reads_left - l.from.reads_left);
  same_reader : l.from.reader.ghost_name ≡ l.initial.from.reader.ghost_name;
  spent : l.from.reads_left ≤ l.initial.from.reads_left;
  least : l.initial.from.reads_left - l.from.reads_left ≤ length l.octets.items;
  most : length l.octets.items ≤ length l.initial.buffer * (l.initial.from.reads_left - l.from.reads_left);
}

abbrev pub decreases-loop-from : goal.decreases-loop-from
decreases-loop-from g l = l.from.reads_left
