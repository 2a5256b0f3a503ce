-- The numbers that stand for faults in a program's messages.
use Rattle.std.specs.Prelude.{ℕ}
use Rattle.tca_wire.specs.declared.fault.WireFault.{WireFault}
use Rattle.tca_wire.specs.declared.fault.WireFault.TheVariants as wire

-- the number of each fault
abbrev pub wire_number : WireFault → ℕ
wire_number wire.Short = 1
wire_number (wire.BadVersion v) = 2
wire_number (wire.BadLength n) = 3
wire_number (wire.SetLength at) = 4
wire_number (wire.SetPastEnd at) = 5
wire_number (wire.Trailing at) = 6
wire_number wire.Memory = 7
