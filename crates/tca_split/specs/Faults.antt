-- Why a capture isn't split.
use Rattle.tca_wire.specs.declared.fault.WireFault.{WireFault}
use Rattle.tca_wire.specs.declared.fault.WireFault.TheVariants as wire
use Rattle.tca_split.specs.declared.fault.SplitFault.{SplitFault}
use Rattle.tca_split.specs.declared.fault.SplitFault.TheVariants.{Wire, Memory}

-- the fault of a capture's framing, or want of memory
abbrev pub framing_fault : WireFault → SplitFault
framing_fault wire.Memory = Memory
framing_fault wire.Short = Wire wire.Short
framing_fault (wire.BadVersion v) = Wire (wire.BadVersion v)
framing_fault (wire.BadLength n) = Wire (wire.BadLength n)
framing_fault (wire.SetLength at) = Wire (wire.SetLength at)
framing_fault (wire.SetPastEnd at) = Wire (wire.SetPastEnd at)
framing_fault (wire.Trailing at) = Wire (wire.Trailing at)
